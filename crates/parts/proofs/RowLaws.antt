-- A row written, and rows that stay.
use mathlib.Core.Path.{◌≡◌, refl, ◌∙◌}
use mathlib.Core.List.{List}
use Prim.Native.Nat.{ℕ, ◌+◌, ◌*◌, ◌/◌, ◌≤◌, ◌<◌}
use native.Mathlib.Omega.{arith}
use lib.ListN.{length, set, length-set}
use lib.Seq.{get_or-set_same, get_or-set_other}
use Rattle.nodes.specs.Layout.{cell_limit}
use Rattle.parts.specs.Rows.{RowsKept, RowPut}

pub kept_none : (rows : List ℕ) (k : ℕ) → RowsKept rows k rows
kept_none rows k = record { same = refl; below = λ j h. refl }

pub kept_then : (r s t : List ℕ) (k l : ℕ) → k ≤ l → RowsKept r k s → RowsKept s l t → RowsKept r k t
kept_then r s t k l h a b = record { same = b.same ∙ a.same; below = λ j i. b.below j (omega arith) ∙ a.below j i }

pub row_none : (rows : List ℕ) (k place scope bits : ℕ) → length rows / 3 ≤ k → RowPut rows k place scope bits rows
row_none rows k place scope bits h = record { kept = kept_none rows k; place_put = λ r l. absurd (omega arith); scope_put = λ r l. absurd (omega arith); bits_put = λ r. absurd (omega arith) }

pub row_written : (rows : List ℕ) (k place scope bits a b : ℕ) → k < length rows / 3 → (place < cell_limit → a ≡ place) → (scope < cell_limit → b ≡ scope)
    → RowPut rows k place scope bits (set (set (set rows (3 * k) a) (3 * k + 1) b) (3 * k + 2) bits)
row_written rows k place scope bits a b h ea eb =
    let i : ℕ = 3 * k in
    let r₁ : List ℕ = set rows i a in
    let r₂ : List ℕ = set r₁ (i + 1) b in
    let s₁ : length r₁ ≡ length rows = length-set rows i a in
    let s₂ : length r₂ ≡ length rows = length-set r₁ (i + 1) b ∙ s₁ in
    record {
      kept = record {
        same = length-set r₂ (i + 2) bits ∙ s₂;
        below = λ j l. get_or-set_other r₂ (i + 2) j bits 0 (λ z. omega arith) ∙ get_or-set_other r₁ (i + 1) j b 0 (λ z. omega arith) ∙ get_or-set_other rows i j a 0 (λ z. omega arith);
      };
      place_put = λ r l. get_or-set_other r₂ (i + 2) i bits 0 (λ z. omega arith) ∙ get_or-set_other r₁ (i + 1) i b 0 (λ z. omega arith) ∙ get_or-set_same rows i a 0 (omega arith) ∙ ea l;
      scope_put = λ r l. get_or-set_other r₂ (i + 2) (i + 1) bits 0 (λ z. omega arith) ∙ get_or-set_same r₁ (i + 1) b 0 (omega arith) ∙ eb l;
      bits_put = λ r. get_or-set_same r₂ (i + 2) bits 0 (omega arith);
    }
