-- A part noted: its row, and its parameters, which are the marked ones of all 32 bits since the bits behind its scope are 0.
use mathlib.Core.Path.{◌≡◌, refl, sym, ap, ap₂, ◌∙◌}
use mathlib.Core.List.{List, [], ◌∷◌}
use mathlib.Core.Bool.{Bool, true, false}
use Prim.Native.Nat.{ℕ, zero, suc, ◌/◌, ◌%◌, ◌≤◌}
use native.Mathlib.Omega.{arith}
use lib.ListN.{length, take, drop}
use lib.Seq.{length-take-le}
use Rattle.pcrl.specs.Sheet.{Proc, delta, atom, alt, cond, sum, seq, call}
use Rattle.pcrl.specs.Parts.{marks, count, marked}
use Rattle.pcrl.specs.Stream.{encode_numbers}
use Rattle.nodes.specs.Bits.{odd, bit}
use Rattle.nodes.specs.Scoped.{max_scope, Scoped}
use Rattle.nodes.proofs.Bits.{zero_bit}
use Rattle.marking.specs.Marks.{bits, HighBits, Above, Marked}
use Rattle.std.specs.Prelude.{Option}
use Rattle.parts.specs.Behind.{PutsFrom}
use Rattle.parts.proofs.BehindLaws.{from_as}
use Rattle.parts.specs.Rows.{RowPut, part_params, params_bytes}
use Rattle.parts.specs.Walking.{Notes}

-- sums bind variables behind those in scope
pub scoped_above : (m n k : ℕ) (p : Proc) → n ≤ k → Scoped m k p → Above n p
unfolding Scoped Above
scoped_above m n k delta h s = tt
scoped_above m n k (atom a ds) h s = tt
scoped_above m n k (alt p q) h s = (scoped_above m n k p h s.0, scoped_above m n k q h s.1)
scoped_above m n k (cond c p q) h s = (scoped_above m n k p h s.1.0, scoped_above m n k q h s.1.1)
scoped_above m n k (sum x D p) h s = (omega (arith, s.0), scoped_above m n (suc k) p (omega arith) s.1.1)
scoped_above m n k (seq p q) h s = (scoped_above m n k p h s.0, scoped_above m n k q h s.1)
scoped_above m n k (call j ds) h s = tt

-- the bits of half the number
half_high : (n r : ℕ) → HighBits (suc n) 0 r → HighBits n 0 (r / 2)
unfolding bit
half_high n r h i k = h (suc i) (omega arith)

none_marked : (k r : ℕ) (xs : List ℕ) → HighBits 0 0 r → (marked (bits k r) xs ≡ []) × (count (bits k r) ≡ 0)
unfolding bits marked count bit
none_marked zero r xs h = (refl, refl)
none_marked (suc k) r xs h = go (odd (r % 2)) (h 0 (omega arith) ∙ zero_bit 0) xs (λ ys. none_marked k (r / 2) ys (λ i l. h (suc i) (omega arith)))
  where
    go : (b : Bool) → b ≡ false → (xs : List ℕ) → ((ys : List ℕ) → (marked (bits k (r / 2)) ys ≡ []) × (count (bits k (r / 2)) ≡ 0)) → (marked (b ∷ bits k (r / 2)) xs ≡ []) × (count (b ∷ bits k (r / 2)) ≡ 0)
    go false e [] f = (refl, (f []).1)
    go false e (x ∷ xs) f = f xs
    go true e xs f = absurd (let z : ◌≡◌ {A = ℕ} 0 1 = cc in omega arith)

-- where only the first n bits can be set, they say what is marked
pub high_marked : (k n r : ℕ) (xs : List ℕ) → n ≤ k → HighBits n 0 r → (marked (bits k r) xs ≡ marked (bits n r) (take n xs)) × (count (bits k r) ≡ count (bits n r))
unfolding bits marked count
high_marked k zero r xs l h = none_marked k r xs h
high_marked zero (suc n) r xs l h = absurd (omega arith)
high_marked (suc k) (suc n) r xs l h = go (odd (r % 2)) xs (λ ys. high_marked k n (r / 2) ys (omega arith) (half_high n r h))
  where
    go : (b : Bool) (xs : List ℕ) → ((ys : List ℕ) → (marked (bits k (r / 2)) ys ≡ marked (bits n (r / 2)) (take n ys)) × (count (bits k (r / 2)) ≡ count (bits n (r / 2))))
        → (marked (b ∷ bits k (r / 2)) xs ≡ marked (b ∷ bits n (r / 2)) (take (suc n) xs)) × (count (b ∷ bits k (r / 2)) ≡ count (b ∷ bits n (r / 2)))
    go true [] f = (refl, ap suc (f []).1)
    go false [] f = (refl, (f []).1)
    go true (x ∷ xs) f = (ap (λ (l : List ℕ). x ∷ l) (f xs).0, ap suc (f xs).1)
    go false (x ∷ xs) f = f xs

-- THE PART IS NOTED
pub note_put : (cells sorts rows o : List ℕ) (at n k : ℕ) (w : Option ℕ) (r : ℕ) (rows' o' : List ℕ) (w' : Option ℕ) → n ≤ max_scope → length sorts ≡ max_scope → Marked cells at n r → HighBits n 0 r → RowPut rows k at n r rows'
    → PutsFrom (encode_numbers (marked (bits max_scope r) sorts)) w o w' o' → Notes cells sorts rows o at n k w rows' o' w'
unfolding params_bytes part_params
note_put cells sorts rows o at n k w r rows' o' w' few size is high row put m p rest e scoped near =
    let scope : length (take n sorts) ≡ n = length-take-le n sorts (omega arith) in
    let same : bits n r ≡ marks n p = is true p rest e (scoped_above m n n p (omega arith) scoped) in
    let whole = high_marked max_scope n r sorts few high in
    let marks_are : marks n p ≡ marks (length (take n sorts)) p = ap (λ (j : ℕ). marks j p) (sym scope) in (
      λ room.
          let bits_put = row.bits_put room in
          record {
            place = (rest, ap (λ (j : ℕ). drop j cells) (row.place_put room near) ∙ e);
            scope = row.scope_put room (omega arith) ∙ sym scope;
            marks_are = ap₂ bits scope bits_put ∙ same ∙ marks_are;
            count_is = ap (λ (j : ℕ). count (bits max_scope j)) bits_put ∙ whole.1 ∙ ap count (same ∙ marks_are);
          },
      from_as w o w' o' (ap encode_numbers (whole.0 ∙ ap (λ (bs : List Bool). marked bs (take n sorts)) (same ∙ marks_are))) put,
    )
