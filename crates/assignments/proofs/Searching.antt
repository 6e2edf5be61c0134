-- The search with all conditions as one part, or in two parts, says what is found with all.
use mathlib.Core.Path.{◌≡◌, sym, ◌∙◌, ap, subst}
use mathlib.Core.List.{List}
use mathlib.Core.Bool.{Bool}
use Prim.Native.Nat.{ℕ, ◌+◌, ◌-◌, ◌*◌, ◌/◌, ◌%◌, ◌≤◌, ◌<◌, min}
use lib.ListN.{length, get_or, drop}
use Rattle.assignments.specs.Places.{product, digits_of, places}
use Rattle.std.specs.Prelude.{Result, Ok, Err, MatchResult}
use Rattle.assignments.specs.Conditions.{env, met, Ready, Finds}
use Rattle.assignments.specs.Parting.{part_met, Apart}
use Rattle.assignments.specs.declared.Parts.{Parts}
use Rattle.assignments.proofs.Blocks.{product_pos}
use Rattle.assignments.proofs.Periods.{met_again, whole_rounds}
use Rattle.assignments.proofs.TwoTests.{same_places, both, none_counted, both_none, both_found, both_past}
use Rattle.assignments.proofs.Separating.{all_met, both_met, late_above, early_constant}

module _ (s funcs froms ends blocks : List ℕ) (n p reach low : ℕ) (sizes a : List ℕ) (positive : (i : ℕ) → i < length sizes → 0 < get_or sizes i 0) (ready : (i : ℕ) → i < n → Ready s p sizes froms ends blocks reach low i) where
  abbrev all_at : ℕ → Bool
  all_at j = met s funcs froms ends n (env p a (digits_of sizes j))

  pub search_all : (k : ℕ) (o : Result ℕ ℕ) → Finds (places (λ j. part_met s funcs froms ends blocks n (env p a (digits_of sizes j))) (product sizes) 0) k o → Finds (places all_at (product sizes) 0) k o
  search_all k o f =
      subst (λ (l : List ℕ). Finds l k o) (same_places (λ j. part_met s funcs froms ends blocks n (env p a (digits_of sizes j))) all_at (product sizes) 0 (λ j h. all_met s p sizes froms ends blocks n reach low positive ready funcs (env p a (digits_of sizes j)))) f

  module _ (few : p ≤ length a) (r : Parts) (apart : Apart s p sizes froms ends blocks n r) (P : ℕ) (is_P : P ≡ product (drop (r.low - p) sizes)) where
    abbrev early_at : ℕ → Bool
    early_at j = part_met s funcs froms ends r.early n (env p a (digits_of sizes j))

    abbrev late_at : ℕ → Bool
    late_at j = part_met s funcs froms ends r.late n (env p a (digits_of sizes j))

    pub block_some : 0 < P
    block_some = subst (λ (x : ℕ). 0 < x) (sym is_P) (product_pos (r.low - p) sizes positive)

    again : (j : ℕ) → late_at (P + j) ≡ late_at j
    again j = ap (λ (x : ℕ). late_at (x + j)) is_P ∙ met_again p r.low sizes a few positive s funcs froms ends r.late n (late_above s p sizes froms ends blocks n reach low positive ready r apart) j

    constant : (t i : ℕ) → i < P → early_at (t * P + i) ≡ early_at (t * P)
    constant = early_constant s p sizes froms ends blocks n reach low positive ready r apart funcs a few P is_P

    whole : product sizes ≡ product sizes / P * P
    whole = subst (λ (x : ℕ). product sizes ≡ product sizes / x * x) (sym is_P) (whole_rounds (r.low - p) sizes positive).0

    of_both : (k : ℕ) (o : Result ℕ ℕ) → Finds (places (both P block_some late_at again early_at) (product sizes) 0) k o → Finds (places all_at (product sizes) 0) k o
    of_both k o f =
        subst (λ (l : List ℕ). Finds l k o) (same_places (both P block_some late_at again early_at) all_at (product sizes) 0 (λ j h. sym (both_met s p sizes froms ends blocks n reach low positive ready r apart funcs (env p a (digits_of sizes j))))) f

    pub parts_counted : (at : ℕ) → Finds (places late_at P 0) P (Ok at) → ⊥
    parts_counted = none_counted P block_some late_at again

    module _ (k left : ℕ) (counted : Finds (places late_at P 0) P (Err left)) (m : ℕ) (is_m : m ≡ P - left) where
      pub parts_none : m ≡ 0 → Finds (places all_at (product sizes) 0) k (Err k)
      parts_none z = of_both k (Err k) (both_none P block_some late_at again early_at constant (product sizes / P) (product sizes) whole k left counted m is_m z)

      module _ (some_late : 0 < m) (q : ℕ) (is_q : q ≡ min (k / m) (product sizes)) where
        pub parts_found : (at₂ : ℕ) → Finds (places early_at (product sizes) 0) (q * P) (Ok at₂) → (o : Result ℕ ℕ) → Finds (places late_at P 0) (k % m) o → MatchResult o (λ at₃. Finds (places all_at (product sizes) 0) k (Ok (at₂ + at₃))) (λ left₃. ⊥)
        parts_found at₂ second (Ok at₃) f =
            of_both k (Ok (at₂ + at₃)) (both_found P block_some late_at again early_at constant (product sizes / P) (product sizes) whole k left counted m is_m some_late q is_q at₂ second (Ok at₃) f)
        parts_found at₂ second (Err left₃) f =
            both_found P block_some late_at again early_at constant (product sizes / P) (product sizes) whole k left counted m is_m some_late q is_q at₂ second (Err left₃) f

        pub parts_past : (left₂ : ℕ) → Finds (places early_at (product sizes) 0) (q * P) (Err left₂) → Finds (places all_at (product sizes) 0) k (Err (k - (q * P - left₂) / P * m))
        parts_past left₂ second =
            of_both k (Err (k - (q * P - left₂) / P * m)) (both_past P block_some late_at again early_at constant (product sizes / P) (product sizes) whole k left counted m is_m some_late q is_q left₂ second)
