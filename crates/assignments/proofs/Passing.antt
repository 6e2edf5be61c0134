-- The numbers that pass a test, from j on: a stretch of which none passes is gone over, one of which all pass is counted.
use mathlib.Core.Path.{◌≡◌, refl, sym, ◌∙◌, ap, ap₂, subst}
use mathlib.Core.List.{List, [], ◌∷◌}
use mathlib.Core.Bool.{Bool, true, false}
use mathlib.Core.Option.{some}
use Prim.Native.Nat.{ℕ, zero, suc, ◌+◌, ◌-◌, ◌≤◌, ◌<◌}
use native.Mathlib.Nat.{sub-zero}
use native.Mathlib.Omega.{arith}
use lib.Dec.{ltb}
use lib.ListN.{length, get_elem?}
use borrow.Author.Tests.{ltb-true, ltb-false}
use Rattle.assignments.specs.Places.{places}
use Rattle.std.specs.Prelude.{Result, Ok, Err}
use Rattle.assignments.specs.Conditions.{Finds}

module _ (acc : ℕ → Bool) (total : ℕ) where
  hit : (j : ℕ) → j < total → acc j ≡ true → places acc (total - j) j ≡ j ∷ places acc (total - (j + 1)) (j + 1)
  unfolding places
  hit j h e = let z : total - j ≡ suc (total - (j + 1)) = omega arith in rw (z, e) refl

  pub passed_end : (j : ℕ) → total ≤ j → places acc (total - j) j ≡ []
  unfolding places
  passed_end j h = let z : total - j ≡ 0 = omega arith in rw z refl

  skip_by : (g j : ℕ) → ((i : ℕ) → j ≤ i → i < j + g → acc i ≡ false) → places acc (total - j) j ≡ places acc (total - (j + g)) (j + g)
  unfolding places
  skip_by zero j h = let z : j + 0 ≡ j = omega arith in rw z refl
  skip_by (suc g) j h = go (ltb j total) refl (skip_by g (j + 1) (λ i b c. h i (omega arith) (omega arith)))
    where
      go : (t : Bool) → ltb j total ≡ t → places acc (total - (j + 1)) (j + 1) ≡ places acc (total - (j + 1 + g)) (j + 1 + g) → places acc (total - j) j ≡ places acc (total - (j + suc g)) (j + suc g)
      go true p ih =
          let l = ltb-true j total p in
          let z : total - j ≡ suc (total - (j + 1)) = omega arith in
          let w : j + 1 + g ≡ j + suc g = omega arith in
          let a : acc j ≡ false = h j (omega arith) (omega arith) in
          rw (z, a) (ih ∙ ap (λ (x : ℕ). places acc (total - x) x) w)
      go false p ih = let l = ltb-false j total p in passed_end j l ∙ sym (passed_end (j + suc g) (omega arith))

  pub none_pass : (j r : ℕ) → j ≤ r → ((i : ℕ) → j ≤ i → i < r → acc i ≡ false) → places acc (total - j) j ≡ places acc (total - r) r
  none_pass j r h g = let z : j + (r - j) ≡ r = omega arith in skip_by (r - j) j (λ i a b. g i a (omega arith)) ∙ ap (λ (x : ℕ). places acc (total - x) x) z

  nth_by : (g j k : ℕ) → j + g ≤ total → ((i : ℕ) → j ≤ i → i < j + g → acc i ≡ true) → k < g → get_elem? (places acc (total - j) j) k ≡ some (j + k)
  nth_by zero j k l h q = absurd (omega arith)
  nth_by (suc g) j zero l h q = let z : j ≡ j + 0 = omega arith in ap (λ (x : List ℕ). get_elem? x 0) (hit j (omega arith) (h j (omega arith) (omega arith))) ∙ ap some z
  nth_by (suc g) j (suc k) l h q =
      let z : j + 1 + k ≡ j + suc k = omega arith in
      ap (λ (x : List ℕ). get_elem? x (suc k)) (hit j (omega arith) (h j (omega arith) (omega arith))) ∙ nth_by g (j + 1) k (omega arith) (λ i a b. h i (omega arith) (omega arith)) (omega arith) ∙ ap some z

  on_by : (g j k : ℕ) → j + g ≤ total → ((i : ℕ) → j ≤ i → i < j + g → acc i ≡ true) → g ≤ k
      → (get_elem? (places acc (total - j) j) k ≡ get_elem? (places acc (total - (j + g)) (j + g)) (k - g)) × (length (places acc (total - j) j) ≡ g + length (places acc (total - (j + g)) (j + g)))
  on_by zero j k l h q = let z : j + 0 ≡ j = omega arith in let y : k - 0 ≡ k = omega arith in (rw (z, y) refl, rw z (omega arith))
  on_by (suc g) j zero l h q = absurd (omega arith)
  on_by (suc g) j (suc k) l h q =
      let z : j + 1 + g ≡ j + suc g = omega arith in
      let y : k - g ≡ suc k - suc g = omega arith in
      let e = hit j (omega arith) (h j (omega arith) (omega arith)) in
      let r = on_by g (j + 1) k (omega arith) (λ i a b. h i (omega arith) (omega arith)) (omega arith) in
      let m = rw z at r.1 in
      (ap (λ (x : List ℕ). get_elem? x (suc k)) e ∙ r.0 ∙ ap₂ (λ (x i : ℕ). get_elem? (places acc (total - x) x) i) z y, ap length e ∙ omega arith)

  -- THE SEARCH: k is asked for, of the numbers from `from` on; `left` of it is left at j

  module _ (from k : ℕ) where
    unfoldable pub Going : ℕ → ℕ → Type 0
    Going j left = (get_elem? (places acc (total - from) from) k ≡ get_elem? (places acc (total - j) j) left) × (k + length (places acc (total - j) j) ≡ left + length (places acc (total - from) from))

    pub going_start : Going from k
    unfolding Going
    going_start = (refl, refl)

    pub going_skip : (j left r : ℕ) → j ≤ r → ((i : ℕ) → j ≤ i → i < r → acc i ≡ false) → Going j left → Going r left
    unfolding Going
    going_skip j left r h g w = rw (none_pass j r h g) at w

    pub going_on : (j left r left' : ℕ) → j ≤ r → r ≤ total → ((i : ℕ) → j ≤ i → i < r → acc i ≡ true) → r - j ≤ left → left' ≡ left - (r - j) → Going j left → Going r left'
    unfolding Going
    going_on j left r left' h l g q e w =
        let z : j + (r - j) ≡ r = omega arith in
        let n = on_by (r - j) j left (omega arith) (λ i a b. g i a (omega arith)) q in
        let n0 = rw z at n.0 in
        let n1 = rw z at n.1 in
        (w.0 ∙ n0 ∙ ap (λ (x : ℕ). get_elem? (places acc (total - r) r) x) (sym e), omega (arith, w.1))

    pub going_found : (j left r at : ℕ) → j ≤ r → r ≤ total → ((i : ℕ) → j ≤ i → i < r → acc i ≡ true) → left < r - j → at ≡ j + left → Going j left → get_elem? (places acc (total - from) from) k ≡ some at
    unfolding Going
    going_found j left r at h l g q e w = w.0 ∙ nth_by (r - j) j left (omega arith) (λ i a b. g i a (omega arith)) q ∙ ap some (sym e)

    pub going_end : (j left : ℕ) → total ≤ j → Going j left → k ≡ left + length (places acc (total - from) from)
    unfolding Going
    going_end j left h w = let z : length (places acc (total - j) j) ≡ 0 = ap length (passed_end j h) in omega (arith, w.1)

    pub none_left : (j left : ℕ) → total ≤ j → Going j left → Finds (places acc (total - from) from) k (Err left)
    unfolding Finds
    none_left j left h w = going_end j left h w

  pub from_first : (k : ℕ) (o : Result ℕ ℕ) → Finds (places acc (total - 0) 0) k o → Finds (places acc total 0) k o
  from_first k o = subst (λ (x : ℕ). Finds (places acc x 0) k o) (sub-zero total)

  -- all pass
  module _ (k : ℕ) (all : (i : ℕ) → acc i ≡ true) where
    pub any_found : k < total → Finds (places acc total 0) k (Ok k)
    unfolding Finds
    any_found h = ap (λ (n : ℕ). get_elem? (places acc n 0) k) (sym (sub-zero total)) ∙ going_found 0 k 0 k total k (omega arith) (omega arith) (λ i a b. all i) (omega arith) (omega arith) (going_start 0 k)

    pub any_past : total ≤ k → Finds (places acc total 0) k (Err (k - total))
    any_past h = from_first k (Err (k - total)) (none_left 0 k total (k - total) (omega arith) (going_on 0 k 0 k total (k - total) (omega arith) (omega arith) (λ i a b. all i) (omega arith) (omega arith) (going_start 0 k)))
