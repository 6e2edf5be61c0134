-- An operator in a term: whether it may stand where a sort is expected, and the sorts that it wants behind it.
use mathlib.Core.Path.{◌≡◌, refl, sym, ap, ◌∙◌}
use mathlib.Core.List.{List, [], ◌∷◌}
use Prim.Native.Nat.{ℕ, suc, ◌+◌, ◌-◌, ◌<◌, ◌≤◌}
use native.Mathlib.Omega.{arith}
use lib.Dec.{eqb}
use lib.ListN.{length, get_or, drop}
use Rattle.pcrl.specs.Sheet.{Sig, Func, Operation, operation, first_equal, function, function_at}
use Rattle.pcrl.specs.Sorts.{IsOperation, IsFunc}
use Rattle.pcrl.specs.Stream.{function_code}
use Rattle.pcrl.specs.Decode.{Node, node_of, code_limit, Fits, wants}
use Rattle.laws.specs.Says.{Says, says_as, says_eq}
use Rattle.laws.specs.Operations.{Seen, as_written, as_not, as_and, as_or, as_equal, as_unsorted, as_none, seen, equal_number}
use Rattle.codec.specs.TermLaws as terms
use Rattle.terms.specs.Fitting.{NextFits}
use Rattle.terms.proofs.NextNode.{no_code, found_here, fits_here, equal_here, no_sort, found_equal, fits_none, fits_next}

node_operator : (b : ℕ) → 0x60 ≤ b → node_of b ≡ Node.function (b - function_code)
node_operator b h = let z : b ≡ function_code + (b - function_code) = omega arith in ap node_of z ∙ terms.node_function (b - function_code)

module _ (S : Sig) (b : ℕ) (from : 0x60 ≤ b) (other : ¬ (b ≡ 0x61)) (code : b < code_limit) where
  -- an operator but `==` is there, and gives Bool
  operator_there : IsFunc S (b - function_code) × ((function_at S (b - function_code)).gives ≡ 0)
  unfolding function_at IsOperation function
  operator_there = go (operation (b - function_code)) (seen (b - function_code))
    where
      go : (o : Operation) → Seen (b - function_code) o → IsOperation S o × ((function S o).gives ≡ 0)
      go (Operation.written f) (as_written l) = absurd (omega arith)
      go Operation.not (as_not e) = (tt, refl)
      go Operation.and (as_and e) = (tt, refl)
      go Operation.or (as_or e) = (tt, refl)
      go (Operation.equal D) (as_equal E e) = absurd (omega arith)
      go Operation.unsorted (as_unsorted e) = absurd (other (omega arith))
      go Operation.unsorted (as_none l m) = absurd (omega arith)

  -- `!` takes one Bool, the others two
  takes_one : b ≡ 0x60 → (function_at S (b - function_code)).takes ≡ 0 ∷ []
  unfolding function_at function
  takes_one is = go (operation (b - function_code)) (seen (b - function_code))
    where
      go : (o : Operation) → Seen (b - function_code) o → (function S o).takes ≡ 0 ∷ []
      go (Operation.written f) (as_written l) = absurd (omega arith)
      go Operation.not (as_not e) = refl
      go Operation.and (as_and e) = absurd (omega arith)
      go Operation.or (as_or e) = absurd (omega arith)
      go (Operation.equal D) (as_equal E e) = absurd (omega arith)
      go Operation.unsorted (as_unsorted e) = absurd (omega arith)
      go Operation.unsorted (as_none l m) = absurd (omega arith)

  takes_two : ¬ (b ≡ 0x60) → (function_at S (b - function_code)).takes ≡ 0 ∷ (0 ∷ [])
  unfolding function_at function
  takes_two is = go (operation (b - function_code)) (seen (b - function_code))
    where
      go : (o : Operation) → Seen (b - function_code) o → (function S o).takes ≡ 0 ∷ (0 ∷ [])
      go (Operation.written f) (as_written l) = absurd (omega arith)
      go Operation.not (as_not e) = absurd (is (omega arith))
      go Operation.and (as_and e) = refl
      go Operation.or (as_or e) = refl
      go (Operation.equal D) (as_equal E e) = absurd (omega arith)
      go Operation.unsorted (as_unsorted e) = absurd (other (omega arith))
      go Operation.unsorted (as_none l m) = absurd (omega arith)

equal_function : (S : Sig) (D : ℕ) → function_at S (first_equal + D) ≡ function S (Operation.equal D)
unfolding function_at
equal_function S D = ap (function S) (equal_number D)

-- THE ANSWERS OF `operator_fits`, AT A PLACE

module _ (S : Sig) (Γ s : List ℕ) (i d : ℕ) (h : i < length s) where
  module _ (other : ¬ (get_or s i 0 ≡ 0x61)) where
    pub fits_operator : 0x60 ≤ get_or s i 0 → get_or s i 0 < code_limit → Says (eqb d 0) (NextFits S Γ d (drop i s))
    unfolding Fits
    fits_operator l k =
        let b : ℕ = get_or s i 0 in
        let t = operator_there S b l other k in
        fits_here s i h other S Γ d (eqb d 0) k (rw (node_operator b l) (says_as (eqb d 0) (λ y. (t.0, t.1 ∙ sym y)) (λ y. sym y.1 ∙ t.1) (says_eq d 0)))

    pub no_operator : code_limit ≤ get_or s i 0 → ¬ NextFits S Γ d (drop i s)
    no_operator l = fits_none S Γ d (drop i s) (no_code s i h other l)

  -- `==`, its sort at j
  module _ (equal : get_or s i 0 ≡ 0x61) (j : ℕ) (z : j ≡ suc i) where
    pub equal_last : length s ≤ j → ¬ NextFits S Γ d (drop i s)
    equal_last k = fits_none S Γ d (drop i s) (no_sort s i j h equal z k)

    module _ (sizes : List ℕ) (known : sizes ≡ S.sorts) (k : j < length s) where
      pub no_equal : length sizes ≤ get_or s j 0 → ¬ NextFits S Γ d (drop i s)
      unfolding Fits IsOperation
      no_equal l x =
          let y : Fits S Γ d (Node.function (first_equal + get_or s j 0)) = rw (found_equal s i j h equal z x.node x.rest x.next).0 at x.fits in
          let w : IsOperation S (Operation.equal (get_or s j 0)) = rw (equal_number (get_or s j 0)) at y.0 in
          omega (arith, ap length known, w)

      pub fits_equal : get_or s j 0 < length sizes → Says (eqb d 0) (NextFits S Γ d (drop i s))
      unfolding Fits IsOperation function
      fits_equal l =
          let D : ℕ = get_or s j 0 in
          let t : IsFunc S (first_equal + D) = rw (equal_number D) (rw known at l) in
          let g : (function_at S (first_equal + D)).gives ≡ 0 = ap (λ (f : Func). f.gives) (equal_function S D) in
          fits_next S Γ d (drop i s) (eqb d 0) (Node.function (first_equal + D)) (drop (suc j) s) (equal_here s i j h equal z k) (says_as (eqb d 0) (λ y. (t, g ∙ sym y)) (λ y. sym y.1 ∙ g) (says_eq d 0))

  -- THE ANSWERS OF `operands`
  module _ (k : NextFits S Γ d (drop i s)) where
    module _ (other : ¬ (get_or s i 0 ≡ 0x61)) where
      node_there : 0x60 ≤ get_or s i 0 → wants S Γ k.node ≡ (function_at S (get_or s i 0 - function_code)).takes
      unfolding wants
      node_there l = rw ((found_here s i h other k.node k.rest k.next).is, node_operator (get_or s i 0) l)

      pub wants_not : get_or s i 0 ≡ 0x60 → wants S Γ k.node ≡ 0 ∷ []
      wants_not e = node_there (omega arith) ∙ takes_one S (get_or s i 0) (omega arith) other (found_here s i h other k.node k.rest k.next).code e

      pub wants_both : 0x60 ≤ get_or s i 0 → ¬ (get_or s i 0 ≡ 0x60) → wants S Γ k.node ≡ 0 ∷ (0 ∷ [])
      wants_both l e = node_there l ∙ takes_two S (get_or s i 0) l other (found_here s i h other k.node k.rest k.next).code e

    pub wants_equal : (j : ℕ) → get_or s i 0 ≡ 0x61 → j ≡ suc i → wants S Γ k.node ≡ get_or s j 0 ∷ (get_or s j 0 ∷ [])
    unfolding wants function
    wants_equal j e z = rw (found_equal s i j h e z k.node k.rest k.next).0 (ap (λ (f : Func). f.takes) (equal_function S (get_or s j 0)))
