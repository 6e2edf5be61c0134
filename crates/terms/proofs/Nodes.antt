-- A value, a variable or a written function in a term: whether it may stand where a sort is expected, and the sorts that it wants behind it.
use mathlib.Core.Path.{◌≡◌, refl, sym, ap, ◌∙◌}
use mathlib.Core.List.{List, [], ◌∷◌}
use mathlib.Core.Bool.{Bool, true, false}
use mathlib.Core.Option.{some}
use Prim.Native.Nat.{ℕ, ◌+◌, ◌-◌, ◌<◌, ◌≤◌}
use native.Mathlib.Omega.{arith}
use lib.Dec.{ltb, eqb}
use lib.ListN.{length, get_or}
use borrow.Author.Tests.{ltb-true, ltb-false}
use Rattle.pcrl.specs.Limits.{max_arity}
use Rattle.pcrl.specs.Tests.{Between}
use Rattle.pcrl.specs.Sheet.{Sig, Func, no_func, written, not_number, size, func, function_at}
use Rattle.pcrl.specs.Sorts.{IsOperation, IsFunc}
use Rattle.pcrl.specs.Stream.{variable_code, function_code, encode_func}
use Rattle.pcrl.specs.Decode.{variable, function, node_of, Fits, wants}
use Rattle.laws.specs.Lists.{get_elem?_below, get_elem?_past}
use Rattle.laws.specs.Every.{every_at}
use Rattle.laws.specs.Says.{Says, says_as, says_lt, says_eq}
use Rattle.laws.specs.Operations.{written_number, written_function}
use Rattle.codec.specs.TermLaws as terms
use Rattle.terms.specs.Stands.{Stands, KnownData}
use Rattle.terms.proofs.Places.{stands_there, as_many, arity_at, takes_at, gives_at}

-- A BYTE'S NODE

node_variable : (b i : ℕ) → b ≡ variable_code + i → i < variable_code → node_of b ≡ variable i
node_variable b i e h = ap node_of e ∙ terms.node_variable i h

node_function : (b f : ℕ) → b ≡ function_code + f → node_of b ≡ function f
node_function b f e = ap node_of e ∙ terms.node_function f

-- THE ANSWERS OF `fits`

pub size_is : (S : Sig) (s sizes funcs : List ℕ) → KnownData S s sizes funcs → (d i x : ℕ) → i ≡ d → x ≡ get_or sizes i 0 → x ≡ size S d
unfolding size
size_is S s sizes funcs known d i x z e = e ∙ ap (λ (j : ℕ). get_or sizes j 0) z ∙ ap (λ (l : List ℕ). get_or l d 0) known.sizes_are

module _ (S : Sig) (Γ : List ℕ) (b d : ℕ) where
  pub fits_value : (x : ℕ) → x ≡ size S d → b < variable_code → Says (ltb b x) (Fits S Γ d (node_of b))
  unfolding Fits
  fits_value x z h = rw (terms.node_value b h) (says_as (ltb b x) (λ l. rw z at l) (λ l. rw (← z) at l) (says_lt b x))

  pub fits_variable : (x : ℕ) → x ≡ get_or Γ (b - variable_code) 0 → variable_code ≤ b → b < function_code → b - variable_code < length Γ → Says (eqb x d) (Fits S Γ d (node_of b))
  unfolding Fits
  fits_variable x e l h k =
      rw (node_variable b (b - variable_code) (omega arith) (omega arith), get_elem?_below Γ (b - variable_code) 0 k) (says_as (eqb x d) (λ q. ap some (sym e ∙ q)) (λ q. let z : get_or Γ (b - variable_code) 0 ≡ d = cc in e ∙ z) (says_eq x d))

  pub no_variable : variable_code ≤ b → b < function_code → length Γ ≤ b - variable_code → ¬ Fits S Γ d (node_of b)
  unfolding Fits
  no_variable l h k = rw (node_variable b (b - variable_code) (omega arith) (omega arith), get_elem?_past Γ (b - variable_code) k) (λ q. let z : ◌≡◌ {A = ℕ} 0 1 = cc in omega arith)

-- a written function
is_written : (S : Sig) (f : ℕ) → f < not_number → IsFunc S f → f < length S.funcs
unfolding IsOperation
is_written S f h k = let z : IsOperation S (written f) = rw (written_number f h) at k in z

written_is : (S : Sig) (f : ℕ) → f < not_number → f < length S.funcs → IsFunc S f
unfolding IsOperation
written_is S f h k = rw (written_number f h) k

-- a function by its place
module _ (S : Sig) (s sizes funcs : List ℕ) (known : KnownData S s sizes funcs) (f : ℕ) where
  pub function_stands : f < length funcs → Stands s (get_or funcs f 0) (encode_func (func S f))
  unfolding func
  function_stands h = let z = as_many encode_func s S.funcs funcs known.stand in stands_there encode_func s S.funcs funcs known.stand no_func f (omega arith)

  pub one_or_two : f < length S.funcs → Between 1 max_arity (length (func S f).takes)
  unfolding func
  one_or_two h = every_at (λ (g : Func). Between 1 max_arity (length g.takes)) S.funcs no_func f known.arity h

  module _ (Γ : List ℕ) (b d : ℕ) (is : b ≡ function_code + f) (small : f < not_number) where
    pub fits_function : (x : ℕ) → x ≡ get_or s (get_or funcs f 0 + 1 + get_or s (get_or funcs f 0) 0) 0 → f < length funcs → Says (eqb x d) (Fits S Γ d (node_of b))
    unfolding Fits
    fits_function x e h =
        let z : x ≡ (func S f).gives = e ∙ gives_at s (get_or funcs f 0) (func S f) (function_stands h) in
        let q = as_many encode_func s S.funcs funcs known.stand in
        let l : f < length S.funcs = omega arith in
        let w : (function_at S f).gives ≡ (func S f).gives = ap (λ (g : Func). g.gives) (written_function S f small) in
        rw (node_function b f is) (says_as (eqb x d) (λ y. (written_is S f small l, w ∙ sym z ∙ y)) (λ y. z ∙ sym w ∙ y.1) (says_eq x d))

    pub no_function : length funcs ≤ f → ¬ Fits S Γ d (node_of b)
    unfolding Fits
    no_function h = rw (node_function b f is) (λ y. let q = as_many encode_func s S.funcs funcs known.stand in let l = is_written S f small y.0 in omega arith)

-- THE ANSWERS OF `after`

one_sort : (l : List ℕ) → length l ≡ 1 → l ≡ get_or l 0 0 ∷ []
one_sort [] e = absurd (omega arith)
one_sort (x ∷ []) e = refl
one_sort (x ∷ (y ∷ l)) e = absurd (omega arith)

two_sorts : (l : List ℕ) → ¬ (length l ≡ 1) → Between 1 max_arity (length l) → l ≡ get_or l 0 0 ∷ (get_or l 1 0 ∷ [])
two_sorts [] n h = absurd (omega arith)
two_sorts (x ∷ []) n h = absurd (n refl)
two_sorts (x ∷ (y ∷ [])) n h = refl
two_sorts (x ∷ (y ∷ (z ∷ l))) n h = absurd (omega arith)

pub wants_none : (S : Sig) (Γ : List ℕ) (b : ℕ) → b < function_code → wants S Γ (node_of b) ≡ []
unfolding wants
wants_none S Γ b h = go (ltb b variable_code) refl
  where
    go : (t : Bool) → ltb b variable_code ≡ t → wants S Γ (node_of b) ≡ []
    go true e = rw (terms.node_value b (ltb-true b variable_code e))
    go false e = let k = ltb-false b variable_code e in rw (node_variable b (b - variable_code) (omega arith) (omega arith))

-- n, x, y: what is read at the function's place
module _ (S : Sig) (s sizes funcs : List ℕ) (known : KnownData S s sizes funcs) (Γ : List ℕ) (D b f n x : ℕ) (is : b ≡ function_code + f)
    (small : f < not_number) (fits : Fits S Γ D (node_of b)) (count : n ≡ get_or s (get_or funcs f 0) 0) (one : x ≡ get_or s (get_or funcs f 0 + 1) 0) where
  fits_there : f < length S.funcs
  unfolding Fits
  fits_there = let h : Fits S Γ D (function f) = rw (node_function b f is) at fits in is_written S f small h.0

  stands : Stands s (get_or funcs f 0) (encode_func (func S f))
  stands = let q = as_many encode_func s S.funcs funcs known.stand in let l = fits_there in function_stands S s sizes funcs known f (omega arith)

  some_sorts : Between 1 max_arity (length (func S f).takes)
  some_sorts = one_or_two S s sizes funcs known f fits_there

  sort_at : (i : ℕ) → i < length (func S f).takes → get_or s (get_or funcs f 0 + 1 + i) 0 ≡ get_or (func S f).takes i 0
  sort_at = takes_at s (get_or funcs f 0) (func S f) stands

  first_sort : x ≡ get_or (func S f).takes 0 0
  first_sort = let k = some_sorts in let z : get_or funcs f 0 + 1 ≡ get_or funcs f 0 + 1 + 0 = omega arith in one ∙ ap (λ (i : ℕ). get_or s i 0) z ∙ sort_at 0 (omega arith)

  same_sorts : (function_at S f).takes ≡ (func S f).takes
  same_sorts = ap (λ (g : Func). g.takes) (written_function S f small)

  pub wants_one : n ≡ 1 → wants S Γ (node_of b) ≡ x ∷ []
  unfolding wants
  wants_one e =
      rw (node_function b f is) (same_sorts ∙ one_sort (func S f).takes (sym (arity_at s (get_or funcs f 0) (func S f) stands) ∙ sym count ∙ e) ∙ ap (λ (y : ℕ). y ∷ []) (sym first_sort))

  pub wants_two : (y : ℕ) → y ≡ get_or s (get_or funcs f 0 + 2) 0 → ¬ (n ≡ 1) → wants S Γ (node_of b) ≡ x ∷ (y ∷ [])
  unfolding wants
  wants_two y two e =
      let a = arity_at s (get_or funcs f 0) (func S f) stands in
      let k = some_sorts in
      let z : get_or funcs f 0 + 2 ≡ get_or funcs f 0 + 1 + 1 = omega arith in
      let l : ¬ (length (func S f).takes ≡ 1) = λ w. e (count ∙ a ∙ w) in
      let v : 1 < length (func S f).takes = omega arith in
      let w : y ≡ get_or (func S f).takes 1 0 = two ∙ ap (λ (i : ℕ). get_or s i 0) z ∙ sort_at 1 v in
      rw (node_function b f is) (same_sorts ∙ two_sorts (func S f).takes l k ∙ cc (first_sort, w))
