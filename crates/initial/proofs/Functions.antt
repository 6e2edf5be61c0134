-- A function's values, by its arguments.
use mathlib.Core.Path.{◌≡◌, sym, ap, subst, ◌∙◌}
use mathlib.Core.List.{List, [], ◌∷◌}
use mathlib.Core.Option.{none-ne-some}
use Prim.Native.Nat.{ℕ, suc, ◌+◌, ◌*◌, ◌≤◌, ◌<◌}
use native.Mathlib.Nat.{mul-le-mul_right}
use native.Mathlib.Omega.{arith}
use lib.ListN.{length, get_or, get_elem?, get_or-append}
use lib.Seq.{get_or-drop}
use Rattle.pcrl.specs.Tests.{Every, Each}
use Rattle.pcrl.specs.Sheet.{Data, no_func, Func, Operation, operation, Sig, not_number, and_number, or_number, first_equal, size, func, function, function_at}
use Rattle.pcrl.specs.Sorts.{closed, IsOperation, IsFunc, HasSort, volume}
use Rattle.pcrl.specs.Values.{place, apply, eval}
use Rattle.pcrl.specs.Stack.{InSorts}
use Rattle.pcrl.specs.Right.{RightSizes, RightFunc, RightSig}
use Rattle.laws.specs.Every.{every_at}
use Rattle.laws.specs.Operations.{Seen, seen, written_function, right_function}
use Rattle.theory.specs.OperatorValues.{apply_not, apply_and, apply_or, apply_equal}
use Rattle.theory.specs.SortLaws.{wider_sort}
use Rattle.theory.specs.ValueSorts.{eval_in}
use Rattle.nodes.specs.Layout.{cell_limit, byte_limit}
use Rattle.nodes.specs.Held.{func_width, FuncAt}
use Rattle.initial.specs.Symbols.{looked_at, second_size, one_value, two_value}
use Rattle.initial.specs.Evaluating.{Known}
use Rattle.initial.proofs.Operating.{one_written, one_operator, by_equal, by_and, by_or, two_written, two_operated}

-- a place among a function's values
pub product_small : (a b : ℕ) → a < cell_limit → b < byte_limit → a * b ≤ cell_limit * byte_limit
product_small a b h k =
    let more : a * b ≤ cell_limit * b = mul-le-mul_right b (omega arith) in
    omega arith

-- what a function's table gives
abbrev by_table : Sig → Func → List ℕ → ℕ
by_table S g vs = get_or g.values (place S 0 g.takes vs) 0

module _ (S : Sig) (sizes funcs values places : List ℕ) (K : Known S sizes funcs values places) where
  right_funcs : Every (RightFunc S.sorts) S.funcs
  unfolding RightSig
  right_funcs = K.right.1.0.1

  right_sizes : RightSizes S.sorts
  unfolding RightSig
  right_sizes = K.right.0

  -- the value of a term is of its sort
  pub value_below : (d : Data) (D : ℕ) → HasSort S closed d D → eval S [] d < size S D
  unfolding InSorts Each
  value_below d D h = eval_in S right_sizes right_funcs [] [] tt d D (wider_sort S closed (get_elem? []) (λ i E e. absurd (none-ne-some E e)) d D h)

  module _ (f : ℕ) (known : f < length S.funcs) where
    at_function : FuncAt (func S f) funcs values places f
    at_function = K.held.func_at f (omega (arith, K.held.func_count))

    written_right : RightFunc S.sorts (func S f)
    unfolding func
    written_right = every_at (RightFunc S.sorts) S.funcs no_func f right_funcs known

    -- an element of its values
    element : (x : ℕ) → x < length (func S f).values → looked_at values places f x ≡ get_or (func S f).values x 0
    unfolding looked_at
    element x h =
        let (rest, e) = at_function.values_are in
        sym (get_or-drop (get_or places f 0) values x 0) ∙ ap (λ (l : List ℕ). get_or l x 0) e ∙ get_or-append (func S f).values rest 0 x h

    one_argument : (v D : ℕ) → (func S f).takes ≡ D ∷ [] → v < size S D → looked_at values places f v ≡ by_table S (func S f) (v ∷ [])
    unfolding RightFunc place volume size
    one_argument v D e h =
        let many : length (func S f).values ≡ volume S.sorts (D ∷ []) = written_right.1.1.0 ∙ ap (volume S.sorts) e in
        let at : v ≡ place S 0 (D ∷ []) (v ∷ []) = omega arith in
        element v (omega arith) ∙ ap (λ (x : ℕ). get_or (func S f).values x 0) at ∙ ap (λ (l : List ℕ). get_or (func S f).values (place S 0 l (v ∷ [])) 0) (sym e)

    two_arguments : (u v D E s : ℕ) → (func S f).takes ≡ D ∷ E ∷ [] → u < size S D → v < size S E → s ≡ size S E → looked_at values places f (u * s + v) ≡ by_table S (func S f) (u ∷ v ∷ [])
    unfolding RightFunc place volume size
    two_arguments u v D E s e h k z =
        let a = get_or S.sorts D 0 in
        let b = get_or S.sorts E 0 in
        let many : length (func S f).values ≡ a * (b * 1) = written_right.1.1.0 ∙ ap (volume S.sorts) e in
        let unit : b * 1 ≡ b = omega arith in
        let many' : length (func S f).values ≡ a * b = many ∙ ap (λ (x : ℕ). a * x) unit in
        let more : suc u * b ≤ a * b = mul-le-mul_right b h in
        let inside : u * b + v < a * b = omega (arith, more) in
        let first : 0 * a + u ≡ u = omega arith in
        ap (λ (x : ℕ). looked_at values places f (u * x + v)) z
        ∙ element (u * b + v) (omega arith)
        ∙ ap (λ (x : ℕ). get_or (func S f).values (x * b + v) 0) (sym first)
        ∙ ap (λ (l : List ℕ). get_or (func S f).values (place S 0 l (u ∷ v ∷ [])) 0) (sym e)

    -- the size of the second sort
    second_is : (D E : ℕ) → (func S f).takes ≡ D ∷ E ∷ [] → second_size sizes funcs f ≡ size S E
    unfolding second_size RightFunc Every size
    second_is D E e =
        let two : length (func S f).takes ≡ 2 = ap length e in
        let there : Every (λ C. C < length S.sorts) (D ∷ E ∷ []) = subst (Every (λ C. C < length S.sorts)) e written_right.0.1 in
        let z : func_width * f + 1 + 1 ≡ func_width * f + 2 = omega arith in
        let at : get_or funcs (func_width * f + 2) 0 ≡ E = ap (λ (x : ℕ). get_or funcs x 0) (sym z) ∙ at_function.takes.each 1 (omega arith) ∙ ap (λ (l : List ℕ). get_or l 1 0) e in
        ap (λ (x : ℕ). get_or sizes x 0) at ∙ K.held.size_at E (omega (arith, K.held.sort_count, there.1.0))

  -- functions of one and of two arguments, operators too
  by_number : (f : ℕ) (vs : List ℕ) → f < not_number → by_table S (func S f) vs ≡ apply S f vs
  unfolding apply
  by_number f vs h = ap (λ (g : Func). by_table S g vs) (sym (written_function S f h))

  two : size S 0 ≡ 2
  unfolding size RightSizes
  two = right_sizes.1

  bit : (x : ℕ) → x < size S 0 → x < 2
  bit x h = omega (arith, two)

  one_sort : (D E F : ℕ) → ◌≡◌ {A = List ℕ} (E ∷ F ∷ []) (D ∷ []) → ⊥
  one_sort D E F e = omega (arith, ap length e)

  two_sorts : (C D E : ℕ) → ◌≡◌ {A = List ℕ} (C ∷ []) (D ∷ E ∷ []) → ⊥
  two_sorts C D E e = omega (arith, ap length e)

  pub of_one : (f : ℕ) → IsFunc S f → (v D : ℕ) → (function_at S f).takes ≡ D ∷ [] → v < size S D → one_value values places f v ≡ apply S f (v ∷ [])
  unfolding function_at function IsOperation
  of_one f known v D e h = go (operation f) (seen f) known e
    where
      go : (o : Operation) → Seen f o → IsOperation S o → (function S o).takes ≡ D ∷ [] → one_value values places f v ≡ apply S f (v ∷ [])
      go (Operation.written g) (Seen.as_written k) i t = one_written values places f v k ∙ one_argument f i v D t h ∙ by_number f (v ∷ []) k
      go Operation.not (Seen.as_not k) i t =
          let z : D ≡ 0 = cc in
          one_operator values places f v (omega arith) ∙ sym (apply_not S two v (bit v (subst (λ (E : ℕ). v < size S E) z h))) ∙ ap (λ (g : ℕ). apply S g (v ∷ [])) (sym k)
      go Operation.and (Seen.as_and k) i t = absurd (one_sort D 0 0 t)
      go Operation.or (Seen.as_or k) i t = absurd (one_sort D 0 0 t)
      go (Operation.equal E) (Seen.as_equal F k) i t = absurd (one_sort D E E t)
      go Operation.unsorted s i t = absurd i

  pub of_two : (f : ℕ) → IsFunc S f → (u v D E : ℕ) → (function_at S f).takes ≡ D ∷ E ∷ [] → u < size S D → v < size S E → two_value sizes funcs values places f u v ≡ apply S f (u ∷ v ∷ [])
  unfolding function_at function IsOperation
  of_two f known u v D E e h j = go (operation f) (seen f) known e
    where
      by : (g : ℕ) → f ≡ g → apply S g (u ∷ v ∷ []) ≡ apply S f (u ∷ v ∷ [])
      by g k = ap (λ (n : ℕ). apply S n (u ∷ v ∷ [])) (sym k)

      go : (o : Operation) → Seen f o → IsOperation S o → (function S o).takes ≡ D ∷ E ∷ [] → two_value sizes funcs values places f u v ≡ apply S f (u ∷ v ∷ [])
      go (Operation.written g) (Seen.as_written k) i t =
          two_written sizes funcs values places f u v k ∙ two_arguments f i u v D E (second_size sizes funcs f) t h j (second_is f i D E t) ∙ by_number f (u ∷ v ∷ []) k
      go Operation.not (Seen.as_not k) i t = absurd (two_sorts 0 D E t)
      go Operation.and (Seen.as_and k) i t =
          let y : D ≡ 0 = cc in
          let z : E ≡ 0 = cc in
          two_operated sizes funcs values places f u v (omega arith) ∙ by_and f u v k
          ∙ sym (apply_and S two u v (bit u (subst (λ (C : ℕ). u < size S C) y h)) (bit v (subst (λ (C : ℕ). v < size S C) z j))) ∙ by and_number k
      go Operation.or (Seen.as_or k) i t =
          let y : D ≡ 0 = cc in
          let z : E ≡ 0 = cc in
          two_operated sizes funcs values places f u v (omega arith) ∙ by_or f u v (omega arith) (λ q. omega arith)
          ∙ sym (apply_or S two u v (bit u (subst (λ (C : ℕ). u < size S C) y h)) (bit v (subst (λ (C : ℕ). v < size S C) z j))) ∙ by or_number k
      go (Operation.equal C) (Seen.as_equal B k) i t =
          let y : D ≡ B = cc in
          let z : E ≡ B = cc in
          two_operated sizes funcs values places f u v (omega arith) ∙ by_equal f u v (omega arith)
          ∙ sym (apply_equal S B u v (subst (λ (A : ℕ). u < size S A) y h) (subst (λ (A : ℕ). v < size S A) z j)) ∙ by (first_equal + B) k
      go Operation.unsorted s i t = absurd i

  pub arity_some : (f : ℕ) → IsFunc S f → (1 ≤ length (function_at S f).takes) × (length (function_at S f).takes ≤ 2)
  unfolding RightFunc
  arity_some f known = let r = right_function S right_sizes right_funcs f known in (r.0.0.0, r.0.0.1)
