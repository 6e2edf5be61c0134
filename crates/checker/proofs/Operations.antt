-- What the number of a function is: of a written one, of an operator that is there, of none. By the cases of the definition.
use mathlib.Core.Path.{◌≡◌, refl, sym, ap, subst, ◌∙◌}
use mathlib.Core.List.{[]}
use Rattle.std.specs.Prelude.{Some, None}
use Prim.Native.Nat.{ℕ, ◌+◌, ◌-◌, ◌<◌, ◌≤◌}
use native.Mathlib.Omega.{arith}
use lib.ListN.{length, get_or, replicate, get_or-eq_default}
use Rattle.pcrl.specs.Sheet.{Func, Sig, no_func, Operation, not_number, and_number, or_number, first_equal, operator, operation, func, function, function_at}
use Rattle.pcrl.specs.Sorts.{IsOperation, IsFunc, Bool_sort}
use Rattle.laws.specs.Operations.{Seen, as_written, as_not, as_and, as_or, as_equal, as_unsorted, as_none, seen, written_number, equal_number}
use Rattle.checker.specs.declared.operators.Operator.{Operator}
use Rattle.checker.specs.Sorts.{Operates, NoOperator, OperatorSays}

-- a written function is there
pub written_there : (S : Sig) (f : ℕ) → f < not_number → f < length S.funcs → IsFunc S f
unfolding IsOperation
written_there S f h l = rw (written_number f h) l

-- by the operation that a number stands for
module _ (S : Sig) (f : ℕ) (r : Operator) where
  operates : (o : Operation) → operation f ≡ o → IsOperation S o → (function S o).takes ≡ replicate r.count r.sort → (function S o).gives ≡ Bool_sort → Operates S f r
  unfolding function_at
  operates o e a b c = record {
    is_there = subst (λ (p : Operation). IsOperation S p) (sym e) a;
    takes_are = subst (λ (p : Operation). (function S p).takes ≡ replicate r.count r.sort) (sym e) b;
    gives_Bool = subst (λ (p : Operation). (function S p).gives ≡ Bool_sort) (sym e) c;
  }

-- the same where it is none
operates_not : (S : Sig) (f n D : ℕ) (o : Operation) → operation f ≡ o → (IsOperation S o → ⊥) → (function S o).takes ≡ replicate n D → (function S o).gives ≡ Bool_sort
    → (IsFunc S f → ⊥) × ((function_at S f).takes ≡ replicate n D) × ((function_at S f).gives ≡ Bool_sort)
unfolding function_at
operates_not S f n D o e a b c = (
  λ there. a (subst (λ (p : Operation). IsOperation S p) e there),
  subst (λ (p : Operation). (function S p).takes ≡ replicate n D) (sym e) b,
  subst (λ (p : Operation). (function S p).gives ≡ Bool_sort) (sym e) c,
)

module _ (S : Sig) (f : ℕ) where
  pub not_operates : f ≡ not_number → Operates S f (record { count = 1; sort = Bool_sort })
  unfolding operation operator IsOperation function
  not_operates e = operates S f _ Operation.not (ap operation e) tt refl refl

  pub and_operates : f ≡ and_number → Operates S f (record { count = 2; sort = Bool_sort })
  unfolding operation operator IsOperation function
  and_operates e = operates S f _ Operation.and (ap operation e) tt refl refl

  pub or_operates : f ≡ or_number → Operates S f (record { count = 2; sort = Bool_sort })
  unfolding operation operator IsOperation function
  or_operates e = operates S f _ Operation.or (ap operation e) tt refl refl

module _ (f m : ℕ) where
  pub operator_equal : first_equal ≤ f → f - first_equal < m → OperatorSays f m (Some (record { count = 2; sort = f - first_equal }))
  unfolding IsOperation function
  operator_equal h i S k l =
      let e : f ≡ first_equal + (f - first_equal) = omega arith in
      operates S f _ (Operation.equal (f - first_equal)) (ap operation e ∙ equal_number (f - first_equal)) (omega arith) refl refl

  -- `==` at a sort that is not there, and a number behind the written functions'
  pub equal_none : first_equal ≤ f → m ≤ f - first_equal → OperatorSays f m None
  unfolding IsOperation function
  equal_none h i S k l =
      let e : f ≡ first_equal + (f - first_equal) = omega arith in
      let o : operation f ≡ Operation.equal (f - first_equal) = ap operation e ∙ equal_number (f - first_equal) in
      let t = operates_not S f 2 (f - first_equal) (Operation.equal (f - first_equal)) o (λ y. omega arith) refl refl in
      record { is_none = t.0; takes_none = λ z. absurd (omega arith); takes_two = λ z. t.1; gives_Bool = t.2 }

  pub operator_none : f < first_equal → (f ≡ not_number → ⊥) → (f ≡ and_number → ⊥) → (f ≡ or_number → ⊥) → OperatorSays f m None
  unfolding IsOperation function func
  operator_none h a b c S k l = go (operation f) (seen f) refl
    where
      none : (o : Operation) → operation f ≡ o → (IsOperation S o → ⊥) → (function S o).takes ≡ [] → (function S o).gives ≡ Bool_sort → NoOperator S f
      none o e x y z =
          let t = operates_not S f 0 Bool_sort o e x y z in
          record { is_none = t.0; takes_none = λ z. t.1; takes_two = λ z. absurd (omega arith); gives_Bool = t.2 }

      go : (o : Operation) → Seen f o → operation f ≡ o → NoOperator S f
      go (Operation.written g) (as_written i) e =
          let d : get_or S.funcs f no_func ≡ no_func = get_or-eq_default S.funcs no_func l in
          none _ e (λ z. omega arith) (ap (λ (x : Func). x.takes) d) (ap (λ (x : Func). x.gives) d)
      go Operation.not (as_not i) e = absurd (a i)
      go Operation.and (as_and i) e = absurd (b i)
      go Operation.or (as_or i) e = absurd (c i)
      go (Operation.equal D) (as_equal E i) e = absurd (omega arith)
      go Operation.unsorted (as_unsorted i) e = none Operation.unsorted e (λ z. z) refl refl
      go Operation.unsorted (as_none i j) e = none Operation.unsorted e (λ z. z) refl refl
