-- What holds of all resolved data: a claim of values, of variables in scope, of written functions and of operators.
use Rattle.std.specs.Prelude.{◌≡◌, List, ℕ, ◌≤◌}
use Rattle.std.proofs.Common.{subst, arith}
use Rattle.std.proofs.Math.Option.{Option, none, some}
use Rattle.pcrl.specs.Tree.{Name, RawData, Conjunction, Comparison, Negation, Atom, RawDatas}
use Rattle.pcrl.specs.Sheet.{Data, Datas, Sig, not_number, and_number, or_number}
use Rattle.pcrl.specs.Names.{Names, number_of, sort_of, equal_at, resolve_data, resolve_ors, resolve_conjunction, resolve_ands, resolve_comparison, resolve_negation, resolve_atom, resolve_datas}
use Rattle.laws.specs.Optional.{first_given}

-- P of data and Q of lists of them hold of what each former makes
pub record Closed (N : Names) (scope : List Name) (P : Data → Type 0) (Q : Datas → Type 0) : Type 0 where
  pub value : (v : ℕ) → P (Data.val v)
  pub variable : (x : Name) (i : ℕ) → number_of x scope ≡ some i → P (Data.var i)
  pub written : (x : Name) (f : ℕ) (es : Datas) → number_of x N.funcs ≡ some f → Q es → P (Data.app f es)
  pub operator : (f : ℕ) (es : Datas) → not_number ≤ f → Q es → P (Data.app f es)
  pub empty : Q Datas.nil
  pub more : (e : Data) (es : Datas) → P e → Q es → Q (Datas.cons e es)

-- the functions of `==` stand behind that of `!`
pub equal_behind : (N : Names) (S : Sig) (a b : Option ℕ) → not_number ≤ equal_at N S a b
unfolding equal_at
equal_behind N S (some D) b = omega arith
equal_behind N S none (some D) = omega arith
equal_behind N S none none = omega arith

module _ (N : Names) (S : Sig) (scope : List Name) (Γ : List ℕ) (P : Data → Type 0) (Q : Datas → Type 0) (C : Closed N scope P Q) where
  pair : (f : ℕ) (x y : Data) → not_number ≤ f → P x → P y → P (Data.app f (Datas.cons x (Datas.cons y Datas.nil)))
  pair f x y h p q = C.operator f _ h (C.more x _ p (C.more y Datas.nil q C.empty))

  mutual
    unfolding resolve_data

    pub data_holds : (d : RawData) (e : Data) → resolve_data N S scope Γ d ≡ some e → P e
    data_holds (RawData.only c) e q = conjunction_holds c e q
    data_holds (RawData.or c d) e q = first_given (resolve_conjunction N S scope Γ c) _ e q (λ x p r. ors_hold x d e (conjunction_holds c x p) r)

    ors_hold : (x : Data) (d : RawData) (e : Data) → P x → resolve_ors N S scope Γ x d ≡ some e → P e
    ors_hold x (RawData.only c) e h q =
        first_given (resolve_conjunction N S scope Γ c) _ e q
        (λ y p r. let z : Data.app or_number (Datas.cons x (Datas.cons y Datas.nil)) ≡ e = cc in subst P z (pair or_number x y (omega arith) h (conjunction_holds c y p)))
    ors_hold x (RawData.or c d) e h q = first_given (resolve_conjunction N S scope Γ c) _ e q (λ y p r. ors_hold _ d e (pair or_number x y (omega arith) h (conjunction_holds c y p)) r)

    pub conjunction_holds : (c : Conjunction) (e : Data) → resolve_conjunction N S scope Γ c ≡ some e → P e
    conjunction_holds (Conjunction.single c) e q = comparison_holds c e q
    conjunction_holds (Conjunction.and c d) e q = first_given (resolve_comparison N S scope Γ c) _ e q (λ x p r. ands_hold x d e (comparison_holds c x p) r)

    ands_hold : (x : Data) (d : Conjunction) (e : Data) → P x → resolve_ands N S scope Γ x d ≡ some e → P e
    ands_hold x (Conjunction.single c) e h q =
        first_given (resolve_comparison N S scope Γ c) _ e q
        (λ y p r. let z : Data.app and_number (Datas.cons x (Datas.cons y Datas.nil)) ≡ e = cc in subst P z (pair and_number x y (omega arith) h (comparison_holds c y p)))
    ands_hold x (Conjunction.and c d) e h q = first_given (resolve_comparison N S scope Γ c) _ e q (λ y p r. ands_hold _ d e (pair and_number x y (omega arith) h (comparison_holds c y p)) r)

    pub comparison_holds : (c : Comparison) (e : Data) → resolve_comparison N S scope Γ c ≡ some e → P e
    comparison_holds (Comparison.plain a) e q = negation_holds a e q
    comparison_holds (Comparison.equal a b) e q =
        first_given (resolve_negation N S scope Γ a) _ e q (λ x p r. first_given (resolve_negation N S scope Γ b) _ e r
        (λ y p₁ r₁.
        let f : ℕ = equal_at N S (sort_of N S Γ x) (sort_of N S Γ y) in
        let z : Data.app f (Datas.cons x (Datas.cons y Datas.nil)) ≡ e = cc in
        subst P z (pair f x y (equal_behind N S (sort_of N S Γ x) (sort_of N S Γ y)) (negation_holds a x p) (negation_holds b y p₁))))

    pub negation_holds : (a : Negation) (e : Data) → resolve_negation N S scope Γ a ≡ some e → P e
    negation_holds (Negation.atom a) e q = atom_holds a e q
    negation_holds (Negation.not a) e q =
        first_given (resolve_negation N S scope Γ a) _ e q
        (λ x p r. let z : Data.app not_number (Datas.cons x Datas.nil) ≡ e = cc in subst P z (C.operator not_number _ (omega arith) (C.more x Datas.nil (negation_holds a x p) C.empty)))

    pub atom_holds : (a : Atom) (e : Data) → resolve_atom N S scope Γ a ≡ some e → P e
    atom_holds (Atom.value v) e q = let z : Data.val v ≡ e = cc in subst P z (C.value v)
    atom_holds (Atom.variable x) e q = first_given (number_of x scope) _ e q (λ i p r. let z : Data.var i ≡ e = cc in subst P z (C.variable x i p))
    atom_holds (Atom.apply x ds) e q =
        first_given (number_of x N.funcs) _ e q (λ f p r. first_given (resolve_datas N S scope Γ ds) _ e r
        (λ es p₁ r₁. let z : Data.app f es ≡ e = cc in subst P z (C.written x f es p (datas_hold ds es p₁))))
    atom_holds (Atom.group d) e q = data_holds d e q

    pub datas_hold : (ds : RawDatas) (es : Datas) → resolve_datas N S scope Γ ds ≡ some es → Q es
    datas_hold (RawDatas.one d) es q =
        first_given (resolve_data N S scope Γ d) _ es q (λ e p r. let z : Datas.cons e Datas.nil ≡ es = cc in subst Q z (C.more e Datas.nil (data_holds d e p) C.empty))
    datas_hold (RawDatas.more d ds) es q =
        first_given (resolve_data N S scope Γ d) _ es q (λ e p r. first_given (resolve_datas N S scope Γ ds) _ es r
        (λ fs p₁ r₁. let z : Datas.cons e fs ≡ es = cc in subst Q z (C.more e fs (data_holds d e p) (datas_hold ds fs p₁))))
