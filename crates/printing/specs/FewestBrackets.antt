-- "The printer writes the fewest brackets that read back the same": whatever is read as the same data has at least as many brackets.
-- By induction on what is read: at each place the printer's form has no more brackets than any other.
use Rattle.std.specs.Prelude.{◌≡◌, List, [], ◌∷◌, map, ℕ, suc, ◌+◌, ◌≤◌, ◌<◌, length}
use Rattle.std.proofs.Math.Path.{refl}
use Rattle.std.proofs.Common.{subst}
use Rattle.std.proofs.Math.Option.{Option, none, some}
use native.Mathlib.Omega.{arith}
use Rattle.pcrl.specs.Tree.{Name, RawData, Conjunction, Comparison, Negation, Atom, RawDatas}
use Rattle.pcrl.specs.Sheet.{Data, val, var, app, Datas, nil, cons, Sig, not_number, and_number, or_number, operation, operator}
use Rattle.pcrl.specs.Names.{Names, number_of, sort_of, equal_at, two, resolve_data, resolve_ors, resolve_conjunction, resolve_ands, resolve_comparison, resolve_negation, resolve_atom, resolve_datas}
use Rattle.pcrl.specs.Printer.{Shown, data_shown, conjunction_shown, comparison_shown, negation_shown, atom_shown, as_data, as_conjunction, as_comparison, as_negation, or_behind, and_behind, listed, in_brackets, applied, operand, shown_by, func_name, shown, all_shown, raw_data}
use Rattle.laws.specs.Optional.{first_given}
use Rattle.laws.specs.Numbers.{number_below}
use Rattle.laws.specs.Operations.{written_number, equal_number}

-- How many brackets stand around data; those behind a function's name are not among them.
unfoldable mutual
  pub data_brackets : RawData → ℕ
  data_brackets (RawData.only c) = conjunction_brackets c
  data_brackets (RawData.or c d) = conjunction_brackets c + data_brackets d

  pub conjunction_brackets : Conjunction → ℕ
  conjunction_brackets (Conjunction.single c) = comparison_brackets c
  conjunction_brackets (Conjunction.and c d) = comparison_brackets c + conjunction_brackets d

  pub comparison_brackets : Comparison → ℕ
  comparison_brackets (Comparison.plain a) = negation_brackets a
  comparison_brackets (Comparison.equal a b) = negation_brackets a + negation_brackets b

  pub negation_brackets : Negation → ℕ
  negation_brackets (Negation.atom a) = atom_brackets a
  negation_brackets (Negation.not a) = negation_brackets a

  pub atom_brackets : Atom → ℕ
  atom_brackets (Atom.value v) = 0
  atom_brackets (Atom.variable x) = 0
  atom_brackets (Atom.apply x ds) = datas_brackets ds
  atom_brackets (Atom.group d) = suc (data_brackets d)

  pub datas_brackets : RawDatas → ℕ
  datas_brackets (RawDatas.one d) = data_brackets d
  datas_brackets (RawDatas.more d ds) = data_brackets d + datas_brackets ds

-- THE PRINTER'S FORMS

-- a tighter place needs no fewer, and brackets suffice for every place
record Placed (s : Shown) : Type 0 where
  a_conjunction : data_brackets (as_data s) ≤ conjunction_brackets (as_conjunction s)
  a_comparison : conjunction_brackets (as_conjunction s) ≤ comparison_brackets (as_comparison s)
  a_negation : comparison_brackets (as_comparison s) ≤ negation_brackets (as_negation s)
  one_more : negation_brackets (as_negation s) ≤ suc (data_brackets (as_data s))

placed : (s : Shown) → Placed s
unfolding as_data as_conjunction as_comparison as_negation data_brackets
placed (data_shown d) = record { a_conjunction = omega arith; a_comparison = omega arith; a_negation = omega arith; one_more = omega arith }
placed (conjunction_shown c) = record { a_conjunction = omega arith; a_comparison = omega arith; a_negation = omega arith; one_more = omega arith }
placed (comparison_shown c) = record { a_conjunction = omega arith; a_comparison = omega arith; a_negation = omega arith; one_more = omega arith }
placed (negation_shown a) = record { a_conjunction = omega arith; a_comparison = omega arith; a_negation = omega arith; one_more = omega arith }
placed (atom_shown a) = record { a_conjunction = omega arith; a_comparison = omega arith; a_negation = omega arith; one_more = omega arith }

or_behind_brackets : (d : RawData) (e : Conjunction) → data_brackets (or_behind d e) ≡ data_brackets d + conjunction_brackets e
unfolding or_behind data_brackets
or_behind_brackets (RawData.only c) e = refl
or_behind_brackets (RawData.or c d) e = let z = or_behind_brackets d e in omega arith

and_behind_brackets : (c : Conjunction) (e : Comparison) → conjunction_brackets (and_behind c e) ≡ conjunction_brackets c + comparison_brackets e
unfolding and_behind data_brackets
and_behind_brackets (Conjunction.single c) e = refl
and_behind_brackets (Conjunction.and c d) e = let z = and_behind_brackets d e in omega arith

given_brackets : Option RawDatas → ℕ
given_brackets none = 0
given_brackets (some ds) = datas_brackets ds

listed_brackets : (d : RawData) (ds : List RawData) → datas_brackets (listed d ds) ≡ data_brackets d + given_brackets (in_brackets ds)
unfolding listed in_brackets data_brackets given_brackets
listed_brackets d [] = omega arith
listed_brackets d (e ∷ ds) = refl

applied_brackets : (x : Name) (o : Option RawDatas) → atom_brackets (applied x o) ≡ given_brackets o
unfolding applied data_brackets given_brackets
applied_brackets x none = refl
applied_brackets x (some ds) = refl

module _ (S : Sig) where
  -- the brackets of data at each place
  anywhere : Data → ℕ
  anywhere d = data_brackets (as_data (shown S d))

  in_conjunction : Data → ℕ
  in_conjunction d = conjunction_brackets (as_conjunction (shown S d))

  in_comparison : Data → ℕ
  in_comparison d = comparison_brackets (as_comparison (shown S d))

  in_negation : Data → ℕ
  in_negation d = negation_brackets (as_negation (shown S d))

  tighter : (d : Data) → (anywhere d ≤ in_conjunction d) × ((in_conjunction d ≤ in_comparison d) × ((in_comparison d ≤ in_negation d) × (in_negation d ≤ suc (anywhere d))))
  unfolding anywhere in_conjunction in_comparison in_negation
  tighter d = let p = placed (shown S d) in (p.a_conjunction, (p.a_comparison, (p.a_negation, p.one_more)))

  -- the arguments of a function
  arguments : Datas → ℕ
  arguments ds = given_brackets (in_brackets (map as_data (all_shown S ds)))

  arguments_cons : (d : Data) (ds : Datas) → arguments (cons d ds) ≡ anywhere d + arguments ds
  unfolding arguments anywhere shown in_brackets given_brackets
  arguments_cons d ds = listed_brackets (as_data (shown S d)) (map as_data (all_shown S ds))

  arguments_none : arguments nil ≡ 0
  unfolding arguments shown in_brackets given_brackets
  arguments_none = refl

  value_none : (v : ℕ) → in_negation (val v) ≤ 0
  unfolding in_negation shown as_negation data_brackets
  value_none v = omega arith

  variable_none : (i : ℕ) → in_negation (var i) ≤ 0
  unfolding in_negation shown as_negation data_brackets
  variable_none i = omega arith

  written_brackets : (f : ℕ) (ds : Datas) → f < not_number → in_negation (app f ds) ≡ arguments ds
  unfolding in_negation arguments shown shown_by as_negation data_brackets
  written_brackets f ds h = rw (written_number f h) (applied_brackets (func_name S f) (in_brackets (map as_data (all_shown S ds))))

  module _ (N : Names) where
    not_brackets : (x : Data) → in_negation (app not_number (cons x nil)) ≡ in_negation x
    unfolding in_negation shown shown_by operation operator operand as_negation data_brackets
    not_brackets x = refl

    equal_brackets : (o p : Option ℕ) (x y : Data) → in_comparison (two N S (equal_at N S o p) x y) ≤ in_negation x + in_negation y
    unfolding in_comparison in_negation equal_at shown shown_by operation operator operand as_comparison data_brackets
    equal_brackets (some D) p x y = rw (equal_number D) (omega arith)
    equal_brackets none (some D) x y = rw (equal_number D) (omega arith)
    equal_brackets none none x y = let t = (placed (shown S x)).a_negation in omega arith

    and_brackets : (x y : Data) → in_conjunction (two N S and_number x y) ≡ in_conjunction x + in_comparison y
    unfolding in_conjunction in_comparison shown shown_by operation operator operand as_conjunction data_brackets
    and_brackets x y = and_behind_brackets (as_conjunction (shown S x)) (as_comparison (shown S y))

    or_brackets : (x y : Data) → anywhere (two N S or_number x y) ≡ anywhere x + in_conjunction y
    unfolding anywhere in_conjunction shown shown_by operation operator operand as_data data_brackets
    or_brackets x y = or_behind_brackets (as_data (shown S x)) (as_conjunction (shown S y))

    -- WHAT IS READ AS THE DATA

    -- so few functions that none of them has an operator's number
    module _ (few : length N.funcs ≤ not_number) (scope : List Name) (Γ : List ℕ) where
      mutual
        unfolding resolve_data data_brackets

        data_fewest : (r : RawData) (d : Data) → resolve_data N S scope Γ r ≡ some d → anywhere d ≤ data_brackets r
        data_fewest (RawData.only c) d e = let h = conjunction_fewest c d e in let t = tighter d in omega arith
        data_fewest (RawData.or c r) d e =
            first_given (resolve_conjunction N S scope Γ c) _ d e (λ x h₁ h₂.
            let h = conjunction_fewest c x h₁ in
            let k = ors_fewest x r d h₂ in
            let t = tighter x in
            omega arith)

        ors_fewest : (x : Data) (r : RawData) (d : Data) → resolve_ors N S scope Γ x r ≡ some d → anywhere d ≤ anywhere x + data_brackets r
        ors_fewest x (RawData.only c) d e =
            first_given (resolve_conjunction N S scope Γ c) _ d e (λ y h₁ h₂.
            let z : two N S or_number x y ≡ d = cc in
            let h = conjunction_fewest c y h₁ in
            let b = or_brackets x y in
            subst (λ (w : Data). anywhere w ≤ anywhere x + conjunction_brackets c) z (omega arith))
        ors_fewest x (RawData.or c r) d e =
            first_given (resolve_conjunction N S scope Γ c) _ d e (λ y h₁ h₂.
            let h = conjunction_fewest c y h₁ in
            let b = or_brackets x y in
            let k = ors_fewest (two N S or_number x y) r d h₂ in
            omega arith)

        conjunction_fewest : (r : Conjunction) (d : Data) → resolve_conjunction N S scope Γ r ≡ some d → in_conjunction d ≤ conjunction_brackets r
        conjunction_fewest (Conjunction.single c) d e = let h = comparison_fewest c d e in let t = tighter d in omega arith
        conjunction_fewest (Conjunction.and c r) d e =
            first_given (resolve_comparison N S scope Γ c) _ d e (λ x h₁ h₂.
            let h = comparison_fewest c x h₁ in
            let k = ands_fewest x r d h₂ in
            let t = tighter x in
            omega arith)

        ands_fewest : (x : Data) (r : Conjunction) (d : Data) → resolve_ands N S scope Γ x r ≡ some d → in_conjunction d ≤ in_conjunction x + conjunction_brackets r
        ands_fewest x (Conjunction.single c) d e =
            first_given (resolve_comparison N S scope Γ c) _ d e (λ y h₁ h₂.
            let z : two N S and_number x y ≡ d = cc in
            let h = comparison_fewest c y h₁ in
            let b = and_brackets x y in
            subst (λ (w : Data). in_conjunction w ≤ in_conjunction x + comparison_brackets c) z (omega arith))
        ands_fewest x (Conjunction.and c r) d e =
            first_given (resolve_comparison N S scope Γ c) _ d e (λ y h₁ h₂.
            let h = comparison_fewest c y h₁ in
            let b = and_brackets x y in
            let k = ands_fewest (two N S and_number x y) r d h₂ in
            omega arith)

        comparison_fewest : (r : Comparison) (d : Data) → resolve_comparison N S scope Γ r ≡ some d → in_comparison d ≤ comparison_brackets r
        comparison_fewest (Comparison.plain a) d e = let h = negation_fewest a d e in let t = tighter d in omega arith
        comparison_fewest (Comparison.equal a b) d e =
            first_given (resolve_negation N S scope Γ a) _ d e (λ x h₁ e₁.
            first_given (resolve_negation N S scope Γ b) _ d e₁ (λ y h₂ e₂.
            let z : two N S (equal_at N S (sort_of N S Γ x) (sort_of N S Γ y)) x y ≡ d = cc in
            let h = negation_fewest a x h₁ in
            let k = negation_fewest b y h₂ in
            let t = equal_brackets (sort_of N S Γ x) (sort_of N S Γ y) x y in
            subst (λ (w : Data). in_comparison w ≤ negation_brackets a + negation_brackets b) z (omega arith)))

        negation_fewest : (r : Negation) (d : Data) → resolve_negation N S scope Γ r ≡ some d → in_negation d ≤ negation_brackets r
        negation_fewest (Negation.atom a) d e = atom_fewest a d e
        negation_fewest (Negation.not a) d e =
            first_given (resolve_negation N S scope Γ a) _ d e (λ x h₁ h₂.
            let z : app not_number (cons x nil) ≡ d = cc in
            let h = negation_fewest a x h₁ in
            let b = not_brackets x in
            subst (λ (w : Data). in_negation w ≤ negation_brackets a) z (omega arith))

        atom_fewest : (r : Atom) (d : Data) → resolve_atom N S scope Γ r ≡ some d → in_negation d ≤ atom_brackets r
        atom_fewest (Atom.value v) d e = let z : val v ≡ d = cc in subst (λ (w : Data). in_negation w ≤ 0) z (value_none v)
        atom_fewest (Atom.variable x) d e =
            first_given (number_of x scope) _ d e (λ i h₁ h₂.
            let z : var i ≡ d = cc in
            subst (λ (w : Data). in_negation w ≤ 0) z (variable_none i))
        atom_fewest (Atom.apply x rs) d e =
            first_given (number_of x N.funcs) _ d e (λ f h₁ e₁.
            first_given (resolve_datas N S scope Γ rs) _ d e₁ (λ es h₂ e₂.
            let z : app f es ≡ d = cc in
            let n = number_below x N.funcs f h₁ in
            let b = written_brackets f es (omega arith) in
            let h = datas_fewest rs es h₂ in
            subst (λ (w : Data). in_negation w ≤ datas_brackets rs) z (omega arith)))
        atom_fewest (Atom.group r) d e = let h = data_fewest r d e in let t = tighter d in omega arith

        datas_fewest : (rs : RawDatas) (ds : Datas) → resolve_datas N S scope Γ rs ≡ some ds → arguments ds ≤ datas_brackets rs
        datas_fewest (RawDatas.one r) ds e =
            first_given (resolve_data N S scope Γ r) _ ds e (λ d h₁ h₂.
            let z : cons d nil ≡ ds = cc in
            let h = data_fewest r d h₁ in
            let b = arguments_cons d nil in
            let n = arguments_none in
            subst (λ (w : Datas). arguments w ≤ data_brackets r) z (omega arith))
        datas_fewest (RawDatas.more r rs) ds e =
            first_given (resolve_data N S scope Γ r) _ ds e (λ d h₁ e₁.
            first_given (resolve_datas N S scope Γ rs) _ ds e₁ (λ es h₂ e₂.
            let z : cons d es ≡ ds = cc in
            let h = data_fewest r d h₁ in
            let k = datas_fewest rs es h₂ in
            let b = arguments_cons d es in
            subst (λ (w : Datas). arguments w ≤ data_brackets r + datas_brackets rs) z (omega arith)))

      -- WHATEVER IS READ AS THE DATA HAS AT LEAST AS MANY BRACKETS AS THE PRINTER WRITES.
      pub fewest_brackets : (r : RawData) (d : Data) → resolve_data N S scope Γ r ≡ some d → data_brackets (raw_data S d) ≤ data_brackets r
      unfolding raw_data anywhere
      fewest_brackets r d e = data_fewest r d e
