-- Printed data is apart, token by token, exactly if no `==` in it stands over two values.
use Rattle.std.specs.Prelude.{◌≡◌, Bool, true, false, ℕ, T, length}
use Rattle.std.proofs.Math.Path.{refl, ap, sym}
use Rattle.std.proofs.Common.{ap₂, ◌∙◌, arith}
use mathlib.Core.List.{List, [], ◌∷◌, ◌++◌, map}
use Rattle.std.proofs.Math.Decide.{ℕ_discrete}
use Rattle.pcrl.specs.Tests.{and, negated, same?, among, Each}
use Rattle.pcrl.specs.Tokens.{Token, name, the}
use Rattle.pcrl.specs.Tree.{RawData, Atom}
use Rattle.pcrl.specs.Sheet.{Data, val, var, app, Datas, nil, cons, list_of, Sig, Operation, operation}
use Rattle.pcrl.specs.Print.{bracketed, print_data, print_conjunction, print_comparison, print_negation, print_atom, print_datas, print_given}
use Rattle.pcrl.specs.Printer.{Shown, atom_shown, as_data, as_conjunction, as_comparison, as_negation, listed, in_brackets, applied, operand, shown_by, func_name, var_name, shown, all_shown, raw_data}
use Rattle.laws.specs.Booleans.{and_true}
use Rattle.grammar.specs.PrintLaws.{or_behind_prints, and_behind_prints, applied_given}
use Rattle.printing.specs.Plain.{PlainUse, Plain, PlainAll}
use Rattle.printing.specs.ShownLaws.{Property, Has, Everywhere, everywhere, operand_has}
use Rattle.printing.specs.Sided.{is_value, all_values, sided_use, sided, all_sided}
use Rattle.printing.specs.ResolvedData.{at}
use Rattle.printing.specs.Watched.{kind, equals, other, Watch, nothing, behind_not, behind_value, behind_equals, met, next, watched, unmet, apart, watched_append, met_stays, then_other, all_pass}

-- behind data that is apart, or not
unfoldable after : Bool → Watch
after true = nothing
after false = met

unmet_after : (b : Bool) → unmet (after b) ≡ b
unfolding after unmet
unmet_after true = refl
unmet_after false = refl

-- behind the first side of `==`, and behind the second where the first is a value: v says whether this side is one
unfoldable first_side : Bool → Bool → Watch
first_side true b = behind_value
first_side false b = after b

unfoldable second_side : Bool → Bool → Watch
second_side true b = met
second_side false b = after b

-- how tokens are watched that stand where a negation may
record Standing (ts : List Token) (v b : Bool) : Type 0 where
  first : watched nothing ts ≡ first_side v b
  behind : watched behind_not ts ≡ after b
  second : watched behind_equals ts ≡ second_side v b

-- tokens behind one that is watched anew
standing_anew : (t : Token) (ts : List Token) (b : Bool) → kind t ≡ other → watched nothing ts ≡ after b → Standing (t ∷ ts) false b
unfolding watched next first_side second_side
standing_anew t ts b e h = record { first = rw e h; behind = rw e h; second = rw e h }

next_other : (s : Watch) → next s other ≡ after (unmet s)
unfolding after next unmet
next_other nothing = refl
next_other behind_not = refl
next_other behind_value = refl
next_other behind_equals = refl
next_other met = refl

closing : (ts : List Token) (u : Token) → kind u ≡ other → watched nothing (ts ++ (u ∷ [])) ≡ after (apart ts)
unfolding apart watched
closing ts u e = watched_append nothing ts (u ∷ []) ∙ rw e (next_other (watched nothing ts))

bracketed_standing : (ts : List Token) → Standing (bracketed ts) false (apart ts)
unfolding bracketed kind among same? ℕ_discrete
bracketed_standing ts = standing_anew (the "(") (ts ++ (the ")" ∷ [])) (apart ts) refl (closing ts (the ")") refl)

standing_apart : (ts : List Token) (b : Bool) → Standing ts false b → apart ts ≡ b
unfolding apart first_side
standing_apart ts b h = ap unmet h.first ∙ unmet_after b

-- tokens behind `!`
not_standing : (ts : List Token) (v b : Bool) → Standing ts v b → Standing (the "!" ∷ ts) false b
unfolding watched kind next first_side second_side among same? ℕ_discrete
not_standing ts v b h = record { first = h.behind; behind = h.behind; second = h.behind }

-- `==` between two sides; a value is apart
sides_apart : (us : List Token) (v b w c : Bool) → (T v → T b) → (T w → T c) → Standing us w c → unmet (watched (next (first_side v b) equals) us) ≡ and (negated (and v w)) (and b c)
unfolding next unmet after first_side second_side
sides_apart us true false w c f g k = absurd (f tt)
sides_apart us true true true c f g k = ap unmet k.second
sides_apart us true true false c f g k = ap unmet k.second ∙ unmet_after c
sides_apart us false false w c f g k = ap unmet (met_stays us)
sides_apart us false true true true f g k = ap unmet k.first
sides_apart us false true true false f g k = absurd (g tt)
sides_apart us false true false c f g k = ap unmet k.first ∙ unmet_after c

equal_apart : (ts us : List Token) (v b w c : Bool) → (T v → T b) → (T w → T c) → Standing ts v b → Standing us w c
    → apart (ts ++ (the "==" ∷ us)) ≡ and (negated (and v w)) (and b c)
unfolding apart watched kind among same? ℕ_discrete
equal_apart ts us v b w c f g h k = ap unmet (watched_append nothing ts (the "==" ∷ us)) ∙ rw h.first (sides_apart us v b w c f g k)

-- AT EACH PLACE

-- data that is no value
abbrev told : Bool → Property
told b = record {
  data_has = λ d. apart (print_data d) ≡ b;
  conjunction_has = λ c. apart (print_conjunction c) ≡ b;
  comparison_has = λ c. apart (print_comparison c) ≡ b;
  negation_has = λ a. Standing (print_negation a) false b;
  atom_has = λ a. Standing (print_atom a) false b;
}

record Told (s : Shown) (d : Data) : Type 0 where
  anywhere : apart (print_data (as_data s)) ≡ sided d
  in_conjunction : apart (print_conjunction (as_conjunction s)) ≡ sided d
  in_comparison : apart (print_comparison (as_comparison s)) ≡ sided d
  in_negation : Standing (print_negation (as_negation s)) (is_value d) (sided d)

shown_told : (b : Bool) (s : Shown) → Has (told b) s → Everywhere (told b) s
unfolding print_data
shown_told b = everywhere (told b) (record {
  to_data = λ c h. h;
  to_conjunction = λ c h. h;
  to_comparison = λ a h. standing_apart (print_negation a) b h;
  to_negation = λ a h. h;
  to_brackets = λ d h. rw (sym h) (bracketed_standing (print_data d));
})

value_told : (v : ℕ) → Told (atom_shown (Atom.value v)) (val v)
unfolding as_data as_conjunction as_comparison as_negation print_data apart watched kind next unmet after first_side second_side sided is_value
value_told v = record { anywhere = refl; in_conjunction = refl; in_comparison = refl; in_negation = record { first = refl; behind = refl; second = refl } }

value_sided : (d : Data) → T (is_value d) → T (sided d)
unfolding is_value sided
value_sided (val v) h = tt
value_sided (var i) h = absurd h
value_sided (app f ds) h = absurd h

-- arguments

listed_apart : (d : RawData) (ds : List RawData) → apart (print_datas (listed d ds)) ≡ and (apart (print_data d)) (all_pass (λ e. apart (print_data e)) ds)
unfolding listed print_data all_pass kind among same? ℕ_discrete
listed_apart d [] = sym (and_true (apart (print_data d)))
listed_apart d (e ∷ ds) = then_other (print_data d) (print_datas (listed e ds)) (the ",") refl ∙ ap (and (apart (print_data d))) (listed_apart e ds)

given_watched : (ds : List RawData) → watched nothing (print_given (in_brackets ds)) ≡ after (all_pass (λ e. apart (print_data e)) ds)
unfolding in_brackets print_given all_pass watched after first_side
given_watched [] = refl
given_watched (d ∷ ds) = (bracketed_standing (print_datas (listed d ds))).first ∙ ap after (listed_apart d ds)

pub given_apart : (ds : List RawData) → apart (print_given (in_brackets ds)) ≡ all_pass (λ e. apart (print_data e)) ds
unfolding apart
given_apart ds = ap unmet (given_watched ds) ∙ unmet_after _

each_told : (ss : List Shown) (ds : Datas) → Each Told ss (list_of ds) → all_pass (λ e. apart (print_data e)) (map as_data ss) ≡ all_sided ds
unfolding Each list_of all_pass sided
each_told [] nil h = refl
each_told [] (cons d ds) h = absurd h
each_told (s ∷ ss) nil h = absurd h
each_told (s ∷ ss) (cons d ds) h = ap₂ and h.0.anywhere (each_told ss ds h.1)

one_sided : (ds : Datas) → length (list_of ds) ≡ 1 → all_sided ds ≡ sided (at 0 ds)
unfolding list_of sided
one_sided nil h = absurd (omega arith)
one_sided (cons d nil) h = and_true (sided d)
one_sided (cons d (cons e ds)) h = absurd (omega arith)

two_sided : (ds : Datas) → length (list_of ds) ≡ 2 → (all_sided ds ≡ and (sided (at 0 ds)) (sided (at 1 ds))) × (all_values ds ≡ and (is_value (at 0 ds)) (is_value (at 1 ds)))
unfolding list_of sided all_values
two_sided nil h = absurd (omega arith)
two_sided (cons d nil) h = absurd (omega arith)
two_sided (cons d (cons e nil)) h = (ap (and (sided d)) (and_true (sided e)), ap (and (is_value d)) (and_true (is_value e)))
two_sided (cons d (cons e (cons x ds))) h = absurd (omega arith)

module _ (S : Sig) (Γ : List ℕ) where
  operation_told : (f : ℕ → List ℕ) (o : Operation) (ss : List Shown) (ds : Datas) → PlainUse S Γ o (list_of ds) → Each Told ss (list_of ds)
      → Everywhere (told (and (sided_use o (all_values ds)) (all_sided ds))) (shown_by f o ss)
  unfolding PlainUse shown_by sided_use Has print_data kind among same? ℕ_discrete
  operation_told f (Operation.written g) ss ds p h =
      let rs = map as_data ss in
      shown_told _ (atom_shown (applied (f g) (in_brackets rs))) (rw (applied_given (f g) (in_brackets rs)) (standing_anew (name (f g)) (print_given (in_brackets rs)) (all_sided ds) refl (given_watched rs ∙ ap after (each_told ss ds h))))
  operation_told f Operation.not ss ds p h =
      let x = (operand_has Told (value_told 0) 0 ss (list_of ds) h).in_negation in
      shown_told _ _ (rw (one_sided ds p) (not_standing (print_negation (as_negation (operand 0 ss))) _ _ x))
  operation_told f Operation.and ss ds p h =
      let x = (operand_has Told (value_told 0) 0 ss (list_of ds) h).in_conjunction in
      let y = (operand_has Told (value_told 0) 1 ss (list_of ds) h).in_comparison in
      let c = as_conjunction (operand 0 ss) in
      let e = as_comparison (operand 1 ss) in
      shown_told _ _ (ap apart (and_behind_prints c e) ∙ (then_other (print_conjunction c) (print_comparison e) (the "/\\") refl ∙ (ap₂ and x y ∙ sym (two_sided ds p).0)))
  operation_told f Operation.or ss ds p h =
      let x = (operand_has Told (value_told 0) 0 ss (list_of ds) h).anywhere in
      let y = (operand_has Told (value_told 0) 1 ss (list_of ds) h).in_conjunction in
      let d = as_data (operand 0 ss) in
      let e = as_conjunction (operand 1 ss) in
      shown_told _ _ (ap apart (or_behind_prints d e) ∙ (then_other (print_data d) (print_conjunction e) (the "\\/") refl ∙ (ap₂ and x y ∙ sym (two_sided ds p).0)))
  operation_told f (Operation.equal D) ss ds p h =
      let x = (operand_has Told (value_told 0) 0 ss (list_of ds) h).in_negation in
      let y = (operand_has Told (value_told 0) 1 ss (list_of ds) h).in_negation in
      let two = two_sided ds p.0 in
      shown_told _ _ (rw (two.0, two.1) (equal_apart (print_negation (as_negation (operand 0 ss))) (print_negation (as_negation (operand 1 ss))) _ _ _ _ (value_sided (at 0 ds)) (value_sided (at 1 ds)) x y))
  operation_told f Operation.unsorted ss ds p h = absurd p

module _ (S : Sig) (Γ : List ℕ) where
  as_told : (s : Shown) (f : ℕ) (ds : Datas) → Everywhere (told (sided (app f ds))) s → Told s (app f ds)
  unfolding is_value
  as_told s f ds h = record { anywhere = h.anywhere; in_conjunction = h.in_conjunction; in_comparison = h.in_comparison; in_negation = h.in_negation }

  variable_told : (i : ℕ) → Told (atom_shown (Atom.variable (var_name S i))) (var i)
  unfolding is_value sided as_data as_conjunction as_comparison as_negation print_data apart watched kind next unmet after first_side second_side
  variable_told i = record { anywhere = refl; in_conjunction = refl; in_comparison = refl; in_negation = record { first = refl; behind = refl; second = refl } }

  mutual
    unfolding Plain shown Each list_of sided

    data_told : (d : Data) → Plain S Γ d → Told (shown S d) d
    data_told (val v) h = value_told v
    data_told (var i) h = variable_told i
    data_told (app f ds) h = as_told _ f ds (operation_told S Γ (func_name S) (operation f) (all_shown S ds) ds h.0 (datas_told ds h.1))

    datas_told : (ds : Datas) → PlainAll S Γ ds → Each Told (all_shown S ds) (list_of ds)
    datas_told nil h = tt
    datas_told (cons d ds) h = (data_told d h.0, datas_told ds h.1)

  -- PRINTED DATA IS APART EXACTLY IF NO `==` IN IT STANDS OVER TWO VALUES.
  pub data_apart : (d : Data) → Plain S Γ d → apart (print_data (raw_data S d)) ≡ sided d
  unfolding raw_data
  data_apart d h = (data_told d h).anywhere
