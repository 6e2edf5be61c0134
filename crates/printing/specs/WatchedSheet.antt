-- The tokens of a printed sheet are apart exactly if no `==` of the table stands over two values.
use Rattle.std.specs.Prelude.{◌≡◌, Bool, true, false, ◌↔◌, T, length, get_or}
use Rattle.std.proofs.Math.Path.{refl, ap, ap₂, sym}
use Rattle.std.proofs.Common.{◌∙◌}
use mathlib.Core.List.{List, [], ◌∷◌, ◌++◌, append_assoc, append-nil, map}
use Prim.Native.Nat.{ℕ, zero, suc}
use Prim.Native.String.{String}
use Rattle.std.proofs.Math.Decide.{ℕ_discrete}
use Rattle.pcrl.specs.Tests.{and, same?, among, Every}
use Rattle.pcrl.specs.Reader.{all}
use Rattle.pcrl.specs.Tokens.{Token, name, numeral, the}
use Rattle.pcrl.specs.Tree.{Name, RawData, Atom, Conditional, Sequence, Part, SortLine, FuncLine, ActLine}
use Rattle.pcrl.specs.Sheet.{Data, Act, tau, action, no_action, Sig, sort_name}
use Rattle.pcrl.specs.Table.{Summand, Equation, Table}
use Rattle.pcrl.specs.Print.{joined, print_data, print_given, print_choice, print_conditional, print_sequence, print_part, line, print_lines, print_sorts, print_values, print_sort, print_func, print_takes, print_act, print_param, print_params, print_proc, print_init, print_sheet}
use Rattle.pcrl.specs.Printer.{numbered, atom_shown, as_data, in_brackets, side, wanting, choice_of, right_of, proc_name, var_name, raw_data, raw_act, raw_call, raw_sequence, raw_conditional, raw_sums, raw_summand, param_of, proc_line_of, init_line_of, printed}
use Rattle.laws.specs.Booleans.{and_true, and_assoc}
use Rattle.laws.specs.Tests.{both_pass, pass_both}
use Rattle.laws.specs.Every.{every_of_all}
use Rattle.printing.specs.Plain.{PlainAct, PlainTerm, PlainCond, PlainCall, PlainSummand, PlainEquation, PlainTable}
use Rattle.printing.specs.Sided.{sided, Sided, SidedSummand, SidedTable}
use Rattle.printing.specs.Watched.{kind, other, watched, next, unmet, apart, nothing_apart, then_other, other_first, bracketed_apart, all_pass, all_true, joined_apart, line_apart}
use Rattle.printing.specs.WatchedData.{given_apart, data_apart}

-- TESTS ON LISTS

and_swap : (a b : Bool) → and a b ≡ and b a
and_swap true b = sym (and_true b)
and_swap false true = refl
and_swap false false = refl

-- of what is made of each element
pass_map : {A B : Type 0} (P : A → Type 0) (f : B → Bool) (g : A → B) (h : A → Bool) → ((a : A) → P a → f (g a) ≡ h a) → (l : List A) → Every P l → all_pass f (map g l) ≡ all_pass h l
unfolding all_pass Every
pass_map P f g h e [] k = refl
pass_map P f g h e (a ∷ l) k = ap₂ and (e a k.0) (pass_map P f g h e l k.1)

pass_numbered : {A B : Type 0} (P : A → Type 0) (f : B → Bool) (g : ℕ → A → B) (h : A → Bool) → ((i : ℕ) (a : A) → P a → f (g i a) ≡ h a) → (i : ℕ) (l : List A) → Every P l
    → all_pass f (numbered g i l) ≡ all_pass h l
unfolding all_pass Every numbered
pass_numbered P f g h e i [] k = refl
pass_numbered P f g h e i (a ∷ l) k = ap₂ and (e i a k.0) (pass_numbered P f g h e (suc i) l k.1)

pass_every : {A : Type 0} (f : A → Bool) (P : A → Type 0) → ((a : A) → T (f a) ↔ P a) → (l : List A) → T (all_pass f l) ↔ Every P l
unfolding all_pass Every
pass_every f P e [] = (λ h. tt, λ h. tt)
pass_every f P e (a ∷ l) =
    let more = pass_every f P e l in
    (λ h. let k = both_pass (f a) (all_pass f l) h in ((e a).0 k.0, more.0 k.1), λ h. pass_both (f a) (all_pass f l) ((e a).1 h.0) (more.1 h.1))

-- TABLES

unfoldable sided_summand : Summand → Bool
sided_summand h =
    and (all_pass (λ (c : ℕ × Data). sided c.1) h.conds) (and (all_pass sided h.terms) (all_pass (λ (c : ℕ × List Data). all_pass sided c.1) h.calls))

unfoldable sided_table : Table → Bool
sided_table U = all_pass (λ (q : Equation). all_pass sided_summand q.summands) U.equations

same : {P : Type 0} → P ↔ P
same = (λ h. h, λ h. h)

summand_is_sided : (h : Summand) → T (sided_summand h) ↔ SidedSummand h
unfolding sided_summand
summand_is_sided h =
    let conds = pass_every (λ (c : ℕ × Data). sided c.1) (λ (c : ℕ × Data). Sided c.1) (λ c. same) h.conds in
    let terms = pass_every sided Sided (λ d. same) h.terms in
    let calls = pass_every (λ (c : ℕ × List Data). all_pass sided c.1) (λ (c : ℕ × List Data). Every Sided c.1) (λ c. pass_every sided Sided (λ d. same) c.1) h.calls in (
      λ k.
          let a = both_pass (all_pass (λ (c : ℕ × Data). sided c.1) h.conds) _ k in
          let b = both_pass (all_pass sided h.terms) _ a.1 in
          record { conds = conds.0 a.0; terms = terms.0 b.0; calls = calls.0 b.1 },
      λ s. pass_both (all_pass (λ (c : ℕ × Data). sided c.1) h.conds) _ (conds.1 s.conds) (pass_both (all_pass sided h.terms) _ (terms.1 s.terms) (calls.1 s.calls)),
    )

table_is_sided : (U : Table) → T (sided_table U) ↔ SidedTable U
unfolding sided_table
table_is_sided U = pass_every _ _ (λ (q : Equation). pass_every sided_summand SidedSummand summand_is_sided q.summands) U.equations

-- SUMMANDS

tau_apart : apart (print_part Part.tau) ≡ true
unfolding print_choice apart watched kind next unmet among same? ℕ_discrete
tau_apart = refl

delta_apart : apart (print_sequence (Sequence.last Part.delta)) ≡ true
unfolding print_choice apart watched kind next unmet among same? ℕ_discrete
delta_apart = refl

module _ (U : Table) where
  abbrev S : Sig
  S = U.sig

  module _ (Γ : List ℕ) where
    terms_apart : (ds : List Data) → Every (PlainTerm U Γ) ds → apart (print_given (in_brackets (map (raw_data S) ds))) ≡ all_pass sided ds
    terms_apart ds h = given_apart (map (raw_data S) ds) ∙ pass_map (PlainTerm U Γ) (λ e. apart (print_data e)) (raw_data S) sided (data_apart U.sig Γ) ds h

    named_apart : (x : Name) (ds : List Data) → Every (PlainTerm U Γ) ds → apart (print_part (Part.named x (in_brackets (map (raw_data S) ds)))) ≡ all_pass sided ds
    unfolding print_choice kind
    named_apart x ds h = other_first (name x) (print_given (in_brackets (map (raw_data S) ds))) refl ∙ terms_apart ds h

    act_apart : (a : Act) (ds : List Data) → PlainAct U.sig a ds → Every (PlainTerm U Γ) ds → apart (print_part (raw_act S a ds)) ≡ all_pass sided ds
    unfolding raw_act PlainAct all_pass
    act_apart tau ds h k = tau_apart ∙ ap (all_pass sided) (sym h)
    act_apart (action a) ds h k = named_apart (get_or S.acts a no_action).name ds k

    sequence_apart : (p : Part) (cs : List (ℕ × List Data)) → Every (PlainCall U Γ) cs
        → apart (print_sequence (raw_sequence S p cs)) ≡ and (apart (print_part p)) (all_pass (λ (c : ℕ × List Data). all_pass sided c.1) cs)
    unfolding raw_sequence raw_call print_choice all_pass Every kind among same? ℕ_discrete
    sequence_apart p [] k = sym (and_true (apart (print_part p)))
    sequence_apart p (c ∷ cs) k =
        then_other (print_part p) (print_sequence (raw_sequence S (raw_call S c) cs)) (the ".") refl
        ∙ ap (and (apart (print_part p))) (sequence_apart (raw_call S c) cs k.1 ∙ ap₂ and (named_apart (proc_name S c.0) c.1 k.0.1) refl)

    side_apart : (c : Conditional) → apart (print_sequence (side c)) ≡ apart (print_conditional c)
    unfolding side print_choice
    side_apart (Conditional.plain p) = refl
    side_apart (Conditional.cond p c q) = bracketed_apart _

    cond_apart : (p : Sequence) (c : RawData) (q : Sequence) → apart (print_conditional (Conditional.cond p c q)) ≡ and (apart (print_sequence p)) (and (apart (print_data c)) (apart (print_sequence q)))
    unfolding print_choice kind among same? ℕ_discrete
    cond_apart p c q = then_other (print_sequence p) (print_data c ++ (the "|>" ∷ print_sequence q)) (the "<|") refl ∙ ap (and (apart (print_sequence p))) (then_other (print_data c) (print_sequence q) (the "|>") refl)

    wanting_apart : (w : ℕ) (c : RawData) (p : Sequence) → apart (print_conditional (wanting w c p)) ≡ and (apart (print_data c)) (apart (print_sequence p))
    unfolding wanting
    wanting_apart zero c p = cond_apart (Sequence.last Part.delta) c p ∙ rw delta_apart
    wanting_apart (suc w) c p =
        cond_apart p c (Sequence.last Part.delta)
        ∙ rw delta_apart (ap (and (apart (print_sequence p))) (and_true (apart (print_data c))) ∙ and_swap (apart (print_sequence p)) (apart (print_data c)))

    conditional_apart : (cs : List (ℕ × Data)) (p : Sequence) → Every (PlainCond U Γ) cs
        → apart (print_conditional (raw_conditional S cs p)) ≡ and (all_pass (λ (c : ℕ × Data). sided c.1) cs) (apart (print_sequence p))
    unfolding raw_conditional all_pass Every print_choice
    conditional_apart [] p h = refl
    conditional_apart (c ∷ cs) p h =
        wanting_apart c.0 (raw_data S c.1) (side (raw_conditional S cs p))
        ∙ (ap₂ and (data_apart U.sig Γ c.1 h.0.1) (side_apart (raw_conditional S cs p) ∙ conditional_apart cs p h.1) ∙ sym (and_assoc (sided c.1) _ (apart (print_sequence p))))

  sums_apart : (n : ℕ) (Ds : List ℕ) (c : Conditional) → apart (print_conditional (raw_sums S n Ds c)) ≡ apart (print_conditional c)
  unfolding raw_sums print_choice kind among same? ℕ_discrete
  sums_apart n [] c = refl
  sums_apart n (D ∷ Ds) c =
      let inside = print_conditional (raw_sums S (suc n) Ds c) in
      let v = var_name S n in
      let E = sort_name S D in
      other_first (the "sum") _ refl
      ∙ (bracketed_apart (name v ∷ the ":" ∷ name E ∷ the "," ∷ inside)
      ∙ (other_first (name v) (the ":" ∷ name E ∷ the "," ∷ inside) refl
      ∙ (other_first (the ":") (name E ∷ the "," ∷ inside) refl ∙ (other_first (name E) (the "," ∷ inside) refl ∙ (other_first (the ",") inside refl ∙ sums_apart (suc n) Ds c)))))

  summand_apart : (Δ : List ℕ) (h : Summand) → PlainSummand U Δ h → apart (print_conditional (raw_summand S (length Δ) h)) ≡ sided_summand h
  unfolding raw_summand sided_summand
  summand_apart Δ h p =
      let Γ = Δ ++ h.vars in
      let a = raw_act S h.act h.terms in
      sums_apart (length Δ) h.vars _
      ∙ (conditional_apart Γ h.conds (raw_sequence S a h.calls) p.conds
      ∙ ap (and (all_pass (λ (c : ℕ × Data). sided c.1) h.conds)) (sequence_apart Γ a h.calls p.calls ∙ ap₂ and (act_apart Γ h.act h.terms p.act p.terms) refl))

-- RIGHT SIDES AND LINES

choice_apart : (c : Conditional) (cs : List Conditional) → apart (print_choice (choice_of c cs)) ≡ and (apart (print_conditional c)) (all_pass (λ d. apart (print_conditional d)) cs)
unfolding choice_of print_choice all_pass kind among same? ℕ_discrete
choice_apart c [] = sym (and_true (apart (print_conditional c)))
choice_apart c (d ∷ cs) = then_other (print_conditional c) (print_choice (choice_of d cs)) (the "+") refl ∙ ap (and (apart (print_conditional c))) (choice_apart d cs)

right_apart : (cs : List Conditional) → apart (print_choice (right_of cs)) ≡ all_pass (λ d. apart (print_conditional d)) cs
unfolding right_of print_choice all_pass
right_apart [] = delta_apart
right_apart (c ∷ cs) = choice_apart c cs

-- names and single numerals are apart
sorts_apart : (Ds : List Name) → apart (print_sorts Ds) ≡ true
unfolding print_sorts apart watched kind next unmet among same? ℕ_discrete
sorts_apart Ds = joined_apart "#" (λ D. name D ∷ []) refl Ds ∙ all_true _ (λ D. refl) Ds

values_apart : (vs : List ℕ) → apart (print_values vs) ≡ true
unfolding print_values apart watched kind next unmet among same? ℕ_discrete
values_apart vs = joined_apart "," (λ v. numeral v ∷ []) refl vs ∙ all_true _ (λ v. refl) vs

params_apart : (ps : List (Name × Name)) → apart (print_params ps) ≡ true
unfolding print_params print_param apart watched kind next unmet among same? ℕ_discrete
params_apart [] = refl
params_apart (p ∷ ps) = bracketed_apart (joined "," print_param (p ∷ ps)) ∙ (joined_apart "," print_param refl (p ∷ ps) ∙ all_true _ (λ q. refl) (p ∷ ps))

sort_apart : (l : SortLine) → apart (print_sort l) ≡ true
unfolding print_sort apart watched kind next unmet
sort_apart l = refl

func_apart : (l : FuncLine) → apart (print_func l) ≡ true
unfolding print_func apart watched kind next among same? ℕ_discrete
func_apart l =
    then_other (print_sorts l.takes) (name l.gives ∷ the "=" ∷ print_values l.values) (the "->") refl
    ∙ ap₂ and (sorts_apart l.takes) (values_apart l.values)

takes_apart : (Ds : List Name) → apart (print_takes Ds) ≡ true
unfolding print_takes kind among same? ℕ_discrete
takes_apart [] = nothing_apart
takes_apart (D ∷ Ds) = other_first (the ":") (print_sorts (D ∷ Ds)) refl ∙ sorts_apart (D ∷ Ds)

act_line_apart : (l : ActLine) → apart (print_act l) ≡ true
unfolding print_act kind
act_line_apart l = other_first (name l.name) (print_takes l.takes) refl ∙ takes_apart l.takes

-- lines of one kind, before what follows them
lines_apart : {A : Type 0} (s : String) (w : A → List Token) → kind (the s) ≡ other → (ls : List A) (us : List Token) → apart (print_lines s w ls ++ us) ≡ and (all_pass (λ l. apart (w l)) ls) (apart us)
unfolding all all_pass
lines_apart s w e [] us = refl
lines_apart s w e (l ∷ ls) us =
    ap apart (append_assoc (line s (w l)) (print_lines s w ls) us)
    ∙ (line_apart s (w l) (print_lines s w ls ++ us) e ∙ (ap (and (apart (w l))) (lines_apart s w e ls us) ∙ sym (and_assoc (apart (w l)) _ (apart us))))

proc_apart : (U : Table) (e : ℕ) (q : Equation) → PlainEquation U q → apart (print_proc (proc_line_of U.sig e q)) ≡ all_pass sided_summand q.summands
unfolding print_proc proc_line_of kind among same? ℕ_discrete
proc_apart U e q p =
    let S = U.sig in
    let ps = numbered (param_of S) 0 q.params in
    let cs = map (raw_summand S (length q.params)) q.summands in
    other_first (name (proc_name S e)) _ refl
    ∙ (then_other (print_params ps) (print_choice (right_of cs)) (the "=") refl
    ∙ rw (params_apart ps) (right_apart cs ∙ pass_map (PlainSummand U q.params) (λ d. apart (print_conditional d)) (raw_summand S (length q.params)) sided_summand (summand_apart U q.params) q.summands p.summands))

procs_apart : (U : Table) → PlainTable U → all_pass (λ l. apart (print_proc l)) (numbered (proc_line_of U.sig) 0 U.equations) ≡ sided_table U
unfolding sided_table
procs_apart U plain =
    pass_numbered (PlainEquation U) (λ l. apart (print_proc l)) (proc_line_of U.sig) (λ (q : Equation). all_pass sided_summand q.summands) (proc_apart U) 0 U.equations plain.equations

value_apart : (v : ℕ) → apart (print_data (as_data (atom_shown (Atom.value v)))) ≡ true
unfolding as_data print_data apart watched kind next unmet
value_apart v = refl

init_apart : (U : Table) → apart (line "init" (print_init (init_line_of U.sig U.start))) ≡ true
unfolding print_init init_line_of kind among same? ℕ_discrete
init_apart U =
    let value_data : ℕ → RawData = λ v. as_data (atom_shown (Atom.value v)) in
    let vs = U.start.1 in
    let x = name (proc_name U.sig U.start.0) in
    let given = print_given (in_brackets (map value_data vs)) in
    let values : apart given ≡ true =
    given_apart (map value_data vs)
    ∙ (pass_map (λ v. Unit {0}) (λ e. apart (print_data e)) value_data (λ v. true) (λ v u. value_apart v) vs (every_of_all _ (λ v. tt) vs) ∙ all_true (λ v. true) (λ v. refl) vs) in
    ap apart (sym (append-nil (line "init" (x ∷ given)))) ∙ (line_apart "init" (x ∷ given) [] refl ∙ rw nothing_apart (and_true (apart (x ∷ given)) ∙ (other_first x given refl ∙ values)))

-- THE TOKENS OF A PRINTED SHEET ARE APART EXACTLY IF NO `==` OF THE TABLE STANDS OVER TWO VALUES.
sheet_apart : (U : Table) → PlainTable U → apart (print_sheet (printed U)) ≡ sided_table U
unfolding print_sheet printed print_proc print_init proc_line_of init_line_of sided_table kind among same? ℕ_discrete
sheet_apart U plain =
    let S = U.sig in
    let R = printed U in
    let init = print_init R.start in
    lines_apart "sort" print_sort refl R.sorts _
    ∙ rw (all_true (λ l. apart (print_sort l)) sort_apart R.sorts)
    (lines_apart "func" print_func refl R.funcs _
    ∙ rw (all_true (λ l. apart (print_func l)) func_apart R.funcs)
    (lines_apart "act" print_act refl R.acts _
    ∙ rw (all_true (λ l. apart (print_act l)) act_line_apart R.acts)
    (lines_apart "proc" print_proc refl R.procs (line "init" init)
    ∙ (ap₂ and (procs_apart U plain) (init_apart U) ∙ and_true (sided_table U)))))

pub tokens_sided : (U : Table) → PlainTable U → T (apart (print_sheet (printed U))) ↔ SidedTable U
tokens_sided U plain = rw (sheet_apart U plain) (table_is_sided U)
