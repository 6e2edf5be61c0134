-- All tokens of a right table's printed sheet are spelled right; only a name may be too long.
use Rattle.std.specs.Prelude.{◌≡◌, refl, Bool, true, false, ℕ, ◌+◌, ◌<◌, ◌≤◌, T, get_or, drop}
use mathlib.Core.List.{List, [], ◌∷◌, ◌++◌, map}
use native.Mathlib.Omega.{arith}
use Rattle.std.proofs.Math.ListN.{length, length-append, length-drop}
use Rattle.pcrl.specs.Text.{bytes, byte}
use Rattle.pcrl.specs.Limits.{max_numeral, max_size}
use Rattle.pcrl.specs.Tests.{negated, same?, among, Between, Every}
use Rattle.pcrl.specs.Bytes.{letter}
use Rattle.pcrl.specs.Tokens.{words}
use Rattle.pcrl.specs.Tree.{Name, Atom, Conditional, Sequence, Part}
use Rattle.pcrl.specs.Sheet.{Data, val, var, app, Datas, nil, cons, list_of, Act, tau, action, no_action, Operation, operation, Sig, sort_name}
use Rattle.pcrl.specs.Table.{Summand, Equation, Table}
use Rattle.pcrl.specs.Right.{RightSizes, RightFunc, free_name, RightName, RightAction, RightSig}
use Rattle.pcrl.specs.Print.{print_choice, print_proc, print_sheet}
use Rattle.pcrl.specs.Printer.{as_data, atom_shown, side, func_name, proc_name, var_name, shown, all_shown, raw_data, raw_act, raw_call, raw_sequence, raw_conditional, raw_sums, raw_summand, sort_line_of, func_line_of, act_line_of, param_of, proc_line_of, init_line_of, printed, taken}
use Rattle.laws.specs.Tests.{both_pass}
use Rattle.laws.specs.Every.{every_at, every_weaken, every_drop, every_map}
use Rattle.codec.specs.StreamLaws.{small_size}
use Rattle.printing.specs.Indexed.{SpelledName, indexed_spelled}
use Rattle.printing.specs.Plain.{PlainUse, Plain, PlainAll, PlainAct, PlainTerm, PlainCond, PlainCall, PlainSummand, PlainEquation, PlainTable}
use Rattle.printing.specs.NumberedLaws.{every_numbered}
use Rattle.printing.specs.PrintedTokens.{Spelled, SpelledData, SpelledShown, SpelledPart, SpelledSequence, SpelledConditional, value_spelled, variable_spelled, SpelledUse, operation_spelled, given_spelled, tau_spelled, named_spelled, then_spelled, wanting_spelled, side_spelled, sum_spelled, right_spelled, sort_spelled, func_spelled, act_spelled, proc_spelled, init_spelled, sheet_spelled}

-- "valid by the token rule"
right_name_spelled : (n : Name) → RightName n → SpelledName n
unfolding RightName SpelledName free_name among
right_name_spelled n h =
    let k = both_pass (letter (get_or n 0 0)) _ h.1 in
    ((h.0.0.0, h.0.1), (k.0, by (same? n (bytes "Bool")) (among n words) k.1))
  where
    by : (d : Dec (n ≡ bytes "Bool")) (c : Bool) → T (negated (elim d [ yes e ↦ true | no k ↦ c ])) → c ≡ false
    by (yes e) c t = absurd t
    by (no k) true t = absurd t
    by (no k) false t = refl

module _ (T : Table) (plain : PlainTable T) where
  abbrev S : Sig
  S = T.sig

  sort_name_spelled : (D : ℕ) → D < length T.sig.sorts → SpelledName (sort_name S D)
  unfolding sort_name
  sort_name_spelled D h = let n = plain.sort_names.count in every_at SpelledName S.sort_names [] D plain.sort_names.spelled (omega arith)

  all_sorts_spelled : (Ds : List ℕ) → Every (λ D. D < length T.sig.sorts) Ds → Every SpelledName (map (sort_name S) Ds)
  all_sorts_spelled Ds h = every_map _ SpelledName (sort_name S) sort_name_spelled Ds h

  var_name_spelled : (i : ℕ) → i ≤ max_numeral → SpelledName (var_name S i)
  var_name_spelled i h = indexed_spelled (taken S) (byte "v") i tt h

  func_name_spelled : (f : ℕ) → f < length T.sig.funcs → SpelledName (func_name S f)
  unfolding RightSig
  func_name_spelled f h = indexed_spelled (taken S) (byte "f") f tt (let k = plain.signature.1.0.0 in omega arith)

  proc_name_spelled : (e : ℕ) → e < length T.equations → SpelledName (proc_name S e)
  proc_name_spelled e h = indexed_spelled (taken S) (byte "p") e tt (let k = plain.few_equations in omega arith)

  use_spelled : (Γ : List ℕ) (o : Operation) (ds : List Data) → PlainUse T.sig Γ o ds → SpelledUse (func_name S) o
  unfolding PlainUse SpelledUse
  use_spelled Γ (Operation.written f) ds h = func_name_spelled f h.0
  use_spelled Γ Operation.not ds h = tt
  use_spelled Γ Operation.and ds h = tt
  use_spelled Γ Operation.or ds h = tt
  use_spelled Γ (Operation.equal D) ds h = tt
  use_spelled Γ Operation.unsorted ds h = tt

  -- terms over variables of the sorts Γ
  module _ (Γ : List ℕ) (few : length Γ ≤ max_numeral) where
    mutual
      unfolding Plain shown Every

      data_shown_spelled : (d : Data) → PlainTerm T Γ d → SpelledShown (shown S d)
      data_shown_spelled (val v) h = value_spelled v h
      data_shown_spelled (var i) h = variable_spelled (var_name S i) (var_name_spelled i (omega arith))
      data_shown_spelled (app f ds) h = operation_spelled (func_name S) (operation f) (all_shown S ds) (use_spelled Γ (operation f) (list_of ds) h.0) (datas_shown_spelled ds h.1)

      datas_shown_spelled : (ds : Datas) → PlainAll T.sig Γ ds → Every SpelledShown (all_shown S ds)
      datas_shown_spelled nil h = tt
      datas_shown_spelled (cons d ds) h = (data_shown_spelled d h.0, datas_shown_spelled ds h.1)

    data_spelled : (d : Data) → PlainTerm T Γ d → SpelledData (raw_data S d)
    unfolding raw_data
    data_spelled d h = (data_shown_spelled d h).anywhere

    terms_spelled : (ds : List Data) → Every (PlainTerm T Γ) ds → Every SpelledData (map (raw_data S) ds)
    terms_spelled ds h = every_map _ SpelledData (raw_data S) data_spelled ds h

    raw_act_spelled : (a : Act) (ds : List Data) → PlainAct T.sig a ds → Every (PlainTerm T Γ) ds → SpelledPart (raw_act S a ds)
    unfolding raw_act PlainAct RightSig RightAction
    raw_act_spelled tau ds h k = tau_spelled
    raw_act_spelled (action a) ds h k =
        named_spelled (get_or S.acts a no_action).name (map (raw_data S) ds) (right_name_spelled _ (every_at _ S.acts no_action a plain.signature.1.1.0.1 h).0) (terms_spelled ds k)

    sequence_spelled : (p : Part) (cs : List (ℕ × List Data)) → SpelledPart p → Every (PlainCall T Γ) cs → SpelledSequence (raw_sequence S p cs)
    unfolding raw_sequence raw_call Every print_choice
    sequence_spelled p [] h k = h
    sequence_spelled p (c ∷ cs) h k =
        then_spelled p (raw_sequence S (raw_call S c) cs) h
        (sequence_spelled (raw_call S c) cs (named_spelled (proc_name S c.0) (map (raw_data S) c.1) (proc_name_spelled c.0 k.0.0) (terms_spelled c.1 k.0.1)) k.1)

    conditional_spelled : (cs : List (ℕ × Data)) (p : Sequence) → Every (PlainCond T Γ) cs → SpelledSequence p
        → SpelledConditional (raw_conditional S cs p)
    unfolding raw_conditional Every print_choice
    conditional_spelled [] p h k = k
    conditional_spelled (c ∷ cs) p h k =
        wanting_spelled c.0 (raw_data S c.1) (side (raw_conditional S cs p)) (data_spelled c.1 h.0.1) (side_spelled (raw_conditional S cs p) (conditional_spelled cs p h.1 k))

  sums_spelled : (n : ℕ) (Ds : List ℕ) (c : Conditional) → n + length Ds ≤ max_numeral → Every (λ D. D < length T.sig.sorts) Ds → SpelledConditional c
      → SpelledConditional (raw_sums S n Ds c)
  unfolding raw_sums Every
  sums_spelled n [] c l h k = k
  sums_spelled n (D ∷ Ds) c l h k =
      sum_spelled (var_name S n) (sort_name S D) _ (var_name_spelled n (omega arith)) (sort_name_spelled D h.0) (sums_spelled _ Ds c (omega arith) h.1 k)

  summand_spelled : (Δ : List ℕ) (h : Summand) → PlainSummand T Δ h → SpelledConditional (raw_summand S (length Δ) h)
  unfolding raw_summand
  summand_spelled Δ h p =
      let Γ = Δ ++ h.vars in
      let few = p.few in
      let n = length-append Δ h.vars in
      let l : length Γ ≤ max_numeral = omega arith in
      sums_spelled (length Δ) h.vars _ (omega arith) p.vars
      (conditional_spelled Γ l h.conds _ p.conds
      (sequence_spelled Γ l (raw_act S h.act h.terms) h.calls (raw_act_spelled Γ l h.act h.terms p.act p.terms) p.calls))

  proc_line_spelled : (e : ℕ) (q : Equation) → e < length T.equations → PlainEquation T q → Spelled (print_proc (proc_line_of S e q))
  unfolding proc_line_of param_of
  proc_line_spelled e q w p =
      let few = p.few in
      proc_spelled (proc_line_of S e q) (proc_name_spelled e w)
      (every_numbered _ _ (param_of S) 0 q.params (λ k D v s. (var_name_spelled k (omega arith), sort_name_spelled D s)) p.params)
      (right_spelled _ (every_map _ SpelledConditional (raw_summand S (length q.params)) (summand_spelled q.params) q.summands p.summands))

  -- ALL TOKENS OF THE PRINTED SHEET ARE SPELLED RIGHT.
  pub printed_spelled : Spelled (print_sheet (printed T))
  unfolding printed sort_line_of func_line_of act_line_of init_line_of RightSig RightSizes RightFunc RightAction
  printed_spelled =
      let sig = plain.signature in
      let sorts = T.sig.sorts in
      let some_sort = sig.0.0.0.0 in
      sheet_spelled (printed T)
      (every_numbered (Between 1 max_size) _ (sort_line_of S) 1 (drop 1 sorts)
      (λ D n w s. let l = length-drop 1 sorts in sort_spelled (sort_line_of S D n) (sort_name_spelled D (omega arith)) (omega arith))
      (every_drop _ 1 sorts sig.0.0.1))
      (every_numbered (RightFunc sorts) _ (func_line_of S) 0 T.sig.funcs
      (λ f g w r. func_spelled (func_line_of S f g) (func_name_spelled f (omega arith)) (all_sorts_spelled g.takes r.0.1) (sort_name_spelled g.gives r.1.0)
      (every_weaken _ _ (λ v k. omega (arith, small_size sorts g.gives sig.0)) g.values r.1.1.1))
      sig.1.0.1)
      (every_map (RightAction sorts) _ (act_line_of S) (λ a r. act_spelled (act_line_of S a) (right_name_spelled a.name r.0) (all_sorts_spelled a.takes r.1.1)) S.acts sig.1.1.0.1)
      (every_numbered (PlainEquation T) _ (proc_line_of S) 0 T.equations (λ e q w p. proc_line_spelled e q (omega arith) p) plain.equations)
      (init_spelled (init_line_of S T.start) (proc_name_spelled T.start.0 plain.start) (given_spelled _ (every_map _ SpelledData (λ v. as_data (atom_shown (Atom.value v))) (λ v h. (value_spelled v h).anywhere) T.start.1 plain.values)))
