-- Sums stand in one another no deeper than brackets are open: each sum opens one, and closes it behind its term.
use Rattle.std.specs.Prelude.{List, [], ◌∷◌, ◌++◌, ℕ, ◌≤◌}
use Rattle.std.proofs.Math.Option.{Option, none, some}
use Rattle.std.proofs.Common.{arith}
use Rattle.pcrl.specs.Limits.{max_open}
use Rattle.pcrl.specs.Tests.{Every}
use Rattle.pcrl.specs.Tokens.{name, numeral, the, Shallow}
use Rattle.pcrl.specs.Tree.{Name, RawData, Conjunction, Comparison, Negation, Atom, RawDatas, Choice, Conditional, Sequence, Part, SortLine, FuncLine, ActLine, ProcLine, RawSheet}
use Rattle.pcrl.specs.Print.{print_data, print_conjunction, print_comparison, print_negation, print_atom, print_datas, print_given, print_choice, print_conditional, print_sequence, print_part, line, print_lines, print_sorts, print_values, print_sort, print_func, print_takes, print_act, print_param, print_params, print_proc, print_init, print_sheet}
use Rattle.resolver.specs.Raw.{sum_depth, conditional_depth, sequence_depth, part_depth}
use Rattle.sheets.specs.Rising.{Rises, rises_none, rises_less, rises_append, rises_flat, rises_bracketed, rises_joined, rises_lines, lines_below}

-- ---- data
mutual
  unfolding print_data

  data_rises : {n : ℕ} (d : RawData) → Rises n 0 (print_data d)
  data_rises (RawData.only c) = conjunction_rises c
  data_rises (RawData.or c d) = rises_append (conjunction_rises c) (rises_flat (the "\\/") tt (data_rises d))

  conjunction_rises : {n : ℕ} (c : Conjunction) → Rises n 0 (print_conjunction c)
  conjunction_rises (Conjunction.single c) = comparison_rises c
  conjunction_rises (Conjunction.and c d) = rises_append (comparison_rises c) (rises_flat (the "/\\") tt (conjunction_rises d))

  comparison_rises : {n : ℕ} (c : Comparison) → Rises n 0 (print_comparison c)
  comparison_rises (Comparison.plain a) = negation_rises a
  comparison_rises (Comparison.equal a b) = rises_append (negation_rises a) (rises_flat (the "==") tt (negation_rises b))

  negation_rises : {n : ℕ} (a : Negation) → Rises n 0 (print_negation a)
  negation_rises (Negation.atom a) = atom_rises a
  negation_rises (Negation.not a) = rises_flat (the "!") tt (negation_rises a)

  atom_rises : {n : ℕ} (a : Atom) → Rises n 0 (print_atom a)
  atom_rises (Atom.value v) = rises_flat (numeral v) tt rises_none
  atom_rises (Atom.variable x) = rises_flat (name x) tt rises_none
  atom_rises (Atom.apply x ds) = rises_flat (name x) tt (rises_less 0 (omega arith) (rises_bracketed (datas_rise ds)))
  atom_rises (Atom.group d) = rises_less 0 (omega arith) (rises_bracketed (data_rises d))

  datas_rise : {n : ℕ} (ds : RawDatas) → Rises n 0 (print_datas ds)
  datas_rise (RawDatas.one d) = data_rises d
  datas_rise (RawDatas.more d ds) = rises_append (data_rises d) (rises_flat (the ",") tt (datas_rise ds))

given_rises : {n : ℕ} (ds : Option RawDatas) → Rises n 0 (print_given ds)
unfolding print_given
given_rises none = rises_none
given_rises (some ds) = rises_less 0 (omega arith) (rises_bracketed (datas_rise ds))

-- ---- right sides
mutual
  unfolding print_choice sum_depth

  -- EACH SUM IN A SUM IS ONE MORE OPEN BRACKET.
  pub choice_rises : {n : ℕ} (c : Choice) → Rises n (sum_depth c) (print_choice c)
  choice_rises (Choice.only c) = conditional_rises c
  choice_rises (Choice.plus c d) = rises_append (conditional_rises c) (rises_flat (the "+") tt (choice_rises d))

  conditional_rises : {n : ℕ} (c : Conditional) → Rises n (conditional_depth c) (print_conditional c)
  conditional_rises (Conditional.plain p) = sequence_rises p
  conditional_rises (Conditional.cond p c q) =
      let behind = rises_append (data_rises c) (rises_flat (the "|>") tt (sequence_rises q)) in
      rises_append (sequence_rises p) (rises_flat (the "<|") tt (rises_less (sequence_depth q) (omega arith) behind))

  sequence_rises : {n : ℕ} (p : Sequence) → Rises n (sequence_depth p) (print_sequence p)
  sequence_rises (Sequence.last p) = part_rises p
  sequence_rises (Sequence.then p q) = rises_append (part_rises p) (rises_flat (the ".") tt (sequence_rises q))

  part_rises : {n : ℕ} (p : Part) → Rises n (part_depth p) (print_part p)
  part_rises Part.delta = rises_flat (the "delta") tt rises_none
  part_rises Part.tau = rises_flat (the "tau") tt rises_none
  part_rises (Part.named x ds) = rises_flat (name x) tt (given_rises ds)
  part_rises (Part.sum v D p) = rises_flat (the "sum") tt (rises_bracketed (rises_flat (name v) tt (rises_flat (the ":") tt (rises_flat (name D) tt (rises_flat (the ",") tt (choice_rises p))))))
  part_rises (Part.group p) = rises_less (sum_depth p) (omega arith) (rises_bracketed (choice_rises p))

-- ---- lines
sorts_rise : {n : ℕ} (Ds : List Name) → Rises n 0 (print_sorts Ds)
unfolding print_sorts
sorts_rise Ds = rises_joined "#" (λ D. name D ∷ []) tt (λ D. rises_flat (name D) tt rises_none) Ds

sort_rises : {n : ℕ} (l : SortLine) → Rises n 0 (print_sort l)
unfolding print_sort
sort_rises l = rises_flat (name l.name) tt (rises_flat (numeral l.size) tt rises_none)

func_rises : {n : ℕ} (l : FuncLine) → Rises n 0 (print_func l)
unfolding print_func print_values
func_rises l =
    let values = rises_joined "," (λ v. numeral v ∷ []) tt (λ v. rises_flat (numeral v) tt rises_none) l.values in
    let gives = rises_flat (the "->") tt (rises_flat (name l.gives) tt (rises_flat (the "=") tt values)) in
    rises_flat (name l.name) tt (rises_flat (the ":") tt (rises_append (sorts_rise l.takes) gives))

takes_rise : {n : ℕ} (Ds : List Name) → Rises n 0 (print_takes Ds)
unfolding print_takes
takes_rise [] = rises_none
takes_rise (D ∷ Ds) = rises_flat (the ":") tt (sorts_rise (D ∷ Ds))

act_rises : {n : ℕ} (l : ActLine) → Rises n 0 (print_act l)
unfolding print_act
act_rises l = rises_flat (name l.name) tt (takes_rise l.takes)

param_rises : {n : ℕ} (p : Name × Name) → Rises n 0 (print_param p)
unfolding print_param
param_rises p = rises_flat (name p.0) tt (rises_flat (the ":") tt (rises_flat (name p.1) tt rises_none))

params_rise : {n : ℕ} (ps : List (Name × Name)) → Rises n 0 (print_params ps)
unfolding print_params
params_rise [] = rises_none
params_rise (p ∷ ps) = rises_less 0 (omega arith) (rises_bracketed (rises_joined "," print_param tt param_rises (p ∷ ps)))

proc_rises : {n : ℕ} (l : ProcLine) → Rises n (sum_depth l.right) (print_proc l)
unfolding print_proc
proc_rises l =
    let right = rises_append (params_rise l.params) (rises_flat (the "=") tt (choice_rises l.right)) in
    rises_flat (name l.name) tt (rises_less (sum_depth l.right) (omega arith) right)

-- WHERE NEVER MORE THAN 16 BRACKETS ARE OPEN, SUMS STAND AT MOST 16 DEEP.
pub sums_below : (R : RawSheet) → Shallow (print_sheet R) → Every (λ (l : ProcLine). sum_depth l.right ≤ max_open) R.procs
unfolding print_sheet Shallow
sums_below R h =
    let procs = print_lines "proc" print_proc R.procs ++ line "init" (print_init R.start) in
    let acts = print_lines "act" print_act R.acts ++ procs in
    let funcs = print_lines "func" print_func R.funcs ++ acts in
    let past_sorts = (rises_lines {n = 0} "sort" print_sort tt sort_rises R.sorts).behind funcs in
    let past_funcs = (rises_lines {n = 0} "func" print_func tt func_rises R.funcs).behind acts in
    let past_acts = (rises_lines {n = 0} "act" print_act tt act_rises R.acts).behind procs in
    lines_below {n = 0} "proc" print_proc tt (λ l. sum_depth l.right) max_open (line "init" (print_init R.start)) proc_rises R.procs (omega arith)
