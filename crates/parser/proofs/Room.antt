-- The cells of a tree are at most three for each of its tokens.
use mathlib.Core.List.{List, [], ◌∷◌, ◌++◌}
use mathlib.Core.Option.{Option, none, some}
use Prim.Native.Nat.{suc, ◌+◌, ◌*◌, ◌≤◌}
use Prim.Native.String.{String}
use native.Mathlib.Omega.{arith}
use lib.ListN.{length, length-append}
use Rattle.pcrl.specs.Tokens.{Token, name, numeral, the}
use Rattle.pcrl.specs.Reader.{all}
use Rattle.pcrl.specs.Tree.{Name, RawData, Conjunction, Comparison, Negation, Atom, RawDatas, Choice, Conditional, Sequence, Part, SortLine, FuncLine, ActLine, ProcLine, InitLine, RawSheet}
use Rattle.pcrl.specs.Print.{bracketed, joined, print_data, print_conjunction, print_comparison, print_negation, print_atom, print_datas, print_given, print_choice, print_conditional, print_sequence, print_part, line, print_lines, print_sorts, print_values, print_sort, print_func, print_takes, print_act, print_param, print_params, print_proc, print_init, print_sheet}
use Rattle.parser.specs.Cells.{Symbol, enc_name, enc_numeral, enc_param, enc_data, enc_conjunction, enc_ors, enc_ands, enc_comparison, enc_negation, enc_atom, enc_datas, enc_call, enc_choice, enc_conditional, enc_sequence, enc_part, enc_items, enc_sort, enc_func, enc_act, enc_proc, enc_init, enc_sheet}

mutual
  unfolding enc_ors print_data bracketed

  ors_room : (d : RawData) → length (enc_ors d) ≤ 3 * length (print_data d) + 1
  ors_room (RawData.only c) = omega (arith, ands_room c)
  ors_room (RawData.or c d) = omega (arith, ands_room c, ors_room d, length-append (enc_conjunction c) (enc_ors d), length-append (print_conjunction c) (the "\\/" ∷ print_data d))

  ands_room : (c : Conjunction) → length (enc_ands c) ≤ 3 * length (print_conjunction c)
  ands_room (Conjunction.single c) = comparison_room c
  ands_room (Conjunction.and c d) = omega (arith, comparison_room c, ands_room d, length-append (enc_comparison c) (enc_ands d), length-append (print_comparison c) (the "/\\" ∷ print_conjunction d))

  comparison_room : (c : Comparison) → length (enc_comparison c) ≤ 3 * length (print_comparison c)
  comparison_room (Comparison.plain a) = omega (arith, negation_room a)
  comparison_room (Comparison.equal a b) = omega (arith, negation_room a, negation_room b, length-append (enc_negation a) (enc_negation b), length-append (print_negation a) (the "==" ∷ print_negation b))

  negation_room : (a : Negation) → length (enc_negation a) + 1 ≤ 3 * length (print_negation a)
  negation_room (Negation.atom a) = atom_room a
  negation_room (Negation.not a) = omega (arith, negation_room a)

  atom_room : (a : Atom) → length (enc_atom a) + 1 ≤ 3 * length (print_atom a)
  atom_room (Atom.value v) = omega arith
  atom_room (Atom.variable x) = omega arith
  atom_room (Atom.apply x ds) = omega (arith, datas_room ds, length-append (print_datas ds) (the ")" ∷ []))
  atom_room (Atom.group d) = omega (arith, ors_room d, length-append (print_data d) (the ")" ∷ []))

  datas_room : (ds : RawDatas) → length (enc_datas ds) ≤ 3 * length (print_datas ds) + 3
  datas_room (RawDatas.one d) = omega (arith, ors_room d)
  datas_room (RawDatas.more d ds) = omega (arith, ors_room d, datas_room ds, length-append (enc_data d) (enc_datas ds), length-append (print_data d) (the "," ∷ print_datas ds))

call_room : (x : Name) (ds : Option RawDatas) → length (enc_call x ds) + 1 ≤ 3 * suc (length (print_given ds))
unfolding enc_call print_given bracketed
call_room x none = omega arith
call_room x (some ds) = omega (arith, datas_room ds, length-append (print_datas ds) (the ")" ∷ []))

mutual
  unfolding enc_choice print_choice bracketed

  choice_room : (c : Choice) → length (enc_choice c) ≤ 3 * length (print_choice c) + 2
  choice_room (Choice.only c) = omega (arith, conditional_room c)
  choice_room (Choice.plus c d) = omega (arith, conditional_room c, choice_room d, length-append (enc_conditional c) (enc_choice d), length-append (print_conditional c) (the "+" ∷ print_choice d))

  conditional_room : (c : Conditional) → length (enc_conditional c) ≤ 3 * length (print_conditional c) + 1
  conditional_room (Conditional.plain p) = omega (arith, sequence_room p)
  conditional_room (Conditional.cond p c q) =
      omega (
        arith,
        sequence_room p,
        ors_room c,
        sequence_room q,
        length-append (enc_sequence p) (enc_data c ++ enc_sequence q),
        length-append (enc_data c) (enc_sequence q),
        length-append (print_sequence p) (the "<|" ∷ (print_data c ++ (the "|>" ∷ print_sequence q))),
        length-append (print_data c) (the "|>" ∷ print_sequence q),
      )

  sequence_room : (p : Sequence) → length (enc_sequence p) ≤ 3 * length (print_sequence p)
  sequence_room (Sequence.last p) = omega (arith, part_room p)
  sequence_room (Sequence.then p q) = omega (arith, part_room p, sequence_room q, length-append (enc_part p) (enc_sequence q), length-append (print_part p) (the "." ∷ print_sequence q))

  part_room : (p : Part) → length (enc_part p) + 1 ≤ 3 * length (print_part p)
  part_room Part.delta = omega arith
  part_room Part.tau = omega arith
  part_room (Part.named x ds) = call_room x ds
  part_room (Part.sum v D p) = omega (arith, choice_room p, length-append (print_choice p) (the ")" ∷ []))
  part_room (Part.group p) = omega (arith, choice_room p, length-append (print_choice p) (the ")" ∷ []))

-- ---- lists and lines
items_room : {A : Type 0} (t : String) (enc : A → List Symbol) (w : A → List Token) → ((a : A) → length (enc a) + 1 ≤ 3 * length (w a)) → (l : List A) → length (enc_items enc l) ≤ 3 * length (joined t w l) + 1
unfolding enc_items joined
items_room t enc w h [] = omega arith
items_room t enc w h (a ∷ []) = omega (arith, h a, length-append (enc a) (enc_items enc []))
items_room t enc w h (a ∷ b ∷ l) = omega (arith, h a, items_room t enc w h (b ∷ l), length-append (enc a) (enc_items enc (b ∷ l)), length-append (w a) (the t ∷ joined t w (b ∷ l)))

sorts_room : (Ds : List Name) → length (enc_items enc_name Ds) ≤ 3 * length (print_sorts Ds) + 1
unfolding print_sorts
sorts_room Ds = items_room "#" enc_name (λ D. name D ∷ []) (λ D. omega arith) Ds

sort_room : (l : SortLine) → length (enc_sort l) ≤ 3 * length (line "sort" (print_sort l))
unfolding enc_sort print_sort line
sort_room l = omega arith

func_room : (l : FuncLine) → length (enc_func l) ≤ 3 * length (line "func" (print_func l))
unfolding enc_func print_func print_values line
func_room l =
    let v = items_room "," enc_numeral (λ v. numeral v ∷ []) (λ v. omega arith) l.values in
    omega (
      arith,
      sorts_room l.takes,
      length-append (enc_items enc_name l.takes) (Symbol.token (name l.gives) ∷ enc_items enc_numeral l.values),
      length-append (print_sorts l.takes) (the "->" ∷ name l.gives ∷ the "=" ∷ print_values l.values),
      length-append (print_sorts l.takes ++ (the "->" ∷ name l.gives ∷ the "=" ∷ print_values l.values)) (the ";" ∷ []),
    )

takes_room : (Ds : List Name) → length (enc_items enc_name Ds) ≤ 3 * length (print_takes Ds) + 1
unfolding print_takes enc_items
takes_room [] = omega arith
takes_room (D ∷ Ds) = omega (arith, sorts_room (D ∷ Ds))

act_room : (l : ActLine) → length (enc_act l) ≤ 3 * length (line "act" (print_act l))
unfolding enc_act print_act line
act_room l = omega (arith, takes_room l.takes, length-append (print_takes l.takes) (the ";" ∷ []))

params_room : (ps : List (Name × Name)) → length (enc_items enc_param ps) ≤ 3 * length (print_params ps) + 1
unfolding print_params print_param enc_items bracketed
params_room [] = omega arith
params_room (p ∷ ps) = omega (arith, items_room "," enc_param print_param (λ p. omega arith) (p ∷ ps), length-append (joined "," print_param (p ∷ ps)) (the ")" ∷ []))

proc_room : (l : ProcLine) → length (enc_proc l) ≤ 3 * length (line "proc" (print_proc l))
unfolding enc_proc print_proc line
proc_room l =
    omega (
      arith,
      params_room l.params,
      choice_room l.right,
      length-append (enc_items enc_param l.params) (enc_choice l.right),
      length-append (print_params l.params) (the "=" ∷ print_choice l.right),
      length-append (print_params l.params ++ (the "=" ∷ print_choice l.right)) (the ";" ∷ []),
    )

init_room : (l : InitLine) → length (enc_init l) ≤ 3 * length (line "init" (print_init l))
unfolding enc_init print_init line
init_room l = omega (arith, call_room l.name l.data_given, length-append (print_given l.data_given) (the ";" ∷ []))

lines_room : {A : Type 0} (t : String) (enc : A → List Symbol) (w : A → List Token) → ((a : A) → length (enc a) ≤ 3 * length (line t (w a))) → (l : List A) → length (all enc l) ≤ 3 * length (print_lines t w l)
unfolding all
lines_room t enc w h [] = omega arith
lines_room t enc w h (a ∷ l) = omega (arith, h a, lines_room t enc w h l, length-append (enc a) (all enc l), length-append (line t (w a)) (print_lines t w l))

-- THREE CELLS A TOKEN ARE ROOM ENOUGH.
pub sheet_room : (R : RawSheet) → length (enc_sheet R) ≤ 3 * length (print_sheet R)
unfolding enc_sheet print_sheet
sheet_room R =
    let e₄ = all enc_proc R.procs ++ enc_init R.start in
    let e₃ = all enc_act R.acts ++ e₄ in
    let e₂ = all enc_func R.funcs ++ e₃ in
    let p₄ = print_lines "proc" print_proc R.procs ++ line "init" (print_init R.start) in
    let p₃ = print_lines "act" print_act R.acts ++ p₄ in
    let p₂ = print_lines "func" print_func R.funcs ++ p₃ in
    omega (
      arith,
      lines_room "sort" enc_sort print_sort sort_room R.sorts,
      lines_room "func" enc_func print_func func_room R.funcs,
      lines_room "act" enc_act print_act act_room R.acts,
      lines_room "proc" enc_proc print_proc proc_room R.procs,
      init_room R.start,
      length-append (all enc_sort R.sorts) e₂,
      length-append (all enc_func R.funcs) e₃,
      length-append (all enc_act R.acts) e₄,
      length-append (all enc_proc R.procs) (enc_init R.start),
      length-append (print_lines "sort" print_sort R.sorts) p₂,
      length-append (print_lines "func" print_func R.funcs) p₃,
      length-append (print_lines "act" print_act R.acts) p₄,
      length-append (print_lines "proc" print_proc R.procs) (line "init" (print_init R.start)),
    )
