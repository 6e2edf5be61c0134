-- Change request #101: "Benches that receive only a table want text: a printer makes a sheet from it."
use Rattle.std.specs.Prelude.{List, [], ◌∷◌, ◌++◌, map, ℕ, zero, suc, length, drop, get_or}
use Rattle.std.proofs.Math.Option.{Option, none, some}
use Rattle.pcrl.specs.Text.{byte}
use Rattle.pcrl.specs.Letters.{indexed}
use Rattle.pcrl.specs.Tree.{Name, RawData, Conjunction, Comparison, Negation, Atom, RawDatas, Choice, Conditional, Sequence, Part, SortLine, FuncLine, ActLine, ProcLine, InitLine, RawSheet}
use Rattle.pcrl.specs.Sheet.{Data, val, var, app, Datas, nil, cons, Act, tau, action, Func, Action, Sig, no_action, Operation, operation, sort_name}
use Rattle.pcrl.specs.Table.{Summand, Equation, Table}
use Rattle.pcrl.specs.Right.{action_names}
use Rattle.pcrl.specs.Print.{print_sheet}
use Rattle.pcrl.specs.Render.{render}

-- what is made of each element of a list and its number, counted from i on
unfoldable pub numbered : {A B : Type 0} → (ℕ → A → B) → ℕ → List A → List B
numbered f i [] = []
numbered f i (a ∷ l) = f i a ∷ numbered f (suc i) l

-- Data as its tightest form without brackets of its own: "the printer writes the fewest brackets that read back the same".
pub data Shown : Type 0 where
  data_shown : RawData → Shown
  conjunction_shown : Conjunction → Shown
  comparison_shown : Comparison → Shown
  negation_shown : Negation → Shown
  atom_shown : Atom → Shown

-- the forms around a form
abbrev pub of_atom : Atom → Negation
of_atom a = Negation.atom a

abbrev pub of_negation : Negation → Comparison
of_negation a = Comparison.plain a

abbrev pub of_comparison : Comparison → Conjunction
of_comparison c = Conjunction.single c

abbrev pub of_conjunction : Conjunction → RawData
of_conjunction c = RawData.only c

unfoldable pub as_data : Shown → RawData
as_data (data_shown d) = d
as_data (conjunction_shown c) = of_conjunction c
as_data (comparison_shown c) = of_conjunction (of_comparison c)
as_data (negation_shown a) = of_conjunction (of_comparison (of_negation a))
as_data (atom_shown a) = of_conjunction (of_comparison (of_negation (of_atom a)))

-- in brackets where the form is looser than its place
unfoldable pub as_negation : Shown → Negation
as_negation (data_shown d) = of_atom (Atom.group d)
as_negation (conjunction_shown c) = of_atom (Atom.group (of_conjunction c))
as_negation (comparison_shown c) = of_atom (Atom.group (of_conjunction (of_comparison c)))
as_negation (negation_shown a) = a
as_negation (atom_shown a) = of_atom a

unfoldable pub as_comparison : Shown → Comparison
as_comparison (data_shown d) = of_negation (of_atom (Atom.group d))
as_comparison (conjunction_shown c) = of_negation (of_atom (Atom.group (of_conjunction c)))
as_comparison (comparison_shown c) = c
as_comparison (negation_shown a) = of_negation a
as_comparison (atom_shown a) = of_negation (of_atom a)

unfoldable pub as_conjunction : Shown → Conjunction
as_conjunction (data_shown d) = of_comparison (of_negation (of_atom (Atom.group d)))
as_conjunction (conjunction_shown c) = c
as_conjunction (comparison_shown c) = of_comparison c
as_conjunction (negation_shown a) = of_comparison (of_negation a)
as_conjunction (atom_shown a) = of_comparison (of_negation (of_atom a))

-- "the last two grouping to the left": the right operand behind all of the left one
unfoldable pub or_behind : RawData → Conjunction → RawData
or_behind (RawData.only c) e = RawData.or c (RawData.only e)
or_behind (RawData.or c d) e = RawData.or c (or_behind d e)

unfoldable pub and_behind : Conjunction → Comparison → Conjunction
and_behind (Conjunction.single c) e = Conjunction.and c (Conjunction.single e)
and_behind (Conjunction.and c d) e = Conjunction.and c (and_behind d e)

-- data in brackets, if there are any
unfoldable pub listed : RawData → List RawData → RawDatas
listed d [] = RawDatas.one d
listed d (e ∷ ds) = RawDatas.more d (listed e ds)

unfoldable pub in_brackets : List RawData → Option RawDatas
in_brackets [] = none
in_brackets (d ∷ ds) = some (listed d ds)

-- a function's name with bracketed data; no function of a right table is without
unfoldable pub applied : Name → Option RawDatas → Atom
applied x none = Atom.variable x
applied x (some ds) = Atom.apply x ds

-- an operand by its number
unfoldable pub operand : ℕ → List Shown → Shown
operand i ds = get_or ds i (atom_shown (Atom.value 0))

-- a function with these data: f names it if it is a written one
unfoldable pub shown_by : (ℕ → Name) → Operation → List Shown → Shown
shown_by f (Operation.written g) ds = atom_shown (applied (f g) (in_brackets (map as_data ds)))
shown_by f Operation.not ds = negation_shown (Negation.not (as_negation (operand 0 ds)))
shown_by f (Operation.equal D) ds = comparison_shown (Comparison.equal (as_negation (operand 0 ds)) (as_negation (operand 1 ds)))
shown_by f Operation.and ds = conjunction_shown (and_behind (as_conjunction (operand 0 ds)) (as_comparison (operand 1 ds)))
shown_by f Operation.or ds = data_shown (or_behind (as_data (operand 0 ds)) (as_conjunction (operand 1 ds)))
shown_by f Operation.unsorted ds = operand 0 ds

-- "brackets only where needed": around a conditional that is a side of a conditional
unfoldable pub side : Conditional → Sequence
side (Conditional.plain p) = p
side (Conditional.cond p c q) = Sequence.last (Part.group (Choice.only (Conditional.cond p c q)))

-- "a wanted 0 as delta in the yes part"
unfoldable pub wanting : ℕ → RawData → Sequence → Conditional
wanting zero c p = Conditional.cond (Sequence.last Part.delta) c p
wanting (suc w) c p = Conditional.cond p c (Sequence.last Part.delta)

-- conditionals joined by `+`
unfoldable pub choice_of : Conditional → List Conditional → Choice
choice_of c [] = Choice.only c
choice_of c (d ∷ cs) = Choice.plus c (choice_of d cs)

-- "no summand is delta"
unfoldable pub right_of : List Conditional → Choice
right_of [] = Choice.only (Conditional.plain (Sequence.last Part.delta))
right_of (c ∷ cs) = choice_of c cs

module _ (S : Sig) where
  -- #104: "The printer uses these names instead of s and an index, and the other letters avoid them too."
  unfoldable pub taken : List Name
  taken = S.sort_names ++ action_names S.acts

  -- "functions, processes and variables get the letters .. f, p, v and their index"
  abbrev pub func_name : ℕ → Name
  func_name f = indexed taken (byte "f") f

  abbrev pub proc_name : ℕ → Name
  proc_name e = indexed taken (byte "p") e

  abbrev pub var_name : ℕ → Name
  var_name i = indexed taken (byte "v") i

  unfoldable mutual
    pub shown : Data → Shown
    shown (val v) = atom_shown (Atom.value v)
    shown (var i) = atom_shown (Atom.variable (var_name i))
    shown (app f ds) = shown_by func_name (operation f) (all_shown ds)

    pub all_shown : Datas → List Shown
    all_shown nil = []
    all_shown (cons d ds) = shown d ∷ all_shown ds

  unfoldable pub raw_data : Data → RawData
  raw_data d = as_data (shown d)

  abbrev pub raw_given : List Data → Option RawDatas
  raw_given ds = in_brackets (map raw_data ds)

  unfoldable pub raw_act : Act → List Data → Part
  raw_act tau ds = Part.tau
  raw_act (action a) ds = Part.named (get_or S.acts a no_action).name (raw_given ds)

  unfoldable pub raw_call : ℕ × List Data → Part
  raw_call c = Part.named (proc_name c.0) (raw_given c.1)

  -- a part, and the calls behind it
  unfoldable pub raw_sequence : Part → List (ℕ × List Data) → Sequence
  raw_sequence p [] = Sequence.last p
  raw_sequence p (c ∷ cs) = Sequence.then p (raw_sequence (raw_call c) cs)

  -- "conditions inside them in order"
  unfoldable pub raw_conditional : List (ℕ × Data) → Sequence → Conditional
  raw_conditional [] p = Conditional.plain p
  raw_conditional (c ∷ cs) p = wanting c.0 (raw_data c.1) (side (raw_conditional cs p))

  -- "Sums come outermost in order": their variables are numbered from n on
  unfoldable pub raw_sums : ℕ → List ℕ → Conditional → Conditional
  raw_sums n [] c = c
  raw_sums n (D ∷ Ds) c = Conditional.plain (Sequence.last (Part.sum (var_name n) (sort_name S D) (Choice.only (raw_sums (suc n) Ds c))))

  -- a summand, behind n parameters
  unfoldable pub raw_summand : ℕ → Summand → Conditional
  raw_summand n h = raw_sums n h.vars (raw_conditional h.conds (raw_sequence (raw_act h.act h.terms) h.calls))

  unfoldable pub sort_line_of : ℕ → ℕ → SortLine
  sort_line_of D n = record { name = sort_name S D; size = n }

  unfoldable pub func_line_of : ℕ → Func → FuncLine
  func_line_of f g = record { name = func_name f; takes = map (sort_name S) g.takes; gives = sort_name S g.gives; values = g.values }

  unfoldable pub act_line_of : Action → ActLine
  act_line_of a = record { name = a.name; takes = map (sort_name S) a.takes }

  unfoldable pub param_of : ℕ → ℕ → Name × Name
  param_of i D = (var_name i, sort_name S D)

  unfoldable pub proc_line_of : ℕ → Equation → ProcLine
  proc_line_of e q = record {
    name = proc_name e;
    params = numbered param_of 0 q.params;
    right = right_of (map (raw_summand (length q.params)) q.summands);
  }

  unfoldable pub init_line_of : ℕ × List ℕ → InitLine
  init_line_of s = record { name = proc_name s.0; data_given = in_brackets (map (λ v. as_data (atom_shown (Atom.value v))) s.1) }

-- the tree of the printed sheet
unfoldable pub printed : Table → RawSheet
printed T =
    let S = T.sig in
    record {
      sorts = numbered (sort_line_of S) 1 (drop 1 S.sorts);
      funcs = numbered (func_line_of S) 0 S.funcs;
      acts = map (act_line_of S) S.acts;
      procs = numbered (proc_line_of S) 0 T.equations;
      start = init_line_of S T.start;
    }

-- the text of a table
unfoldable pub table_text : Table → List ℕ
table_text T = render (print_sheet (printed T))
