-- The form of document 01, written from the tree: which tokens stand for it.
-- The tree keeps its brackets, so each part says all its tokens and nothing is put in. (The parser is its inverse: a theorem of the crate grammar.)
use Rattle.std.specs.Prelude.{List, [], ◌∷◌, ◌++◌, ℕ}
use Rattle.std.proofs.Math.Option.{Option, none, some}
use Prim.Native.String.{String}
use Rattle.pcrl.specs.Tokens.{Token, name, numeral, the}
use Rattle.pcrl.specs.Reader.{all}
use Rattle.pcrl.specs.Tree.{Name, RawData, Conjunction, Comparison, Negation, Atom, RawDatas, Choice, Conditional, Sequence, Part, SortLine, FuncLine, ActLine, ProcLine, InitLine, RawSheet}

-- what is between two brackets
unfoldable pub bracketed : List Token → List Token
bracketed ts = the "(" ∷ (ts ++ (the ")" ∷ []))

-- what is written for each element, with a sign between any two
unfoldable pub joined : {A : Type 0} → String → (A → List Token) → List A → List Token
joined s w [] = []
joined s w (a ∷ []) = w a
joined s w (a ∷ b ∷ l) = w a ++ (the s ∷ joined s w (b ∷ l))

unfoldable mutual
  unfolding bracketed

  -- conjunctions joined by `\/`
  pub print_data : RawData → List Token
  print_data (RawData.only c) = print_conjunction c
  print_data (RawData.or c d) = print_conjunction c ++ (the "\\/" ∷ print_data d)

  -- comparisons joined by `/\`
  pub print_conjunction : Conjunction → List Token
  print_conjunction (Conjunction.single c) = print_comparison c
  print_conjunction (Conjunction.and c d) = print_comparison c ++ (the "/\\" ∷ print_conjunction d)

  pub print_comparison : Comparison → List Token
  print_comparison (Comparison.plain a) = print_negation a
  print_comparison (Comparison.equal a b) = print_negation a ++ (the "==" ∷ print_negation b)

  pub print_negation : Negation → List Token
  print_negation (Negation.atom a) = print_atom a
  print_negation (Negation.not a) = the "!" ∷ print_negation a

  -- "Data is a numeral, a variable, or a function name with bracketed data." "Brackets in data are allowed"
  pub print_atom : Atom → List Token
  print_atom (Atom.value v) = numeral v ∷ []
  print_atom (Atom.variable x) = name x ∷ []
  print_atom (Atom.apply x ds) = name x ∷ bracketed (print_datas ds)
  print_atom (Atom.group d) = bracketed (print_data d)

  -- "with commas between"
  pub print_datas : RawDatas → List Token
  print_datas (RawDatas.one d) = print_data d
  print_datas (RawDatas.more d ds) = print_data d ++ (the "," ∷ print_datas ds)

-- "with or without bracketed data"
unfoldable pub print_given : Option RawDatas → List Token
print_given none = []
print_given (some ds) = bracketed (print_datas ds)

unfoldable mutual
  -- "A choice is conditionals joined by `+`."
  pub print_choice : Choice → List Token
  print_choice (Choice.only c) = print_conditional c
  print_choice (Choice.plus c d) = print_conditional c ++ (the "+" ∷ print_choice d)

  -- "A conditional is a sequence, or sequence `<|` data `|>` sequence (yes part first)."
  pub print_conditional : Conditional → List Token
  print_conditional (Conditional.plain p) = print_sequence p
  print_conditional (Conditional.cond p c q) = print_sequence p ++ (the "<|" ∷ (print_data c ++ (the "|>" ∷ print_sequence q)))

  -- "A sequence is parts joined by `.`."
  pub print_sequence : Sequence → List Token
  print_sequence (Sequence.last p) = print_part p
  print_sequence (Sequence.then p q) = print_part p ++ (the "." ∷ print_sequence q)

  -- "A part is delta, tau, a name with or without bracketed data, `sum(v:sort, choice)`, or a bracketed choice."
  pub print_part : Part → List Token
  print_part Part.delta = the "delta" ∷ []
  print_part Part.tau = the "tau" ∷ []
  print_part (Part.named x ds) = name x ∷ print_given ds
  print_part (Part.sum v D p) = the "sum" ∷ bracketed (name v ∷ the ":" ∷ name D ∷ the "," ∷ print_choice p)
  print_part (Part.group p) = bracketed (print_choice p)

-- a line: its word, what it says, "closed by `;`"
unfoldable pub line : String → List Token → List Token
line s ts = the s ∷ (ts ++ (the ";" ∷ []))

-- lines of one kind
abbrev pub print_lines : {A : Type 0} → String → (A → List Token) → List A → List Token
print_lines s w ls = all (λ l. line s (w l)) ls

-- "sort, or sort `#` sort"
unfoldable pub print_sorts : List Name → List Token
print_sorts Ds = joined "#" (λ D. name D ∷ []) Ds

-- "values by commas"
unfoldable pub print_values : List ℕ → List Token
print_values vs = joined "," (λ v. numeral v ∷ []) vs

-- "`sort` name size"
unfoldable pub print_sort : SortLine → List Token
print_sort l = name l.name ∷ numeral l.size ∷ []

-- "`func` name `:` sort, or sort `#` sort, `->` sort `=` values by commas"
unfoldable pub print_func : FuncLine → List Token
print_func l = name l.name ∷ the ":" ∷ (print_sorts l.takes ++ (the "->" ∷ name l.gives ∷ the "=" ∷ print_values l.values))

-- nothing, or `:` and sorts
unfoldable pub print_takes : List Name → List Token
print_takes [] = []
print_takes (D ∷ Ds) = the ":" ∷ print_sorts (D ∷ Ds)

-- "`act` name, or name `:` sort, or name `:` sort `#` sort"
unfoldable pub print_act : ActLine → List Token
print_act l = name l.name ∷ print_takes l.takes

-- "`v:sort`"
unfoldable pub print_param : Name × Name → List Token
print_param p = name p.0 ∷ the ":" ∷ name p.1 ∷ []

-- nothing, or "bracketed `v:sort` by commas"
unfoldable pub print_params : List (Name × Name) → List Token
print_params [] = []
print_params (p ∷ ps) = bracketed (joined "," print_param (p ∷ ps))

-- "`proc` name, or name with bracketed `v:sort` by commas, `=` a choice"
unfoldable pub print_proc : ProcLine → List Token
print_proc l = name l.name ∷ (print_params l.params ++ (the "=" ∷ print_choice l.right))

-- "`init` a call"
unfoldable pub print_init : InitLine → List Token
print_init l = name l.name ∷ print_given l.data_given

-- "A sheet has its lines in this order, each closed by `;`"
unfoldable pub print_sheet : RawSheet → List Token
print_sheet R =
    print_lines "sort" print_sort R.sorts
    ++ (print_lines "func" print_func R.funcs
    ++ (print_lines "act" print_act R.acts
    ++ (print_lines "proc" print_proc R.procs
    ++ line "init" (print_init R.start))))
