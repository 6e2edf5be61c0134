-- The tree of a sheet as cells in prefix order: a cell below 32 is a tag, one for each of the tree's constructors but those of lists of operands;
-- one from 8192 on says how many operands of `\/` or `/\` stand behind it; any other cell is a token's, a name or a numeral.
use Rattle.std.specs.Prelude.{List, [], ◌∷◌, ◌++◌, true, false, ℕ, suc, ◌-◌, ltb}
use Rattle.std.proofs.Math.Option.{Option, none, some}
use Rattle.pcrl.specs.Tokens.{Token, name, numeral}
use Rattle.pcrl.specs.Reader.{all}
use Rattle.pcrl.specs.Tree.{Name, RawData, Conjunction, Comparison, Negation, Atom, RawDatas, Choice, Conditional, Sequence, Part, SortLine, FuncLine, ActLine, ProcLine, InitLine, RawSheet}
use Rattle.lexer.specs.Cells.{cell_token}

pub data Symbol : Type 0 where
  tag : ℕ → Symbol
  token : Token → Symbol
  -- one operand, and so many more joined to it
  ors ands : ℕ → Symbol

-- where the tokens' cells begin
abbrev pub first_token : ℕ
first_token = 32

-- where the counts of operands begin
abbrev pub first_ors : ℕ
first_ors = 8192

abbrev pub first_ands : ℕ
first_ands = 16384

-- what a cell stands for, where s are the sheet's bytes
unfoldable pub symbol_of : List ℕ → ℕ → Symbol
symbol_of s c =
    elim (ltb c first_token) [
      | true ↦ tag c
      | false ↦ elim (ltb c first_ors) [ true ↦ token (cell_token s c) | false ↦ elim (ltb c first_ands) [ true ↦ ors (c - first_ors) | false ↦ ands (c - first_ands) ] ]
    ]

abbrev pub value_tag : ℕ
value_tag = 1

abbrev pub variable_tag : ℕ
variable_tag = 2

abbrev pub apply_tag : ℕ
apply_tag = 3

abbrev pub one_tag : ℕ
one_tag = 4

abbrev pub more_tag : ℕ
more_tag = 5

abbrev pub only_tag : ℕ
only_tag = 6

abbrev pub plus_tag : ℕ
plus_tag = 7

abbrev pub plain_tag : ℕ
plain_tag = 8

abbrev pub cond_tag : ℕ
cond_tag = 9

abbrev pub last_tag : ℕ
last_tag = 10

abbrev pub then_tag : ℕ
then_tag = 11

abbrev pub delta_tag : ℕ
delta_tag = 12

abbrev pub tau_tag : ℕ
tau_tag = 13

abbrev pub bare_tag : ℕ
bare_tag = 14

abbrev pub given_tag : ℕ
given_tag = 15

abbrev pub sum_tag : ℕ
sum_tag = 16

abbrev pub group_tag : ℕ
group_tag = 17

abbrev pub end_tag : ℕ
end_tag = 18

abbrev pub item_tag : ℕ
item_tag = 19

abbrev pub sort_tag : ℕ
sort_tag = 20

abbrev pub func_tag : ℕ
func_tag = 21

abbrev pub act_tag : ℕ
act_tag = 22

abbrev pub proc_tag : ℕ
proc_tag = 23

abbrev pub init_tag : ℕ
init_tag = 24

abbrev pub alone_tag : ℕ
alone_tag = 25

abbrev pub equal_tag : ℕ
equal_tag = 26

abbrev pub not_tag : ℕ
not_tag = 27

abbrev pub nest_tag : ℕ
nest_tag = 28

abbrev pub enc_name : Name → List Symbol
enc_name x = token (name x) ∷ []

abbrev pub enc_numeral : ℕ → List Symbol
enc_numeral v = token (numeral v) ∷ []

-- how many operands stand behind the first
unfoldable pub more_ors : RawData → ℕ
more_ors (RawData.only c) = 0
more_ors (RawData.or c d) = suc (more_ors d)

unfoldable pub more_ands : Conjunction → ℕ
more_ands (Conjunction.single c) = 0
more_ands (Conjunction.and c d) = suc (more_ands d)

unfoldable mutual
  -- the operands of `\/`, one behind another
  pub enc_ors : RawData → List Symbol
  enc_ors (RawData.only c) = ands (more_ands c) ∷ enc_ands c
  enc_ors (RawData.or c d) = (ands (more_ands c) ∷ enc_ands c) ++ enc_ors d

  pub enc_ands : Conjunction → List Symbol
  enc_ands (Conjunction.single c) = enc_comparison c
  enc_ands (Conjunction.and c d) = enc_comparison c ++ enc_ands d

  pub enc_comparison : Comparison → List Symbol
  enc_comparison (Comparison.plain a) = tag alone_tag ∷ enc_negation a
  enc_comparison (Comparison.equal a b) = tag equal_tag ∷ (enc_negation a ++ enc_negation b)

  pub enc_negation : Negation → List Symbol
  enc_negation (Negation.atom a) = enc_atom a
  enc_negation (Negation.not a) = tag not_tag ∷ enc_negation a

  pub enc_atom : Atom → List Symbol
  enc_atom (Atom.value v) = tag value_tag ∷ enc_numeral v
  enc_atom (Atom.variable x) = tag variable_tag ∷ enc_name x
  enc_atom (Atom.apply x ds) = tag apply_tag ∷ token (name x) ∷ enc_datas ds
  enc_atom (Atom.group d) = tag nest_tag ∷ ors (more_ors d) ∷ enc_ors d

  pub enc_datas : RawDatas → List Symbol
  enc_datas (RawDatas.one d) = tag one_tag ∷ ors (more_ors d) ∷ enc_ors d
  enc_datas (RawDatas.more d ds) = tag more_tag ∷ ((ors (more_ors d) ∷ enc_ors d) ++ enc_datas ds)

abbrev pub enc_data : RawData → List Symbol
enc_data d = ors (more_ors d) ∷ enc_ors d

abbrev pub enc_conjunction : Conjunction → List Symbol
enc_conjunction c = ands (more_ands c) ∷ enc_ands c

-- a name, with or without bracketed data
unfoldable pub enc_call : Name → Option RawDatas → List Symbol
enc_call x none = tag bare_tag ∷ enc_name x
enc_call x (some ds) = tag given_tag ∷ token (name x) ∷ enc_datas ds

unfoldable mutual
  pub enc_choice : Choice → List Symbol
  enc_choice (Choice.only c) = tag only_tag ∷ enc_conditional c
  enc_choice (Choice.plus c d) = tag plus_tag ∷ (enc_conditional c ++ enc_choice d)

  -- the yes part first, then the data, then the no part
  pub enc_conditional : Conditional → List Symbol
  enc_conditional (Conditional.plain p) = tag plain_tag ∷ enc_sequence p
  enc_conditional (Conditional.cond p c q) = tag cond_tag ∷ (enc_sequence p ++ (enc_data c ++ enc_sequence q))

  pub enc_sequence : Sequence → List Symbol
  enc_sequence (Sequence.last p) = tag last_tag ∷ enc_part p
  enc_sequence (Sequence.then p q) = tag then_tag ∷ (enc_part p ++ enc_sequence q)

  pub enc_part : Part → List Symbol
  enc_part Part.delta = tag delta_tag ∷ []
  enc_part Part.tau = tag tau_tag ∷ []
  enc_part (Part.named x ds) = enc_call x ds
  enc_part (Part.sum v D p) = tag sum_tag ∷ token (name v) ∷ token (name D) ∷ enc_choice p
  enc_part (Part.group p) = tag group_tag ∷ enc_choice p

-- a list of any length: a tag before each element, and one behind the last
unfoldable pub enc_items : {A : Type 0} → (A → List Symbol) → List A → List Symbol
enc_items enc [] = tag end_tag ∷ []
enc_items enc (a ∷ l) = tag item_tag ∷ (enc a ++ enc_items enc l)

abbrev pub enc_param : Name × Name → List Symbol
enc_param p = token (name p.0) ∷ enc_name p.1

unfoldable pub enc_sort : SortLine → List Symbol
enc_sort l = tag sort_tag ∷ token (name l.name) ∷ enc_numeral l.size

unfoldable pub enc_func : FuncLine → List Symbol
enc_func l = tag func_tag ∷ token (name l.name) ∷ (enc_items enc_name l.takes ++ (token (name l.gives) ∷ enc_items enc_numeral l.values))

unfoldable pub enc_act : ActLine → List Symbol
enc_act l = tag act_tag ∷ token (name l.name) ∷ enc_items enc_name l.takes

unfoldable pub enc_proc : ProcLine → List Symbol
enc_proc l = tag proc_tag ∷ token (name l.name) ∷ (enc_items enc_param l.params ++ enc_choice l.right)

unfoldable pub enc_init : InitLine → List Symbol
enc_init l = tag init_tag ∷ enc_call l.name l.data_given

unfoldable pub enc_sheet : RawSheet → List Symbol
enc_sheet R = all enc_sort R.sorts ++ (all enc_func R.funcs ++ (all enc_act R.acts ++ (all enc_proc R.procs ++ enc_init R.start)))
