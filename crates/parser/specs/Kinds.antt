-- The kinds of lines that a sheet has many of.
use Rattle.std.specs.Prelude.{true, false, List, ℕ, eqb}
use Prim.Native.String.{String}
use Rattle.pcrl.specs.Tokens.{Token}
use Rattle.pcrl.specs.Reader.{Reader}
use Rattle.pcrl.specs.Tree.{SortLine, FuncLine, ActLine, ProcLine}
use Rattle.pcrl.specs.Grammar.{sort_line, func_line, act_line, proc_line}
use Rattle.parser.specs.Cells.{Symbol, enc_sort, enc_func, enc_act, enc_proc}

-- the word that such lines begin with, their reader at a bound, and the cells of a line
pub record Kind : Type 1 where
  pub Line : Type 0
  pub word : String
  pub reader : ℕ → Reader Token Line
  pub enc : Line → List Symbol

abbrev pub sort_kind : Kind
sort_kind = record { Line = SortLine; word = "sort"; reader = λ n. sort_line; enc = enc_sort }

abbrev pub func_kind : Kind
func_kind = record { Line = FuncLine; word = "func"; reader = func_line; enc = enc_func }

abbrev pub act_kind : Kind
act_kind = record { Line = ActLine; word = "act"; reader = λ n. act_line; enc = enc_act }

abbrev pub proc_kind : Kind
proc_kind = record { Line = ProcLine; word = "proc"; reader = proc_line; enc = enc_proc }

-- by the word's cell
unfoldable pub kind_of : ℕ → Kind
kind_of c = elim (eqb c 160) [ true ↦ sort_kind | false ↦ elim (eqb c 161) [ true ↦ func_kind | false ↦ elim (eqb c 162) [ true ↦ act_kind | false ↦ proc_kind ] ] ]
