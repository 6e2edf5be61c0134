-- Where the parts of a table stand in its stream, and the answer to question 14 with such an index.
use Rattle.std.specs.Prelude.{◌≡◌, List, ℕ, length, take, drop}
use Rattle.std.specs.Prelude as R
use Rattle.std.proofs.Math.Option.{Option, none, some}
use Rattle.pcrl.specs.Limits.{max_functions}
use Rattle.pcrl.specs.Reader.{found}
use Rattle.pcrl.specs.Table.{Table, params_of, summands_of}
use Rattle.pcrl.specs.Stream.{encode_numbers, encode_list, encode_func, encode_action, encode_summand, encode_start}
use Rattle.pcrl.specs.Tree.{Name}
use Rattle.pcrl.specs.Decode.{layout_by, names_by, decode}
use Rattle.signature.specs.Reading.{names_there}
use Rattle.terms.specs.Stands.{Stands, Standing}
use Rattle.tables.specs.declared.Index.{Index}

-- the sizes of n sorts, which stand behind the places of the functions
abbrev pub sizes_behind : ℕ → List ℕ → List ℕ
sizes_behind n funcs = take n (drop max_functions funcs)

-- The sizes of the sorts, and their names if these stand in the stream; a place for each function, action and equation: of an equation its
-- parameters, and its count of summands with the summands behind it.
pub record PartsAt (T : Table) (s sizes : List ℕ) (names : Option (List Name)) (funcs acts params rows : List ℕ) (start : ℕ) : Type 0 where
  pub sizes_are : sizes ≡ T.sig.sorts
  pub layout_is : T.layout ≡ layout_by names
  pub names_are : T.sig.sort_names ≡ names_by names T.sig.sorts T.sig.acts
  pub funcs_stand : Standing encode_func s T.sig.funcs funcs
  pub acts_stand : Standing encode_action s T.sig.acts acts
  pub params_stand : Standing encode_numbers s (params_of T.equations) params
  pub rows_stand : Standing (encode_list encode_summand) s (summands_of T.equations) rows
  pub start_stands : Stands s start (encode_start T.start)

-- the index is that of the table
pub record Indexed (T : Table) (s : List ℕ) (index : Index) : Type 0 where
  pub sorts_are : index.sort_count ≡ length T.sig.sorts
  pub functions_are : index.functions ≡ length T.sig.funcs
  pub actions_are : index.actions ≡ length T.sig.acts
  pub equations_are : index.equations ≡ length T.equations
  pub parts : PartsAt T s (sizes_behind index.sort_count index.funcs) (names_there index.named s (take index.sort_count index.sorts)) (take index.functions index.funcs) (take index.actions index.acts) (take index.equations index.params) (take index.equations index.rows) index.start

-- o: the table that the stream s holds, if it holds one
unfoldable pub TableRead : Option Table → List ℕ → R.Option Index → Type 0
TableRead none s R.None = Unit {0}
TableRead (some T) s (R.Some index) = Indexed T s index
TableRead none s (R.Some index) = ⊥
TableRead (some T) s R.None = ⊥

-- the table that ends at `end`
unfoldable pub Decoded : List ℕ → ℕ → List ℕ → Option (List Name) → List ℕ → List ℕ → List ℕ → List ℕ → ℕ → Type 0
Decoded s end sizes names funcs acts params rows start = (T : Table) × (decode s ≡ found T (drop end s)) × PartsAt T s sizes names funcs acts params rows start
