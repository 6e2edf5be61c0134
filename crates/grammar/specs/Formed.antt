-- What the form asks of a sheet beyond what a tree of it has by its type.
use Rattle.std.specs.Prelude.{◌≤◌, T, length}
use Rattle.pcrl.specs.Limits.{max_arity}
use Rattle.pcrl.specs.Tests.{Between, Every}
use Rattle.pcrl.specs.Tree.{FuncLine, ActLine, RawSheet}
use Rattle.pcrl.specs.Grammar.{none_in}

-- "`func` name `:` sort, or sort `#` sort", and at least one value
unfoldable pub FormedFunc : FuncLine → Type 0
FormedFunc l = Between 1 max_arity (length l.takes) × (1 ≤ length l.values)

-- "`act` name, or name `:` sort, or name `:` sort `#` sort"
unfoldable pub FormedAct : ActLine → Type 0
FormedAct l = length l.takes ≤ max_arity

pub record Formed (R : RawSheet) : Type 0 where
  pub funcs : Every FormedFunc R.funcs
  pub acts : Every FormedAct R.acts
  -- "at least one proc"
  pub procs : 1 ≤ length R.procs
  -- "with no name in its data that lacks brackets"
  pub start : T (none_in R.start.data_given)
