-- The arrays of `Lines` have as many elements as their types say.
use mathlib.Core.Path.{◌≡◌}
use mathlib.Core.List.{List}
use lib.ListN.{length}
use mir.Val.{Val}
use denote.Laws.{Is}
use denote.Struct.Laws as LL
use Rattle.parser.specs.declared.Lines.{Lines}
use Rattle.parser.specs.contracts.Lines as Ls
use Rattle.parser.proofs.Lines.TheLaws as Ls'

pub record Rooms (L : Lines) : Type 0 where
  pub sorts : length L.sorts ≡ 8
  pub funcs : length L.funcs ≡ 16
  pub acts : length L.acts ≡ 32
  pub procs : length L.procs ≡ 16

pub rooms : (L : Lines) (vs : List Val) → Is Ls.the_row L vs → Rooms L
rooms L vs g =
    let o = LL.owed Ls.the_type Ls'.the_laws L vs g in
    record {
      sorts = o.0.1.0.1;
      funcs = o.1.0.1.0.1;
      acts = o.1.1.0.1.0.1;
      procs = o.1.1.1.0.1.0.1;
    }
