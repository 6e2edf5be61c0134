-- A name before lo is none of those asked for; else the bytes are compared.
use mathlib.Core.Path.{◌≡◌}
use native.Mathlib.Omega.{arith}
use lib.ListN.{get_or}
use lib.Seq.{get_or-take}
use Rattle.laws.specs.Says.{says_both}
use Rattle.names.specs.NameCells.{name_at}
use Rattle.names.specs.NameList.{max_names, names_in}
use Rattle.names.proofs.keys.found_at.Goals as goal

pub returns : goal.returns
returns c =
    let a = c.args in
    says_both c.same_run.result (name_at a.s.now a.c ≡ name_at a.s.now (get_or (names_in a.declared.now) a.i 0)) (omega arith) (rw (get_or-take max_names a.declared.now a.i 0 (omega arith)) c.same_run.ensures)
