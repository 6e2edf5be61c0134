use Prim.Native.Nat.{◌-◌}
use lib.ListN.{length}
use Rattle.names.specs.NameList.{names_in, kinds_in}
use Rattle.sheets.proofs.ProcessesLaws.{Stays, ProcsGone}
use Rattle.sheets.proofs.processes.processes.Given as goal

abbrev pub invariant-loop-k : goal.invariant-loop-k
invariant-loop-k l = Stays l.initial.out l.rows l.out l.starts × ProcsGone l.s l.raw l.procs (names_in l.declared) (kinds_in l.declared) l.funcs l.rows l.out l.starts l.w l.k
