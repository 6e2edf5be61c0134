-- The names of each kind stand behind those before.
use native.Mathlib.Omega.{arith}
use Rattle.names.specs.NameCells.{scope_at}
use Rattle.names.proofs.Declared.{four_gathered}
use Rattle.names.proofs.fresh.declared_names.Goals as goal

pub returns : goal.returns
unfolding scope_at
returns c = record {
  most = omega (arith, c.gather-a.auto.names, c.gather-b.auto.names, c.gather-c.auto.names, c.gather.auto.names, c.gather-a.ensures.next, c.gather-b.ensures.next, c.gather-c.ensures.next, c.gather.ensures.next, c.requires);
  names = λ s. four_gathered s c.args.cells.now c.args.sorts.now c.args.funcs.now c.args.acts.now c.args.procs.now _ _ _ _
      c.gather-a.ensures.cells c.gather-b.ensures.cells c.gather-c.ensures.cells c.gather.ensures.cells;
}
