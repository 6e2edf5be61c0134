use Prim.Native.Nat.{◌+◌, ◌-◌, ◌<◌}
use lib.ListN.{length}
use Rattle.nodes.specs.Layout.{cell_limit}
use Rattle.checker.proofs.AllFit.{AllLeft}
use Rattle.checker.proofs.arguments.all_fit.Given as goal

abbrev pub invariant-loop-need : goal.invariant-loop-need
invariant-loop-need l = (l.need < length l.cells + cell_limit) × AllLeft l.cells l.scope l.sizes l.funcs l.n l.initial.p l.initial.need l.p l.need

abbrev pub decreases-loop-need : goal.decreases-loop-need
decreases-loop-need l = length l.cells - l.p
