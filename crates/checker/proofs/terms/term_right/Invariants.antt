use Prim.Native.Nat.{◌+◌, ◌-◌, ◌≤◌}
use lib.ListN.{length}
use mathlib.Core.Path.{◌≡◌}
use Rattle.checker.proofs.TermSorts.{TermLeft}
use Rattle.checker.proofs.terms.term_right.Given as goal

abbrev pub invariant-loop-need : goal.invariant-loop-need
invariant-loop-need l = ((l.at ≤ l.p) × (l.need + l.at ≤ 1 + l.p) × (length l.scope ≡ 32)) × TermLeft l.cells l.initial.scope l.sizes l.funcs l.acts l.procs l.n l.at l.p l.need l.scope

abbrev pub decreases-loop-need : goal.decreases-loop-need
decreases-loop-need l = length l.cells - l.p
