use mathlib.Core.Path.{◌≡◌}
use Prim.Native.Nat.{◌≤◌}
use lib.ListN.{length}
use Rattle.clauses.specs.Brackets.{Open, code}
use Rattle.clauses.proofs.Closing.{Closing}
use Rattle.clauses.proofs.operands.close.Given as goal

abbrev pub invariant-loop-o : goal.invariant-loop-o
invariant-loop-o l = (l.p ≤ length l.out) × ((length l.out ≡ length l.initial.out) × ((bs : Open) → l.opens ≡ code bs → Closing l.initial.out l.at bs l.out l.p l.o))

abbrev pub decreases-loop-o : goal.decreases-loop-o
decreases-loop-o l = l.o
