-- `all_processes` is the set of all process numbers. Invariant: those below k are in.
use Prim.Native.Nat.{ℕ}
use native.Mathlib.Omega.{arith}
use mathlib.Core.Path.{subst}
use Rattle.checker.specs.Circles.{SetOf, numbers_below}
use Rattle.checker.proofs.Rounds.{below_more, below_none}
use Rattle.checker.proofs.circles.all_processes.Goals as goal

pub loop-k-init : goal.loop-k-init
loop-k-init c = (omega arith, below_none)

pub loop-k-preserved : goal.loop-k-preserved
loop-k-preserved c = (omega arith, below_more c.loop-k.k c.loop-k.r c.with_bit-r.result c.with_bit-r.ensures c.loop-k.invariant.1)

pub returns : goal.returns
returns c = subst (λ (x : ℕ). SetOf c.loop-k.r (numbers_below x)) (omega arith) c.loop-k.invariant.1
