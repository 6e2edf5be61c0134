-- `passed_after` takes as many rounds as there are processes. Invariant: those that passed after i rounds.
use Prim.Native.Nat.{ℕ}
use native.Mathlib.Omega.{arith}
use mathlib.Core.Path.{◌≡◌, subst}
use Rattle.checker.proofs.Rounds.{PassedSoFar, passed_start, passed_more}
use Rattle.checker.proofs.circles.passed_after.Goals as goal

pub loop-init : goal.loop-init
loop-init c = (omega arith, passed_start c.args.sets.now c.args.procs)

pub loop-preserved : goal.loop-preserved
loop-preserved c = (omega arith, passed_more c.args.sets.now c.args.procs c.loop.counter c.loop.passed c.next_round-passed.result c.next_round-passed.ensures c.loop.invariant.1)

pub returns : goal.returns
returns c = let z : c.loop.counter ≡ c.args.procs = omega arith in subst (λ (x : ℕ). PassedSoFar c.args.sets.now c.args.procs x c.loop.passed) z c.loop.invariant.1
