-- `next_round`: a process passes if all processes at its head passed before. Invariant: the bits below k are those of the round, the others 0.
use native.Mathlib.Omega.{arith}
use Rattle.checker.proofs.Rounds.{round_start, round_more, round_done}
use Rattle.checker.proofs.circles.next_round.Goals as goal

pub loop-k-init : goal.loop-k-init
loop-k-init c = (omega arith, round_start c.args.sets.now c.args.procs c.args.passed)

pub loop-k-preserved : goal.loop-k-preserved
loop-k-preserved c = (omega arith, round_more c.args.sets.now c.args.procs c.args.passed c.loop-k.k c.loop-k.r c.with_if-r.result c.all_passed-passes.result (omega arith) (omega arith) c.all_passed-passes.ensures c.with_if-r.ensures c.loop-k.invariant.1)

pub returns : goal.returns
returns c = round_done c.args.sets.now c.args.procs c.args.passed c.loop-k.k c.loop-k.r (omega arith) c.loop-k.invariant.1
