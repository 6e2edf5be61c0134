-- `blocks::crc::before_zeros`: from n on there are zeros, and 32 a turn.
use Prim.Native.Nat.{◌-◌}
use native.Mathlib.Omega.{arith}
use Rattle.blocks.proofs.PassingZeros.{zeros_behind, zeros_before}
use Rattle.blocks.proofs.crc.before_zeros.Goals as goal

pub loop-n-init : goal.loop-n-init
loop-n-init c = (omega arith, omega arith, zeros_behind c.args.s.now)

pub returns-then-not-zeros_at : goal.returns-then-not-zeros_at
returns-then-not-zeros_at c = c.loop-n.invariant

pub loop-n-preserved : goal.loop-n-preserved
loop-n-preserved c =
    let s = c.args.s.now in let l = c.loop-n in
    (omega arith, omega arith, zeros_before s (l.n - 32) l.n (omega arith) (c.zeros_at.ensures c.if-not-zeros_at.false) l.invariant.2)

pub returns : goal.returns
returns c = c.loop-n.invariant
