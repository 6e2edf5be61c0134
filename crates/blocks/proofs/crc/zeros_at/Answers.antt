-- `blocks::crc::zeros_at`: what is known so far says that the bytes passed are zeros.
use native.Mathlib.Omega.{arith}
use Rattle.blocks.proofs.PassingZeros.{zeros_more}
use Rattle.blocks.proofs.crc.zeros_at.Goals as goal

pub loop-i-init : goal.loop-i-init
loop-i-init c = (omega arith, λ e k l h. absurd (omega arith))

pub loop-i-preserved : goal.loop-i-preserved
loop-i-preserved c =
    let a = c.args in let l = c.loop-i in
    (omega arith, λ e. zeros_more a.s.now a.at l.i l.good l.invariant.1 e)

pub returns : goal.returns
returns c = λ e k l h. c.loop-i.invariant.1 e k l (omega arith)
