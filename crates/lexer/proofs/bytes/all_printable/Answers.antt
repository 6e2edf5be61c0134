-- `lexer::bytes::all_printable`: the bytes of the blocks passed are printable.
use native.Mathlib.Omega.{arith}
use Rattle.lexer.proofs.EachByte.{none_printable, both_printable, front_printable, back_printable}
use Rattle.lexer.proofs.bytes.all_printable.Goals as goal

pub returns-then-not-block_printable : goal.returns-then-not-block_printable
returns-then-not-block_printable c =
    let e = c.in-Some.ensures.steps.1.0 in
    λ p. c.if-not-block_printable.ensures (front_printable _ _ _ e (c.loop-block.invariant.3 p))

pub loop-block-preserved : goal.loop-block-preserved
loop-block-preserved c =
    let e = c.in-Some.ensures.steps.1.0 in
    let n = c.in-Some.ensures.steps.0 in
    let m = c.loop-block.invariant.0 in (
      omega arith,
      tt,
      λ p. c.loop-block.invariant.2 (both_printable _ _ _ e c.if-not-block_printable.ensures p),
      λ p. back_printable _ _ _ e (c.loop-block.invariant.3 p),
    )

pub returns : goal.returns
returns c = c.loop-block.invariant.2 (none_printable _ c.in-None.ensures.steps.1.0)
