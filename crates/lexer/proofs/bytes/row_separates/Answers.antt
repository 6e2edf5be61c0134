-- `lexer::bytes::row_separates`: what is known so far is the answer for the bytes passed.
use native.Mathlib.Omega.{arith}
use Rattle.pcrl.specs.Bytes.{separator}
use Rattle.laws.specs.Says.{says_as}
use Rattle.lexer.proofs.EachByte.{says_more}
use Rattle.lexer.proofs.bytes.row_separates.Goals as goal

pub loop-b-preserved : goal.loop-b-preserved
loop-b-preserved c = says_more separator c.args.row.now c.loop-b.b-index c.loop-b.good c.separator-good.result c.separator-good.ensures c.loop-b.invariant

pub returns : goal.returns
returns c = says_as c.loop-b.good (λ f k h. f k (omega arith)) (λ f k h. f k (omega arith)) c.loop-b.invariant
