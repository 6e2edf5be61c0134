-- `lexer::bytes::block_printable`: what is known so far is the answer for the bytes passed.
use native.Mathlib.Omega.{arith}
use Rattle.pcrl.specs.Bytes.{printable}
use Rattle.laws.specs.Says.{says_as}
use Rattle.lexer.proofs.EachByte.{says_more, all_printable, each_printable}
use Rattle.lexer.proofs.bytes.block_printable.Goals as goal

pub loop-b-preserved : goal.loop-b-preserved
loop-b-preserved c = says_more printable c.args.block.now c.loop-b.b-index c.loop-b.good c.printable-good.result c.printable-good.ensures c.loop-b.invariant

pub returns : goal.returns
returns c = says_as c.loop-b.good (λ f. all_printable c.args.block.now c.loop-b.b-index (omega arith) f) (λ p. each_printable c.args.block.now c.loop-b.b-index (omega arith) p) c.loop-b.invariant
