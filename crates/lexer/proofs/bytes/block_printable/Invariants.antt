use Rattle.pcrl.specs.Bytes.{printable}
use Rattle.laws.specs.Says.{Says}
use Rattle.lexer.proofs.EachByte.{First}
use Rattle.lexer.proofs.bytes.block_printable.Given as goal

abbrev pub invariant-loop-b : goal.invariant-loop-b
invariant-loop-b l = Says l.good (First printable l.block l.b-index)
