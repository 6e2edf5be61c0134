use Rattle.pcrl.specs.Bytes.{separator}
use Rattle.laws.specs.Says.{Says}
use Rattle.lexer.proofs.EachByte.{First}
use Rattle.lexer.proofs.bytes.row_separates.Given as goal

abbrev pub invariant-loop-b : goal.invariant-loop-b
invariant-loop-b l = Says l.good (First separator l.row l.b-index)
