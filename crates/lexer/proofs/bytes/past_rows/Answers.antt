-- `lexer::bytes::past_rows`: the place and the separators left lead to the same place.
use mathlib.Core.Path.{◌∙◌}
use native.Mathlib.Omega.{arith}
use Rattle.pcrl.specs.Bytes.{separator}
use Rattle.laws.specs.Says.{said_yes}
use Prim.Native.Nat.{◌+◌}
use Rattle.lexer.proofs.Runs.{run_row}
use Rattle.lexer.proofs.EachByte.{in_part}
use Rattle.lexer.proofs.bytes.past_rows.Goals as goal

pub loop-i-preserved : goal.loop-i-preserved
loop-i-preserved c = let s = c.args.s.now in let i = c.loop-i.i in
    (omega arith, omega arith, run_row separator s i 16 (omega arith) (in_part separator s i (i + 16) (omega arith) (said_yes c.row_separates.result c.row_separates.ensures c.if-not-row_separates.false)) ∙ c.loop-i.invariant.2)
