-- `sheet::sort_line` meets its contract.
use mathlib.Core.List.{[]}
use Prim.Native.Nat.{◌+◌}
use native.Mathlib.Omega.{arith}
use lib.ListN.{length}
use Rattle.parser.proofs.Reaching.{reaches, after, answer, none_answer}
use Rattle.parser.proofs.LineLaws.{sort_read}
use Rattle.parser.proofs.sheet.sort_line.Goals as goal

pub returns-in_err-x-clause-read : goal.returns-in_err-x-clause-read
returns-in_err-x-clause-read c =
    rw c.from_residual.ensures (λ s f l. none_answer (sort_read s c.args.toks.now c.args.at {at₃ = length c.args.toks.now + 1} {w₃ = 0} {o₃ = []} c.put-v.ensures (reaches (c.in_err-x.ensures.read s 1 (omega arith))) (omega arith) (λ i. absurd (omega arith))))

pub returns-clause-read : goal.returns-clause-read
returns-clause-read c =
    λ s f l. answer _ c.numeral.result c.numeral.ensures.ahead (sort_read s c.args.toks.now c.args.at c.put-v.ensures (reaches (c.in_ok-x.ensures.read s 1 (omega arith))) (after _ _ c.numeral.result c.numeral.ensures.ahead) (λ i. (reaches (c.numeral.ensures.read s 1 (omega arith)))))
