-- `sheet::proc_line` meets its contract: a straight run of readers.
use mathlib.Core.List.{[]}
use Prim.Native.Nat.{◌+◌}
use native.Mathlib.Omega.{arith}
use lib.ListN.{length}
use Rattle.parser.proofs.Reaching.{past_meets, meets, reaches, after, answer, none_answer}
use Rattle.parser.proofs.LineLaws.{proc_read}
use Rattle.parser.proofs.sheet.proc_line.Goals as goal

pub returns-in_err-x-clause-read : goal.returns-in_err-x-clause-read
returns-in_err-x-clause-read c =
    rw c.from_residual.ensures (λ s f l. none_answer (proc_read s c.args.toks.now c.args.at {at₃ = length c.args.toks.now + 1} {w₃ = 0} {at₄ = length c.args.toks.now + 1} {at₅ = length c.args.toks.now + 1} {w₅ = 0} {o₃ = []} {o₅ = []} c.put-v.ensures (reaches (c.in_err-x.ensures.read s 1 (omega arith))) (omega arith) (λ i. absurd (omega arith)) (omega arith) (past_meets c.args.toks.now 61 (omega arith)) (omega arith) (λ i. absurd (omega arith)) f l))

pub returns-in_err-h-clause-read : goal.returns-in_err-h-clause-read
returns-in_err-h-clause-read c =
    rw c.from_residual-in_err-h.ensures (λ s f l. none_answer (proc_read s c.args.toks.now c.args.at {at₄ = length c.args.toks.now + 1} {at₅ = length c.args.toks.now + 1} {w₅ = 0} {o₅ = []} c.put-v.ensures (reaches (c.in_ok-x.ensures.read s 1 (omega arith))) (omega arith) (λ i g k. reaches (c.in_err-h.ensures.read i s g k)) (omega arith) (past_meets c.args.toks.now 61 (omega arith)) (omega arith) (λ i. absurd (omega arith)) f l))

pub returns-in_err-e-clause-read : goal.returns-in_err-e-clause-read
returns-in_err-e-clause-read c =
    rw c.from_residual-in_err-e.ensures (λ s f l. none_answer (proc_read s c.args.toks.now c.args.at {at₅ = length c.args.toks.now + 1} {w₅ = 0} {o₅ = []} c.put-v.ensures (reaches (c.in_ok-x.ensures.read s 1 (omega arith))) (omega (arith, c.in_ok-h.ensures.onward)) (λ i g k. reaches (c.in_ok-h.ensures.read i s g k)) (omega (arith, c.in_ok-x.ensures.ahead, c.in_ok-h.ensures.onward, c.in_ok-h.ensures.onward.1 (omega (arith, c.in_ok-x.ensures.ahead)))) (meets c.in_err-e.ensures.read) (omega arith) (λ i. absurd (omega arith)) f l))

pub returns-clause-read : goal.returns-clause-read
returns-clause-read c =
    λ s f l. answer _ c.choice.result c.choice.ensures.ahead (proc_read s c.args.toks.now c.args.at c.put-v.ensures (reaches (c.in_ok-x.ensures.read s 1 (omega arith))) (omega (arith, c.in_ok-h.ensures.onward.0)) (λ i g k. reaches (c.in_ok-h.ensures.read i s g k)) (omega (arith, c.in_ok-e.ensures.ahead)) (meets c.in_ok-e.ensures.read) (after _ _ c.choice.result c.choice.ensures.ahead) (λ i. (λ g k. reaches (c.choice.ensures.read s g k))) f l)
