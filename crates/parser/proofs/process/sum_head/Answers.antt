-- `process::sum_head` meets its contract: a straight run of readers.
use mathlib.Core.List.{[]}
use Prim.Native.Nat.{◌+◌}
use native.Mathlib.Omega.{arith}
use lib.ListN.{length}
use Rattle.parser.proofs.Reaching.{past_meets, meets, reaches, some_answer, no_answer, none_answer}
use Rattle.parser.proofs.ProcessLaws.{head_read}
use Rattle.parser.proofs.process.sum_head.Goals as goal

pub returns-in_err-a-clause-read : goal.returns-in_err-a-clause-read
returns-in_err-a-clause-read c =
    rw c.from_residual.ensures (λ s f l. none_answer (head_read s c.args.toks.now c.args.at {at₂ = length c.args.toks.now + 1} {w₂ = 0} {at₃ = length c.args.toks.now + 1} {at₄ = length c.args.toks.now + 1} {w₄ = 0} {at₅ = length c.args.toks.now + 1} {o₂ = []} {o₄ = []} (meets c.in_err-a.ensures.read) (omega arith) (λ i. absurd (omega arith)) (omega arith) (past_meets c.args.toks.now 58 (omega arith)) (omega arith) (λ i. absurd (omega arith)) (omega arith) (past_meets c.args.toks.now 44 (omega arith))))

pub returns-in_err-v-clause-read : goal.returns-in_err-v-clause-read
returns-in_err-v-clause-read c =
    rw c.from_residual-in_err-v.ensures (λ s f l. none_answer (head_read s c.args.toks.now c.args.at {at₃ = length c.args.toks.now + 1} {at₄ = length c.args.toks.now + 1} {w₄ = 0} {at₅ = length c.args.toks.now + 1} {o₄ = []} (meets c.in_ok-a.ensures.read) (omega arith) (λ i. (reaches (c.in_err-v.ensures.read s 1 (omega arith)))) (omega arith) (past_meets c.args.toks.now 58 (omega arith)) (omega arith) (λ i. absurd (omega arith)) (omega arith) (past_meets c.args.toks.now 44 (omega arith))))

pub returns-in_err-c-clause-read : goal.returns-in_err-c-clause-read
returns-in_err-c-clause-read c =
    rw c.from_residual-in_err-c.ensures (λ s f l. none_answer (head_read s c.args.toks.now c.args.at {at₄ = length c.args.toks.now + 1} {w₄ = 0} {at₅ = length c.args.toks.now + 1} {o₄ = []} (meets c.in_ok-a.ensures.read) (omega (arith, c.in_ok-v.ensures.ahead)) (λ i. (reaches (c.in_ok-v.ensures.read s 1 (omega arith)))) (omega (arith, c.in_ok-v.ensures.ahead)) (meets c.in_err-c.ensures.read) (omega arith) (λ i. absurd (omega arith)) (omega arith) (past_meets c.args.toks.now 44 (omega arith))))

pub returns-in_err-d-clause-read : goal.returns-in_err-d-clause-read
returns-in_err-d-clause-read c =
    rw c.from_residual-in_err-d.ensures (λ s f l. no_answer (omega arith) (head_read s c.args.toks.now c.args.at {at₅ = length c.args.toks.now + 1} (meets c.in_ok-a.ensures.read) (omega (arith, c.in_ok-v.ensures.ahead)) (λ i. (reaches (c.in_ok-v.ensures.read s 1 (omega arith)))) (omega (arith, c.in_ok-v.ensures.ahead, c.in_ok-c.ensures.ahead)) (meets c.in_ok-c.ensures.read) (omega arith) (λ i. (reaches (c.in_err-d.ensures.read s 1 (omega arith)))) (omega arith) (past_meets c.args.toks.now 44 (omega arith))))

pub returns-in_err-at-clause-read : goal.returns-in_err-at-clause-read
returns-in_err-at-clause-read c =
    rw c.from_residual-in_err-at.ensures (λ s f l. no_answer (omega arith) (head_read s c.args.toks.now c.args.at (meets c.in_ok-a.ensures.read) (omega (arith, c.in_ok-v.ensures.ahead)) (λ i. (reaches (c.in_ok-v.ensures.read s 1 (omega arith)))) (omega (arith, c.in_ok-v.ensures.ahead, c.in_ok-c.ensures.ahead)) (meets c.in_ok-c.ensures.read) (omega (arith, c.in_ok-d.ensures.ahead)) (λ i. (reaches (c.in_ok-d.ensures.read s 1 (omega arith)))) (omega (arith, c.in_ok-d.ensures.ahead)) (meets c.in_err-at.ensures.read)))

pub returns-clause-read : goal.returns-clause-read
returns-clause-read c =
    λ s f l. some_answer _ (omega (arith, c.in_ok-at.ensures.ahead)) (head_read s c.args.toks.now c.args.at (meets c.in_ok-a.ensures.read) (omega (arith, c.in_ok-v.ensures.ahead)) (λ i. (reaches (c.in_ok-v.ensures.read s 1 (omega arith)))) (omega (arith, c.in_ok-v.ensures.ahead, c.in_ok-c.ensures.ahead)) (meets c.in_ok-c.ensures.read) (omega (arith, c.in_ok-d.ensures.ahead)) (λ i. (reaches (c.in_ok-d.ensures.read s 1 (omega arith)))) (omega (arith, c.in_ok-d.ensures.ahead, c.in_ok-at.ensures.ahead)) (meets c.in_ok-at.ensures.read))
