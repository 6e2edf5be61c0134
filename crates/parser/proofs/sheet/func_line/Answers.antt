-- `sheet::func_line` meets its contract: a straight run of readers.
use mathlib.Core.List.{[]}
use Prim.Native.Nat.{◌+◌}
use native.Mathlib.Omega.{arith}
use lib.ListN.{length}
use Rattle.parser.proofs.Reaching.{past_meets, meets, reaches, after, answer, none_answer}
use Rattle.parser.proofs.LineLaws.{func_read}
use Rattle.parser.proofs.sheet.func_line.Goals as goal

pub returns-in_err-x-clause-read : goal.returns-in_err-x-clause-read
returns-in_err-x-clause-read c =
    rw c.from_residual.ensures (λ s f l. none_answer (func_read s c.args.toks.now c.args.at {at₃ = length c.args.toks.now + 1} {at₄ = length c.args.toks.now + 1} {w₄ = 0} {at₅ = length c.args.toks.now + 1} {at₆ = length c.args.toks.now + 1} {w₆ = 0} {at₇ = length c.args.toks.now + 1} {at₈ = length c.args.toks.now + 1} {w₈ = 0} {o₄ = []} {o₆ = []} {o₈ = []} c.put-v.ensures (reaches (c.in_err-x.ensures.read s 1 (omega arith))) (omega arith) (past_meets c.args.toks.now 58 (omega arith)) (omega arith) (λ i. absurd (omega arith)) (omega arith) (past_meets c.args.toks.now 128 (omega arith)) (omega arith) (λ i. absurd (omega arith)) (omega arith) (past_meets c.args.toks.now 61 (omega arith)) (omega arith) (λ i. absurd (omega arith)) f l))

pub returns-in_err-c-clause-read : goal.returns-in_err-c-clause-read
returns-in_err-c-clause-read c =
    rw c.from_residual-in_err-c.ensures (λ s f l. none_answer (func_read s c.args.toks.now c.args.at {at₄ = length c.args.toks.now + 1} {w₄ = 0} {at₅ = length c.args.toks.now + 1} {at₆ = length c.args.toks.now + 1} {w₆ = 0} {at₇ = length c.args.toks.now + 1} {at₈ = length c.args.toks.now + 1} {w₈ = 0} {o₄ = []} {o₆ = []} {o₈ = []} c.put-v.ensures (reaches (c.in_ok-x.ensures.read s 1 (omega arith))) (omega (arith, c.in_ok-x.ensures.ahead)) (meets c.in_err-c.ensures.read) (omega (arith, c.in_ok-x.ensures.ahead)) (λ i. absurd (omega arith)) (omega (arith, c.in_ok-x.ensures.ahead)) (past_meets c.args.toks.now 128 (omega arith)) (omega (arith, c.in_ok-x.ensures.ahead)) (λ i. absurd (omega arith)) (omega (arith, c.in_ok-x.ensures.ahead)) (past_meets c.args.toks.now 61 (omega arith)) (omega arith) (λ i. absurd (omega arith)) f l))

pub returns-in_err-t-clause-read : goal.returns-in_err-t-clause-read
returns-in_err-t-clause-read c =
    rw c.from_residual-in_err-t.ensures (λ s f l. none_answer (func_read s c.args.toks.now c.args.at {at₅ = length c.args.toks.now + 1} {at₆ = length c.args.toks.now + 1} {w₆ = 0} {at₇ = length c.args.toks.now + 1} {at₈ = length c.args.toks.now + 1} {w₈ = 0} {o₆ = []} {o₈ = []} c.put-v.ensures (reaches (c.in_ok-x.ensures.read s 1 (omega arith))) (omega (arith, c.in_ok-x.ensures.ahead, c.in_ok-c.ensures.ahead)) (meets c.in_ok-c.ensures.read) (omega (arith, c.in_ok-x.ensures.ahead, c.in_ok-c.ensures.ahead)) (λ i. (reaches (c.in_err-t.ensures.read s 1 (omega arith)))) (omega (arith, c.in_ok-x.ensures.ahead, c.in_ok-c.ensures.ahead)) (past_meets c.args.toks.now 128 (omega arith)) (omega (arith, c.in_ok-x.ensures.ahead, c.in_ok-c.ensures.ahead)) (λ i. absurd (omega arith)) (omega (arith, c.in_ok-x.ensures.ahead, c.in_ok-c.ensures.ahead)) (past_meets c.args.toks.now 61 (omega arith)) (omega arith) (λ i. absurd (omega arith)) f l))

pub returns-in_err-a-clause-read : goal.returns-in_err-a-clause-read
returns-in_err-a-clause-read c =
    rw c.from_residual-in_err-a.ensures (λ s f l. none_answer (func_read s c.args.toks.now c.args.at {at₆ = length c.args.toks.now + 1} {w₆ = 0} {at₇ = length c.args.toks.now + 1} {at₈ = length c.args.toks.now + 1} {w₈ = 0} {o₆ = []} {o₈ = []} c.put-v.ensures (reaches (c.in_ok-x.ensures.read s 1 (omega arith))) (omega (arith, c.in_ok-x.ensures.ahead, c.in_ok-c.ensures.ahead, c.in_ok-t.ensures.ahead)) (meets c.in_ok-c.ensures.read) (omega (arith, c.in_ok-x.ensures.ahead, c.in_ok-c.ensures.ahead, c.in_ok-t.ensures.ahead)) (λ i. (reaches (c.in_ok-t.ensures.read s 1 (omega arith)))) (omega (arith, c.in_ok-x.ensures.ahead, c.in_ok-c.ensures.ahead, c.in_ok-t.ensures.ahead)) (meets c.in_err-a.ensures.read) (omega (arith, c.in_ok-x.ensures.ahead, c.in_ok-c.ensures.ahead, c.in_ok-t.ensures.ahead)) (λ i. absurd (omega arith)) (omega (arith, c.in_ok-x.ensures.ahead, c.in_ok-c.ensures.ahead, c.in_ok-t.ensures.ahead)) (past_meets c.args.toks.now 61 (omega arith)) (omega arith) (λ i. absurd (omega arith)) f l))

pub returns-in_err-g-clause-read : goal.returns-in_err-g-clause-read
returns-in_err-g-clause-read c =
    rw c.from_residual-in_err-g.ensures (λ s f l. none_answer (func_read s c.args.toks.now c.args.at {at₇ = length c.args.toks.now + 1} {at₈ = length c.args.toks.now + 1} {w₈ = 0} {o₈ = []} c.put-v.ensures (reaches (c.in_ok-x.ensures.read s 1 (omega arith))) (omega (arith, c.in_ok-x.ensures.ahead, c.in_ok-c.ensures.ahead, c.in_ok-t.ensures.ahead, c.in_ok-a.ensures.ahead)) (meets c.in_ok-c.ensures.read) (omega (arith, c.in_ok-x.ensures.ahead, c.in_ok-c.ensures.ahead, c.in_ok-t.ensures.ahead, c.in_ok-a.ensures.ahead)) (λ i. (reaches (c.in_ok-t.ensures.read s 1 (omega arith)))) (omega (arith, c.in_ok-x.ensures.ahead, c.in_ok-c.ensures.ahead, c.in_ok-t.ensures.ahead, c.in_ok-a.ensures.ahead)) (meets c.in_ok-a.ensures.read) (omega (arith, c.in_ok-x.ensures.ahead, c.in_ok-c.ensures.ahead, c.in_ok-t.ensures.ahead, c.in_ok-a.ensures.ahead)) (λ i. (reaches (c.in_err-g.ensures.read s 1 (omega arith)))) (omega (arith, c.in_ok-x.ensures.ahead, c.in_ok-c.ensures.ahead, c.in_ok-t.ensures.ahead, c.in_ok-a.ensures.ahead)) (past_meets c.args.toks.now 61 (omega arith)) (omega arith) (λ i. absurd (omega arith)) f l))

pub returns-in_err-e-clause-read : goal.returns-in_err-e-clause-read
returns-in_err-e-clause-read c =
    rw c.from_residual-in_err-e.ensures (λ s f l. none_answer (func_read s c.args.toks.now c.args.at {at₈ = length c.args.toks.now + 1} {w₈ = 0} {o₈ = []} c.put-v.ensures (reaches (c.in_ok-x.ensures.read s 1 (omega arith))) (omega (arith, c.in_ok-x.ensures.ahead, c.in_ok-c.ensures.ahead, c.in_ok-t.ensures.ahead, c.in_ok-a.ensures.ahead, c.in_ok-g.ensures.ahead)) (meets c.in_ok-c.ensures.read) (omega (arith, c.in_ok-x.ensures.ahead, c.in_ok-c.ensures.ahead, c.in_ok-t.ensures.ahead, c.in_ok-a.ensures.ahead, c.in_ok-g.ensures.ahead)) (λ i. (reaches (c.in_ok-t.ensures.read s 1 (omega arith)))) (omega (arith, c.in_ok-x.ensures.ahead, c.in_ok-c.ensures.ahead, c.in_ok-t.ensures.ahead, c.in_ok-a.ensures.ahead, c.in_ok-g.ensures.ahead)) (meets c.in_ok-a.ensures.read) (omega (arith, c.in_ok-x.ensures.ahead, c.in_ok-c.ensures.ahead, c.in_ok-t.ensures.ahead, c.in_ok-a.ensures.ahead, c.in_ok-g.ensures.ahead)) (λ i. (reaches (c.in_ok-g.ensures.read s 1 (omega arith)))) (omega (arith, c.in_ok-x.ensures.ahead, c.in_ok-c.ensures.ahead, c.in_ok-t.ensures.ahead, c.in_ok-a.ensures.ahead, c.in_ok-g.ensures.ahead)) (meets c.in_err-e.ensures.read) (omega arith) (λ i. absurd (omega arith)) f l))

pub returns-clause-read : goal.returns-clause-read
returns-clause-read c =
    λ s f l. answer _ c.numerals.result c.numerals.ensures.ahead (func_read s c.args.toks.now c.args.at c.put-v.ensures (reaches (c.in_ok-x.ensures.read s 1 (omega arith))) (omega (arith, c.in_ok-x.ensures.ahead, c.in_ok-c.ensures.ahead, c.in_ok-t.ensures.ahead, c.in_ok-a.ensures.ahead, c.in_ok-g.ensures.ahead, c.in_ok-e.ensures.ahead)) (meets c.in_ok-c.ensures.read) (omega (arith, c.in_ok-x.ensures.ahead, c.in_ok-c.ensures.ahead, c.in_ok-t.ensures.ahead, c.in_ok-a.ensures.ahead, c.in_ok-g.ensures.ahead, c.in_ok-e.ensures.ahead)) (λ i. (reaches (c.in_ok-t.ensures.read s 1 (omega arith)))) (omega (arith, c.in_ok-x.ensures.ahead, c.in_ok-c.ensures.ahead, c.in_ok-t.ensures.ahead, c.in_ok-a.ensures.ahead, c.in_ok-g.ensures.ahead, c.in_ok-e.ensures.ahead)) (meets c.in_ok-a.ensures.read) (omega (arith, c.in_ok-x.ensures.ahead, c.in_ok-c.ensures.ahead, c.in_ok-t.ensures.ahead, c.in_ok-a.ensures.ahead, c.in_ok-g.ensures.ahead, c.in_ok-e.ensures.ahead)) (λ i. (reaches (c.in_ok-g.ensures.read s 1 (omega arith)))) (omega (arith, c.in_ok-x.ensures.ahead, c.in_ok-c.ensures.ahead, c.in_ok-t.ensures.ahead, c.in_ok-a.ensures.ahead, c.in_ok-g.ensures.ahead, c.in_ok-e.ensures.ahead)) (meets c.in_ok-e.ensures.read) (after _ _ c.numerals.result c.numerals.ensures.ahead) (λ i. (λ g k. reaches (c.numerals.ensures.read s g k))) f l)
