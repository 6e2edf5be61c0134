-- `sheet::one_or_two` meets its contract.
use mathlib.Core.Path.{sym, ◌∙◌}
use native.Mathlib.Omega.{arith}
use Rattle.parser.proofs.Reaching.{past_end, put_any, reaches, answer_at, no_answer}
use Rattle.parser.proofs.LineLaws.{sorts_one, sorts_two}
use Rattle.parser.proofs.sheet.one_or_two.Goals as goal

pub returns-in_err-a-clause-read : goal.returns-in_err-a-clause-read
returns-in_err-a-clause-read c =
    rw c.from_residual.ensures (λ s f l. no_answer (omega arith) (sorts_one s c.args.toks.now c.args.at c.put-v.ensures (reaches (c.in_err-a.ensures.read s 1 (omega arith))) (past_end c.args.toks.now 35 (omega arith)) (put_any _ _ 18)))

pub returns-then-peek-ne-HASH-clause-read : goal.returns-then-peek-ne-HASH-clause-read
returns-then-peek-ne-HASH-clause-read c =
    λ s f l. answer_at c.ended.result c.ended.ensures.place (omega (arith, c.in_ok-a.ensures.ahead)) (sorts_one s c.args.toks.now c.args.at c.put-v.ensures (reaches (c.in_ok-a.ensures.read s 1 (omega arith))) (λ e. c.if-peek-ne-HASH.true (c.peek.ensures ∙ e)) c.ended.ensures.cell)

pub returns-in_err-b-clause-read : goal.returns-in_err-b-clause-read
returns-in_err-b-clause-read c =
    rw c.from_residual-in_err-b.ensures (λ s f l. no_answer (omega arith) (sorts_two s c.args.toks.now c.args.at c.put-v.ensures (reaches (c.in_ok-a.ensures.read s 1 (omega arith))) (sym c.peek.ensures ∙ c.if-peek-ne-HASH.false) c.put-u.ensures (reaches (c.in_err-b.ensures.read s 1 (omega arith))) (put_any _ _ 18)))

pub returns-clause-read : goal.returns-clause-read
returns-clause-read c =
    λ s f l. answer_at c.ended-2.result c.ended-2.ensures.place (omega (arith, c.in_ok-b.ensures.ahead)) (sorts_two s c.args.toks.now c.args.at c.put-v.ensures (reaches (c.in_ok-a.ensures.read s 1 (omega arith))) (sym c.peek.ensures ∙ c.if-peek-ne-HASH.false) c.put-u.ensures (reaches (c.in_ok-b.ensures.read s 1 (omega arith))) c.ended-2.ensures.cell)
