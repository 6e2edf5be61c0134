-- `sheet::act_line` meets its contract.
use mathlib.Core.Path.{sym, ◌∙◌}
use native.Mathlib.Omega.{arith}
use Rattle.parser.proofs.Reaching.{past_end, put_any, reaches, answer, answer_at, no_answer}
use Rattle.parser.proofs.LineLaws.{act_bare, act_sorts}
use Rattle.parser.proofs.sheet.act_line.Goals as goal

pub returns-in_err-x-clause-read : goal.returns-in_err-x-clause-read
returns-in_err-x-clause-read c =
    rw c.from_residual.ensures (λ s f l. no_answer (omega arith) (act_bare s c.args.toks.now c.args.at c.put-v.ensures (reaches (c.in_err-x.ensures.read s 1 (omega arith))) (past_end c.args.toks.now 58 (omega arith)) (put_any _ _ 18)))

pub returns-then-peek-ne-COLON-clause-read : goal.returns-then-peek-ne-COLON-clause-read
returns-then-peek-ne-COLON-clause-read c =
    λ s f l. answer_at c.ended.result c.ended.ensures.place (omega (arith, c.in_ok-x.ensures.ahead)) (act_bare s c.args.toks.now c.args.at c.put-v.ensures (reaches (c.in_ok-x.ensures.read s 1 (omega arith))) (λ e. c.if-peek-ne-COLON.true (c.peek.ensures ∙ e)) c.ended.ensures.cell)

pub returns-clause-read : goal.returns-clause-read
returns-clause-read c =
    λ s f l. answer _ c.one_or_two.result c.one_or_two.ensures.ahead (act_sorts s c.args.toks.now c.args.at c.put-v.ensures (reaches (c.in_ok-x.ensures.read s 1 (omega arith))) (sym c.peek.ensures ∙ c.if-peek-ne-COLON.false) (reaches (c.one_or_two.ensures.read s 1 (omega arith))))
