-- `sheet::numerals` meets its contract. The invariant: the reader goes on from a later place.
use mathlib.Core.Path.{sym, ◌∙◌}
use native.Mathlib.Omega.{arith}
use Rattle.parser.proofs.Reaching.{past_end, put_any, reaches, answer_at, no_answer}
use Rattle.parser.proofs.Going.{goes_then}
use Rattle.parser.proofs.LineLaws.{numerals_last, numerals_more}
use Rattle.parser.proofs.sheet.numerals.Goals as goal

pub returns-in_err-a-clause-read : goal.returns-in_err-a-clause-read
returns-in_err-a-clause-read c =
    rw c.from_residual.ensures (λ s f l. no_answer (omega arith) ((c.loop-a.invariant.2 s).on (numerals_last s c.args.toks.now c.loop-a.from c.put-u.ensures (omega arith) (reaches (c.in_err-a.ensures.read s 1 (omega arith))) (past_end c.args.toks.now 44 (omega arith)) (put_any _ _ 18)) f l))

pub returns-then-peek-ne-COMMA-clause-read : goal.returns-then-peek-ne-COMMA-clause-read
returns-then-peek-ne-COMMA-clause-read c =
    λ s f l. answer_at c.ended.result c.ended.ensures.place (omega (arith, c.in_ok-a.ensures.ahead)) ((c.loop-a.invariant.2 s).on (numerals_last s c.args.toks.now c.loop-a.from c.put-u.ensures (omega (arith, c.in_ok-a.ensures.ahead)) (reaches (c.in_ok-a.ensures.read s 1 (omega arith))) (λ e. c.if-peek-ne-COMMA.true (c.peek.ensures ∙ e)) c.ended.ensures.cell) f l)

pub loop-a-preserved : goal.loop-a-preserved
loop-a-preserved c = (
  omega (arith, c.in_ok-a.ensures.ahead),
  omega (arith, c.numeral.auto.out, c.put-u.auto.out),
  λ s. goes_then (c.loop-a.invariant.2 s) (record { on = numerals_more s c.args.toks.now c.loop-a.from c.put-u.ensures (omega (arith, c.in_ok-a.ensures.ahead)) (reaches (c.in_ok-a.ensures.read s 1 (omega arith))) (sym c.peek.ensures ∙ c.if-peek-ne-COMMA.false) }),
)
