-- `data::named` meets its contract, with or without bracketed data.
use mathlib.Core.Path.{sym, ◌∙◌}
use native.Mathlib.Omega.{arith}
use Rattle.parser.proofs.Reaching.{past_end, reaches, answer, some_answer, no_answer}
use Rattle.parser.proofs.DataLaws.{call_bare, call_given}
use Rattle.parser.proofs.data.named.Goals as goal

pub returns-in_err-a-clause-read : goal.returns-in_err-a-clause-read
returns-in_err-a-clause-read c =
    rw c.from_residual.ensures (λ s f l. no_answer (omega arith) (call_bare s c.args.toks.now c.args.at c.put-x.ensures (omega arith) (reaches (c.in_err-a.ensures.read s 1 (omega arith))) (past_end c.args.toks.now 40 (omega arith)) f))

pub returns-then-peek-ne-OPEN-clause-read : goal.returns-then-peek-ne-OPEN-clause-read
returns-then-peek-ne-OPEN-clause-read c =
    λ s f l. some_answer _ (omega (arith, c.in_ok-a.ensures.ahead)) (call_bare s c.args.toks.now c.args.at c.put-x.ensures (omega (arith, c.in_ok-a.ensures.ahead)) (reaches (c.in_ok-a.ensures.read s 1 (omega arith))) (λ e. c.if-peek-ne-OPEN.true (c.peek.ensures ∙ e)) f)

pub returns-clause-read : goal.returns-clause-read
returns-clause-read c =
    λ s f l. answer _ c.data_list.result c.data_list.ensures.ahead (call_given s c.args.toks.now c.args.at c.put-x.ensures (omega (arith, c.in_ok-a.ensures.ahead)) (reaches (c.in_ok-a.ensures.read s 1 (omega arith))) (sym c.peek.ensures ∙ c.if-peek-ne-OPEN.false) c.put.ensures (λ g k. reaches (c.data_list.ensures.read s g k)) f l)
