-- `sheet::params` meets its contract.
use mathlib.Core.Path.{sym, ◌∙◌}
use Rattle.parser.proofs.Reaching.{reaches, answer, answer_at}
use Rattle.parser.proofs.LineLaws.{params_none, params_some}
use Rattle.parser.proofs.sheet.params.Goals as goal

pub returns-then-peek-ne-OPEN-clause-read : goal.returns-then-peek-ne-OPEN-clause-read
returns-then-peek-ne-OPEN-clause-read c =
    λ i s f l. answer_at c.ended.result c.ended.ensures.place i (params_none s c.args.toks.now c.args.at i (λ e. c.if-peek-ne-OPEN.true (c.peek.ensures ∙ e)) c.ended.ensures.cell f)

pub returns-clause-read : goal.returns-clause-read
returns-clause-read c =
    λ i s f l. answer _ c.parameters.result c.parameters.ensures.ahead (params_some s c.args.toks.now c.args.at (sym c.peek.ensures ∙ c.if-peek-ne-OPEN.false) (λ g k. reaches (c.parameters.ensures.read s g k)) f l)
