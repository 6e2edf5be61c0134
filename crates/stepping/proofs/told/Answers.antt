-- Refused, refused by 16, or answered.
use mathlib.Core.Path.{sym, ◌∙◌}
use Rattle.std.proofs.lemmas.Result.{err_from_is_err_and}
use Rattle.stepping.proofs.OneQuestion.{one_refused, one_deep, one_answered}
use Rattle.stepping.proofs.told.Goals as goal

pub returns-in_err-depth : goal.returns-in_err-depth
returns-in_err-depth c = λ file fs new d k all.
    let p = err_from_is_err_and c.from_residual.result c.from_residual.ensures.1 in
    rw (p.1, p.2) (one_refused file fs d k new c.in_err-depth.field-0.0 c.args.bytes c.args.out.now (rw c.in_err-depth.was at all))

pub returns-then-bytes-from : goal.returns-then-bytes-from
returns-then-bytes-from c = λ file fs new d k all. one_deep file fs d k new c.in_ok-depth.depth c.args.bytes (rw c.in_ok-depth.was at all) c.args.out.now (c.if-bytes-from.true ∙ c.from.ensures)

pub returns : goal.returns
returns c = λ file fs new d k all. one_answered file fs d k new c.in_ok-depth.depth c.args.bytes (rw c.in_ok-depth.was at all) c.args.out.now (λ e. c.if-bytes-from.false (e ∙ sym c.from.ensures))
