-- A sheet that is refused.
use lib.ListN.{length}
use Rattle.std.proofs.lemmas.Result.{err_from_is_err_and}
use Rattle.making.proofs.MakingLaws.{refuses, made_refused}
use Rattle.making.proofs.make.Goals as goal

pub returns-in_err-rows : goal.returns-in_err-rows
returns-in_err-rows c =
    let a = c.args in
    let r = c.read_sheet in
    let p = err_from_is_err_and c.from_residual.result c.from_residual.ensures.1 in
    rw (p.1, p.2) (refuses _ _ a.out.now (made_refused a.sheet.now r.new.values r.new.cells (length a.out.now) _ c.in_err-rows.ensures))
