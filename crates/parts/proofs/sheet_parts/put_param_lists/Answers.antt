-- The count, the written processes, the parts.
use Rattle.parts.proofs.TableParams.{params_put}
use Rattle.parts.proofs.sheet_parts.put_param_lists.Goals as goal

pub returns : goal.returns
returns c =
    let a = c.args in
    let l = c.put_all_parts in
    params_put a.procs.now a.cells.now a.starts.now a.n a.total a.rows.now a.w a.out.now c.put_front-x.result c.put_front-x.new.out l.result l.new.rows l.new.out c.put_front-x.ensures l.ensures
