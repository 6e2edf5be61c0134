-- The slots of its parameters, and its heads.
use Rattle.listing.proofs.Sums.{equation_put}
use Rattle.listing.proofs.put_equation.Goals as goal

pub returns : goal.returns
returns c =
    let a = c.args in
    let p = c.put_params in
    let x = c.write_summands in
    record { w_le_w = x.ensures.w_le_w; equation_put = equation_put a.cells.now a.starts.now a.counts.now a.firsts.now a.fuel a.s p.new.slots a.w a.out.now x.result x.new.out p.ensures x.ensures.summands_written }
