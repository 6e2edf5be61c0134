-- The summands of the first k equations are counted.
use Prim.Native.Nat.{◌-◌}
use native.Mathlib.Omega.{arith}
use Rattle.listing.proofs.Sums.{summed_start, summed_more, summed_done}
use Rattle.listing.proofs.count_all.Goals as goal

pub loop-k-init : goal.loop-k-init
loop-k-init c = let a = c.args in ((omega arith, omega arith), summed_start a.procs.now a.cells.now a.starts.now a.counts.now a.firsts.now a.n a.rows.now a.total a.fuel)

pub source_of-s-requires : goal.source_of-s-requires
source_of-s-requires c = omega (arith, c.requires.0)

pub count_heads-more-requires : goal.count_heads-more-requires
count_heads-more-requires c = c.requires.1

pub loop-k-preserved : goal.loop-k-preserved
loop-k-preserved c =
    let a = c.args in
    let l = c.loop-k in
    let s = c.source_of-s in
    let h = c.count_heads-more in
    let t = c.min-sum in
    ((omega arith, omega (arith, t.ensures)), summed_more a.procs.now a.cells.now a.starts.now a.counts.now a.firsts.now a.n a.rows.now a.total a.fuel l.k l.sum s.result h.result t.result (omega arith) s.ensures.sources h.ensures (omega arith) l.invariant.1)

pub returns : goal.returns
returns c = let a = c.args in let l = c.loop-k in summed_done a.procs.now a.cells.now a.starts.now a.counts.now a.firsts.now a.n a.rows.now a.total a.fuel l.k l.sum l.invariant.0.0 (omega arith) l.invariant.1
