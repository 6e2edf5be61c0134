-- A written process, or a part.
use Prim.Native.Nat.{◌-◌}
use native.Mathlib.Omega.{arith}
use Rattle.listing.proofs.SourceLaws.{written_source, part_source}
use Rattle.listing.proofs.source_of.Goals as goal

pub returns-then-k-n : goal.returns-then-k-n
returns-then-k-n c =
    let a = c.args in
    let i = c.if-k-n in
    let x = c.written_source in
    record { bounded = x.ensures.bounded; sources = λ cells counts total f H p h. written_source a.procs.now cells a.starts.now counts a.firsts.now a.n a.rows.now total f H p a.k x.result (omega arith) x.ensures.written_source }

pub returns : goal.returns
returns c =
    let a = c.args in
    let i = c.if-k-n in
    let x = c.part_source in
    record { bounded = x.ensures.bounded; sources = λ cells counts total f H p h. part_source a.procs.now cells a.starts.now counts a.firsts.now a.n a.rows.now total f H p a.k (a.k - a.n.procs) x.result (omega arith) (omega (arith, p.total_is, p.placed.held.proc_count)) x.ensures.part_source }
