-- Those of the first k equations are written.
use mathlib.Core.Path.{refl, ◌∙◌}
use Prim.Native.Nat.{◌-◌}
use native.Mathlib.Omega.{arith}
use Rattle.listing.proofs.Sums.{written_start, written_more, written_wrong, written_done}
use Rattle.std.proofs.lemmas.Result.{err_from_is_err_and}
use Rattle.listing.proofs.put_all.Goals as goal

pub loop-k-init : goal.loop-k-init
loop-k-init c = let a = c.args in let p = c.requires in ((omega arith, p.2, refl), written_start a.procs.now a.cells.now a.starts.now a.counts.now a.firsts.now a.n a.rows.now a.total a.fuel a.w a.out.now)

pub source_of-s-requires : goal.source_of-s-requires
source_of-s-requires c = omega (arith, c.requires.0)

pub put_equation-requires : goal.put_equation-requires
put_equation-requires c = let p = c.requires in let i = c.loop-k.invariant.0 in (p.1, c.source_of-s.ensures.bounded, i.1, omega arith)

pub shape_of-out-in_err-v : goal.shape_of-out-in_err-v
shape_of-out-in_err-v c = c.put_equation.auto.out ∙ c.loop-k.invariant.0.2

pub returns-in_err-v : goal.returns-in_err-v
returns-in_err-v c =
    let a = c.args in
    let l = c.loop-k in
    let s = c.source_of-s in
    let d = c.in_err-v in
    let p = err_from_is_err_and c.from_residual.result c.from_residual.ensures.1 in
    rw (p.1, p.2) (written_wrong a.procs.now a.cells.now a.starts.now a.counts.now a.firsts.now a.n a.rows.now a.total a.fuel a.w a.out.now l.k s.result l.v l.out _ c.put_equation.new.out (omega arith) s.ensures.sources d.ensures.equation_put l.invariant.0.2 l.invariant.1)

pub loop-k-preserved : goal.loop-k-preserved
loop-k-preserved c =
    let a = c.args in
    let l = c.loop-k in
    let s = c.source_of-s in
    let d = c.put_equation in
    let u = c.in_ok-v in
    let k = d.auto.out in
    let e = u.ensures.w_le_w in
    ((omega arith, omega arith, k ∙ l.invariant.0.2), written_more a.procs.now a.cells.now a.starts.now a.counts.now a.firsts.now a.n a.rows.now a.total a.fuel a.w a.out.now l.k s.result l.v l.out u.v d.new.out (omega arith) s.ensures.sources u.ensures.equation_put (omega arith) l.invariant.0.1 l.invariant.1)

pub shape_of-out : goal.shape_of-out
shape_of-out c = c.loop-k.invariant.0.2

pub returns : goal.returns
returns c =
    let a = c.args in
    let l = c.loop-k in
    let i = l.invariant.0 in
    written_done a.procs.now a.cells.now a.starts.now a.counts.now a.firsts.now a.n a.rows.now a.total a.fuel a.w a.out.now l.k l.v l.out i.0 (omega arith) (omega arith) l.invariant.1
