-- The parts of the first k right sides have their rows and their bytes.
use mathlib.Core.Path.{refl, sym, ◌∙◌}
use native.Mathlib.Omega.{arith}
use Rattle.parts.proofs.SheetParts.{all_start, all_far, all_more, all_done}
use Rattle.parts.proofs.sheet_parts.put_all_parts.Goals as goal

pub loop-k-init : goal.loop-k-init
loop-k-init c = let a = c.args in ((omega arith, refl, refl, refl, refl), all_start a.procs.now a.cells.now a.starts.now a.n a.rows.now a.w a.out.now)

pub shape_of-rows-then-count-ge-CELL_LIMIT : goal.shape_of-rows-then-count-ge-CELL_LIMIT
shape_of-rows-then-count-ge-CELL_LIMIT c = c.loop-k.invariant.0.3

pub shape_of-out-then-count-ge-CELL_LIMIT : goal.shape_of-out-then-count-ge-CELL_LIMIT
shape_of-out-then-count-ge-CELL_LIMIT c = c.loop-k.invariant.0.4

pub returns-then-count-ge-CELL_LIMIT : goal.returns-then-count-ge-CELL_LIMIT
returns-then-count-ge-CELL_LIMIT c = let a = c.args in let l = c.loop-k in all_far a.procs.now a.cells.now a.starts.now a.n a.rows.now a.w a.out.now l.k l.count l.v l.rows l.out c.requires.1 (omega arith) l.invariant.1

pub overflow_mul-k : goal.overflow_mul-k
overflow_mul-k c = omega (arith, c.requires.0)

pub slice_bounds-load-end : goal.slice_bounds-load-end
slice_bounds-load-end c = sym c.loop-k.invariant.0.2

pub load-base-requires : goal.load-base-requires
load-base-requires c = (omega (arith, c.requires.0), c.loop-k.invariant.0.2)

pub slice_bounds-put_parts-end : goal.slice_bounds-put_parts-end
slice_bounds-put_parts-end c = sym c.loop-k.invariant.0.1

pub slice_bounds-put_parts-end-in-loop-k : goal.slice_bounds-put_parts-end-in-loop-k
slice_bounds-put_parts-end-in-loop-k c = sym (c.load-base.auto.sorts ∙ c.loop-k.invariant.0.2)

pub put_parts-s-requires : goal.put_parts-s-requires
put_parts-s-requires c = (c.load-base.ensures.upper_bound, omega arith, c.loop-k.invariant.0.1, c.load-base.auto.sorts ∙ c.loop-k.invariant.0.2)

pub loop-k-preserved : goal.loop-k-preserved
loop-k-preserved c =
    let a = c.args in
    let l = c.loop-k in
    let t = c.put_parts-s in
    let i1 = c.loop-k-test in (
      (omega arith, t.auto.left ∙ l.invariant.0.1, t.auto.sorts ∙ c.load-base.auto.sorts ∙ l.invariant.0.2, t.auto.rows ∙ l.invariant.0.3, t.auto.out ∙ l.invariant.0.4),
      all_more a.procs.now a.cells.now a.starts.now a.n a.rows.now a.w a.out.now l.k l.count l.v l.rows l.out c.load-base.new.sorts c.load-base.result c.cell.result t.result t.new.rows t.new.out
          (omega arith) l.invariant.0.3 c.load-base.ensures.loads c.cell.ensures.0 t.ensures.rows_kept t.ensures.puts_parts l.invariant.1,
    )

pub shape_of-rows : goal.shape_of-rows
shape_of-rows c = c.loop-k.invariant.0.3

pub shape_of-out : goal.shape_of-out
shape_of-out c = c.loop-k.invariant.0.4

pub returns : goal.returns
returns c = let a = c.args in let l = c.loop-k in all_done a.procs.now a.cells.now a.starts.now a.n a.rows.now a.w a.out.now l.k l.count l.v l.rows l.out (omega arith) l.invariant.1
