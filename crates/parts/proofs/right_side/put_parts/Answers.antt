-- Node after node, as long as something is left.
use mathlib.Core.Path.{refl, ◌∙◌}
use native.Mathlib.Omega.{arith}
use Rattle.parts.proofs.RowLaws.{kept_none, kept_then}
use Rattle.parts.proofs.WalkLaws.{walks_none, walks_more, walk_end, walk_many, walk_done}
use Rattle.parts.proofs.right_side.put_parts.Goals as goal

pub loop-s-init : goal.loop-s-init
loop-s-init c =
    let a = c.args in
    ((refl, refl, refl, refl, c.requires.0, omega arith, omega arith, λ z. omega arith), kept_none a.rows.now a.k, walks_none a.cells.now a.base a.left.now a.sorts.now a.rows.now a.out.now (record { at = a.at; level = a.base; need = 1; count = a.k; w = a.w }))

pub shape_of-left-then-s-cells : goal.shape_of-left-then-s-cells
shape_of-left-then-s-cells c = c.loop-s.invariant.0.0

pub shape_of-sorts-then-s-cells : goal.shape_of-sorts-then-s-cells
shape_of-sorts-then-s-cells c = c.loop-s.invariant.0.1

pub shape_of-rows-then-s-cells : goal.shape_of-rows-then-s-cells
shape_of-rows-then-s-cells c = c.loop-s.invariant.0.2

pub shape_of-out-then-s-cells : goal.shape_of-out-then-s-cells
shape_of-out-then-s-cells c = c.loop-s.invariant.0.3

pub returns-then-s-cells : goal.returns-then-s-cells
returns-then-s-cells c =
    let a = c.args in
    let l = c.loop-s in
    record { rows_kept = l.invariant.1; puts_parts = walk_end a.cells.now a.at a.base a.k a.w a.left.now a.sorts.now a.rows.now a.out.now l.left l.sorts l.rows l.out l.s l.invariant.2 (omega arith) (omega arith) }

pub shape_of-left-then-s-cells-2 : goal.shape_of-left-then-s-cells-2
shape_of-left-then-s-cells-2 c = c.loop-s.invariant.0.0

pub shape_of-sorts-then-s-cells-2 : goal.shape_of-sorts-then-s-cells-2
shape_of-sorts-then-s-cells-2 c = c.loop-s.invariant.0.1

pub shape_of-rows-then-s-cells-2 : goal.shape_of-rows-then-s-cells-2
shape_of-rows-then-s-cells-2 c = c.loop-s.invariant.0.2

pub shape_of-out-then-s-cells-2 : goal.shape_of-out-then-s-cells-2
shape_of-out-then-s-cells-2 c = c.loop-s.invariant.0.3

pub returns-then-s-cells-2 : goal.returns-then-s-cells-2
returns-then-s-cells-2 c =
    let a = c.args in
    let l = c.loop-s in
    record { rows_kept = l.invariant.1; puts_parts = walk_many a.cells.now a.at a.base a.k a.w a.left.now a.sorts.now a.rows.now a.out.now l.left l.sorts l.rows l.out l.s l.invariant.2 (omega arith) }

pub pass-t-requires : goal.pass-t-requires
pass-t-requires c =
    let l = c.loop-s in
    let i = l.invariant.0 in
    let p = c.requires in
    (omega arith, omega arith, omega arith, i.4, omega arith, i.0 ∙ p.2, i.1 ∙ p.3)

pub loop-s-smaller : goal.loop-s-smaller
loop-s-smaller c = let e = c.pass-t.ensures.at_lt_at in let r = c.rise-s.ensures.at_value in omega arith

pub loop-s-preserved : goal.loop-s-preserved
loop-s-preserved c =
    let a = c.args in
    let l = c.loop-s in
    let i = l.invariant.0 in
    let t = c.pass-t in
    let u = c.rise-s in
    let e = t.ensures.at_lt_at in
    let r = u.ensures.at_value in (
      (t.auto.left ∙ i.0, t.auto.sorts ∙ i.1, t.auto.rows ∙ i.2, t.auto.out ∙ i.3, omega arith, omega arith, omega arith, r.4),
      kept_then a.rows.now l.rows t.new.rows a.k l.s.count i.5 l.invariant.1 t.ensures.rows_kept,
      walks_more a.cells.now a.base a.left.now a.sorts.now a.rows.now a.out.now (record { at = a.at; level = a.base; need = 1; count = a.k; w = a.w }) l.left l.sorts l.rows l.out l.s l.invariant.2
          t.new.left t.new.sorts t.new.rows t.new.out t.result u.result i.2 t.ensures.steps t.ensures.rows_kept u.ensures.rises r.2 r.3,
    )

pub shape_of-left : goal.shape_of-left
shape_of-left c = c.loop-s.invariant.0.0

pub shape_of-sorts : goal.shape_of-sorts
shape_of-sorts c = c.loop-s.invariant.0.1

pub shape_of-rows : goal.shape_of-rows
shape_of-rows c = c.loop-s.invariant.0.2

pub shape_of-out : goal.shape_of-out
shape_of-out c = c.loop-s.invariant.0.3

pub returns : goal.returns
returns c =
    let a = c.args in
    let l = c.loop-s in
    record { rows_kept = l.invariant.1; puts_parts = walk_done a.cells.now a.at a.base a.k a.w a.left.now a.sorts.now a.rows.now a.out.now l.left l.sorts l.rows l.out l.s l.invariant.2 (omega arith) (l.invariant.0.7 (omega arith)) }
