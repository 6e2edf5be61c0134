-- The marks of a term are those of its nodes, one after another.
use mathlib.Core.Path.{refl, ◌∙◌}
use native.Mathlib.Omega.{arith}
use Rattle.marking.proofs.MarkLaws.{mark_none, mark_start, mark_stuck, mark_done, mark_step}
use Rattle.marking.proofs.marks.Goals as goal

pub returns-then-n-eq0 : goal.returns-then-n-eq0
returns-then-n-eq0 c = record {
  marked = mark_none c.args.cells.now c.args.at c.args.n (omega arith);
  high_bits = λ i h. refl;
}

pub loop-need-init : goal.loop-need-init
loop-need-init c = (omega arith, mark_start c.args.cells.now c.args.at c.args.n, λ i h. refl)

pub returns-then-p-cells : goal.returns-then-p-cells
returns-then-p-cells c = record {
  marked = mark_stuck c.args.cells.now c.args.at c.args.n c.loop-need.p c.loop-need.need c.loop-need.x c.loop-need.invariant.1 (omega arith) (omega arith) _;
  high_bits = c.loop-need.invariant.2;
}

pub loop-need-preserved : goal.loop-need-preserved
loop-need-preserved c =
    (omega arith, mark_step c.args.cells.now c.args.at c.args.n c.loop-need.p c.loop-need.need c.loop-need.x c.loop-need.invariant.1 (omega arith) c.node_at-d.result c.node_at-d.ensures.views c.data_marks-x.result c.data_marks-x.ensures.marks_data, λ i h. c.data_marks-x.ensures.high_bits i h ∙ c.loop-need.invariant.2 i h)

pub returns : goal.returns
returns c = record {
  marked = mark_done c.args.cells.now c.args.at c.args.n c.loop-need.p c.loop-need.need c.loop-need.x c.loop-need.invariant.1 (omega arith);
  high_bits = c.loop-need.invariant.2;
}
