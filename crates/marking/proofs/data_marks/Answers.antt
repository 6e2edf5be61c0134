-- What is noted so far and what is left come to the marks of all. The measure is what is left of the cells.
use mathlib.Core.Path.{refl, ◌∙◌}
use native.Mathlib.Omega.{arith}
use Rattle.marking.proofs.MarkLaws.{data_start, data_stuck, data_many, data_done, data_step}
use Rattle.marking.proofs.data_marks.Goals as goal

pub loop-need-init : goal.loop-need-init
loop-need-init c =
    (omega arith, data_start c.args.cells.now c.args.at c.args.count c.args.n c.args.m, λ i h. refl)

pub returns-then-p-cells : goal.returns-then-p-cells
returns-then-p-cells c = record {
  marks_data = data_stuck c.args.cells.now c.args.at c.args.count c.args.n c.args.m c.loop-need.p c.loop-need.need c.loop-need.x c.loop-need.invariant.1 (omega arith) (omega arith) _;
  high_bits = c.loop-need.invariant.2;
}

pub returns-then-need-cells : goal.returns-then-need-cells
returns-then-need-cells c = record {
  marks_data = data_many c.args.cells.now c.args.at c.args.count c.args.n c.args.m c.loop-need.p c.loop-need.need c.loop-need.x c.loop-need.invariant.1 (omega arith) (omega arith) _;
  high_bits = c.loop-need.invariant.2;
}

pub loop-need-preserved : goal.loop-need-preserved
loop-need-preserved c =
    (omega arith, data_step c.args.cells.now c.args.at c.args.count c.args.n c.args.m c.loop-need.p c.loop-need.need c.loop-need.x c.loop-need.invariant.1 (omega arith) c.data_at-d.result c.data_at-d.ensures.data_views c.note-x.result c.note-x.ensures.notes, λ i h. c.note-x.ensures.high_bits i h ∙ c.loop-need.invariant.2 i h)

pub returns : goal.returns
returns c = record {
  marks_data = data_done c.args.cells.now c.args.at c.args.count c.args.n c.args.m c.loop-need.p c.loop-need.need c.loop-need.x c.loop-need.invariant.1 (omega arith);
  high_bits = c.loop-need.invariant.2;
}
