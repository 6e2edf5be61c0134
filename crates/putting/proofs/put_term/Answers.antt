-- Node by node: what is written and what is left come to the term. A bound on the nodes still wanted ends it early.
use native.Mathlib.Omega.{arith}
use mathlib.Core.Path.{refl, ◌∙◌}
use Rattle.putting.proofs.Bytes.{kept_front}
use Rattle.putting.proofs.PutLaws.{put_start, put_stuck, put_done, put_on, put_long, put_wide}
use Rattle.std.specs.Prelude.{None}
use Rattle.putting.proofs.put_term.Goals as goal

pub loop-need-init : goal.loop-need-init
loop-need-init c =
    ((omega arith, omega arith, omega arith, omega arith, omega arith, refl), refl, put_start c.args.cells.now c.args.at c.args.slots.now c.args.n c.args.w c.args.out.now)

pub shape_of-out-then-p-cells : goal.shape_of-out-then-p-cells
shape_of-out-then-p-cells c = c.loop-need.invariant.0.5

pub returns-then-p-cells : goal.returns-then-p-cells
returns-then-p-cells c = record {
  w_le_w = tt;
  out_unchanged = c.loop-need.invariant.1;
  puts = put_stuck c.args.cells.now c.args.at c.args.slots.now c.args.n c.args.w c.args.out.now c.loop-need.p c.loop-need.need c.loop-need.k c.loop-need.v c.loop-need.out c.loop-need.invariant.2 (omega arith) (omega arith) None c.loop-need.out;
}

pub shape_of-out-then-k-s : goal.shape_of-out-then-k-s
shape_of-out-then-k-s c = c.loop-need.invariant.0.5

pub returns-then-k-s : goal.returns-then-k-s
returns-then-k-s c = record {
  w_le_w = tt;
  out_unchanged = c.loop-need.invariant.1;
  puts = put_long c.args.cells.now c.args.at c.args.slots.now c.args.n c.args.w c.args.out.now c.loop-need.p c.loop-need.need c.loop-need.k c.loop-need.v c.loop-need.out c.loop-need.invariant.2 (omega arith) c.data_at-d.result c.data_at-d.ensures.data_views c.share_of-s.result c.share_of-s.ensures.shares (omega arith) c.loop-need.out;
}

pub shape_of-out-then-end-w : goal.shape_of-out-then-end-w
shape_of-out-then-end-w c = c.loop-need.invariant.0.5

pub returns-then-end-w : goal.returns-then-end-w
returns-then-end-w c = record {
  w_le_w = tt;
  out_unchanged = c.loop-need.invariant.1;
  puts = put_wide c.args.cells.now c.args.at c.args.slots.now c.args.n c.args.w c.args.out.now c.loop-need.p c.loop-need.need c.loop-need.k c.loop-need.v c.loop-need.out c.loop-need.invariant.2 (omega arith) c.data_at-d.result c.data_at-d.ensures.data_views c.share_of-s.result c.share_of-s.ensures.shares (omega arith) (omega arith) (omega arith) (omega arith) c.loop-need.out;
}

pub loop-need-preserved : goal.loop-need-preserved
loop-need-preserved c = (
  (omega arith, omega arith, omega arith, omega arith, omega arith, c.put_node.auto.out ∙ c.loop-need.invariant.0.5),
  kept_front c.args.w c.loop-need.v c.loop-need.out c.put_node.new.out (omega arith) c.put_node.ensures.out_unchanged ∙ c.loop-need.invariant.1,
  put_on c.args.cells.now c.args.at c.args.slots.now c.args.n c.args.w c.args.out.now c.loop-need.p c.loop-need.need c.loop-need.k c.loop-need.v c.loop-need.out c.loop-need.invariant.2 (omega arith) c.data_at-d.result c.data_at-d.ensures.data_views c.share_of-s.result c.share_of-s.ensures.shares (omega arith) c.put_node.new.out c.put_node.ensures.node_put,
)

pub shape_of-out : goal.shape_of-out
shape_of-out c = c.loop-need.invariant.0.5

pub returns : goal.returns
returns c = record {
  w_le_w = (omega arith, omega arith, omega arith);
  out_unchanged = c.loop-need.invariant.1;
  puts = put_done c.args.cells.now c.args.at c.args.slots.now c.args.n c.args.w c.args.out.now c.loop-need.p c.loop-need.need c.loop-need.k c.loop-need.v c.loop-need.out c.loop-need.invariant.2 (omega arith) (omega arith);
}
