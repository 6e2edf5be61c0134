-- One part after another, however the sequences are nested. The measure is what is left of the cells.
use native.Mathlib.Omega.{arith}
use mathlib.Core.Path.{refl, ◌∙◌}
use Rattle.std.specs.Prelude.{None}
use Rattle.following.proofs.Parts.{parts_start, parts_stuck, parts_done, parts_seq, parts_many, parts_on, parts_last, parts_long}
use Rattle.following.proofs.put_calls.Goals as goal

pub loop-need-init : goal.loop-need-init
loop-need-init c =
    ((omega arith, omega arith, omega arith, omega arith, c.requires.0, refl), parts_start c.args.cells.now c.args.at c.args.c c.args.slots.now c.args.n c.args.most c.args.out.now)

pub shape_of-out-then-p-cells : goal.shape_of-out-then-p-cells
shape_of-out-then-p-cells c = c.loop-need.invariant.0.5

pub returns-then-p-cells : goal.returns-then-p-cells
returns-then-p-cells c =
    record {
      n_le_most = tt;
      calls_put = parts_stuck c.args.cells.now c.args.at c.args.c c.args.slots.now c.args.n c.args.most c.args.out.now c.loop-need.p c.loop-need.need c.loop-need.k c.loop-need.e c.loop-need.v c.loop-need.out c.loop-need.invariant.1 (omega arith) (omega arith) None c.loop-need.out;
    }

pub loop-need-preserved-then-d-eq-SEQ : goal.loop-need-preserved-then-d-eq-SEQ
loop-need-preserved-then-d-eq-SEQ c =
    ((omega arith, omega arith, omega arith, omega arith, c.loop-need.invariant.0.4, c.loop-need.invariant.0.5), parts_seq c.args.cells.now c.args.at c.args.c c.args.slots.now c.args.n c.args.most c.args.out.now c.loop-need.p c.loop-need.need c.loop-need.k c.loop-need.e c.loop-need.v c.loop-need.out c.loop-need.invariant.1 (omega arith) c.node_at-d.result c.node_at-d.ensures.views (omega arith))

pub shape_of-out-then-k-most : goal.shape_of-out-then-k-most
shape_of-out-then-k-most c = c.loop-need.invariant.0.5

pub returns-then-k-most : goal.returns-then-k-most
returns-then-k-most c =
    record {
      n_le_most = tt;
      calls_put = parts_many c.args.cells.now c.args.at c.args.c c.args.slots.now c.args.n c.args.most c.args.out.now c.loop-need.p c.loop-need.need c.loop-need.k c.loop-need.e c.loop-need.v c.loop-need.out c.loop-need.invariant.1 (omega arith) c.node_at-d.result c.node_at-d.ensures.views (λ z. omega arith) (omega arith) c.loop-need.out;
    }

pub put_call-requires : goal.put_call-requires
put_call-requires c =
    let q = c.requires in let i = c.loop-need.invariant.0 in (omega arith, omega arith, omega arith, omega arith, omega arith)

pub shape_of-out-in_err-end : goal.shape_of-out-in_err-end
shape_of-out-in_err-end c =
    c.put_call.auto.out ∙ c.loop-need.invariant.0.5

pub returns-in_err-end : goal.returns-in_err-end
returns-in_err-end c =
    rw c.from_residual.ensures record {
      n_le_most = tt;
      calls_put = parts_long c.args.cells.now c.args.at c.args.c c.args.slots.now c.args.n c.args.most c.args.out.now c.loop-need.p c.loop-need.need c.loop-need.k c.loop-need.e c.loop-need.v c.loop-need.out c.loop-need.invariant.1 (omega arith) c.node_at-d.result c.node_at-d.ensures.views (λ z. omega arith) c.put_call.new.out c.in_err-end.ensures.call_put c.put_call.new.out;
    }

pub overflow_add-result : goal.overflow_add-result
overflow_add-result c =
    let i = c.loop-need.invariant.0 in let q = c.requires in omega arith

pub shape_of-out-then-need-eq1 : goal.shape_of-out-then-need-eq1
shape_of-out-then-need-eq1 c =
    c.put_call.auto.out ∙ c.loop-need.invariant.0.5

pub returns-then-need-eq1 : goal.returns-then-need-eq1
returns-then-need-eq1 c =
    let i = c.loop-need.invariant.0 in
    let u = c.in_ok-end.ensures.w_le_w in
    let a = c.args in
    let here = c.loop-need in
    let put = c.put_call in record {
      n_le_most = (omega arith, omega arith);
      calls_put = parts_last a.cells.now a.at a.c a.slots.now a.n a.most a.out.now here.p here.need here.k here.e here.v here.out here.invariant.1 (omega arith) c.node_at-d.result c.node_at-d.ensures.views (λ z. omega arith) c.in_ok-end.end put.new.out c.in_ok-end.ensures.call_put (omega arith);
    }

pub later-e-requires : goal.later-e-requires
later-e-requires c =
    c.loop-need.invariant.0.4

pub overflow_add-k : goal.overflow_add-k
overflow_add-k c =
    let i = c.loop-need.invariant.0 in let q = c.requires in omega arith

pub loop-need-smaller : goal.loop-need-smaller
loop-need-smaller c =
    let sk = c.skip-s.ensures.at_le_next in let i = c.loop-need.invariant.0 in omega arith

pub loop-need-preserved : goal.loop-need-preserved
loop-need-preserved c =
    let q = c.requires in let i = c.loop-need.invariant.0 in let u = c.in_ok-end.ensures.w_le_w in let sk = c.skip-s.ensures.at_le_next in (
      (omega arith, omega arith, omega arith, omega arith, c.later-e.ensures.0, c.put_call.auto.out ∙ i.5),
      parts_on c.args.cells.now c.args.at c.args.c c.args.slots.now c.args.n c.args.most c.args.out.now c.loop-need.p c.loop-need.need c.loop-need.k c.loop-need.e c.loop-need.v c.loop-need.out c.loop-need.invariant.1 (omega arith) c.node_at-d.result c.node_at-d.ensures.views (λ z. omega arith) c.in_ok-end.end c.put_call.new.out c.in_ok-end.ensures.call_put c.skip-s.result c.skip-s.ensures.skips c.later-e.result c.later-e.ensures.1,
    )

pub shape_of-out : goal.shape_of-out
shape_of-out c = c.loop-need.invariant.0.5

pub returns : goal.returns
returns c = record {
  n_le_most = omega arith;
  calls_put = parts_done c.args.cells.now c.args.at c.args.c c.args.slots.now c.args.n c.args.most c.args.out.now c.loop-need.p c.loop-need.need c.loop-need.k c.loop-need.e c.loop-need.v c.loop-need.out c.loop-need.invariant.1 (omega arith);
}
