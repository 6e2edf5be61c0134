-- A term that is no sequence gives its own head and its subterms; of a sequence the first part's heads count, and the rest is passed over.
use native.Mathlib.Omega.{arith}
use Rattle.checker.proofs.Heads.{heads_start, heads_stuck, heads_done, heads_step, heads_seq}
use Rattle.checker.proofs.circles.+heads_of.Goals as goal

pub loop-need-init : goal.loop-need-init
loop-need-init t c = ((omega arith, omega arith), heads_start c.args.cells.now c.args.at)

pub returns-then-p-cells : goal.returns-then-p-cells
returns-then-p-cells t c =
    let here = c.loop-need in
    record {
      at_le_next = omega arith;
      heads_at = heads_stuck c.args.cells.now c.args.at here.p here.need here.set here.invariant.1 (omega arith) (omega arith) (record { set = here.set; next = here.p });
    }

pub heads_of-first-requires : goal.heads_of-first-requires
heads_of-first-requires t c = (omega arith, tt)

pub loop-need-preserved-then-d-eq-SEQ : goal.loop-need-preserved-then-d-eq-SEQ
loop-need-preserved-then-d-eq-SEQ t c =
    let here = c.loop-need in
    let d = c.node_at-d in (
      (omega arith, omega arith),
      heads_seq c.args.cells.now c.args.at here.p here.need here.set here.invariant.1 (omega arith) d.result d.ensures.views (omega arith) c.heads_of-first.result c.skip-after.result c.heads_of-first.ensures.heads_at c.skip-after.ensures.skips
          c.union-set.result c.union-set.ensures,
    )

pub loop-need-preserved : goal.loop-need-preserved
loop-need-preserved t c =
    let here = c.loop-need in
    let d = c.node_at-d in (
      (omega arith, omega arith),
      heads_step c.args.cells.now c.args.at here.p here.need here.set here.invariant.1 (omega arith) d.result d.ensures.views (λ z. omega arith) c.with_call-set.result c.with_call-set.ensures,
    )

pub returns : goal.returns
returns t c =
    let here = c.loop-need in
    record {
      at_le_next = omega arith;
      heads_at = heads_done c.args.cells.now c.args.at here.p here.need here.set here.invariant.1 (omega arith);
    }
