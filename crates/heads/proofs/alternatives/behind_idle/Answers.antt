-- `heads::alternatives::behind_idle` meets its contract.
use native.Mathlib.Omega.{arith}
use Rattle.counting.specs.Limits.{row}
use Rattle.heads.proofs.Passing.{idle_counts}
use Rattle.heads.proofs.alternatives.behind_idle.Goals as goal

pub returns-then-e-cells : goal.returns-then-e-cells
returns-then-e-cells c =
    let a = c.args in
    let first = c.node_at-d in
    let second = c.node_at-e in
    let on = first.ensures.on in
    let on₂ = second.ensures.on in (
      omega (arith, on.on, on₂.on),
      omega (arith, c.if-e-cells.true),
      record {
        d = first.result;
        on = on;
        views = first.ensures.views;
        is = c.if-d-ne-ALT.false;
        further = omega (arith, on₂.on);
        counted = idle_counts a.cells.now (row a.base a.counts.now) first.result.next second.result second.ensures.views (c.idle.ensures c.if-idle.true);
      },
    )
