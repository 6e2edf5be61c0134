-- The node's own part, and then its subterms; a sum opens a level.
use mathlib.Core.Path.{◌≡◌}
use native.Mathlib.Omega.{arith}
use Prim.Native.Nat.{◌≤◌}
use Rattle.nodes.specs.Layout.{sum_kind}
use Rattle.nodes.specs.Scoped.{max_scope}
use Rattle.parts.proofs.StepLaws.{step_other, step_sum}
use Rattle.parts.proofs.right_side.pass.Goals as goal
use Rattle.parts.proofs.right_side.pass.Goals.{then-d-eq-SUM+else-n-lt-MAX_SCOPE, else-d-eq-SUM}

pub returns-then-n-lt-MAX_SCOPE : goal.returns-then-n-lt-MAX_SCOPE
returns-then-n-lt-MAX_SCOPE c =
    let a = c.args in
    let d = c.node_at-d in
    let t = c.own_part-t in
    let on = d.ensures.on.on in
    let n = t.ensures.count_le_count in
    let p = c.requires in record {
      at_lt_at = (omega arith, omega arith, n.0, n.1);
      rows_kept = t.ensures.noting.kept;
      steps = step_sum a.cells.now a.left.now a.sorts.now a.rows.now a.out.now a.s t.new.rows t.new.out t.result d.result d.ensures.views p.0 p.1 t.ensures.noting
          c.enter.new.left c.enter.new.sorts (omega arith) (omega arith) (omega arith) p.2 c.enter.ensures;
    }

pub overflow_add-result-2 : goal.overflow_add-result-2
overflow_add-result-2 c = let k = c.type_inv.cells in let p = c.requires in let q = p.2 in let d = c.node_at-d.ensures.on.kids_few in omega arith

pub returns : goal.returns
returns c =
    let a = c.args in
    let d = c.node_at-d in
    let t = c.own_part-t in
    let on = d.ensures.on.on in
    let n = t.ensures.count_le_count in
    let p = c.requires in
    let other : d.result.kind ≡ sum_kind → max_scope ≤ a.s.level = elim c.if-d-eq-SUM.branch [ then-d-eq-SUM+else-n-lt-MAX_SCOPE w ↦ λ z. omega arith | else-d-eq-SUM w ↦ λ z. omega arith ] in record { at_lt_at = (omega arith, p.3, n.0, n.1); rows_kept = t.ensures.noting.kept; steps = step_other a.cells.now a.left.now a.sorts.now a.rows.now a.out.now a.s t.new.rows t.new.out t.result d.result d.ensures.views p.0 p.1 t.ensures.noting other }
