-- `count` meets its contract, each way through by a law of `Laws`.
use native.Mathlib.Omega.{arith}
use Prim.Native.Nat.{ℕ, ◌+◌, ◌-◌, ◌<◌}
use mathlib.Core.Path.{◌≡◌, sym, subst, ap, ◌∙◌}
use Rattle.nodes.specs.Layout.{seq_kind}
use Rattle.counting.specs.Limits.{cut, row}
use Rattle.counting.specs.Counting.{leaf_of}
use Rattle.counting.proofs.Laws.{CountLeft, count_start, count_stuck, count_done, count_step, count_alt, count_seq}
use Rattle.counting.proofs.+count.Goals as goal

pub loop-need-init : goal.loop-need-init
loop-need-init t c = (omega arith, count_start (row c.args.base c.args.counts.now) c.args.cells.now c.args.at)

pub returns-then-p-cells : goal.returns-then-p-cells
returns-then-p-cells t c =
    let args = c.args in
    let here = c.loop-need in
    let counts = row args.base args.counts.now in
    let s = args.cells.now in
    let at = args.at in
    record {
      at_le_next = omega arith;
      counts = count_stuck counts s at here.p here.need here.n here.m here.invariant.1 (omega arith) (omega arith) (record { next = here.p; heads = here.n; own = here.m });
    }

pub loop-need-preserved-then-cell-eq-ALT : goal.loop-need-preserved-then-cell-eq-ALT
loop-need-preserved-then-cell-eq-ALT t c =
    let args = c.args in
    let here = c.loop-need in
    let counts = row args.base args.counts.now in
    let s = args.cells.now in
    let at = args.at in
    (omega arith, count_alt counts s at here.p here.need here.n here.m here.invariant.1 (omega arith) (omega arith) (omega arith) (omega arith))

pub loop-need-preserved-then-d-eq-SEQ : goal.loop-need-preserved-then-d-eq-SEQ
loop-need-preserved-then-d-eq-SEQ t c =
    let args = c.args in
    let here = c.loop-need in
    let counts = row args.base args.counts.now in
    let s = args.cells.now in
    let at = args.at in
    let d = c.node_at-d in
    let a = c.count-a in
    let k = c.skip-b in
    let more : 0 < here.need = omega arith in
    let ten : d.result.kind ≡ seq_kind = omega arith in
    let heads : c.add-n.result ≡ cut (here.n + a.result.heads) = c.add-n.ensures.0 in
    let own : c.add-m.result ≡ cut (here.m + cut (a.result.own + k.result.own)) = c.add-m.ensures.0 ∙ ap (λ (y : ℕ). cut (here.m + y)) c.add.ensures.0 in (
      omega arith,
      subst (λ (x : ℕ). CountLeft counts s at k.result.next (here.need - 1) x c.add-m.result) (sym heads)
          (subst (λ (x : ℕ). CountLeft counts s at k.result.next (here.need - 1) (cut (here.n + a.result.heads)) x) (sym own)
          (count_seq counts s at here.p here.need here.n here.m here.invariant.1 more d.result d.ensures.views ten a.result k.result a.ensures.counts k.ensures.skips)),
    )

pub loop-need-preserved : goal.loop-need-preserved
loop-need-preserved t c =
    let args = c.args in
    let here = c.loop-need in
    let counts = row args.base args.counts.now in
    let s = args.cells.now in
    let at = args.at in
    let d = c.node_at-d in
    let more : 0 < here.need = omega arith in
    let other : d.result.kind ≡ seq_kind → ⊥ = λ z. omega arith in
    let left = here.need - 1 + d.result.kids in
    let heads : c.add-n-in-loop-need.result ≡ cut (here.n + leaf_of counts d.result.kind d.result.number) = c.add-n-in-loop-need.ensures.0 ∙ ap (λ (y : ℕ). cut (here.n + y)) c.leaf.ensures.0 in (
      omega arith,
      subst (λ (x : ℕ). CountLeft counts s at d.result.next left x c.add-m-in-loop-need.result) (sym heads)
          (subst (λ (x : ℕ). CountLeft counts s at d.result.next left (cut (here.n + leaf_of counts d.result.kind d.result.number)) x) (sym c.add-m-in-loop-need.ensures.0)
          (count_step counts s at here.p here.need here.n here.m here.invariant.1 more d.result d.ensures.views other)),
    )

pub returns : goal.returns
returns t c =
    let args = c.args in
    let here = c.loop-need in
    let counts = row args.base args.counts.now in
    let s = args.cells.now in
    let at = args.at in
    record {
      at_le_next = omega arith;
      counts = count_done counts s at here.p here.need here.n here.m here.invariant.1 (omega arith) (omega arith) (omega arith);
    }
