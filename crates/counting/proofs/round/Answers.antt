-- `counting::round` meets its contract.
use native.Mathlib.Omega.{arith}
use Prim.Native.Nat.{ℕ, ◌≤◌}
use mathlib.Core.Path.{◌≡◌, sym, subst, ◌∙◌}
use lib.ListN.{length, length-set}
use Rattle.counting.specs.Limits.{row_width}
use Rattle.counting.proofs.Rows.{Filled, filled_none, filled_next, filled_all}
use Rattle.counting.proofs.round.Goals as goal

pub loop-k-init : goal.loop-k-init
loop-k-init c = ((omega arith, c.requires.3), λ H e few p s u t. filled_none H few c.args.f c.args.t.now t)

pub loop-k-preserved : goal.loop-k-preserved
loop-k-preserved c =
    let a = c.args in
    let here = c.loop-k in
    let r = c.next_count-c in (
      (omega arith, length-set here.t _ _ ∙ here.invariant.0.1),
      λ H e few p s u t. filled_next H few a.cells.now a.starts.now a.sets.now a.n a.f a.t.now here.t here.k c.cell-p.result a.same r.result e p s u t here.invariant.0.1 (omega arith) (omega arith) c.cell-p.ensures.0 r.ensures.next_count (here.invariant.1 H e few p s u t),
    )

pub shape_of-t : goal.shape_of-t
shape_of-t c = c.loop-k.invariant.0.1 ∙ sym c.requires.3

pub returns : goal.returns
returns c = λ H e p s u t.
    let a = c.args in
    let here = c.loop-k in
    let few : length H.procs ≤ row_width = omega arith in
    let z : here.k ≡ length H.procs = omega arith in
    filled_all H few a.f a.t.now here.t t (subst (λ (x : ℕ). Filled H few a.f a.t.now here.t x) z (here.invariant.1 H e few p s u t))
