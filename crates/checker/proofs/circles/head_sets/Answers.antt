-- `head_sets` gathers the processes at the head of each right side. Invariant: the sets below k are right.
use Prim.Native.Nat.{ℕ}
use native.Mathlib.Omega.{arith}
use mathlib.Core.Path.{◌≡◌, subst, ◌∙◌}
use lib.ListN.{length-replicate, length-set}
use Rattle.checker.specs.Circles.{SetsAt}
use Rattle.checker.proofs.Rounds.{sets_more}
use Rattle.checker.proofs.circles.head_sets.Goals as goal

pub loop-k-init : goal.loop-k-init
loop-k-init c = ((omega arith, length-replicate {A = ℕ} 16 0), λ j l. absurd (omega arith))

pub loop-k-preserved : goal.loop-k-preserved
loop-k-preserved c =
    let a = c.args in
    let here = c.loop-k in
    let r = c.heads_of-r in (
      (omega arith, length-set here.sets _ _ ∙ here.invariant.0.1),
      sets_more a.cells.now a.starts.now here.k c.cell.result here.sets r.result (omega arith) c.cell.ensures.0 r.ensures.heads_at here.invariant.1,
    )

pub returns : goal.returns
returns c =
    let here = c.loop-k in
    let z : here.k ≡ c.args.n = omega arith in
    record { of_len = here.invariant.0.1; sets_at = subst (λ (x : ℕ). SetsAt c.args.cells.now c.args.starts.now x here.sets) z here.invariant.1 }
