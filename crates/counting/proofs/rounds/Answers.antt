-- `counting::rounds` meets its contract.
use native.Mathlib.Omega.{arith}
use Prim.Native.Nat.{ℕ}
use mathlib.Core.Path.{◌≡◌, sym, ap, subst, ◌∙◌}
use mathlib.Core.List.{List}
use lib.ListN.{length, get_or, length-replicate}
use Rattle.counting.specs.Counting.{Tallied}
use Rattle.counting.proofs.AtHead.{sets_placed, unchanged_next}
use Rattle.counting.proofs.Rows.{tallied_none, zeros_none}
use Rattle.counting.proofs.rounds.Goals as goal

pub loop-f-init : goal.loop-f-init
loop-f-init c =
    let z = c.requires.2 in
    ((omega arith, ap length z ∙ length-replicate {A = ℕ} 288 0, λ g e. absurd (omega arith)), λ H e few p. tallied_none H few _ (λ j. ap (λ (l : List ℕ). get_or l j 0) z ∙ zeros_none 288 j))

pub loop-f-preserved : goal.loop-f-preserved
loop-f-preserved c =
    let here = c.loop-f in
    let r = c.round in (
      (omega arith, r.auto.t ∙ here.invariant.0.1, unchanged_next r.new.t here.f c.unchanged-same.result c.unchanged-same.ensures),
      λ H e few p. r.ensures H e p (sets_placed H c.args.cells.now c.args.starts.now c.args.n c.head_sets-sets.result e p c.head_sets-sets.ensures.sets_at) here.invariant.0.2 (here.invariant.1 H e few p),
    )

pub shape_of-t : goal.shape_of-t
shape_of-t c = c.loop-f.invariant.0.1 ∙ sym (ap length c.requires.2 ∙ length-replicate {A = ℕ} 288 0)

pub returns : goal.returns
returns c = λ H e p.
    let here = c.loop-f in
    let z : here.f ≡ c.args.times = omega arith in
    subst (λ (x : ℕ). Tallied H x here.t) z (here.invariant.1 H e (omega arith) p)
