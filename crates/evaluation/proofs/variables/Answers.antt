-- From the right, the larger and the lower of what was found and the next byte.
use native.Mathlib.Omega.{arith}
use Prim.Native.Nat.{ℕ, suc, ◌+◌, ◌-◌, max}
use mathlib.Core.Path.{◌≡◌, sym, ◌∙◌, ap, ap₂}
use lib.ListN.{drop, take}
use Rattle.evaluation.specs.Run.{peak, foot, lowered}
use Rattle.evaluation.proofs.Bytes.{peak_none, peak_more, foot_none, foot_more}
use Rattle.evaluation.proofs.variables.Goals as goal

pub loop-i-init : goal.loop-i-init
loop-i-init c = let a = c.args in let e = c.min-i.ensures in (omega (arith, e), (omega (arith, e), λ h k. (omega (arith, e), (peak_none a.s.now c.min-i.result (a.end - c.min-i.result) (omega (arith, e)), foot_none a.p a.s.now c.min-i.result (a.end - c.min-i.result) (omega (arith, e))))))

pub loop-i-preserved : goal.loop-i-preserved
loop-i-preserved c = let q = c.args.p in let i = c.loop-i.i in let s = c.args.s.now in let end = c.args.end in (
  omega arith,
  (
    omega arith,
    λ h k.
        let v = c.loop-i.invariant.1.1 h k in
        let m : end - (i - 1) ≡ suc (end - i) = omega arith in
        let j : i - 1 + 1 ≡ i = omega arith in
        let up = rw j at (peak_more s (i - 1) (end - i) (omega arith)) in
        let down = rw j at (foot_more q s (i - 1) (end - i) (omega arith)) in (
          omega arith,
          (
            c.max-high.ensures ∙ ap₂ max c.variable-n.ensures v.1.0 ∙ sym up ∙ ap (λ (x : ℕ). peak (take x (drop (i - 1) s))) (sym m),
            c.lower-low.ensures ∙ ap₂ (lowered q) c.variable-n.ensures v.1.1 ∙ sym down ∙ ap (λ (x : ℕ). foot q (take x (drop (i - 1) s))) (sym m),
          ),
        ),
  ),
)

pub returns : goal.returns
returns c = λ h k. let a = c.args in let v = c.loop-i.invariant.1.1 h k in let e : c.loop-i.i ≡ a.at = omega arith in (v.1.0 ∙ ap (λ (x : ℕ). peak (take (a.end - x) (drop x a.s.now))) e, v.1.1 ∙ ap (λ (x : ℕ). foot a.p (take (a.end - x) (drop x a.s.now))) e)
