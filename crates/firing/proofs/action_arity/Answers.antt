-- The sorts of an action stand behind its name; tau has none.
use native.Mathlib.Omega.{arith}
use Prim.Native.Nat.{ℕ, ◌+◌}
use mathlib.Core.Path.{◌≡◌, ◌∙◌, ap}
use lib.ListN.{get_or}
use Rattle.firing.proofs.Counting.{tau_count, action_count, action_few}
use Rattle.firing.proofs.action_arity.Goals as goal

pub returns-then-b-eq-TAU : goal.returns-then-b-eq-TAU
returns-then-b-eq-TAU c = (omega arith, λ S Ps params known is. tau_count S Ps c.args.s.now c.args.acts.now params known c.args.b c.if-b-eq-TAU.true)

pub returns : goal.returns
returns c = (
  omega (arith, c.min.ensures),
  λ S Ps params known is. let a = c.args in
      let ep = c.cell-p.ensures.0 ∙ ap (λ (x : ℕ). get_or a.acts.now x 0) c.wide.ensures.0 in
      let en = c.peek-n.ensures ∙ ap (λ (x : ℕ). get_or a.s.now (c.cell-p.result + 1 + x) 0) (c.wide-2.ensures.0 ∙ c.peek.ensures) in
      let few = action_few S Ps a.s.now a.acts.now params known a.b c.cell-p.result c.peek-n.result c.if-b-eq-TAU.false is ep en in
      let e : c.min.result ≡ c.peek-n.result = omega (arith, c.min.ensures) in
      e ∙ action_count S Ps a.s.now a.acts.now params known a.b c.cell-p.result c.peek-n.result c.if-b-eq-TAU.false is ep en,
)
