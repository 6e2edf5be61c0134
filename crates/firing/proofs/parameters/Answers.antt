-- The count of parameters stands at the place that the index gives.
use native.Mathlib.Omega.{arith}
use Prim.Native.Nat.{ℕ}
use mathlib.Core.Path.{◌≡◌, ◌∙◌, ap}
use lib.ListN.{get_or}
use Rattle.firing.proofs.Counting.{params_count, params_few}
use Rattle.firing.proofs.parameters.Goals as goal

pub returns : goal.returns
returns c = (
  omega (arith, c.min.ensures),
  λ S Ps acts known h. let a = c.args in
      let z = c.peek-n.ensures ∙ ap (λ (x : ℕ). get_or a.s.now x 0) c.cell.ensures.0 in
      let few = params_few S Ps a.s.now acts a.params.now known a.e c.peek-n.result h z in
      let e : c.min.result ≡ c.peek-n.result = omega (arith, c.min.ensures) in
      e ∙ params_count S Ps a.s.now acts a.params.now known a.e c.peek-n.result h z,
)
