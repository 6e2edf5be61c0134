-- The lowest of all conditions so far.
use native.Mathlib.Omega.{arith}
use native.Mathlib.Nat.{min-le_left, min-le_right}
use Prim.Native.Nat.{ℕ, ◌≤◌}
use lib.ListN.{get_or}
use Rattle.evaluation.specs.Run.{foot}
use Rattle.assignments.specs.Conditions.{code}
use Rattle.assignments.proofs.Separating.{last_or}
use Rattle.assignments.proofs.gaps.lowest.Goals as goal

pub loop-i-init : goal.loop-i-init
loop-i-init c = (omega arith, λ st m h. absurd (omega arith))

pub loop-i-preserved : goal.loop-i-preserved
loop-i-preserved c = let a = c.args in let here = c.loop-i in (
  omega arith,
  λ st.
      last_or (λ (m : ℕ). c.min-low.result ≤ foot a.p (code a.s.now (get_or a.c.now.froms m 0) (get_or a.c.now.ends m 0))) here.i
      (let y = st here.i c.loop-i-test.true in let z = c.term_low.ensures y.some_term y.inside in omega (arith, c.min-low.ensures, min-le_right here.low c.term_low.result))
      (λ m h. let z = here.invariant.1 st m h in omega (arith, c.min-low.ensures, min-le_left here.low c.term_low.result)),
)

pub returns : goal.returns
returns c = λ st m h. c.loop-i.invariant.1 st m (omega arith)
