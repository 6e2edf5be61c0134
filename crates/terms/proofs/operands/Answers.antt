-- `!` wants a Bool, `==` its sort twice, the others two Bools.
use Prim.Native.Nat.{◌+◌}
use native.Mathlib.Omega.{arith}
use Rattle.terms.proofs.Operators.{wants_both, wants_equal, wants_not}
use Rattle.terms.proofs.operands.Goals as goal

pub returns-then-n-eq-NOT_CODE : goal.returns-then-n-eq-NOT_CODE
returns-then-n-eq-NOT_CODE c = (
  λ S Γ D k.
      let a = c.args in
      rw (wants_not S Γ a.s.now a.i D (omega arith) k (λ e. omega arith) (omega arith)) c.push.ensures.0,
  (omega arith, omega arith),
)

pub returns-then-n-eq-EQUAL_CODE : goal.returns-then-n-eq-EQUAL_CODE
returns-then-n-eq-EQUAL_CODE c = (
  λ S Γ D k.
      let a = c.args in
      rw (wants_equal S Γ a.s.now a.i D (omega arith) k (a.i + 1) (omega arith) (omega arith)) (cc (c.push-then-n-eq-EQUAL_CODE.ensures.0, c.push-t.ensures.0, c.peek-d.ensures)),
  (omega arith, omega arith),
)

pub returns : goal.returns
returns c = (
  λ S Γ D k.
      let a = c.args in
      rw (wants_both S Γ a.s.now a.i D (omega arith) k (λ e. omega arith) (omega arith) (λ e. omega arith)) (cc (c.push-2.ensures.0, c.push-t-2.ensures.0)),
  (omega arith, omega arith),
)
