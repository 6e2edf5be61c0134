-- By 1 there is nothing to divide.
use mathlib.Core.Path.{sym, ◌∙◌, ap}
use Prim.Native.Nat.{ℕ, ◌/◌}
use native.Mathlib.Nat.{div-one}
use Rattle.assignments.proofs.quotient.Goals as goal

pub returns-then-s-eq1 : goal.returns-then-s-eq1
returns-then-s-eq1 c = sym (ap (λ (x : ℕ). c.args.j / x) c.if-s-eq1.true ∙ div-one c.args.j)
