-- A remainder by a size fits a byte.
use mathlib.Core.Path.{sym, ◌∙◌, ap}
use Prim.Native.Nat.{ℕ, ◌%◌}
use native.Mathlib.Nat.{mod-one}
use Rattle.assignments.proofs.Counter.{small}
use Rattle.assignments.proofs.digit.Goals as goal

pub returns-then-s-eq1 : goal.returns-then-s-eq1
returns-then-s-eq1 c = sym (ap (λ (x : ℕ). c.args.j % x) c.if-s-eq1.true ∙ mod-one c.args.j)

pub overflow_cast-result-2 : goal.overflow_cast-result-2
overflow_cast-result-2 c = record { fits = small c.args.j c.args.s c.requires c.ranges.s.fits }
