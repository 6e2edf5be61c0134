-- Each way out by the law of its branch.
use mathlib.Core.Path.{sym, ap, ◌∙◌}
use Prim.Native.Nat.{ℕ, ◌+◌, ◌*◌}
use native.Mathlib.Omega.{arith}
use Rattle.initial.specs.Symbols.{looked_at}
use Rattle.initial.proofs.Operating.{two_written, two_operated}
use Rattle.initial.proofs.of_two.Goals as goal

pub returns-then-f-lt-NOT : goal.returns-then-f-lt-NOT
returns-then-f-lt-NOT c = let a = c.args in let z = c.second in let p = c.row-p in let v = c.looked in (
  v.ensures.0
      ∙ ap (looked_at a.values.now a.places.now a.f) (p.ensures.0 ∙ ap (λ (m : ℕ). a.x * m + a.y) z.ensures.0)
      ∙ sym (two_written a.sizes.now a.funcs.now a.values.now a.places.now a.f a.x a.y (omega arith)),
  omega (arith, v.ensures.1),
)

pub returns : goal.returns
returns c = let a = c.args in let v = c.operate in (
  v.ensures.0 ∙ sym (two_operated a.sizes.now a.funcs.now a.values.now a.places.now a.f a.x a.y (omega arith)),
  v.ensures.1,
)
