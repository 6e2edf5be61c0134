-- The values before i are copied, the others are 0.
use native.Mathlib.Omega.{arith}
use Prim.Native.Nat.{ℕ, zero, suc}
use mathlib.Core.Path.{◌≡◌, refl}
use lib.ListN.{get_or, replicate, length-set}
use Rattle.firing.proofs.Counting.{values_more, values_rest}
use Rattle.firing.proofs.first_values.Goals as goal

none-there : (x n j : ℕ) → get_or (replicate n x) j x ≡ x
none-there x zero j = refl
none-there x (suc n) zero = refl
none-there x (suc n) (suc j) = none-there x n j

pub loop-i-init : goal.loop-i-init
loop-i-init c = (omega arith, (refl, ((λ j h. absurd (omega arith)), λ j h. none-there 0 8 j)))

pub bounds-a-i : goal.bounds-a-i
bounds-a-i c = omega (arith, c.loop-i.invariant.1.0, c.requires)

pub loop-i-preserved : goal.loop-i-preserved
loop-i-preserved c = let l = c.loop-i in (omega arith, (simp length-set l.invariant.1.0, (values_more l.a c.args.params.now l.i c.peek.result (omega (arith, c.requires, l.invariant.1.0)) c.peek.ensures l.invariant.1.1.0, values_rest l.a l.i c.peek.result l.invariant.1.1.1)))

pub returns : goal.returns
returns c = let l = c.loop-i in let z : l.i ≡ c.args.p = omega arith in (l.invariant.1.0, ((λ i h. l.invariant.1.1.0 i (omega arith)), λ i h. l.invariant.1.1.1 i (omega arith)))
