-- What is known so far is the answer for the bytes from i on.
-- from the place asked for on, or behind the end
use native.Mathlib.Omega.{arith}
use Prim.Native.Nat.{ℕ, ◌-◌, ◌≤◌, ◌<◌}
use mathlib.Core.Path.{◌≡◌, refl, subst}
use mathlib.Core.List.{List}
use mathlib.Core.Bool.{Bool, true, false}
use lib.ListN.{drop, length}
use lib.Dec.{ltb}
use borrow.Author.Tests.{ltb-true, ltb-false}
use Rattle.laws.specs.Says.{Says, says_as}
use Rattle.tables.proofs.Answer.{Zeros, zeros_none, zeros_said}
use Rattle.tables.proofs.zeros.Goals as goal

all_said : (s : List ℕ) (at i : ℕ) (good : Bool) → i ≤ at → (at ≤ length s → at ≤ i) → (length s < at → i ≡ length s) → Says good (Zeros (drop i s)) → Says good (Zeros (drop at s))
all_said s at i good h k l w = go (ltb (length s) at) refl
  where
    go : (t : Bool) → ltb (length s) at ≡ t → Says good (Zeros (drop at s))
    go true q = let b = ltb-true (length s) at q in says_as good (λ r. zeros_none s at (omega arith)) (λ r. zeros_none s i (let z = l b in omega arith)) w
    go false q = let b = ltb-false (length s) at q in let c = k b in let z : i ≡ at = omega arith in subst (λ (x : ℕ). Says good (Zeros (drop x s))) z w

pub loop-i-init : goal.loop-i-init
loop-i-init c = let s = c.args.s.now in (omega arith, (λ h. omega arith, (λ h. omega arith, zeros_none s (length s) (omega arith))))

pub bounds-s-i : goal.bounds-s-i
bounds-s-i c = let v = c.loop-i.invariant.0 in omega arith

pub loop-i-preserved : goal.loop-i-preserved
loop-i-preserved c = let s = c.args.s.now in let l = c.loop-i in let at = c.args.at in let v = l.invariant.0 in
    (omega arith, (λ h. omega arith, (λ h. absurd (let z = l.invariant.1.1.0 h in omega arith), zeros_said s l.i (l.i - 1) (omega arith) (omega arith) l.good l.invariant.1.1.1)))

pub returns : goal.returns
returns c = let l = c.loop-i in all_said c.args.s.now c.args.at l.i l.good (omega arith) l.invariant.1.0 l.invariant.1.1.0 l.invariant.1.1.1
