-- A value below its sort's size, or a spare one that is 0.
use native.Mathlib.Omega.{arith}
use mathlib.Core.Path.{◌≡◌, ap, ◌∙◌}
use Prim.Native.Nat.{ℕ, ◌<◌}
use lib.Dec.{ltb, eqb}
use lib.ListN.{get_or}
use Rattle.laws.specs.Says.{says_as, says_lt, says_eq}
use Rattle.stacks.specs.Fitting.{FitsAt}
use Rattle.stacks.proofs.fits.Goals as goal

pub returns-then-i-sorts : goal.returns-then-i-sorts
returns-then-i-sorts c =
    let a = c.args in
    let v = c.wide.result in
    let is : v ≡ a.v = c.wide.ensures.0 in
    let e : c.cell.result ≡ get_or a.sizes.now (get_or a.sorts.now a.i 0) 0 = c.cell.ensures.0 ∙ ap (λ (x : ℕ). get_or a.sizes.now x 0) c.wide-then-i-sorts.ensures.0 in
    says_as (ltb v c.cell.result) {P = v < c.cell.result} {Q = FitsAt a.sizes.now a.sorts.now a.i a.v} (λ h. (λ w. omega arith, λ w. absurd (omega arith))) (λ f. let b = f.0 (omega arith) in omega arith) (says_lt v c.cell.result)

pub returns : goal.returns
returns c = let a = c.args in
    says_as (eqb a.v 0) {P = a.v ≡ 0} {Q = FitsAt a.sizes.now a.sorts.now a.i a.v} (λ h. (λ w. absurd (omega arith), λ w. h)) (λ f. f.1 (omega arith)) (says_eq a.v 0)
