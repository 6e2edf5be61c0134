-- One value a turn: what is left to read is a value for each of the sorts that are left.
use mathlib.Core.Path.{◌≡◌, ◌∙◌, ap, refl}
use Prim.Native.Nat.{◌+◌, ◌<◌, ℕ}
use native.Mathlib.Omega.{arith}
use lib.ListN.{drop, get_or, length}
use Rattle.pcrl.specs.Reader.{one}
use Rattle.pcrl.specs.Tests.{below?}
use Rattle.terms.proofs.Rests.{each_done, each_fail, each_pass, number_no, number_pass}
use Rattle.terms.specs.Ends.{rests}
use Rattle.equations.proofs.read_data.Goals as goal

pub loop-d-init : goal.loop-d-init
loop-d-init c = (λ h. h, refl)

pub returns-in_err-number_at : goal.returns-in_err-number_at
unfolding rests
returns-in_err-number_at c =
    let a = c.args in
    let l = c.loop-d in
    let size = get_or a.sizes.now (get_or a.sorts.now l.d-index 0) 0 in
    let z : c.cell.result ≡ size = c.cell.ensures.0 ∙ ap (λ (i : ℕ). get_or a.sizes.now i 0) c.wide.ensures.0 in
    let wrong = number_no (below? size) a.s.now l.i (λ (h : (l.i < length a.s.now) × (get_or a.s.now l.i 0 < size)). c.in_err-number_at.ensures (h.0, (omega arith, omega (arith, h.1, z)))) in
    rw c.from_residual.ensures (l.invariant.1 ∙ each_fail (λ D. one (below? (get_or a.sizes.now D 0))) a.sorts.now 0 l.d-index (drop l.i a.s.now) (omega arith) (ap rests wrong), λ h. tt)

pub loop-d-preserved : goal.loop-d-preserved
unfolding rests
loop-d-preserved c =
    let a = c.args in
    let l = c.loop-d in
    let size = get_or a.sizes.now (get_or a.sorts.now l.d-index 0) 0 in
    let z : c.cell.result ≡ size = c.cell.ensures.0 ∙ ap (λ (i : ℕ). get_or a.sizes.now i 0) c.wide.ensures.0 in
    let value = c.in_ok-number_at.ensures.1 in
    let right = number_pass (below? size) a.s.now l.i (l.i + 1) (omega arith) value.0 (omega (arith, value.1.1, z)) in
    (λ h. omega (arith, value.0), l.invariant.1 ∙ each_pass (λ D. one (below? (get_or a.sizes.now D 0))) a.sorts.now 0 l.d-index (l.d-index + 1) (drop l.i a.s.now) (drop (l.i + 1) a.s.now) (omega arith) (omega arith) (ap rests right))

pub returns : goal.returns
returns c = (c.loop-d.invariant.1 ∙ each_done (λ D. one (below? (get_or c.args.sizes.now D 0))) c.args.sorts.now 0 c.loop-d.d-index (drop c.loop-d.i c.args.s.now) (omega arith), c.loop-d.invariant.0)
