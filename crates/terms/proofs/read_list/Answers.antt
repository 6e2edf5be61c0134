-- The count is read, and one number a turn: what is left to read is a list of as many numbers as are left.
use mathlib.Core.Path.{◌≡◌, ◌∙◌, ap}
use Prim.Native.Nat.{ℕ, ◌+◌, ◌-◌}
use native.Mathlib.Omega.{arith}
use lib.ListN.{drop, get_or}
use Rattle.pcrl.specs.Reader.{found, one, times}
use Rattle.pcrl.specs.Tests.{between?}
use Rattle.terms.proofs.Rests.{counted_no, counted_pass, number_no, number_pass, times_done, times_fail, times_pass}
use Rattle.terms.specs.Ends.{rests}
use Rattle.terms.specs.Numbers.{from?, read_list}
use Rattle.terms.proofs.read_list.Goals as goal

pub returns-in_err-n : goal.returns-in_err-n
unfolding read_list
returns-in_err-n c =
    let a = c.args in
    rw c.from_residual.ensures (counted_no (between? a.least a.most) a.s.now a.at (one (from? a.low a.limit)) (λ h. c.in_err-n.ensures (h.0, (omega (arith, c.wide.ensures.0), omega (arith, c.wide-2.ensures.0)))), tt)

pub loop-i-init : goal.loop-i-init
unfolding read_list
loop-i-init c =
    let a = c.args in
    let numbers = one (from? a.low a.limit) in
    let n = c.in_ok-n in
    let count : get_or a.s.now a.at 0 ≡ a.at + 1 + n.n - (a.at + 1) = omega arith in
    (omega arith, ap rests (counted_pass (between? a.least a.most) a.s.now a.at numbers (a.at + 1) (omega arith) (omega arith) (omega (arith, c.wide.ensures.0), omega (arith, c.wide-2.ensures.0)) ∙ ap (λ (n : ℕ). times numbers n (drop (a.at + 1) a.s.now)) count))

pub returns-in_err-number_at : goal.returns-in_err-number_at
unfolding rests
returns-in_err-number_at c =
    let a = c.args in
    let l = c.loop-i in
    let end = a.at + 1 + c.in_ok-n.n in
    let wrong = number_no (from? a.low a.limit) a.s.now l.i (λ h. c.in_err-number_at.ensures (h.0, (omega (arith, c.wide-in-loop-i.ensures.0), h.1.1))) in
    rw c.from_residual-in_err-number_at.ensures (l.invariant.1 ∙ times_fail (one (from? a.low a.limit)) (end - l.i) (end - (l.i + 1)) (drop l.i a.s.now) (omega arith) (ap rests wrong), tt)

pub loop-i-preserved : goal.loop-i-preserved
unfolding rests
loop-i-preserved c =
    let a = c.args in
    let l = c.loop-i in
    let end = a.at + 1 + c.in_ok-n.n in
    let right = number_pass (from? a.low a.limit) a.s.now l.i (l.i + 1) (omega arith) (omega (arith, c.in_ok-number_at.ensures.1.0)) (omega (arith, c.in_ok-number_at.ensures.1.1.0, c.wide-in-loop-i.ensures.0), c.in_ok-number_at.ensures.1.1.1) in
    (omega (arith, c.in_ok-number_at.ensures.1.0), l.invariant.1 ∙ times_pass (one (from? a.low a.limit)) (end - l.i) (end - (l.i + 1)) (drop l.i a.s.now) (drop (l.i + 1) a.s.now) (omega arith) (ap rests right))

pub returns : goal.returns
returns c =
    let a = c.args in
    let l = c.loop-i in
    let end = a.at + 1 + c.in_ok-n.n in
    let done : l.i ≡ end = omega arith in
    (l.invariant.1 ∙ times_done (one (from? a.low a.limit)) (end - l.i) (drop l.i a.s.now) (omega arith) ∙ ap (λ (n : ℕ). found tt (drop n a.s.now)) done, record { end = omega arith; inside = omega arith; few = omega (arith, c.wide-2.ensures.0) })
