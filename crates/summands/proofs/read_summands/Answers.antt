-- One summand a turn: what is left to read is as many summands as are left.
use mathlib.Core.Path.{◌≡◌, ◌∙◌, ap}
use Prim.Native.Nat.{◌+◌, ◌-◌, ◌<◌, ◌≤◌, ℕ}
use native.Mathlib.Omega.{arith}
use lib.ListN.{drop, get_or, length}
use Rattle.pcrl.specs.Decode.{read_summand, read_summands}
use Rattle.pcrl.specs.Limits.{max_summands}
use Rattle.pcrl.specs.Reader.{times}
use Rattle.pcrl.specs.Tests.{at_most?}
use Rattle.terms.proofs.Rests.{counted_no, counted_pass, times_done, times_fail, times_pass}
use Rattle.terms.specs.Ends.{rests}
use Rattle.summands.proofs.read_summands.Goals as goal

pub returns-in_err-n : goal.returns-in_err-n
unfolding read_summands
returns-in_err-n c =
    let b = c.args in
    rw c.from_residual.ensures (λ S Ps k a q h. counted_no (at_most? max_summands) b.s.now b.at (read_summand S Ps b.own.now) (λ (x : (b.at < length b.s.now) × (get_or b.s.now b.at 0 ≤ max_summands)). c.in_err-n.ensures (x.0, (omega arith, omega (arith, x.1)))), tt)

pub loop-init : goal.loop-init
unfolding read_summands
loop-init c =
    let b = c.args in
    let all : get_or b.s.now b.at 0 ≡ c.in_ok-n.n - 0 = omega arith in
    (omega arith, λ S Ps k a q h. ap rests (counted_pass (at_most? max_summands) b.s.now b.at (read_summand S Ps b.own.now) (b.at + 1) (omega arith) (omega arith) (omega arith)) ∙ ap (λ (n : ℕ). rests (times (read_summand S Ps b.own.now) n (drop (b.at + 1) b.s.now))) all)

pub returns-in_err-i : goal.returns-in_err-i
returns-in_err-i c =
    let b = c.args in
    let l = c.loop in
    let n = c.in_ok-n.n in
    rw c.from_residual-in_err-i.ensures (λ S Ps k a q h. c.loop.invariant.1 S Ps k a q h ∙ times_fail (read_summand S Ps b.own.now) (n - l.counter) (n - (l.counter + 1)) (drop l.i b.s.now) (omega arith) (c.in_err-i.ensures S Ps k a q h), tt)

pub loop-preserved : goal.loop-preserved
loop-preserved c =
    let b = c.args in
    let l = c.loop in
    let n = c.in_ok-n.n in
    (c.loop.invariant.0, λ S Ps k a q h. c.loop.invariant.1 S Ps k a q h ∙ times_pass (read_summand S Ps b.own.now) (n - l.counter) (n - (l.counter + 1)) (drop l.i b.s.now) _ (omega arith) (c.in_ok-i.ensures S Ps k a q h))

pub returns : goal.returns
returns c =
    let b = c.args in
    let l = c.loop in
    (λ S Ps k a q h. c.loop.invariant.1 S Ps k a q h ∙ times_done (read_summand S Ps b.own.now) (c.in_ok-n.n - l.counter) (drop l.i b.s.now) (omega arith), c.loop.invariant.0)
