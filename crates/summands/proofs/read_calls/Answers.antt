-- One call a turn: what is left to read is as many calls as are left.
use mathlib.Core.Path.{◌≡◌, ◌∙◌, ap}
use Prim.Native.Nat.{◌+◌, ◌-◌, ◌<◌, ℕ, ◌≤◌}
use native.Mathlib.Omega.{arith}
use lib.ListN.{drop, get_or, length}
use Rattle.pcrl.specs.Decode.{read_call}
use Rattle.pcrl.specs.Limits.{max_calls}
use Rattle.pcrl.specs.Reader.{times}
use Rattle.pcrl.specs.Tests.{at_most?}
use Rattle.terms.proofs.Rests.{counted_no, counted_pass, times_done, times_fail, times_pass}
use Rattle.terms.specs.Ends.{rests}
use Rattle.summands.proofs.read_calls.Goals as goal

pub returns-in_err-n : goal.returns-in_err-n
returns-in_err-n c =
    let b = c.args in
    rw c.from_residual.ensures (λ S Ps k q. counted_no (at_most? max_calls) b.s.now b.at (read_call S Ps b.scope.now) (λ (x : (b.at < length b.s.now) × (get_or b.s.now b.at 0 ≤ max_calls)). c.in_err-n.ensures (x.0, (omega arith, omega (arith, x.1)))))

pub loop-init : goal.loop-init
loop-init c =
    let a = c.args in
    let all : get_or a.s.now a.at 0 ≡ c.in_ok-n.n - 0 = omega arith in
    λ S Ps k q. ap rests (counted_pass (at_most? max_calls) a.s.now a.at (read_call S Ps a.scope.now) (a.at + 1) (omega arith) (omega arith) (omega arith)) ∙ ap (λ (n : ℕ). rests (times (read_call S Ps a.scope.now) n (drop (a.at + 1) a.s.now))) all

pub returns-in_err-i : goal.returns-in_err-i
returns-in_err-i c =
    let a = c.args in
    let l = c.loop in
    let n = c.in_ok-n.n in
    rw c.from_residual-in_err-i.ensures λ S Ps k q. c.loop.invariant S Ps k q ∙ times_fail (read_call S Ps a.scope.now) (n - l.counter) (n - (l.counter + 1)) (drop l.i a.s.now) (omega arith) (c.in_err-i.ensures S Ps k q)

pub loop-preserved : goal.loop-preserved
loop-preserved c =
    let a = c.args in
    let l = c.loop in
    let n = c.in_ok-n.n in
    λ S Ps k q. c.loop.invariant S Ps k q ∙ times_pass (read_call S Ps a.scope.now) (n - l.counter) (n - (l.counter + 1)) (drop l.i a.s.now) _ (omega arith) (c.in_ok-i.ensures S Ps k q)

pub returns : goal.returns
returns c =
    let a = c.args in
    let l = c.loop in
    λ S Ps k q. c.loop.invariant S Ps k q ∙ times_done (read_call S Ps a.scope.now) (c.in_ok-n.n - l.counter) (drop l.i a.s.now) (omega arith)
