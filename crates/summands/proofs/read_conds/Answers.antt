-- One condition a turn: what is left to read is as many conditions as are left.
use mathlib.Core.Path.{◌≡◌, ◌∙◌, ap}
use Prim.Native.Nat.{◌+◌, ◌-◌, ◌<◌, ℕ, ◌≤◌}
use native.Mathlib.Omega.{arith}
use lib.ListN.{drop, get_or, length}
use Rattle.pcrl.specs.Decode.{read_cond}
use Rattle.pcrl.specs.Limits.{max_conditions}
use Rattle.pcrl.specs.Reader.{times}
use Rattle.pcrl.specs.Tests.{at_most?}
use Rattle.terms.proofs.Rests.{counted_no, counted_pass, times_done, times_fail, times_pass}
use Rattle.terms.specs.Ends.{rests}
use Rattle.summands.proofs.read_conds.Goals as goal

pub returns-in_err-n : goal.returns-in_err-n
returns-in_err-n c =
    let b = c.args in
    rw c.from_residual.ensures (λ S k. counted_no (at_most? max_conditions) b.s.now b.at (read_cond S b.scope.now) (λ (x : (b.at < length b.s.now) × (get_or b.s.now b.at 0 ≤ max_conditions)). c.in_err-n.ensures (x.0, (omega arith, omega (arith, x.1)))))

pub loop-init : goal.loop-init
loop-init c =
    let a = c.args in
    let all : get_or a.s.now a.at 0 ≡ c.in_ok-n.n - 0 = omega arith in
    λ S k. ap rests (counted_pass (at_most? max_conditions) a.s.now a.at (read_cond S a.scope.now) (a.at + 1) (omega arith) (omega arith) (omega arith)) ∙ ap (λ (n : ℕ). rests (times (read_cond S a.scope.now) n (drop (a.at + 1) a.s.now))) all

pub returns-in_err-i : goal.returns-in_err-i
returns-in_err-i c =
    let a = c.args in
    let l = c.loop in
    let n = c.in_ok-n.n in
    rw c.from_residual-in_err-i.ensures λ S k. c.loop.invariant S k ∙ times_fail (read_cond S a.scope.now) (n - l.counter) (n - (l.counter + 1)) (drop l.i a.s.now) (omega arith) (c.in_err-i.ensures S k)

pub loop-preserved : goal.loop-preserved
loop-preserved c =
    let a = c.args in
    let l = c.loop in
    let n = c.in_ok-n.n in
    λ S k. c.loop.invariant S k ∙ times_pass (read_cond S a.scope.now) (n - l.counter) (n - (l.counter + 1)) (drop l.i a.s.now) _ (omega arith) (c.in_ok-i.ensures S k)

pub returns : goal.returns
returns c =
    let a = c.args in
    let l = c.loop in
    λ S k. c.loop.invariant S k ∙ times_done (read_cond S a.scope.now) (c.in_ok-n.n - l.counter) (drop l.i a.s.now) (omega arith)
