-- One value a turn: what is left to read is as many values as are left.
use mathlib.Core.Path.{◌≡◌, ◌∙◌, ap}
use Prim.Native.Nat.{◌+◌, ◌-◌, ◌<◌, ℕ}
use native.Mathlib.Omega.{arith}
use lib.ListN.{drop, get_or, length}
use Rattle.pcrl.specs.Reader.{one, times}
use Rattle.pcrl.specs.Tests.{below?}
use Rattle.terms.proofs.Rests.{number_no, number_pass, times_done, times_fail, times_pass}
use Rattle.terms.specs.Ends.{rests}
use Rattle.signature.proofs.read_values.Goals as goal

pub loop-init : goal.loop-init
loop-init c = let all : c.args.n ≡ c.args.n - 0 = omega arith in ap (λ (n : ℕ). rests (times (one (below? c.args.limit)) n (drop c.args.at c.args.s.now))) all

pub returns-in_err-number_at : goal.returns-in_err-number_at
unfolding rests
returns-in_err-number_at c =
    let a = c.args in
    let l = c.loop in
    let wrong = number_no (below? a.limit) a.s.now l.i (λ (h : (l.i < length a.s.now) × (get_or a.s.now l.i 0 < a.limit)). c.in_err-number_at.ensures (h.0, (omega arith, omega (arith, h.1, c.wide.ensures.0)))) in
    rw c.from_residual.ensures (l.invariant ∙ times_fail (one (below? a.limit)) (a.n - l.counter) (a.n - (l.counter + 1)) (drop l.i a.s.now) (omega arith) (ap rests wrong))

pub loop-preserved : goal.loop-preserved
unfolding rests
loop-preserved c =
    let a = c.args in
    let l = c.loop in
    let value = c.in_ok-number_at.ensures.1 in
    l.invariant ∙ times_pass (one (below? a.limit)) (a.n - l.counter) (a.n - (l.counter + 1)) (drop l.i a.s.now) (drop (l.i + 1) a.s.now) (omega arith) (ap rests (number_pass (below? a.limit) a.s.now l.i (l.i + 1) (omega arith) value.0 (omega (arith, value.1.1, c.wide.ensures.0))))

pub returns : goal.returns
returns c = c.loop.invariant ∙ times_done (one (below? c.args.limit)) (c.args.n - c.loop.counter) (drop c.loop.i c.args.s.now) (omega arith)
