-- One byte a turn: what is left to read is as many name bytes as are left.
use mathlib.Core.Path.{◌≡◌, ◌∙◌, ap, sym}
use Prim.Native.Nat.{◌+◌, ◌-◌, ℕ}
use native.Mathlib.Omega.{arith}
use lib.ListN.{drop, get_or}
use Rattle.laws.specs.Tests.{of_true}
use Rattle.action_names.proofs.Run.{fails}
use Rattle.pcrl.specs.Bytes.{name_byte}
use Rattle.pcrl.specs.Limits.{max_name}
use Rattle.pcrl.specs.Reader.{found, one, times}
use Rattle.pcrl.specs.Tests.{T?, between?}
use Rattle.terms.proofs.Rests.{counted_no, counted_pass, number_bad, number_end, number_pass, times_done, times_fail, times_pass}
use Rattle.terms.specs.Ends.{rests}
use Rattle.action_names.proofs.read_run.Goals as goal

pub returns-in_err-n : goal.returns-in_err-n
returns-in_err-n c =
    let a = c.args in
    rw c.from_residual.ensures (counted_no (between? 1 max_name) a.s.now a.at (one (λ (b : ℕ). T? (name_byte b))) (λ h. c.in_err-n.ensures (h.0, (h.1.0, omega (arith, h.1.1)))), tt)

pub loop-i-init : goal.loop-i-init
loop-i-init c =
    let a = c.args in
    let bytes = one (λ (b : ℕ). T? (name_byte b)) in
    let count : get_or a.s.now a.at 0 ≡ a.at + 1 + c.in_ok-n.n - (a.at + 1) = omega arith in
    (omega arith, omega arith, ap rests (counted_pass (between? 1 max_name) a.s.now a.at bytes (a.at + 1) (omega arith) (omega arith) (omega arith, omega arith) ∙ ap (λ (n : ℕ). times bytes n (drop (a.at + 1) a.s.now)) count))

pub returns-then-s-i : goal.returns-then-s-i
unfolding rests
returns-then-s-i c = (c.loop-i.invariant.2 ∙ times_fail (one (λ (b : ℕ). T? (name_byte b))) ((c.args.at + 1 + c.in_ok-n.n) - c.loop-i.i) ((c.args.at + 1 + c.in_ok-n.n) - (c.loop-i.i + 1)) (drop c.loop-i.i c.args.s.now) (omega arith) (ap rests (number_end (λ (b : ℕ). T? (name_byte b)) c.args.s.now c.loop-i.i c.if-s-i.true)), tt)

pub returns-then-not-name_byte : goal.returns-then-not-name_byte
unfolding rests
returns-then-not-name_byte c = (c.loop-i.invariant.2 ∙ times_fail (one (λ (b : ℕ). T? (name_byte b))) ((c.args.at + 1 + c.in_ok-n.n) - c.loop-i.i) ((c.args.at + 1 + c.in_ok-n.n) - (c.loop-i.i + 1)) (drop c.loop-i.i c.args.s.now) (omega arith) (ap rests (number_bad (λ (b : ℕ). T? (name_byte b)) c.args.s.now c.loop-i.i (omega arith) (fails (name_byte (get_or c.args.s.now c.loop-i.i 0)) (sym c.name_byte.ensures ∙ c.if-not-name_byte.true)))), tt)

pub loop-i-preserved : goal.loop-i-preserved
unfolding rests
loop-i-preserved c = (
  omega arith,
  c.loop-i.invariant.1,
  c.loop-i.invariant.2
      ∙ times_pass (one (λ (b : ℕ). T? (name_byte b))) ((c.args.at + 1 + c.in_ok-n.n) - c.loop-i.i) ((c.args.at + 1 + c.in_ok-n.n) - (c.loop-i.i + 1)) (drop c.loop-i.i c.args.s.now) (drop (c.loop-i.i + 1) c.args.s.now) (omega arith) (ap rests (number_pass (λ (b : ℕ). T? (name_byte b)) c.args.s.now c.loop-i.i (c.loop-i.i + 1) (omega arith) (omega arith) (of_true (name_byte (get_or c.args.s.now c.loop-i.i 0)) (sym c.name_byte.ensures ∙ c.if-not-name_byte.false)))),
)

pub returns : goal.returns
returns c =
    let a = c.args in
    let l = c.loop-i in
    let end = a.at + 1 + c.in_ok-n.n in
    let done : l.i ≡ end = omega arith in
    (l.invariant.2 ∙ times_done (one (λ (b : ℕ). T? (name_byte b))) (end - l.i) (drop l.i a.s.now) (omega arith) ∙ ap (λ (n : ℕ). found tt (drop n a.s.now)) done, l.invariant.1)
