-- One action a turn; where it stands is kept.
use mathlib.Core.Path.{◌∙◌, ◌≡◌, ap, refl, subst}
use Rattle.std.specs.Prelude.{Some}
use Prim.Native.Nat.{◌<◌, ◌+◌, ◌-◌, ◌≤◌, ℕ}
use native.Mathlib.Omega.{arith}
use lib.ListN.{drop, get_or, length, length-set, take}
use Rattle.codec.specs.StreamLaws.{action_law}
use Rattle.pcrl.specs.Decode.{read_action}
use Rattle.pcrl.specs.Limits.{max_actions}
use Rattle.pcrl.specs.Reader.{counted, times}
use Rattle.pcrl.specs.Stream.{encode_action}
use Rattle.pcrl.specs.Tests.{at_most?}
use Rattle.terms.proofs.Laying.{lay_done, lay_fail, lay_pass, lay_start, not_laid, times_more, times_none}
use Rattle.terms.proofs.Rests.{counted_no, counted_pass, missing_there}
use Rattle.terms.specs.Laid.{Laid}
use Rattle.signature.proofs.read_acts.Goals as goal

pub returns-in_err-n : goal.returns-in_err-n
returns-in_err-n c =
    let a = c.args in
    let list = counted (at_most? max_actions) (read_action a.sizes.now) (drop a.at a.s.now) in
    rw c.from_residual.ensures (not_laid list encode_action a.s.now _ (missing_there list (counted_no (at_most? max_actions) a.s.now a.at (read_action a.sizes.now) (λ (h : (a.at < length a.s.now) × (get_or a.s.now a.at 0 ≤ max_actions)). c.in_err-n.ensures (h.0, (omega arith, omega (arith, h.1)))))), tt)

pub loop-k-init : goal.loop-k-init
loop-k-init c = let z : get_or c.args.s.now c.args.at 0 ≡ c.in_ok-n.n - 0 = omega arith in (
  omega arith,
  refl,
  omega arith,
  c.requires.1,
  omega arith,
  omega arith,
  lay_start (counted (at_most? max_actions) (read_action c.args.sizes.now) (drop c.args.at c.args.s.now)) encode_action c.args.s.now (times (read_action c.args.sizes.now) (c.in_ok-n.n - 0) (drop (c.args.at + 1) c.args.s.now)) (counted_pass (at_most? max_actions) c.args.s.now c.args.at (read_action c.args.sizes.now) (c.args.at + 1) (omega arith) (omega arith) (omega arith) ∙ ap (λ (m : ℕ). times (read_action c.args.sizes.now) m (drop (c.args.at + 1) c.args.s.now)) z),
)

pub shape_of-acts-in_err-next : goal.shape_of-acts-in_err-next
shape_of-acts-in_err-next c = c.loop-k.invariant.1

pub returns-in_err-next : goal.returns-in_err-next
returns-in_err-next c =
    rw c.from_residual-in_err-next.ensures (not_laid (counted (at_most? max_actions) (read_action c.args.sizes.now) (drop c.args.at c.args.s.now)) encode_action c.args.s.now _ (lay_fail (counted (at_most? max_actions) (read_action c.args.sizes.now) (drop c.args.at c.args.s.now)) encode_action c.args.s.now (read_action c.args.sizes.now) (times (read_action c.args.sizes.now) (c.in_ok-n.n - c.loop-k.k - 1)) (times (read_action c.args.sizes.now) (c.in_ok-n.n - c.loop-k.k) (drop c.loop-k.i c.args.s.now)) (take c.loop-k.k c.loop-k.acts) (drop c.loop-k.i c.args.s.now) c.loop-k.invariant.6 (times_more (read_action c.args.sizes.now) (c.in_ok-n.n - c.loop-k.k) (c.in_ok-n.n - c.loop-k.k - 1) (drop c.loop-k.i c.args.s.now) (omega arith)) (c.in_err-next.ensures.0)), tt)

pub overflow_cast-acts : goal.overflow_cast-acts
overflow_cast-acts c = let h = c.in_ok-next.ensures.1 in omega arith

pub loop-k-preserved : goal.loop-k-preserved
loop-k-preserved c = (
  omega arith,
  simp length-set c.loop-k.invariant.1,
  simp length-set c.loop-k.invariant.2,
  c.loop-k.invariant.3,
  c.loop-k.invariant.4,
  c.loop-k.invariant.5,
  lay_pass (counted (at_most? max_actions) (read_action c.args.sizes.now) (drop c.args.at c.args.s.now)) encode_action c.args.s.now (read_action c.args.sizes.now) (action_law c.args.sizes.now) (times (read_action c.args.sizes.now) (c.in_ok-n.n - (c.loop-k.k + 1))) (times (read_action c.args.sizes.now) (c.in_ok-n.n - c.loop-k.k) (drop c.loop-k.i c.args.s.now)) c.loop-k.acts c.loop-k.k (c.loop-k.k + 1) c.loop-k.i c.in_ok-next.next c.loop-k.invariant.6 (times_more (read_action c.args.sizes.now) (c.in_ok-n.n - c.loop-k.k) (c.in_ok-n.n - (c.loop-k.k + 1)) (drop c.loop-k.i c.args.s.now) (omega arith)) (omega arith) (omega arith) (c.in_ok-next.ensures.0),
)

pub shape_of-acts : goal.shape_of-acts
shape_of-acts c = c.loop-k.invariant.1

pub returns : goal.returns
returns c = let z : c.loop-k.k ≡ get_or c.args.s.now c.args.at 0 = omega arith in
    (subst (λ (m : ℕ). Laid (counted (at_most? max_actions) (read_action c.args.sizes.now) (drop c.args.at c.args.s.now)) encode_action c.args.s.now (Some c.loop-k.i) (take m c.loop-k.acts)) z (lay_done (counted (at_most? max_actions) (read_action c.args.sizes.now) (drop c.args.at c.args.s.now)) encode_action c.args.s.now (times (read_action c.args.sizes.now) (c.in_ok-n.n - c.loop-k.k) (drop c.loop-k.i c.args.s.now)) (take c.loop-k.k c.loop-k.acts) c.loop-k.i c.loop-k.invariant.6 (times_none (read_action c.args.sizes.now) (c.in_ok-n.n - c.loop-k.k) (drop c.loop-k.i c.args.s.now) (omega arith))), omega arith)
