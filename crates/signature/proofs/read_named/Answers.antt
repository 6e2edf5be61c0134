-- One sort a turn; where it stands is kept.
use mathlib.Core.Path.{◌∙◌, ◌≡◌, ap, refl, subst}
use Rattle.std.specs.Prelude.{Some}
use Prim.Native.Nat.{◌+◌, ◌-◌, ℕ}
use native.Mathlib.Omega.{arith}
use lib.ListN.{drop, get_or, length-set, take}
use Rattle.codec.specs.StreamLaws.{sort_law}
use Rattle.pcrl.specs.Decode.{read_sort}
use Rattle.pcrl.specs.Limits.{max_sorts}
use Rattle.pcrl.specs.Reader.{counted, times}
use Rattle.pcrl.specs.Stream.{encode_sort}
use Rattle.pcrl.specs.Tests.{between?}
use Rattle.terms.proofs.Laying.{lay_done, lay_fail, lay_pass, lay_start, not_laid, times_more, times_none}
use Rattle.terms.proofs.Rests.{counted_no, counted_pass, missing_there}
use Rattle.terms.specs.Laid.{Laid}
use Rattle.signature.proofs.read_named.Goals as goal

pub returns-in_err-n : goal.returns-in_err-n
returns-in_err-n c =
    let a = c.args in
    let list = counted (between? 1 max_sorts) read_sort (drop a.at a.s.now) in
    rw c.from_residual.ensures (not_laid list encode_sort a.s.now _ (missing_there list (counted_no (between? 1 max_sorts) a.s.now a.at read_sort (λ h. c.in_err-n.ensures (h.0, (h.1.0, omega (arith, h.1.1)))))), tt)

pub loop-k-init : goal.loop-k-init
loop-k-init c = let z : get_or c.args.s.now c.args.at 0 ≡ c.in_ok-n.n - 0 = omega arith in (
  omega arith,
  refl,
  omega arith,
  c.requires.1,
  omega arith,
  (omega arith, omega arith),
  lay_start (counted (between? 1 max_sorts) read_sort (drop c.args.at c.args.s.now)) encode_sort c.args.s.now (times read_sort (c.in_ok-n.n - 0) (drop (c.args.at + 1) c.args.s.now)) (counted_pass (between? 1 max_sorts) c.args.s.now c.args.at read_sort (c.args.at + 1) (omega arith) (omega arith) (omega arith, omega arith) ∙ ap (λ (m : ℕ). times read_sort m (drop (c.args.at + 1) c.args.s.now)) z),
)

pub shape_of-sorts-in_err-next : goal.shape_of-sorts-in_err-next
shape_of-sorts-in_err-next c = c.loop-k.invariant.1

pub returns-in_err-next : goal.returns-in_err-next
returns-in_err-next c =
    rw c.from_residual-in_err-next.ensures (not_laid (counted (between? 1 max_sorts) read_sort (drop c.args.at c.args.s.now)) encode_sort c.args.s.now _ (lay_fail (counted (between? 1 max_sorts) read_sort (drop c.args.at c.args.s.now)) encode_sort c.args.s.now read_sort (times read_sort (c.in_ok-n.n - c.loop-k.k - 1)) (times read_sort (c.in_ok-n.n - c.loop-k.k) (drop c.loop-k.i c.args.s.now)) (take c.loop-k.k c.loop-k.sorts) (drop c.loop-k.i c.args.s.now) c.loop-k.invariant.6 (times_more read_sort (c.in_ok-n.n - c.loop-k.k) (c.in_ok-n.n - c.loop-k.k - 1) (drop c.loop-k.i c.args.s.now) (omega arith)) (c.in_err-next.ensures.0)), tt)

pub overflow_cast-sorts : goal.overflow_cast-sorts
overflow_cast-sorts c = let h = c.in_ok-next.ensures.1 in omega arith

pub loop-k-preserved : goal.loop-k-preserved
loop-k-preserved c = (
  omega arith,
  simp length-set c.loop-k.invariant.1,
  simp length-set c.loop-k.invariant.2,
  c.loop-k.invariant.3,
  c.loop-k.invariant.4,
  c.loop-k.invariant.5,
  lay_pass (counted (between? 1 max_sorts) read_sort (drop c.args.at c.args.s.now)) encode_sort c.args.s.now read_sort sort_law (times read_sort (c.in_ok-n.n - (c.loop-k.k + 1))) (times read_sort (c.in_ok-n.n - c.loop-k.k) (drop c.loop-k.i c.args.s.now)) c.loop-k.sorts c.loop-k.k (c.loop-k.k + 1) c.loop-k.i c.in_ok-next.next c.loop-k.invariant.6 (times_more read_sort (c.in_ok-n.n - c.loop-k.k) (c.in_ok-n.n - (c.loop-k.k + 1)) (drop c.loop-k.i c.args.s.now) (omega arith)) (omega arith) (omega arith) (c.in_ok-next.ensures.0),
)

pub shape_of-sorts : goal.shape_of-sorts
shape_of-sorts c = c.loop-k.invariant.1

pub returns : goal.returns
returns c = let z : c.loop-k.k ≡ get_or c.args.s.now c.args.at 0 = omega arith in
    (subst (λ (m : ℕ). Laid (counted (between? 1 max_sorts) read_sort (drop c.args.at c.args.s.now)) encode_sort c.args.s.now (Some c.loop-k.i) (take m c.loop-k.sorts)) z (lay_done (counted (between? 1 max_sorts) read_sort (drop c.args.at c.args.s.now)) encode_sort c.args.s.now (times read_sort (c.in_ok-n.n - c.loop-k.k) (drop c.loop-k.i c.args.s.now)) (take c.loop-k.k c.loop-k.sorts) c.loop-k.i c.loop-k.invariant.6 (times_none read_sort (c.in_ok-n.n - c.loop-k.k) (drop c.loop-k.i c.args.s.now) (omega arith))), (omega arith, omega arith))
