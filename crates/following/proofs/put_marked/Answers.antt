-- The lowest mark is the next one. The measure is what is left of the marks.
use native.Mathlib.Omega.{arith}
use Prim.Native.Nat.{◌+◌}
use mathlib.Core.Path.{refl, ◌∙◌}
use lib.Count.{count_trailing_zeros, trailing_le}
use Rattle.putting.proofs.Bytes.{kept_front}
use Rattle.following.proofs.MarkedLaws.{marked_start, marked_done, marked_out, marked_many, marked_on, marked_long, rest_less}
use Rattle.following.proofs.put_marked.Goals as goal

pub loop-rest-init : goal.loop-rest-init
loop-rest-init c = let a = c.args in
    ((omega arith, omega arith, omega arith, omega arith, c.ranges.m.fits, refl), refl, marked_start a.m a.slots.now a.n a.w a.out.now)

pub overflow_cast-i : goal.overflow_cast-i
overflow_cast-i c = omega (arith, trailing_le 32 c.loop-rest.rest)

pub overflow_add-i : goal.overflow_add-i
overflow_add-i c = omega (arith, trailing_le 32 c.loop-rest.rest)

pub shape_of-out-then-i-n : goal.shape_of-out-then-i-n
shape_of-out-then-i-n c = c.loop-rest.invariant.0.5

pub returns-then-i-n : goal.returns-then-i-n
returns-then-i-n c = let a = c.args in
    let l = c.loop-rest in record {
      w_le_w = (omega arith, omega arith);
      out_unchanged = l.invariant.1;
      marked_put = marked_out a.m a.slots.now a.n a.w a.out.now l.rest l.at l.k l.v l.out l.invariant.2 (omega arith) l.invariant.0.4 (l.at + count_trailing_zeros 32 l.rest) refl l.invariant.0.3 (omega arith) (omega arith);
    }

pub shape_of-out-then-k-ge-FRAME_WIDTH : goal.shape_of-out-then-k-ge-FRAME_WIDTH
shape_of-out-then-k-ge-FRAME_WIDTH c = c.loop-rest.invariant.0.5

pub returns-then-k-ge-FRAME_WIDTH : goal.returns-then-k-ge-FRAME_WIDTH
returns-then-k-ge-FRAME_WIDTH c = let a = c.args in
    let l = c.loop-rest in record {
      w_le_w = tt;
      out_unchanged = l.invariant.1;
      marked_put = marked_many a.m a.slots.now a.n a.w a.out.now l.rest l.at l.k l.v l.out l.invariant.2 (omega arith) l.invariant.0.4 (l.at + count_trailing_zeros 32 l.rest) refl (omega arith) (omega arith) (omega arith) l.out;
    }

pub shape_of-out-in_err-v : goal.shape_of-out-in_err-v
shape_of-out-in_err-v c = c.put_one.auto.out ∙ c.loop-rest.invariant.0.5

pub returns-in_err-v : goal.returns-in_err-v
returns-in_err-v c = let a = c.args in
    let l = c.loop-rest in
    let x = c.put_one in
    let o = x.new.out in rw c.from_residual.ensures record {
      w_le_w = tt;
      out_unchanged = kept_front a.w l.v l.out o (omega arith) x.ensures.out_unchanged ∙ l.invariant.1;
      marked_put = marked_long a.m a.slots.now a.n a.w a.out.now l.rest l.at l.k l.v l.out l.invariant.2 (omega arith) l.invariant.0.4 (l.at + count_trailing_zeros 32 l.rest) refl (omega arith) (omega arith) o c.in_err-v.ensures.one_put o;
    }

pub overflow_shr-rest : goal.overflow_shr-rest
overflow_shr-rest c = omega (arith, trailing_le 32 c.loop-rest.rest)

pub loop-rest-smaller : goal.loop-rest-smaller
loop-rest-smaller c = rest_less c.loop-rest.rest (count_trailing_zeros 32 c.loop-rest.rest) (omega arith)

pub loop-rest-preserved : goal.loop-rest-preserved
loop-rest-preserved c = let a = c.args in
    let l = c.loop-rest in
    let x = c.put_one in
    let o = x.new.out in
    let i = l.invariant.0 in
    let u = c.in_ok-v.ensures.w_le_w in
    let z = rest_less l.rest (count_trailing_zeros 32 l.rest) (omega arith) in (
      (omega arith, omega arith, omega arith, omega arith, omega (arith, i.4), x.auto.out ∙ i.5),
      kept_front a.w l.v l.out o (omega arith) x.ensures.out_unchanged ∙ l.invariant.1,
      marked_on a.m a.slots.now a.n a.w a.out.now l.rest l.at l.k l.v l.out l.invariant.2 (omega arith) l.invariant.0.4 (l.at + count_trailing_zeros 32 l.rest) refl (omega arith) (omega arith) o c.in_ok-v.v c.in_ok-v.ensures.one_put,
    )

pub shape_of-out : goal.shape_of-out
shape_of-out c = c.loop-rest.invariant.0.5

pub returns : goal.returns
returns c = let a = c.args in
    let l = c.loop-rest in record {
      w_le_w = (omega arith, omega arith);
      out_unchanged = l.invariant.1;
      marked_put = marked_done a.m a.slots.now a.n a.w a.out.now l.rest l.at l.k l.v l.out l.invariant.2 l.invariant.0.3 (omega arith);
    }
