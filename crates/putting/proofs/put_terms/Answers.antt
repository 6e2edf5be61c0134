-- One term after another.
use native.Mathlib.Omega.{arith}
use mathlib.Core.Path.{refl, ◌∙◌}
use Rattle.putting.proofs.Bytes.{kept_front}
use Rattle.putting.proofs.Several.{terms_start, terms_done, terms_on, terms_long}
use Rattle.putting.proofs.put_terms.Goals as goal

pub loop-init : goal.loop-init
loop-init c =
    ((omega arith, omega arith, omega arith, refl), refl, terms_start c.args.cells.now c.args.at c.args.count c.args.slots.now c.args.n c.args.w c.args.out.now)

pub shape_of-out-in_err-r : goal.shape_of-out-in_err-r
shape_of-out-in_err-r c =
    c.put_term.auto.out ∙ c.loop.invariant.0.3

pub returns-in_err-r : goal.returns-in_err-r
returns-in_err-r c =
    let o = c.put_term.new.out in rw c.from_residual.ensures record {
      w_le_w = tt;
      out_unchanged = kept_front c.args.w c.loop.v c.loop.out o (omega arith) c.put_term.ensures.out_unchanged ∙ c.loop.invariant.1;
      puts_all = terms_long c.args.cells.now c.args.at c.args.count c.args.slots.now c.args.n c.args.w c.args.out.now c.loop.p c.loop.counter c.loop.v c.loop.out c.loop.invariant.2 (omega arith) o c.in_err-r.ensures.puts o;
    }

pub loop-preserved : goal.loop-preserved
loop-preserved c =
    let o = c.put_term.new.out in
    let i = c.loop.invariant.0 in
    let u = c.in_ok-r.ensures.w_le_w in (
      (omega arith, omega arith, omega arith, c.put_term.auto.out ∙ i.3),
      kept_front c.args.w c.loop.v c.loop.out o (omega arith) c.put_term.ensures.out_unchanged ∙ c.loop.invariant.1,
      terms_on c.args.cells.now c.args.at c.args.count c.args.slots.now c.args.n c.args.w c.args.out.now c.loop.p c.loop.counter c.loop.v c.loop.out c.loop.invariant.2 (omega arith) o c.in_ok-r.r c.in_ok-r.ensures.puts,
    )

pub shape_of-out : goal.shape_of-out
shape_of-out c = c.loop.invariant.0.3

pub returns : goal.returns
returns c = record {
  w_le_w = (omega arith, omega arith);
  out_unchanged = c.loop.invariant.1;
  puts_all = terms_done c.args.cells.now c.args.at c.args.count c.args.slots.now c.args.n c.args.w c.args.out.now c.loop.p c.loop.counter c.loop.v c.loop.out c.loop.invariant.2 (omega arith);
}
