-- The loop's invariant: all sums are written but those that are left.
use mathlib.Core.Path.{◌∙◌}
use native.Mathlib.Omega.{arith}
use Rattle.clauses.proofs.Upto.{wrote_ends, ends_none, ends_more}
use Rattle.clauses.proofs.SumLaws.{summing_none, summing_more, summing_all}
use Rattle.clauses.proofs.put_sums.Goals as goal

pub loop-i-init : goal.loop-i-init
loop-i-init c = let room = c.requires.0 in (omega arith, (ends_none room, summing_none _ _ _ _ _ _ _ room (c.wide-m.ensures.0 ∙ c.peek.ensures)))

pub overflow_add-n : goal.overflow_add-n
overflow_add-n c = omega (arith, c.requires.1.1, c.wide-m.ensures.1, c.loop-i-test)

pub overflow_add-from : goal.overflow_add-from
overflow_add-from c = omega (arith, c.requires.1.0)

pub overflow_add-from-in-loop-i : goal.overflow_add-from-in-loop-i
overflow_add-from-in-loop-i c = omega (arith, c.requires.1.0, c.wide-m.ensures.1, c.loop-i-test)

pub put_sum-p-requires : goal.put_sum-p-requires
put_sum-p-requires c = let e = c.loop-i.invariant.1.0 in omega (arith, e.fits, e.same)

pub loop-i-preserved : goal.loop-i-preserved
loop-i-preserved c = let here = c.loop-i in let test = c.loop-i-test in let w = c.put_sum-p.ensures in (omega arith, (ends_more here.invariant.1.0 (wrote_ends w), summing_more _ _ _ _ _ _ _ _ _ _ _ _ _ (omega arith) c.peek-in-loop-i.ensures w here.invariant.1.1))

pub shape_of-out : goal.shape_of-out
shape_of-out c = c.loop-i.invariant.1.0.same

pub returns : goal.returns
returns c = let here = c.loop-i in let test = c.loop-i-test in
    record { ends = here.invariant.1.0; sums_put = summing_all _ _ _ _ _ _ _ _ _ _ (omega arith) here.invariant.1.1 }
