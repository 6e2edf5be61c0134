-- The loop's invariant: what stands of the conditions from i on is written.
use mathlib.Core.Path.{refl}
use native.Mathlib.Omega.{arith}
use Rattle.clauses.proofs.Upto.{ends_none, ends_more}
use Rattle.clauses.proofs.ConditionLaws.{closing_start, closing_more, closing_all}
use Rattle.clauses.proofs.put_behind.Goals as goal

pub loop-i-init : goal.loop-i-init
loop-i-init c = let room = c.requires.0 in (omega arith, (ends_none room, closing_start _ _ _ _ _ _ _ room _ refl))

pub put_mark-q-requires : goal.put_mark-q-requires
put_mark-q-requires c = let e = c.loop-i.invariant.1.0 in omega (arith, e.fits, e.same)

pub offset_bounds-froms-i : goal.offset_bounds-froms-i
offset_bounds-froms-i c = omega (arith, c.requires.1.1, c.loop-i-test, c.loop-i.invariant.0)

pub bounds-froms-i : goal.bounds-froms-i
bounds-froms-i c = omega (arith, c.requires.1.1, c.loop-i-test, c.loop-i.invariant.0)

pub put_second-p-requires : goal.put_second-p-requires
put_second-p-requires c = let e = c.put_mark-q.ensures.ends in (omega (arith, e.fits, e.same), c.requires.1.0)

pub loop-i-preserved : goal.loop-i-preserved
loop-i-preserved c = let here = c.loop-i in let test = c.loop-i-test in let m = c.put_mark-q.ensures in let f = c.put_second-p.ensures in
    (omega (arith, here.invariant.0), (ends_more (ends_more here.invariant.1.0 m.ends) f.ends, closing_more _ _ _ _ _ _ _ c.requires.0 _ _ _ _ _ _ _ _ here.invariant.0 (omega arith) m.marks f.cond_put here.invariant.1.1))

pub shape_of-out : goal.shape_of-out
shape_of-out c = c.loop-i.invariant.1.0.same

pub returns : goal.returns
returns c = let here = c.loop-i in let test = c.loop-i-test in
    record { ends = here.invariant.1.0; conds_put = closing_all _ _ _ _ _ _ _ c.requires.0 _ _ _ (omega arith) here.invariant.1.1 }
