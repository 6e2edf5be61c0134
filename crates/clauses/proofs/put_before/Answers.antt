-- The loop's invariant: what stands of the conditions is written, but of those from i on.
use mathlib.Core.Path.{refl}
use native.Mathlib.Omega.{arith}
use Rattle.clauses.proofs.Upto.{ends_none, ends_more}
use Rattle.clauses.proofs.ConditionLaws.{opening_none, opening_more, opening_all}
use Rattle.clauses.proofs.put_before.Goals as goal

pub loop-i-init : goal.loop-i-init
loop-i-init c = let room = c.requires.0 in (omega arith, (ends_none room, opening_none _ _ _ _ _ _ _ room))

pub offset_bounds-froms-i : goal.offset_bounds-froms-i
offset_bounds-froms-i c = omega (arith, c.requires.1.1, c.loop-i-test)

pub bounds-froms-i : goal.bounds-froms-i
bounds-froms-i c = omega (arith, c.requires.1.1, c.loop-i-test)

pub put_first-q-requires : goal.put_first-q-requires
put_first-q-requires c = let e = c.loop-i.invariant.1.0 in (omega (arith, e.fits, e.same), c.requires.1.0)

pub put_mark-p-requires : goal.put_mark-p-requires
put_mark-p-requires c = let e = c.put_first-q.ensures.ends in omega (arith, e.fits, e.same)

pub loop-i-preserved : goal.loop-i-preserved
loop-i-preserved c = let here = c.loop-i in let test = c.loop-i-test in let f = c.put_first-q.ensures in let m = c.put_mark-p.ensures in
    (omega arith, (ends_more (ends_more here.invariant.1.0 f.ends) m.ends, opening_more _ _ _ _ _ _ _ c.requires.0 _ _ _ _ _ _ _ _ (omega arith) refl f.cond_put m.marks here.invariant.1.1))

pub shape_of-out : goal.shape_of-out
shape_of-out c = c.loop-i.invariant.1.0.same

pub returns : goal.returns
returns c = let here = c.loop-i in let test = c.loop-i-test in
    record { ends = here.invariant.1.0; conds_put = opening_all _ _ _ _ _ _ _ c.requires.0 _ _ _ (omega arith) here.invariant.1.1 }
