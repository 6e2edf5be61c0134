-- The loop's invariant: all calls are written but those that are left, and the stream is read up to these.
use mathlib.Core.Path.{◌∙◌}
use native.Mathlib.Omega.{arith}
use Rattle.clauses.proofs.Upto.{ends_none, ends_more, within_ends}
use Rattle.clauses.proofs.CallLaws.{calling_none, calling_more, calling_all}
use Rattle.clauses.proofs.put_calls.Goals as goal

pub overflow_add-r : goal.overflow_add-r
overflow_add-r c = omega (arith, c.requires.1.1)

pub loop-i-init : goal.loop-i-init
loop-i-init c = let room = c.requires.0 in (omega arith, (omega (arith, c.requires.1.1), (ends_none room, calling_none _ _ _ _ _ _ _ _ room (c.wide-n.ensures.0 ∙ c.peek.ensures))))

pub put_call-r-requires : goal.put_call-r-requires
put_call-r-requires c = let e = c.loop-i.invariant.1.1.0 in (omega (arith, e.fits, e.same), (c.requires.1.0, omega (arith, c.loop-i.invariant.1.0, c.loop-i-test, c.wide-n.ensures.1)))

pub loop-i-preserved : goal.loop-i-preserved
loop-i-preserved c = let here = c.loop-i in let test = c.loop-i-test in let d = c.put_call-r.ensures in
    (omega arith, (omega (arith, d.within.inside, here.invariant.1.0, c.requires.1.0), (ends_more here.invariant.1.1.0 (within_ends d.within), calling_more _ _ _ _ _ _ _ _ _ _ _ _ _ _ (omega arith) d.call_put here.invariant.1.1.1)))

pub shape_of-out : goal.shape_of-out
shape_of-out c = c.loop-i.invariant.1.1.0.same

pub returns : goal.returns
returns c = let here = c.loop-i in let test = c.loop-i-test in
    record { ends = here.invariant.1.1.0; calls_put = calling_all _ _ _ _ _ _ _ _ _ _ _ (omega arith) here.invariant.1.1.1 }
