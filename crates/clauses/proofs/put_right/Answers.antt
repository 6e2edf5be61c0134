-- delta, or the loop's invariant: all summands are written but those that are left, and the stream is read up to these.
use mathlib.Core.Path.{refl, ◌∙◌}
use native.Mathlib.Omega.{arith}
use Rattle.clauses.proofs.Upto.{wrote_ends, ends_none, ends_more}
use Rattle.clauses.proofs.SummandLaws.{right_delta, joining_none, joining_more, joining_all}
use Rattle.clauses.proofs.put_right.Goals as goal

pub put_bytes-requires : goal.put_bytes-requires
put_bytes-requires c = c.requires.0

pub shape_of-out-then-m-eq0 : goal.shape_of-out-then-m-eq0
shape_of-out-then-m-eq0 c = c.put_bytes.ensures.same

pub returns-then-m-eq0 : goal.returns-then-m-eq0
returns-then-m-eq0 c = let test = c.if-m-eq0 in let w = c.put_bytes.ensures in let e = wrote_ends w in
    record { upper_bound = (e.fits, e.same); wrote = right_delta _ _ _ _ _ _ _ _ _ c.wide-m.result (c.wide-m.ensures.0 ∙ c.peek.ensures) _ _ (omega arith) w }

pub overflow_add-from : goal.overflow_add-from
overflow_add-from c = omega (arith, c.requires.1.1.0)

pub loop-i-init : goal.loop-i-init
loop-i-init c = let test = c.if-m-eq0 in let room = c.requires.0 in (omega arith, (omega (arith, c.requires.1.1.0), (ends_none room, joining_none _ _ _ _ _ _ _ _ _ _ (c.wide-m.ensures.0 ∙ c.peek.ensures) room (λ z. omega arith))))

pub put_summand-r-requires : goal.put_summand-r-requires
put_summand-r-requires c = let inv = c.loop-i.invariant in let pre = c.requires in (omega (arith, inv.1.1.0.fits, inv.1.1.0.same), (pre.1.0, (inv.1.0, pre.1.1.1)))

pub put_mark-p-requires : goal.put_mark-p-requires
put_mark-p-requires c = let e = c.put_summand-r.ensures.ends.0 in omega (arith, e.fits, e.same)

pub loop-i-preserved : goal.loop-i-preserved
loop-i-preserved c = let here = c.loop-i in let test = c.loop-i-test in let f = c.put_summand-r.ensures in let m = c.put_mark-p.ensures in
    (omega arith, (omega (arith, f.ends.1, c.requires.1.0), (ends_more (ends_more here.invariant.1.1.0 f.ends.0) m.ends, joining_more _ _ _ _ _ _ _ _ _ _ (c.wide-m.ensures.0 ∙ c.peek.ensures) _ _ _ _ _ _ _ _ _ (omega arith) refl f.summand_put m.marks here.invariant.1.1.1)))

pub shape_of-out : goal.shape_of-out
shape_of-out c = c.loop-i.invariant.1.1.0.same

pub returns : goal.returns
returns c = let here = c.loop-i in let test = c.loop-i-test in let e = here.invariant.1.1.0 in
    record { upper_bound = (e.fits, e.same); wrote = joining_all _ _ _ _ _ _ _ _ _ _ (c.wide-m.ensures.0 ∙ c.peek.ensures) _ _ _ _ (omega arith) here.invariant.1.1.1 }
