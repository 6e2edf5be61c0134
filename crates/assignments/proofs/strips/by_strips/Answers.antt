-- The search goes on from strip to strip.
use native.Mathlib.Omega.{arith}
use Rattle.std.specs.Prelude.{Ok, Err}
use Prim.Native.Nat.{ℕ}
use mathlib.Core.Path.{refl, ◌∙◌}
use mathlib.Core.Bool.{Bool}
use Rattle.assignments.specs.Places.{digits_of}
use Rattle.assignments.specs.Conditions.{env}
use Rattle.assignments.specs.Parting.{part_met}
use Rattle.assignments.proofs.Passing.{going_start}
use Rattle.assignments.proofs.InRows.{lent_again, came_to, came_then, rows_past}
use Rattle.assignments.proofs.strips.by_strips.Goals as goal

pub loop-j-init : goal.loop-j-init
loop-j-init c = ((omega arith, omega arith), ((refl, (refl, (refl, (refl, refl)))), λ part w z. (w, (z, going_start _ _ _ _))))

pub in_strip-requires : goal.in_strip-requires
in_strip-requires c = let a = c.args in let pre = c.requires in let l = c.loop-j in let n = l.invariant.1.0 in (pre.0, (omega arith, (pre.1.0, lent_again a.rows.now a.marks.now a.slow.now a.fast.now a.met.now _ _ _ _ _ n.0 n.1.0 n.1.1.0 n.1.1.1.0 n.1.1.1.1 pre.1.1)))

pub shape_of-rows-in-Ok : goal.shape_of-rows-in-Ok
shape_of-rows-in-Ok c = c.in_strip.auto.rows ∙ c.loop-j.invariant.1.0.0

pub shape_of-marks-in-Ok : goal.shape_of-marks-in-Ok
shape_of-marks-in-Ok c = c.in_strip.auto.marks ∙ c.loop-j.invariant.1.0.1.0

pub shape_of-slow-in-Ok : goal.shape_of-slow-in-Ok
shape_of-slow-in-Ok c = c.in_strip.auto.slow ∙ c.loop-j.invariant.1.0.1.1.0

pub shape_of-fast-in-Ok : goal.shape_of-fast-in-Ok
shape_of-fast-in-Ok c = c.in_strip.auto.fast ∙ c.loop-j.invariant.1.0.1.1.1.0

pub shape_of-met-in-Ok : goal.shape_of-met-in-Ok
shape_of-met-in-Ok c = c.in_strip.auto.met ∙ c.loop-j.invariant.1.0.1.1.1.1

pub returns-in-Ok : goal.returns-in-Ok
returns-in-Ok c = let a = c.args in let l = c.loop-j in let r = c.in-Ok in let acc : ℕ → Bool = λ i. part_met a.space.now.s.now a.space.now.funcs.now a.c.now.froms a.c.now.ends a.c.now.blocks a.c.now.count (env a.space.now.p a.space.now.params.at (digits_of a.space.now.z.at i)) in (r.ensures.0, (tt, (tt, λ part w z. let q = l.invariant.1.1 part w z in came_then acc a.to a.from a.k l.j l.left q.1.1 (Ok r.at) (r.ensures.1.1.1 part q.0 q.1.0).1.1)))

pub shape_of-rows-then-r-j : goal.shape_of-rows-then-r-j
shape_of-rows-then-r-j c = c.in_strip.auto.rows ∙ c.loop-j.invariant.1.0.0

pub shape_of-marks-then-r-j : goal.shape_of-marks-then-r-j
shape_of-marks-then-r-j c = c.in_strip.auto.marks ∙ c.loop-j.invariant.1.0.1.0

pub shape_of-slow-then-r-j : goal.shape_of-slow-then-r-j
shape_of-slow-then-r-j c = c.in_strip.auto.slow ∙ c.loop-j.invariant.1.0.1.1.0

pub shape_of-fast-then-r-j : goal.shape_of-fast-then-r-j
shape_of-fast-then-r-j c = c.in_strip.auto.fast ∙ c.loop-j.invariant.1.0.1.1.1.0

pub shape_of-met-then-r-j : goal.shape_of-met-then-r-j
shape_of-met-then-r-j c = c.in_strip.auto.met ∙ c.loop-j.invariant.1.0.1.1.1.1

pub returns-then-r-j : goal.returns-then-r-j
returns-then-r-j c = let a = c.args in let l = c.loop-j in let r = c.in-Err in let acc : ℕ → Bool = λ i. part_met a.space.now.s.now a.space.now.funcs.now a.c.now.froms a.c.now.ends a.c.now.blocks a.c.now.count (env a.space.now.p a.space.now.params.at (digits_of a.space.now.z.at i)) in (tt, (omega (arith, r.ensures.1.0, l.invariant.0.0), (omega (arith, r.ensures.1.1.0, l.invariant.0.1), λ part w z. let q = l.invariant.1.1 part w z in came_then acc a.to a.from a.k l.j l.left q.1.1 (Err r.r) (r.ensures.1.1.1 part q.0 q.1.0).1.1)))

pub loop-j-preserved : goal.loop-j-preserved
loop-j-preserved c = let a = c.args in let l = c.loop-j in let r = c.in-Err in let s = c.in_strip.auto in let n = l.invariant.1.0 in let acc : ℕ → Bool = λ i. part_met a.space.now.s.now a.space.now.funcs.now a.c.now.froms a.c.now.ends a.c.now.blocks a.c.now.count (env a.space.now.p a.space.now.params.at (digits_of a.space.now.z.at i)) in ((omega (arith, r.ensures.1.0, l.invariant.0.0), omega (arith, r.ensures.1.1.0, l.invariant.0.1)), ((s.rows ∙ n.0, (s.marks ∙ n.1.0, (s.slow ∙ n.1.1.0, (s.fast ∙ n.1.1.1.0, s.met ∙ n.1.1.1.1)))), λ part w z. let q = l.invariant.1.1 part w z in let t = r.ensures.1.1.1 part q.0 q.1.0 in (t.0, (t.1.0, rows_past acc a.to a.from a.k l.j l.left q.1.1 r.r t.1.1))))

pub shape_of-rows : goal.shape_of-rows
shape_of-rows c = c.loop-j.invariant.1.0.0

pub shape_of-marks : goal.shape_of-marks
shape_of-marks c = c.loop-j.invariant.1.0.1.0

pub shape_of-slow : goal.shape_of-slow
shape_of-slow c = c.loop-j.invariant.1.0.1.1.0

pub shape_of-fast : goal.shape_of-fast
shape_of-fast c = c.loop-j.invariant.1.0.1.1.1.0

pub shape_of-met : goal.shape_of-met
shape_of-met c = c.loop-j.invariant.1.0.1.1.1.1

pub returns : goal.returns
returns c = let a = c.args in let l = c.loop-j in let acc : ℕ → Bool = λ i. part_met a.space.now.s.now a.space.now.funcs.now a.c.now.froms a.c.now.ends a.c.now.blocks a.c.now.count (env a.space.now.p a.space.now.params.at (digits_of a.space.now.z.at i)) in (tt, (omega (arith, l.invariant.0.0), (omega (arith, l.invariant.0.1), λ part w z. came_to acc a.to a.from a.k (record { at = l.j; left = l.left }) (l.invariant.1.1 part w z).1.1)))
