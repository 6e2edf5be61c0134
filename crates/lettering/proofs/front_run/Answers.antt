-- The loop's invariant: so many bytes have passed, and the run goes on with what is left.
use borrow.Author.Tests.{eq-eqb, ne_eqb}
use native.Mathlib.Omega.{arith}
use mathlib.Core.Path.{sym}
use lib.Dec.{eqb}
use lib.ListN.{get_or}
use Rattle.lettering.proofs.Runs.{run_more, run_stops, run_ends}
use Rattle.lettering.proofs.front_run.Goals as goal

pub returns-then-name-i : goal.returns-then-name-i
returns-then-name-i c = let a = c.args in let i = c.loop-i.i in let e = run_stops (eqb a.b) a.name.now i (omega (arith, c.loop-i-test)) (ne_eqb a.b (get_or a.name.now i 0) (λ q. c.if-name-i.true (sym q))) in let inv = c.loop-i.invariant in (omega (arith, e, inv), omega arith)

pub loop-i-preserved : goal.loop-i-preserved
loop-i-preserved c = let a = c.args in let i = c.loop-i.i in let e = run_more (eqb a.b) a.name.now i (omega (arith, c.loop-i-test)) (eq-eqb a.b (get_or a.name.now i 0) (omega arith)) in let inv = c.loop-i.invariant in omega (arith, e, inv)

pub returns : goal.returns
returns c = let a = c.args in let i = c.loop-i.i in let e = run_ends (eqb a.b) a.name.now i (omega arith) in let inv = c.loop-i.invariant in (omega (arith, e, inv), omega arith)
