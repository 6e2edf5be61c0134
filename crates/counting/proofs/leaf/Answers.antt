-- `counting::leaf` meets its contract.
use native.Mathlib.Omega.{arith}
use borrow.Author.Tests.{eq-eqb, ne_eqb}
use Rattle.counting.specs.Counting.{leaf_of, pick}
use Rattle.counting.proofs.leaf.Goals as goal

pub returns-then-kind-eq-ATOM : goal.returns-then-kind-eq-ATOM
unfolding leaf_of pick
returns-then-kind-eq-ATOM c = (rw (eq-eqb c.args.kind 4 (omega arith)), omega arith)

pub returns-then-kind-eq-CALL : goal.returns-then-kind-eq-CALL
unfolding leaf_of pick
returns-then-kind-eq-CALL c =
    (rw (ne_eqb c.args.kind 4 (omega arith), eq-eqb c.args.kind 8 (omega arith)) c.known.ensures.0, omega arith)

pub returns : goal.returns
unfolding leaf_of pick
returns c =
    (rw (ne_eqb c.args.kind 4 (omega arith), ne_eqb c.args.kind 8 (omega arith)), omega arith)
