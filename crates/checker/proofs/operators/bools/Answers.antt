-- `bools`: `!` with one argument takes one Bool, `/\` and `\/` with two take two.
use mathlib.Core.Logic.{⊎_elim}
use native.Mathlib.Omega.{arith}
use Rattle.checker.proofs.Runs.{takes_one, takes_and, takes_or}
use Rattle.checker.proofs.operators.bools.Goals as goal

pub returns-then-d-eq1-clause-takes_bools : goal.returns-then-d-eq1-clause-takes_bools
returns-then-d-eq1-clause-takes_bools c = takes_one c.args.d (omega arith) (omega arith) (omega arith)

pub returns-then-d-eq-AND-clause-takes_bools : goal.returns-then-d-eq-AND-clause-takes_bools
returns-then-d-eq-AND-clause-takes_bools c = ⊎_elim (λ z. takes_and c.args.d (omega arith) z (omega arith)) (λ z. takes_or c.args.d (omega arith) z.1 (omega arith)) c.then-d-eq-AND.either
