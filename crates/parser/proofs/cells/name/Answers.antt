-- `cells::name` meets its contract.
use native.Mathlib.Omega.{arith}
use Rattle.laws.specs.Places.{get_or_positive}
use Rattle.parser.proofs.Reaching.{missed, some_answer}
use Rattle.parser.proofs.Words.{name_missing, reads_name}
use Rattle.parser.proofs.cells.name.Goals as goal

pub returns-then-t-lt-FIRST_NAME-clause-read : goal.returns-then-t-lt-FIRST_NAME-clause-read
returns-then-t-lt-FIRST_NAME-clause-read c =
    λ s f l. missed (name_missing s c.args.toks.now c.args.at (omega arith))

pub returns-clause-read : goal.returns-clause-read
returns-clause-read c =
    let l = get_or_positive c.args.toks.now c.args.at (omega arith) in λ s f k. some_answer _ (omega (arith, l)) (reads_name s c.args.toks.now c.args.at c.put.ensures c.peek-t.ensures (omega arith))
