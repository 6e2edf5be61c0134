-- `cells::numeral` meets its contract.
use native.Mathlib.Omega.{arith}
use Rattle.laws.specs.Places.{get_or_positive}
use Rattle.parser.proofs.Reaching.{missed, some_answer}
use Rattle.parser.proofs.Words.{numeral_missing_low, numeral_missing_high, reads_numeral}
use Rattle.parser.proofs.cells.numeral.Goals.{then-t-lt-FIRST_NUMERAL-via-then-t-lt-FIRST_NUMERAL, then-t-lt-FIRST_NUMERAL-via-else-t-lt-FIRST_NUMERAL+then-t-ge-FIRST_NAME}
use Rattle.parser.proofs.cells.numeral.Goals as goal

pub returns-then-t-lt-FIRST_NUMERAL-clause-read : goal.returns-then-t-lt-FIRST_NUMERAL-clause-read
returns-then-t-lt-FIRST_NUMERAL-clause-read c =
    λ s f l. missed (elim c.then-t-lt-FIRST_NUMERAL.branch [
      | then-t-lt-FIRST_NUMERAL-via-then-t-lt-FIRST_NUMERAL w ↦ numeral_missing_low s c.args.toks.now c.args.at (omega arith)
      | then-t-lt-FIRST_NUMERAL-via-else-t-lt-FIRST_NUMERAL+then-t-ge-FIRST_NAME w ↦ numeral_missing_high s c.args.toks.now c.args.at (omega arith)
    ])

pub returns-clause-read : goal.returns-clause-read
returns-clause-read c =
    let l = get_or_positive c.args.toks.now c.args.at (omega arith) in λ s f k. some_answer _ (omega (arith, l)) (reads_numeral s c.args.toks.now c.args.at c.put.ensures c.peek-t.ensures (omega arith) (omega arith))
