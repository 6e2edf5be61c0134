-- `cells::expect` meets its contract: a sign that stands next is no 0, so its place is within the list.
use mathlib.Core.Path.{sym, ◌∙◌}
use native.Mathlib.Omega.{arith}
use Rattle.laws.specs.Places.{get_or_positive}
use Rattle.parser.specs.Reading.{stands, other}
use Rattle.parser.proofs.cells.expect.Goals as goal

pub returns-then-peek-sign-clause-read : goal.returns-then-peek-sign-clause-read
returns-then-peek-sign-clause-read c =
    let l = get_or_positive c.args.toks.now c.args.at (omega arith) in
    stands (sym c.peek.ensures ∙ c.if-peek-sign.true)

pub returns-else-peek-sign-clause-read : goal.returns-else-peek-sign-clause-read
returns-else-peek-sign-clause-read c =
    other (λ e. c.if-peek-sign.false (c.peek.ensures ∙ e))
