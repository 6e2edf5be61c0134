-- The text with the names and letters that were found.
use Rattle.laws.specs.Says.{said_yes, said_no}
use Rattle.printer.proofs.put_sheet.Goals as goal

pub returns-then-not-sorts_free : goal.returns-then-not-sorts_free
returns-then-not-sorts_free c =
    let text = c.put_text-end.ensures in
    let letters = c.letters_of-l.ensures in
    record { at_in_bounds = text.upper_bound; wrote = λ U right k. (said_no c.sorts_free.result (c.sorts_free.ensures U right k (letters U right k)) c.if-not-sorts_free.true, text.wrote U right k (letters U right k)) }

pub returns : goal.returns
returns c =
    let text = c.put_text-end.ensures in
    let letters = c.letters_of-l.ensures in
    record { at_in_bounds = text.upper_bound; wrote = λ U right k. (said_yes c.sorts_free.result (c.sorts_free.ensures U right k (letters U right k)) c.if-not-sorts_free.false, text.wrote U right k (letters U right k)) }
