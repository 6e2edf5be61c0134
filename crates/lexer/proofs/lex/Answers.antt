-- `lexer::lex`: the questions in their order.
use Rattle.std.proofs.lemmas.Result.{err_from_is_err_and}
use Rattle.laws.specs.Says.{said_yes, said_no}
use Rattle.lexer.proofs.Questions.{refused_1, refused_2, refused_3, refused_4, accepted_all}
use Rattle.lexer.proofs.lex.Goals as goal

pub returns-then-sheet-gt-MAX_BYTES : goal.returns-then-sheet-gt-MAX_BYTES
returns-then-sheet-gt-MAX_BYTES c = refused_1 c.args.sheet.now _ c.if-sheet-gt-MAX_BYTES.true

pub returns-then-not-all_printable : goal.returns-then-not-all_printable
returns-then-not-all_printable c = refused_2 c.args.sheet.now _ c.if-sheet-gt-MAX_BYTES.false (said_no c.all_printable.result c.all_printable.ensures c.if-not-all_printable.true)

pub returns-in_err-n : goal.returns-in_err-n
returns-in_err-n c =
    let p = err_from_is_err_and c.from_residual.result c.from_residual.ensures.1 in
    rw (p.1, p.2) (refused_3 c.args.sheet.now _ c.if-sheet-gt-MAX_BYTES.false (said_yes c.all_printable.result c.all_printable.ensures c.if-not-all_printable.false) _ c.in_err-n.ensures.lexes)

pub returns-then-not-shallow : goal.returns-then-not-shallow
returns-then-not-shallow c = refused_4 c.args.sheet.now _ c.if-sheet-gt-MAX_BYTES.false (said_yes c.all_printable.result c.all_printable.ensures c.if-not-all_printable.false) c.in_ok-n.n c.in_ok-n.ensures.lexes (said_no c.shallow.result (c.shallow.ensures c.args.sheet.now) c.if-not-shallow.true)

pub returns : goal.returns
returns c = accepted_all c.args.sheet.now _ c.if-sheet-gt-MAX_BYTES.false (said_yes c.all_printable.result c.all_printable.ensures c.if-not-all_printable.false) c.in_ok-n.n c.in_ok-n.ensures.lexes (said_yes c.shallow.result (c.shallow.ensures c.args.sheet.now) c.if-not-shallow.false)
