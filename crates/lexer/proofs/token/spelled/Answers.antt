-- `lexer::token::spelled`: the word is the text, or another.
use Rattle.std.specs.Cmp.Lexicographic.{same_text, other_text}
use Rattle.lexer.proofs.Signs.{is_word, is_other}
use Rattle.lexer.proofs.token.spelled.Goals as goal

pub returns-then-eq : goal.returns-then-eq
returns-then-eq c = is_word c.args.t.now c.args.text.now c.args.cell (same_text _ _ c.if-eq.ensures)

pub returns-else-eq : goal.returns-else-eq
returns-else-eq c = is_other c.args.t.now c.args.text.now c.args.cell (other_text _ _ c.if-eq.ensures)
