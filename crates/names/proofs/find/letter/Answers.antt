-- A byte that names have is shown, any other is 0.
use mathlib.Core.Path.{sym, ◌∙◌}
use native.Mathlib.Omega.{arith}
use Rattle.names.proofs.Runs.{shown_yes, shown_no, shown_small, shown_behind}
use Rattle.names.proofs.find.letter.Goals as goal

pub returns-then-b-le122 : goal.returns-then-b-le122
returns-then-b-le122 c = shown_small c.args.b (omega arith) (omega arith)

pub returns-then-b-ge97 : goal.returns-then-b-ge97
returns-then-b-ge97 c = shown_behind c.args.b (omega arith) (omega arith)

pub returns-then-name_byte : goal.returns-then-name_byte
returns-then-name_byte c = shown_yes c.args.b (sym c.name_byte.ensures ∙ c.if-name_byte.true)

pub returns-else-name_byte : goal.returns-else-name_byte
returns-else-name_byte c = shown_no c.args.b (sym c.name_byte.ensures ∙ c.if-name_byte.false)
