-- The number of the maker's answer.
use mathlib.Core.Path.{◌∙◌}
use Rattle.refusals.proofs.Laws.{answered_number}
use Rattle.wizbratel.proofs.wizbratel_check_sheet.Goals as goal

pub returns : goal.returns
returns c = c.number.ensures ∙ answered_number _ _ c.check_sheet.result c.check_sheet.ensures
