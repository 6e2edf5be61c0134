-- 8 and then 9, put to the sheet that is held.
use mathlib.Core.Path.{refl, sym, ◌∙◌}
use Rattle.laws.specs.Says.{said_yes, said_no}
use Rattle.refusals.specs.Answered.{Answered}
use Rattle.sheets.specs.Resolving.{arrays}
use Rattle.sheets.proofs.JudgeLaws.{refused_8, refused_9, judged_right}
use Rattle.sheets.proofs.read.judge.Goals as goal

pub returns-then-not-rightly_sorted : goal.returns-then-not-rightly_sorted
unfolding arrays Answered
returns-then-not-rightly_sorted c = λ H h. rw (refused_8 H (said_no c.rightly_sorted.result (c.rightly_sorted.ensures H h) c.if-not-rightly_sorted.true)) refl

pub returns-then-not-guarded_sheet : goal.returns-then-not-guarded_sheet
unfolding arrays Answered
returns-then-not-guarded_sheet c = λ H h.
    let sorted = c.rightly_sorted in
    rw (refused_9 H (said_yes sorted.result (sorted.ensures H h) c.if-not-rightly_sorted.false)
    (sym c.if-not-guarded_sheet.true ∙ c.guarded_sheet.ensures H _ h.processes)) refl

pub returns : goal.returns
unfolding arrays Answered
returns c = λ H h.
    let sorted = c.rightly_sorted in
    rw (judged_right H (said_yes sorted.result (sorted.ensures H h) c.if-not-rightly_sorted.false)
    (sym c.if-not-guarded_sheet.false ∙ c.guarded_sheet.ensures H _ h.processes)) tt
