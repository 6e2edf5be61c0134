-- By the answer where there is no room for a file.
use mathlib.Core.Path.{sym, subst}
use denote.Enum.Bare.{same_true, same_false}
use Rattle.std.specs.Prelude.{Err}
use Rattle.pcrl.specs.Answers.{file_made}
use Rattle.refusals.specs.declared.Refusal.{Refusal}
use Rattle.refusals.specs.contracts.Refusal.{the_type}
use Rattle.making.specs.Making.{Makes}
use Rattle.making.proofs.Checking.{checked_made, checked_passed, checked_refused}
use Rattle.making.proofs.check_sheet.Goals as goal

pub returns-then-eq : goal.returns-then-eq
returns-then-eq c =
    let s = c.args.sheet.now in
    checked_passed s (subst (λ (e : Refusal). Makes (file_made s 1) (Err e)) (same_true the_type tt _ _ (sym c.if-eq.ensures)) c.in-Err.ensures.answer)

pub returns-in-Ok : goal.returns-in-Ok
returns-in-Ok c = checked_made c.args.sheet.now c.in-Ok.field-0 c.in-Ok.ensures.answer

pub returns-else-eq : goal.returns-else-eq
returns-else-eq c = checked_refused c.args.sheet.now c.in-Err.r (same_false the_type _ _ (sym c.if-eq.ensures)) c.in-Err.ensures.answer
