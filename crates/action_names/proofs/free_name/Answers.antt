-- The two tests of the definition, one after the other.
use mathlib.Core.Path.{◌∙◌, ap, sym}
use Rattle.pcrl.specs.Bytes.{letter}
use Rattle.pcrl.specs.Right.{free_name}
use Rattle.action_names.proofs.Run.{a_letter, no_letter, not_negated}
use Rattle.action_names.proofs.free_name.Goals as goal

pub returns-then-class-ne-LETTER : goal.returns-then-class-ne-LETTER
unfolding free_name
returns-then-class-ne-LETTER c = simp (ap letter (sym c.peek.ensures) ∙ no_letter c.peek.result c.peek.type_inv (λ e. c.if-class-ne-LETTER.true (c.class.ensures ∙ e)))

pub returns : goal.returns
unfolding free_name
returns c = not_negated c.reserved.result _ c.reserved.ensures ∙ simp (ap letter (sym c.peek.ensures) ∙ a_letter c.peek.result c.peek.type_inv (sym c.class.ensures ∙ c.if-class-ne-LETTER.false))
