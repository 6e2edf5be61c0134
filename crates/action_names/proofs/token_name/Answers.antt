-- The two tests of the definition, one after the other.
use mathlib.Core.Path.{◌≡◌, ◌∙◌, ap, sym}
use Rattle.std.specs.Option.{is_some}
use Rattle.pcrl.specs.Tests.{among}
use Rattle.pcrl.specs.Tokens.{words}
use Rattle.pcrl.specs.Bytes.{letter}
use Rattle.pcrl.specs.Right.{token_name}
use Rattle.action_names.proofs.Run.{a_letter, negated_not, no_letter}
use Rattle.action_names.proofs.Alike.{word_among}
use Rattle.action_names.proofs.token_name.Goals as goal

pub returns-then-class-ne-LETTER : goal.returns-then-class-ne-LETTER
unfolding token_name
returns-then-class-ne-LETTER c = simp (ap letter (sym c.peek.ensures) ∙ no_letter c.peek.result c.peek.type_inv (λ e. c.if-class-ne-LETTER.true (c.class.ensures ∙ e)))

pub returns : goal.returns
unfolding token_name
returns c =
    let n = c.args.n.now in
    let known : is_some c.word.result ≡ among n words = ap is_some c.word.ensures ∙ word_among n in
    simp (ap letter (sym c.peek.ensures) ∙ a_letter c.peek.result c.peek.type_inv (sym c.class.ensures ∙ c.if-class-ne-LETTER.false), ← known) (negated_not (is_some c.word.result) c.is_none.result c.is_none.ensures)
