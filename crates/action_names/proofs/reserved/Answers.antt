-- Bool first, then the words.
use mathlib.Core.Path.{◌∙◌, ap, sym}
use Rattle.std.specs.Cmp.Lexicographic.{same_text, other_text}
use Rattle.std.specs.Option.{is_some}
use Rattle.pcrl.specs.Text.{bytes}
use Rattle.pcrl.specs.Tokens.{words}
use Rattle.action_names.proofs.Alike.{among_first, among_later, word_among}
use Rattle.action_names.proofs.reserved.Goals as goal

pub returns-then-eq : goal.returns-then-eq
returns-then-eq c = sym (among_first c.args.n.now (bytes "Bool") words (same_text c.args.n.now c.as_slice.result.now c.if-eq.ensures ∙ c.as_slice.ensures))

pub returns : goal.returns
returns c = let n = c.args.n.now in
    c.is_some.ensures ∙ ap is_some c.word.ensures ∙ word_among n
    ∙ sym (among_later n (bytes "Bool") words (λ e. other_text n c.as_slice.result.now c.if-eq.ensures (e ∙ sym c.as_slice.ensures)))
