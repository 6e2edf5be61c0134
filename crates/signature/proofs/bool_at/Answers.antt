-- The size, and then the name.
use mathlib.Core.Path.{◌∙◌, sym}
use native.Mathlib.Omega.{arith}
use Rattle.std.specs.Cmp.Lexicographic.{same_text, other_text}
use Rattle.laws.specs.Says.{says}
use Rattle.signature.proofs.bool_at.Goals as goal

pub returns : goal.returns
returns c =
    let name = c.list_at.result.now in
    let bool = c.as_slice.result.now in
    says c.eq.result
    (λ e. (omega arith, sym c.list_at.ensures ∙ same_text name bool (sym e ∙ c.eq.ensures) ∙ c.as_slice.ensures))
    (λ e h. other_text name bool (sym e ∙ c.eq.ensures) (c.list_at.ensures ∙ h.1 ∙ sym c.as_slice.ensures))
