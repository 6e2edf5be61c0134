-- The letter as many times as the byte says.
use mathlib.Core.Path.{ap, ◌∙◌}
use Prim.Native.Nat.{ℕ}
use Rattle.texts.proofs.Writing.{wrote_as}
use Rattle.lettering.specs.Named.{named_by, lettered_by}
use Rattle.lettering.proofs.put_name.Goals as goal

pub returns : goal.returns
returns c =
    let a = c.args in
    wrote_as a.out.now a.at _ (lettered_by a.l.now a.b a.k a.i) _ _ (ap (λ (n : ℕ). named_by a.b n a.i) (c.wide.ensures.0 ∙ c.peek.ensures)) c.put_letters.ensures
