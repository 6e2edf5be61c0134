-- The name where its action stands, or nothing.
use native.Mathlib.Omega.{arith}
use mathlib.Core.Path.{◌≡◌, ap, ◌∙◌}
use Prim.Native.Nat.{ℕ}
use lib.ListN.{get_or}
use Rattle.terms.specs.Stands.{list_at}
use Rattle.texts.proofs.Values.{name_is, no_name}
use Rattle.texts.proofs.name.Goals as goal

pub returns-then-actions-a : goal.returns-then-actions-a
returns-then-actions-a c = λ S known. let a = c.args in no_name S a.s.now a.acts.now a.actions known a.action (omega (arith, c.if-actions-a, c.wide-a.ensures.0))

pub returns : goal.returns
returns c = λ S known.
    let a = c.args in
    let place : c.cell.result ≡ get_or a.acts.now a.action 0 = c.cell.ensures.0 ∙ ap (λ (i : ℕ). get_or a.acts.now i 0) c.wide-a.ensures.0 in
    c.list_at.ensures ∙ ap (list_at a.s.now) place ∙ name_is S a.s.now a.acts.now a.actions known a.action (omega (arith, c.if-actions-a, c.wide-a.ensures.0))
