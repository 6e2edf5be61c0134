-- The sorts stand behind the name; an action that is not there has none.
use mathlib.Core.Path.{◌≡◌, ap, ◌∙◌}
use native.Mathlib.Omega.{arith}
use Prim.Native.Nat.{ℕ, ◌+◌}
use lib.ListN.{get_or}
use Rattle.terms.specs.Stands.{list_at}
use Rattle.asking.proofs.SortLaws.{sorts_are, no_sorts}
use Rattle.asking.proofs.sorts_of.Goals as goal

pub returns-then-actions-a : goal.returns-then-actions-a
returns-then-actions-a c = λ S x. no_sorts S c.args.s.now c.args.acts.now c.args.actions x c.args.action (omega (arith, c.wide-a.ensures.0))

pub returns : goal.returns
returns c = λ S x.
    let a = c.args in
    let p = c.cell-p.result in
    let here : p ≡ get_or a.acts.now a.action 0 = c.cell-p.ensures.0 ∙ ap (λ (i : ℕ). get_or a.acts.now i 0) c.wide-a.ensures.0 in
    let behind : p + 1 + c.wide.result ≡ p + 1 + get_or a.s.now p 0 = ap (λ (n : ℕ). p + 1 + n) (c.wide.ensures.0 ∙ c.peek.ensures) in
    c.list_at.ensures ∙ ap (list_at a.s.now) behind ∙ ap (λ (q : ℕ). list_at a.s.now (q + 1 + get_or a.s.now q 0)) here
    ∙ sorts_are S a.s.now a.acts.now a.actions x a.action (omega (arith, c.if-actions-a, c.wide-a.ensures.0))
