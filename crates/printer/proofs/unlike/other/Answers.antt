-- The loop's invariant: the name is none of those passed.
use native.Mathlib.Omega.{arith}
use borrow.Author.Count.{below_more}
use mathlib.Core.Path.{sym, ap, ◌∙◌}
use Rattle.std.specs.Cmp.Lexicographic.{same_text, other_text}
use Rattle.theory.specs.Distinct.{Unlike}
use Rattle.terms.specs.Stands.{list_at}
use Rattle.printer.proofs.AtPlaces.{all_there, one_lacks}
use Rattle.printer.proofs.unlike.other.Goals as goal

pub loop-i-init : goal.loop-i-init
loop-i-init c = (omega arith, λ k h. absurd (omega arith))

pub returns-then-eq : goal.returns-then-eq
returns-then-eq c =
    let a = c.args in
    let i = c.loop-i.i in
    let there = c.list_at.ensures ∙ ap (list_at a.s.now) c.cell.ensures.0 in
    let equal = same_text a.name.now c.list_at.result.now c.if-eq.ensures in
    one_lacks (Unlike a.name.now) a.s.now a.places.now a.n i (omega (arith, c.loop-i-test)) (λ u. u (equal ∙ there))

pub loop-i-preserved : goal.loop-i-preserved
loop-i-preserved c =
    let a = c.args in
    let i = c.loop-i.i in
    let there = c.list_at.ensures ∙ ap (list_at a.s.now) c.cell.ensures.0 in
    let differ = other_text a.name.now c.list_at.result.now c.if-eq.ensures in
    (omega (arith, c.loop-i-test), below_more _ _ c.loop-i.invariant.1 (λ e. differ (e ∙ sym there)))

pub returns : goal.returns
returns c =
    let a = c.args in
    all_there (Unlike a.name.now) a.s.now a.places.now a.n (λ k h. c.loop-i.invariant.1 k (omega (arith, c.loop-i-test)))
