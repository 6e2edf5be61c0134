-- The loop's invariant: each of the names passed is none of the others.
use native.Mathlib.Omega.{arith}
use borrow.Author.Count.{below_more}
use mathlib.Core.Path.{sym, ap, subst, ◌∙◌}
use mathlib.Core.List.{List}
use Prim.Native.Nat.{ℕ}
use Rattle.pcrl.specs.Tests.{Every}
use Rattle.laws.specs.Says.{said_yes, said_no}
use Rattle.theory.specs.Distinct.{Unlike}
use Rattle.terms.specs.Stands.{list_at}
use Rattle.lettering.specs.Named.{names_at}
use Rattle.printer.proofs.AtPlaces.{all_there, one_lacks}
use Rattle.printer.proofs.unlike.none_there.Goals as goal

abbrev Other : List ℕ → List ℕ → ℕ → List ℕ → Type 0
Other s places n x = Every (Unlike x) (names_at s places n)

pub loop-d-init : goal.loop-d-init
loop-d-init c = (omega arith, λ k h. absurd (omega arith))

pub returns-then-not-other : goal.returns-then-not-other
returns-then-not-other c =
    let a = c.args in
    let P = Other a.s.now a.places.now a.n in
    let there = c.list_at.ensures ∙ ap (list_at a.names.now) c.cell.ensures.0 in
    let lacks = said_no c.other.result c.other.ensures c.if-not-other.true in
    one_lacks P a.names.now a.cells.now a.m c.loop-d.d (omega (arith, c.loop-d-test)) (λ u. lacks (subst P (sym there) u))

pub loop-d-preserved : goal.loop-d-preserved
loop-d-preserved c =
    let a = c.args in
    let P = Other a.s.now a.places.now a.n in
    let there = c.list_at.ensures ∙ ap (list_at a.names.now) c.cell.ensures.0 in
    let holds = said_yes c.other.result c.other.ensures c.if-not-other.false in
    (omega (arith, c.loop-d-test), below_more _ _ c.loop-d.invariant.1 (subst P there holds))

pub returns : goal.returns
returns c =
    let a = c.args in
    all_there (Other a.s.now a.places.now a.n) a.names.now a.cells.now a.m (λ k h. c.loop-d.invariant.1 k (omega (arith, c.loop-d-test)))
