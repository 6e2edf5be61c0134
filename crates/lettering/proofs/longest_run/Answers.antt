-- The loop's invariant: the longest run so far, and that of the names from i on.
use mathlib.Core.List.{[]}
use native.Mathlib.Omega.{arith}
use mathlib.Core.Path.{◌≡◌, sym, ap, ◌∙◌}
use Prim.Native.Nat.{ℕ}
use lib.Dec.{eqb}
use lib.ListN.{length, get_or}
use Rattle.pcrl.specs.Tokens.{run}
use Rattle.lettering.specs.Named.{names_at}
use Rattle.lettering.proofs.Runs.{longest_step, longest_ends, list_short, name_at, names_many}
use Rattle.terms.specs.Stands.{list_at}
use Rattle.lettering.proofs.longest_run.Goals as goal

pub loop-i-init : goal.loop-i-init
loop-i-init c = (omega arith, (omega arith, omega arith))

pub loop-i-preserved : goal.loop-i-preserved
loop-i-preserved c =
    let a = c.args in
    let i = c.loop-i.i in
    let test = c.loop-i-test in
    let place = c.cell.ensures.0 in
    let there = c.list_at.ensures in
    let counted = c.front_run-r.ensures in
    let short = list_short a.s.now c.cell.result in
    let long = ap length there in (
      omega (arith, test),
      (
        omega (arith, c.requires, c.max-most.ensures, c.loop-i.invariant.1.0),
        let here : c.list_at.result.now ≡ get_or (names_at a.s.now a.places.now a.n) i [] = there ∙ (ap (λ (p : ℕ). list_at a.s.now p) place ∙ sym (name_at a.s.now a.places.now a.n i (omega (arith, test)))) in
            longest_step a.b (names_at a.s.now a.places.now a.n) i c.loop-i.most c.front_run-r.result c.max-most.result (omega (arith, test, names_many a.s.now a.places.now a.n)) (counted.0 ∙ ap (run (eqb a.b)) here) c.max-most.ensures c.loop-i.invariant.1.1,
      ),
    )

pub returns : goal.returns
returns c =
    let a = c.args in
    let inv = c.loop-i.invariant.1.1 in
    let n = names_many a.s.now a.places.now a.n in
    let z = longest_ends a.b (names_at a.s.now a.places.now a.n) c.loop-i.i (omega arith) in
    (omega (arith, c.loop-i.invariant.1.0), omega arith)
