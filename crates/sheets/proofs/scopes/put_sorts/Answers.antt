-- One sort at each turn.
use mathlib.Core.Path.{◌≡◌, refl, subst, ◌∙◌}
use Prim.Native.Nat.{ℕ}
use native.Mathlib.Omega.{arith}
use lib.ListN.{length-set}
use Rattle.sheets.proofs.ScopeLaws.{SortsSoFar, sorts_start, sorts_more, sorts_done}
use Rattle.sheets.proofs.scopes.put_sorts.Goals as goal

pub loop-i-init : goal.loop-i-init
loop-i-init c = ((omega arith, refl), sorts_start c.args.row.now c.args.scope.now)

pub loop-i-preserved : goal.loop-i-preserved
loop-i-preserved c =
    let here = c.loop-i in
    let q = c.requires in
    ((omega arith, length-set here.scope _ _ ∙ here.invariant.0.1), sorts_more c.args.row.now c.args.scope.now here.i c.from.result here.scope here.invariant.1 (omega arith) (here.invariant.0.1 ∙ q.2) (omega arith) c.from.ensures)

pub shape_of-scope : goal.shape_of-scope
shape_of-scope c = c.loop-i.invariant.0.1

pub returns : goal.returns
returns c =
    let here = c.loop-i in
    let e : here.i ≡ c.args.n = omega arith in
    sorts_done c.args.row.now c.args.scope.now c.args.n here.scope (subst (λ (k : ℕ). SortsSoFar c.args.row.now c.args.scope.now k here.scope) e here.invariant.1) (λ i h. let b = c.type_inv.row i in omega (arith, b))
