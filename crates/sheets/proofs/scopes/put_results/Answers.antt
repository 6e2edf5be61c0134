-- One result at each turn.
use mathlib.Core.Path.{refl, ◌∙◌}
use Prim.Native.Nat.{◌+◌, ◌*◌}
use native.Mathlib.Omega.{arith}
use lib.ListN.{length-set}
use Rattle.sheets.proofs.ScopeLaws.{results_start, results_more, results_done}
use Rattle.sheets.proofs.scopes.put_results.Goals as goal

pub loop-f-init : goal.loop-f-init
loop-f-init c = ((omega arith, refl), results_start c.args.funcs.now c.args.scope.now)

pub loop-f-preserved : goal.loop-f-preserved
loop-f-preserved c =
    let here = c.loop-f in
    let q = c.requires in
    ((omega arith, length-set here.scope _ _ ∙ here.invariant.0.1), results_more c.args.funcs.now c.args.scope.now here.f c.from.result here.scope here.invariant.1 (omega arith) (here.invariant.0.1 ∙ q.1) c.from.ensures)

pub shape_of-scope : goal.shape_of-scope
shape_of-scope c = c.loop-f.invariant.0.1

pub returns : goal.returns
returns c =
    let here = c.loop-f in
    results_done c.args.funcs.now c.args.scope.now here.f here.scope here.invariant.1 (omega arith) (λ i h. let b = c.type_inv.funcs (4 * i + 3) in omega (arith, b))
