-- One size a turn, behind those that were put; the places of the functions stay.
use mathlib.Core.Path.{refl}
use Prim.Native.Nat.{◌+◌}
use native.Mathlib.Omega.{arith}
use lib.ListN.{length-set, length-drop}
use Rattle.pcrl.specs.Limits.{max_functions}
use Rattle.tables.proofs.Answer.{size_more, sizes_put}
use Rattle.tables.proofs.put_sizes.Goals as goal

pub loop-k-init : goal.loop-k-init
loop-k-init c = (omega arith, c.requires.1, refl, c.requires.0, refl, refl)

pub loop-k-preserved : goal.loop-k-preserved
loop-k-preserved c = let here = c.loop-k in
    let sizes = c.args.sizes.now in
    let more = size_more sizes here.funcs _ here.k (here.k + 1) _ (omega arith) (omega (arith, length-drop max_functions here.funcs)) (omega arith) c.from.ensures here.invariant.4 here.invariant.5 in
    (omega arith, here.invariant.1, simp length-set here.invariant.2, simp length-set here.invariant.3, more.0, more.1)

pub shape_of-funcs : goal.shape_of-funcs
shape_of-funcs c = c.loop-k.invariant.2

pub returns : goal.returns
returns c = let here = c.loop-k in
    sizes_put c.args.sizes.now here.funcs _ here.k (omega arith) here.invariant.0 (omega arith) here.invariant.4 here.invariant.5
