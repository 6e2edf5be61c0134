-- One size a turn, behind those that were copied.
use mathlib.Core.Path.{◌∙◌, ap, refl}
use Prim.Native.Nat.{◌+◌}
use native.Mathlib.Omega.{arith}
use lib.ListN.{length-set, get_or}
use Rattle.signature.proofs.Sorts.{size_more, sizes_whole}
use Rattle.signature.proofs.copy_sizes.Goals as goal

pub loop-k-init : goal.loop-k-init
loop-k-init c = (omega arith, refl, c.requires, refl)

pub loop-k-preserved : goal.loop-k-preserved
loop-k-preserved c = let here = c.loop-k in
    let args = c.args in (
      omega arith,
      simp length-set here.invariant.1,
      simp length-set here.invariant.2,
      size_more args.s.now args.sorts.now here.sizes here.k (here.k + 1) c.peek.result (omega arith) here.invariant.2 (omega arith) (c.peek.ensures ∙ ap (λ p. get_or args.s.now p 0) c.cell.ensures.0) here.invariant.3,
    )

pub shape_of-sizes : goal.shape_of-sizes
shape_of-sizes c = c.loop-k.invariant.1

pub returns : goal.returns
returns c = let args = c.args in sizes_whole args.s.now args.sorts.now c.loop-k.sizes c.loop-k.k (omega arith) c.loop-k.invariant.0 c.loop-k.invariant.3
