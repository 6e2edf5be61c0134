-- The conditions are parted, or are not apart.
use native.Mathlib.Omega.{arith}
use Prim.Native.Nat.{ℕ, ◌<◌}
use lib.ListN.{length, get_or}
use Rattle.std.proofs.lemmas.Option.{IfSome_then}
use Rattle.assignments.proofs.Counter.{per_sum_length}
use Rattle.assignments.proofs.Blocks.{product_pos}
use Rattle.assignments.proofs.two_parts.apart_at.Goals as goal

pub block_size-b-requires : goal.block_size-b-requires
block_size-b-requires c = c.requires.1.1.0

pub overflow_add-p : goal.overflow_add-p
overflow_add-p c = omega (arith, c.requires.0, c.requires.1.1.1)

pub block_size-requires : goal.block_size-requires
block_size-requires c = c.requires.1.1.0

pub parted-requires : goal.parted-requires
parted-requires c = let a = c.args in let len = per_sum_length a.sizes _ c.well_formed.1.1.0 in
    let positive : (i : ℕ) → i < length a.sizes.at → 0 < get_or a.sizes.at i 0 = λ i h. (c.requires.1.1.0 i (omega arith)).0 in
    (c.requires.0, (c.requires.1.0, (omega (arith, c.block_size-b.ensures.0, product_pos a.l a.sizes.at positive), (omega (arith, c.block_size.ensures.0, product_pos 0 a.sizes.at positive), (c.block_size.ensures.1, c.requires.1.1.1)))))

pub returns-then-g-b : goal.returns-then-g-b
returns-then-g-b c = let a = c.args in let len = per_sum_length a.sizes _ c.well_formed.1.1.0 in IfSome_then c.parted.result c.parted.ensures (λ t h. (h.0, λ reach low ready. h.1 a.sizes.at reach low c.requires.1.1.0 len c.block_size.ensures.0 c.block_size-b.ensures.0 ready))
