-- The blocks on both sides of the gap, which is as long as no condition names a variable.
use native.Mathlib.Omega.{arith}
use Prim.Native.Nat.{ℕ, ◌-◌, ◌<◌}
use lib.ListN.{length, get_or}
use Rattle.assignments.proofs.Counter.{per_sum_length}
use Rattle.assignments.proofs.Blocks.{product_pos}
use Rattle.assignments.proofs.gaps.gap_at.Goals as goal

pub returns-then-b-w : goal.returns-then-b-w
returns-then-b-w c = let a = c.args in let len = per_sum_length a.z _ c.well_formed.1.1.0 in
    let positive : (i : ℕ) → i < length a.z.at → 0 < get_or a.z.at i 0 = λ i h. (c.requires.1.1.0 i (omega arith)).0 in (
      (omega (arith, c.grain-b.ensures.0, product_pos (c.lowest.result - a.p) a.z.at positive), (omega arith, c.block_size-w.ensures.1)),
      λ blocks st.
          record {
            level = a.h;
            low = c.lowest.result;
            before_is = c.block_size-w.ensures.0;
            behind_is = c.grain-b.ensures.0;
            within = omega arith;
            smaller = omega arith;
            unnamed = λ i k o. c.lowest.ensures st i k;
          },
    )
