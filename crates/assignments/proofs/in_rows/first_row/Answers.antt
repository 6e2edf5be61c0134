-- A row has some blocks.
use native.Mathlib.Omega.{arith}
use Prim.Native.Nat.{ℕ, ◌<◌}
use mathlib.Core.Path.{sym, subst}
use lib.ListN.{length, get_or}
use Rattle.assignments.proofs.Blocks.{product_pos}
use Rattle.assignments.proofs.Counter.{per_sum_length}
use Rattle.assignments.proofs.in_rows.first_row.Goals as goal

pub next-requires : goal.next-requires
next-requires c = let a = c.args in let e = c.block_size.ensures in
    let len = per_sum_length a.z _ c.well_formed.0 in
    let pos : (i : ℕ) → i < length a.z.at → 0 < get_or a.z.at i 0 = λ i h. (c.requires.0 i (omega arith)).0 in
    (subst (λ (x : ℕ). 0 < x) (sym e.0) (product_pos c.in-Some.l a.z.at pos), (omega (arith, e.1), omega arith))
