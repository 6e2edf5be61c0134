-- The product of the last sizes, one factor after another.
use native.Mathlib.Omega.{arith}
use Prim.Native.Nat.{ℕ, ◌*◌}
use lib.ListN.{get_or, drop}
use Rattle.assignments.specs.Places.{product}
use Rattle.assignments.proofs.Counter.{per_sum_length, four_blocks, no_block}
use mathlib.Core.Path.{◌≡◌, sym, ◌∙◌, ap}
use Rattle.assignments.proofs.block_size.Goals as goal

pub returns-then-l-ge-MAX_VARIABLES : goal.returns-then-l-ge-MAX_VARIABLES
returns-then-l-ge-MAX_VARIABLES c = (no_block _ _ (per_sum_length c.args.s _ c.well_formed.0) c.if-l-ge-MAX_VARIABLES.true, omega arith)

pub times-s3-requires : goal.times-s3-requires
times-s3-requires c = ((c.requires 3 (omega arith)).1, omega arith)

pub returns-then-l-eq3 : goal.returns-then-l-eq3
returns-then-l-eq3 c = let s = c.args.s.at in (c.times-s3.ensures.0 ∙ sym (four_blocks s (per_sum_length c.args.s _ c.well_formed.0)).0 ∙ ap (λ (l : ℕ). product (drop l s)) (sym c.if-l-eq3.true), omega (arith, c.times-s3.ensures.1))

pub times-s2-requires : goal.times-s2-requires
times-s2-requires c = ((c.requires 2 (omega arith)).1, omega (arith, (c.requires 3 (omega arith)).1))

pub returns-then-l-eq2 : goal.returns-then-l-eq2
returns-then-l-eq2 c = let s = c.args.s.at in (c.times-s2.ensures.0 ∙ ap (λ (x : ℕ). get_or s 2 0 * x) c.times-s3.ensures.0 ∙ sym (four_blocks s (per_sum_length c.args.s _ c.well_formed.0)).1.0 ∙ ap (λ (l : ℕ). product (drop l s)) (sym c.if-l-eq2.true), omega (arith, c.times-s2.ensures.1, c.times-s3.ensures.1))

pub times-s1-requires : goal.times-s1-requires
times-s1-requires c = ((c.requires 1 (omega arith)).1, omega (arith, c.times-s2.ensures.1, c.times-s3.ensures.1))

pub returns-then-l-eq1 : goal.returns-then-l-eq1
returns-then-l-eq1 c = let s = c.args.s.at in (c.times-s1.ensures.0 ∙ ap (λ (x : ℕ). get_or s 1 0 * x) (c.times-s2.ensures.0 ∙ ap (λ (x : ℕ). get_or s 2 0 * x) c.times-s3.ensures.0) ∙ sym (four_blocks s (per_sum_length c.args.s _ c.well_formed.0)).1.1.0 ∙ ap (λ (l : ℕ). product (drop l s)) (sym c.if-l-eq1.true), omega (arith, c.times-s1.ensures.1, c.times-s2.ensures.1, c.times-s3.ensures.1))

pub times-requires : goal.times-requires
times-requires c = ((c.requires 0 (omega arith)).1, omega (arith, c.times-s1.ensures.1, c.times-s2.ensures.1, c.times-s3.ensures.1))

pub returns : goal.returns
returns c = let s = c.args.s.at in let z : c.args.l ≡ 0 = omega (arith, c.if-l-ge-MAX_VARIABLES.false, c.if-l-eq3.false, c.if-l-eq2.false, c.if-l-eq1.false) in
    (c.times.ensures.0 ∙ ap (λ (x : ℕ). get_or s 0 0 * x) (c.times-s1.ensures.0 ∙ ap (λ (x : ℕ). get_or s 1 0 * x) (c.times-s2.ensures.0 ∙ ap (λ (x : ℕ). get_or s 2 0 * x) c.times-s3.ensures.0)) ∙ sym (four_blocks s (per_sum_length c.args.s _ c.well_formed.0)).1.1.1 ∙ ap (λ (l : ℕ). product (drop l s)) (sym z), omega (arith, c.times.ensures.1, c.times-s1.ensures.1, c.times-s2.ensures.1, c.times-s3.ensures.1))
