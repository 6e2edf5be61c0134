-- Every process so far has few parameters: the next one has, or it has not.
use mathlib.Core.Path.{ap, ◌∙◌}
use Prim.Native.Nat.{ℕ, ◌+◌, ◌≤◌}
use native.Mathlib.Omega.{arith}
use Rattle.pcrl.specs.Limits.{frame_width}
use Rattle.names.specs.Items.{item_count}
use Rattle.names.proofs.Lists.{checked_none, checked_on, checked_not, checked_all}
use Rattle.names.proofs.counts.params_few.Goals as goal

pub loop-p-init : goal.loop-p-init
loop-p-init c = checked_none (λ p. item_count c.args.cells.now 3 (p + 2) (frame_width + 1) ≤ frame_width) c.args.procs.now

pub overflow_add-wide : goal.overflow_add-wide
overflow_add-wide c = omega (arith, c.wide.ensures)

pub overflow_add-items : goal.overflow_add-items
overflow_add-items c = omega (arith, c.wide.ensures)

pub items-requires : goal.items-requires
items-requires c = (omega arith, omega (arith, c.wide.ensures), omega arith)

pub returns-then-items-gt-FRAME_WIDTH : goal.returns-then-items-gt-FRAME_WIDTH
returns-then-items-gt-FRAME_WIDTH c = let v = c.items.ensures.count ∙ ap (λ (p : ℕ). item_count c.args.cells.now 3 (p + 2) (frame_width + 1)) c.wide.ensures.0 in checked_not (λ p. item_count c.args.cells.now 3 (p + 2) (frame_width + 1) ≤ frame_width) c.args.procs.now c.loop-p.p-index c.loop-p-test.true c.loop-p.invariant (λ b. omega arith)

pub loop-p-preserved : goal.loop-p-preserved
loop-p-preserved c = let v = c.items.ensures.count ∙ ap (λ (p : ℕ). item_count c.args.cells.now 3 (p + 2) (frame_width + 1)) c.wide.ensures.0 in checked_on (λ p. item_count c.args.cells.now 3 (p + 2) (frame_width + 1) ≤ frame_width) c.args.procs.now c.loop-p.p-index c.loop-p-test.true c.loop-p.invariant (omega arith)

pub returns : goal.returns
returns c = checked_all (λ p. item_count c.args.cells.now 3 (p + 2) (frame_width + 1) ≤ frame_width) c.args.procs.now c.loop-p.p-index c.loop-p-test.false c.loop-p.invariant
