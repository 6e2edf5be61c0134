-- One slot after another, those before it kept.
use native.Mathlib.Omega.{arith}
use mathlib.Core.Path.{refl, ◌∙◌}
use Rattle.putting.proofs.Several.{slots_start, slots_on, slots_done}
use Rattle.putting.proofs.put_slots.Goals as goal

pub loop-j-init : goal.loop-j-init
loop-j-init c =
    ((omega arith, refl), slots_start c.args.cells.now c.args.at c.args.count c.args.slots.now c.args.n c.args.out.now)

pub loop-j-preserved : goal.loop-j-preserved
loop-j-preserved c = (
  (omega arith, c.put_slot-p.auto.out ∙ c.loop-j.invariant.0.1),
  slots_on c.args.cells.now c.args.at c.args.count c.args.slots.now c.args.n c.loop-j.p c.loop-j.j c.loop-j.out c.loop-j.invariant.1 (omega arith) c.put_slot-p.new.out c.put_slot-p.ensures.out_unchanged c.put_slot-p.result c.put_slot-p.ensures.slot_put,
)

pub shape_of-out : goal.shape_of-out
shape_of-out c = c.loop-j.invariant.0.1

pub returns : goal.returns
returns c =
    slots_done c.args.cells.now c.args.at c.args.count c.args.slots.now c.args.n c.loop-j.p c.loop-j.j c.loop-j.out c.loop-j.invariant.1 (omega arith)
