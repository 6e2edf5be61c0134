-- `putting::put_byte` meets its contract.
use native.Mathlib.Omega.{arith}
use Prim.Native.Nat.{◌+◌, ◌*◌}
use mathlib.Core.Path.{refl}
use lib.ListN.{length-set, set}
use Rattle.putting.specs.Slots.{slot_width}
use Rattle.putting.proofs.OneByte.{byte_put}
use Rattle.putting.proofs.put_byte.Goals as goal

pub bounds-slots-b-2 : goal.bounds-slots-b-2
bounds-slots-b-2 c = omega (arith, length-set c.args.slots.now (slot_width * c.args.n) 1)

pub bounds-slots-b-3 : goal.bounds-slots-b-3
bounds-slots-b-3 c =
    omega (arith, length-set c.args.slots.now (slot_width * c.args.n) 1, length-set (set c.args.slots.now (slot_width * c.args.n) 1) (slot_width * c.args.n + 1) 1)

pub returns : goal.returns
returns c =
    byte_put c.args.slots.now c.args.n c.args.x (slot_width * c.args.n) refl (omega arith)
