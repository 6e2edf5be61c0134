use mathlib.Core.Path.{◌≡◌}
use Prim.Native.Nat.{◌*◌, ◌≤◌, ◌<◌}
use lib.ListN.{length, drop}
use Rattle.pcrl.specs.Blocks.{crc_from, crc}
use Rattle.blocks.proofs.crc.crc_bytes.Given as goal

abbrev pub invariant-loop-k : goal.invariant-loop-k
invariant-loop-k l = (l.x < 65536) × (crc_from l.x (drop (l.k * 8) l.s) ≡ crc l.s)

abbrev pub invariant-loop-i : goal.invariant-loop-i
invariant-loop-i l = (l.i ≤ length l.s) × (l.x < 65536) × (crc_from l.x (drop l.i l.s) ≡ crc l.s)
