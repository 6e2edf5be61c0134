use Prim.Native.Nat.{◌+◌, ◌*◌, ◌/◌}
use Rattle.blocks.proofs.PassingZeros.{Passing}
use Rattle.blocks.proofs.crc.crc16.Given as goal

abbrev pub invariant-loop : goal.invariant-loop
invariant-loop l = Passing l.s (l.start + l.counter * 160) l.x

abbrev pub invariant-loop-2 : goal.invariant-loop-2
invariant-loop-2 l = Passing l.s (l.start + l.zeros / 160 * 160 + l.counter * 32) l.x
