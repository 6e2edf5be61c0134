use Prim.Native.Nat.{◌+◌, ◌≤◌}
use mathlib.Core.Bool.{true}
use mathlib.Core.Path.{◌≡◌}
use Rattle.blocks.proofs.PassingZeros.{Zeros}
use Rattle.blocks.proofs.crc.zeros_at.Given as goal

abbrev pub invariant-loop-i : goal.invariant-loop-i
invariant-loop-i l = (l.i ≤ 32) × (l.good ≡ true → Zeros l.s l.at (l.at + l.i))
