use mathlib.Core.Path.{◌≡◌}
use Prim.Native.Nat.{◌-◌, ◌<◌, ◌≤◌}
use lib.ListN.{drop, get_or, length, take}
use Rattle.pcrl.specs.Decode.{read_sorts}
use Rattle.pcrl.specs.Limits.{frame_width, max_equations}
use Rattle.pcrl.specs.Reader.{counted, times}
use Rattle.pcrl.specs.Stream.{encode_numbers}
use Rattle.pcrl.specs.Tests.{between?}
use Rattle.terms.proofs.Laying.{Laying}
use Rattle.equations.proofs.read_params.Given as goal

abbrev pub invariant-loop-k : goal.invariant-loop-k
invariant-loop-k l = (l.k ≤ l.n) × (length l.params ≡ length l.initial.params) × (l.n ≤ length l.params) × (length l.s < 65536) × (l.n ≡ get_or l.s l.at 0) × (l.n ≤ max_equations)
    × Laying (counted (between? 1 max_equations) (read_sorts l.sizes frame_width) (drop l.at l.s)) (times (read_sorts l.sizes frame_width) (l.n - l.k) (drop l.i l.s)) encode_numbers l.s (take l.k l.params)
