use mathlib.Core.Path.{◌≡◌}
use Prim.Native.Nat.{◌-◌, ◌<◌, ◌≤◌}
use lib.ListN.{drop, get_or, length, take}
use Rattle.pcrl.specs.Decode.{read_func}
use Rattle.pcrl.specs.Limits.{max_functions}
use Rattle.pcrl.specs.Reader.{counted, times}
use Rattle.pcrl.specs.Stream.{encode_func}
use Rattle.pcrl.specs.Tests.{at_most?}
use Rattle.terms.proofs.Laying.{Laying}
use Rattle.signature.proofs.read_funcs.Given as goal

abbrev pub invariant-loop-k : goal.invariant-loop-k
invariant-loop-k l = (l.k ≤ l.n) × (length l.funcs ≡ length l.initial.funcs) × (l.n ≤ length l.funcs) × (length l.s < 65536) × (l.n ≡ get_or l.s l.at 0) × (l.n ≤ max_functions)
    × Laying (counted (at_most? max_functions) (read_func l.sizes) (drop l.at l.s)) (times (read_func l.sizes) (l.n - l.k) (drop l.i l.s)) encode_func l.s (take l.k l.funcs)
