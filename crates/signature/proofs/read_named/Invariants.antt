use mathlib.Core.Path.{◌≡◌}
use Prim.Native.Nat.{◌-◌, ◌<◌, ◌≤◌}
use lib.ListN.{drop, get_or, length, take}
use Rattle.pcrl.specs.Decode.{read_sort}
use Rattle.pcrl.specs.Limits.{max_sorts}
use Rattle.pcrl.specs.Reader.{counted, times}
use Rattle.pcrl.specs.Stream.{encode_sort}
use Rattle.pcrl.specs.Tests.{Between, between?}
use Rattle.terms.proofs.Laying.{Laying}
use Rattle.signature.proofs.read_named.Given as goal

abbrev pub invariant-loop-k : goal.invariant-loop-k
invariant-loop-k l = (l.k ≤ l.n) × (length l.sorts ≡ length l.initial.sorts) × (l.n ≤ length l.sorts) × (length l.s < 65536) × (l.n ≡ get_or l.s l.at 0) × Between 1 max_sorts l.n
    × Laying (counted (between? 1 max_sorts) read_sort (drop l.at l.s)) (times read_sort (l.n - l.k) (drop l.i l.s)) encode_sort l.s (take l.k l.sorts)
