use mathlib.Core.Path.{◌≡◌}
use Prim.Native.Nat.{◌≤◌}
use lib.ListN.{length, take, drop}
use Rattle.pcrl.specs.Limits.{max_functions}
use Rattle.tables.proofs.put_sizes.Given as goal

abbrev pub invariant-loop-k : goal.invariant-loop-k
invariant-loop-k l = (l.k ≤ length l.sizes) × (length l.sizes ≡ 8) × (length l.funcs ≡ length l.initial.funcs) × (length l.funcs ≡ 24) × (take max_functions l.funcs ≡ take max_functions l.initial.funcs) × (take l.k (drop max_functions l.funcs) ≡ take l.k l.sizes)
