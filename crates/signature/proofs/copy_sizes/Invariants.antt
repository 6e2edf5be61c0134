use mathlib.Core.Path.{◌≡◌}
use mathlib.Core.List.{map}
use Prim.Native.Nat.{◌≤◌}
use lib.ListN.{length, get_or, take}
use Rattle.signature.proofs.copy_sizes.Given as goal

abbrev pub invariant-loop-k : goal.invariant-loop-k
invariant-loop-k l = (l.k ≤ length l.sorts) × (length l.sizes ≡ length l.initial.sizes) × (length l.sorts ≤ length l.sizes) × (take l.k l.sizes ≡ map (λ p. get_or l.s p 0) (take l.k l.sorts))
