use Prim.Native.Nat.{◌≤◌, ◌<◌}
use mathlib.Core.Path.{◌≡◌}
use lib.ListN.{length}
use Rattle.nodes.specs.Layout.{byte_limit}
use Rattle.heads.proofs.Numbers.{Numbering}
use Rattle.heads.proofs.numbering.first_numbers.Given as goal

abbrev pub invariant-loop-k : goal.invariant-loop-k
invariant-loop-k l = ((l.k ≤ l.n) × (l.c < byte_limit) × (length l.t ≡ 16)) × Numbering l.cells l.starts l.n l.k l.c l.t
