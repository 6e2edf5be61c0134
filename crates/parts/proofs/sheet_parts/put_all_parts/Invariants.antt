use mathlib.Core.Path.{◌≡◌}
use Prim.Native.Nat.{◌≤◌}
use lib.ListN.{length}
use Rattle.nodes.specs.Scoped.{max_scope}
use Rattle.parts.proofs.SheetParts.{AllLeft}
use Rattle.parts.proofs.sheet_parts.put_all_parts.Given as goal

abbrev pub invariant-loop-k : goal.invariant-loop-k
invariant-loop-k l = ((l.k ≤ l.fn.n.procs) × (length l.left ≡ max_scope) × (length l.sorts ≡ max_scope) × (length l.rows ≡ length l.initial.rows) × (length l.out ≡ length l.initial.out)) × AllLeft l.procs l.cells l.starts l.fn.n l.initial.rows l.fn.w l.initial.out l.k l.count l.v l.rows l.out
