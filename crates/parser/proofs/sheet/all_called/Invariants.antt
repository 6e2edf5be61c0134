use Prim.Native.Nat.{ℕ, ◌≤◌}
use mathlib.Core.List.{List}
use lib.ListN.{length}
use Rattle.parser.proofs.InitLaws.{Still}
use Rattle.parser.proofs.sheet.all_called.Given as goal

abbrev pub invariant-loop-i : goal.invariant-loop-i
invariant-loop-i l = (l.i ≤ l.to) × (l.to ≤ length l.toks) × ((s : List ℕ) → Still s l.toks l.from l.to l.i)
