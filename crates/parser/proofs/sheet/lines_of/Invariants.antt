use Prim.Native.Nat.{ℕ, ◌+◌, ◌-◌, ◌*◌, ◌≤◌, ◌<◌}
use mathlib.Core.Path.{◌≡◌}
use mathlib.Core.List.{List}
use lib.ListN.{length}
use Rattle.parser.specs.Kinds.{kind_of}
use Rattle.parser.proofs.RunLaws.{RunGoes}
use Rattle.parser.proofs.sheet.lines_of.Given as goal

abbrev pub invariant-loop-places : goal.invariant-loop-places
invariant-loop-places l = (l.at ≤ l.from) × (l.i ≤ l.from) × (length l.out ≡ length l.initial.out) × (length l.places ≡ length l.initial.places) × (l.at ≤ length l.toks → (s : List ℕ) (f : ℕ) → 5 * length l.toks + 4 < f → RunGoes s l.toks (kind_of l.word).enc (kind_of l.word).word ((kind_of l.word).reader f) l.at l.w l.n l.initial.out l.initial.places l.from l.v l.i l.out l.places) × (l.at ≤ length l.toks → l.from ≤ length l.toks)

abbrev pub decreases-loop-places : goal.decreases-loop-places
decreases-loop-places l = length l.toks - l.from
