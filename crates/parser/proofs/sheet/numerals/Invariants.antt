use Prim.Native.Nat.{ℕ, ◌-◌, ◌≤◌}
use mathlib.Core.Path.{◌≡◌}
use mathlib.Core.List.{List}
use lib.ListN.{length}
use Rattle.pcrl.specs.Grammar as G
use Rattle.parser.specs.Cells.{enc_items, enc_numeral}
use Rattle.parser.specs.Reading.{left}
use Rattle.parser.proofs.Going.{Goes}
use Rattle.parser.proofs.sheet.numerals.Given as goal

abbrev pub invariant-loop-a : goal.invariant-loop-a
invariant-loop-a l = (l.at ≤ l.from) × (length l.out ≡ length l.initial.out) × ((s : List ℕ) → Goes s l.toks (enc_items enc_numeral) G.numerals (left l.toks) l.at l.w l.initial.out l.from l.v l.out)

abbrev pub decreases-loop-a : goal.decreases-loop-a
decreases-loop-a l = length l.toks - l.from
