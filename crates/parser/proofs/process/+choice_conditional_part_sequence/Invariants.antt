-- The measure is four times the tokens left, and which of the four it is; the loops' invariant: the reader goes on from a later place.
use Prim.Native.Nat.{ℕ, ◌+◌, ◌-◌, ◌*◌, ◌≤◌}
use mathlib.Core.List.{List}
use lib.ListN.{length}
use Rattle.pcrl.specs.Grammar as G
use Rattle.parser.specs.Cells.{enc_choice, enc_sequence}
use Rattle.parser.specs.Reading.{left}
use Rattle.parser.proofs.Going.{Goes}
use Rattle.parser.proofs.process.+choice_conditional_part_sequence.Given as goal

abbrev pub decreases-choice : goal.decreases-choice
decreases-choice l = 4 * (length l.toks.now - l.at) + 3

abbrev pub decreases-conditional : goal.decreases-conditional
decreases-conditional l = 4 * (length l.toks.now - l.at) + 2

abbrev pub decreases-part : goal.decreases-part
decreases-part l = 4 * (length l.toks.now - l.at)

abbrev pub decreases-sequence : goal.decreases-sequence
decreases-sequence l = 4 * (length l.toks.now - l.at) + 1

abbrev pub invariant-choice-loop-a : goal.invariant-choice-loop-a
invariant-choice-loop-a l = (l.at ≤ l.from) × ((s : List ℕ) → Goes s l.toks enc_choice G.choice (λ p. 5 * left l.toks p + 4) l.at l.w l.initial.out l.from l.v l.out)

abbrev pub decreases-choice-loop-a : goal.decreases-choice-loop-a
decreases-choice-loop-a l = length l.toks - l.from

abbrev pub invariant-sequence-loop-a : goal.invariant-sequence-loop-a
invariant-sequence-loop-a l = (l.at ≤ l.from) × ((s : List ℕ) → Goes s l.toks enc_sequence G.sequence (λ p. 5 * left l.toks p + 2) l.at l.w l.initial.out l.from l.v l.out)

abbrev pub decreases-sequence-loop-a : goal.decreases-sequence-loop-a
decreases-sequence-loop-a l = length l.toks - l.from
