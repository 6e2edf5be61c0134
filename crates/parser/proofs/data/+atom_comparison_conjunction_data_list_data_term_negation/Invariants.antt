-- The measure is five times the tokens left, and which of the readers it is; recursion goes through brackets.
-- The loops' invariants: the reader goes on from a later place; behind n operands.
use Prim.Native.Nat.{ℕ, ◌+◌, ◌-◌, ◌*◌, ◌≤◌}
use mathlib.Core.List.{List}
use lib.ListN.{length}
use Rattle.pcrl.specs.Grammar as G
use Rattle.parser.specs.Cells.{enc_ors, enc_ands, enc_negation, enc_datas, more_ors, more_ands}
use Rattle.parser.specs.Reading.{left}
use Rattle.parser.proofs.Going.{Goes}
use Rattle.parser.proofs.Operands.{Joins}
use Rattle.parser.proofs.data.+atom_comparison_conjunction_data_list_data_term_negation.Given as goal

abbrev pub decreases-atom : goal.decreases-atom
decreases-atom l = 5 * (length l.toks.now - l.at)

abbrev pub decreases-comparison : goal.decreases-comparison
decreases-comparison l = 5 * (length l.toks.now - l.at) + 2

abbrev pub decreases-conjunction : goal.decreases-conjunction
decreases-conjunction l = 5 * (length l.toks.now - l.at) + 3

abbrev pub decreases-data_list : goal.decreases-data_list
decreases-data_list l = 5 * (length l.toks.now - l.at) + 5

abbrev pub decreases-data_term : goal.decreases-data_term
decreases-data_term l = 5 * (length l.toks.now - l.at) + 4

abbrev pub decreases-negation : goal.decreases-negation
decreases-negation l = 5 * (length l.toks.now - l.at) + 1

abbrev pub invariant-conjunction-loop-a : goal.invariant-conjunction-loop-a
invariant-conjunction-loop-a l = (l.n + l.at ≤ l.from) × ((s : List ℕ) → Joins s l.toks enc_ands more_ands G.conjunction (λ p. 5 * left l.toks p + 3) l.at l.initial.v l.initial.out l.from l.v l.out l.n)

abbrev pub decreases-conjunction-loop-a : goal.decreases-conjunction-loop-a
decreases-conjunction-loop-a l = length l.toks - l.from

abbrev pub invariant-data_list-loop-a : goal.invariant-data_list-loop-a
invariant-data_list-loop-a l = (l.at ≤ l.from) × ((s : List ℕ) → Goes s l.toks enc_datas G.data_list (λ p. 5 * left l.toks p + 5) l.at l.w l.initial.out l.from l.v l.out)

abbrev pub decreases-data_list-loop-a : goal.decreases-data_list-loop-a
decreases-data_list-loop-a l = length l.toks - l.from

abbrev pub invariant-data_term-loop-a : goal.invariant-data_term-loop-a
invariant-data_term-loop-a l = (l.n + l.at ≤ l.from) × ((s : List ℕ) → Joins s l.toks enc_ors more_ors G.data_term (λ p. 5 * left l.toks p + 4) l.at l.initial.v l.initial.out l.from l.v l.out l.n)

abbrev pub decreases-data_term-loop-a : goal.decreases-data_term-loop-a
decreases-data_term-loop-a l = length l.toks - l.from

abbrev pub invariant-negation-loop-out : goal.invariant-negation-loop-out
invariant-negation-loop-out l = (l.at ≤ l.from) × ((s : List ℕ) → Goes s l.toks enc_negation G.negation (λ p. 5 * left l.toks p + 1) l.at l.w l.initial.out l.from l.v l.out)

abbrev pub decreases-negation-loop-out : goal.decreases-negation-loop-out
decreases-negation-loop-out l = length l.toks - l.from
