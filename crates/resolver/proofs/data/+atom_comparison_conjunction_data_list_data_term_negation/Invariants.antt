use mathlib.Core.Path.{◌≡◌}
use Prim.Native.Nat.{◌+◌, ◌-◌, ◌*◌, ◌≤◌}
use lib.ListN.{length}
use Rattle.names.specs.NameList.{names_in, kinds_in}
use Rattle.parser.specs.Cells.{enc_conjunction, enc_comparison}
use Rattle.resolver.specs.Resolving.{conjunction_cells, comparison_cells}
use Rattle.resolver.proofs.DataLaws.{DatasLeft}
use Rattle.resolver.proofs.OperatorLaws.{NotsLeft, OperandsLeft}
use Rattle.resolver.proofs.data.+atom_comparison_conjunction_data_list_data_term_negation.Given as goal

abbrev pub decreases-atom : goal.decreases-atom
decreases-atom l = 2 * (length l.raw.now - l.at)

abbrev pub decreases-comparison : goal.decreases-comparison
decreases-comparison l = 2 * (length l.raw.now - l.at) + 1

abbrev pub decreases-conjunction : goal.decreases-conjunction
decreases-conjunction l = 2 * (length l.raw.now - l.at) + 1

abbrev pub decreases-data_list : goal.decreases-data_list
decreases-data_list l = 2 * (length l.raw.now - l.at) + 1

abbrev pub decreases-data_term : goal.decreases-data_term
decreases-data_term l = 2 * (length l.raw.now - l.at) + 1

abbrev pub decreases-negation : goal.decreases-negation
decreases-negation l = 2 * (length l.raw.now - l.at) + 1

abbrev pub invariant-conjunction-loop : goal.invariant-conjunction-loop
invariant-conjunction-loop l = ((l.at + 1 ≤ l.p) × (l.counter ≤ l.more + 1) × (length l.out ≡ length l.initial.out)) × OperandsLeft enc_comparison comparison_cells l.s l.raw (names_in l.declared) (kinds_in l.declared) l.scope l.n (l.at + 1) (l.more + 1) l.initial.v l.initial.out l.p l.v l.counter l.out

abbrev pub invariant-data_list-loop-out : goal.invariant-data_list-loop-out
invariant-data_list-loop-out l = ((l.count + l.at ≤ l.p) × (length l.out ≡ length l.initial.out)) × DatasLeft l.s l.raw (names_in l.declared) (kinds_in l.declared) l.scope l.n l.at l.w l.initial.out l.p l.v l.count l.out

abbrev pub decreases-data_list-loop-out : goal.decreases-data_list-loop-out
decreases-data_list-loop-out l = length l.raw - l.p

abbrev pub invariant-data_term-loop : goal.invariant-data_term-loop
invariant-data_term-loop l = ((l.at + 1 ≤ l.p) × (l.counter ≤ l.more + 1) × (length l.out ≡ length l.initial.out)) × OperandsLeft enc_conjunction conjunction_cells l.s l.raw (names_in l.declared) (kinds_in l.declared) l.scope l.n (l.at + 1) (l.more + 1) l.initial.v l.initial.out l.p l.v l.counter l.out

abbrev pub invariant-negation-loop-out : goal.invariant-negation-loop-out
invariant-negation-loop-out l = ((l.at ≤ l.p) × (length l.out ≡ length l.initial.out)) × NotsLeft l.s l.raw (names_in l.declared) (kinds_in l.declared) l.scope l.n l.at l.w l.initial.out l.p l.v l.out

abbrev pub decreases-negation-loop-out : goal.decreases-negation-loop-out
decreases-negation-loop-out l = length l.raw - l.p
