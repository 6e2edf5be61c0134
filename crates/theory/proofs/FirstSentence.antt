-- Demand 3, its first sentence: two states are equal to n steps exactly when the terms they stand for are.
-- Each is equal to its term, and equality to n steps is transitive.
use Rattle.std.specs.Prelude.{◌↔◌, ℕ}
use Rattle.pcrl.specs.Sheet.{Sheet}
use Rattle.pcrl.specs.Heads.{table_of}
use Rattle.pcrl.specs.Equality.{Equal}
use Rattle.pcrl.specs.States.{State, system, RightState, stands_for}
use Rattle.theory.specs.Standing.{Standing}
use Rattle.theory.specs.EqualityLaws.{equal_sym, equal_trans}
use Rattle.theory.proofs.StandsFor.{equal_stands_for}

-- "Whatever two states are taken, each a closed process term of an accepted sheet or a stack, however deep, of such a sheet's table, from one sheet or two,
-- and whatever n from 0: they are equal to n steps exactly when the terms they stand for are."
pub first_sentence : (width : ℕ) (M N : Sheet) → Standing M → Standing N → (a b : State) → RightState width M (table_of M) a → RightState width N (table_of N) b → (n : ℕ)
    → Equal (system width M (table_of M)) (system width N (table_of N)) n a b
    ↔ Equal (system width M (table_of M)) (system width N (table_of N)) n (stands_for M a) (stands_for N b)
first_sentence width M N g h a b i j n =
    let A = system width M (table_of M) in
    let B = system width N (table_of N) in
    let p = equal_stands_for width M g a i n in
    let q = equal_stands_for width N h b j n in (
      λ e. equal_trans A A B n _ a _ (equal_sym A A n a _ p) (equal_trans A B B n a b _ e q),
      λ e. equal_trans A A B n a _ b p (equal_trans A B B n _ _ b e (equal_sym B B n b _ q)),
    )
