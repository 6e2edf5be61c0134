-- Laws of a name's number, its place in a list of names: it is below their number, and so are those of the sorts that are named.
use Rattle.std.specs.Prelude.{◌≡◌, List, [], ◌∷◌, ℕ, suc, ◌<◌, length}
use Rattle.std.proofs.Math.Option.{Option, some, none-ne-some}
use Rattle.std.proofs.Common.{arith}
use Rattle.pcrl.specs.Tests.{same?, Every}
use Rattle.pcrl.specs.Tree.{Name}
use Rattle.pcrl.specs.Maybe.{◌>>=◌}
use Rattle.pcrl.specs.Names.{Names, number_of, sorts_of}
use Rattle.laws.specs.Every.{every_of_all}
use Rattle.laws.specs.Each.{each_every, each_length}
use Rattle.laws.specs.Optional.{first_given, each_given}

first_or_below : {P : Type 0} (d : Dec P) (o : Option ℕ) (n i : ℕ) → ((j : ℕ) → o ≡ some j → j < n)
    → elim d [ yes e ↦ some 0 | no h ↦ ◌>>=◌ o (λ j. some (suc j)) ] ≡ some i → i < suc n
first_or_below (yes h) o n i f e = let z : 0 ≡ i = cc in omega arith
first_or_below (no h) o n i f e = first_given o _ i e (λ j e₁ e₂. let w = f j e₁ in let z : suc j ≡ i = cc in omega arith)

-- A name's number is below the number of names.
pub number_below : (x : Name) (l : List Name) (i : ℕ) → number_of x l ≡ some i → i < length l
unfolding number_of
number_below x [] i e = absurd (none-ne-some i e)
number_below x (y ∷ l) i e = first_or_below (same? x y) (number_of x l) (length l) i (λ j. number_below x l j) e

-- Sorts that are named are there.
pub sorts_declared : (N : Names) (xs : List Name) (Ds : List ℕ) → sorts_of N xs ≡ some Ds → (length xs ≡ length Ds) × Every (λ D. D < length N.sorts) Ds
unfolding sorts_of
sorts_declared N xs Ds e =
    let h = each_given (λ D. number_of D N.sorts) xs Ds e in
    (each_length _ xs Ds h, each_every _ (λ x. Unit {0}) _ (λ x D k _. number_below x N.sorts D k) xs Ds h (every_of_all _ (λ x. tt) xs))
