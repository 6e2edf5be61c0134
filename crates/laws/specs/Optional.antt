-- What a chain of values that may be missing gives where none is missing: a law for each way of chaining in `Maybe`.
use Rattle.std.specs.Prelude.{◌≡◌, refl, List, [], ◌∷◌, Bool, true, false, ℕ, T}
use Rattle.std.proofs.Common.{subst, arith}
use Rattle.std.proofs.Math.Option.{Option, none, some, none-ne-some}
use Rattle.pcrl.specs.Tests.{Each}
use Rattle.pcrl.specs.Maybe.{◌>>=◌, ◌>>◌, provided, for_each}

-- a value, and then one made of it
pub first_given : {A B G : Type 0} (o : Option A) (k : A → Option B) (b : B) → ◌>>=◌ o k ≡ some b → ((a : A) → o ≡ some a → k a ≡ some b → G) → G
first_given none k b e f = absurd (none-ne-some b e)
first_given (some a) k b e f = f a refl e

-- a test, and then a value
pub test_passed : {B : Type 0} (t : Bool) (o : Option B) (b : B) → ◌>>◌ (provided t) o ≡ some b → T t × (o ≡ some b)
test_passed true o b e = (tt, e)
test_passed false o b e = absurd (none-ne-some b e)

-- a value for each element of a list
pub each_given : {A B : Type 0} (f : A → Option B) (l : List A) (m : List B) → for_each f l ≡ some m → Each (λ a b. f a ≡ some b) l m
unfolding for_each Each
each_given f [] [] e = tt
each_given f [] (b ∷ m) e = absurd (let z : ◌≡◌ {A = ℕ} 0 1 = cc in omega arith)
each_given {B = B} f (a ∷ l) m e =
    first_given (f a) _ m e (λ b e₁ e₂.
    first_given (for_each f l) _ m e₂ (λ n e₃ e₄.
    let z : b ∷ n ≡ m = cc in
    subst (λ (k : List B). Each (λ x y. f x ≡ some y) (a ∷ l) k) z (e₁, each_given f l n e₃)))
