-- Laws of lists that are made element by element with their numbers, and of lists joined from lists.
use Rattle.std.specs.Prelude.{◌≡◌, refl, List, [], ◌∷◌, map, ℕ, suc, ◌+◌, ◌<◌, length}
use Rattle.std.proofs.Common.{ap₂, arith}
use Rattle.pcrl.specs.Tests.{Every}
use Rattle.pcrl.specs.Reader.{all}
use Rattle.pcrl.specs.Printer.{numbered}
use Rattle.laws.specs.Every.{every_append}

-- what holds of each element with its number holds of what is made of them
pub every_numbered : {A B : Type 0} (R : A → Type 0) (Q : B → Type 0) (f : ℕ → A → B) (i : ℕ) (l : List A)
    → ((k : ℕ) (a : A) → k < i + length l → R a → Q (f k a)) → Every R l → Every Q (numbered f i l)
unfolding Every numbered
every_numbered R Q f i [] g h = tt
every_numbered R Q f i (a ∷ l) g h = (g i a (omega arith) h.0, every_numbered R Q f (suc i) l (λ k b w. g k b (omega arith)) h.1)

-- as many are made
pub length_numbered : {A B : Type 0} (f : ℕ → A → B) (i : ℕ) (l : List A) → length (numbered f i l) ≡ length l
unfolding numbered
length_numbered f i [] = refl
length_numbered f i (a ∷ l) = let e = length_numbered f (suc i) l in omega arith

-- a view of what is made that shows the element
pub shown_numbered : {A B : Type 0} (f : ℕ → A → B) (g : B → A) → ((k : ℕ) (a : A) → g (f k a) ≡ a) → (i : ℕ) (l : List A) → map g (numbered f i l) ≡ l
unfolding numbered
shown_numbered f g e i [] = refl
shown_numbered f g e i (a ∷ l) = ap₂ ◌∷◌ (e i a) (shown_numbered f g e (suc i) l)

-- what holds of each list's elements holds of those of the joined list
pub every_all : {A B : Type 0} (P : B → Type 0) (f : A → List B) (l : List A) → Every (λ a. Every P (f a)) l → Every P (all f l)
unfolding Every all
every_all P f [] h = tt
every_all P f (a ∷ l) h = every_append P (f a) (all f l) h.0 (every_all P f l h.1)
