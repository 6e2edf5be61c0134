-- A list of different numbers below n is not longer than n: take n away, if it is there, and go on with n - 1.
use Rattle.std.specs.Prelude.{◌≡◌, List, [], ◌∷◌, ◌≢◌, ℕ, zero, suc, ◌<◌, ◌≤◌, length}
use Rattle.std.proofs.Common.{subst, arith}
use Rattle.std.proofs.Math.Decide.{ℕ_discrete}
use Rattle.pcrl.specs.Tests.{Every}
use Rattle.laws.specs.Every.{every_both}

-- no number is there twice
unfoldable pub Distinct : List ℕ → Type 0
Distinct [] = Unit {0}
Distinct (x ∷ xs) = Every (λ y. x ≢ y) xs × Distinct xs

unfoldable tail_if : ℕ → (xs ys : List ℕ) → {P : Type 0} → Dec P → List ℕ
tail_if x xs ys (yes e) = xs
tail_if x xs ys (no h) = x ∷ ys

-- the list without the first n in it
unfoldable without : ℕ → List ℕ → List ℕ
without n [] = []
without n (x ∷ xs) = tail_if x xs (without n xs) (ℕ_discrete x n)

without_length : (n : ℕ) (xs : List ℕ) → length xs ≤ suc (length (without n xs))
unfolding without tail_if
without_length n [] = omega arith
without_length n (x ∷ xs) = go (ℕ_discrete x n) (without_length n xs)
  where
    go : (d : Dec (x ≡ n)) → length xs ≤ suc (length (without n xs)) → suc (length xs) ≤ suc (length (tail_if x xs (without n xs) d))
    go (yes e) h = omega arith
    go (no k) h = omega arith

without_every : (P : ℕ → Type 0) (n : ℕ) (xs : List ℕ) → Every P xs → Every P (without n xs)
unfolding without tail_if Every
without_every P n [] f = tt
without_every P n (x ∷ xs) f = go (ℕ_discrete x n) (without_every P n xs f.1)
  where
    go : (d : Dec (x ≡ n)) → Every P (without n xs) → Every P (tail_if x xs (without n xs) d)
    go (yes e) h = f.1
    go (no k) h = (f.0, h)

without_distinct : (n : ℕ) (xs : List ℕ) → Distinct xs → Distinct (without n xs)
unfolding without tail_if Distinct
without_distinct n [] d = tt
without_distinct n (x ∷ xs) d = go (ℕ_discrete x n) (without_distinct n xs d.1)
  where
    go : (b : Dec (x ≡ n)) → Distinct (without n xs) → Distinct (tail_if x xs (without n xs) b)
    go (yes e) h = d.1
    go (no k) h = (without_every (λ y. x ≢ y) n xs d.0, h)

without_below : (n : ℕ) (xs : List ℕ) → Distinct xs → Every (λ y. y < suc n) xs → Every (λ y. y < n) (without n xs)
unfolding without tail_if Distinct Every
without_below n [] d u = tt
without_below n (x ∷ xs) d u = go (ℕ_discrete x n) (without_below n xs d.1 u.1)
  where
    go : (b : Dec (x ≡ n)) → Every (λ y. y < n) (without n xs) → Every (λ y. y < n) (tail_if x xs (without n xs) b)
    go (yes e) h = every_both (λ y. n ≢ y) (λ y. y < suc n) (λ y. y < n) (λ y z w. omega arith) xs (subst (λ (m : ℕ). Every (λ y. m ≢ y) xs) e d.0) u.1
    go (no k) h = (let z : x ≢ n = k in let w : x < suc n = u.0 in omega arith, h)

pub pigeons : (n : ℕ) (xs : List ℕ) → Distinct xs → Every (λ y. y < n) xs → length xs ≤ n
unfolding Every
pigeons zero [] d u = omega arith
pigeons zero (x ∷ xs) d u = let w : x < 0 = u.0 in omega arith
pigeons (suc n) xs d u = omega (arith, pigeons n (without n xs) (without_distinct n xs d) (without_below n xs d u), without_length n xs)
