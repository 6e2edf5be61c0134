-- Tests that compute: on bits, on numbers, and on every element of a list.
use Rattle.std.specs.Prelude.{◌≡◌, refl, List, [], ◌∷◌, Bool, true, false, ℕ, ◌≤◌, ◌<◌, leb, T}
use Rattle.std.proofs.Common.{ap, arith}
use Rattle.std.proofs.Math.Option.{Option, none, some}
use Rattle.std.proofs.Math.Decide.{ℕ_discrete, dec_le, dec_lt}

abbrev pub and : Bool → Bool → Bool
and true b = b
and false b = false

abbrev pub or : Bool → Bool → Bool
or true b = true
or false b = b

abbrev pub negated : Bool → Bool
negated true = false
negated false = true

-- a ≤ x ≤ b
abbrev pub within : ℕ → ℕ → ℕ → Bool
within a b x = and (leb a x) (leb x b)

abbrev pub Between : ℕ → ℕ → ℕ → Type 0
Between a b x = (a ≤ x) × (x ≤ b)

unfoldable pub both? : {A B : Type 0} → Dec A → Dec B → Dec (A × B)
both? (yes a) (yes b) = yes (a, b)
both? (yes a) (no h) = no (λ x. h x.1)
both? (no h) d = no (λ x. h x.0)

unfoldable pub between? : (a b x : ℕ) → Dec (Between a b x)
between? a b x = both? (dec_le a x) (dec_le x b)

unfoldable pub at_most? : (k n : ℕ) → Dec (n ≤ k)
at_most? k n = dec_le n k

unfoldable pub below? : (k n : ℕ) → Dec (n < k)
below? k n = dec_lt n k

unfoldable pub T? : (b : Bool) → Dec (T b)
T? true = yes tt
T? false = no (λ x. x)

-- Are the two lists of numbers the same?
unfoldable pub same? : (l m : List ℕ) → Dec (l ≡ m)
same? [] [] = yes refl
same? [] (y ∷ m) = no (λ e. let z : ◌≡◌ {A = ℕ} 0 1 = cc in omega arith)
same? (x ∷ l) [] = no (λ e. let z : ◌≡◌ {A = ℕ} 0 1 = cc in omega arith)
same? (x ∷ l) (y ∷ m) = elim (ℕ_discrete x y) [ yes e ↦ elim (same? l m) [ yes k ↦ yes (cc (e, k)) | no h ↦ no (λ k. h (cc)) ] | no h ↦ no (λ e. h (cc)) ]

-- Is the list one of these?
unfoldable pub among : List ℕ → List (List ℕ) → Bool
among l [] = false
among l (m ∷ ms) = elim (same? l m) [ yes e ↦ true | no h ↦ among l ms ]

-- Is no list there twice?
unfoldable pub distinct : List (List ℕ) → Bool
distinct [] = true
distinct (l ∷ ls) = and (negated (among l ls)) (distinct ls)

unfoldable pub some? : (o : Option ℕ) (n : ℕ) → Dec (o ≡ some n)
some? none n = no (λ e. let z : ◌≡◌ {A = ℕ} 0 1 = cc in omega arith)
some? (some m) n = elim (ℕ_discrete m n) [ yes e ↦ yes (ap some e) | no h ↦ no (λ e. h (cc)) ]

-- P holds of every element
unfoldable pub Every : {A : Type 0} → (A → Type 0) → List A → Type 0
Every P [] = Unit {0}
Every P (a ∷ l) = P a × Every P l

unfoldable pub every? : {A : Type 0} {P : A → Type 0} → ((a : A) → Dec (P a)) → (l : List A) → Dec (Every P l)
unfolding Every
every? p [] = yes tt
every? p (a ∷ l) = both? (p a) (every? p l)

-- the two lists are of one length, and R holds at each place
unfoldable pub Each : {A B : Type 0} → (A → B → Type 0) → List A → List B → Type 0
Each R [] [] = Unit {0}
Each R [] (b ∷ m) = ⊥
Each R (a ∷ l) [] = ⊥
Each R (a ∷ l) (b ∷ m) = R a b × Each R l m

unfoldable pub each? : {A B : Type 0} {R : A → B → Type 0} → ((a : A) (b : B) → Dec (R a b)) → (l : List A) (m : List B) → Dec (Each R l m)
unfolding Each
each? r [] [] = yes tt
each? r [] (b ∷ m) = no (λ x. x)
each? r (a ∷ l) [] = no (λ x. x)
each? r (a ∷ l) (b ∷ m) = both? (r a b) (each? r l m)
