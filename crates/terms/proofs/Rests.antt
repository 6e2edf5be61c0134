-- Where a reader ends, combinator by combinator: what a checker shows of a larger reader from what it knows of the smaller ones.
use mathlib.Core.Path.{◌≡◌, refl, sym, ap, ◌∙◌}
use mathlib.Core.List.{List, ◌∷◌}
use Prim.Native.Nat.{ℕ, suc, ◌<◌, ◌≤◌}
use Rattle.std.specs.Prelude.{Option, Some, None, OnSome}
use native.Mathlib.Omega.{arith}
use lib.ListN.{length, get_or, drop, drop_of_length-le}
use lib.Seq.{drop-cons}
use Rattle.std.proofs.Math.Decide.{dec_lt}
use Rattle.pcrl.specs.Reader.{Got, missing, found, Reader, bind, keep, one, test, pair, view, times, counted, each}
use Rattle.codec.specs.Lawful.{never, keeps}
use Rattle.terms.specs.Ends.{rests}

-- where something is left, something was found
pub found_there : {A : Type 0} (g : Got ℕ A) (ys : List ℕ) → rests g ≡ found tt ys → (a : A) × (g ≡ found a ys)
unfolding rests
found_there missing ys e = never tt ys e
found_there (found a zs) ys e = let z : zs ≡ ys = cc in (a, ap (λ (l : List ℕ). found a l) z)

pub missing_there : {A : Type 0} (g : Got ℕ A) → rests g ≡ missing → g ≡ missing
unfolding rests
missing_there missing e = refl
missing_there (found a zs) e = never tt zs (sym e)

-- ONE READER AFTER ANOTHER

pub bind_pass : {A B : Type 0} (g : Got ℕ A) (k : A → Reader ℕ B) (ys : List ℕ) (x : Got ℕ (Unit {0})) → rests g ≡ found tt ys → ((a : A) → rests (k a ys) ≡ x) → rests (bind g k) ≡ x
unfolding rests bind
bind_pass missing k ys x e f = never tt ys e
bind_pass (found a zs) k ys x e f = let z : zs ≡ ys = cc in rw z (f a)

pub bind_fail : {A B : Type 0} (g : Got ℕ A) (k : A → Reader ℕ B) → rests g ≡ missing → rests (bind g k) ≡ missing
unfolding rests bind
bind_fail missing k e = refl
bind_fail (found a zs) k e = never tt zs (sym e)

-- a value that is only wrapped does not matter
pub bind_wrap : {A B : Type 0} (f : A → B) (g : Got ℕ A) → rests (bind g (λ a ys. found (f a) ys)) ≡ rests g
unfolding rests bind
bind_wrap f missing = refl
bind_wrap f (found a xs) = refl

pub view_rests : {A B : Type 0} (f : A → B) (r : Reader ℕ A) (xs : List ℕ) → rests (view f r xs) ≡ rests (r xs)
unfolding view
view_rests f r xs = bind_wrap f (r xs)

module _ {A B : Type 0} (r : Reader ℕ A) (t : A → Reader ℕ B) where
  pub pair_pass : (xs ys : List ℕ) (x : Got ℕ (Unit {0})) → rests (r xs) ≡ found tt ys → ((a : A) → rests (t a ys) ≡ x) → rests (pair r t xs) ≡ x
  unfolding pair
  pair_pass xs ys x e f = bind_pass (r xs) _ ys x e (λ a. bind_wrap (λ b. (a, b)) (t a ys) ∙ f a)

  pub pair_fail : (xs : List ℕ) → rests (r xs) ≡ missing → rests (pair r t xs) ≡ missing
  unfolding pair
  pair_fail xs e = bind_fail (r xs) _ e

  -- the same where the value is known
  pub pair_with : (xs : List ℕ) (a : A) (ys : List ℕ) → r xs ≡ found a ys → rests (pair r t xs) ≡ rests (t a ys)
  unfolding pair bind
  pair_with xs a ys e = rw e (bind_wrap (λ b. (a, b)) (t a ys))

pub drops : {A P : Type 0} (d : Dec P) (a : A) (xs : List ℕ) → ¬ P → keep d a xs ≡ missing
unfolding keep
drops (yes h) a xs k = absurd (k h)
drops (no h) a xs k = refl

-- a value that is tested
module _ {A : Type 0} {P : A → Type 0} (p : (a : A) → Dec (P a)) (r : Reader ℕ A) (xs : List ℕ) where
  pub test_fail : rests (r xs) ≡ missing → rests (test p r xs) ≡ missing
  unfolding test
  test_fail e = bind_fail (r xs) _ e

  pub test_bad : (a : A) (ys : List ℕ) → r xs ≡ found a ys → ¬ P a → test p r xs ≡ missing
  unfolding test bind
  test_bad a ys e k = rw e (drops (p a) a ys k)

  pub test_pass : (a : A) (ys : List ℕ) → r xs ≡ found a ys → P a → test p r xs ≡ found a ys
  unfolding test bind
  test_pass a ys e k = rw e (keeps (p a) a ys k)

-- a first value and what it chooses, then something that depends on neither
module _ {A B C : Type 0} (t : A → Reader ℕ B) (u : Reader ℕ C) where
  nest_pass_by : (g : Got ℕ A) (zs : List ℕ) → rests {A = A × B} (bind g (λ a ys. bind (t a ys) (λ b ws. found (a, b) ws))) ≡ found tt zs
      → rests {A = A × (B × C)} (bind g (λ a ys. bind (pair (t a) (λ b. u) ys) (λ b ws. found (a, b) ws))) ≡ rests (u zs)
  unfolding bind rests
  nest_pass_by missing zs e = never tt zs e
  nest_pass_by (found a ys) zs e =
      bind_wrap (λ b. (a, b)) (pair (t a) (λ b. u) ys) ∙ pair_pass (t a) (λ b. u) ys zs (rests (u zs)) (sym (bind_wrap (λ b. (a, b)) (t a ys)) ∙ e) (λ b. refl)

  nest_fail_by : (g : Got ℕ A) → rests {A = A × B} (bind g (λ a ys. bind (t a ys) (λ b ws. found (a, b) ws))) ≡ missing
      → rests {A = A × (B × C)} (bind g (λ a ys. bind (pair (t a) (λ b. u) ys) (λ b ws. found (a, b) ws))) ≡ missing
  unfolding bind rests
  nest_fail_by missing e = refl
  nest_fail_by (found a ys) e = bind_wrap (λ b. (a, b)) (pair (t a) (λ b. u) ys) ∙ pair_fail (t a) (λ b. u) ys (sym (bind_wrap (λ b. (a, b)) (t a ys)) ∙ e)

  module _ (r : Reader ℕ A) (xs : List ℕ) where
    pub nest_pass : (zs : List ℕ) → rests (pair r t xs) ≡ found tt zs → rests (pair r (λ a. pair (t a) (λ b. u)) xs) ≡ rests (u zs)
    unfolding pair
    nest_pass zs e = nest_pass_by (r xs) zs e

    pub nest_fail : rests (pair r t xs) ≡ missing → rests (pair r (λ a. pair (t a) (λ b. u)) xs) ≡ missing
    unfolding pair
    nest_fail e = nest_fail_by (r xs) e

-- ONE NUMBER, AT A PLACE

module _ {P : ℕ → Type 0} (p : (n : ℕ) → Dec (P n)) (s : List ℕ) (i : ℕ) where
  pub number_end : length s ≤ i → one p (drop i s) ≡ missing
  unfolding one
  number_end h = rw (drop_of_length-le s {i = i} h)

  pub number_bad : i < length s → ¬ P (get_or s i 0) → one p (drop i s) ≡ missing
  unfolding one
  number_bad h k = rw (drop-cons s i 0 h) (drops (p (get_or s i 0)) (get_or s i 0) (drop (suc i) s) k)

  pub number_pass : (j : ℕ) → j ≡ suc i → i < length s → P (get_or s i 0) → one p (drop i s) ≡ found (get_or s i 0) (drop j s)
  unfolding one
  number_pass j z h k = rw (z, drop-cons s i 0 h) (keeps (p (get_or s i 0)) (get_or s i 0) (drop (suc i) s) k)

  -- there is none, or another
  pub number_no : ¬ ((i < length s) × P (get_or s i 0)) → one p (drop i s) ≡ missing
  number_no n = go (dec_lt i (length s)) (p (get_or s i 0))
    where
      go : Dec (i < length s) → Dec (P (get_or s i 0)) → one p (drop i s) ≡ missing
      go (no h) d = number_end (omega arith)
      go (yes h) (no k) = number_bad h k
      go (yes h) (yes k) = absurd (n (h, k))

  -- and what it chooses
  module _ {B : Type 0} (t : ℕ → Reader ℕ B) where
    pub byte_no : ¬ ((i < length s) × P (get_or s i 0)) → rests (pair (one p) t (drop i s)) ≡ missing
    unfolding rests
    byte_no n = pair_fail (one p) t (drop i s) (ap rests (number_no n))

    pub byte_pass : (j : ℕ) → j ≡ suc i → i < length s → P (get_or s i 0) → rests (pair (one p) t (drop i s)) ≡ rests (t (get_or s i 0) (drop j s))
    byte_pass j z h k = pair_with (one p) t (drop i s) (get_or s i 0) (drop j s) (number_pass j z h k)

  -- and as many values
  module _ {A : Type 0} (r : Reader ℕ A) where
    pub counted_no : ¬ ((i < length s) × P (get_or s i 0)) → rests (counted p r (drop i s)) ≡ missing
    unfolding counted bind rests
    counted_no n = rw (number_no n)

    pub counted_pass : (j : ℕ) → j ≡ suc i → i < length s → P (get_or s i 0) → counted p r (drop i s) ≡ times r (get_or s i 0) (drop j s)
    unfolding counted bind
    counted_pass j z h k = rw (number_pass j z h k)

-- A LOOP OVER VALUES, OR OVER A LIST

module _ {A : Type 0} (r : Reader ℕ A) where
  pub times_done : (n : ℕ) (xs : List ℕ) → n ≡ 0 → rests (times r n xs) ≡ found tt xs
  unfolding times rests
  times_done n xs z = rw z

  pub times_pass : (n m : ℕ) (xs ys : List ℕ) → n ≡ suc m → rests (r xs) ≡ found tt ys → rests (times r n xs) ≡ rests (times r m ys)
  unfolding times
  times_pass n m xs ys z e = rw z (bind_pass (r xs) _ ys (rests (times r m ys)) e (λ a. bind_wrap (λ l. a ∷ l) (times r m ys)))

  pub times_fail : (n m : ℕ) (xs : List ℕ) → n ≡ suc m → rests (r xs) ≡ missing → rests (times r n xs) ≡ missing
  unfolding times
  times_fail n m xs z e = rw z (bind_fail (r xs) _ e)

module _ {A B : Type 0} (r : A → Reader ℕ B) (l : List A) (d : A) (k : ℕ) where
  pub each_pass : (j : ℕ) (xs ys : List ℕ) → k < length l → j ≡ suc k → rests (r (get_or l k d) xs) ≡ found tt ys → rests (each r (drop k l) xs) ≡ rests (each r (drop j l) ys)
  unfolding each
  each_pass j xs ys h z e =
      rw (z, drop-cons l k d h) (bind_pass (r (get_or l k d) xs) _ ys (rests (each r (drop (suc k) l) ys)) e (λ a. bind_wrap (λ m. a ∷ m) (each r (drop (suc k) l) ys)))

  pub each_fail : (xs : List ℕ) → k < length l → rests (r (get_or l k d) xs) ≡ missing → rests (each r (drop k l) xs) ≡ missing
  unfolding each
  each_fail xs h e = rw (drop-cons l k d h) (bind_fail (r (get_or l k d) xs) _ e)

  pub each_done : (xs : List ℕ) → length l ≤ k → rests (each r (drop k l) xs) ≡ found tt xs
  unfolding each rests
  each_done xs h = rw (drop_of_length-le l {i = k} h)

-- what holds anyway holds where something was answered
pub on_some : {A P : Type 0} (r : Option A) → P → OnSome r P
on_some None h = tt
on_some (Some x) h = h
