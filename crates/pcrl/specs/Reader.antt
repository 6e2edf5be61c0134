-- Readers of a list of symbols: a reader finds a value and what is left, or nothing.
use Rattle.std.specs.Prelude.{List, [], ◌∷◌, ◌++◌, ℕ, zero, suc}

pub data Got (S A : Type 0) : Type 0 where
  missing : Got S A
  found : A → List S → Got S A

abbrev pub Reader : Type 0 → Type 0 → Type 0
Reader S A = List S → Got S A

unfoldable pub bind : {S A B : Type 0} → Got S A → (A → List S → Got S B) → Got S B
bind missing k = missing
bind (found a xs) k = k a xs

module _ {S : Type 0} where
  -- one reader, and then one chosen by what it found
  abbrev pub ◌>>=◌ : {A B : Type 0} → Reader S A → (A → Reader S B) → Reader S B
  ◌>>=◌ r k xs = bind (r xs) k

  abbrev pub ◌>>◌ : {A B : Type 0} → Reader S A → Reader S B → Reader S B
  ◌>>◌ r s xs = bind (r xs) (λ a. s)

  -- reads nothing
  abbrev pub return : {A : Type 0} → A → Reader S A
  return a xs = found a xs

  unfoldable pub keep : {A P : Type 0} → Dec P → A → Reader S A
  keep (yes h) a xs = found a xs
  keep (no h) a xs = missing

  -- one symbol that passes a test
  unfoldable pub one : {P : S → Type 0} → ((x : S) → Dec (P x)) → Reader S S
  one p [] = missing
  one p (x ∷ xs) = keep (p x) x xs

  -- a value that passes a test
  unfoldable pub test : {A : Type 0} {P : A → Type 0} → ((a : A) → Dec (P a)) → Reader S A → Reader S A
  test p r xs = bind (r xs) (λ a ys. keep (p a) a ys)

  -- two values, the second reader chosen by what the first one found
  unfoldable pub pair : {A B : Type 0} → Reader S A → (A → Reader S B) → Reader S (A × B)
  pair r s xs = bind (r xs) (λ a ys. bind (s a ys) (λ b zs. found (a, b) zs))

  -- another view of the value
  unfoldable pub view : {A B : Type 0} → (A → B) → Reader S A → Reader S B
  view f r xs = bind (r xs) (λ a ys. found (f a) ys)

  -- n values
  unfoldable pub times : {A : Type 0} → Reader S A → ℕ → Reader S (List A)
  times r zero xs = found [] xs
  times r (suc n) xs = bind (r xs) (λ a ys. bind (times r n ys) (λ l zs. found (a ∷ l) zs))

  -- a value for each element of a list
  unfoldable pub each : {A B : Type 0} → (A → Reader S B) → List A → Reader S (List B)
  each r [] xs = found [] xs
  each r (a ∷ l) xs = bind (r a xs) (λ b ys. bind (each r l ys) (λ bs zs. found (b ∷ bs) zs))

-- what is written for the values of a list, one after another
unfoldable pub all : {S A : Type 0} → (A → List S) → List A → List S
all w [] = []
all w (a ∷ l) = w a ++ all w l

-- a count that passes a test, and as many values
unfoldable pub counted : {A : Type 0} {P : ℕ → Type 0} → ((n : ℕ) → Dec (P n)) → Reader ℕ A → Reader ℕ (List A)
counted p r xs = bind (one p xs) (λ n ys. times r n ys)
