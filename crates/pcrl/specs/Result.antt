-- Questions in order: "No: 1." A refusal is the number of the first question that failed.
use Rattle.std.proofs.Math.Option.{Option, none, some}
use Rattle.std.specs.Prelude.{ℕ}

pub data Result (A : Type 0) : Type 0 where
  refused : ℕ → Result A
  accepted : A → Result A

-- question n is a test, and the rest is asked where it passes
unfoldable pub question : {P A : Type 0} → ℕ → Dec P → (P → Result A) → Result A
question n (yes h) rest = rest h
question n (no h) rest = refused n

-- question n asks whether there is a value, and the rest is asked of it
unfoldable pub question_of : {A B : Type 0} → ℕ → Option A → (A → Result B) → Result B
question_of n none rest = refused n
question_of n (some a) rest = rest a

-- questions put to what earlier questions accepted
unfoldable pub after : {A B : Type 0} → Result A → (A → Result B) → Result B
after (refused n) rest = refused n
after (accepted a) rest = rest a

-- "Of two tables, or of two stacks, the first is put all its questions before the second."
unfoldable pub both_checked : {A B : Type 0} → Result A → Result B → Result (A × B)
both_checked first second = after first (λ a. after second (λ b. accepted (a, b)))

-- the answer as one number: that of the question that failed, or 0
unfoldable pub refusal : {A : Type 0} → Result A → ℕ
refusal (refused n) = n
refusal (accepted a) = 0

-- what was accepted, if it was
unfoldable pub passed : {A : Type 0} → Result A → Option A
passed (refused n) = none
passed (accepted a) = some a
