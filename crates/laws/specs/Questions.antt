-- What an accepted answer says of the questions before it, and the other way round.
use Rattle.std.specs.Prelude.{◌≡◌, refl, ℕ}
use Rattle.std.proofs.Common.{sym, ap, ◌∙◌, arith}
use Rattle.std.proofs.Math.Option.{Option, none, some}
use Rattle.pcrl.specs.Result.{Result, refused, accepted, question, question_of, after, both_checked}

-- a question that passes
pub question_passes : {P A : Type 0} (n : ℕ) (d : Dec P) (rest : P → Result A) (r : Result A) → P → ((h : P) → rest h ≡ r) → question n d rest ≡ r
unfolding question
question_passes n (yes h) rest r p e = e h
question_passes n (no h) rest r p e = absurd (h p)

-- a question that fails
pub question_fails : {P A : Type 0} (n : ℕ) (d : Dec P) (rest : P → Result A) → ¬ P → question n d rest ≡ refused n
unfolding question
question_fails n (yes h) rest k = absurd (k h)
question_fails n (no h) rest k = refl

-- a question with a value passes
pub question_of_passes : {A B : Type 0} (n : ℕ) (o : Option A) (rest : A → Result B) (a : A) → o ≡ some a → question_of n o rest ≡ rest a
unfolding question_of
question_of_passes n o rest a e = rw e

pub question_passed : {P A : Type 0} (n : ℕ) (d : Dec P) (rest : P → Result A) (a : A) → question n d rest ≡ accepted a → (h : P) × (rest h ≡ accepted a)
unfolding question
question_passed n (yes h) rest a e = (h, e)
question_passed n (no h) rest a e = absurd (let z : ◌≡◌ {A = ℕ} 0 1 = cc in omega arith)

pub question_of_passed : {A B : Type 0} (n : ℕ) (o : Option A) (rest : A → Result B) (b : B) → question_of n o rest ≡ accepted b → (a : A) × (o ≡ some a) × (rest a ≡ accepted b)
unfolding question_of
question_of_passed n none rest b e = absurd (let z : ◌≡◌ {A = ℕ} 0 1 = cc in omega arith)
question_of_passed n (some a) rest b e = (a, refl, e)

-- questions put to what earlier ones accepted
pub after_passes : {A B : Type 0} (r : Result A) (rest : A → Result B) (a : A) (b : Result B) → r ≡ accepted a → rest a ≡ b → after r rest ≡ b
unfolding after
after_passes r rest a b e k = rw e k

pub after_passed : {A B : Type 0} (r : Result A) (rest : A → Result B) (b : B) → after r rest ≡ accepted b → (a : A) × (r ≡ accepted a) × (rest a ≡ accepted b)
unfolding after
after_passed (refused n) rest b e = absurd (let z : ◌≡◌ {A = ℕ} 0 1 = cc in omega arith)
after_passed (accepted a) rest b e = (a, refl, e)

-- Where all questions passed, what follows from a question's fact and from the rest follows.
pub past_question : {P A G : Type 0} (n : ℕ) (d : Dec P) (rest : P → Result A) (a : A) → question n d rest ≡ accepted a → ((h : P) → rest h ≡ accepted a → G) → G
past_question n d rest a e k = let x = question_passed n d rest a e in k x.0 x.1

pub past_question_of : {A B G : Type 0} (n : ℕ) (o : Option A) (rest : A → Result B) (b : B) → question_of n o rest ≡ accepted b
    → ((a : A) → o ≡ some a → rest a ≡ accepted b → G) → G
past_question_of n o rest b e k = let x = question_of_passed n o rest b e in k x.0 x.1 x.2

pub past_answer : {A B G : Type 0} (r : Result A) (rest : A → Result B) (b : B) → after r rest ≡ accepted b → ((a : A) → r ≡ accepted a → rest a ≡ accepted b → G) → G
past_answer r rest b e k = let x = after_passed r rest b e in k x.0 x.1 x.2

-- There is one answer.
pub accepted_one : {A : Type 0} {r : Result A} {a b : A} → r ≡ accepted a → r ≡ accepted b → a ≡ b
accepted_one {A} {r} {a} {b} e h = let q : accepted a ≡ accepted b = sym e ∙ h in cc

-- OF TWO: the answer is that of the first one's questions, or else that of the second one's, and both pass exactly if each does.

pub first_refuses : {A B : Type 0} (first : Result A) (second : Result B) (n : ℕ) → first ≡ refused n → both_checked first second ≡ refused n
unfolding both_checked after
first_refuses first second n e = rw e

pub second_refuses : {A B : Type 0} (first : Result A) (second : Result B) (a : A) (n : ℕ) → first ≡ accepted a → second ≡ refused n → both_checked first second ≡ refused n
unfolding both_checked after
second_refuses first second a n e f = rw (e, f)

pub both_pass : {A B : Type 0} (first : Result A) (second : Result B) (a : A) (b : B) → first ≡ accepted a → second ≡ accepted b → both_checked first second ≡ accepted (a, b)
unfolding both_checked after
both_pass first second a b e f = rw (e, f)

pub both_passed : {A B : Type 0} (first : Result A) (second : Result B) (a : A) (b : B) → both_checked first second ≡ accepted (a, b) → (first ≡ accepted a) × (second ≡ accepted b)
unfolding both_checked
both_passed {A} {B} first second a b e =
    let (x, p, q) = after_passed first (λ a. after second (λ b. accepted (a, b))) (a, b) e in
    let (y, r, s) = after_passed second (λ b. accepted (x, b)) (a, b) q in
    let z : ◌≡◌ {A = A × B} (x, y) (a, b) = cc in
    (p ∙ ap (λ (w : A × B). accepted w.0) z, r ∙ ap (λ (w : A × B). accepted w.1) z)
