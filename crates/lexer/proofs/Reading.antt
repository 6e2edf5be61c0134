-- A name, a numeral and a mark at a place of the sheet: what the code found there is the definition's token (`Reads`).
use mathlib.Core.Path.{◌≡◌, refl, sym, ap, ◌∙◌, subst, subst⁻¹}
use mathlib.Core.Logic.{◌⊎◌, inl, inr, ⊎_elim, ◌≢◌}
use mathlib.Core.Bool.{Bool, true, false}
use mathlib.Core.List.{List, [], ◌∷◌}
use mathlib.Core.Option.{Option, none, some}
use Prim.Native.Nat.{ℕ, suc, ◌+◌, ◌-◌, ◌*◌, ◌<◌, ◌≤◌, min}
use native.Mathlib.Nat.{add-sub_cancel_left}
use native.Mathlib.Omega.{arith}
use lib.Dec.{leb, eqb, ltb}
use lib.ListN.{length, take, drop, get_or, drop_of_length-le}
use borrow.Author.Tests.{le-leb, lt-leb, eq-eqb, ne_eqb, lt-ltb, le-ltb, leb-true, leb-false, ltb-true, ltb-false}
use Rattle.pcrl.specs.Text.{byte}
use Rattle.pcrl.specs.Limits.{max_name, max_numeral}
use Rattle.pcrl.specs.Tests.{or, among}
use Rattle.pcrl.specs.Bytes.{letter, digit, name_byte}
use Rattle.pcrl.specs.Tokens.{Token, name, numeral, sign, words, run, front, Lexeme, name_of, value_of, numeral_of}
use Rattle.lexer.specs.Classes.{in_classes, sign_cell, capped}
use Rattle.lexer.specs.Cells.{first_word, first_numeral, first_name, cell_token, Reads, Fits}
use Rattle.lexer.specs.declared.Taken.{Taken}
use Rattle.std.specs.Prelude as R
use Rattle.std.proofs.lemmas.Option.{none-some, same_Some}
use Rattle.lexer.proofs.Runs.{drop_at, run_same, run_fits, run_more, length_front, is_digit, is_name_byte}
use Rattle.lexer.proofs.Signs.{Found, Missing, look_up}
use Rattle.lexer.proofs.Cells.{cell_word, cell_numeral, cell_name}

pub reads_none : (s : List ℕ) (x : Option Lexeme) → x ≡ none → Reads s x R.None
unfolding Reads
reads_none s x e = subst⁻¹ (λ (y : Option Lexeme). Reads s y R.None) e tt

pub reads_some : (s : List ℕ) (x : Option Lexeme) (t : Taken) (k : Token) (n : ℕ) → x ≡ some (k, n) → t.cell ≢ 0 → cell_token s t.cell ≡ k → t.len ≡ n → Reads s x (R.Some t)
unfolding Reads
reads_some s x t k n e z c l = subst⁻¹ (λ (y : Option Lexeme). Reads s y (R.Some t)) e (z, c, l)

-- ---- names and words
name_long : (w : List ℕ) → max_name < length w → name_of w ≡ none
unfolding name_of
name_long w h = rw (lt-leb _ _ h, name_of)

name_word : (w : List ℕ) → length w ≤ max_name → among w words ≡ true → name_of w ≡ some (sign w, length w)
unfolding name_of
name_word w h e = rw (le-leb _ _ h, e, name_of)

name_new : (w : List ℕ) → length w ≤ max_name → among w words ≡ false → name_of w ≡ some (name w, length w)
unfolding name_of
name_new w h e = rw (le-leb _ _ h, e, name_of)

pub letter_name : (b : ℕ) → letter b ≡ true → name_byte b ≡ true
letter_name b e = rw e

-- behind a letter the run goes on
pub letter_run : (s : List ℕ) (at n : ℕ) → at < length s → letter (get_or s at 0) ≡ true → n ≡ min max_name (run (in_classes 2 4) (drop (at + 1) s))
    → 1 + n ≡ min (suc max_name) (run name_byte (drop at s))
letter_run s at n h k e =
    omega (arith, run_more name_byte s at h (letter_name (get_or s at 0) k), run_same (in_classes 2 4) name_byte is_name_byte (drop (at + 1) s))

pub digit_run : (s : List ℕ) (at m n : ℕ) → n ≡ min m (run (in_classes 2 2) (drop at s)) → n ≡ min m (run digit (drop at s))
digit_run s at m n e = omega (arith, run_same (in_classes 2 2) digit is_digit (drop at s))

-- a run that goes past the most is none, of which only the first n bytes were looked at
pub reads_long : (s : List ℕ) (at n : ℕ) → n ≤ run name_byte (drop at s) → max_name < n → Reads s (name_of (front name_byte (drop at s))) R.None
reads_long s at n e h =
    reads_none s (name_of (front name_byte (drop at s)))
    (name_long (front name_byte (drop at s)) (omega (arith, length_front name_byte (drop at s))))

module _ (s : List ℕ) (at n : ℕ) (e : n ≡ run name_byte (drop at s)) where
  width : length (front name_byte (drop at s)) ≡ n
  width = length_front name_byte (drop at s) ∙ sym e

  part : take (at + n - at) (drop at s) ≡ front name_byte (drop at s)
  part = ap (λ (k : ℕ). take k (drop at s)) (add-sub_cancel_left at n ∙ e)

  -- what is looked up
  abbrev found_cell : R.Option ℕ
  found_cell = sign_cell first_word words (take (at + n - at) (drop at s))

  module _ (h : n ≤ max_name) where
    cell_is : found_cell ≡ sign_cell first_word words (front name_byte (drop at s))
    cell_is = ap (sign_cell first_word words) part

    reads_found : (w : ℕ) → R.Some w ≡ found_cell → Found first_word words (front name_byte (drop at s)) → Reads s (name_of (front name_byte (drop at s))) (R.Some (record { cell = w; len = n }))
    unfolding words
    reads_found w f q =
        let c : w ≡ first_word + q.place = same_Some w (first_word + q.place) (f ∙ cell_is ∙ q.cell) in
        reads_some s (name_of (front name_byte (drop at s))) (record { cell = w; len = n }) (sign (front name_byte (drop at s))) (length (front name_byte (drop at s)))
        (name_word (front name_byte (drop at s)) (omega (arith, width)) q.known)
        (λ z. omega arith)
        (ap (cell_token s) c ∙ cell_word s q.place (omega (arith, q.inside)) ∙ ap sign q.here)
        (sym width)

    pub reads_word : (w : ℕ) → R.Some w ≡ found_cell → Reads s (name_of (front name_byte (drop at s))) (R.Some (record { cell = w; len = n }))
    reads_word w f = ⊎_elim (λ q. reads_found w f q) (λ q. absurd (none-some w (sym q.cell ∙ sym cell_is ∙ sym f))) (look_up first_word words (front name_byte (drop at s)))

    reads_missing : Missing first_word words (front name_byte (drop at s)) → Reads s (name_of (front name_byte (drop at s))) (R.Some (record { cell = first_name + at; len = n }))
    reads_missing q =
        reads_some s (name_of (front name_byte (drop at s))) (record { cell = first_name + at; len = n }) (name (front name_byte (drop at s))) (length (front name_byte (drop at s)))
        (name_new (front name_byte (drop at s)) (omega (arith, width)) q.unknown)
        (λ z. omega arith)
        (cell_name s at)
        (sym width)

    pub reads_name : R.None ≡ found_cell → Reads s (name_of (front name_byte (drop at s))) (R.Some (record { cell = first_name + at; len = n }))
    reads_name f =
        ⊎_elim (λ q. absurd (none-some (first_word + q.place) (f ∙ cell_is ∙ q.cell))) (λ q. reads_missing q) (look_up first_word words (front name_byte (drop at s)))

-- what was looked at of the run of a byte that starts one has a byte at least, and no more than there are
pub run_fit : (test : ℕ → Bool) (s : List ℕ) (at n c : ℕ) → n ≤ run test (drop at s) → (1 ≤ run test (drop at s) → 1 ≤ n)
    → at < length s → test (get_or s at 0) ≡ true → Fits (length s) at (record { cell = c; len = n })
run_fit test s at n c e p h t =
    let m = run_more test s at h t in
    let f = run_fits test s at in
    record { least = p (omega arith); most = omega arith }

-- ---- numerals
pub value_ge : (v : ℕ) (t : List ℕ) → v ≤ value_of v t
unfolding value_of
value_ge v [] = omega arith
value_ge v (d ∷ t) = omega (arith, value_ge (v * 10 + (d - byte "0")) t)

pub value_step : (v : ℕ) (t : List ℕ) (i : ℕ) → i < length t → value_of v (drop i t) ≡ value_of (v * 10 + (get_or t i 0 - byte "0")) (drop (i + 1) t)
unfolding value_of
value_step v t i h = rw (drop_at t i h)

pub value_end : (v : ℕ) (t : List ℕ) (i : ℕ) → length t ≤ i → value_of v (drop i t) ≡ v
unfolding value_of
value_end v t i h = rw (drop_of_length-le t h)

pub capped_over : (v : ℕ) → max_numeral < v → R.None ≡ capped v
unfolding capped
capped_over v h = rw (lt-leb _ _ h, capped)

pub capped_within : (v : ℕ) → v ≤ max_numeral → R.Some v ≡ capped v
unfolding capped
capped_within v h = rw (le-leb _ _ h, capped)

capped_cases : (v : ℕ) → ((capped v ≡ R.Some v) × (v ≤ max_numeral)) ⊎ ((capped v ≡ R.None) × (max_numeral < v))
capped_cases v = go (leb v max_numeral) refl
  where
    go : (t : Bool) → leb v max_numeral ≡ t → ((capped v ≡ R.Some v) × (v ≤ max_numeral)) ⊎ ((capped v ≡ R.None) × (max_numeral < v))
    go true e = inl (sym (capped_within v (leb-true v max_numeral e)), leb-true v max_numeral e)
    go false e = inr (sym (capped_over v (leb-false v max_numeral e)), leb-false v max_numeral e)

pub capped_low : (v n : ℕ) → R.Some v ≡ capped n → v ≤ max_numeral
capped_low v n e = ⊎_elim (λ k. let q : v ≡ n = same_Some v n (e ∙ k.0) in omega (arith, k.1)) (λ k. absurd (none-some v (sym k.0 ∙ sym e))) (capped_cases n)

-- one digit, or a first one above 0
abbrev pub Plain : List ℕ → Type 0
Plain t = (byte "0" < get_or t 0 0) ⊎ (length t ≡ 1)

plain_test : (t : List ℕ) → Plain t → or (eqb (length t) 1) (ltb (byte "0") (get_or t 0 0)) ≡ true
plain_test t (inl h) = go (eqb (length t) 1)
  where
    go : (x : Bool) → or x (ltb (byte "0") (get_or t 0 0)) ≡ true
    go true = refl
    go false = lt-ltb _ _ h
plain_test t (inr e) = rw (eq-eqb _ _ e)

numeral_zero : (t : List ℕ) → (length t ≡ 1 → ⊥) → get_or t 0 0 ≤ byte "0" → numeral_of t ≡ none
unfolding numeral_of
numeral_zero t n h = rw (ne_eqb _ _ n, le-ltb _ _ h, numeral_of)

numeral_over : (t : List ℕ) → Plain t → max_numeral < value_of 0 t → numeral_of t ≡ none
unfolding numeral_of
numeral_over t q h = rw (plain_test t q, lt-leb _ _ h, numeral_of)

numeral_is : (t : List ℕ) → Plain t → value_of 0 t ≤ max_numeral → numeral_of t ≡ some (numeral (value_of 0 t), length t)
unfolding numeral_of
numeral_is t q h = rw (plain_test t q, le-leb _ _ h, numeral_of)

module _ (s t : List ℕ) where
  pub reads_zero : (length t ≡ 1 → ⊥) → get_or t 0 0 ≤ byte "0" → Reads s (numeral_of t) R.None
  reads_zero n h = reads_none s (numeral_of t) (numeral_zero t n h)

  module _ (q : Plain t) where
    pub reads_over : R.None ≡ capped (value_of 0 t) → Reads s (numeral_of t) R.None
    reads_over e =
        reads_none s (numeral_of t)
        (numeral_over t q (⊎_elim (λ k. absurd (none-some (value_of 0 t) (e ∙ k.0))) (λ k. k.1) (capped_cases (value_of 0 t))))

    pub reads_numeral : (v : ℕ) → R.Some v ≡ capped (value_of 0 t) → Reads s (numeral_of t) (R.Some (record { cell = first_numeral + v; len = length t }))
    reads_numeral v e = ⊎_elim (λ k. go (same_Some v (value_of 0 t) (e ∙ k.0)) k.1) (λ k. absurd (none-some v (sym k.0 ∙ sym e))) (capped_cases (value_of 0 t))
      where
        go : v ≡ value_of 0 t → value_of 0 t ≤ max_numeral → Reads s (numeral_of t) (R.Some (record { cell = first_numeral + v; len = length t }))
        go a b =
            reads_some s (numeral_of t) (record { cell = first_numeral + v; len = length t }) (numeral (value_of 0 t)) (length t)
            (numeral_is t q b)
            (λ z. omega arith)
            (cell_numeral s v (omega arith) ∙ ap numeral a)
            refl

-- four digits have a zero first, or spell more than the most
value_long : (t : List ℕ) → 4 ≤ length t → byte "0" < get_or t 0 0 → max_numeral < value_of 0 t
unfolding value_of
value_long [] h k = absurd (omega arith)
value_long (a ∷ []) h k = absurd (omega arith)
value_long (a ∷ b ∷ []) h k = absurd (omega arith)
value_long (a ∷ b ∷ c ∷ []) h k = absurd (omega arith)
value_long (a ∷ b ∷ c ∷ d ∷ t) h k =
    let v : ℕ = (((0 * 10 + (a - byte "0")) * 10 + (b - byte "0")) * 10 + (c - byte "0")) * 10 + (d - byte "0") in
    let z : v ≤ value_of 0 (a ∷ b ∷ c ∷ d ∷ t) = value_ge v t in
    omega arith

numeral_long : (t : List ℕ) → 4 ≤ length t → numeral_of t ≡ none
numeral_long t h = go (ltb (byte "0") (get_or t 0 0)) refl
  where
    go : (x : Bool) → ltb (byte "0") (get_or t 0 0) ≡ x → numeral_of t ≡ none
    go true e = let k = ltb-true (byte "0") (get_or t 0 0) e in numeral_over t (inl k) (value_long t h k)
    go false e = numeral_zero t (λ q. omega arith) (ltb-false (byte "0") (get_or t 0 0) e)

-- of so many digits only the first n were looked at
pub reads_many : (s : List ℕ) (at n : ℕ) → n ≤ run digit (drop at s) → 3 < n → Reads s (numeral_of (front digit (drop at s))) R.None
reads_many s at n e h =
    reads_none s (numeral_of (front digit (drop at s)))
    (numeral_long (front digit (drop at s)) (omega (arith, length_front digit (drop at s))))

-- what is read of the digits at a place is read of their run
module _ (s : List ℕ) (at n : ℕ) (e : n ≡ run digit (drop at s)) where
  digits : take (at + n - at) (drop at s) ≡ front digit (drop at s)
  digits = ap (λ (k : ℕ). take k (drop at s)) (add-sub_cancel_left at n ∙ e)

  pub reads_digits : (x : R.Option Taken) → Reads s (numeral_of (take (at + n - at) (drop at s))) x → Reads s (numeral_of (front digit (drop at s))) x
  reads_digits x r = subst (λ (w : List ℕ). Reads s (numeral_of w) x) digits r

  pub digits_long : length (take (at + n - at) (drop at s)) ≡ n
  digits_long = ap length digits ∙ length_front digit (drop at s) ∙ sym e
