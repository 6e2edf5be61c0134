-- A valid token is taken whole from its bytes, where nothing stands behind them or a byte that does not go on with it.
use Rattle.std.specs.Prelude.{◌≡◌, refl, List, [], ◌∷◌, ◌++◌, Bool, true, false, ℕ, ◌≤◌, T, leb, eqb, ltb, length, get_or}
use Rattle.std.proofs.Common.{sym, ap, subst, ◌∙◌, arith, leb→le, le→leb, eqb→eq}
use Rattle.std.proofs.Math.Option.{Option, none, some}
use Rattle.std.proofs.Math.Decide.{ℕ_discrete}
use Rattle.pcrl.specs.Text.{bytes, byte, decimal}
use Rattle.pcrl.specs.Limits.{max_name, max_numeral}
use Rattle.pcrl.specs.Tests.{and, or, negated, same?, among, Every}
use Rattle.pcrl.specs.Bytes.{separator, letter, digit, name_byte}
use Rattle.pcrl.specs.Tokens.{Token, name, numeral, sign, the, words, punctuation, run, front, Lexeme, name_of, value_of, numeral_of, mark_of, first_token}
use Rattle.pcrl.specs.Render.{write, goes_on}
use Rattle.laws.specs.Tests.{is_true, both_pass, eqb_self, where_no}
use Rattle.grammar.specs.TokenLaws.{ValidName, front_every, front_cons}
use Rattle.grammar.specs.Spelled.{spelled}

-- nothing stands next, or a byte that does not pass the test
pub data Stops (p : ℕ → Bool) : List ℕ → Type 0 where
  nothing : Stops p []
  at : (b : ℕ) (s : List ℕ) → p b ≡ false → Stops p (b ∷ s)

pub stops_map : {p q : ℕ → Bool} {s : List ℕ} → ((b : ℕ) → p b ≡ false → q b ≡ false) → Stops p s → Stops q s
stops_map h nothing = nothing
stops_map h (at b s e) = at b s (h b e)

-- the token that bytes begin with
unfoldable pub lexeme : List ℕ → Option Lexeme
lexeme [] = none
lexeme (b ∷ s) = first_token b s

-- no separator stands next
unfoldable pub begins : List ℕ → Bool
begins [] = false
begins (b ∷ s) = negated (separator b)

-- the token is taken from its bytes, where what stands behind them does not go on with it
pub record Taken (t : Token) : Type 0 where
  pub here : T (begins (write t))
  pub whole : (r : List ℕ) → Stops (goes_on t) r → lexeme (write t ++ r) ≡ some (t, length (write t))

-- the bytes that pass a test, before one that does not
pub front_append : (p : ℕ → Bool) (w r : List ℕ) → Every (λ b. T (p b)) w → Stops p r → front p (w ++ r) ≡ w
unfolding Every run
front_append p [] r h nothing = refl
front_append p [] r h (at b s e) = rw (e, run)
front_append p (b ∷ w) r h k = front_cons p b (w ++ r) (is_true (p b) h.0) ∙ ap (λ l. b ∷ l) (front_append p w r h.1 k)

-- no separator passes the test
pub no_separator : (p : ℕ → Bool) → p 0x20 ≡ false → p 0x0A ≡ false → (b : ℕ) → T (p b) → T (negated (separator b))
no_separator p e f b h = by (eqb b 0x20) (eqb b 0x0A) (λ t. rw e at (subst (λ c. T (p c)) (eqb→eq b 0x20 t) h)) (λ t. rw f at (subst (λ c. T (p c)) (eqb→eq b 0x0A t) h))
  where
    by : (c d : Bool) → (T c → ⊥) → (T d → ⊥) → T (negated (or c d))
    by true d g k = g tt
    by false true g k = k tt
    by false false g k = tt

pub first_name : (b : ℕ) (s : List ℕ) → letter b ≡ true → first_token b s ≡ name_of (front name_byte (b ∷ s))
unfolding first_token
first_name b s e = rw (e, first_token)

pub first_numeral : (b : ℕ) (s : List ℕ) → letter b ≡ false → digit b ≡ true → first_token b s ≡ numeral_of (front digit (b ∷ s))
unfolding first_token
first_numeral b s e f = rw (e, f, first_token)

pub name_of_valid : (n : List ℕ) → ValidName n → name_of n ≡ some (name n, length n)
unfolding ValidName name_of
name_of_valid n v = rw (is_true (leb (length n) max_name) (le→leb (length n) max_name v.0.0.1), v.1.1, name_of)

-- one of the words, or one of the marks
pub among_every : (P : List ℕ → Type 0) (ms : List (List ℕ)) → Every P ms → (w : List ℕ) → T (among w ms) → P w
unfolding Every among
among_every P [] h w k = absurd k
among_every P (m ∷ ms) h w k = by (same? w m) k (among_every P ms h.1 w)
  where
    by : (d : Dec (w ≡ m)) → T (elim d [ yes e ↦ true | no g ↦ among w ms ]) → (T (among w ms) → P w) → P w
    by (yes e) t next = subst P (sym e) h.0
    by (no g) t next = next t

-- a word: a run of letters that the rule finds among the words
pub word_taken : (b : ℕ) (w : List ℕ) → letter b ≡ true → front name_byte (b ∷ w) ≡ b ∷ w → name_of (b ∷ w) ≡ some (sign (b ∷ w), length (b ∷ w)) → among (b ∷ w) words ≡ true → Taken (sign (b ∷ w))
unfolding write begins lexeme goes_on
word_taken b w l h e k = record {
  here = no_separator letter refl refl b (rw l tt);
  whole = λ r s. first_name b (w ++ r) l ∙ (ap name_of (front_append name_byte (b ∷ w) r (subst (Every (λ c. T (name_byte c))) h (front_every name_byte (b ∷ w))) (stops_map (λ c f. by (name_byte c) _ (rw k at f)) s)) ∙ e);
}
  where
    by : (c d : Bool) → or c d ≡ false → c ≡ false
    by true d f = f
    by false d f = refl

-- "The words sort, func, act, proc, init, sum, delta and tau", each by computation
pub words_taken : Every (λ w. Taken (sign w)) words
unfolding Every words run name_of among same? ℕ_discrete
words_taken = (word_taken _ _ refl refl refl refl, (word_taken _ _ refl refl refl refl, (word_taken _ _ refl refl refl refl, (word_taken _ _ refl refl refl refl, (word_taken _ _ refl refl refl refl, (word_taken _ _ refl refl refl refl, (word_taken _ _ refl refl refl refl, (word_taken _ _ refl refl refl refl, tt))))))))

-- a mark, whatever stands behind it
pub mark_taken : (w : List ℕ) → T (begins w) → ((r : List ℕ) → lexeme (w ++ r) ≡ some (sign w, length w)) → Taken (sign w)
unfolding write
mark_taken w h e = record { here = h; whole = λ r s. e r }

-- `=`, where no further `=` stands behind it
pub equals_taken : Taken (the "=")
unfolding write begins lexeme goes_on first_token punctuation mark_of among words same? ℕ_discrete
equals_taken = record { here = tt; whole = λ r s. by r s }
  where
    by : (r : List ℕ) → Stops (λ b. eqb b (byte "=")) r → lexeme (bytes "=" ++ r) ≡ some (the "=", 1)
    by r nothing = refl
    by r (at b s e) = where_no (same? (bytes "==") (byte "=" ∷ b ∷ [])) (λ f. let z : ◌≡◌ {A = ℕ} 0 1 = cc (eqb_self b) in omega arith) _ _

-- "`( ) , ; : # = + . -> <| |>`", and `!`, `==`, `/\` and `\/`, each by computation
pub marks_taken : Every (λ w. Taken (sign w)) punctuation
unfolding Every punctuation begins lexeme first_token mark_of same? ℕ_discrete
marks_taken = (mark_taken _ tt (λ r. refl), (mark_taken _ tt (λ r. refl), (mark_taken _ tt (λ r. refl), (mark_taken _ tt (λ r. refl), (mark_taken _ tt (λ r. refl), (mark_taken _ tt (λ r. refl), (mark_taken _ tt (λ r. refl), (mark_taken _ tt (λ r. refl), (mark_taken _ tt (λ r. refl), (mark_taken _ tt (λ r. refl), (mark_taken _ tt (λ r. refl), (mark_taken _ tt (λ r. refl), (equals_taken, (mark_taken _ tt (λ r. refl), (mark_taken _ tt (λ r. refl), (mark_taken _ tt (λ r. refl), tt))))))))))))))))

-- no digit is a letter
pub digit_no_letter : (b : ℕ) → T (digit b) → letter b ≡ false
digit_no_letter b h = by (leb (byte "A") b) (leb b (byte "Z")) (leb (byte "a") b) (leb b (byte "z")) (λ t. omega (arith, leb→le (byte "A") b t, low)) (λ t. omega (arith, leb→le (byte "a") b t, low))
  where
    low : b ≤ byte "9"
    low = leb→le b (byte "9") (both_pass (leb (byte "0") b) (leb b (byte "9")) h).1

    by : (a c d e : Bool) → (T a → ⊥) → (T d → ⊥) → or (and a c) (and d e) ≡ false
    by true c d e f g = absurd (f tt)
    by false c true e f g = absurd (g tt)
    by false c false e f g = refl

pub digits_begin : (w : List ℕ) → Every (λ b. T (digit b)) w → 1 ≤ length w → T (begins w)
unfolding Every begins
digits_begin [] d g = absurd (omega arith)
digits_begin (b ∷ w) d g = no_separator digit refl refl b d.0

pub digits_whole : (w : List ℕ) → Every (λ b. T (digit b)) w → 1 ≤ length w → (r : List ℕ) → Stops digit r → lexeme (w ++ r) ≡ numeral_of w
unfolding Every lexeme
digits_whole [] d g r k = absurd (omega arith)
digits_whole (b ∷ w) d g r k = first_numeral b (w ++ r) (digit_no_letter b d.0) (is_true (digit b) d.0) ∙ ap numeral_of (front_append digit (b ∷ w) r d k)

pub numeral_of_spelled : (v : ℕ) → v ≤ max_numeral → numeral_of (decimal v) ≡ some (numeral v, length (decimal v))
unfolding numeral_of
numeral_of_spelled v h =
    let k = spelled v h in
    let e : value_of 0 (decimal v) ≡ v = k.1.1.1 in
    rw (
      is_true (or (eqb (length (decimal v)) 1) (ltb (byte "0") (get_or (decimal v) 0 0))) k.1.1.0,
      is_true (leb (value_of 0 (decimal v)) max_numeral) (le→leb (value_of 0 (decimal v)) max_numeral (omega arith)),
      numeral_of,
    )
    (rw e)

-- "numerals"
pub numeral_taken : (v : ℕ) → v ≤ max_numeral → Taken (numeral v)
unfolding write goes_on
numeral_taken v h =
    let k = spelled v h in
    record { here = digits_begin (decimal v) k.0 k.1.0; whole = λ r e. digits_whole (decimal v) k.0 k.1.0 r e ∙ numeral_of_spelled v h }
