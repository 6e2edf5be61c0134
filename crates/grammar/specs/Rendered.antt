-- Valid tokens are read back from their bytes, one after another.
use Rattle.std.specs.Prelude.{◌≡◌, refl, List, [], ◌∷◌, ◌++◌, Bool, true, false, ℕ, zero, suc, pred, T, length, get_or}
use Rattle.std.proofs.Common.{ap, ◌∙◌}
use Rattle.std.proofs.Math.Option.{some}
use Rattle.pcrl.specs.Text.{bytes}
use Rattle.pcrl.specs.Tests.{and, or, negated, among}
use Rattle.pcrl.specs.Bytes.{separator}
use Rattle.pcrl.specs.Tokens.{Token, name, numeral, sign, words, first_token, before, followed, tokens_behind}
use Rattle.pcrl.specs.Render.{blank_byte, write, goes_on, between}
use Rattle.grammar.specs.Taken.{Stops, at, lexeme, begins, Taken}

-- bytes that are skipped
pub skipped : (w r : List ℕ) → tokens_behind (length w) (w ++ r) ≡ tokens_behind 0 r
unfolding tokens_behind
skipped [] r = refl
skipped (b ∷ w) r = skipped w r

pub first_then : (b : ℕ) (s : List ℕ) (t : Token) (n : ℕ) → T (negated (separator b)) → first_token b s ≡ some (t, n) → tokens_behind 0 (b ∷ s) ≡ before t (tokens_behind (pred n) s)
unfolding tokens_behind followed
first_then b s t n h e = by (separator b) h
  where
    by : (c : Bool) → T (negated c) → elim c [ true ↦ tokens_behind zero s | false ↦ followed (first_token b s) (λ n. tokens_behind (pred n) s) ] ≡ before t (tokens_behind (pred n) s)
    by true k = absurd k
    by false k = rw e

-- a token that is taken stands before those behind it
pub taken_before : (t : Token) → Taken t → (r : List ℕ) → Stops (goes_on t) r → tokens_behind 0 (write t ++ r) ≡ before t (tokens_behind 0 r)
unfolding begins lexeme
taken_before t k r e = by (write t) k.here (k.whole r e)
  where
    by : (w : List ℕ) → T (begins w) → lexeme (w ++ r) ≡ some (t, length w) → tokens_behind 0 (w ++ r) ≡ before t (tokens_behind 0 r)
    by [] h f = absurd h
    by (b ∷ w) h f = first_then b (w ++ r) t (suc (length w)) h f ∙ ap (before t) (skipped w r)

-- no token goes on with a blank
pub blank_stops : (t : Token) (s : List ℕ) → Stops (goes_on t) (blank_byte ∷ s)
unfolding goes_on
blank_stops (name n) s = at blank_byte s refl
blank_stops (numeral v) s = at blank_byte s refl
blank_stops (sign w) s = at blank_byte s (by (among w words) (among w (bytes "=" ∷ [])))
  where
    by : (c d : Bool) → or (and c false) (and d false) ≡ false
    by true true = refl
    by true false = refl
    by false true = refl
    by false false = refl

-- two tokens, with what stands between them, before the bytes r
pub pair_before : (t u : Token) → Taken t → T (begins (write u)) → (r : List ℕ) → tokens_behind 0 (write t ++ (between t u ++ (write u ++ r))) ≡ before t (tokens_behind 0 (write u ++ r))
unfolding between begins tokens_behind
pair_before t u k h r = by (write u) h (goes_on t (get_or (write u) 0 0)) refl
  where
    by : (w : List ℕ) → T (begins w) → (c : Bool) → goes_on t (get_or w 0 0) ≡ c → tokens_behind 0 (write t ++ (elim c [ true ↦ blank_byte ∷ [] | false ↦ [] ] ++ (w ++ r))) ≡ before t (tokens_behind 0 (w ++ r))
    by [] g c e = absurd g
    by (b ∷ w) g true e = taken_before t k (blank_byte ∷ ((b ∷ w) ++ r)) (blank_stops t ((b ∷ w) ++ r))
    by (b ∷ w) g false e = taken_before t k ((b ∷ w) ++ r) (at b (w ++ r) e)
