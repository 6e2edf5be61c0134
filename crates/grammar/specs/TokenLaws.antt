-- Every token of a text is valid by the token rule: names are letters, digits and underscores behind a letter, 1 to 16 of them, and no words.
use Rattle.std.specs.Prelude.{◌≡◌, refl, List, [], ◌∷◌, Bool, true, false, ℕ, zero, suc, pred, ◌≤◌, T, leb, eqb, ltb, length, take, get_or}
use Rattle.std.proofs.Common.{subst, arith, leb→le}
use Rattle.std.proofs.Math.Option.{Option, none, some}
use Rattle.pcrl.specs.Text.{byte}
use Rattle.pcrl.specs.Limits.{max_name, max_numeral}
use Rattle.pcrl.specs.Tests.{and, or, Between, same?, among, Every}
use Rattle.pcrl.specs.Bytes.{separator, letter, name_byte}
use Rattle.pcrl.specs.Tokens.{Token, name, numeral, sign, words, punctuation, run, front, Lexeme, name_of, value_of, numeral_of, mark_of, first_token, before, followed, tokens_behind, tokens}
use Rattle.laws.specs.Tests.{of_true, where_yes}

-- "names (a letter, then letters, digits or underscores, the whole run at most 16 characters)"; the words "are never names"
unfoldable pub ValidName : List ℕ → Type 0
ValidName n = (Between 1 max_name (length n) × Every (λ b. T (name_byte b)) n) × (T (letter (get_or n 0 0)) × (among n words ≡ false))

-- a valid name, a numeral "at most 255", or one of the words and marks
unfoldable pub ValidToken : Token → Type 0
ValidToken (name n) = ValidName n
ValidToken (numeral v) = v ≤ max_numeral
ValidToken (sign w) = T (or (among w words) (among w punctuation))

-- P holds of the value, if there is one
pub data Given {A : Type 0} (P : A → Type 0) : Option A → Type 0 where
  nothing : Given P none
  just : {a : A} → P a → Given P (some a)

pub of_given : {A : Type 0} {P : A → Type 0} {a : A} → Given P (some a) → P a
of_given (just p) = p

abbrev pub ValidLexeme : Lexeme → Type 0
ValidLexeme l = ValidToken l.0

-- the bytes at the front that pass a test pass it
pub front_every : (test : ℕ → Bool) (s : List ℕ) → Every (λ b. T (test b)) (front test s)
unfolding run Every
front_every test [] = tt
front_every test (b ∷ s) = by (test b) refl (front_every test s)
  where
    by : (t : Bool) → test b ≡ t → Every (λ b. T (test b)) (front test s) → Every (λ b. T (test b)) (take (elim t [ true ↦ suc (run test s) | false ↦ 0 ]) (b ∷ s))
    by true e h = (of_true (test b) e, h)
    by false e h = tt

-- where the first byte passes, the front begins with it
pub front_cons : (test : ℕ → Bool) (b : ℕ) (s : List ℕ) → test b ≡ true → front test (b ∷ s) ≡ b ∷ front test s
unfolding run
front_cons test b s e = rw (e, run)

pub name_valid : (w : List ℕ) → 1 ≤ length w → Every (λ b. T (name_byte b)) w → T (letter (get_or w 0 0)) → Given ValidLexeme (name_of w)
unfolding name_of ValidToken ValidName
name_valid w h e l = by (leb (length w) max_name) refl (among w words) refl
  where
    by : (t : Bool) → leb (length w) max_name ≡ t → (u : Bool) → among w words ≡ u → Given ValidLexeme (elim t [ true ↦ some (elim u [ true ↦ sign w | false ↦ name w ], length w) | false ↦ none ])
    by true f true g = just {a = (sign w, length w)} (rw g tt)
    by true f false g = just {a = (name w, length w)} (((h, leb→le _ _ (of_true _ f)), e), (l, g))
    by false f u g = nothing

pub numeral_valid : (w : List ℕ) → Given ValidLexeme (numeral_of w)
unfolding numeral_of ValidToken
numeral_valid w = by (or (eqb (length w) 1) (ltb (byte "0") (get_or w 0 0))) (leb (value_of 0 w) max_numeral) refl
  where
    by : (a t : Bool) → leb (value_of 0 w) max_numeral ≡ t → Given ValidLexeme (elim (and a t) [ true ↦ some (numeral (value_of 0 w), length w) | false ↦ none ])
    by true true e = just (leb→le _ _ (of_true _ e))
    by true false e = nothing
    by false t e = nothing

-- one of some lists is among them, with more before
pub among_here : (m : List ℕ) (ms : List (List ℕ)) → among m (m ∷ ms) ≡ true
unfolding among
among_here m ms = where_yes (same? m m) refl true (among m ms)

pub among_behind : (w m : List ℕ) (ms : List (List ℕ)) → among w ms ≡ true → among w (m ∷ ms) ≡ true
unfolding among
among_behind w m ms e = by (same? w m)
  where
    by : (d : Dec (w ≡ m)) → elim d [ yes e ↦ true | no h ↦ among w ms ] ≡ true
    by (yes f) = refl
    by (no h) = e

-- a sign that is one of these
abbrev pub SignOf : List (List ℕ) → Lexeme → Type 0
SignOf ms l = (w : List ℕ) × (l.0 ≡ sign w) × (among w ms ≡ true)

-- only one of the marks is taken
pub mark_among : (ms : List (List ℕ)) (s : List ℕ) → Given (SignOf ms) (mark_of ms s)
unfolding mark_of
mark_among [] s = nothing
mark_among (m ∷ ms) s = by (same? m (take (length m) s)) (mark_among ms s)
  where
    more : (o : Option Lexeme) → Given (SignOf ms) o → Given (SignOf (m ∷ ms)) o
    more none h = nothing
    more (some l) (just h) = just (h.0, h.1, among_behind h.0 m ms h.2)

    by : (d : Dec (m ≡ take (length m) s)) → Given (SignOf ms) (mark_of ms s) → Given (SignOf (m ∷ ms)) (elim d [ yes e ↦ some (sign m, length m) | no h ↦ mark_of ms s ])
    by (yes e) h = just (m, refl, among_here m ms)
    by (no f) h = more (mark_of ms s) h

pub mark_valid : (s : List ℕ) → Given ValidLexeme (mark_of punctuation s)
unfolding ValidToken
mark_valid s = by (mark_of punctuation s) (mark_among punctuation s)
  where
    or_true : (a : Bool) → T (or a true)
    or_true true = tt
    or_true false = tt

    by : (o : Option Lexeme) → Given (SignOf punctuation) o → Given ValidLexeme o
    by none h = nothing
    by (some l) (just h) = just {a = l} (rw h.1 (rw h.2 (or_true (among h.0 words))))

-- tokens, at most so many, if there are any
abbrev AtMost : ℕ → Option (List Token) → Type 0
AtMost n o = Given (λ (us : List Token). length us ≤ n) o

-- NO TEXT HAS MORE TOKENS THAN BYTES.
pub tokens_few : (s : List ℕ) (ts : List Token) → tokens s ≡ some ts → length ts ≤ length s
unfolding tokens tokens_behind followed before
tokens_few s ts e = of_given (subst (AtMost (length s)) e (behind 0 s))
  where
    more : (n : ℕ) (o : Option (List Token)) → AtMost n o → AtMost (suc n) o
    more n none g = nothing
    more n (some us) (just h) = just {a = us} (omega arith)

    next : (n : ℕ) (o : Option Lexeme) (rest : ℕ → Option (List Token)) → ((m : ℕ) → AtMost n (rest m)) → AtMost (suc n) (followed o rest)
    next n none rest k = nothing
    next n (some l) rest k = by (rest l.1) (k l.1)
      where
        by : (o : Option (List Token)) → AtMost n o → AtMost (suc n) (before l.0 o)
        by none g = nothing
        by (some us) (just h) = just {a = l.0 ∷ us} (omega arith)

    behind : (k : ℕ) (s : List ℕ) → AtMost (length s) (tokens_behind k s)
    behind k [] = just {a = []} (omega arith)
    behind (suc k) (b ∷ s) = more (length s) (tokens_behind k s) (behind k s)
    behind zero (b ∷ s) = by (separator b) (λ k. behind k s)
      where
        by : (t : Bool) → ((k : ℕ) → AtMost (length s) (tokens_behind k s)) → AtMost (suc (length s)) (elim t [ true ↦ tokens_behind zero s | false ↦ followed (first_token b s) (λ n. tokens_behind (pred n) s) ])
        by true h = more (length s) (tokens_behind zero s) (h zero)
        by false h = next (length s) (first_token b s) (λ n. tokens_behind (pred n) s) (λ n. h (pred n))
