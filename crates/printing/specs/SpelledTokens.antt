-- Tokens that are spelled right, but for names that may be too long: if their bytes are tokens at all, they are these tokens.
use Rattle.std.specs.Prelude.{◌≡◌, refl, List, [], ◌∷◌, ◌++◌, Bool, true, false, ℕ, zero, pred, ◌≤◌, T, leb, length, get_or}
use Rattle.std.proofs.Common.{ap, sym, ◌∙◌, append-nil, arith, leb→le}
use Rattle.std.proofs.Math.Option.{Option, none, some, none-ne-some, some-injective}
use Rattle.std.proofs.Math.Decide.{dec_le}
use Rattle.pcrl.specs.Limits.{max_name, max_numeral}
use Rattle.pcrl.specs.Tests.{or, negated, among, Every}
use Rattle.pcrl.specs.Bytes.{separator, letter, name_byte}
use Rattle.pcrl.specs.Tokens.{Token, name, numeral, sign, words, punctuation, Lexeme, name_of, first_token, before, followed, tokens_behind, tokens}
use Rattle.pcrl.specs.Render.{blank_byte, write, goes_on, between, render}
use Rattle.laws.specs.Tests.{is_true, of_true}
use Rattle.grammar.specs.TokenLaws.{ValidName, ValidToken}
use Rattle.grammar.specs.Taken.{Stops, nothing, at, begins, front_append, first_name, no_separator}
use Rattle.grammar.proofs.Taken.{token_taken}
use Rattle.grammar.specs.Rendered.{taken_before, blank_stops}
use Rattle.grammar.proofs.Rendered.{tokens_render}
use Rattle.printing.specs.Indexed.{SpelledName}

unfoldable pub SpelledToken : Token → Type 0
SpelledToken (name n) = SpelledName n
SpelledToken (numeral v) = v ≤ max_numeral
SpelledToken (sign w) = T (or (among w words) (among w punctuation))

-- From bytes that begin with the token, and then do not go on with it, tokens are taken only if it is valid, and then those behind it too.
pub record Needed (t : Token) : Type 0 where
  pub here : T (begins (write t))
  pub behind : (r : List ℕ) (us : List Token) → Stops (goes_on t) r → tokens_behind 0 (write t ++ r) ≡ some us
      → ValidToken t × ((vs : List Token) × (tokens_behind 0 r ≡ some vs))

-- so for a token that is valid
behind_valid : (t : Token) → ValidToken t → Needed t
unfolding before
behind_valid t v = record { here = (token_taken t v).here; behind = λ r us s e. (v, by (tokens_behind 0 r) us (sym (taken_before t (token_taken t v) r s) ∙ e)) }
  where
    by : (o : Option (List Token)) (us : List Token) → before t o ≡ some us → (vs : List Token) × (o ≡ some vs)
    by none us e = absurd (none-ne-some us e)
    by (some vs) us e = (vs, refl)

-- and for a name that is too long: nothing is taken
too_long : (n : List ℕ) → ¬ (length n ≤ max_name) → name_of n ≡ none
unfolding name_of
too_long n h = by (leb (length n) max_name) refl
  where
    by : (c : Bool) → leb (length n) max_name ≡ c → ◌≡◌ {A = Option Lexeme} (elim c [ true ↦ some (elim (among n words) [ true ↦ sign n | false ↦ name n ], length n) | false ↦ none ]) none
    by true e = absurd (h (leb→le _ _ (of_true _ e)))
    by false e = refl

none_taken : (b : ℕ) (s : List ℕ) → T (negated (separator b)) → first_token b s ≡ none → tokens_behind 0 (b ∷ s) ≡ none
unfolding tokens_behind followed
none_taken b s h e = by (separator b) h
  where
    by : (c : Bool) → T (negated c) → ◌≡◌ {A = Option (List Token)} (elim c [ true ↦ tokens_behind zero s | false ↦ followed (first_token b s) (λ n. tokens_behind (pred n) s) ]) none
    by true k = absurd k
    by false k = rw e

behind_long : (n : List ℕ) → SpelledName n → ¬ (length n ≤ max_name) → Needed (name n)
unfolding SpelledName write begins goes_on
behind_long [] v h = absurd (omega arith)
behind_long (b ∷ w) v h =
    let first = no_separator letter refl refl b v.1.0 in
    record {
      here = first;
      behind = λ r us s e. absurd (none-ne-some us
          (sym (none_taken b (w ++ r) first (first_name b (w ++ r) (is_true (letter b) v.1.0) ∙ (ap name_of (front_append name_byte (b ∷ w) r v.0.1 s) ∙ too_long (b ∷ w) h))) ∙ e));
    }

needed : (t : Token) → SpelledToken t → Needed t
unfolding SpelledToken ValidToken SpelledName ValidName
needed (name n) v = elim (dec_le (length n) max_name) [ yes h ↦ behind_valid (name n) (((v.0.0, h), v.0.1), v.1) | no h ↦ behind_long n v h ]
needed (numeral k) v = behind_valid (numeral k) v
needed (sign w) v = behind_valid (sign w) v

-- two tokens, with what stands between them
pair_behind : (t u : Token) → Needed t → Needed u → (r : List ℕ) (us : List Token) → tokens_behind 0 (write t ++ (between t u ++ (write u ++ r))) ≡ some us
    → ValidToken t × ((vs : List Token) × (tokens_behind 0 (write u ++ r) ≡ some vs))
unfolding between begins tokens_behind
pair_behind t u k l r us = by (write u) l.here (goes_on t (get_or (write u) 0 0)) refl
  where
    by : (w : List ℕ) → T (begins w) → (c : Bool) → goes_on t (get_or w 0 0) ≡ c → tokens_behind 0 (write t ++ (elim c [ true ↦ blank_byte ∷ [] | false ↦ [] ] ++ (w ++ r))) ≡ some us
        → ValidToken t × ((vs : List Token) × (tokens_behind 0 (w ++ r) ≡ some vs))
    by [] g c h e = absurd g
    by (b ∷ w) g true h e = k.behind (blank_byte ∷ ((b ∷ w) ++ r)) us (blank_stops t ((b ∷ w) ++ r)) e
    by (b ∷ w) g false h e = k.behind ((b ∷ w) ++ r) us (at b (w ++ r) h) e

all_valid : (ts us : List Token) → Every SpelledToken ts → tokens_behind 0 (render ts) ≡ some us → Every ValidToken ts
unfolding render Every
all_valid [] us v e = tt
all_valid (t ∷ []) us v e = (((needed t v.0).behind [] us nothing (rw (append-nil (write t)) e)).0, tt)
all_valid (t ∷ u ∷ []) us v e =
    let x = pair_behind t u (needed t v.0) (needed u v.1.0) [] us (rw (append-nil (write u)) e) in
    (x.0, all_valid (u ∷ []) x.1.0 v.1 (rw (append-nil (write u)) at x.1.1))
all_valid (t ∷ u ∷ y ∷ ts) us v e =
    let x = pair_behind t u (needed t v.0) (needed u v.1.0) (between u y ++ render (y ∷ ts)) us e in
    (x.0, all_valid (u ∷ y ∷ ts) x.1.0 v.1 x.1.1)

-- Spelled tokens whose bytes are tokens are valid,
pub spelled_valid : (ts us : List Token) → Every SpelledToken ts → tokens (render ts) ≡ some us → Every ValidToken ts
unfolding tokens
spelled_valid ts us v e = all_valid ts us v e

-- AND SO THEY ARE READ BACK.
pub spelled_tokens : (ts us : List Token) → Every SpelledToken ts → tokens (render ts) ≡ some us → us ≡ ts
spelled_tokens ts us v e = some-injective us ts (sym e ∙ tokens_render ts (spelled_valid ts us v e))

-- a name that is not too long; what is no name is not
unfoldable pub ShortName : Token → Type 0
ShortName (name n) = length n ≤ max_name
ShortName (numeral v) = Unit {0}
ShortName (sign w) = Unit {0}

-- A spelled token is valid exactly if it is not too long.
pub short_valid : (t : Token) → SpelledToken t → ShortName t → ValidToken t
unfolding SpelledToken ValidToken SpelledName ValidName ShortName
short_valid (name n) v h = (((v.0.0, h), v.0.1), v.1)
short_valid (numeral k) v h = v
short_valid (sign w) v h = v

pub valid_short : (t : Token) → ValidToken t → ShortName t
unfolding ValidToken ValidName ShortName
valid_short (name n) v = v.0.0.1
valid_short (numeral k) v = tt
valid_short (sign w) v = tt
