-- Every token of a text is valid by the token rule.
use Rattle.std.specs.Prelude.{◌≡◌, refl, List, [], ◌∷◌, Bool, true, false, ℕ, zero, suc, pred}
use Rattle.std.proofs.Common.{subst, arith}
use Rattle.std.proofs.Math.Option.{Option, none, some}
use Rattle.pcrl.specs.Tests.{Every}
use Rattle.pcrl.specs.Bytes.{separator, letter, digit, name_byte}
use Rattle.pcrl.specs.Tokens.{Token, punctuation, front, Lexeme, name_of, numeral_of, mark_of, first_token, before, followed, tokens_behind, tokens}
use Rattle.grammar.specs.TokenLaws.{ValidToken, Given, nothing, just, of_given, ValidLexeme, front_every, front_cons, name_valid, numeral_valid, mark_valid}

pub first_valid : (b : ℕ) (s : List ℕ) → Given ValidLexeme (first_token b s)
unfolding first_token
first_valid b s = by (letter b) refl (digit b)
  where
    named : letter b ≡ true → Given ValidLexeme (name_of (front name_byte (b ∷ s)))
    named e =
        let f : front name_byte (b ∷ s) ≡ b ∷ front name_byte s = front_cons name_byte b s (rw e refl) in
        name_valid (front name_byte (b ∷ s)) (rw f (omega arith)) (front_every name_byte (b ∷ s)) (rw f (rw e tt))

    by : (t : Bool) → letter b ≡ t → (u : Bool) → Given ValidLexeme (elim t [ true ↦ name_of (front name_byte (b ∷ s)) | false ↦ elim u [ true ↦ numeral_of (front digit (b ∷ s)) | false ↦ mark_of punctuation (b ∷ s) ] ])
    by true e u = named e
    by false e true = numeral_valid (front digit (b ∷ s))
    by false e false = mark_valid (b ∷ s)

pub followed_valid : (o : Option Lexeme) (behind : ℕ → Option (List Token)) → Given ValidLexeme o → ((n : ℕ) → Given (Every ValidToken) (behind n)) → Given (Every ValidToken) (followed o behind)
unfolding followed before Every
followed_valid none behind h k = nothing
followed_valid (some l) behind (just h) k = by (behind l.1) (k l.1)
  where
    by : (o : Option (List Token)) → Given (Every ValidToken) o → Given (Every ValidToken) (before l.0 o)
    by none g = nothing
    by (some ts) (just g) = just {a = l.0 ∷ ts} (h, g)

pub behind_valid : (k : ℕ) (s : List ℕ) → Given (Every ValidToken) (tokens_behind k s)
unfolding tokens_behind Every
behind_valid k [] = just tt
behind_valid (suc k) (b ∷ s) = behind_valid k s
behind_valid zero (b ∷ s) = by (separator b) (λ k. behind_valid k s)
  where
    by : (t : Bool) → ((k : ℕ) → Given (Every ValidToken) (tokens_behind k s)) → Given (Every ValidToken) (elim t [ true ↦ tokens_behind zero s | false ↦ followed (first_token b s) (λ n. tokens_behind (pred n) s) ])
    by true h = h zero
    by false h = followed_valid (first_token b s) (λ n. tokens_behind (pred n) s) (first_valid b s) (λ n. h (pred n))

-- ALL TOKENS OF A TEXT ARE VALID.
pub tokens_valid : (s : List ℕ) (ts : List Token) → tokens s ≡ some ts → Every ValidToken ts
unfolding tokens
tokens_valid s ts e = of_given (subst (Given (Every ValidToken)) e (behind_valid 0 s))
