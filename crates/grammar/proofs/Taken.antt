-- A valid token is taken whole from its bytes, where nothing stands behind them or a byte that does not go on with it.
use Rattle.std.specs.Prelude.{◌≡◌, refl, List, [], ◌∷◌, ◌++◌, Bool, true, false, ℕ, T}
use Rattle.std.proofs.Common.{ap, ◌∙◌, arith}
use Rattle.pcrl.specs.Tests.{or, among}
use Rattle.pcrl.specs.Bytes.{letter, name_byte}
use Rattle.pcrl.specs.Tokens.{Token, name, numeral, sign, words, punctuation, name_of}
use Rattle.pcrl.specs.Render.{write, goes_on}
use Rattle.laws.specs.Tests.{is_true}
use Rattle.grammar.specs.TokenLaws.{ValidName, ValidToken}
use Rattle.grammar.specs.Taken.{lexeme, begins, Taken, front_append, no_separator, first_name, name_of_valid, among_every, words_taken, marks_taken, numeral_taken}

-- "names"
pub name_taken : (n : List ℕ) → ValidName n → Taken (name n)
unfolding ValidName write begins lexeme goes_on
name_taken [] v = absurd (omega arith)
name_taken (b ∷ w) v = record {
  here = no_separator letter refl refl b v.1.0;
  whole = λ r k. first_name b (w ++ r) (is_true (letter b) v.1.0) ∙ (ap name_of (front_append name_byte (b ∷ w) r v.0.1 k) ∙ name_of_valid (b ∷ w) v);
}

pub token_taken : (t : Token) → ValidToken t → Taken t
unfolding ValidToken
token_taken (name n) v = name_taken n v
token_taken (numeral v) h = numeral_taken v h
token_taken (sign w) v = by (among w words) refl (among w punctuation) refl v
  where
    by : (a : Bool) → among w words ≡ a → (b : Bool) → among w punctuation ≡ b → T (or a b) → Taken (sign w)
    by true e b f t = among_every (λ w. Taken (sign w)) words words_taken w (rw e tt)
    by false e true f t = among_every (λ w. Taken (sign w)) punctuation marks_taken w (rw f tt)
    by false e false f t = absurd t
