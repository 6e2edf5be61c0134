-- What the printer answers, said by the result of the questions.
use Rattle.std.specs.Prelude.{◌≡◌, List, ℕ, T, length, Result}
use Rattle.pcrl.specs.Result as R
use Rattle.pcrl.specs.Result.{accepted}
use Rattle.pcrl.specs.Tokens.{Token}
use Rattle.pcrl.specs.Answers.{tokens_read}
use Rattle.printing.specs.Watched.{apart}
use Rattle.refusals.specs.declared.Refusal.{Refusal}
use Rattle.refusals.specs.Answered.{Answered}

-- one byte more than a sheet has
abbrev pub text_room : ℕ
text_room = 4097

-- questions 1 to 4 pass, and among the tokens there is no `==` over two values
abbrev pub TokensApart : List ℕ → Type 0
TokensApart s = (ts : List Token) × ((tokens_read s ≡ accepted ts) × T (apart ts))

-- "A refusal returns its number alone"; else the number of bytes that were written
abbrev pub Prints : R.Result (List ℕ) → Result ℕ Refusal → Type 0
Prints x r = Answered (λ text n. n ≡ length text) x r
