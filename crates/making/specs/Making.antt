-- What the maker of tables answers, said by the result of document 01's questions 1 to 11.
use Rattle.std.specs.Prelude.{◌≡◌, List, ℕ, ◌<◌, length, ⊤, Option, Result, Ok, Err, MatchOption, MatchResult}
use Rattle.pcrl.specs.Result as R
use Rattle.pcrl.specs.Limits.{max_stream}
use Rattle.pcrl.specs.Answers.{output_after}
use Rattle.refusals.specs.declared.Refusal.{Refusal}
use Rattle.refusals.specs.Answered.{Answered}

-- "A refusal returns its number alone"; else the number of bytes that were written
abbrev pub Makes : R.Result (List ℕ) → Result ℕ Refusal → Type 0
Makes x r = Answered (λ (file : List ℕ) (n : ℕ). n ≡ length file) x r

-- the same of questions 1 to 10: a sheet that passes them all, and else the first that fails
abbrev pub Checks : {A : Type 0} → R.Result A → Result (Unit {0}) Refusal → Type 0
Checks {A} x r = Answered (λ (a : A) (u : Unit {0}). ⊤) x r

-- made, over a stream of `size` bytes; or this was too short, and nothing is changed
abbrev pub Tries : R.Result (List ℕ) → (size : ℕ) → (o : List ℕ) → Result (Option ℕ) Refusal → (o' : List ℕ) → Type 0
Tries x size o r o' =
    MatchResult r (λ m. MatchOption m ((o' ≡ o) × (size < max_stream)) (λ n. Makes x (Ok n) × (o' ≡ output_after x o)))
    (λ e. Makes x (Err e) × (o' ≡ output_after x o))
