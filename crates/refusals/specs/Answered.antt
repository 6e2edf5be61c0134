-- What a function returns, beside the answer of its definition: both refuse, by one number, or P holds of what both accept.
use Rattle.std.specs.Prelude.{◌≡◌, ℕ, Result, Ok, Err}
use Rattle.pcrl.specs.Result as R
use Rattle.refusals.specs.declared.Refusal.{Refusal}
use Rattle.refusals.specs.Numbers.{number_of}

unfoldable pub Answered : {A B : Type 0} → (A → B → Type 0) → R.Result A → Result B Refusal → Type 0
Answered P (R.refused n) (Err r) = number_of r ≡ n
Answered P (R.accepted a) (Ok b) = P a b
Answered P (R.refused n) (Ok b) = ⊥
Answered P (R.accepted a) (Err r) = ⊥
