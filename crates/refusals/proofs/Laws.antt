-- Laws of answers.
use Rattle.std.specs.Prelude.{◌≡◌, ℕ, ◌≤◌, Result, Ok, Err}
use Rattle.std.proofs.Common.{refl, arith}
use Rattle.pcrl.specs.Result as R
use Rattle.pcrl.specs.Result.{refusal}
use Rattle.refusals.specs.declared.Refusal.{Refusal}
use Rattle.refusals.specs.declared.Refusal.TheVariants.{TooLong, NotText, NoToken, TooOpen, NoSheet, TooMany, NoName, NotSorted, NotGuarded, NotWithin, NoRoom, NoFile, WrongBlock, NoTable, WrongStack, TooDeep, NoText}
use Rattle.refusals.specs.Numbers.{number_of, number_in}
use Rattle.refusals.specs.Answered.{Answered}

-- no question has the number 0
pub number_least : (r : Refusal) → 1 ≤ number_of r
number_least TooLong = omega arith
number_least NotText = omega arith
number_least NoToken = omega arith
number_least TooOpen = omega arith
number_least NoSheet = omega arith
number_least TooMany = omega arith
number_least NoName = omega arith
number_least NotSorted = omega arith
number_least NotGuarded = omega arith
number_least NotWithin = omega arith
number_least NoRoom = omega arith
number_least NoFile = omega arith
number_least WrongBlock = omega arith
number_least NoTable = omega arith
number_least WrongStack = omega arith
number_least TooDeep = omega arith
number_least NoText = omega arith

-- the number of the answer is that of the definition's
pub answered_number : {A B : Type 0} (P : A → B → Type 0) (a : R.Result A) (r : Result B Refusal) → Answered P a r → number_in r ≡ refusal a
unfolding Answered refusal
answered_number P (R.refused n) (Err r) h = h
answered_number P (R.refused n) (Ok b) h = absurd h
answered_number P (R.accepted a) (Ok b) h = refl
answered_number P (R.accepted a) (Err r) h = absurd h
