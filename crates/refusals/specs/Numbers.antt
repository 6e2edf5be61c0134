-- The number of a question, and that of an answer.
use Rattle.std.specs.Prelude.{ℕ, Result, Ok, Err}
use Rattle.refusals.specs.declared.Refusal.{Refusal}
use Rattle.refusals.specs.declared.Refusal.TheVariants.{TooLong, NotText, NoToken, TooOpen, NoSheet, TooMany, NoName, NotSorted, NotGuarded, NotWithin, NoRoom, NoFile, WrongBlock, NoTable, WrongStack, TooDeep, NoText}

abbrev pub number_of : Refusal → ℕ
number_of TooLong = 1
number_of NotText = 2
number_of NoToken = 3
number_of TooOpen = 4
number_of NoSheet = 5
number_of TooMany = 6
number_of NoName = 7
number_of NotSorted = 8
number_of NotGuarded = 9
number_of NotWithin = 10
number_of NoRoom = 11
number_of NoFile = 12
number_of WrongBlock = 13
number_of NoTable = 14
number_of WrongStack = 15
number_of TooDeep = 16
number_of NoText = 17

-- the number of the question that refused, or 0
abbrev pub number_in : {A : Type 0} → Result A Refusal → ℕ
number_in (Ok a) = 0
number_in (Err r) = number_of r
