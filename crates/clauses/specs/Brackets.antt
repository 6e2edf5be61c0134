-- What is still to be written behind the operands of a term, and what is written at each of its bytes.
use Rattle.std.specs.Prelude.{◌≡◌, List, [], ◌∷◌, ◌++◌, Bool, true, false, ℕ, zero, suc, ◌+◌, ◌*◌, ◌-◌, eqb, leb, ltb, get_or, replicate}
use Rattle.pcrl.specs.Text.{bytes, byte, decimal}
use Rattle.pcrl.specs.Stream.{variable_code, function_code}
use Rattle.rendering.specs.Texts.{any_data, a_conjunction, a_negation}
use Rattle.evaluation.specs.Run.{pick}
use Rattle.texts.specs.Wrote.{Wrote}

-- what stands between two operands
pub data Mark : Type 0 where
  comma or and equal : Mark

unfoldable pub mark_text : Mark → List ℕ
mark_text Mark.comma = bytes ","
mark_text Mark.or = bytes "\\/"
mark_text Mark.and = bytes "/\\"
mark_text Mark.equal = bytes "=="

-- the place of the operand before it
unfoldable pub first_place : Mark → ℕ
first_place Mark.comma = any_data
first_place Mark.or = any_data
first_place Mark.and = a_conjunction
first_place Mark.equal = a_negation

-- its number: the place of the operand behind it, and one more than its operator's form
unfoldable pub number : Mark → ℕ
number Mark.comma = 0
number Mark.or = 1
number Mark.and = 2
number Mark.equal = 3

unfoldable pub mark_of : ℕ → Mark
mark_of zero = Mark.comma
mark_of (suc zero) = Mark.or
mark_of (suc (suc zero)) = Mark.and
mark_of (suc (suc (suc n))) = Mark.equal

-- does an operator stand in brackets at a place? Its form is looser. (Arguments always do.)
unfoldable pub enclosed : Mark → ℕ → Bool
enclosed m place = leb (number m) place

-- What is to be written behind an operand: a closing bracket; or a mark, and behind the operand that follows it a bracket or nothing.
pub data Item : Type 0 where
  close : Item
  mark : Mark → Bool → Item

-- the innermost first
abbrev pub Open : Type 0
Open = List Item

unfoldable pub bit : Bool → ℕ
bit true = 1
bit false = 0

-- as the bits of a number, behind a first 1: one bit for a bracket, four for a mark
unfoldable pub code : Open → ℕ
code [] = 1
code (close ∷ bs) = 2 * code bs
code (mark m b ∷ bs) = 16 * code bs + (8 * bit b + (2 * number m + 1))

-- behind an operand: brackets are closed up to a mark
unfoldable pub closing : Open → List ℕ
closing [] = []
closing (close ∷ bs) = bytes ")" ++ closing bs
closing (mark m b ∷ bs) = mark_text m

unfoldable pub ended : Bool → Open → Open
ended true bs = close ∷ bs
ended false bs = bs

-- what is to be written behind the operand that follows
unfoldable pub reopened : Open → Open
reopened [] = []
reopened (close ∷ bs) = reopened bs
reopened (mark m b ∷ bs) = ended b bs

-- no operand follows
abbrev pub no_place : ℕ
no_place = 4

-- the place of the operand that follows
unfoldable pub next_place : Open → ℕ
next_place [] = no_place
next_place (close ∷ bs) = next_place bs
next_place (mark m b ∷ bs) = number m

-- more than the items of any term of a table make
abbrev pub limit : ℕ
limit = 0x1000000000000000

-- WHAT A BYTE SAYS

-- a node by its first byte
pub data Sign : Type 0 where
  value variable function : ℕ → Sign
  not : Sign
  joint : Mark → Sign

abbrev pub operator_code : ℕ
operator_code = 0x60

-- by the number behind that of `==`
unfoldable pub operator_mark : ℕ → Mark
operator_mark zero = Mark.equal
operator_mark (suc zero) = Mark.and
operator_mark (suc (suc n)) = Mark.or

-- by the number behind that of `!`
unfoldable pub operator_sign : ℕ → Sign
operator_sign zero = not
operator_sign (suc n) = joint (operator_mark n)

unfoldable pub sign : ℕ → Sign
sign b =
    pick (ltb b variable_code) (value b)
    (pick (ltb b function_code) (variable (b - variable_code))
    (pick (ltb b operator_code) (function (b - function_code)) (operator_sign (b - operator_code))))

unfoldable pub open_bracket : Bool → List ℕ
open_bracket true = bytes "("
open_bracket false = []

-- before the operands of a node at a place, where the letters of functions and of variables are repeated so many times
unfoldable pub node_text : ℕ → ℕ → ℕ → Sign → List ℕ
node_text m n place (value v) = decimal v
node_text m n place (variable i) = replicate n (byte "v") ++ decimal i
node_text m n place (function f) = (replicate m (byte "f") ++ decimal f) ++ bytes "("
node_text m n place not = bytes "!"
node_text m n place (joint k) = open_bracket (enclosed k place)

-- what is written behind a value or a variable
unfoldable pub tail_text : Sign → Open → List ℕ
tail_text (value v) bs = closing bs
tail_text (variable i) bs = closing bs
tail_text (function f) bs = []
tail_text not bs = []
tail_text (joint k) bs = []

-- an item more
unfoldable pub more : Item → Open → Open
more x bs = pick (ltb (code bs) limit) (x ∷ bs) bs

-- the bracket of a function, whose arity stands at p
unfoldable pub deeper : List ℕ → ℕ → Open → Open
deeper s p bs = more (pick (eqb (get_or s p 0) 1) close (mark Mark.comma true)) bs

-- what is to be written behind the next operand
unfoldable pub turned : List ℕ → List ℕ → ℕ → Sign → Open → Open
turned s funcs place (value v) bs = reopened bs
turned s funcs place (variable i) bs = reopened bs
turned s funcs place (function f) bs = deeper s (get_or funcs f 0) bs
turned s funcs place not bs = bs
turned s funcs place (joint k) bs = more (mark k (enclosed k place)) bs

-- the place of the next operand
unfoldable pub following : Sign → Open → ℕ
following (value v) bs = next_place bs
following (variable i) bs = next_place bs
following (function f) bs = any_data
following not bs = a_negation
following (joint k) bs = first_place k

-- bytes of the node behind the first: the sort of `==`
unfoldable pub passed : Sign → ℕ
passed (value v) = 0
passed (variable i) = 0
passed (function f) = 0
passed not = 0
passed (joint Mark.comma) = 0
passed (joint Mark.or) = 0
passed (joint Mark.and) = 0
passed (joint Mark.equal) = 1

-- before the term number i of several
unfoldable pub lead : ℕ → ℕ
lead zero = byte "("
lead (suc i) = byte ","

-- WHAT IS WRITTEN

-- behind an operand, with what is to be written behind the next one, and its place
pub record Closes (out : List ℕ) (at : ℕ) (bs : Open) (last : List ℕ) (z o place : ℕ) : Type 0 where
  pub wrote : Wrote out at (closing bs) last z
  pub opens_are : o ≡ code (reopened bs)
  pub place_is : place ≡ next_place bs

-- the same behind the byte b, which stands at a place
pub record Turns (s funcs : List ℕ) (b before : ℕ) (out : List ℕ) (at : ℕ) (bs : Open) (last : List ℕ) (z o place : ℕ) : Type 0 where
  pub wrote : Wrote out at (tail_text (sign b) bs) last z
  pub opens_are : o ≡ code (turned s funcs before (sign b) bs)
  pub place_is : place ≡ following (sign b) bs
