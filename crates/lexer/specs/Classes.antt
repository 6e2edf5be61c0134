-- Classes of bytes, and what the functions of this crate decide. The bytes of a name have classes one after another, 2 to 4.
use Rattle.std.specs.Prelude.{List, [], ◌∷◌, Bool, true, false, ℕ, suc, eqb, leb, Option, None, Some}
use Rattle.pcrl.specs.Text.{byte}
use Rattle.pcrl.specs.Limits.{max_numeral}
use Rattle.pcrl.specs.Tests.{or, within, same?}
use Rattle.pcrl.specs.Bytes.{separator, letter, digit}

-- Is the byte one of these?
abbrev pub one_of : List ℕ → ℕ → Bool
one_of [] b = false
one_of (k ∷ ks) b = or (eqb b k) (one_of ks b)

-- a mark by itself, and the first byte of no longer one
abbrev pub alone_bytes : List ℕ
alone_bytes = byte "(" ∷ byte ")" ∷ byte "," ∷ byte ";" ∷ byte ":" ∷ byte "#" ∷ byte "+" ∷ byte "." ∷ byte "!" ∷ []

abbrev pub alone : ℕ → Bool
alone = one_of alone_bytes

-- the first byte of a mark of two; `=` is a mark by itself too
abbrev pub lead_bytes : List ℕ
lead_bytes = byte "-" ∷ byte "<" ∷ byte "|" ∷ byte "=" ∷ byte "/" ∷ byte "\\" ∷ []

abbrev pub leads : ℕ → Bool
leads = one_of lead_bytes

-- the class by the first test that passes: 1 separator, 2 digit, 3 letter, 4 underscore, 5 a mark, 6 the first byte of a mark of two, 0 none of these
abbrev pub class_by : Bool → Bool → Bool → Bool → Bool → Bool → ℕ
class_by true d l u a p = 1
class_by false true l u a p = 2
class_by false false true u a p = 3
class_by false false false true a p = 4
class_by false false false false true p = 5
class_by false false false false false true = 6
class_by false false false false false false = 0

unfoldable pub class_of : ℕ → ℕ
class_of b = class_by (separator b) (digit b) (letter b) (eqb b (byte "_")) (alone b) (leads b)

-- Is the byte's class lo to hi?
abbrev pub in_classes : ℕ → ℕ → ℕ → Bool
in_classes lo hi b = within lo hi (class_of b)

-- the cell of the first of some signs that is w, where theirs count from c, if it is one of them
unfoldable pub sign_cell : ℕ → List (List ℕ) → List ℕ → Option ℕ
sign_cell c [] w = None
sign_cell c (v ∷ vs) w = elim (same? w v) [ yes e ↦ Some c | no h ↦ sign_cell (suc c) vs w ]

-- a value that a numeral may have
unfoldable pub capped : ℕ → Option ℕ
capped v = elim (leb v max_numeral) [ true ↦ Some v | false ↦ None ]
