-- "Tokens are taken by longest match." Questions 3 and 4.
use Rattle.std.specs.Prelude.{◌≡◌, List, [], ◌∷◌, map, Bool, true, false, ℕ, zero, suc, pred, ◌+◌, ◌*◌, ◌-◌, ◌≤◌, max, eqb, leb, ltb, length, take, get_or}
use Rattle.std.proofs.Common.{ap, arith}
use Rattle.std.proofs.Math.Option.{Option, none, some}
use Prim.Native.String.{String}
use Rattle.std.proofs.Math.Decide.{dec_le}
use Rattle.pcrl.specs.Text.{bytes, byte}
use Rattle.pcrl.specs.Limits.{max_name, max_numeral, max_open}
use Rattle.pcrl.specs.Tests.{or, and, same?, among}
use Rattle.pcrl.specs.Bytes.{separator, letter, digit, name_byte}

-- A name is its bytes, a numeral its value; a sign is a word or a mark and stands for itself.
pub data Token : Type 0 where
  name : List ℕ → Token
  numeral : ℕ → Token
  sign : List ℕ → Token

-- the sign that is written so
abbrev pub the : String → Token
the s = sign (bytes s)

-- "The words sort, func, act, proc, init, sum, delta and tau are never names."
unfoldable pub words : List (List ℕ)
words = map bytes ("sort" ∷ "func" ∷ "act" ∷ "proc" ∷ "init" ∷ "sum" ∷ "delta" ∷ "tau" ∷ [])

-- "`( ) , ; : # = + . -> <| |>`", and by #102 "`!`, `==`, `/\` and `\/`"; the longer ones first
unfoldable pub punctuation : List (List ℕ)
punctuation = map bytes ("->" ∷ "<|" ∷ "|>" ∷ "==" ∷ "/\\" ∷ "\\/" ∷ "(" ∷ ")" ∷ "," ∷ ";" ∷ ":" ∷ "#" ∷ "=" ∷ "+" ∷ "." ∷ "!" ∷ [])

-- how many bytes at the front pass a test, one after another
unfoldable pub run : (ℕ → Bool) → List ℕ → ℕ
run test [] = 0
run test (b ∷ s) = elim (test b) [ true ↦ suc (run test s) | false ↦ 0 ]

-- the bytes at the front that pass it
abbrev pub front : (ℕ → Bool) → List ℕ → List ℕ
front test s = take (run test s) s

-- a token, and how many bytes it takes
abbrev pub Lexeme : Type 0
Lexeme = Token × ℕ

-- "names (a letter, then letters, digits or underscores, the whole run at most 16 characters)"
unfoldable pub name_of : List ℕ → Option Lexeme
name_of w = elim (leb (length w) max_name) [ true ↦ some (elim (among w words) [ true ↦ sign w | false ↦ name w ], length w) | false ↦ none ]

-- the number that digits spell behind those that spell n
unfoldable pub value_of : ℕ → List ℕ → ℕ
value_of n [] = n
value_of n (d ∷ w) = value_of (n * 10 + (d - byte "0")) w

-- "numerals (a whole run of digits, no leading zero except 0 itself, at most 255)"
unfoldable pub numeral_of : List ℕ → Option Lexeme
numeral_of w =
    elim (and (or (eqb (length w) 1) (ltb (byte "0") (get_or w 0 0))) (leb (value_of 0 w) max_numeral)) [ true ↦ some (numeral (value_of 0 w), length w) | false ↦ none ]

-- the first of some marks that the bytes begin with
unfoldable pub mark_of : List (List ℕ) → List ℕ → Option Lexeme
mark_of [] s = none
mark_of (m ∷ ms) s = elim (same? m (take (length m) s)) [ yes e ↦ some (sign m, length m) | no h ↦ mark_of ms s ]

-- the token that the bytes b, s begin with
unfoldable pub first_token : ℕ → List ℕ → Option Lexeme
first_token b s =
    elim (letter b) [
      | true ↦ name_of (front name_byte (b ∷ s))
      | false ↦ elim (digit b) [ true ↦ numeral_of (front digit (b ∷ s)) | false ↦ mark_of punctuation (b ∷ s) ]
    ]

-- a token before those that stand behind it, if all are tokens
unfoldable pub before : Token → Option (List Token) → Option (List Token)
before t none = none
before t (some ts) = some (t ∷ ts)

unfoldable pub followed : Option Lexeme → (ℕ → Option (List Token)) → Option (List Token)
followed none behind = none
followed (some l) behind = before l.0 (behind l.1)

-- the tokens behind the first k bytes
unfoldable pub tokens_behind : ℕ → List ℕ → Option (List Token)
tokens_behind k [] = some []
tokens_behind (suc k) (b ∷ s) = tokens_behind k s
tokens_behind zero (b ∷ s) = elim (separator b) [ true ↦ tokens_behind zero s | false ↦ followed (first_token b s) (λ n. tokens_behind (pred n) s) ]

-- 3: "All tokens?"
unfoldable pub tokens : List ℕ → Option (List Token)
tokens s = tokens_behind 0 s

-- Is the token this sign?
unfoldable pub is? : (s : String) (t : Token) → Dec (t ≡ the s)
is? s (name w) = no (λ e. let z : ◌≡◌ {A = ℕ} 0 1 = cc in omega arith)
is? s (numeral n) = no (λ e. let z : ◌≡◌ {A = ℕ} 0 1 = cc in omega arith)
is? s (sign w) = elim (same? w (bytes s)) [ yes e ↦ yes (ap sign e) | no h ↦ no (λ e. h (cc)) ]

-- how many round brackets are open behind a token, "a closing one with none open not counted"
unfoldable pub open_behind : Token → ℕ → ℕ
open_behind t n = elim (is? "(" t) [ yes e ↦ suc n | no h ↦ elim (is? ")" t) [ yes e ↦ pred n | no k ↦ n ] ]

-- the most that are ever open, where n are
unfoldable pub most_open : ℕ → List Token → ℕ
most_open n [] = n
most_open n (t ∷ ts) = max n (most_open (open_behind t n) ts)

-- 4: "Never more than 16 round brackets open?"
unfoldable pub Shallow : List Token → Type 0
Shallow ts = most_open 0 ts ≤ max_open

unfoldable pub shallow? : (ts : List Token) → Dec (Shallow ts)
unfolding Shallow
shallow? ts = dec_le (most_open 0 ts) max_open
