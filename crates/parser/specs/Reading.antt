-- What a reader of tokens' cells answers, against the definition's reader of tokens: the place behind what it read,
-- if the form is right; and the cells that it wrote, if there was room.
use Rattle.std.specs.Prelude as R
use Rattle.std.specs.Prelude.{◌≡◌, List, ◌++◌, map, ℕ, ◌+◌, ◌-◌, ◌≤◌, ◌<◌, length, take, drop, get_or, set}
use Rattle.pcrl.specs.Tokens.{Token}
use Rattle.pcrl.specs.Reader.{Got, missing, found, Reader}
use Rattle.lexer.specs.Cells.{cell_token}
use Rattle.parser.specs.Cells.{Symbol, first_ors, symbol_of}
use Rattle.parser.specs.declared.Step.{Step}

-- the tokens from a place on
unfoldable pub rest : List ℕ → List ℕ → ℕ → List Token
rest s toks at = map (cell_token s) (drop at toks)

-- The next place is a later one, and no later than the end of n tokens.
abbrev pub Ahead : ℕ → ℕ → ℕ → Type 0
Ahead n at next = (at < next) × (next ≤ n)

-- It is no earlier one, and past the end only where `at` is.
abbrev pub Onward : ℕ → ℕ → ℕ → Type 0
Onward n at next = (at ≤ next) × (at ≤ n → next ≤ n)

-- A cell was written at w, if there is one; w' is the next free one.
pub record Put (o : List ℕ) (w v w' : ℕ) (o' : List ℕ) : Type 0 where
  pub next : w < length o → w' ≡ w + 1
  pub cells : o' ≡ set o w v

-- So few tokens, with cells so low, that in the tree's cells a name and a count of operands are told apart.
pub record Few (toks : List ℕ) : Type 0 where
  pub short : length toks ≤ first_ors
  pub low : (i : ℕ) → get_or toks i 0 < first_ors

-- Behind those before w the cells of e were written, up to w'.
pub record Written (s : List ℕ) (e : List Symbol) (w : ℕ) (o : List ℕ) (w' : ℕ) (o' : List ℕ) : Type 0 where
  pub next : w' ≡ w + length e
  pub same : length o' ≡ length o
  pub cells : map (symbol_of s) (take w' o') ≡ map (symbol_of s) (take w o) ++ e

-- They were, if there was room and the tokens are few.
pub record Writes (s toks : List ℕ) (e : List Symbol) (w : ℕ) (o : List ℕ) (w' : ℕ) (o' : List ℕ) : Type 0 where
  pub with_room : Few toks → w + length e ≤ length o → Written s e w o w' o'

-- The sign stands next, and the answer is the place behind it; or it does not, and there is none.
pub data Expected (toks : List ℕ) (at sign : ℕ) : R.Option ℕ → Type 0 where
  stands : get_or toks at 0 ≡ sign → Expected toks at sign (R.Some (at + 1))
  other : (get_or toks at 0 ≡ sign → ⊥) → Expected toks at sign R.None

-- A closing bracket (its cell is 41) stands behind what was read, and the answer is behind it; or it does not, and there is none.
pub data Closed (toks : List ℕ) (a : Step) : R.Option Step → Type 0 where
  closing : get_or toks a.at 0 ≡ 41 → Closed toks a (R.Some (record { at = a.at + 1; w = a.w }))
  unclosed : (get_or toks a.at 0 ≡ 41 → ⊥) → Closed toks a R.None

-- There is an answer exactly where the definition's reader finds a value: it is written, and the place stands behind it.
pub data Reads (s toks : List ℕ) {A : Type 0} (enc : A → List Symbol) (w : ℕ) (o : List ℕ) : R.Option Step → List ℕ → Got Token A → Type 0 where
  none : {o' : List ℕ} → Reads s toks enc w o R.None o' missing
  one : {r : Step} {o' : List ℕ} {a : A} → r.at ≤ length toks → Writes s toks (enc a) w o r.w o' → Reads s toks enc w o (R.Some r) o' (found a (rest s toks r.at))

-- The code reads as the definition's reader does at every bound above `least`.
abbrev pub Read : {A : Type 0} → (least : ℕ) → (A → List Symbol) → (ℕ → Reader Token A) → (toks : List ℕ) (at w : ℕ) (o : List ℕ) → R.Option Step → List ℕ → Type 0
Read least enc reader toks at w o r o' = (s : List ℕ) (f : ℕ) → least < f → Reads s toks enc w o r o' (reader f (rest s toks at))

-- how many tokens stand from a place on
abbrev pub left : List ℕ → ℕ → ℕ
left toks at = length toks - at
