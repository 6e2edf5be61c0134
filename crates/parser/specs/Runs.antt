-- What the reader of many lines of a kind answers: beside the cells, how many lines there are and where the first ones stand.
use Rattle.std.specs.Prelude as R
use Rattle.std.specs.Prelude.{◌≡◌, List, ℕ, ◌+◌, ◌≤◌, ◌<◌, length, take, get_or}
use Rattle.pcrl.specs.Tokens.{Token}
use Rattle.pcrl.specs.Reader.{Got, missing, found, all}
use Rattle.parser.specs.Cells.{Symbol}
use Rattle.parser.specs.Reading.{rest, Few, Writes}
use Rattle.parser.specs.declared.Run.{Run}

-- From the n-th on, as far as there are places, they say where each of the lines begins, the first at w.
pub record Placed {A : Type 0} (enc : A → List Symbol) (ls : List A) (w n : ℕ) (p p' : List ℕ) : Type 0 where
  pub kept : (j : ℕ) → j < n → get_or p' j 0 ≡ get_or p j 0
  pub new : (i : ℕ) → i < length ls → n + i < length p → get_or p' (n + i) 0 ≡ w + length (all enc (take i ls))

-- There is an answer exactly where the definition's reader finds lines. n lines were counted before; p and p' are the places before and
-- after. A place is a cell, so it is below 65,536.
pub data Ran (s toks : List ℕ) {A : Type 0} (enc : A → List Symbol) (w : ℕ) (o : List ℕ) (n : ℕ) (p : List ℕ) : R.Option Run → List ℕ → List ℕ → Got Token (List A) → Type 0 where
  no_lines : {o' p' : List ℕ} → Ran s toks enc w o n p R.None o' p' missing
  some_lines : {r : Run} {o' p' : List ℕ} {ls : List A} → r.at ≤ length toks → Writes s toks (all enc ls) w o r.w o' → r.count ≡ n + length ls
      → (Few toks → w + length (all enc ls) ≤ length o → length o < 65536 → Placed enc ls w n p p')
      → Ran s toks enc w o n p (R.Some r) o' p' (found ls (rest s toks r.at))
