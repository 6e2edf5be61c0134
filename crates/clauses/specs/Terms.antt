-- What the writers of pieces say: how far the stream was read, and what was written.
use Rattle.std.specs.Prelude.{◌≡◌, List, ℕ, ◌≤◌, max, length, drop}
use Rattle.texts.specs.Wrote.{Wrote}
use Rattle.clauses.specs.declared.data.TextPut.{TextPut}

-- whatever stands in the stream: the text ends in the lent bytes, and what is read ends in the stream or where it began
pub record Within (s out : List ℕ) (from : ℕ) (r : TextPut) (out' : List ℕ) : Type 0 where
  pub fits : r.at ≤ length out
  pub same : length out' ≡ length out
  pub inside : r.from ≤ max from (length s)

-- the piece is written, and the stream is read up to the rest
pub record Puts (s out : List ℕ) (at : ℕ) (piece rest : List ℕ) (r : TextPut) (out' : List ℕ) : Type 0 where
  pub wrote : Wrote out at piece out' r.at
  pub left : drop r.from s ≡ rest
