-- What the writer and the reader of blocks answer, said by the results of document 01's questions.
use Rattle.std.specs.Prelude.{◌≡◌, List, ◌++◌, Bool, true, false, ℕ, length, take, drop, Result}
use Rattle.pcrl.specs.Result as R
use Rattle.pcrl.specs.Blocks.{RightBlocks, stream_of}
use Rattle.refusals.specs.declared.Refusal.{Refusal}
use Rattle.refusals.specs.Answered.{Answered}

-- "A refusal returns its number alone"; else the number of bytes that were written
abbrev pub Filed : R.Result (List ℕ) → Result ℕ Refusal → Type 0
Filed a r = Answered (λ (file : List ℕ) (n : ℕ). n ≡ length file) a r

-- the number of the question that failed; or the length of the stream, which stands at the front of the lent bytes
abbrev pub Opens : R.Result (List ℕ) → Result ℕ Refusal → List ℕ → Type 0
Opens a r out = Answered (λ (s : List ℕ) (n : ℕ). (n ≡ length s) × (take n out ≡ s)) a r

-- b says whether the blocks are right; where they are, the stream stands over the front of the lent bytes
unfoldable pub Hands : Bool → List ℕ → List ℕ → List ℕ → Type 0
Hands true file out out' = RightBlocks file × (out' ≡ stream_of file ++ drop (length (stream_of file)) out)
Hands false file out out' = ¬ RightBlocks file
