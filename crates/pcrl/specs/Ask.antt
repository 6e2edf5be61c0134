-- Step questions: one, and a list of them put in turn.
use Rattle.std.specs.Prelude.{List, [], ◌∷◌, ℕ, length}
use Rattle.std.proofs.Math.Option.{Option, none, some}
use Rattle.std.proofs.Math.Decide.{dec_le}
use Rattle.std.proofs.Math.ListN.{get_elem?}
use Rattle.pcrl.specs.Label.{Label}
use Rattle.pcrl.specs.Table.{Table}
use Rattle.pcrl.specs.Stack.{Stack}
use Rattle.pcrl.specs.Steps.{steps}

-- "the answer is ended (depth 0) or none (k too large), both with the lent frames unchanged, or the label and the new depth,
-- with the new stack in the lent frames and zeros in all frames past it"
pub data Answer : Type 0 where
  ended nothing : Answer
  stepped : Label → ℕ → Answer
  refused : ℕ → Answer

-- an answer, and the stack that it leaves
pub record Asked : Type 0 where
  pub answer : Answer
  pub stack : Stack

module _ (width limit : ℕ) where
  -- 16: "For a step that exists: at most 64 frames after it?" A refusal leaves the stack.
  unfoldable pub step_to : Stack → Label × Stack → Asked
  step_to s x = elim (dec_le (length x.1) limit) [ yes h ↦ record { answer = stepped x.0 (length x.1); stack = x.1 } | no h ↦ record { answer = refused 16; stack = s } ]

  unfoldable pub chosen : Stack → Option (Label × Stack) → Asked
  chosen s none = record { answer = nothing; stack = s }
  chosen s (some x) = step_to s x

  -- "Asked for step k (from 0)"
  unfoldable pub ask : Table → ℕ → Stack → Asked
  ask T k [] = record { answer = ended; stack = [] }
  ask T k (f ∷ s) = chosen (f ∷ s) (get_elem? (steps width T (f ∷ s)) k)

  -- "Each question gets the frames and depth that the last one left."
  unfoldable pub ask_all : Table → List ℕ → Stack → List Answer × Stack
  ask_all T [] s = ([], s)
  ask_all T (k ∷ ks) s =
      let a = ask T k s in
      let r = ask_all T ks a.stack in
      (a.answer ∷ r.0, r.1)

-- "the labels answered, in order"
unfoldable pub labels : List Answer → List Label
labels [] = []
labels (ended ∷ l) = labels l
labels (nothing ∷ l) = labels l
labels (stepped a d ∷ l) = a ∷ labels l
labels (refused n ∷ l) = labels l
