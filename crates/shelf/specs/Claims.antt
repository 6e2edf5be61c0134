-- What document 01 says of a sheet on its shelf, from the sheet's bytes to the answer.
use Rattle.std.specs.Prelude.{◌≡◌, List, [], ◌∷◌, map, ℕ, length}
use Prim.Native.String.{String}
use Rattle.pcrl.specs.Text.{bytes}
use Rattle.pcrl.specs.Limits.{frame_width, stack_limit}
use Rattle.pcrl.specs.Result.{Result, refused, accepted, after}
use Rattle.pcrl.specs.Label.{Label}
use Rattle.pcrl.specs.Table.{Summand, Table, equation}
use Rattle.pcrl.specs.Stream.{encode}
use Rattle.pcrl.specs.Stack.{Stack, frames_of}
use Rattle.pcrl.specs.Steps.{steps}
use Rattle.pcrl.specs.Ask.{Answer}
use Rattle.pcrl.specs.Answers.{table_made, file_made, start_stack, asked}
use Rattle.pcrl.specs.Walk.{walk_text}

pub data Claim : Type 0 where
  -- the number of the first question that fails
  is_refused : ℕ → Claim
  -- the summands of an equation
  has_summands : ℕ → List Summand → Claim
  -- all steps from the start: each label and the depth after it
  has_steps : List (Label × ℕ) → Claim
  -- step 0 of a stack of n frames like the start's, put to the file with 64 lent frames: the answer
  answers_at : ℕ → Result Answer → Claim
  has_stream : List ℕ → Claim
  -- the walk's text
  walks : String → Claim

-- frames, all like the one of the start
unfoldable pub stack_at : ℕ → Table → Stack
stack_at n T = copies n (start_stack frame_width T)
  where
    copies : ℕ → Stack → Stack
    copies ℕ.zero s = []
    copies (ℕ.suc n) [] = []
    copies (ℕ.suc n) (f ∷ s) = f ∷ copies n (f ∷ s)

unfoldable pub answer_at : ℕ → List ℕ → Table → Result Answer
answer_at n file T = (asked file (frames_of frame_width stack_limit (stack_at n T)) n 0).answer

unfoldable pub Holds : String × Claim → Type 0
Holds x = elim x.1 [
  | is_refused n ↦ table_made (bytes x.0) ≡ refused n
  | has_summands e hs ↦ after (table_made (bytes x.0)) (λ T. accepted (equation T e).summands) ≡ accepted hs
  | has_steps l ↦ after (table_made (bytes x.0)) (λ T. accepted (map (λ (s : Label × Stack). (s.0, length s.1)) (steps frame_width T (start_stack frame_width T)))) ≡ accepted l
  | answers_at n a ↦ after (table_made (bytes x.0)) (λ T. after (file_made (bytes x.0) 512) (λ file. answer_at n file T)) ≡ a
  | has_stream s ↦ after (table_made (bytes x.0)) (λ T. accepted (encode T)) ≡ accepted s
  | walks t ↦ walk_text (bytes x.0) ≡ bytes t
]
