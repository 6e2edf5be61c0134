-- The answer of each public operation for all input: the questions of document 01 in their order.
use Rattle.std.specs.Prelude.{List, [], ◌∷◌, ◌++◌, ℕ, length, drop}
use Rattle.std.proofs.Math.Decide.{ℕ_discrete}
use Rattle.pcrl.specs.Limits.{frame_width, stack_limit}
use Rattle.pcrl.specs.Result.{Result, refused, accepted, question, question_of, after, passed}
use Rattle.pcrl.specs.Tests.{T?}
use Rattle.pcrl.specs.Bytes.{short?, printable?}
use Rattle.pcrl.specs.Tokens.{Token, tokens, shallow?}
use Rattle.pcrl.specs.Tree.{RawSheet}
use Rattle.pcrl.specs.Grammar.{parse}
use Rattle.pcrl.specs.Counts.{counted?}
use Rattle.pcrl.specs.Names.{resolve}
use Rattle.pcrl.specs.Sheet.{Sheet}
use Rattle.pcrl.specs.Sorts.{rightly_sorted?}
use Rattle.pcrl.specs.Circles.{guarded}
use Rattle.pcrl.specs.Table.{Table}
use Rattle.pcrl.specs.Heads.{table_of}
use Rattle.pcrl.specs.Stream.{encode}
use Rattle.pcrl.specs.Right.{within?}
use Rattle.pcrl.specs.Blocks.{file_of_stream, room?, right_length?, right_blocks?, stream_of, table_read}
use Rattle.pcrl.specs.Printer.{table_text}
use Rattle.pcrl.specs.Stack.{Frame, Stack, padded, right_frames?, frames_of, stack_of}
use Rattle.pcrl.specs.Ask.{Answer, Asked, ask, ask_all}

-- the tokens of a sheet's bytes, questions 1 to 4
unfoldable pub tokens_read : List ℕ → Result (List Token)
tokens_read s =
    question 1 (short? s) (λ _.
    question 2 (printable? s) (λ _.
    question_of 3 (tokens s) (λ ts.
    question 4 (shallow? ts) (λ _. accepted ts))))

-- its tree, questions 1 to 5
unfoldable pub tree_read : List ℕ → Result RawSheet
tree_read s = after (tokens_read s) (λ ts. question_of 5 (parse ts) (λ R. accepted R))

-- the resolved sheet of its bytes, questions 1 to 8
unfoldable pub sorted_read : List ℕ → Result Sheet
sorted_read s =
    after (tree_read s) (λ R.
    question 6 (counted? R) (λ _.
    question_of 7 (resolve R) (λ H.
    question 8 (rightly_sorted? H) (λ _. accepted H))))

-- Check a sheet: the resolved sheet of its bytes, questions 1 to 9.
unfoldable pub sheet_read : List ℕ → Result Sheet
sheet_read s = after (sorted_read s) (λ H. question 9 (T? (guarded H)) (λ _. accepted H))

-- the table of a sheet's bytes, questions 1 to 10
unfoldable pub table_made : List ℕ → Result Table
table_made s = after (sheet_read s) (λ H. question 10 (within? (table_of H)) (λ _. accepted (table_of H)))

-- the blocks of a stream, where so many bytes are lent for them, question 11
unfoldable pub stream_filed : List ℕ → ℕ → Result (List ℕ)
stream_filed s room = question 11 (room? (file_of_stream s) room) (λ _. accepted (file_of_stream s))

-- Make a table: the file of a sheet's bytes, questions 1 to 11.
unfoldable pub file_made : List ℕ → ℕ → Result (List ℕ)
file_made s room = after (table_made s) (λ T. stream_filed (encode T) room)

-- "A refusal .. changes no lent byte or frame. Output beyond the blocks written is untouched."
unfoldable pub output_after : Result (List ℕ) → List ℕ → List ℕ
output_after (refused n) out = out
output_after (accepted file) out = file ++ drop (length file) out

-- the stream of a file, questions 12 and 13
unfoldable pub stream_read : List ℕ → Result (List ℕ)
stream_read file =
    question 12 (right_length? file) (λ _.
    question 13 (right_blocks? file) (λ _. accepted (stream_of file)))

-- Check a table: the table of a file, questions 12 to 14.
unfoldable pub table_checked : List ℕ → Result Table
table_checked file = after (stream_read file) (λ s. question_of 14 (table_read s) (λ T. accepted T))

-- the text of a table, where so many bytes are lent for it: "17: the printed text would fail one of questions 1 to 8; asked after 14,
-- before output space"
unfoldable pub text_printed : Table → ℕ → Result (List ℕ)
text_printed T room =
    question_of 17 (passed (sorted_read (table_text T))) (λ _.
    question 11 (room? (table_text T) room) (λ _. accepted (table_text T)))

-- Print a table: the text of a sheet that has it, questions 12 to 14, 17 and 11.
unfoldable pub table_printed : List ℕ → ℕ → Result (List ℕ)
table_printed file room = after (table_checked file) (λ T. text_printed T room)

-- what an operation on lent frames answers, and the frames and depth that it leaves
pub record Reply (A : Type 0) : Type 0 where
  pub answer : Result A
  pub frames : List Frame
  pub depth : ℕ

-- the stack of one frame with which a table starts
unfoldable pub start_stack : ℕ → Table → Stack
start_stack width T = record { number = T.start.0; values = padded width T.start.1 } ∷ []

module _ (width limit : ℕ) where
  -- what is left of the lent frames and the depth: as they were after a refusal, and else the stack
  unfoldable pub reply : {A : Type 0} → List Frame → ℕ → Result (A × Stack) → Reply A
  reply fs depth (refused n) = record { answer = refused n; frames = fs; depth = depth }
  reply fs depth (accepted x) = record { answer = accepted x.0; frames = frames_of width limit x.1; depth = length x.1 }

  -- Start a stack: questions 12 to 14, and of 15 that exactly 64 frames are lent; what they held does not matter.
  unfoldable pub started_in : List ℕ → List Frame → ℕ → Reply (Unit {0})
  started_in file fs depth =
      reply fs depth (after (table_checked file) (λ T. question 15 (ℕ_discrete (length fs) limit) (λ _. accepted (tt, start_stack width T))))

  -- the stack of lent frames and its table, questions 12 to 15
  unfoldable pub stack_read : List ℕ → List Frame → ℕ → Result (Table × Stack)
  stack_read file fs depth = after (table_checked file) (λ T. question 15 (right_frames? width limit T fs depth) (λ _. accepted (T, stack_of fs depth)))

  -- "A refusal returns its number alone": also by 16
  unfoldable pub one_answer : Asked → Result (Answer × Stack)
  one_answer a = elim a.answer [
    | Answer.ended ↦ accepted (Answer.ended, a.stack)
    | Answer.nothing ↦ accepted (Answer.nothing, a.stack)
    | Answer.stepped l d ↦ accepted (Answer.stepped l d, a.stack)
    | Answer.refused n ↦ refused n
  ]

  -- Ask for step k: questions 12 to 16.
  unfoldable pub asked_in : List ℕ → List Frame → ℕ → ℕ → Reply Answer
  asked_in file fs depth k = reply fs depth (after (stack_read file fs depth) (λ x. one_answer (ask width limit x.0 k x.1)))

  -- Ask a list: questions 12 to 15 once, and then the questions in turn, each answered as by itself.
  unfoldable pub asked_all_in : List ℕ → List Frame → ℕ → List ℕ → Reply (List Answer)
  asked_all_in file fs depth ks = reply fs depth (after (stack_read file fs depth) (λ x. accepted (ask_all width limit x.0 ks x.1)))

-- with the frames and stacks of document 01
abbrev pub started : List ℕ → List Frame → ℕ → Reply (Unit {0})
started = started_in frame_width stack_limit

abbrev pub asked : List ℕ → List Frame → ℕ → ℕ → Reply Answer
asked = asked_in frame_width stack_limit

abbrev pub asked_all : List ℕ → List Frame → ℕ → List ℕ → Reply (List Answer)
asked_all = asked_all_in frame_width stack_limit
