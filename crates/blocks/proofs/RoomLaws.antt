-- Question 11: what is answered and written where the file fits, and where it does not.
use mathlib.Core.Path.{◌≡◌, refl, sym, ◌∙◌, ap}
use mathlib.Core.List.{List, ◌++◌}
use Prim.Native.Nat.{ℕ, ◌*◌, ◌≤◌, ◌<◌}
use native.Mathlib.Omega.{arith}
use lib.ListN.{length, drop}
use Rattle.pcrl.specs.Result.{Result, refused, accepted}
use Rattle.pcrl.specs.Blocks.{block_bytes, blocks_for, file_of_stream, Room, room?}
use Rattle.pcrl.specs.Answers.{stream_filed, output_after}
use Rattle.laws.specs.Questions.{question_passes, question_fails}
use Rattle.codec.specs.FileOfStream.{length_file}
use Rattle.std.specs.Prelude.{Ok, Err}
use Rattle.refusals.specs.declared.Refusal.TheVariants.{NoRoom}
use Rattle.refusals.specs.Answered.{Answered}
use Rattle.blocks.specs.Answers.{Filed}

module _ (s out : List ℕ) (size : ℕ) (es : size ≡ blocks_for (length s) * block_bytes) where
  filed : size ≤ length out → stream_filed s (length out) ≡ accepted (file_of_stream s)
  unfolding stream_filed Room
  filed h = question_passes 11 (room? (file_of_stream s) (length out)) _ (accepted (file_of_stream s)) (omega (arith, length_file s)) (λ _. refl)

  not_filed : length out < size → stream_filed s (length out) ≡ refused 11
  unfolding stream_filed Room
  not_filed h = question_fails 11 (room? (file_of_stream s) (length out)) _ (λ k. omega (arith, length_file s))

  pub answer_fits : size ≤ length out → Filed (stream_filed s (length out)) (Ok size)
  unfolding Answered
  answer_fits h = rw (filed h) (es ∙ sym (length_file s))

  pub output_fits : (out' : List ℕ) → size ≤ length out → out' ≡ file_of_stream s ++ drop (length (file_of_stream s)) out → out' ≡ output_after (stream_filed s (length out)) out
  unfolding output_after
  output_fits out' h e = e ∙ ap (λ (r : Result (List ℕ)). output_after r out) (sym (filed h))

  pub answer_refused : length out < size → Filed (stream_filed s (length out)) (Err NoRoom)
  unfolding Answered
  answer_refused h = rw (not_filed h) refl

  pub output_refused : length out < size → out ≡ output_after (stream_filed s (length out)) out
  unfolding output_after
  output_refused h = ap (λ (r : Result (List ℕ)). output_after r out) (sym (not_filed h))
