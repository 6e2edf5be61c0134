-- What the writer's contract and the reader's contract say together: a file that was written is read as its stream, with zeros behind it;
-- and what a caller learns from the reader's answer.
use mathlib.Core.Path.{◌≡◌, sym, refl, ◌∙◌, ap, subst}
use mathlib.Core.List.{List, ◌++◌}
use Prim.Native.Nat.{ℕ, ◌*◌, ◌≤◌}
use native.Mathlib.Omega.{arith}
use lib.ListN.{length, take, drop, length-take}
use lib.Seq.{take_at}
use Rattle.std.specs.Prelude.{Result, Ok, Err}
use Rattle.pcrl.specs.Limits.{max_stream}
use Rattle.pcrl.specs.Result as R
use Rattle.pcrl.specs.Result.{refused, accepted, question}
use Rattle.pcrl.specs.Blocks.{block_stream, blocks_for, file_of_stream, Room, room?, stream_of}
use Rattle.pcrl.specs.Answers.{stream_filed, output_after, stream_read}
use Rattle.codec.specs.Padding.{zeros}
use Rattle.codec.specs.FileOfStream.{spare, right_length_file, right_blocks_file, stream_of_file, length_stream_of_file}
use Rattle.refusals.specs.declared.Refusal.{Refusal}
use Rattle.refusals.specs.Numbers.{number_of}
use Rattle.refusals.specs.Answered.{Answered}
use Rattle.blocks.specs.Answers.{Filed, Opens}
use Rattle.blocks.proofs.Reading.{read_whole}

-- WRITTEN AND READ

-- where n bytes were answered, the first n bytes of the output are the file
pub written_file : (s out : List ℕ) (n : ℕ) → Filed (stream_filed s (length out)) (Ok n) → take n (output_after (stream_filed s (length out)) out) ≡ file_of_stream s
unfolding stream_filed question Answered output_after
written_file s out n = go (room? (file_of_stream s) (length out))
  where
    go : (d : Dec (Room (file_of_stream s) (length out))) → let x : R.Result (List ℕ) = question 11 d (λ _. accepted (file_of_stream s)) in Filed x (Ok n) → take n (output_after x out) ≡ file_of_stream s
    go (yes h) e = take_at (file_of_stream s) (drop (length (file_of_stream s)) out) n (sym e)
    go (no h) e = absurd e

-- `n` and `out'` are what `write_file` answers and leaves, `r` and `lent` what `read_file` answers and leaves for the bytes that were written.
pub written_is_read :
    (s out out' : List ℕ) (n : ℕ) (r : Result ℕ Refusal) (lent : List ℕ)
    → 1 ≤ length s → length s ≤ max_stream
    → Filed (stream_filed s (length out)) (Ok n) → out' ≡ output_after (stream_filed s (length out)) out
    → Opens (stream_read (take n out')) r lent
    → (m : ℕ) × (r ≡ Ok m) × (m ≡ blocks_for (length s) * block_stream) × (take m lent ≡ s ++ zeros (spare s))
unfolding Answered
written_is_read s out out' n r lent some few ew eo h =
    let file : take n out' ≡ file_of_stream s = ap (take n) eo ∙ written_file s out n ew in
    let whole : stream_read (take n out') ≡ accepted (stream_of (file_of_stream s)) = ap stream_read file ∙ read_whole (file_of_stream s) (right_length_file s some few) (right_blocks_file s) in
    let k : Opens (accepted (stream_of (file_of_stream s))) r lent = subst (λ (x : R.Result (List ℕ)). Opens x r lent) whole h in
    let (m, e, l, t) = accepted_there _ r lent k in
    (m, e, l ∙ length_stream_of_file s, t ∙ stream_of_file s)
  where
    accepted_there : (t : List ℕ) (r : Result ℕ Refusal) (lent : List ℕ) → Opens (accepted t) r lent → (m : ℕ) × (r ≡ Ok m) × (m ≡ length t) × (take m lent ≡ t)
    accepted_there t (Ok m) lent k = (m, refl, k.0, k.1)
    accepted_there t (Err e) lent k = absurd k

-- WHAT THE ANSWER SAYS

-- An accepted stream stands at the front of the lent bytes.
pub opens_accepted : (a : R.Result (List ℕ)) (n : ℕ) (out : List ℕ) → Opens a (Ok n) out → (a ≡ accepted (take n out)) × (n ≡ length (take n out)) × (n ≤ length out)
unfolding Answered
opens_accepted (refused k) n out h = absurd h
opens_accepted (accepted s) n out h = (ap accepted (sym h.1), h.0 ∙ ap length (sym h.1), omega (arith, length-take n out, ap length h.1))

-- A refusal is that of the question.
pub opens_refused : (a : R.Result (List ℕ)) (r : Refusal) (out : List ℕ) → Opens a (Err r) out → a ≡ refused (number_of r)
unfolding Answered
opens_refused (refused n) r out h = ap refused (sym h)
opens_refused (accepted s) r out h = absurd h
