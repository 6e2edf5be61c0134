-- Where there is no room for a file, question 11 is the first to fail exactly if questions 1 to 10 pass.
use mathlib.Core.Path.{◌≡◌, refl, sym, ap, subst, ◌∙◌}
use mathlib.Core.List.{List}
use Prim.Native.Nat.{ℕ, ◌≤◌, ◌<◌}
use native.Mathlib.Omega.{arith}
use lib.ListN.{length}
use Rattle.std.specs.Prelude.{Ok, Err}
use Rattle.pcrl.specs.Result.{Result, refused, accepted, after}
use Rattle.pcrl.specs.Table.{Table}
use Rattle.pcrl.specs.Stream.{encode}
use Rattle.pcrl.specs.Blocks.{blocks_for, file_of_stream, Room, room?}
use Rattle.pcrl.specs.Answers.{table_made, stream_filed, file_made}
use Rattle.laws.specs.Questions.{question_fails}
use Rattle.codec.specs.FileOfStream.{length_file}
use Rattle.codec.specs.FileLaws.{stream_begins}
use Rattle.refusals.specs.declared.Refusal.{Refusal}
use Rattle.refusals.specs.declared.Refusal.TheVariants.{TooLong, NotText, NoToken, TooOpen, NoSheet, TooMany, NoName, NotSorted, NotGuarded, NotWithin, NoRoom, NoFile, WrongBlock, NoTable, WrongStack, TooDeep, NoText}
use Rattle.refusals.specs.Numbers.{number_of}
use Rattle.refusals.specs.Answered.{Answered}
use Rattle.making.specs.Making.{Makes, Checks}
use Rattle.making.proofs.Numbers.{table_number}

-- one byte is no room for a block
no_room : (T : Table) → stream_filed (encode T) 1 ≡ refused 11
unfolding stream_filed Room blocks_for
no_room T = question_fails 11 (room? (file_of_stream (encode T)) 1) _ (λ h. let b = stream_begins T in omega (arith, length_file (encode T)))

-- no other refusal has its number
only_room : (e : Refusal) → number_of e ≡ 11 → e ≡ NoRoom
only_room TooLong h = absurd (omega arith)
only_room NotText h = absurd (omega arith)
only_room NoToken h = absurd (omega arith)
only_room TooOpen h = absurd (omega arith)
only_room NoSheet h = absurd (omega arith)
only_room TooMany h = absurd (omega arith)
only_room NoName h = absurd (omega arith)
only_room NotSorted h = absurd (omega arith)
only_room NotGuarded h = absurd (omega arith)
only_room NotWithin h = absurd (omega arith)
only_room NoRoom h = refl
only_room NoFile h = absurd (omega arith)
only_room WrongBlock h = absurd (omega arith)
only_room NoTable h = absurd (omega arith)
only_room WrongStack h = absurd (omega arith)
only_room TooDeep h = absurd (omega arith)
only_room NoText h = absurd (omega arith)

module _ (s : List ℕ) where
  pub checked_made : (n : ℕ) → Makes (file_made s 1) (Ok n) → Checks (table_made s) (Ok tt)
  unfolding file_made after Answered
  checked_made n h = go (table_made s) h
    where
      go : (x : Result Table) → Makes (after x (λ T. stream_filed (encode T) 1)) (Ok n) → Checks x (Ok tt)
      go (refused k) m = absurd m
      go (accepted T) m = tt

  pub checked_passed : Makes (file_made s 1) (Err NoRoom) → Checks (table_made s) (Ok tt)
  unfolding file_made after Answered
  checked_passed h = go (table_made s) refl h
    where
      go : (x : Result Table) → table_made s ≡ x → Makes (after x (λ T. stream_filed (encode T) 1)) (Err NoRoom) → Checks x (Ok tt)
      go (refused k) is m = absurd (table_number s 11 (λ j l u z. omega arith) (is ∙ ap refused (sym m)))
      go (accepted T) is m = tt

  pub checked_refused : (e : Refusal) → (e ≡ NoRoom → ⊥) → Makes (file_made s 1) (Err e) → Checks (table_made s) (Err e)
  unfolding file_made after Answered
  checked_refused e apart h = go (table_made s) h
    where
      go : (x : Result Table) → Makes (after x (λ T. stream_filed (encode T) 1)) (Err e) → Checks x (Err e)
      go (refused k) m = m
      go (accepted T) m = absurd (apart (only_room e (subst (λ (y : Result (List ℕ)). Makes y (Err e)) (no_room T) m)))
