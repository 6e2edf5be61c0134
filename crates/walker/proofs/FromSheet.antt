-- A sheet's walk is that of the file made of it, where there is room for that: the longest file has room for all.
use mathlib.Core.Path.{◌≡◌, refl, sym, ap, subst, ◌∙◌}
use mathlib.Core.List.{List, ◌++◌}
use Prim.Native.Nat.{ℕ, ◌<◌, ◌≤◌}
use native.Mathlib.Omega.{arith}
use native.Mathlib.Decide.{dec_le}
use lib.ListN.{length, take, drop}
use lib.Seq.{take-append-le, take_all}
use Rattle.pcrl.specs.Text.{bytes, decimal}
use Rattle.pcrl.specs.Result as R
use Rattle.pcrl.specs.Result.{refused, accepted, after}
use Rattle.std.specs.Prelude.{Result, Ok, Err}
use Rattle.refusals.specs.declared.Refusal.{Refusal}
use Rattle.refusals.specs.declared.Refusal.TheVariants.{TooLong, NotText, NoToken, TooOpen, NoSheet, TooMany, NoName, NotSorted, NotGuarded, NotWithin, NoRoom, NoFile, WrongBlock, NoTable, WrongStack, TooDeep, NoText}
use Rattle.refusals.specs.Numbers.{number_of}
use Rattle.refusals.specs.Answered.{Answered}
use Rattle.pcrl.specs.Table.{Table}
use Rattle.pcrl.specs.Blocks.{max_file, file_of, RightLength, right_length?, Room, room?}
use Rattle.pcrl.specs.Answers.{table_made, stream_filed, file_made, output_after, stream_read, table_checked}
use Rattle.pcrl.specs.Walk.{text_line, walk_made, walk_text}
use Rattle.laws.specs.Questions.{past_question, past_answer, question_passes, question_fails}
use Rattle.codec.specs.FileLaws.{read_written}
use Rattle.theory.proofs.Made.{made_all}
use Rattle.making.specs.Making.{Makes}
use Rattle.making.proofs.Numbers.{table_number}

-- what is accepted as a table has the length of a file
checked_short : (file : List ℕ) (T : Table) → table_checked file ≡ accepted T → length file ≤ max_file
unfolding table_checked stream_read RightLength
checked_short file T e =
    past_answer (stream_read file) _ T e (λ s e₁ _.
    past_question 12 (right_length? file) _ s e₁ (λ h _. h.0.1))

made_short : (s : List ℕ) (T : Table) → table_made s ≡ accepted T → length (file_of T) ≤ max_file
made_short s T h = checked_short (file_of T) T (read_written T (made_all s T h).right)

-- by the number of the question that asks for room
no_room_by : (e : Refusal) → number_of e ≡ 11 → e ≡ NoRoom
no_room_by TooLong h = absurd (omega arith)
no_room_by NotText h = absurd (omega arith)
no_room_by NoToken h = absurd (omega arith)
no_room_by TooOpen h = absurd (omega arith)
no_room_by NoSheet h = absurd (omega arith)
no_room_by TooMany h = absurd (omega arith)
no_room_by NoName h = absurd (omega arith)
no_room_by NotSorted h = absurd (omega arith)
no_room_by NotGuarded h = absurd (omega arith)
no_room_by NotWithin h = absurd (omega arith)
no_room_by NoRoom h = refl
no_room_by NoFile h = absurd (omega arith)
no_room_by WrongBlock h = absurd (omega arith)
no_room_by NoTable h = absurd (omega arith)
no_room_by WrongStack h = absurd (omega arith)
no_room_by TooDeep h = absurd (omega arith)
no_room_by NoText h = absurd (omega arith)

module _ (s : List ℕ) (room : ℕ) where
  -- a sheet that is refused, and one with a table, for whose file there is room or not
  made_refused : (n : ℕ) → table_made s ≡ refused n → file_made s room ≡ refused n
  unfolding file_made after
  made_refused n h = rw h refl

  made_filed : (T : Table) → table_made s ≡ accepted T → length (file_of T) ≤ room → file_made s room ≡ accepted (file_of T)
  unfolding file_made stream_filed file_of Room after
  made_filed T h l = rw h (question_passes 11 (room? (file_of T) room) _ (accepted (file_of T)) l (λ _. refl))

  made_roomless : (T : Table) → table_made s ≡ accepted T → ¬ (length (file_of T) ≤ room) → file_made s room ≡ refused 11
  unfolding file_made stream_filed file_of Room after
  made_roomless T h l = rw h (question_fails 11 (room? (file_of T) room) _ l)

  by_file : (r : Result ℕ Refusal) {x : R.Result (List ℕ)} → file_made s room ≡ x → Makes (file_made s room) r → Makes x r
  by_file r {x} e a = subst (λ (y : R.Result (List ℕ)). Makes y r) e a

  -- refused, but not for want of room: so is the sheet
  pub sheet_refused : (e : Refusal) → Makes (file_made s room) (Err e) → ¬ (e ≡ NoRoom) → text_line (bytes "refused " ++ decimal (number_of e)) ≡ walk_text s
  unfolding walk_text walk_made Answered
  sheet_refused e a h = go (table_made s) refl
    where
      go : (x : R.Result Table) → table_made s ≡ x → text_line (bytes "refused " ++ decimal (number_of e)) ≡ walk_text s
      go (refused n) q = ap (λ (k : ℕ). text_line (bytes "refused " ++ decimal k)) (by_file (Err e) (made_refused n q) a) ∙ sym (ap walk_made q)
      go (accepted T) q = elim (dec_le (length (file_of T)) room) [
        | yes l ↦ absurd (by_file (Err e) (made_filed T q l) a)
        | no l ↦ absurd (h (no_room_by e (by_file (Err e) (made_roomless T q l) a)))
      ]

  -- refused for want of room: the longest file has room
  pub room_short : Makes (file_made s room) (Err NoRoom) → room < max_file
  unfolding Answered
  room_short a = elim (dec_le max_file room) [ yes l ↦ absurd (go (table_made s) refl l) | no l ↦ omega arith ]
    where
      go : (x : R.Result Table) → table_made s ≡ x → max_file ≤ room → ⊥
      go (refused n) q l = let z : 11 ≡ n = by_file (Err NoRoom) (made_refused n q) a in table_number s 11 (λ k l u w. omega arith) (q ∙ ap refused (sym z))
      go (accepted T) q l = by_file (Err NoRoom) (made_filed T q (let short = made_short s T q in omega arith)) a

  -- the front of the output is the file of the sheet's table
  pub record Filed (n : ℕ) (out' : List ℕ) : Type 0 where
    pub fits : n ≤ room
    pub text : walk_made (table_checked (take n out')) ≡ walk_text s

  pub sheet_filed : (n : ℕ) (out out' : List ℕ) → Makes (file_made s room) (Ok n) → out' ≡ output_after (file_made s room) out → Filed n out'
  unfolding walk_text output_after Answered
  sheet_filed n out out' a w = go (table_made s) refl
    where
      go : (x : R.Result Table) → table_made s ≡ x → Filed n out'
      go (refused k) q = absurd (by_file (Ok n) (made_refused k q) a)
      go (accepted T) q = elim (dec_le (length (file_of T)) room) [
        | yes l ↦
            (let made = made_filed T q l in
            let long : n ≡ length (file_of T) = by_file (Ok n) made a in
            let checked = read_written T (made_all s T q).right in
            let front : take n out' ≡ file_of T =
            ap (take n) (w ∙ ap (λ (y : R.Result (List ℕ)). output_after y out) made) ∙ take-append-le n (file_of T) (drop (length (file_of T)) out) (omega arith) ∙ take_all n (file_of T) (omega arith) in
            record { fits = omega arith; text = ap walk_made (ap table_checked front ∙ checked ∙ sym q) })
        | no l ↦ absurd (by_file (Ok n) (made_roomless T q l) a)
      ]
