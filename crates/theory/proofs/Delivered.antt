-- Both sentences for the table that is read from the file written for a sheet: it is the sheet's own table.
use Rattle.std.specs.Prelude.{◌≡◌, List, ◌↔◌, ℕ}
use Rattle.std.proofs.Common.{sym, subst, subst₂}
use Rattle.pcrl.specs.Limits.{frame_width, stack_limit}
use Rattle.pcrl.specs.Result.{accepted}
use Rattle.pcrl.specs.Sheet.{Sheet}
use Rattle.pcrl.specs.Table.{Table}
use Rattle.pcrl.specs.Heads.{table_of}
use Rattle.pcrl.specs.Right.{Within}
use Rattle.pcrl.specs.Stack.{Frame, RightFrames, stack_of}
use Rattle.pcrl.specs.Ask.{Answer, labels}
use Rattle.pcrl.specs.Equality.{Equal, Run}
use Rattle.pcrl.specs.States.{State, of_stack, system, RightState, stands_for}
use Rattle.pcrl.specs.Answers.{sheet_read, file_made, table_checked, asked_all}
use Rattle.laws.specs.Questions.{accepted_one}
use Rattle.theory.specs.Standing.{Standing}
use Rattle.theory.proofs.Accepted.{accepted_standing}
use Rattle.theory.specs.Written.{WrittenFor}
use Rattle.theory.proofs.Written.{written_for}
use Rattle.theory.proofs.FirstSentence.{first_sentence}
use Rattle.theory.specs.Calls.{Calls, calls_in_turn}
use Rattle.theory.specs.InTurn.{asked_in_turn}
use Rattle.theory.proofs.LastSentence.{last_sentence_of_calls, asked_all_on_file}
use Rattle.theory.specs.AnswersAre.{AnswersAre}

module _ (bytes file : List ℕ) (room : ℕ) (H : Sheet) (T : Table) (read : sheet_read bytes ≡ accepted H) (made : file_made bytes room ≡ accepted file)
    (checked : table_checked file ≡ accepted T) where
  written : WrittenFor bytes file
  written = written_for bytes room file made

  sheet_is : written.sheet ≡ H
  sheet_is = accepted_one written.read read

  -- the table of the file is the sheet's
  pub table_is : table_of H ≡ T
  table_is = subst (λ (K : Sheet). table_of K ≡ T) sheet_is (accepted_one written.checked checked)

  in_standing : Standing H
  in_standing = accepted_standing bytes H read

  is_within : Within (table_of H)
  is_within = subst (λ (K : Sheet). Within (table_of K)) sheet_is written.within

  -- what the last sentence says of a table
  abbrev Says : Table → List Frame → ℕ → List ℕ → List Answer → List Frame → ℕ → Type 0
  Says U fs d ks answers fs' d' =
      AnswersAre frame_width stack_limit U (stack_of fs d) ks answers (stack_of fs' d')
      × (RightFrames frame_width stack_limit U fs' d'
      × ((u : State) × Run (system frame_width H U) (stands_for H (of_stack (stack_of fs d))) (labels answers) u
      × ((n : ℕ) → Equal (system frame_width H U) (system frame_width H U) n u (of_stack (stack_of fs' d')))))

  own_table : (fs : List Frame) (d : ℕ) (ks : List ℕ) (answers : List Answer) (fs' : List Frame) (d' : ℕ)
      → RightFrames frame_width stack_limit (table_of H) fs d → Calls frame_width stack_limit (table_of H) fs d ks answers fs' d' → Says (table_of H) fs d ks answers fs' d'
  own_table fs d ks answers fs' d' p c =
      let h = last_sentence_of_calls frame_width stack_limit H in_standing is_within p c in
      (h.claim.each, (h.passes_15_again, (h.claim.end, h.claim.run, h.claim.equal)))

  -- the last sentence, over calls in turn
  pub last_delivered : (fs : List Frame) (d : ℕ) (ks : List ℕ) (answers : List Answer) (fs' : List Frame) (d' : ℕ)
      → RightFrames frame_width stack_limit T fs d → Calls frame_width stack_limit T fs d ks answers fs' d' → Says T fs d ks answers fs' d'
  last_delivered fs d ks answers fs' d' =
      subst (λ (U : Table). RightFrames frame_width stack_limit U fs d → Calls frame_width stack_limit U fs d ks answers fs' d' → Says U fs d ks answers fs' d')
      table_is (own_table fs d ks answers fs' d')

  -- a list put at once is calls in turn
  pub at_once_delivered : (fs : List Frame) (d : ℕ) (ks : List ℕ) → RightFrames frame_width stack_limit T fs d
      → (answers : List Answer) × (fs' : List Frame) × (d' : ℕ) × (asked_all file fs d ks ≡ record { answer = accepted answers; frames = fs'; depth = d' })
      × Calls frame_width stack_limit T fs d ks answers fs' d'
  at_once_delivered fs d ks p =
      let r = asked_in_turn frame_width stack_limit file fs d ks in
      let e : table_of written.sheet ≡ T = accepted_one written.checked checked in (
        r.answers,
        r.frames,
        r.depth,
        asked_all_on_file written fs d ks (subst (λ (U : Table). RightFrames frame_width stack_limit U fs d) (sym e) p),
        calls_in_turn frame_width stack_limit T file checked ks fs d,
      )

-- the first sentence
module _ (bytes file : List ℕ) (room : ℕ) (M : Sheet) (T : Table) (read : sheet_read bytes ≡ accepted M) (made : file_made bytes room ≡ accepted file) (checked : table_checked file ≡ accepted T)
    (bytes' file' : List ℕ) (room' : ℕ) (N : Sheet) (U : Table) (read' : sheet_read bytes' ≡ accepted N) (made' : file_made bytes' room' ≡ accepted file')
    (checked' : table_checked file' ≡ accepted U) where
  pub first_delivered : (s t : State) → RightState frame_width M T s → RightState frame_width N U t → (n : ℕ)
      → Equal (system frame_width M T) (system frame_width N U) n s t ↔ Equal (system frame_width M T) (system frame_width N U) n (stands_for M s) (stands_for N t)
  first_delivered =
      subst₂ (λ (X Y : Table). (s t : State) → RightState frame_width M X s → RightState frame_width N Y t → (n : ℕ)
      → Equal (system frame_width M X) (system frame_width N Y) n s t ↔ Equal (system frame_width M X) (system frame_width N Y) n (stands_for M s) (stands_for N t))
      (table_is bytes file room M T read made checked) (table_is bytes' file' room' N U read' made' checked')
      (first_sentence frame_width M N (accepted_standing bytes M read) (accepted_standing bytes' N read'))
