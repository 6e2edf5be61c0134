-- Questions 1 to 11 one after another: what each way out of the maker says.
use mathlib.Core.Path.{◌≡◌, refl, sym, ap, subst, ◌∙◌}
use mathlib.Core.List.{List}
use Prim.Native.Nat.{ℕ, ◌-◌, ◌≤◌, ◌<◌}
use native.Mathlib.Omega.{arith}
use lib.ListN.{length, take}
use Rattle.std.specs.Prelude.{Ok, Err}
use Rattle.pcrl.specs.Limits.{max_stream}
use Rattle.pcrl.specs.Result.{Result, refused, accepted, question, after}
use Rattle.pcrl.specs.Sheet.{Sheet}
use Rattle.pcrl.specs.Heads.{table_of}
use Rattle.pcrl.specs.Stream.{encode}
use Rattle.pcrl.specs.Right.{Within, within?}
use Rattle.pcrl.specs.Answers.{sheet_read, table_made, stream_filed, file_made, output_after}
use Rattle.laws.specs.Questions.{question_passes, question_fails}
use Rattle.theory.proofs.Accepted.{accepted_standing}
use Rattle.refusals.specs.declared.Refusal.{Refusal}
use Rattle.refusals.specs.declared.Refusal.TheVariants.{NoRoom}
use Rattle.refusals.specs.Numbers.{number_of}
use Rattle.refusals.specs.Answered.{Answered}
use Rattle.nodes.specs.Layout.{cell_limit}
use Rattle.nodes.specs.Held.{Held}
use Rattle.sheets.specs.declared.SheetRows.{SheetRows}
use Rattle.sheets.specs.Reading.{Reads}
use Rattle.sheets.specs.Resolving.{arrays, Named}
use Rattle.making.specs.Making.{Makes}
use Rattle.linear.specs.Within.{TableWritten, ReadyIn, WritesTable}

-- a refusal by its number, with nothing written
pub refuses : (x : Result (List ℕ)) (e : Refusal) (o : List ℕ) → x ≡ refused (number_of e) → Makes x (Err e) × (o ≡ output_after x o)
unfolding Answered output_after
refuses x e o z = rw z (refl, refl)

module _ (s : List ℕ) (values cells : List ℕ) (room : ℕ) where
  pub made_refused : (e : Refusal) → Reads (sheet_read s) s (Err e) values cells → file_made s room ≡ refused (number_of e)
  unfolding Answered file_made table_made after
  made_refused e reads = go (sheet_read s) refl reads
    where
      go : (x : Result Sheet) → sheet_read s ≡ x → Reads x s (Err e) values cells → file_made s room ≡ refused (number_of e)
      go (refused n) is m = rw is (ap refused (sym m))
      go (accepted H) is m = absurd m

  module _ (rows : SheetRows) (reads : Reads (sheet_read s) s (Ok rows) values cells) where
    pub record Found : Type 0 where
      pub sheet : Sheet
      pub read : sheet_read s ≡ accepted sheet
      pub held : Held sheet (arrays rows values cells) rows.outline
      pub named : Named s rows sheet

    pub found : Found
    unfolding Answered
    found = go (sheet_read s) refl reads
      where
        go : (x : Result Sheet) → sheet_read s ≡ x → Reads x s (Ok rows) values cells → Found
        go (refused n) is m = absurd m
        go (accepted H) is m = record { sheet = H; read = is; held = m.0; named = m.1 }

    module _ (few : length cells < cell_limit) (o o' : List ℕ) (size : length o ≤ max_stream) where
      ready : ReadyIn found.sheet s (arrays rows values cells) rows.names rows.outline
      unfolding arrays
      ready = record { standing = accepted_standing s found.sheet found.read; held = found.held; named = found.named.actions; sorts_named = found.named.sorts; cells_few = few }

      table_is : table_made s ≡ question 10 (within? (table_of found.sheet)) (λ _. accepted (table_of found.sheet))
      unfolding table_made after
      table_is = rw found.read

      pub made_10 : (e : Refusal) → WritesTable s rows values cells o (Err e) o' → (e ≡ NoRoom → max_stream ≤ length o) → file_made s room ≡ refused 10
      unfolding file_made after Within
      made_10 e writes h =
          let out : Within (table_of found.sheet) → ⊥ = λ y. let l = writes found.sheet ready y in let m = y.1.1.1 in let k = h l.0 in omega (arith, l.1) in
          rw (table_is ∙ question_fails 10 (within? (table_of found.sheet)) (λ _. accepted (table_of found.sheet)) out)

      pub wrote_length : (n : ℕ) → WritesTable s rows values cells o (Ok n) o' → n ≤ length o
      wrote_length n writes = (writes found.sheet ready).3

      pub made_stream : (n : ℕ) → WritesTable s rows values cells o (Ok n) o' → (length (take n o') ≤ max_stream) × (file_made s room ≡ stream_filed (take n o') room)
      unfolding file_made after
      made_stream n writes =
          let y = writes found.sheet ready in
          let t = table_is ∙ question_passes 10 (within? (table_of found.sheet)) (λ _. accepted (table_of found.sheet)) (accepted (table_of found.sheet)) y.0 (λ _. refl) in
          (omega (arith, ap length y.2, y.1, y.3), rw (t, y.2))
