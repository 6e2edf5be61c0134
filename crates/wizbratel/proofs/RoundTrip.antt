-- A table written is read as that same table: over what the writer of blocks, their reader and the reader of streams promise.
use mathlib.Core.Path.{◌≡◌, refl, sym, ap, subst, ◌∙◌}
use mathlib.Core.List.{List}
use mathlib.Core.Option as O
use Prim.Native.Nat.{ℕ}
use native.Mathlib.Omega.{arith}
use lib.ListN.{length, take}
use Rattle.std.specs.Prelude.{Result, Ok, Err, Option, Some, None}
use Rattle.pcrl.specs.Result as R
use Rattle.pcrl.specs.Result.{accepted, refusal}
use Rattle.pcrl.specs.Table.{Table}
use Rattle.pcrl.specs.Stream.{encode}
use Rattle.pcrl.specs.Right.{RightTable}
use Rattle.pcrl.specs.Blocks.{file_of_stream, file_of, table_read}
use Rattle.pcrl.specs.Answers.{stream_filed, output_after, stream_read, table_checked}
use Rattle.laws.specs.Questions.{after_passed, question_of_passed}
use Rattle.codec.specs.FileLaws.{read_written}
use Rattle.refusals.specs.declared.Refusal.{Refusal}
use Rattle.refusals.specs.Answered.{Answered}
use Rattle.blocks.specs.Answers.{Filed, Opens}
use Rattle.blocks.proofs.RoundTrip.{written_file}
use Rattle.tables.specs.declared.Index.{Index}
use Rattle.tables.specs.Indexed.{Indexed, TableRead}

-- `Ok n` and `out'` are what `write_file` answers and leaves for a right table's stream: the n bytes written are that table's file.
pub file_written : (T : Table) (out out' : List ℕ) (n : ℕ)
    → Filed (stream_filed (encode T) (length out)) (Ok n) → out' ≡ output_after (stream_filed (encode T) (length out)) out
    → take n out' ≡ file_of T
unfolding file_of
file_written T out out' n ew eo = ap (take n) eo ∙ written_file (encode T) out n ew

-- They are accepted, as that table: `wizbratel_check_table` answers 0 for them.
pub written_accepted : (T : Table) → RightTable T → (out out' : List ℕ) (n : ℕ)
    → Filed (stream_filed (encode T) (length out)) (Ok n) → out' ≡ output_after (stream_filed (encode T) (length out)) out
    → (table_checked (take n out') ≡ accepted T) × (refusal (table_checked (take n out')) ≡ 0)
unfolding refusal
written_accepted T ok out out' n ew eo =
    let e : table_checked (take n out') ≡ accepted T = ap table_checked (file_written T out out' n ew eo) ∙ read_written T ok in
    (e, ap refusal e)

there : (T : Table) (l : List ℕ) (t : Option Index) → TableRead (O.some T) l t → (i : Index) × (t ≡ Some i) × Indexed T l i
unfolding TableRead
there T l (Some i) k = (i, refl, k)
there T l None k = absurd k

-- `r` and `lent` are what `read_file` answers and leaves for a file that is accepted as T, and `t` what `read_table` answers for the stream: it is T's index.
pub read_as_table : (T : Table) (file : List ℕ) → table_checked file ≡ accepted T → (r : Result ℕ Refusal) (lent : List ℕ) → Opens (stream_read file) r lent
    → (n : ℕ) × (r ≡ Ok n) × ((t : Option Index) → TableRead (table_read (take n lent)) (take n lent) t → (i : Index) × (t ≡ Some i) × Indexed T (take n lent) i)
unfolding table_checked Answered
read_as_table T file e r lent h =
    let (s, es, e') = after_passed (stream_read file) _ T e in
    let (U, eu, e'') = question_of_passed 14 (table_read s) _ T e' in
    let q : U ≡ T = cc in
    go s (eu ∙ ap O.some q) r (subst (λ (x : R.Result (List ℕ)). Opens x r lent) es h)
  where
    go : (s : List ℕ) → table_read s ≡ O.some T → (r : Result ℕ Refusal) → Opens (accepted s) r lent
        → (n : ℕ) × (r ≡ Ok n) × ((t : Option Index) → TableRead (table_read (take n lent)) (take n lent) t → (i : Index) × (t ≡ Some i) × Indexed T (take n lent) i)
    go s z (Ok n) o = (n, refl, λ t k. there T (take n lent) t (subst (λ (x : O.Option Table). TableRead x (take n lent) t) (ap table_read o.1 ∙ z) k))
    go s z (Err e) o = absurd o
