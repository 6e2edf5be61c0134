-- What is accepted as a table is, byte for byte, the file that would be written for it.
use Rattle.std.specs.Prelude.{◌≡◌, List, ℕ, length}
use Rattle.std.proofs.Common.{sym, ap, subst, ◌∙◌, arith}
use Rattle.std.proofs.Math.Option.{none, some}
use Rattle.pcrl.specs.Result.{accepted}
use Rattle.pcrl.specs.Reader.{Got, missing, found}
use Rattle.pcrl.specs.Table.{Table}
use Rattle.pcrl.specs.Stream.{encode}
use Rattle.pcrl.specs.Right.{RightTable}
use Rattle.pcrl.specs.Decode.{decode}
use Rattle.pcrl.specs.Blocks.{file_of, right_length?, right_blocks?, stream_of, Filled, filled?, table_in, table_read}
use Rattle.pcrl.specs.Answers.{stream_read, table_checked}
use Rattle.laws.specs.Questions.{question_passed, question_of_passed, after_passed}
use Rattle.codec.specs.StreamLaws.{encode_decode}
use Rattle.codec.specs.FileOfStream.{fewest_blocks, file_is_written}

found_table : (s : List ℕ) (g : Got ℕ Table) (T : Table) → table_in s g ≡ some T → (rest : List ℕ) × (g ≡ found T rest) × Filled s T rest
unfolding table_in
found_table s missing T e = absurd (let z : ◌≡◌ {A = ℕ} 0 1 = cc in omega arith)
found_table s (found U rest) T e = go (filled? s U rest) e
  where
    go : (d : Dec (Filled s U rest)) → elim d [ yes h ↦ some U | no h ↦ none ] ≡ some T → (rest' : List ℕ) × (found U rest ≡ found T rest') × Filled s T rest'
    go (yes h) e = let q : U ≡ T = cc in (rest, ap (λ (x : Table). found x rest) q, subst (λ (x : Table). Filled s x rest) q h)
    go (no h) e = absurd (let z : ◌≡◌ {A = ℕ} 0 1 = cc in omega arith)

-- What is accepted as a table is the file of that table, and the table is right.
pub written_read : (f : List ℕ) (T : Table) → table_checked f ≡ accepted T → (f ≡ file_of T) × RightTable T
unfolding table_checked stream_read table_read file_of Filled
written_read f T e =
    let (s, e₀, e') = after_passed (stream_read f) _ T e in
    let (right, e₁) = question_passed 12 (right_length? f) _ s e₀ in
    let (blocks, e₂) = question_passed 13 (right_blocks? f) _ s e₁ in
    let z : stream_of f ≡ s = cc in
    let (U, e₃, e₄) = question_of_passed 14 (table_read s) _ T e' in
    let q : U ≡ T = cc in
    let (rest, e₅, filled) = found_table s (decode s) T (e₃ ∙ ap some q) in
    let (w, h) = encode_decode s T rest e₅ in
    (file_is_written f right (encode T) rest blocks (z ∙ w) (fewest_blocks f right (encode T) (ap length z ∙ filled.0)) filled.1, h)

-- Two files that are accepted as one table are one file.
pub one_file : (f g : List ℕ) (T : Table) → table_checked f ≡ accepted T → table_checked g ≡ accepted T → f ≡ g
one_file f g T e e' = (written_read f T e).0 ∙ sym (written_read g T e').0
