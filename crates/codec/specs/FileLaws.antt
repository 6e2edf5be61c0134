-- A table's file is accepted as that table, and what is accepted as a table is, byte for byte, the file that would be written for it.
use Rattle.std.specs.Prelude.{◌≡◌, refl, List, ◌++◌, ℕ, ◌≤◌, length}
use Rattle.std.proofs.Common.{sym, ap, ◌∙◌, arith, length-append}
use Rattle.std.proofs.Math.Option.{none, some}
use Rattle.pcrl.specs.Limits.{max_stream}
use Rattle.pcrl.specs.Result.{accepted}
use Rattle.pcrl.specs.Reader.{Got, found}
use Rattle.pcrl.specs.Sheet.{Sig}
use Rattle.pcrl.specs.Table.{Layout, with_names, without_names, Table}
use Rattle.pcrl.specs.Stream.{encode_numbers, encode_list, encode_sorts, encode_func, encode_action, encode_sig, encode_equations, encode_start, encode}
use Rattle.pcrl.specs.Right.{RightTable}
use Rattle.pcrl.specs.Decode.{decode}
use Rattle.pcrl.specs.Blocks.{file_of, right_length?, right_blocks?, stream_of, Filled, filled?, table_in, table_read}
use Rattle.pcrl.specs.Answers.{stream_read, table_checked}
use Rattle.laws.specs.Tests.{where_yes}
use Rattle.laws.specs.Questions.{question_passes, question_of_passes, after_passes}
use Rattle.codec.specs.StreamLaws.{decode_encode}
use Rattle.codec.specs.Padding.{zeros, every_zero}
use Rattle.codec.specs.FileOfStream.{spare, right_length_file, right_blocks_file, stream_of_file, length_stream_of_file}

sorts_begin : (L : Layout) (S : Sig) → 1 ≤ length (encode_sorts L S)
unfolding encode_sorts encode_numbers
sorts_begin with_names S = omega arith
sorts_begin without_names S = omega arith

pub stream_begins : (T : Table) → 1 ≤ length (encode T)
unfolding encode encode_sig
stream_begins T =
    let sorts = encode_sorts T.layout T.sig in
    let declared = encode_list encode_func T.sig.funcs ++ encode_list encode_action T.sig.acts in
    let n = length-append (sorts ++ declared) (encode_equations T.equations ++ encode_start T.start) in
    let m = length-append sorts declared in
    omega (arith, sorts_begin T.layout T.sig)

stream_short : (T : Table) → RightTable T → length (encode T) ≤ max_stream
unfolding RightTable
stream_short T h = h.1.1

table_found : (s : List ℕ) (g : Got ℕ Table) (T : Table) (rest : List ℕ) → g ≡ found T rest → Filled s T rest → table_in s g ≡ some T
unfolding table_in
table_found s g T rest e h = rw e (where_yes (filled? s T rest) h (some T) none)

-- 14: the table of its own file's stream
table_of_file : (T : Table) → RightTable T → table_read (stream_of (file_of T)) ≡ some T
unfolding table_read file_of Filled
table_of_file T h =
    table_found (stream_of (file_of T)) (decode (stream_of (file_of T))) T (zeros (spare (encode T)))
    (ap decode (stream_of_file (encode T)) ∙ decode_encode T (zeros (spare (encode T))) h)
    (length_stream_of_file (encode T), every_zero (spare (encode T)))

-- A right table's file is accepted, as that table.
pub read_written : (T : Table) → RightTable T → table_checked (file_of T) ≡ accepted T
unfolding table_checked stream_read file_of
read_written T h =
    after_passes _ _ (stream_of (file_of T)) (accepted T)
    (question_passes 12 (right_length? (file_of T)) _ (accepted (stream_of (file_of T))) (right_length_file (encode T) (stream_begins T) (stream_short T h)) (λ _.
    question_passes 13 (right_blocks? (file_of T)) _ (accepted (stream_of (file_of T))) (right_blocks_file (encode T)) (λ _. refl)))
    (question_of_passes 14 (table_read (stream_of (file_of T))) _ T (table_of_file T h))

-- Different right tables have different files.
pub file_of_injective : (T U : Table) → RightTable T → RightTable U → file_of T ≡ file_of U → T ≡ U
file_of_injective T U h k e =
    let q : accepted T ≡ accepted U = sym (read_written T h) ∙ ap table_checked e ∙ read_written U k in
    cc
