-- The layouts of a file are told apart by the first byte of its stream, which is byte 4 of the file: hex F2, or a count of at most 8 sorts.
use Rattle.std.specs.Prelude.{◌≡◌, refl, List, [], ◌∷◌, ◌++◌, ◌↔◌, ℕ, zero, suc, ◌*◌, ◌≤◌, length, get_or, take, drop}
use Rattle.std.proofs.Common.{ap, ◌∙◌, append_assoc, arith}
use Rattle.pcrl.specs.Result.{accepted}
use Rattle.pcrl.specs.Reader.{all}
use Rattle.pcrl.specs.Lists.{tabulate}
use Rattle.pcrl.specs.Sheet.{Sig}
use Rattle.pcrl.specs.Table.{Layout, with_names, without_names, Table}
use Rattle.pcrl.specs.Stream.{names_code, encode_numbers, encode_sorts, encode_sig, encode}
use Rattle.pcrl.specs.Right.{RightSizes, RightSig, RightTable}
use Rattle.pcrl.specs.Blocks.{block_stream, block_body, block, blocks_for, concatenated, file_of_stream, file_of}
use Rattle.pcrl.specs.Answers.{table_checked}
use Rattle.codec.specs.FileLaws.{stream_begins}
use Rattle.codec.proofs.FileLaws.{written_read}

-- four bytes of a block's number and count, and then the stream
first_of_file : (b : ℕ) (s : List ℕ) → get_or (file_of_stream (b ∷ s)) 4 0 ≡ b
unfolding file_of_stream concatenated all tabulate block block_body blocks_for
first_of_file b s = go (blocks_for (length (b ∷ s))) (omega arith)
  where
    go : (n : ℕ) → 1 ≤ n → get_or (concatenated n (λ i. block i n (take block_stream (drop (i * block_stream) (b ∷ s))))) 4 0 ≡ b
    go zero h = absurd (omega arith)
    go (suc n) h = refl

same_first : (s : List ℕ) → 1 ≤ length s → get_or (file_of_stream s) 4 0 ≡ get_or s 0 0
same_first [] h = absurd (omega arith)
same_first (b ∷ s) h = first_of_file b s

-- what a stream begins with
first_sorts : (L : Layout) (S : Sig) → RightSig S → (rest : List ℕ) → (L ≡ with_names) ↔ (get_or (encode_sorts L S ++ rest) 0 0 ≡ names_code)
unfolding encode_sorts encode_numbers RightSig RightSizes
first_sorts with_names S ok rest = (λ e. refl, λ e. refl)
first_sorts without_names S ok rest = (λ e. absurd (let z : ◌≡◌ {A = ℕ} 0 1 = cc in omega arith), λ e. absurd (let k = ok.0.0.0.1 in omega arith))

first_byte : (T : Table) → RightTable T → (T.layout ≡ with_names) ↔ (get_or (encode T) 0 0 ≡ names_code)
unfolding encode encode_sig RightTable
first_byte T right = rw (append_assoc (encode_sorts T.layout T.sig) _ _) (first_sorts T.layout T.sig right.0.0 _)

-- A FILE HAS HEX F2 EXACTLY IF ITS TABLE HAS THE LAYOUT WITH NAMES.
pub layout_of_file : (f : List ℕ) (T : Table) → table_checked f ≡ accepted T → (T.layout ≡ with_names) ↔ (get_or f 4 0 ≡ names_code)
unfolding file_of
layout_of_file f T e =
    let (same, right) = written_read f T e in
    let first : get_or f 4 0 ≡ get_or (encode T) 0 0 = ap (λ (l : List ℕ). get_or l 4 0) same ∙ same_first (encode T) (stream_begins T) in
    rw first (first_byte T right)
