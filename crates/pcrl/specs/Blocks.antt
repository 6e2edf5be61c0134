-- Blocks of 512 bytes, their check, and reading a table's file: questions 11 to 14.
use Rattle.std.specs.Prelude.{◌≡◌, List, [], ◌∷◌, ◌++◌, true, false, ℕ, ◌+◌, ◌-◌, ◌*◌, ◌/◌, ◌%◌, ◌≤◌, ltb, length, take, drop, replicate}
use Rattle.std.proofs.Math.Option.{Option, none, some}
use Rattle.std.proofs.Math.Decide.{ℕ_discrete, dec_le}
use Rattle.std.specs.Int.Bits.{bit_xor}
use Rattle.pcrl.specs.Tests.{Between, both?, between?, same?, Every, every?}
use Rattle.pcrl.specs.Reader.{Got, missing, found, all}
use Rattle.pcrl.specs.Lists.{tabulate}
use Rattle.pcrl.specs.Table.{Table}
use Rattle.pcrl.specs.Stream.{encode}
use Rattle.pcrl.specs.Decode.{decode}

-- "Each 512 bytes: .. 506 stream bytes"
abbrev pub block_bytes : ℕ
block_bytes = 512

abbrev pub block_stream : ℕ
block_stream = 506

-- "length 512 to 65,536"
abbrev pub max_file : ℕ
max_file = 65536

-- "CRC-16 .. (polynomial hex 1021, start FFFF, nothing reflected or inverted)"
-- The register of 16 bits is shifted by one; where a bit goes out at the top, the polynomial is added.
unfoldable pub crc_bit : ℕ → ℕ
crc_bit x = elim (ltb x 0x8000) [ true ↦ x * 2 | false ↦ bit_xor ((x - 0x8000) * 2) 0x1021 ]

-- a byte goes in at the top
unfoldable pub crc_byte : ℕ → ℕ → ℕ
crc_byte x b = crc_bit (crc_bit (crc_bit (crc_bit (crc_bit (crc_bit (crc_bit (crc_bit (bit_xor x (b * 256)))))))))

unfoldable pub crc_from : ℕ → List ℕ → ℕ
crc_from x [] = x
crc_from x (b ∷ s) = crc_from (crc_byte x b) s

unfoldable pub crc : List ℕ → ℕ
crc s = crc_from 0xFFFF s

-- "two bytes each, low first"
abbrev pub low_first : ℕ → List ℕ
low_first n = n % 256 ∷ n / 256 % 256 ∷ []

-- "high byte first"
abbrev pub high_first : ℕ → List ℕ
high_first n = n / 256 % 256 ∷ n % 256 ∷ []

-- "number (from 0) and block count, two bytes each, low first; 506 stream bytes", zeros behind the stream
unfoldable pub block_body : ℕ → ℕ → List ℕ → List ℕ
block_body number count stream = (low_first number ++ low_first count) ++ (stream ++ replicate (block_stream - length stream) 0)

-- "CRC-16 over the first 510"
unfoldable pub block : ℕ → ℕ → List ℕ → List ℕ
block number count stream = let body = block_body number count stream in body ++ high_first (crc body)

-- "fewest blocks"
unfoldable pub blocks_for : ℕ → ℕ
blocks_for n = (n + (block_stream - 1)) / block_stream

-- f 0, f 1, .., n of them, one after another
unfoldable pub concatenated : ℕ → (ℕ → List ℕ) → List ℕ
concatenated n f = all f (tabulate n (λ i. i))

unfoldable pub file_of_stream : List ℕ → List ℕ
file_of_stream s = let n = blocks_for (length s) in concatenated n (λ i. block i n (take block_stream (drop (i * block_stream) s)))

-- the file of a table
unfoldable pub file_of : Table → List ℕ
file_of T = file_of_stream (encode T)

-- 11: "The lent output long enough for its blocks?"
unfoldable pub Room : List ℕ → ℕ → Type 0
Room file room = length file ≤ room

unfoldable pub room? : (file : List ℕ) (room : ℕ) → Dec (Room file room)
unfolding Room
room? file room = dec_le (length file) room

-- 12: "length 512 to 65,536 and a multiple of 512?"
unfoldable pub RightLength : List ℕ → Type 0
RightLength file = Between block_bytes max_file (length file) × (length file % block_bytes ≡ 0)

unfoldable pub right_length? : (file : List ℕ) → Dec (RightLength file)
unfolding RightLength
right_length? file = both? (between? block_bytes max_file (length file)) (ℕ_discrete (length file % block_bytes) 0)

-- the number of blocks of a file, block i, and its stream bytes
unfoldable pub block_count : List ℕ → ℕ
block_count file = length file / block_bytes

unfoldable pub block_at : List ℕ → ℕ → List ℕ
block_at file i = take block_bytes (drop (i * block_bytes) file)

unfoldable pub stream_at : List ℕ → ℕ → List ℕ
stream_at file i = take block_stream (drop 4 (block_at file i))

-- Number, count and check are those that would be written with the same stream bytes.
unfoldable pub RightBlock : List ℕ → ℕ → Type 0
RightBlock file i = block_at file i ≡ block i (block_count file) (stream_at file i)

-- 13: "each block's number, block count and check right?"
unfoldable pub RightBlocks : List ℕ → Type 0
RightBlocks file = Every (RightBlock file) (tabulate (block_count file) (λ i. i))

unfoldable pub right_blocks? : (file : List ℕ) → Dec (RightBlocks file)
unfolding RightBlocks RightBlock
right_blocks? file = every? (λ i. same? (block_at file i) (block i (block_count file) (stream_at file i))) (tabulate (block_count file) (λ i. i))

unfoldable pub stream_of : List ℕ → List ℕ
stream_of file = concatenated (block_count file) (stream_at file)

-- "fewest blocks, zeros after it": s are the stream bytes of all blocks, rest those behind the table's
unfoldable pub Filled : List ℕ → Table → List ℕ → Type 0
Filled s T rest = (length s ≡ blocks_for (length (encode T)) * block_stream) × Every (λ b. b ≡ 0) rest

unfoldable pub filled? : (s : List ℕ) (T : Table) (rest : List ℕ) → Dec (Filled s T rest)
unfolding Filled
filled? s T rest = both? (ℕ_discrete (length s) (blocks_for (length (encode T)) * block_stream)) (every? (λ b. ℕ_discrete b 0) rest)

unfoldable pub table_in : List ℕ → Got ℕ Table → Option Table
table_in s missing = none
table_in s (found T rest) = elim (filled? s T rest) [ yes h ↦ some T | no h ↦ none ]

-- 14: "the stream of the layout below, within all limits, rightly sorted, fewest blocks, zeros after it?"
unfoldable pub table_read : List ℕ → Option Table
table_read s = table_in s (decode s)
