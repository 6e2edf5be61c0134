-- What is written to a right table's file are bytes.
use Rattle.std.specs.Prelude.{List, ℕ, ◌-◌, ◌*◌, ◌<◌, length, take, drop}
use Rattle.std.proofs.Common.{arith}
use Rattle.pcrl.specs.Tests.{Every}
use Rattle.pcrl.specs.Lists.{tabulate}
use Rattle.pcrl.specs.Table.{Table}
use Rattle.pcrl.specs.Right.{RightTable}
use Rattle.pcrl.specs.Stream.{encode}
use Rattle.pcrl.specs.Blocks.{block_stream, crc, low_first, high_first, block_body, block, blocks_for, concatenated, file_of_stream, file_of}
use Rattle.laws.specs.Every.{every_of_all, every_append, every_take, every_drop, every_replicate}
use Rattle.codec.specs.StreamBytes.{Byte}
use Rattle.codec.proofs.StreamBytes.{bytes_all, stream_bytes}

two_bytes : (n : ℕ) → Every Byte (low_first n) × Every Byte (high_first n)
unfolding Every
two_bytes n = ((omega arith, (omega arith, tt)), (omega arith, (omega arith, tt)))

block_is_bytes : (number count : ℕ) (s : List ℕ) → Every Byte s → Every Byte (block number count s)
unfolding block block_body
block_is_bytes number count s h =
    every_append Byte _ _
    (every_append Byte _ _ (every_append Byte _ _ (two_bytes number).0 (two_bytes count).0) (every_append Byte _ _ h (every_replicate Byte (block_stream - length s) 0 (omega arith))))
    (two_bytes (crc (block_body number count s))).1

-- Every number of a right table's file is a byte.
pub file_bytes : (T : Table) → RightTable T → Every (λ b. b < 256) (file_of T)
unfolding file_of file_of_stream concatenated
file_bytes T h =
    let s : List ℕ = encode T in
    let n : ℕ = blocks_for (length s) in
    bytes_all _ (λ i (k : Unit {0}). block_is_bytes i n (take block_stream (drop (i * block_stream) s)) (every_take Byte block_stream _ (every_drop Byte (i * block_stream) s (stream_bytes T h))))
    (tabulate n (λ i. i)) (every_of_all _ (λ i. tt) (tabulate n (λ i. i)))
