-- One block: its length, its stream bytes, and that zeros behind a stream make no other block.
use Rattle.std.specs.Prelude.{◌≡◌, refl, List, ◌++◌, ℕ, ◌≤◌, length, take, drop}
use Rattle.std.proofs.Common.{length-append, take_at}
use Rattle.pcrl.specs.Stack.{padded}
use Rattle.pcrl.specs.Blocks.{block_bytes, block_stream, crc, low_first, high_first, block_body, block}
use Rattle.codec.specs.Padding.{length_padded, padded_full}

pub block_is : (number count : ℕ) (s : List ℕ) → block number count s ≡ ((low_first number ++ low_first count) ++ padded block_stream s) ++ high_first (crc ((low_first number ++ low_first count) ++ padded block_stream s))
unfolding block block_body padded
block_is number count s = refl

pub length_block : (number count : ℕ) (s : List ℕ) → length s ≤ block_stream → length (block number count s) ≡ block_bytes
length_block number count s h =
    let body : List ℕ = (low_first number ++ low_first count) ++ padded block_stream s in
    rw (block_is number count s, length-append (padded block_stream s) (high_first (crc body)), length_padded block_stream s h)

pub stream_of_block : (number count : ℕ) (s : List ℕ) → length s ≤ block_stream → take block_stream (drop 4 (block number count s)) ≡ padded block_stream s
stream_of_block number count s h =
    let body : List ℕ = (low_first number ++ low_first count) ++ padded block_stream s in
    rw (block_is number count s) (take_at (padded block_stream s) (high_first (crc body)) block_stream (length_padded block_stream s h))

pub block_padded : (number count : ℕ) (s : List ℕ) → length s ≤ block_stream → block number count (padded block_stream s) ≡ block number count s
block_padded number count s h =
    rw (block_is number count (padded block_stream s), block_is number count s, padded_full block_stream (padded block_stream s) (length_padded block_stream s h))
