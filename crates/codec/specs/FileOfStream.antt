-- The file of a stream is right block for block and gives the stream back with zeros behind it;
-- and a file that is right block for block, in the fewest blocks, is the file of its stream.
use Rattle.std.specs.Prelude.{◌≡◌, take, drop}
use Rattle.std.proofs.Math.Path.{sym, ap}
use Rattle.std.proofs.Common.{◌∙◌, length-take, length-drop}
use mathlib.Core.List.{List, ◌++◌}
use Prim.Native.Nat.{ℕ, ◌+◌, ◌-◌, ◌*◌, ◌<◌, ◌≤◌}
use native.Mathlib.Omega.{arith}
use Rattle.std.proofs.Math.ListN.{length, length-append, length-replicate}
use Rattle.std.proofs.Math.Seq.{length-take-le}
use Rattle.pcrl.specs.Limits.{max_stream}
use Rattle.pcrl.specs.Tests.{Every}
use Rattle.pcrl.specs.Stack.{padded}
use Rattle.pcrl.specs.Blocks.{block_bytes, block_stream, block, blocks_for, concatenated, file_of_stream, RightLength, block_count, block_at, stream_at, RightBlock, RightBlocks, stream_of}
use Rattle.codec.specs.Cut.{every_tabulate, every_tabulated, concatenated_alike, length_joined, part_of_joined, concatenated_parts}
use Rattle.codec.specs.Padding.{zeros, zeros_of_every, part_padded}
use Rattle.codec.specs.BlockLaws.{length_block, stream_of_block, block_padded}

-- the stream bytes of block i
abbrev pub part : List ℕ → ℕ → List ℕ
part s i = take block_stream (drop (i * block_stream) s)

pub few_bytes : (s : List ℕ) (i : ℕ) → length (part s i) ≤ block_stream
few_bytes s i = rw (length-take block_stream (drop (i * block_stream) s)) (omega arith)

blocks_hold : (n : ℕ) → n ≤ blocks_for n * block_stream
unfolding blocks_for
blocks_hold n = omega arith

-- WHAT IS WRITTEN

module _ (s : List ℕ) where
  -- the zeros behind the stream in the last block
  unfoldable pub spare : ℕ
  spare = blocks_for (length s) * block_stream - length s

  pub length_file : length (file_of_stream s) ≡ blocks_for (length s) * block_bytes
  unfolding file_of_stream
  length_file = length_joined (blocks_for (length s)) block_bytes _ (λ i h. length_block i (blocks_for (length s)) (part s i) (few_bytes s i))

  pub block_count_file : block_count (file_of_stream s) ≡ blocks_for (length s)
  unfolding block_count
  block_count_file = rw length_file (omega arith)

  block_at_file : (i : ℕ) → i < blocks_for (length s) → block_at (file_of_stream s) i ≡ block i (blocks_for (length s)) (part s i)
  unfolding block_at file_of_stream
  block_at_file i h = part_of_joined (blocks_for (length s)) block_bytes _ (λ i h. length_block i (blocks_for (length s)) (part s i) (few_bytes s i)) i h

  stream_at_file : (i : ℕ) → i < blocks_for (length s) → stream_at (file_of_stream s) i ≡ padded block_stream (part s i)
  unfolding stream_at
  stream_at_file i h = rw (block_at_file i h) (stream_of_block i (blocks_for (length s)) (part s i) (few_bytes s i))

  -- 12
  pub right_length_file : 1 ≤ length s → length s ≤ max_stream → RightLength (file_of_stream s)
  unfolding RightLength blocks_for
  right_length_file h k = rw length_file ((omega arith, omega arith), omega arith)

  -- 13
  pub right_blocks_file : RightBlocks (file_of_stream s)
  unfolding RightBlocks RightBlock
  right_blocks_file =
      every_tabulate (RightBlock (file_of_stream s)) (block_count (file_of_stream s)) (λ i. i) (λ i h.
      let k : i < blocks_for (length s) = omega (arith, block_count_file) in
      rw (block_at_file i k, stream_at_file i k, block_count_file) (sym (block_padded i (blocks_for (length s)) (part s i) (few_bytes s i))))

  -- the stream of the file is the stream, and zeros
  pub stream_of_file : stream_of (file_of_stream s) ≡ s ++ zeros spare
  unfolding stream_of spare
  stream_of_file =
      let n : ℕ = blocks_for (length s) in
      let whole : List ℕ = s ++ zeros (n * block_stream - length s) in
      let l : length whole ≡ n * block_stream = rw (length-append s (zeros (n * block_stream - length s)), length-replicate {A = ℕ} (n * block_stream - length s) 0) (omega (arith, blocks_hold (length s))) in
      ap (λ (m : ℕ). concatenated m (stream_at (file_of_stream s))) block_count_file
      ∙ concatenated_alike n (stream_at (file_of_stream s)) (part whole) (λ i h. stream_at_file i h ∙ sym (part_padded (i * block_stream) block_stream s (n * block_stream - length s) (omega (arith, blocks_hold (length s)))))
      ∙ concatenated_parts n block_stream whole l

  -- as many bytes as the fewest blocks hold
  pub length_stream_of_file : length (stream_of (file_of_stream s)) ≡ blocks_for (length s) * block_stream
  unfolding spare
  length_stream_of_file = ap length stream_of_file ∙ length-append s (zeros spare) ∙ rw (length-replicate {A = ℕ} spare 0) (omega (arith, blocks_hold (length s)))

-- WHAT IS READ

module _ (f : List ℕ) (right : RightLength f) where
  length_of_count : length f ≡ block_count f * block_bytes
  unfolding RightLength block_count
  length_of_count = omega arith

  length_block_at : (i : ℕ) → i < block_count f → length (block_at f i) ≡ block_bytes
  unfolding block_at
  length_block_at i h = length-take-le block_bytes (drop (i * block_bytes) f) (rw (length-drop (i * block_bytes) f) (omega (arith, length_of_count)))

  pub length_stream_at : (i : ℕ) → i < block_count f → length (stream_at f i) ≡ block_stream
  unfolding stream_at
  length_stream_at i h = length-take-le block_stream (drop 4 (block_at f i)) (rw (length-drop 4 (block_at f i)) (omega (arith, length_block_at i h)))

  -- the fewest blocks, said of the stream's length
  pub fewest_blocks : (s : List ℕ) → length (stream_of f) ≡ blocks_for (length s) * block_stream → block_count f ≡ blocks_for (length s)
  unfolding stream_of
  fewest_blocks s e = let l : length (concatenated (block_count f) (stream_at f)) ≡ block_count f * block_stream = length_joined (block_count f) block_stream (stream_at f) length_stream_at in omega arith

  -- the stream bytes of block i, where the file's stream is s and zeros
  stream_at_is : (s rest : List ℕ) → stream_of f ≡ s ++ rest → Every (λ b. b ≡ 0) rest → (i : ℕ) → i < block_count f → stream_at f i ≡ padded block_stream (part s i)
  unfolding stream_of
  stream_at_is s rest e h i k =
      let n : ℕ = block_count f in
      let m : ℕ = length rest in
      let whole : stream_of f ≡ s ++ zeros m = e ∙ ap (λ (r : List ℕ). s ++ r) (zeros_of_every rest h) in
      let l : length s + m ≡ n * block_stream = sym (length-append s rest) ∙ ap length (sym e) ∙ length_joined n block_stream (stream_at f) length_stream_at in
      sym (part_of_joined n block_stream (stream_at f) length_stream_at i k)
      ∙ ap (λ (x : List ℕ). part x i) whole
      ∙ part_padded (i * block_stream) block_stream s m (omega arith)

  -- A file that is right block for block is the file of its stream, where its blocks are the fewest and zeros stand behind the stream.
  pub file_is_written : (s rest : List ℕ) → RightBlocks f → stream_of f ≡ s ++ rest → block_count f ≡ blocks_for (length s) → Every (λ b. b ≡ 0) rest → f ≡ file_of_stream s
  unfolding RightBlocks RightBlock file_of_stream block_at
  file_is_written s rest blocks e fewest h =
      let n : ℕ = block_count f in
      let same : n ≡ blocks_for (length s) = omega arith in
      let written : (i : ℕ) → i < n → block_at f i ≡ block i n (part s i) =
      λ i k. every_tabulated (RightBlock f) n (λ i. i) blocks i k ∙ ap (block i n) (stream_at_is s rest e h i k) ∙ block_padded i n (part s i) (few_bytes s i) in
      sym (concatenated_parts n block_bytes f length_of_count)
      ∙ concatenated_alike n (block_at f) (λ i. block i n (part s i)) written
      ∙ ap (λ (m : ℕ). concatenated m (λ i. block i m (part s i))) same
