-- The blocks of a stream, one behind the other, make its file.
use mathlib.Core.Path.{◌≡◌, ap, ◌∙◌}
use mathlib.Core.List.{List, [], ◌∷◌, ◌++◌}
use Prim.Native.Nat.{ℕ, zero, suc, ◌+◌, ◌-◌, ◌*◌, ◌≤◌, ◌<◌, min}
use native.Mathlib.Nat.{suc-min-suc, zero-min}
use native.Mathlib.Omega.{arith}
use lib.ListN.{length, take, drop, length-drop}
use lib.Seq.{take-nil}
use Rattle.pcrl.specs.Blocks.{block_bytes, block_stream, block, blocks_for, file_of_stream}
use Rattle.codec.specs.BlockLaws.{length_block}
use Rattle.codec.specs.FileOfStream.{part, few_bytes}
use Rattle.blocks.proofs.Fronts.{Front, cut, length_cut}
use Rattle.blocks.proofs.Joined.{Laid, laid_more, laid_all}

-- block i of the n blocks of a stream
abbrev pub block_of_stream : List ℕ → ℕ → ℕ → List ℕ
block_of_stream s n i = block i n (part s i)

take_min : (n : ℕ) (l : List ℕ) → take (min n (length l)) l ≡ take n l
take_min zero l = rw (zero-min (length l))
take_min (suc n) [] = take-nil (min (suc n) 0)
take_min (suc n) (x ∷ l) = rw (suc-min-suc n (length l)) (ap (λ (r : List ℕ). x ∷ r) (take_min n l))

-- The bytes from a block's first to its last, or to the end of the stream, are its part.
part_to : (s : List ℕ) (i to : ℕ) → i * 506 ≤ length s → to ≡ min (i * 506 + 506) (length s) → take (to - i * 506) (drop (i * 506) s) ≡ part s i
part_to s i to h e =
    let w : to - i * 506 ≡ min 506 (length (drop (i * 506) s)) = rw (length-drop (i * 506) s) (omega arith) in
    rw w (take_min 506 (drop (i * 506) s))

module _ (s out₀ out : List ℕ) (n i to : ℕ) (en : n ≡ blocks_for (length s)) (room : n * 512 ≤ length out₀) (h : i < n) (eto : to ≡ min (i * 506 + 506) (length s))
    (laid : Laid n (block_of_stream s n) out₀ out i) where
  its_part : take (to - i * 506) (drop (i * 506) s) ≡ part s i
  unfolding blocks_for
  its_part = part_to s i to (omega arith) eto

  -- what the writer of one block asks
  pub block_fits : (length (cut 512 i out) ≡ block_bytes) × (length (take (to - i * 506) (drop (i * 506) s)) ≤ block_stream)
  block_fits = (length_cut 512 i out (omega arith), rw its_part (few_bytes s i))

  -- Block i is written.
  pub write_more : (new : List ℕ) → new ≡ block i n (take (to - i * 506) (drop (i * 506) s))
      → Laid n (block_of_stream s n) out₀ (take (i * 512) out ++ (new ++ drop (i * 512 + 512 - i * 512) (drop (i * 512) out))) (i + 1)
  write_more new e =
      laid_more n 512 (block_of_stream s n) (λ j l. length_block j n (part s j) (few_bytes s j)) out₀ out new i room h laid (e ∙ ap (block i n) its_part)

-- All blocks are written.
pub write_all : (s out₀ out : List ℕ) (n i : ℕ) → n ≡ blocks_for (length s) → n ≤ i → Laid n (block_of_stream s n) out₀ out i → Front out₀ (file_of_stream s) out
unfolding file_of_stream
write_all s out₀ out n i en h laid = rw (← en) (laid_all n (block_of_stream s n) out₀ out i h laid)
