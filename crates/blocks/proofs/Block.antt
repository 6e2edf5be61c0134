-- A block, by what its four lent parts came back as; and a block's parts, by the block that they are of.
use mathlib.Core.Path.{◌≡◌, ◌∙◌, ap, ap₂}
use mathlib.Core.List.{List, ◌++◌, append_assoc, append-nil}
use Prim.Native.Nat.{ℕ, ◌+◌, ◌-◌, ◌≤◌}
use native.Mathlib.Omega.{arith}
use borrow.Rule.Slice.PartMut.{put_mid}
use lib.ListN.{length, take, drop, replicate, length-append, length-replicate, drop_of_length-le}
use lib.Seq.{take_at}
use Rattle.pcrl.specs.Blocks.{block_bytes, block_stream, low_first, high_first, crc, block_body, block}
use Rattle.blocks.proofs.Fronts.{Front, front_more, front_length, length_part}

module _ (xs st h s z t : List ℕ) (number count x : ℕ) (len : length xs ≡ block_bytes) (fits : length st ≤ block_stream) where
  abbrev at : ℕ
  at = 4 + length st

  -- the block after its head, its stream bytes and its zeros
  abbrev ys₁ : List ℕ
  ys₁ = put_mid 0 4 xs h

  abbrev ys₂ : List ℕ
  ys₂ = put_mid 4 (at - 4) ys₁ s

  abbrev ys₃ : List ℕ
  ys₃ = put_mid at (510 - at) ys₂ z

  -- Head, stream bytes, zeros and check, each written over its part, make the block.
  pub block_written :
      h ≡ low_first number ++ low_first count
      → s ≡ st
      → z ≡ replicate (length (take (510 - at) (drop at ys₂))) 0
      → x ≡ crc (take 510 (drop 0 ys₃))
      → t ≡ high_first x
      → put_mid 510 2 ys₃ t ≡ block number count st
  unfolding block block_body
  block_written eh es ez ex et =
      let h4 : length h ≡ 4 = ap length eh in
      let f₁ : Front xs h ys₁ = rw h4 in
      let l₁ : length ys₁ ≡ 512 = front_length xs h ys₁ f₁ (omega arith) ∙ len in
      let f₂ : Front xs (h ++ s) ys₂ = front_more xs h s ys₁ 4 (at - 4) f₁ h4 (omega (arith, ap length es)) in
      let l₂ : length (h ++ s) ≡ at = omega (arith, length-append h s, ap length es) in
      let l₂' : length ys₂ ≡ 512 = front_length xs (h ++ s) ys₂ f₂ (omega arith) ∙ len in
      let ez' : z ≡ replicate (510 - at) 0 = ez ∙ ap (λ (k : ℕ). replicate k 0) (length_part at (510 - at) ys₂ (omega arith)) in
      let lz : length z ≡ 510 - at = ap length ez' ∙ length-replicate (510 - at) 0 in
      let f₃ : Front xs ((h ++ s) ++ z) ys₃ = front_more xs (h ++ s) z ys₂ at (510 - at) f₂ l₂ lz in
      let l₃ : length ((h ++ s) ++ z) ≡ 510 = omega (arith, length-append (h ++ s) z, l₂, lz) in
      let left : 510 - at ≡ 506 - length st = omega arith in
      let body : (h ++ s) ++ z ≡ block_body number count st =
      append_assoc h s z ∙ ap₂ (λ (p r : List ℕ). p ++ r) eh (ap₂ (λ (p r : List ℕ). p ++ r) es (ez' ∙ ap (λ (k : ℕ). replicate k 0) left)) in
      let ex' : x ≡ crc (block_body number count st) = ex ∙ ap crc (ap (take 510) f₃ ∙ take_at ((h ++ s) ++ z) (drop (length ((h ++ s) ++ z)) xs) 510 l₃ ∙ body) in
      let f₄ : Front xs (((h ++ s) ++ z) ++ t) (put_mid 510 2 ys₃ t) = front_more xs ((h ++ s) ++ z) t ys₃ 510 2 f₃ l₃ (ap length et) in
      let l₄ : length (((h ++ s) ++ z) ++ t) ≡ 512 = omega (arith, length-append ((h ++ s) ++ z) t, l₃, ap length et) in
      f₄ ∙ ap (λ (l : List ℕ). (((h ++ s) ++ z) ++ t) ++ l) (drop_of_length-le xs {i = length (((h ++ s) ++ z) ++ t)} (omega arith)) ∙ append-nil (((h ++ s) ++ z) ++ t) ∙ ap₂ (λ (p r : List ℕ). p ++ r) body (et ∙ ap high_first ex')
