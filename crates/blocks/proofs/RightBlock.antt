-- A block of 512 bytes is the one that is written with its own stream bytes just where its number, its count and its check,
-- each a number of two bytes, are the right ones.
use mathlib.Core.Path.{◌≡◌, refl, sym, ◌∙◌, ap, ap₂}
use mathlib.Core.List.{List, [], ◌∷◌, ◌++◌}
use Prim.Native.Nat.{ℕ, ◌+◌, ◌*◌, ◌/◌, ◌%◌, ◌≤◌, ◌<◌}
use native.Mathlib.Nat.{mod-eq_of_lt}
use native.Mathlib.Omega.{arith}
use lib.ListN.{length, take, drop, get_or, length-append, length-drop, take-append-drop}
use lib.Seq.{length-take-le, take-add, take_at, drop_at, get_or-drop}
use Rattle.pcrl.specs.Blocks.{block_bytes, block_stream, low_first, high_first, crc, block}
use Rattle.laws.specs.Places.{two_elements}
use Rattle.codec.specs.Padding.{padded_full}
use Rattle.codec.specs.BlockLaws.{block_is}

take_four : (l : List ℕ) → 4 ≤ length l → take 4 l ≡ get_or l 0 0 ∷ get_or l 1 0 ∷ get_or l 2 0 ∷ get_or l 3 0 ∷ []
take_four [] h = absurd (omega arith)
take_four (a ∷ []) h = absurd (omega arith)
take_four (a ∷ b ∷ []) h = absurd (omega arith)
take_four (a ∷ b ∷ c ∷ []) h = absurd (omega arith)
take_four (a ∷ b ∷ c ∷ d ∷ l) h = refl

-- the number that two bytes of a list are
abbrev pub two : List ℕ → ℕ → ℕ → ℕ
two b low high = get_or b low 0 + get_or b high 0 * 256

bytes_of_number : (low high n : ℕ) → low < 256 → high < 256 → low + high * 256 ≡ n → (low ≡ n % 256) × (high ≡ n / 256 % 256)
bytes_of_number low high n hl hh e = let q : n / 256 ≡ high = omega arith in (omega arith, sym (ap (λ (x : ℕ). x % 256) q ∙ mod-eq_of_lt hh))

module _ (b : List ℕ) (number count : ℕ) (len : length b ≡ block_bytes) where
  -- its stream bytes, its head and what is before its check
  abbrev pub own : List ℕ
  own = take block_stream (drop 4 b)

  abbrev head : List ℕ
  head = low_first number ++ low_first count

  abbrev body : List ℕ
  body = head ++ own

  length_own : length own ≡ block_stream
  length_own = length-take-le block_stream (drop 4 b) (simp length-drop (omega arith))

  -- the block that would be written
  written : block number count own ≡ body ++ high_first (crc body)
  written = block_is number count own ∙ ap (λ (l : List ℕ). (head ++ l) ++ high_first (crc (head ++ l))) (padded_full block_stream own length_own)

  length_body : length body ≡ 510
  length_body = omega (arith, length-append head own, length_own)

  before_check : take 510 b ≡ take 4 b ++ own
  before_check = take-add 4 506 b

  check_at : drop 510 b ≡ get_or b 510 0 ∷ get_or b 511 0 ∷ []
  check_at = two_elements (drop 510 b) (simp length-drop (omega arith)) ∙ ap₂ (λ (x y : ℕ). x ∷ y ∷ []) (get_or-drop 510 b 0 0) (get_or-drop 510 b 1 0)

  -- What a right block shows.
  module _ (e : b ≡ block number count own) where
    heads : take 4 b ≡ head
    heads = ap (take 4) (e ∙ written)

    bodies : take 510 b ≡ body
    bodies = ap (take 510) (e ∙ written) ∙ take_at body (high_first (crc body)) 510 length_body

    checks : drop 510 b ≡ high_first (crc (take 510 b))
    checks = ap (drop 510) (e ∙ written) ∙ drop_at body (high_first (crc body)) 510 length_body ∙ ap (λ (l : List ℕ). high_first (crc l)) (sym bodies)

    pub right_number : number < 65536 → two b 0 1 ≡ number
    right_number h =
        let q = sym (take_four b (omega arith)) ∙ heads in
        let q₀ : get_or b 0 0 ≡ number % 256 = cc in
        let q₁ : get_or b 1 0 ≡ number / 256 % 256 = cc in
        omega arith

    pub right_count : count < 65536 → two b 2 3 ≡ count
    right_count h =
        let q = sym (take_four b (omega arith)) ∙ heads in
        let q₀ : get_or b 2 0 ≡ count % 256 = cc in
        let q₁ : get_or b 3 0 ≡ count / 256 % 256 = cc in
        omega arith

    pub right_check : crc (take 510 b) < 65536 → crc (take 510 b) ≡ two b 511 510
    right_check h =
        let q = sym check_at ∙ checks in
        let q₀ : get_or b 510 0 ≡ crc (take 510 b) / 256 % 256 = cc in
        let q₁ : get_or b 511 0 ≡ crc (take 510 b) % 256 = cc in
        omega arith

  -- Where all three are right, the block is.
  pub right_block : ((i : ℕ) → get_or b i 0 < 256) → two b 0 1 ≡ number → two b 2 3 ≡ count → crc (take 510 b) ≡ two b 511 510 → b ≡ block number count own
  right_block small en ec ex =
      let (q₀, q₁) = bytes_of_number (get_or b 0 0) (get_or b 1 0) number (small 0) (small 1) en in
      let (q₂, q₃) = bytes_of_number (get_or b 2 0) (get_or b 3 0) count (small 2) (small 3) ec in
      let (q₅, q₄) = bytes_of_number (get_or b 511 0) (get_or b 510 0) (crc (take 510 b)) (small 511) (small 510) (sym ex) in
      let eh : take 4 b ≡ head = take_four b (omega arith) ∙ cc in
      let eb : take 510 b ≡ body = before_check ∙ ap (λ (l : List ℕ). l ++ own) eh in
      let et : drop 510 b ≡ high_first (crc (take 510 b)) = check_at ∙ cc in
      sym (take-append-drop 510 b) ∙ ap₂ (λ (p r : List ℕ). p ++ r) eb (et ∙ ap (λ (l : List ℕ). high_first (crc l)) eb) ∙ sym written
