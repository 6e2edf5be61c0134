-- The frames of a new stack while the calls are put in, from the top down.
use mathlib.Core.Path.{◌≡◌, refl, sym, ◌∙◌, ap}
use mathlib.Core.List.{List, [], ◌∷◌, ◌++◌, append_assoc, reverse, reverse-append, reverse-reverse}
use Prim.Native.Nat.{ℕ, zero, suc, ◌+◌, ◌-◌, ◌*◌, ◌/◌, ◌≤◌, ◌<◌}
use native.Mathlib.Omega.{arith}
use native.Mathlib.Numerals.{add-one}
use native.Mathlib.Nat.{sub-zero}
use lib.ListN.{length, get_or, drop, take, set, replicate, length-append, length-reverse, length-replicate, replicate-append-replicate}
use lib.Seq.{take-suc, set_at, set_split, length-take-le, take-length}
use Rattle.pcrl.specs.Stack.{Frame, zero_frame, frames_of, stack_of}
use Rattle.laws.specs.Lists.{length_tabulate, get_d_tabulate}
use Rattle.stacks.specs.Lent.{frame_bytes, frame_at, frames_at, frames_in}
use Rattle.stacks.proofs.Views.{no_frame, length_frames_in}

module _ (width limit : ℕ) where
  unfoldable pub zeros : ℕ → List Frame
  zeros n = replicate n (zero_frame width)

  -- i of the calls are put in above `low`
  unfoldable pub filling : List Frame → ℕ → ℕ → List Frame → List Frame
  filling low n i made = low ++ (zeros (n - i) ++ (reverse (take i made) ++ zeros (limit - (length low + n))))

  zeros_more : (n : ℕ) → zeros (suc n) ≡ zeros n ++ (zero_frame width ∷ [])
  unfolding zeros
  zeros_more zero = refl
  zeros_more (suc n) = ap (λ (l : List Frame). zero_frame width ∷ l) (zeros_more n)

  zeros_length : (n : ℕ) → length (zeros n) ≡ n
  unfolding zeros
  zeros_length n = length-replicate n (zero_frame width)

  zeros_add : (m n : ℕ) → zeros m ++ zeros n ≡ zeros (m + n)
  unfolding zeros
  zeros_add m n = replicate-append-replicate m n (zero_frame width)

  pub filling_start : (fs made : List Frame) (d n : ℕ) → length fs ≡ limit → 0 < d → d ≤ limit → d + n ≤ limit + 1 → drop d fs ≡ replicate (limit - d) (zero_frame width)
      → set fs (d - 1) (zero_frame width) ≡ filling (take (d - 1) fs) n 0 made
  unfolding filling zeros
  filling_start fs made d n len p h k z =
      let e : suc (d - 1) ≡ d = omega arith in
      let l : length (take (d - 1) fs) ≡ d - 1 = length-take-le (d - 1) fs (omega arith) in
      let q : n + (limit - (d - 1 + n)) ≡ suc (limit - d) = omega arith in
      let w : zero_frame width ∷ drop d fs ≡ zeros n ++ zeros (limit - (length (take (d - 1) fs) + n)) = rw (l, z) (sym (zeros_add n (limit - (d - 1 + n)) ∙ ap zeros q)) in
      set_split fs (d - 1) (zero_frame width) (omega arith) ∙ ap (λ (x : ℕ). take (d - 1) fs ++ zero_frame width ∷ drop x fs) e ∙ ap (λ (x : List Frame). take (d - 1) fs ++ x) (w ∙ ap (λ (x : ℕ). zeros x ++ zeros (limit - (length (take (d - 1) fs) + n))) (sym (sub-zero n)))

  pub filling_step : (low made : List Frame) (n i at : ℕ) → i < n → i < length made → at ≡ length low + (n - 1 - i) → set (filling low n i made) at (get_or made i no_frame) ≡ filling low n (i + 1) made
  unfolding filling
  filling_step low made n i at h k e =
      let m : n - i ≡ suc (n - (i + 1)) = omega arith in
      let x = get_or made i no_frame in
      let zs = zeros (limit - (length low + n)) in
      let p = low ++ zeros (n - (i + 1)) in
      let pl : length p ≡ at = simp (length-append, zeros_length) (omega arith) in
      let before : low ++ (zeros (n - i) ++ (reverse (take i made) ++ zs)) ≡ p ++ (zero_frame width ∷ (reverse (take i made) ++ zs)) =
      rw (m, zeros_more (n - (i + 1))) (simp append_assoc refl) in
      let top : reverse (take (i + 1) made) ≡ x ∷ reverse (take i made) = rw (add-one i, take-suc made i no_frame k) (reverse-append (take i made) (x ∷ [])) in
      ap (λ (l : List Frame). set l at x) before ∙ set_at p (zero_frame width) (reverse (take i made) ++ zs) x at pl
      ∙ rw top (simp append_assoc refl)

  pub filling_end : (fs made : List Frame) (d n : ℕ) → length fs ≡ limit → 0 < d → d ≤ limit → n ≡ length made → filling (take (d - 1) fs) n n made ≡ frames_of width limit (made ++ drop 1 (stack_of fs d))
  unfolding filling frames_of stack_of zeros
  filling_end fs made d n len p h k =
      let l : length (take (d - 1) fs) ≡ d - 1 = length-take-le (d - 1) fs (omega arith) in
      let whole : take n made ≡ made = ap (λ (x : ℕ). take x made) k ∙ take-length made in
      let e : suc (d - 1) ≡ d = omega arith in
      let z : n - n ≡ 0 = omega arith in
      let top : drop 1 (reverse (take d fs)) ≡ reverse (take (d - 1) fs) =
      ap (λ (x : ℕ). drop 1 (reverse (take x fs))) (sym e) ∙ rw (take-suc fs (d - 1) no_frame (omega arith)) (ap (drop 1) (reverse-append (take (d - 1) fs) (get_or fs (d - 1) no_frame ∷ []))) in
      let q : limit - length (made ++ reverse (take (d - 1) fs)) ≡ limit - (length (take (d - 1) fs) + n) = simp (length-append, length-reverse) (omega arith) in
      rw (top, q, z, whole, reverse-append made (reverse (take (d - 1) fs)), reverse-reverse (take (d - 1) fs)) (sym (append_assoc (take (d - 1) fs) (reverse made) _))

module _ (width : ℕ) where
  pub length_frames_at : (n : ℕ) (s : List ℕ) → length (frames_at width n s) ≡ n
  unfolding frames_at
  length_frames_at n s = length_tabulate n _

  pub get_or_frames_at : (n : ℕ) (s : List ℕ) (i : ℕ) → i < n → get_or (frames_at width n s) i no_frame ≡ frame_at width s (i * frame_bytes width)
  unfolding frames_at
  get_or_frames_at n s i h = get_d_tabulate n _ i no_frame h

-- the top frame is cleared, then the calls are put in, the last one first
module _ (width limit : ℕ) (s t : List ℕ) (d n : ℕ) (others : List ℕ) (count : length s / frame_bytes width ≡ limit) (some : 0 < d) (fits : d ≤ limit) where
  abbrev fs : List Frame
  fs = frames_in width s

  abbrev made : List Frame
  made = frames_at width n others

  pub cleared : (z : Frame) → z ≡ zero_frame width → d + n ≤ limit + 1 → frames_in width t ≡ set fs (d - 1) z → drop d fs ≡ replicate (limit - d) (zero_frame width)
      → frames_in width t ≡ filling width limit (take (d - 1) fs) n 0 made
  cleared z e room p zeros = p ∙ ap (set fs (d - 1)) e ∙ filling_start width limit fs made d n (length_frames_in width s ∙ count) some fits room zeros

  pub replaced : filling width limit (take (d - 1) fs) n n made ≡ frames_of width limit (made ++ drop 1 (stack_of fs d))
  replaced = filling_end width limit fs made d n (length_frames_in width s ∙ count) some fits (sym (length_frames_at width n others))

  pub low_length : length (take (d - 1) fs) ≡ d - 1
  low_length = length-take-le (d - 1) fs (omega (arith, length_frames_in width s))
