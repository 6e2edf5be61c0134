-- Frames read from bytes, place by place, and bytes that are put over others.
use mathlib.Core.Path.{◌≡◌, refl, sym, ap, ap₂, ◌∙◌}
use mathlib.Core.List.{List, [], ◌∷◌, ◌++◌}
use Prim.Native.Nat.{ℕ, zero, suc, ◌+◌, ◌-◌, ◌*◌, ◌/◌, ◌<◌, ◌≤◌}
use native.Mathlib.Omega.{arith}
use native.Mathlib.Decide.{ℕ_discrete, dec_lt}
use native.Mathlib.Nat.{mul-le-mul_right, add-mul, one-mul}
use lib.ListN.{length, get_or, take, drop, set, length-drop, length-set, get_or-append}
use borrow.Rule.Slice.PartMut.{put_mid}
use lib.Seq.{paste, take-take, length-paste, length_paste_head, length-take-le, get_or-take, get_or-drop, get_or-append-add, get_or-set_same, get_or-set_other, ext_get_or}
use Rattle.std.proofs.lemmas.Slice.{put_mid-paste}
use Rattle.pcrl.specs.Lists.{tabulate}
use Rattle.pcrl.specs.Stack.{Frame}
use Rattle.laws.specs.Lists.{length_tabulate, get_d_tabulate}
use Rattle.stacks.specs.Lent.{frame_bytes, frame_at, frames_at, frames_in}

-- what stands for a frame that is not there
abbrev pub no_frame : Frame
no_frame = record { number = 0; values = [] }

pub tabulate_same : {A : Type 0} (n : ℕ) (f g : ℕ → A) → ((i : ℕ) → i < n → f i ≡ g i) → tabulate n f ≡ tabulate n g
unfolding tabulate
tabulate_same zero f g h = refl
tabulate_same (suc n) f g h = ap₂ ◌∷◌ (h 0 (omega arith)) (tabulate_same n (λ i. f (suc i)) (λ i. g (suc i)) (λ i w. h (suc i) (omega arith)))

-- PASTED BYTES

module _ (d : List ℕ) (at : ℕ) (s : List ℕ) (n : ℕ) (room : at + n ≤ length d) (enough : n ≤ length s) where
  front : length (take at d ++ take n s) ≡ at + n
  front = length_paste_head d at s n (omega arith) enough

  pub paste_below : (x : ℕ) → x < at → get_or (paste d at s n) x 0 ≡ get_or d x 0
  paste_below x h =
      get_or-append (take at d ++ take n s) (drop (at + n) d) 0 x (omega (arith, front))
      ∙ get_or-append (take at d) (take n s) 0 x (omega (arith, length-take-le at d (omega arith)))
      ∙ get_or-take at d x 0 h

  pub paste_in : (j : ℕ) → j < n → get_or (paste d at s n) (at + j) 0 ≡ get_or s j 0
  paste_in j h =
      let l : length (take at d) ≡ at = length-take-le at d (omega arith) in
      let e : at + j ≡ length (take at d) + j = omega arith in
      get_or-append (take at d ++ take n s) (drop (at + n) d) 0 (at + j) (omega (arith, front))
      ∙ ap (λ (x : ℕ). get_or (take at d ++ take n s) x 0) e
      ∙ get_or-append-add (take at d) (take n s) j 0
      ∙ get_or-take n s j 0 h

  pub paste_above : (x : ℕ) → at + n ≤ x → get_or (paste d at s n) x 0 ≡ get_or d x 0
  paste_above x h =
      let l = front in
      let e : x ≡ length (take at d ++ take n s) + (x - (at + n)) = omega arith in
      let w : at + n + (x - (at + n)) ≡ x = omega arith in
      ap (λ (y : ℕ). get_or (paste d at s n) y 0) e
      ∙ get_or-append-add (take at d ++ take n s) (drop (at + n) d) (x - (at + n)) 0
      ∙ get_or-drop (at + n) d (x - (at + n)) 0
      ∙ ap (λ (y : ℕ). get_or d y 0) w

-- n bytes from j on, copied over those from i on
pub pasted : (d o ys : List ℕ) (i j k m n : ℕ) → k ≡ n → m ≡ n → j + n ≤ length o → ys ≡ take m (drop j o) → put_mid i k d ys ≡ paste d i (drop j o) n
pasted d o ys i j k m n e f room h =
    let same : ys ≡ take n (drop j o) = h ∙ ap (λ (x : ℕ). take x (drop j o)) f in
    let long : length (take n (drop j o)) ≡ n = length-take-le n (drop j o) (omega (arith, length-drop j o)) in
    put_mid-paste i k d ys (take n (drop j o)) n same (sym e) (sym long) ∙ ap (λ (l : List ℕ). (take i d ++ l) ++ drop (i + n) d) (take-take n n (drop j o) (omega arith))

-- FRAMES

module _ (width : ℕ) where
  pub frame_same : (s t : List ℕ) (p q : ℕ) → ((j : ℕ) → j < frame_bytes width → get_or s (p + j) 0 ≡ get_or t (q + j) 0) → frame_at width s p ≡ frame_at width t q
  unfolding frame_at
  frame_same s t p q h =
      let p0 : p + 0 ≡ p = omega arith in
      let q0 : q + 0 ≡ q = omega arith in
      let e : get_or s p 0 ≡ get_or t q 0 = ap (λ (x : ℕ). get_or s x 0) (sym p0) ∙ h 0 (omega arith) ∙ ap (λ (x : ℕ). get_or t x 0) q0 in
      let v = tabulate_same width (λ j. get_or s (p + (1 + j)) 0) (λ j. get_or t (q + (1 + j)) 0) (λ j w. h (1 + j) (omega arith)) in
      λ i. record { number = e i; values = v i }

  pub length_frames_in : (s : List ℕ) → length (frames_in width s) ≡ length s / frame_bytes width
  unfolding frames_in frames_at
  length_frames_in s = length_tabulate (length s / frame_bytes width) _

  pub get_or_frames_in : (s : List ℕ) (i : ℕ) (d : Frame) → i < length s / frame_bytes width → get_or (frames_in width s) i d ≡ frame_at width s (i * frame_bytes width)
  unfolding frames_in frames_at
  get_or_frames_in s i d h = get_d_tabulate (length s / frame_bytes width) _ i d h

  -- a frame's place lies behind all of an earlier one
  pub apart : (i j k : ℕ) → i < j → i * k + k ≤ j * k
  apart i j k h =
      let e : (i + 1) * k ≡ i * k + k = add-mul i 1 k ∙ ap (λ (x : ℕ). i * k + x) (one-mul k) in
      let le : (i + 1) * k ≤ j * k = mul-le-mul_right k (omega arith) in
      omega arith

  -- Bytes put over those of frame i change that frame alone.
  pub frames_put : (s o : List ℕ) (i q : ℕ) → i < length s / frame_bytes width → i * frame_bytes width + frame_bytes width ≤ length s → q + frame_bytes width ≤ length o
      → frames_in width (paste s (i * frame_bytes width) (drop q o) (frame_bytes width)) ≡ set (frames_in width s) i (frame_at width o q)
  frames_put s o i q h room enough =
      let k = frame_bytes width in
      let t = paste s (i * k) (drop q o) k in
      let lo : k ≤ length (drop q o) = simp length-drop (omega arith) in
      let lt : length t ≡ length s = length-paste s (i * k) (drop q o) k room lo in
      let count : length t / k ≡ length s / k = ap (λ (x : ℕ). x / k) lt in
      let ls = length_frames_in s in
      let here : frame_at width t (i * k) ≡ frame_at width o q = frame_same t o (i * k) q (λ j w. paste_in s (i * k) (drop q o) k room lo j w ∙ get_or-drop q o j 0) in
      ext_get_or no_frame (frames_in width t) (set (frames_in width s) i (frame_at width o q)) (length_frames_in t ∙ count ∙ sym (length-set (frames_in width s) i (frame_at width o q) ∙ length_frames_in s)) (λ j w.
      let below : j < length s / k = omega (arith, length_frames_in t) in
      get_or_frames_in t j no_frame (omega arith) ∙ elim (ℕ_discrete j i) [
        | yes e ↦ ap (λ (x : ℕ). frame_at width t (x * k)) e ∙ here ∙ sym (ap (λ (x : ℕ). get_or (set (frames_in width s) i (frame_at width o q)) x no_frame) e ∙ get_or-set_same (frames_in width s) i (frame_at width o q) no_frame (omega arith))
        | no n ↦ other s o i q room lo j n ∙ sym (get_or-set_other (frames_in width s) i j (frame_at width o q) no_frame n ∙ get_or_frames_in s j no_frame below)
      ])
    where
      other : (s o : List ℕ) (i q : ℕ) → i * frame_bytes width + frame_bytes width ≤ length s → frame_bytes width ≤ length (drop q o) → (j : ℕ) → ¬ (j ≡ i)
          → frame_at width (paste s (i * frame_bytes width) (drop q o) (frame_bytes width)) (j * frame_bytes width) ≡ frame_at width s (j * frame_bytes width)
      other s o i q room lo j n =
          let k = frame_bytes width in
          frame_same _ s (j * k) (j * k) (λ x w. elim (dec_lt j i) [
            | yes l ↦ paste_below s (i * k) (drop q o) k room lo (j * k + x) (omega (arith, apart j i k l))
            | no m ↦ paste_above s (i * k) (drop q o) k room lo (j * k + x) (omega (arith, apart i j k (omega arith)))
          ])
