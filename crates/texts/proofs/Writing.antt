-- Laws of written pieces: nothing, one byte, and one piece behind another.
use mathlib.Core.Path.{◌≡◌, refl, sym, ◌∙◌, ap, ap₂, subst}
use mathlib.Core.List.{List, [], ◌∷◌, ◌++◌, append_assoc, append-nil}
use Prim.Native.Nat.{ℕ, zero, suc, ◌+◌, ◌-◌, ◌<◌, ◌≤◌, min}
use native.Mathlib.Omega.{arith}
use native.Mathlib.Decide.{dec_le}
use native.Mathlib.Numerals.{add-one}
use lib.ListN.{length, replicate, length-replicate, take, drop, set, length-append, length-drop, length-set}
use lib.Seq.{take_all, take-append-le, take-suc-set, drop-set-lt, drop-drop, length-take-le}
use borrow.Rule.Slice.PartMut.{put_mid, same_len_mid}
use Rattle.std.proofs.lemmas.List.{take-replicate}
use Rattle.std.proofs.lemmas.Slice.{take-put_mid, drop-put_mid}
use Rattle.texts.specs.Wrote.{Wrote}

-- what is cut off stays cut off
clip : (n : ℕ) (a b : List ℕ) → take n (take n a ++ b) ≡ take n (a ++ b)
clip n a b = elim (dec_le (length a) n) [
  | yes h ↦ ap (λ (l : List ℕ). take n (l ++ b)) (take_all n a h)
  | no h ↦ (let l = length-take-le n a (omega arith) in take-append-le n (take n a) b (omega arith) ∙ take_all n (take n a) (omega arith) ∙ sym (take-append-le n a b (omega arith)))
]

pub wrote_nothing : (out : List ℕ) (at : ℕ) → at ≤ length out → Wrote out at [] out at
wrote_nothing out at h = record {
  same = refl;
  place = omega arith;
  text = let l = length-take-le at out h in sym (ap (take (length out)) (append-nil (take at out)) ∙ take_all (length out) (take at out) (omega arith));
  rest = refl;
}

pub wrote_byte : (out : List ℕ) (at b : ℕ) → at < length out → Wrote out at (b ∷ []) (set out at b) (at + 1)
wrote_byte out at b h =
    let l = length-take-le at out (omega arith) in
    let n = length-append (take at out) (b ∷ []) in
    record {
      same = length-set out at b;
      place = omega arith;
      text = ap (λ (m : ℕ). take m (set out at b)) (add-one at) ∙ take-suc-set out at b h ∙ sym (take_all (length out) (take at out ++ (b ∷ [])) (omega arith));
      rest = drop-set-lt (at + 1) out at b (omega arith);
    }

pub wrote_full : (out : List ℕ) (at : ℕ) (piece : List ℕ) → at ≡ length out → Wrote out at piece out at
wrote_full out at piece h =
    let l : take at out ≡ out = take_all at out (omega arith) in
    record {
      same = refl;
      place = omega arith;
      text = l ∙ sym (ap (λ (m : List ℕ). take (length out) (m ++ piece)) l ∙ take-append-le (length out) out piece (omega arith) ∙ take_all (length out) out (omega arith));
      rest = refl;
    }

-- what is taken of a list goes past its front
past : (xs ys : List ℕ) (n m : ℕ) → m ≡ length xs + n → take m (xs ++ ys) ≡ xs ++ take n ys
past [] ys n m e = ap (λ (k : ℕ). take k ys) (let z : m ≡ n = omega arith in z)
past (x ∷ xs) ys n zero e = absurd (omega arith)
past (x ∷ xs) ys n (suc m) e = ap (λ (l : List ℕ). x ∷ l) (past xs ys n m (omega arith))

-- a piece that was copied, as far as there is room
pub wrote_copy : (out : List ℕ) (at : ℕ) (piece ys : List ℕ) (e k : ℕ) → at ≤ length out → e ≡ at + min (length piece) (length out - at) → k ≡ e - at → ys ≡ take k piece → Wrote out at piece (put_mid at k out ys) e
wrote_copy out at piece ys e k h f g c =
    let many : length ys ≡ k = ap length c ∙ length-take-le k piece (omega arith) in
    let front = length-take-le at out h in
    let room = length out - at in
    let cut : take k piece ≡ take room piece = elim (dec_le (length piece) room) [
      | yes fits ↦ take_all k piece (omega arith) ∙ sym (take_all room piece fits)
      | no wide ↦ ap (λ (n : ℕ). take n piece) (let z : k ≡ room = omega arith in z)
    ] in
    record {
      same = same_len_mid at k out ys (many ∙ sym (length-take-le k (drop at out) (omega (arith, length-drop at out))));
      place = omega arith;
      text = take-put_mid at k out ys e (omega arith) h ∙ ap (λ (l : List ℕ). take at out ++ l) (c ∙ cut) ∙ sym (past (take at out) piece room (length out) (omega arith));
      rest = drop-put_mid at k out ys e (omega arith) h many;
    }

-- a byte that was written n times
pub wrote_run : (out : List ℕ) (at b n : ℕ) (ys : List ℕ) (e k : ℕ) → at ≤ length out → e ≡ at + min n (length out - at) → k ≡ e - at → ys ≡ replicate (length (take k (drop at out))) b → Wrote out at (replicate n b) (put_mid at k out ys) e
wrote_run out at b n ys e k h f g c =
    let many = length-replicate n b in
    wrote_copy out at (replicate n b) ys e k h (omega arith) g (c ∙ ap (λ (m : ℕ). replicate m b) (length-take-le k (drop at out) (omega (arith, length-drop at out))) ∙ sym (take-replicate k n b (omega arith)))

-- one piece behind another
pub wrote_more : (out : List ℕ) (at : ℕ) (p mid : List ℕ) (r : ℕ) (q last : List ℕ) (z : ℕ) → at ≤ length out → Wrote out at p mid r → Wrote mid r q last z → Wrote out at (p ++ q) last z
wrote_more out at p mid r q last z h a b =
    let n = length-append p q in
    let first = a.same in
    let second = b.same in
    let m = a.place in
    let o = b.place in
    let back : r + (z - r) ≡ z = omega arith in
    record {
      same = b.same ∙ a.same;
      place = omega arith;
      text = b.text ∙ ap₂ (λ (k : ℕ) (l : List ℕ). take k (l ++ q)) a.same a.text ∙ clip (length out) (take at out ++ p) q ∙ ap (take (length out)) (append_assoc (take at out) p q);
      rest = b.rest ∙ ap (λ (k : ℕ). drop k mid) (sym back) ∙ sym (drop-drop (z - r) r mid) ∙ ap (drop (z - r)) a.rest ∙ drop-drop (z - r) r out ∙ ap (λ (k : ℕ). drop k out) back;
    }

pub wrote_fits : (out : List ℕ) (at : ℕ) (p mid : List ℕ) (r : ℕ) → Wrote out at p mid r → r ≤ length mid
wrote_fits out at p mid r a = let e = a.place in let f = a.same in omega arith

-- the piece by another name
pub wrote_as : (out : List ℕ) (at : ℕ) (p q mid : List ℕ) (r : ℕ) → p ≡ q → Wrote out at p mid r → Wrote out at q mid r
wrote_as out at p q mid r e a = subst (λ (l : List ℕ). Wrote out at l mid r) e a
