-- Frames that stand one behind another in bytes are read back; so the answer of `fire` is the step asked for, if there is one.
use mathlib.Core.Path.{◌≡◌, refl, ap, ap₂, sym, ◌∙◌}
use mathlib.Core.List.{List, [], ◌∷◌, ◌++◌, append_assoc}
use mathlib.Core.Option.{Option, none, some}
use Rattle.std.specs.Prelude.{Result, Ok, Err}
use Prim.Native.Nat.{ℕ, zero, suc, ◌+◌, ◌*◌}
use native.Mathlib.Nat.{suc-mul}
use native.Mathlib.Omega.{arith}
use lib.ListN.{length, get_or, drop}
use lib.Seq.{get_or-append-add}
use Rattle.pcrl.specs.Limits.{frame_width}
use Rattle.pcrl.specs.Tests.{Every}
use Rattle.pcrl.specs.Reader.{all}
use Rattle.pcrl.specs.Lists.{tabulate}
use Rattle.pcrl.specs.Sheet.{Sig}
use Rattle.pcrl.specs.Label.{Label}
use Rattle.pcrl.specs.Stack.{Frame}
use Rattle.laws.specs.Tabulated.{tabulate_alike}
use Rattle.firing.specs.Fires.{frame_bytes, Fires}
use Rattle.firing.specs.Told.{frame_at, frames_at, told}
use Rattle.firing.specs.declared.Fired.{Fired}
use Rattle.firing.proofs.Framing.{frame_length}

values_read : (vs rest : List ℕ) (w : ℕ) → length vs ≡ w → tabulate w (λ j. get_or (vs ++ rest) j 0) ≡ vs
unfolding tabulate
values_read [] rest zero e = refl
values_read [] rest (suc w) e = absurd (omega arith)
values_read (v ∷ vs) rest zero e = absurd (omega arith)
values_read (v ∷ vs) rest (suc w) e = ap (λ (l : List ℕ). v ∷ l) (values_read vs rest w (omega arith))

module _ (w : ℕ) where
  frame_read : (f : Frame) (rest : List ℕ) → length f.values ≡ w → frame_at w (frame_bytes f ++ rest) 0 ≡ f
  unfolding frame_at frame_bytes
  frame_read f rest e =
      ap (λ (vs : List ℕ). record { number = f.number; values = vs })
      (tabulate_alike w _ _ (λ j h. let z : 0 + (1 + j) ≡ suc j = omega arith in ap (λ (k : ℕ). get_or (f.number ∷ (f.values ++ rest)) k 0) z) ∙ values_read f.values rest w e)

  -- behind the first bytes
  frame_behind : (l s : List ℕ) (at k : ℕ) → at ≡ length l + k → frame_at w (l ++ s) at ≡ frame_at w s k
  unfolding frame_at
  frame_behind l s at k e =
      ap₂ (λ (n : ℕ) (vs : List ℕ). record { number = n; values = vs })
      (ap (λ (i : ℕ). get_or (l ++ s) i 0) e ∙ get_or-append-add l s k 0)
      (tabulate_alike w _ _ (λ j h. let z : at + (1 + j) ≡ length l + (k + (1 + j)) = omega arith in ap (λ (i : ℕ). get_or (l ++ s) i 0) z ∙ get_or-append-add l s (k + (1 + j)) 0))

  pub frames_read : (fs : List Frame) (rest : List ℕ) → Every (λ (f : Frame). length f.values ≡ w) fs → frames_at w (length fs) (all frame_bytes fs ++ rest) ≡ fs
  unfolding frames_at tabulate all Every
  frames_read [] rest h = refl
  frames_read (f ∷ fs) rest h =
      let s : List ℕ = all frame_bytes fs ++ rest in
      let a : (frame_bytes f ++ all frame_bytes fs) ++ rest ≡ frame_bytes f ++ s = append_assoc (frame_bytes f) (all frame_bytes fs) rest in
      let n : length (frame_bytes f) ≡ 1 + w = bytes_length f h.0 in
      let z : 0 * (1 + w) ≡ 0 = omega arith in
      rw (a, z)
      (ap₂ (λ (x : Frame) (xs : List Frame). x ∷ xs) (frame_read f s h.0)
      (tabulate_alike (length fs) _ _ (λ i k. frame_behind (frame_bytes f) s (suc i * (1 + w)) (i * (1 + w)) (rw (n, suc-mul i (1 + w)) (omega arith))) ∙ frames_read fs rest h.1))
    where
      bytes_length : (f : Frame) → length f.values ≡ w → length (frame_bytes f) ≡ 1 + w
      bytes_length f e = let z : suc (length f.values) ≡ 1 + w = omega arith in sym (frame_length f) ∙ z

-- THE STEP ASKED FOR IS WHAT THE ANSWER TELLS.
pub told_is : (S : Sig) (o : Option (Label × List Frame)) (n : ℕ) (r : Result Fired ℕ) (before after : List ℕ) → Fires S o n r before after → o ≡ told S r after
unfolding Fires told
told_is S none n (Err passed) before after h = refl
told_is S none n (Ok r) before after h = absurd h
told_is S (some x) n (Err passed) before after h = absurd h
told_is S (some x) n (Ok r) before after g =
    rw (g.calls_are, g.frames_are)
    (ap₂ (λ (l : Label) (fs : List Frame). some (l, fs)) g.label_is (sym (frames_read frame_width x.1 (drop (length (all frame_bytes x.1)) before) g.wide)))
