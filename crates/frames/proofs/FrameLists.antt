-- LentFrame structs as frames of document 01: one frame in bytes of its own, and a frame put among others.
use mathlib.Core.Path.{◌≡◌, refl, ap}
use mathlib.Core.List.{List, [], ◌∷◌}
use Prim.Native.Nat.{ℕ, zero, suc, ◌<◌}
use native.Mathlib.Omega.{arith}
use lib.ListN.{length, get_or, set}
use Rattle.pcrl.specs.Limits.{frame_width}
use Rattle.pcrl.specs.Lists.{tabulate}
use Rattle.pcrl.specs.Stack as pcrl
use Rattle.laws.specs.Lists.{get_d_map}
use Rattle.stacks.specs.Lent.{frame_at}
use Rattle.frames.specs.declared.LentFrame.{LentFrame}
use Rattle.frames.specs.Lists.{blank, frame_of, lent_frames}

four : (l : List ℕ) → length l ≡ 4 → get_or l 0 0 ∷ get_or l 1 0 ∷ get_or l 2 0 ∷ get_or l 3 0 ∷ [] ≡ l
four [] h = absurd (omega arith)
four (a ∷ []) h = absurd (omega arith)
four (a ∷ b ∷ []) h = absurd (omega arith)
four (a ∷ b ∷ c ∷ []) h = absurd (omega arith)
four (a ∷ b ∷ c ∷ d ∷ []) h = refl
four (a ∷ b ∷ c ∷ d ∷ e ∷ l) h = absurd (omega arith)

-- a frame in its own five bytes
pub own_bytes : (f : LentFrame) → length f.values ≡ 4
    → frame_at frame_width (f.equation ∷ get_or f.values 0 0 ∷ get_or f.values 1 0 ∷ get_or f.values 2 0 ∷ get_or f.values 3 0 ∷ []) 0 ≡ frame_of f
unfolding frame_at tabulate frame_of
own_bytes f h = let e = four f.values h in λ i. record { number = f.equation; values = e i }

pub frames_set : (l : List LentFrame) (i : ℕ) (f : LentFrame) → lent_frames (set l i f) ≡ set (lent_frames l) i (frame_of f)
unfolding lent_frames
frames_set [] i f = refl
frames_set (x ∷ l) zero f = refl
frames_set (x ∷ l) (suc i) f = ap (λ (m : List pcrl.Frame). frame_of x ∷ m) (frames_set l i f)

pub frames_at_place : (l : List LentFrame) (i : ℕ) (d : pcrl.Frame) → i < length l → get_or (lent_frames l) i d ≡ frame_of (get_or l i blank)
unfolding lent_frames
frames_at_place l i d h = get_d_map frame_of l i blank d h
