-- Frames and stacks of a table. Everything is said for frames of any width; document 01 has four values in a frame.
-- In a list of frames that is called a stack the top frame stands first; lent frames have it last.
use Rattle.std.specs.Prelude.{◌≡◌, List, ◌++◌, reverse, ℕ, ◌-◌, ◌<◌, ◌≤◌, length, take, drop, replicate}
use Rattle.std.proofs.Math.Decide.{ℕ_discrete, dec_lt, dec_le}
use Rattle.pcrl.specs.Tests.{both?, same?, Every, every?, Each, each?}
use Rattle.pcrl.specs.Sheet.{Sig, size}
use Rattle.pcrl.specs.Table.{Table, equation}

pub record Frame : Type 0 where
  pub number : ℕ
  pub values : List ℕ

abbrev pub Stack : Type 0
Stack = List Frame

-- values, one for each sort, in their sorts
unfoldable pub InSorts : Sig → List ℕ → List ℕ → Type 0
InSorts S Ds vs = Each (λ (D v : ℕ). v < size S D) Ds vs

unfoldable pub in_sorts? : (S : Sig) (Ds vs : List ℕ) → Dec (InSorts S Ds vs)
unfolding InSorts
in_sorts? S Ds vs = each? (λ (D v : ℕ). dec_lt v (size S D)) Ds vs

-- the values of a frame that its equation uses
unfoldable pub used : Table → Frame → List ℕ
used T f = take (length (equation T f.number).params) f.values

module _ (width : ℕ) where
  -- "A frame is an equation number and four values, spare ones 0."
  unfoldable pub padded : List ℕ → List ℕ
  padded vs = vs ++ replicate (width - length vs) 0

  unfoldable pub zero_frame : Frame
  zero_frame = record { number = 0; values = replicate width 0 }

  -- "an equation with values in its sorts, all unused values .. zero"
  unfoldable pub RightFrame : Table → Frame → Type 0
  RightFrame T f =
      (f.number < length T.equations)
      × (InSorts T.sig (equation T f.number).params (used T f)
      × (f.values ≡ padded (used T f)))

  unfoldable pub right_frame? : (T : Table) (f : Frame) → Dec (RightFrame T f)
  unfolding RightFrame
  right_frame? T f =
      both? (dec_lt f.number (length T.equations))
      (both? (in_sorts? T.sig (equation T f.number).params (used T f)) (same? f.values (padded (used T f))))

  -- a stack of any depth
  unfoldable pub RightStack : Table → Stack → Type 0
  RightStack T s = Every (RightFrame T) s

  unfoldable pub IsZero : Frame → Type 0
  IsZero f = (f.number ≡ 0) × (f.values ≡ replicate width 0)

  unfoldable pub is_zero? : (f : Frame) → Dec (IsZero f)
  unfolding IsZero
  is_zero? f = both? (ℕ_discrete f.number 0) (same? f.values (replicate width 0))

  module _ (limit : ℕ) where
    -- 15: "exactly 64 frames lent, depth 0 to 64, each used frame an equation with values in its sorts, all unused values and frames zero?"
    unfoldable pub RightFrames : Table → List Frame → ℕ → Type 0
    RightFrames T fs depth =
        (length fs ≡ limit)
        × ((depth ≤ limit)
        × (Every (RightFrame T) (take depth fs)
        × Every IsZero (drop depth fs)))

    unfoldable pub right_frames? : (T : Table) (fs : List Frame) (depth : ℕ) → Dec (RightFrames T fs depth)
    unfolding RightFrames
    right_frames? T fs depth =
        both? (ℕ_discrete (length fs) limit)
        (both? (dec_le depth limit)
        (both? (every? (right_frame? T) (take depth fs))
        (every? is_zero? (drop depth fs))))

    -- a stack in lent frames, "zeros in all frames past it"
    unfoldable pub frames_of : Stack → List Frame
    frames_of s = reverse s ++ replicate (limit - length s) zero_frame

-- "The stack has the top frame last."
unfoldable pub stack_of : List Frame → ℕ → Stack
stack_of fs depth = reverse (take depth fs)
