-- Laws of `over n xs ys`, the first n of xs before the rest of ys.
use mathlib.Core.Path.{◌≡◌, refl, sym, ◌∙◌, ap}
use mathlib.Core.List.{List, [], ◌∷◌, ◌++◌, append_assoc, append-nil}
use mathlib.Core.Bool.{Bool, true, false}
use lib.Dec.{eqb}
use borrow.Author.Tests.{eqb-true}
use Prim.Native.Nat.{ℕ, suc, ◌+◌, ◌≤◌, ◌<◌}
use native.Mathlib.Numerals.{add-one}
use native.Mathlib.Omega.{arith}
use lib.ListN.{length, take, drop, get_or, set, length-append, length-drop, length-map, drop_of_length-le}
use lib.Seq.{drop-cons, take-suc, set_at, get_or_at, length-take-le, drop_at, take_all}
use Rattle.frames.specs.declared.LentFrame.{LentFrame}
use Rattle.pcrl.specs.Limits.{stack_limit}
use Rattle.pcrl.specs.Stack as pcrl
use Rattle.laws.specs.Tests.{eqb_other}
use Rattle.frames.specs.Lists.{over, taken, frame_of, lent_frames}

pub over_zero : (xs ys : List LentFrame) → over 0 xs ys ≡ ys
unfolding over
over_zero xs ys = refl

module _ (i : ℕ) (xs ys : List LentFrame) (hx : i ≤ length xs) where
  pub over_len : i ≤ length ys → length (over i xs ys) ≡ length ys
  unfolding over
  over_len hy = simp (length-append, length-take-le, length-drop) (omega arith)

  pub over_at : (d : LentFrame) → i < length ys → get_or (over i xs ys) i d ≡ get_or ys i d
  unfolding over
  over_at d hy = rw (drop-cons ys i d) (get_or_at (take i xs) (get_or ys i d) (drop (suc i) ys) d i (length-take-le i xs hx))

  pub over_step : (d : LentFrame) → i < length xs → i < length ys → set (over i xs ys) i (get_or xs i d) ≡ over (i + 1) xs ys
  unfolding over
  over_step d lx ly =
      rw (drop-cons ys i d, add-one, take-suc xs i d)
      (set_at (take i xs) (get_or ys i d) (drop (suc i) ys) (get_or xs i d) i (length-take-le i xs hx) ∙ sym (append_assoc (take i xs) (get_or xs i d ∷ []) (drop (suc i) ys)))

pub over_all : (m : ℕ) (xs ys : List LentFrame) → length xs ≡ m → length ys ≡ m → over m xs ys ≡ xs
unfolding over
over_all m xs ys hx hy = rw (take_all m xs (omega arith), drop_of_length-le ys {i = m} (omega arith)) (append-nil xs)

-- what was put in first is gone where something else is put over it
pub over_over : (m : ℕ) (xs ys zs : List LentFrame) → m ≤ length ys → over m xs (over m ys zs) ≡ over m xs zs
unfolding over
over_over m xs ys zs h = ap (λ (l : List LentFrame). take m xs ++ l) (drop_at (take m ys) (drop m zs) m (length-take-le m ys h))

pub over_again : (m : ℕ) (xs ys : List LentFrame) → m ≤ length xs → over m xs (over m xs ys) ≡ over m xs ys
over_again m xs ys h = over_over m xs xs ys h

-- 64 frames or none
pub taken_le : (n : ℕ) → (taken n ≤ n) × (taken n ≤ 64)
unfolding taken
taken_le n = go (eqb n stack_limit) refl
  where
    go : (t : Bool) → eqb n stack_limit ≡ t → ((elim t as (λ x. ℕ) [ true ↦ stack_limit | false ↦ 0 ]) ≤ n) × ((elim t as (λ x. ℕ) [ true ↦ stack_limit | false ↦ 0 ]) ≤ 64)
    go true e = let h = eqb-true n stack_limit e in (omega arith, omega arith)
    go false e = (omega arith, omega arith)

pub taken_all : (n : ℕ) → n ≡ stack_limit → taken n ≡ stack_limit
unfolding taken
taken_all n e = rw e

pub taken_none : (n : ℕ) → ¬ (n ≡ stack_limit) → taken n ≡ 0
unfolding taken
taken_none n h = ap (λ (t : Bool). elim t as (λ x. ℕ) [ true ↦ stack_limit | false ↦ 0 ]) (eqb_other n stack_limit h)

-- FRAMES OF DOCUMENT 01

pub frames_length : (fs : List LentFrame) → length (lent_frames fs) ≡ length fs
unfolding lent_frames
frames_length fs = length-map fs frame_of

-- while frame after frame is put in
module _ (gs hs : List pcrl.Frame) where
  abbrev pub upto : ℕ → List pcrl.Frame
  upto i = take i gs ++ drop i hs

  pub upto_step : (i : ℕ) (f : pcrl.Frame) (d : pcrl.Frame) → i < length gs → i < length hs → f ≡ get_or gs i d → set (upto i) i f ≡ upto (i + 1)
  upto_step i f d lx ly e =
      ap (set (upto i) i) e
      ∙ rw (drop-cons hs i d, add-one, take-suc gs i d)
      (set_at (take i gs) (get_or hs i d) (drop (suc i) hs) (get_or gs i d) i (length-take-le i gs (omega arith)) ∙ sym (append_assoc (take i gs) (get_or gs i d ∷ []) (drop (suc i) hs)))

  pub upto_end : (i : ℕ) → length gs ≡ i → length hs ≡ i → upto i ≡ gs
  upto_end i hx hy = rw (take_all i gs (omega arith), drop_of_length-le hs {i = i} (omega arith)) (append-nil gs)
