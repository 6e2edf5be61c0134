-- The stack of sorts that are still expected: its array has 32 places, and it stands from a place on.
use mathlib.Core.Path.{◌≡◌, ◌∙◌, ap, sym}
use mathlib.Core.List.{List, [], ◌∷◌}
use Prim.Native.Nat.{ℕ, suc, ◌+◌, ◌-◌, ◌≤◌, ◌<◌}
use native.Mathlib.Omega.{arith}
use native.Mathlib.Nat.{add-zero}
use lib.ListN.{length, get_or, drop, set, length-set, length-drop, drop_of_length-le}
use lib.Seq.{drop-cons, drop-drop, get_or-drop, get_or-set_same, drop-set-lt}

pub top_at : (l : List ℕ) (t : ℕ) → get_or (drop t l) 0 0 ≡ get_or l t 0
top_at l t = get_or-drop t l 0 0 ∙ ap (λ (k : ℕ). get_or l k 0) (add-zero t)

pub pop_at : (l : List ℕ) (t : ℕ) → drop (t + 1) l ≡ drop 1 (drop t l)
pop_at l t = sym (drop-drop 1 t l)

pub push_at : (l : List ℕ) (t v : ℕ) → 0 < t → t ≤ length l → drop (t - 1) (set l (t - 1) v) ≡ v ∷ drop t l
push_at l t v p h =
    drop-cons (set l (t - 1) v) (t - 1) 0 (simp length-set (omega arith))
    ∙ rw (get_or-set_same l (t - 1) v 0 (omega arith), drop-set-lt (suc (t - 1)) l (t - 1) v (omega arith)) (let e : suc (t - 1) ≡ t = omega arith in ap (λ (k : ℕ). v ∷ drop k l) e)

pub filled : (l : List ℕ) (t : ℕ) → length l ≡ 32 → t < 32 → 0 < length (drop t l)
filled l t e h = omega (arith, length-drop t l)

pub emptied : (l : List ℕ) (t : ℕ) → length l ≡ 32 → 32 ≤ t → drop t l ≡ []
emptied l t e h = drop_of_length-le l {i = t} (omega arith)
