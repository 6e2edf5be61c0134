-- Reading one cell of a list: what stands there, and what stands after it.
use mathlib.Core.Path.{◌≡◌, sym, ◌∙◌}
use mathlib.Core.List.{List, [], ◌∷◌}
use Prim.Native.Nat.{ℕ, zero, suc, ◌+◌, ◌<◌}
use native.Mathlib.Numerals.{add-one}
use native.Mathlib.Omega.{arith}
use lib.ListN.{length, drop, get_or}
use lib.Seq.{drop-cons}

pub cons_inside : (s : List ℕ) (p x : ℕ) (l : List ℕ) → drop p s ≡ x ∷ l → p < length s
cons_inside [] zero x l e = let z : ◌≡◌ {A = ℕ} 0 1 = cc in absurd (omega arith)
cons_inside [] (suc p) x l e = let z : ◌≡◌ {A = ℕ} 0 1 = cc in absurd (omega arith)
cons_inside (y ∷ s) zero x l e = omega arith
cons_inside (y ∷ s) (suc p) x l e = omega (arith, cons_inside s p x l e)

-- a cell is read, and the next place holds the rest
pub read_cell : (s : List ℕ) (p x : ℕ) (l : List ℕ) → drop p s ≡ x ∷ l → (get_or s p 0 ≡ x) × (drop (p + 1) s ≡ l)
read_cell s p x l e =
    let q : get_or s p 0 ∷ drop (p + 1) s ≡ x ∷ l = rw (add-one p) (sym (drop-cons s p 0 (cons_inside s p x l e)) ∙ e) in
    (cc, cc)
