-- Elements of a list, put one after another.
use mathlib.Core.Path.{◌≡◌, refl, sym, ap, ◌∙◌}
use mathlib.Core.List.{List, [], ◌∷◌, ◌++◌}
use Prim.Native.Nat.{ℕ, zero, suc, ◌+◌, ◌≤◌, ◌<◌}
use native.Mathlib.Numerals.{add-one}
use native.Mathlib.Omega.{arith}
use lib.ListN.{length, take, drop, get_or, length-append}
use lib.Seq.{ext_get_or, get_or-take, get_or-drop, length-take-le}
use Rattle.pcrl.specs.Lists.{tabulate}
use Rattle.laws.specs.Lists.{length_tabulate, get_d_tabulate}
use Rattle.emit.specs.Putting.{PutsTo, NoRoom}
use Rattle.emit.specs.Bytes.{part}
use Rattle.emit.proofs.Putting.{puts_none, puts_then, puts_as, no_room_as, no_room_then}

tabulate_last : (n : ℕ) (f : ℕ → ℕ) → tabulate (suc n) f ≡ tabulate n f ++ (f n ∷ [])
unfolding tabulate
tabulate_last zero f = refl
tabulate_last (suc n) f = ap (λ (l : List ℕ). f zero ∷ l) (tabulate_last n (λ i. f (suc i)))

pub part_none : (s : List ℕ) (a w : ℕ) (o : List ℕ) → PutsTo (part s a 0) w o w o
unfolding part tabulate
part_none s a w o = puts_none w o

pub part_more : (s : List ℕ) (a i w : ℕ) (o : List ℕ) (v : ℕ) (p : List ℕ) (r : ℕ) (q : List ℕ) → PutsTo (part s a i) w o v p → PutsTo (get_or s (a + i) 0 ∷ []) v p r q → PutsTo (part s a (i + 1)) w o r q
unfolding part
part_more s a i w o v p r q h k = puts_as w o r q (sym (tabulate_last i (λ j. get_or s (a + j) 0)) ∙ ap (λ (n : ℕ). tabulate n (λ j. get_or s (a + j) 0)) (sym (add-one i))) (puts_then h k)

-- no room for element i of n
pub part_no_room : (s : List ℕ) (a n i w : ℕ) (o : List ℕ) (v : ℕ) (p q : List ℕ) (b : ℕ) → i < n → PutsTo (part s a i) w o v p → NoRoom (b ∷ []) v p q → NoRoom (part s a n) w o q
unfolding part
part_no_room s a n i w o v p q b l h k =
    let f : ℕ → ℕ = λ j. get_or s (a + j) 0 in
    no_room_as (omega (arith, length-append (tabulate i f) (b ∷ []), length_tabulate i f, length_tabulate n f)) (no_room_then h k)

-- elements that are there
pub part_is : (s : List ℕ) (a n : ℕ) (l : List ℕ) → length l ≡ n → ((i : ℕ) → i < n → get_or s (a + i) 0 ≡ get_or l i 0) → part s a n ≡ l
unfolding part
part_is s a n l e h =
    let size = length_tabulate n (λ j. get_or s (a + j) 0) in
    ext_get_or 0 (tabulate n (λ j. get_or s (a + j) 0)) l (size ∙ sym e) (λ i k. let m : i < n = omega arith in get_d_tabulate n (λ j. get_or s (a + j) 0) i 0 m ∙ h i m)

pub part_taken : (s : List ℕ) (a n : ℕ) → n ≤ length (drop a s) → part s a n ≡ take n (drop a s)
part_taken s a n h = part_is s a n (take n (drop a s)) (length-take-le n (drop a s) h) (λ i k. sym (get_or-take n (drop a s) i 0 k ∙ get_or-drop a s i 0))
