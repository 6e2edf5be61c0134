-- Runs at the front of a list, byte by byte; the longest of several.
use mathlib.Core.Path.{◌≡◌, refl, sym, ap, ◌∙◌}
use mathlib.Core.List.{List, [], ◌∷◌}
use mathlib.Core.Bool.{Bool, true, false}
use Prim.Native.Nat.{ℕ, suc, ◌+◌, ◌≤◌, ◌<◌, max}
use native.Mathlib.Omega.{arith}
use native.Mathlib.Numerals.{add-one}
use lib.ListN.{length, get_or, drop, length-take, length-drop}
use lib.Seq.{drop-cons}
use lib.Dec.{eqb}
use Rattle.pcrl.specs.Tokens.{run}
use Rattle.pcrl.specs.Letters.{longest_run}
use Rattle.laws.specs.Lists.{length_tabulate, get_d_tabulate}
use Rattle.terms.specs.Stands.{list_at}
use Rattle.lettering.specs.Named.{names_at}

pub run_cons : (p : ℕ → Bool) (b : ℕ) (l : List ℕ) (t : Bool) → p b ≡ t → run p (b ∷ l) ≡ elim t as (λ _. ℕ) [ true ↦ suc (run p l) | false ↦ 0 ]
unfolding run
run_cons p b l t e = ap (λ (t : Bool). elim t as (λ _. ℕ) [ true ↦ suc (run p l) | false ↦ 0 ]) e

-- a byte that passes, and one that does not
pub run_more : (p : ℕ → Bool) (l : List ℕ) (i : ℕ) → i < length l → p (get_or l i 0) ≡ true → run p (drop i l) ≡ suc (run p (drop (i + 1) l))
run_more p l i h e = ap (run p) (drop-cons l i 0 h) ∙ run_cons p (get_or l i 0) (drop (suc i) l) true e ∙ ap (λ (n : ℕ). suc (run p (drop n l))) (sym (add-one i))

pub run_stops : (p : ℕ → Bool) (l : List ℕ) (i : ℕ) → i < length l → p (get_or l i 0) ≡ false → run p (drop i l) ≡ 0
run_stops p l i h e = ap (run p) (drop-cons l i 0 h) ∙ run_cons p (get_or l i 0) (drop (suc i) l) false e

pub run_ends : (p : ℕ → Bool) (l : List ℕ) (i : ℕ) → length l ≤ i → run p (drop i l) ≡ 0
unfolding run
run_ends p l i h = by (drop i l) (omega (arith, length-drop i l))
  where
    by : (m : List ℕ) → length m ≡ 0 → run p m ≡ 0
    by [] e = refl
    by (b ∷ m) e = absurd (omega arith)

-- the longest run of names from the i-th on
pub longest_more : (b : ℕ) (ns : List (List ℕ)) (i : ℕ) → i < length ns → longest_run b (drop i ns) ≡ max (run (eqb b) (get_or ns i [])) (longest_run b (drop (i + 1) ns))
unfolding longest_run
longest_more b ns i h = ap (longest_run b) (drop-cons ns i [] h ∙ ap (λ (n : ℕ). get_or ns i [] ∷ drop n ns) (sym (add-one i)))

pub longest_ends : (b : ℕ) (ns : List (List ℕ)) (i : ℕ) → length ns ≤ i → longest_run b (drop i ns) ≡ 0
unfolding longest_run
longest_ends b ns i h = by (drop i ns) (omega (arith, length-drop i ns))
  where
    by : (m : List (List ℕ)) → length m ≡ 0 → longest_run b m ≡ 0
    by [] e = refl
    by (n ∷ m) e = absurd (omega arith)

-- a counted list that stands in the stream is no longer than the stream
pub list_short : (s : List ℕ) (p : ℕ) → length (list_at s p) ≤ length s
list_short s p = omega (arith, length-take (get_or s p 0) (drop (p + 1) s), length-drop (p + 1) s)

-- names that stand at places
pub name_at : (s places : List ℕ) (n i : ℕ) → i < n → get_or (names_at s places n) i [] ≡ list_at s (get_or places i 0)
unfolding names_at
name_at s places n i h = get_d_tabulate n (λ i. list_at s (get_or places i 0)) i [] h

pub names_many : (s places : List ℕ) (n : ℕ) → length (names_at s places n) ≡ n
unfolding names_at
names_many s places n = length_tabulate n (λ i. list_at s (get_or places i 0))

-- the loop over the names: one more
pub longest_step : (b : ℕ) (ns : List (List ℕ)) (i most r next : ℕ) → i < length ns → r ≡ run (eqb b) (get_or ns i []) → next ≡ max most r → longest_run b ns ≡ max most (longest_run b (drop i ns)) → longest_run b ns ≡ max next (longest_run b (drop (i + 1) ns))
longest_step b ns i most r next h e f inv = let z = longest_more b ns i h in omega arith
