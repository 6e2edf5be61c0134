-- Parts of one length, written one after another over the front of a list.
use mathlib.Core.Path.{◌≡◌, refl, sym, ap, ◌∙◌}
use mathlib.Core.List.{List, ◌++◌}
use Prim.Native.Nat.{ℕ, ◌+◌, ◌-◌, ◌*◌, ◌≤◌, ◌<◌}
use native.Mathlib.Nat.{le_trans, mul-le-mul_right}
use native.Mathlib.Numerals.{add-one}
use native.Mathlib.Omega.{arith}
use lib.ListN.{length, take, drop}
use Rattle.pcrl.specs.Blocks.{concatenated}
use Rattle.codec.specs.Cut.{concatenated_zero, length_joined, concatenated_last}
use Rattle.blocks.proofs.Fronts.{Front, front_more, front_length}

-- The first i of n parts stand over the front of xs, and make it ys.
abbrev pub Laid : ℕ → (ℕ → List ℕ) → List ℕ → List ℕ → ℕ → Type 0
Laid n f xs ys i = (i ≤ n) × (length ys ≡ length xs) × Front xs (concatenated i f) ys

pub laid_none : (n : ℕ) (f : ℕ → List ℕ) (xs : List ℕ) → Laid n f xs xs 0
laid_none n f xs = (omega arith, refl, rw (concatenated_zero f))

pub laid_all : (n : ℕ) (f : ℕ → List ℕ) (xs ys : List ℕ) (i : ℕ) → n ≤ i → Laid n f xs ys i → Front xs (concatenated n f) ys
laid_all n f xs ys i h laid = let e : n ≡ i = omega arith in rw e laid.2

module _ (n k : ℕ) (f : ℕ → List ℕ) (each : (j : ℕ) → j < n → length (f j) ≡ k) where
  length_first : (i : ℕ) → i ≤ n → length (concatenated i f) ≡ i * k
  length_first i h = length_joined i k f (λ j l. each j (omega arith))

  -- Part i, of k elements like the others, is written behind the parts before it.
  pub laid_more : (xs ys new : List ℕ) (i : ℕ) → n * k ≤ length xs → i < n → Laid n f xs ys i → new ≡ f i
      → Laid n f xs (take (i * k) ys ++ (new ++ drop (i * k + k - i * k) (drop (i * k) ys))) (i + 1)
  laid_more xs ys new i room h laid en =
      let width : i * k + k - i * k ≡ k = omega arith in
      let more : concatenated (i + 1) f ≡ concatenated i f ++ new = ap (λ (m : ℕ). concatenated m f) (add-one i) ∙ concatenated_last i f ∙ ap (λ (l : List ℕ). concatenated i f ++ l) (sym en) in
      let front = front_more xs (concatenated i f) new ys (i * k) (i * k + k - i * k) laid.2 (length_first i (omega arith)) (ap length en ∙ each i h ∙ sym width) in
      let fits : (i + 1) * k ≤ length xs = le_trans (mul-le-mul_right k (omega arith)) room in
      let ys' : List ℕ = take (i * k) ys ++ (new ++ drop (i * k + k - i * k) (drop (i * k) ys)) in
      let front' : Front xs (concatenated (i + 1) f) ys' = rw more front in
      (omega arith, front_length xs (concatenated (i + 1) f) ys' front' (omega (arith, length_first (i + 1) (omega arith))), front')
