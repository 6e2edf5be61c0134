-- Laws of lists: the cells before a place, a cell written, what stands between two places.
use mathlib.Core.Path.{◌≡◌, refl, sym, ap, ap₂, ◌∙◌}
use mathlib.Core.List.{List, [], ◌∷◌, ◌++◌, append_assoc}
use Prim.Native.Nat.{ℕ, suc, ◌+◌, ◌-◌, ◌≤◌, ◌<◌, min}
use native.Mathlib.Decide.{dec_le}
use native.Mathlib.Omega.{arith}
use lib.ListN.{length, take, drop, get_or, set, length-append, length-drop, drop_of_length-le}
use lib.Seq.{take-suc, drop-set-add, drop-cons, drop-length, length-take-le, take-add, take-append_seam}

-- the last of some cells
snoc_same : (p q : List ℕ) (x y : ℕ) → p ++ (x ∷ []) ≡ q ++ (y ∷ []) → (p ≡ q) × (x ≡ y)
snoc_same [] [] x y e = (refl, cc)
snoc_same [] (b ∷ q) x y e = absurd (omega (arith, ap length e, length-append q (y ∷ [])))
snoc_same (a ∷ p) [] x y e = absurd (omega (arith, ap length e, length-append p (x ∷ [])))
snoc_same (a ∷ p) (b ∷ q) x y e =
    let t : p ++ (x ∷ []) ≡ q ++ (y ∷ []) = cc in
    let h : a ≡ b = cc in
    let r = snoc_same p q x y t in
    (ap₂ (λ (c : ℕ) (l : List ℕ). c ∷ l) h r.0, r.1)

pub last_cell : (c p : List ℕ) (x i : ℕ) → 0 < i → i ≤ length c → take i c ≡ p ++ (x ∷ []) → (take (i - 1) c ≡ p) × (get_or c (i - 1) 0 ≡ x)
last_cell c p x i h k e =
    let z : i ≡ suc (i - 1) = omega arith in
    snoc_same (take (i - 1) c) p (get_or c (i - 1) 0) x (sym (take-suc c (i - 1) 0 (omega arith)) ∙ ap (λ (j : ℕ). take j c) (sym z) ∙ e)

pub last_two : (c p : List ℕ) (x y i : ℕ) → i ≤ length c → take i c ≡ p ++ (x ∷ y ∷ []) → (1 < i) × (take (i - 2) c ≡ p) × (get_or c (i - 2) 0 ≡ x) × (get_or c (i - 1) 0 ≡ y)
last_two c p x y i k e =
    let many : 1 < i = omega (arith, ap length e, length-take-le i c k, length-append p (x ∷ y ∷ [])) in
    let a = last_cell c (p ++ (x ∷ [])) y i (omega arith) k (e ∙ sym (append_assoc p (x ∷ []) (y ∷ []))) in
    let b = last_cell c p x (i - 1) (omega arith) (omega arith) a.0 in
    let z : i - 1 - 1 ≡ i - 2 = omega arith in
    (many, ap (λ (j : ℕ). take j c) (sym z) ∙ b.0, ap (λ (j : ℕ). get_or c j 0) (sym z) ∙ b.1, a.1)

-- the first of the values is written
pub written : (c : List ℕ) (t v : ℕ) → drop t (set c t v) ≡ set (drop t c) 0 v
written c t v = let z : t ≡ t + 0 = omega arith in ap (λ (j : ℕ). drop t (set c j v)) z ∙ drop-set-add t c 0 v

-- one value more is written
pub pushed : (c : List ℕ) (t v : ℕ) → 0 < t → t ≤ length c → drop (t - 1) (set c (t - 1) v) ≡ v ∷ drop t c
pushed c t v h k =
    let z : suc (t - 1) ≡ t = omega arith in
    written c (t - 1) v ∙ ap (λ (l : List ℕ). set l 0 v) (drop-cons c (t - 1) 0 (omega arith)) ∙ ap (λ (j : ℕ). v ∷ drop j c) z

-- what stands between two places
pub between : (c d rest : List ℕ) (a b : ℕ) → a ≤ length c → b ≤ length c → drop a c ≡ d ++ rest → drop b c ≡ rest → take b c ≡ take a c ++ d
between c d rest a b h k e f =
    let z : b ≡ a + length d = omega (arith, ap length e, ap length f, length-append d rest, length-drop a c, length-drop b c) in
    ap (λ (j : ℕ). take j c) z ∙ take-add a (length d) c ∙ ap (λ (l : List ℕ). take a c ++ l) (ap (take (length d)) e ∙ take-append_seam d rest)

-- a place past the end is the end
pub cut : (c rest : List ℕ) (a : ℕ) → drop a c ≡ rest → drop (min a (length c)) c ≡ rest
cut c rest a e = elim (dec_le a (length c)) [
  | yes h ↦ let z : min a (length c) ≡ a = omega arith in ap (λ (j : ℕ). drop j c) z ∙ e
  | no h ↦ let z : min a (length c) ≡ length c = omega arith in ap (λ (j : ℕ). drop j c) z ∙ drop-length c ∙ sym (drop_of_length-le c {i = a} (omega arith)) ∙ e
]
