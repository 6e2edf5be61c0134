-- Function values: their number against the sorts' sizes, each below its sort's size, and all functions one after another.
use mathlib.Core.Path.{◌≡◌, refl, sym, ap, ap₂, ◌∙◌, subst}
use mathlib.Core.List.{List, [], ◌∷◌, ◌++◌}
use mathlib.Core.Bool.{Bool, true, false}
use mathlib.Core.Logic.{◌≢◌}
use Prim.Native.Nat.{ℕ, ◌+◌, ◌*◌, ◌<◌, ◌≤◌}
use native.Mathlib.Nat.{mul-one, mul-le-mul_left, le_of_lt}
use native.Mathlib.Decide.{ℕ_discrete}
use native.Mathlib.Omega.{arith}
use lib.ListN.{length, drop, get_or}
use Rattle.pcrl.specs.Tests.{Every}
use Rattle.pcrl.specs.Sheet.{Sig, size, func, no_func}
use Rattle.pcrl.specs.Sorts.{volume, Complete}
use Rattle.laws.specs.Every.{every_at, at_every}
use Rattle.laws.specs.Says.{Says, said_yes, said_no, says_both}
use Rattle.nodes.specs.declared.Outline.{Outline}
use Rattle.nodes.specs.Held.{SortsAt, HeldSig, func_width}
use Rattle.nodes.proofs.Cells.{read_cell}
use Rattle.checker.specs.Known.{KnownSizes}
use Rattle.checker.specs.Sorts.{VolumeIs, AllBelow, CompleteSays, FunctionsSay}

-- ---- how many values
pub product_small : (a b : ℕ) → a < 256 → b < 256 → a * b < 65536
product_small a b h k = let z : a * b ≤ a * 256 = mul-le-mul_left a (le_of_lt k) in omega arith

module _ (funcs : List ℕ) (start : ℕ) (sizes : List ℕ) (sorts first : ℕ) (is : (S : Sig) → KnownSizes S sizes sorts → first ≡ size S (get_or funcs (start + 1) 0)) where
  sort_at : (Ds : List ℕ) (i D : ℕ) → SortsAt Ds funcs start → i < length Ds → get_or Ds i 0 ≡ D → get_or funcs (start + 1 + i) 0 ≡ D
  sort_at Ds i D s l e = s.each i l ∙ e

  first_size : (S : Sig) → KnownSizes S sizes sorts → (D : ℕ) (Ds : List ℕ) → SortsAt (D ∷ Ds) funcs start → first ≡ get_or S.sorts D 0
  unfolding size
  first_size S k D Ds s =
      let z : start + 1 ≡ start + 1 + 0 = omega arith in
      is S k ∙ ap (λ (j : ℕ). get_or S.sorts j 0) (ap (λ (j : ℕ). get_or funcs j 0) z ∙ sort_at (D ∷ Ds) 0 D s (omega arith) refl)

  pub volume_one : get_or funcs start 0 < 2 → VolumeIs funcs start sizes sorts first
  unfolding volume
  volume_one h S k [] s a b = absurd (omega arith)
  volume_one h S k (D ∷ []) s a b = first_size S k D [] s ∙ sym (mul-one (get_or S.sorts D 0))
  volume_one h S k (D ∷ E ∷ Ds) s a b = absurd (omega (arith, s.many))

  pub volume_two : 2 ≤ get_or funcs start 0 → (second : ℕ) → ((S : Sig) → KnownSizes S sizes sorts → second ≡ size S (get_or funcs (start + 2) 0)) → VolumeIs funcs start sizes sorts (first * second)
  unfolding volume size
  volume_two h second is₂ S k [] s a b = absurd (omega arith)
  volume_two h second is₂ S k (D ∷ []) s a b = absurd (omega (arith, s.many))
  volume_two h second is₂ S k (D ∷ E ∷ []) s a b =
      let z : start + 2 ≡ start + 1 + 1 = omega arith in
      let e : second ≡ get_or S.sorts E 0 = is₂ S k ∙ ap (λ (j : ℕ). get_or S.sorts j 0) (ap (λ (j : ℕ). get_or funcs j 0) z ∙ sort_at (D ∷ E ∷ []) 1 E s (omega arith) refl) in
      ap₂ ◌*◌ (first_size S k D (E ∷ []) s) (e ∙ sym (mul-one (get_or S.sorts E 0)))
  volume_two h second is₂ S k (D ∷ E ∷ F ∷ Ds) s a b = absurd (omega arith)

-- ---- each below the size
module _ (values : List ℕ) (from to z : ℕ) where
  abbrev pub BelowLeft : ℕ → Type 0
  BelowLeft i =
      (vs rest : List ℕ) → drop from values ≡ vs ++ rest → to ≡ from + length vs
      → (us : List ℕ) × (to ≡ i + length us) × (drop i values ≡ us ++ rest) × (Every (λ v. v < z) us → Every (λ v. v < z) vs) × (Every (λ v. v < z) vs → Every (λ v. v < z) us)

  pub below_start : BelowLeft from
  below_start vs rest e l = (vs, l, e, λ x. x, λ x. x)

  module _ (i : ℕ) (left : BelowLeft i) where
    pub below_done : to ≤ i → AllBelow values from to z true
    unfolding Every
    below_done h vs rest e l = let v = left vs rest e l in go v.0 v.1 v.3
      where
        go : (us : List ℕ) → to ≡ i + length us → (Every (λ v. v < z) us → Every (λ v. v < z) vs) → Every (λ v. v < z) vs
        go [] a f = f tt
        go (u ∷ us) a f = absurd (omega arith)

    pub below_failed : i < to → z ≤ get_or values i 0 → AllBelow values from to z false
    unfolding Every
    below_failed h big vs rest e l = λ k. let v = left vs rest e l in go v.0 v.1 v.2 (v.4 k)
      where
        go : (us : List ℕ) → to ≡ i + length us → drop i values ≡ us ++ rest → Every (λ v. v < z) us → ⊥
        go [] a b f = omega arith
        go (u ∷ us) a b f = let y = f.0 in omega (arith, (read_cell values i u (us ++ rest) b).0)

    pub below_step : i < to → get_or values i 0 < z → BelowLeft (i + 1)
    unfolding Every
    below_step h small vs rest e l = let v = left vs rest e l in go v.0 v.1 v.2 v.3 v.4
      where
        go : (us : List ℕ) → to ≡ i + length us → drop i values ≡ us ++ rest → (Every (λ v. v < z) us → Every (λ v. v < z) vs) → (Every (λ v. v < z) vs → Every (λ v. v < z) us)
            → (us : List ℕ) × (to ≡ i + 1 + length us) × (drop (i + 1) values ≡ us ++ rest) × (Every (λ v. v < z) us → Every (λ v. v < z) vs) × (Every (λ v. v < z) vs → Every (λ v. v < z) us)
        go [] a b f g = absurd (omega arith)
        go (u ∷ us) a b f g =
            let r = read_cell values i u (us ++ rest) b in
            let e₀ = r.0 in
            (us, omega arith, r.1, λ k. f (omega arith, k), λ k. (g k).1)

-- ---- one function
module _ (funcs : List ℕ) (f : ℕ) (values places sizes : List ℕ) (sorts many : ℕ) (is : VolumeIs funcs (func_width * f) sizes sorts many) where
  pub incomplete : (get_or places f 0 + many ≡ get_or places (f + 1) 0 → ⊥) → CompleteSays funcs f values places sizes sorts false
  unfolding Complete
  incomplete h S k g at = λ c.
      let e : many ≡ volume S.sorts g.takes = is S k g.takes at.takes at.some_sort at.few in
      h (let a = c.0 in let b = at.values_end in omega arith)

  pub complete_says : get_or places f 0 + many ≡ get_or places (f + 1) 0 → (z : ℕ) → ((S : Sig) → KnownSizes S sizes sorts → z ≡ size S (get_or funcs (func_width * f + 3) 0))
      → (r : Bool) → AllBelow values (get_or places f 0) (get_or places (f + 1) 0) z r → CompleteSays funcs f values places sizes sorts r
  unfolding Complete
  complete_says h z hz r below S k g at =
      let e : many ≡ volume S.sorts g.takes = is S k g.takes at.takes at.some_sort at.few in
      let b = at.values_end in
      let y : z ≡ size S g.gives = hz S k ∙ ap (size S) at.gives in
      says_both r (Every (λ v. v < size S g.gives) g.values) (omega arith)
      (subst (λ (j : ℕ). Says r (Every (λ v. v < j) g.values)) y (below g.values at.values_are.0 at.values_are.1 at.values_end))

-- ---- all functions
-- one index more
pub below_next : (P : ℕ → Type 0) (k : ℕ) → ((i : ℕ) → i < k → P i) → P k → (i : ℕ) → i < k + 1 → P i
below_next P k h p i l = go (ℕ_discrete i k)
  where
    go : Dec (i ≡ k) → P i
    go (yes e) = subst P (sym e) p
    go (no ne) = let z : i ≢ k = ne in h i (omega arith)

pub known_sizes : (S : Sig) (sizes funcs values places acts : List ℕ) (n : Outline) → HeldSig S sizes funcs values places acts n → KnownSizes S sizes n.sorts
known_sizes S sizes funcs values places acts n h = record { sort_count = h.sort_count; size_at = h.size_at }

module _ (funcs values places sizes : List ℕ) (n : Outline) where
  -- the functions below f are complete
  abbrev pub CompleteSoFar : ℕ → Type 0
  CompleteSoFar f = (S : Sig) (acts : List ℕ) → HeldSig S sizes funcs values places acts n → (i : ℕ) → i < f → Complete S (func S i)

  module _ (f : ℕ) (r : Bool) (says : CompleteSays funcs f values places sizes n.sorts r) (inside : f < n.funcs) where
    pub functions_failed : r ≡ false → FunctionsSay funcs values places sizes n false
    unfolding func
    functions_failed z S acts h = λ k.
        let c = h.func_count in
        said_no r (says S (known_sizes S sizes funcs values places acts n h) (func S f) (h.func_at f inside)) z
        (every_at (Complete S) S.funcs no_func f k (omega arith))

    pub functions_more : r ≡ true → CompleteSoFar f → CompleteSoFar (f + 1)
    functions_more z before S acts h =
        below_next (λ i. Complete S (func S i)) f (before S acts h)
        (said_yes r (says S (known_sizes S sizes funcs values places acts n h) (func S f) (h.func_at f inside)) z)

  pub functions_done : (f : ℕ) → n.funcs ≤ f → CompleteSoFar f → FunctionsSay funcs values places sizes n true
  unfolding func
  functions_done f e all S acts h = let c = h.func_count in at_every (Complete S) S.funcs no_func (λ i k. all S acts h i (omega arith))
