-- What a `match` on a number knows in an arm, turned into a test of that number that antt computes: `keyed_test` where the number is one of an arm's keys,
-- `ranged_test` where it lies in a range and is none of the keys, and `from_all` where a range has no key.
use mathlib.Core.Path.{◌≡◌, subst, subst⁻¹}
use mathlib.Core.Bool.{Bool, true, false}
use mathlib.Core.List.{List, [], ◌∷◌}
use mathlib.Core.Logic.{inl, inr, ⊎_elim}
use Prim.Native.Nat.{ℕ, zero, suc, ◌+◌, ◌<◌, ◌≤◌}
use native.Mathlib.Omega.{arith}
use native.Mathlib.Nat.{eq-or-lt_of_le}
use lib.Dec.{T}
use mir.Val.{has_key}
use types.Run.{OneOf, hit}
use Rattle.pcrl.specs.Tests.{and, or}

pub and_left : (a b : Bool) → T (and a b) → T a
and_left true b t = tt
and_left false b t = absurd t

pub and_right : (a b : Bool) → T (and a b) → T b
and_right true b t = t
and_right false b t = absurd t

pub or_no : (a b : Bool) → (T a → ⊥) → T (or a b) → T b
or_no true b n t = absurd (n tt)
or_no false b n t = t

module _ (p : ℕ → Bool) where
  abbrev pub all_of : List ℕ → Bool
  all_of [] = true
  all_of (k ∷ ks) = and (p k) (all_of ks)

  pub at_key : (k b : ℕ) → T (p k) → b ≡ k → T (p b)
  at_key k b t e = subst⁻¹ (λ (x : ℕ). T (p x)) e t

  -- a test that passes at each of an arm's keys
  pub keyed_test : (ks : List ℕ) → T (all_of ks) → (b : ℕ) → OneOf ks b → T (p b)
  keyed_test [] t b o = absurd o
  keyed_test (k ∷ []) t b o = at_key k b (and_left (p k) true t) o
  keyed_test (k ∷ k' ∷ ks) t b (inl e) = at_key k b (and_left (p k) (all_of (k' ∷ ks)) t) e
  keyed_test (k ∷ k' ∷ ks) t b (inr o) = keyed_test (k' ∷ ks) (and_right (p k) (all_of (k' ∷ ks)) t) b o

-- b is none of the keys of the arms with keys, the last arm first
abbrev pub Rest : List (List ℕ) → ℕ → Type 0
Rest [] b = Unit {0}
Rest (ks ∷ kss) b = Rest kss b × (OneOf ks b → ⊥)

abbrev pub is_key : List (List ℕ) → ℕ → Bool
is_key [] b = false
is_key (ks ∷ kss) b = or (has_key ks b) (is_key kss b)

no_key : (kss : List (List ℕ)) (b : ℕ) → Rest kss b → T (is_key kss b) → ⊥
no_key [] b r t = t
no_key (ks ∷ kss) b r t = no_key kss b r.0 (or_no (has_key ks b) (is_key kss b) (λ h. r.1 (hit ks b h)) t)

module _ (p : ℕ → Bool) where
  abbrev pub all_from : ℕ → ℕ → Bool
  all_from lo zero = true
  all_from lo (suc n) = and (p lo) (all_from (suc lo) n)

  -- a test that passes at n numbers from lo on passes at each of them
  pub from_all : (lo n : ℕ) → T (all_from lo n) → (b : ℕ) → lo ≤ b → b < lo + n → T (p b)
  from_all lo zero t b l h = absurd (omega arith)
  from_all lo (suc n) t b l h =
      ⊎_elim (λ e. subst (λ (k : ℕ). T (p k)) e (and_left (p lo) (all_from (suc lo) n) t))
      (λ q. from_all (suc lo) n (and_right (p lo) (all_from (suc lo) n) t) b q (omega arith))
      (eq-or-lt_of_le l)

-- a test passes at a number of the range that is no key
pub ranged_test : (p : ℕ → Bool) (kss : List (List ℕ)) (lo n : ℕ) → T (all_from (λ b. or (is_key kss b) (p b)) lo n)
    → (b : ℕ) → lo ≤ b → b < lo + n → Rest kss b → T (p b)
ranged_test p kss lo n t b l h r = or_no (is_key kss b) (p b) (no_key kss b r) (from_all (λ b. or (is_key kss b) (p b)) lo n t b l h)
