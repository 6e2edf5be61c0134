-- The processes at the head of a term: what holds of them, and that in a rightly sorted sheet they are there.
use Rattle.std.specs.Prelude.{◌≡◌, refl, List, [], ◌∷◌, ◌++◌, ◌⊎◌, ℕ, ◌<◌, ◌≤◌}
use Rattle.std.proofs.Math.Path.{ap}
use Rattle.std.proofs.Common.{inl, inr, arith}
use Rattle.std.proofs.Math.Decide.{dec_lt}
use Rattle.std.proofs.Math.ListN.{length, get_elem?, get_or-eq_default}
use Rattle.pcrl.specs.Sheet.{Proc, delta, atom, alt, cond, sum, seq, call, Process, no_process, Sheet, params, right}
use Rattle.pcrl.specs.Sorts.{Scope, binding, Sorted}
use Rattle.pcrl.specs.Circles.{at_head, Member, here, later}

pub member_left : {k : ℕ} {ks : List ℕ} (js : List ℕ) → Member k ks → Member k (ks ++ js)
member_left js here = here
member_left js (later m) = later (member_left js m)

pub member_right : {k : ℕ} (ks : List ℕ) {js : List ℕ} → Member k js → Member k (ks ++ js)
member_right [] m = m
member_right (j ∷ ks) m = later (member_right ks m)

member_cases : {k : ℕ} (ks : List ℕ) {js : List ℕ} → Member k (ks ++ js) → Member k ks ⊎ Member k js
member_cases [] m = inr m
member_cases (j ∷ ks) here = inl here
member_cases (j ∷ ks) (later m) = elim (member_cases ks m) [ inl a ↦ inl (later a) | inr b ↦ inr b ]

member_none : {k : ℕ} → Member k [] → ⊥
member_none m = elim m [ ]

member_one : {k j : ℕ} → Member k (j ∷ []) → k ≡ j
member_one here = refl
member_one (later m) = absurd (member_none m)

-- what holds of the processes at the head of a term
abbrev pub AtHead : (ℕ → Type 0) → Proc → Type 0
AtHead G p = (k : ℕ) → Member k (at_head p) → G k

-- those of a rightly sorted term are there
pub sorted_heads : (H : Sheet) (Γ : Scope) (p : Proc) → Sorted H Γ p → AtHead (λ k. k < length H.procs) p
unfolding Sorted at_head
sorted_heads H Γ delta s k m = absurd (member_none m)
sorted_heads H Γ (atom a ds) s k m = absurd (member_none m)
sorted_heads H Γ (alt p q) s k m = elim (member_cases (at_head p) m) [ inl a ↦ sorted_heads H Γ p s.0 k a | inr b ↦ sorted_heads H Γ q s.1 k b ]
sorted_heads H Γ (cond c p q) s k m = elim (member_cases (at_head p) m) [ inl a ↦ sorted_heads H Γ p s.1.0 k a | inr b ↦ sorted_heads H Γ q s.1.1 k b ]
sorted_heads H Γ (sum x D p) s k m = sorted_heads H (binding x D Γ) p s.1 k m
sorted_heads H Γ (seq p q) s k m = sorted_heads H Γ p s.0 k m
sorted_heads H Γ (call j ds) s k m = rw (member_one m) s.0

module _ (H : Sheet) where
  -- every process at the head of a right side is there
  abbrev pub HeadsThere : Type 0
  HeadsThere = (j : ℕ) → AtHead (λ k. k < length H.procs) (right H j)

  pub absent_right : (j : ℕ) → length H.procs ≤ j → right H j ≡ delta
  unfolding right
  absent_right j h = ap (λ (p : Process). p.right) (get_or-eq_default H.procs no_process h)

  pub heads_there : ((k : ℕ) → k < length H.procs → Sorted H (get_elem? (params H k)) (right H k)) → HeadsThere
  unfolding at_head
  heads_there s j k m = go (dec_lt j (length H.procs))
    where
      go : Dec (j < length H.procs) → k < length H.procs
      go (yes h) = sorted_heads H _ (right H j) (s j h) k m
      go (no h) = absurd (member_none (rw (absent_right j (omega arith)) at m))
