-- Question 9: the test by rounds passes exactly when there is no circle at the head.
-- Rounds go down every chain, so a circle would go down for ever; and a chain without a circle names no process twice, so it is short.
use Rattle.std.specs.Prelude.{◌≡◌, Bool, ◌↔◌, ◌≢◌, get_or}
use Rattle.std.proofs.Common.{sym, subst, arith}
use mathlib.Core.List.{List, [], ◌∷◌, map}
use Rattle.std.proofs.Math.Bool.{false}
use Prim.Native.Nat.{ℕ, zero, suc, ◌+◌, ◌<◌, ◌≤◌}
use Rattle.std.proofs.Math.Decide.{dec_lt}
use Rattle.std.proofs.Math.Dec.{T}
use Rattle.std.proofs.Math.ListN.{length, length-map, get_or-eq_default}
use Rattle.pcrl.specs.Tests.{Every}
use Rattle.pcrl.specs.Sheet.{Process, no_process, Sheet, params, right}
use Rattle.pcrl.specs.Sorts.{RightlySorted}
use Rattle.pcrl.specs.Circles.{at_head, Member, here, later, Chain, direct, further, NoCircle, all_pass, all_true, passed_after, guarded}
use Rattle.laws.specs.Tests.{both_pass, pass_both}
use Rattle.laws.specs.Lists.{get_d_map}
use Rattle.laws.specs.Every.{every_at, every_weaken}
use Rattle.theory.specs.AtHead.{AtHead, HeadsThere, heads_there}
use Rattle.theory.specs.Pigeons.{Distinct, pigeons}

module _ (H : Sheet) where
  -- ROUNDS

  -- process k passes after n rounds
  unfoldable pub Passes : ℕ → ℕ → Type 0
  Passes n k = T (get_or (passed_after H n) k false)

  all_pass_each : (passed : List Bool) (k : ℕ) (ks : List ℕ) → T (all_pass passed ks) → Member k ks → T (get_or passed k false)
  unfolding all_pass
  all_pass_each passed k ks h (here {l}) = (both_pass (get_or passed k false) _ h).0
  all_pass_each passed k ks h (later {j} {l} m) = all_pass_each passed k l (both_pass (get_or passed j false) _ h).1 m

  each_all_pass : (passed : List Bool) (ks : List ℕ) → ((k : ℕ) → Member k ks → T (get_or passed k false)) → T (all_pass passed ks)
  unfolding all_pass
  each_all_pass passed [] f = tt
  each_all_pass passed (k ∷ ks) f = pass_both (get_or passed k false) _ (f k here) (each_all_pass passed ks (λ j m. f j (later m)))

  pub none_pass : (k : ℕ) → Passes 0 k → ⊥
  unfolding Passes passed_after
  none_pass k h = go H.procs k h
    where
      go : (ps : List Process) (k : ℕ) → T (get_or (map (λ (p : Process). false) ps) k false) → ⊥
      go [] k h = h
      go (p ∷ ps) zero h = h
      go (p ∷ ps) (suc k) h = go ps k h

  passed_suc : (n k : ℕ) → k < length H.procs → get_or (passed_after H (suc n)) k false ≡ all_pass (passed_after H n) (at_head (right H k))
  unfolding passed_after right
  passed_suc n k h = get_d_map _ H.procs k no_process false h

  passed_length : (n : ℕ) → length (passed_after H n) ≡ length H.procs
  unfolding passed_after
  passed_length zero = length-map H.procs _
  passed_length (suc n) = length-map H.procs _

  passes_there : (n k : ℕ) → Passes n k → k < length H.procs
  unfolding Passes
  passes_there zero k h = absurd (none_pass k h)
  passes_there (suc n) k h = go (dec_lt k (length H.procs))
    where
      go : Dec (k < length H.procs) → k < length H.procs
      go (yes w) = w
      go (no w) = let past : length (passed_after H (suc n)) ≤ k = omega (arith, passed_length (suc n)) in absurd (subst T (get_or-eq_default (passed_after H (suc n)) false past) h)

  -- A process passes one round later than all the processes at its head.
  pub passes_heads : (n k : ℕ) → Passes (suc n) k → AtHead (Passes n) (right H k)
  unfolding Passes
  passes_heads n k h = λ j. all_pass_each _ j _ (rw (passed_suc n k (passes_there (suc n) k h)) at h)

  pub heads_pass : (n k : ℕ) → k < length H.procs → AtHead (Passes n) (right H k) → Passes (suc n) k
  unfolding Passes
  heads_pass n k w f = rw (passed_suc n k w) (each_all_pass _ _ f)

  all_true_each : (bs : List Bool) → T (all_true bs) → (k : ℕ) → k < length bs → T (get_or bs k false)
  unfolding all_true
  all_true_each [] h k w = absurd (omega arith)
  all_true_each (b ∷ bs) h zero w = (both_pass b _ h).0
  all_true_each (b ∷ bs) h (suc k) w = all_true_each bs (both_pass b _ h).1 k (omega arith)

  each_all_true : (bs : List Bool) → ((k : ℕ) → k < length bs → T (get_or bs k false)) → T (all_true bs)
  unfolding all_true
  each_all_true [] f = tt
  each_all_true (b ∷ bs) f = pass_both b _ (f 0 (omega arith)) (each_all_true bs (λ k w. f (suc k) (omega arith)))

  pub guarded_passes : T (guarded H) → (k : ℕ) → k < length H.procs → Passes (length H.procs) k
  unfolding guarded Passes
  guarded_passes h k w = all_true_each _ h k (rw (passed_length (length H.procs)) w)

  passes_guarded : ((k : ℕ) → k < length H.procs → Passes (length H.procs) k) → T (guarded H)
  unfolding guarded Passes
  passes_guarded f = each_all_true _ (λ k w. f k (rw (passed_length (length H.procs)) at w))

  -- A CIRCLE DOES NOT PASS

  fewer_rounds : (n j k : ℕ) → Passes n j → Member k (at_head (right H j)) → (m : ℕ) × (m < n) × Passes m k
  fewer_rounds zero j k h a = absurd (none_pass j h)
  fewer_rounds (suc n) j k h a = (n, omega arith, passes_heads n j h k a)

  -- along a chain the rounds get fewer
  chain_passes : (n : ℕ) {j k : ℕ} → Passes n j → Chain H j k → (m : ℕ) × (m < n) × Passes m k
  chain_passes n {j} {k} h (direct a) = fewer_rounds n j k h a
  chain_passes n {j} {k = l} h (further {k} c a) =
      let (m, i, g) = chain_passes n h c in
      let (m', i', g') = fewer_rounds m k l g a in
      (m', omega arith, g')

  no_circle_within : (b n k : ℕ) → n ≤ b → Passes n k → Chain H k k → ⊥
  no_circle_within zero n k l h c = let (m, i, g) = chain_passes n h c in omega arith
  no_circle_within (suc b) n k l h c = let (m, i, g) = chain_passes n h c in no_circle_within b m k (omega arith) g c

  chain_end : HeadsThere H → {j k : ℕ} → Chain H j k → k < length H.procs
  chain_end there {j} (direct {k} a) = there j k a
  chain_end there (further {k} {l} c a) = there k l a

  -- WITHOUT A CIRCLE ALL PASS

  module _ (there : HeadsThere H) (none : NoCircle H) where
    -- `seen` are different processes that lead to k; so many rounds suffice as there are others
    passes_behind : (n k : ℕ) (seen : List ℕ) → k < length H.procs → Distinct (k ∷ seen) → Every (λ x. x < length H.procs) seen
        → Every (λ x. Chain H x k) seen → length H.procs ≤ length seen + n → Passes n k
    unfolding Distinct Every NoCircle
    passes_behind zero k seen w d u l e =
        let c : suc (length seen) ≤ length H.procs = pigeons (length H.procs) (k ∷ seen) d (w, u) in absurd (omega arith)
    passes_behind (suc n) k seen w d u l e =
        heads_pass n k w (λ j a.
        let led : Every (λ x. Chain H x j) (k ∷ seen) = (direct a, every_weaken _ _ (λ x c. further c a) seen l) in
        passes_behind n j (k ∷ seen) (there k j a) (every_weaken _ (λ x. j ≢ x) (λ x c e. none j (subst (λ (y : ℕ). Chain H y j) (sym e) c)) (k ∷ seen) led, d) (w, u) led (omega arith))

    pub no_circle_passes : (n k : ℕ) → length H.procs ≤ n → k < length H.procs → Passes n k
    unfolding Distinct Every
    no_circle_passes n k e w = passes_behind n k [] w (tt, tt) tt tt (omega arith)

  pub guarded_heads : HeadsThere H → T (guarded H) ↔ NoCircle H
  unfolding NoCircle
  guarded_heads there = (
    λ h k c. no_circle_within (length H.procs) (length H.procs) k (omega arith) (guarded_passes h k (chain_end there c)) c,
    λ none. passes_guarded (λ k w. no_circle_passes there none (length H.procs) k (omega arith) w),
  )

-- For a sheet that passes question 8, the test of question 9 is what it asks.
pub guarded_no_circle : (H : Sheet) → RightlySorted H → T (guarded H) ↔ NoCircle H
unfolding RightlySorted params right
guarded_no_circle H s = guarded_heads H (heads_there H (λ k w. every_at _ H.procs no_process k s.1.0 w))
