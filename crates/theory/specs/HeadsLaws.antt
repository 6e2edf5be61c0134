-- The bound on calls at the head is not seen: a call has the heads of its process's right side, arguments put for parameters.
-- Two ways to follow calls give the same heads of a term if they agree on the processes at its head.
use Rattle.std.specs.Prelude.{◌≡◌, refl, List, [], ◌∷◌, ◌++◌, map, false}
use Rattle.std.proofs.Common.{ap, sym, ◌∙◌, add-zero, add-suc}
use Prim.Native.Nat.{ℕ, zero, suc, ◌+◌, ◌-◌, ◌<◌, ◌≤◌}
use native.Mathlib.Omega.{arith}
use Rattle.std.proofs.Math.ListN.{length}
use Rattle.pcrl.specs.Sheet.{Data, var, Proc, delta, atom, alt, cond, sum, seq, call, Sheet, right}
use Rattle.pcrl.specs.Values.{put_data}
use Rattle.pcrl.specs.Parts.{new_count, first_new}
use Rattle.pcrl.specs.Table.{Summand}
use Rattle.pcrl.specs.Heads.{with_var, with_calls, look, calls_of, heads_by, heads, fuel}
use Rattle.pcrl.specs.Circles.{at_head, here}
use Rattle.theory.specs.Standing.{Standing}
use Rattle.theory.specs.StandingLaws.{process_heads}
use Rattle.theory.specs.AtHead.{member_left, member_right, AtHead}
use Rattle.theory.specs.Circle.{Passes, none_pass, passes_heads, no_circle_passes}

same_heads : (f g : List Data → ℕ → ℕ → List Summand) (p : Proc) → AtHead (λ k. (σ : List Data) (m : ℕ) → f σ m k ≡ g σ m k) p
    → (σ : List Data) (m c : ℕ) → heads_by f σ m c p ≡ heads_by g σ m c p
unfolding at_head heads_by
same_heads f g delta h σ m c = refl
same_heads f g (atom a ds) h σ m c = refl
same_heads f g (alt p q) h σ m c =
    cc (same_heads f g p (λ k a. h k (member_left _ a)) σ m c, same_heads f g q (λ k a. h k (member_right (at_head p) a)) σ m (c + new_count false p))
same_heads f g (cond d p q) h σ m c =
    cc (same_heads f g p (λ k a. h k (member_left _ a)) σ m c, same_heads f g q (λ k a. h k (member_right (at_head p) a)) σ m (c + new_count false p))
same_heads f g (sum x D p) h σ m c = ap (map (with_var D)) (same_heads f g p h (σ ++ (var m ∷ [])) (suc m) c)
same_heads f g (seq p q) h σ m c = ap (map (with_calls (calls_of σ (c + new_count false p) q))) (same_heads f g p h σ m c)
same_heads f g (call k ds) h σ m c = h k here (map (put_data (look σ)) ds) m

module _ (H : Sheet) where
  -- after as many rounds as all processes at the head of p take to pass, one more changes nothing
  pub heads_enough : (n : ℕ) (p : Proc) → AtHead (Passes H n) p → (σ : List Data) (m c : ℕ) → heads H n σ m c p ≡ heads H (suc n) σ m c p
  unfolding heads
  heads_enough zero p h = same_heads _ _ p (λ k a. absurd (none_pass H k (h k a)))
  heads_enough (suc n) p h = same_heads _ _ p (λ k a σ m. heads_enough n (right H k) (passes_heads H n k (h k a)) σ m _)

module _ (H : Sheet) (ok : Standing H) where
  all_pass_after : (n k : ℕ) → length H.procs ≤ n → k < length H.procs → Passes H n k
  all_pass_after n k e w = no_circle_passes H (process_heads H ok) ok.no_circle n k e w

  heads_further : (d : ℕ) (p : Proc) → AtHead (λ k. k < length H.procs) p → (σ : List Data) (m c : ℕ)
      → heads H (length H.procs) σ m c p ≡ heads H (length H.procs + d) σ m c p
  heads_further zero p h σ m c = rw (add-zero (length H.procs))
  heads_further (suc d) p h σ m c =
      rw (add-suc (length H.procs) d)
      (heads_further d p h σ m c ∙ heads_enough H (length H.procs + d) p (λ k a. all_pass_after _ k (omega arith) (h k a)) σ m c)

  -- every bound from the number of processes on gives the same heads
  pub heads_any_fuel : (n : ℕ) (p : Proc) → length H.procs ≤ n → AtHead (λ k. k < length H.procs) p → (σ : List Data) (m c : ℕ)
      → heads H n σ m c p ≡ heads H (fuel H) σ m c p
  unfolding fuel
  heads_any_fuel n p e h σ m c =
      let i : n ≡ length H.procs + (n - length H.procs) = omega arith in
      let j : suc (length H.procs) ≡ length H.procs + 1 = omega arith in
      rw (i, j) (sym (heads_further (n - length H.procs) p h σ m c) ∙ heads_further 1 p h σ m c)

  -- "a call: those of the process's right side, arguments put for parameters"
  pub heads_of_call : (σ : List Data) (m c k : ℕ) (ds : List Data)
      → heads H (fuel H) σ m c (call k ds) ≡ heads H (fuel H) (map (put_data (look σ)) ds) m (first_new (length H.procs) H.procs k) (right H k)
  unfolding heads heads_by fuel
  heads_of_call σ m c k ds =
      heads_enough H (length H.procs) (right H k) (λ j a. all_pass_after _ j (omega arith) (process_heads H ok k j a)) (map (put_data (look σ)) ds) m _
