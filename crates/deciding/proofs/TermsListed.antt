-- The list of a closed term's steps is exactly `TermStep` where the sheet passes question 9.
use Rattle.std.proofs.Math.Path.{ap, sym, subst}
use Rattle.std.proofs.Common.{◌∙◌, arith}
use Rattle.std.specs.Prelude.{List, map, T}
use Rattle.std.proofs.Math.Logic.{inl, inr}
use Rattle.std.proofs.Math.Option.{none}
use Prim.Native.Nat.{ℕ, zero, suc, ◌<◌}
use Rattle.std.proofs.Math.Decide.{ℕ_discrete, dec_lt}
use Rattle.std.proofs.Math.ListN.{length, get_elem?}
use Rattle.pcrl.specs.Lists.{tabulate}
use Rattle.pcrl.specs.Sheet.{Proc, delta, atom, alt, cond, sum, seq, call, Sheet, size, right}
use Rattle.pcrl.specs.Label.{Label}
use Rattle.pcrl.specs.Values.{put_data, put, or_var, these}
use Rattle.pcrl.specs.Circles.{at_head, guarded, here as member_here}
use Rattle.pcrl.specs.Steps.{Any, here}
use Rattle.pcrl.specs.Terms.{Rest, TermStep, acts, in_left, in_right, if_true, if_false, at_value, as_right}
use Rattle.laws.specs.Any.{In, any_left, any_right, any_cases, any_to, any_map, any_of_map, any_none, any_one, any_all, any_of_all, any_tabulate, any_of_tabulate, any_found}
use Rattle.theory.specs.TermSteps.{seq_step, step_delta, step_atom, step_alt, step_cond, step_sum, step_seq, step_call}
use Rattle.theory.specs.AtHead.{AtHead, member_left, member_right, absent_right}
use Rattle.theory.specs.Circle.{Passes, none_pass, passes_heads, guarded_passes}
use Rattle.deciding.specs.Valued.{valued, with_value, put_var, put_value}
use Rattle.deciding.specs.TermsListed.{where_met, Values, worth, all_worth, then, steps_by, call_steps, term_steps}

module _ {P A : Type 0} {Q : A → Type 0} where
  any_of_where : (d : Dec P) (xs : List A) → Any Q (where_met d (λ h. xs)) → P × Any Q xs
  unfolding where_met
  any_of_where (yes h) xs a = (h, a)
  any_of_where (no h) xs a = absurd (any_none a)

  any_where : (d : Dec P) (xs : List A) → P → Any Q xs → Any Q (where_met d (λ h. xs))
  unfolding where_met
  any_where (yes h) xs p a = a
  any_where (no h) xs p a = absurd (h p)

module _ (H : Sheet) where
  module _ (known : ℕ → List ℕ → List (Label × Rest))
      (sound : (k : ℕ) (vs : List ℕ) (l : Label) (r : Rest) → In (l, r) (known k vs) → TermStep H (put (these vs) (right H k)) l r) where
    by_sound : (e : Values) (p : Proc) (l : Label) (r : Rest) → In (l, r) (steps_by H known e p) → TermStep H (put (valued e) p) l r
    unfolding steps_by put
    by_sound e delta l r i = absurd (any_none i)
    by_sound e (atom a ds) l r i = subst (λ (x : Label × Rest). TermStep H (atom a (map (put_data (valued e)) ds)) x.0 x.1) (any_one i) acts
    by_sound e (alt p q) l r i = elim (any_cases (steps_by H known e p) i) [ inl a ↦ in_left (by_sound e p l r a) | inr b ↦ in_right (by_sound e q l r b) ]
    by_sound e (cond c p q) l r i =
        elim (any_cases (where_met (ℕ_discrete (worth H e c) 1) (λ h. steps_by H known e p)) i) [
          | inl a ↦ let (h, b) = any_of_where (ℕ_discrete (worth H e c) 1) (steps_by H known e p) a in if_true h (by_sound e p l r b)
          | inr a ↦ let (h, b) = any_of_where (ℕ_discrete (worth H e c) 0) (steps_by H known e q) a in if_false h (by_sound e q l r b)
        ]
    by_sound e (sum x D p) l r i =
        let (v, h, a) = any_of_tabulate (size H.sig D) (λ v. v) (any_of_all (λ v. steps_by H known (with_value x v e) p) (tabulate (size H.sig D) (λ v. v)) i) in
        at_value v h (subst (λ (y : Proc). TermStep H y l r) (sym (put_value x v e p)) (by_sound (with_value x v e) p l r a))
    by_sound e (seq p q) l r i =
        let (x, a, z) = any_found (any_of_map (then H q e) (steps_by H known e p) i) in
        subst (λ (y : Label × Rest). TermStep H (seq (put (valued e) p) (put (valued e) q)) y.0 y.1) z (seq_step H _ _ x.0 x.1 (by_sound e p x.0 x.1 a))
    by_sound e (call k ds) l r i = as_right (sound k (all_worth H e ds) l r i)

  call_sound : (n k : ℕ) (vs : List ℕ) (l : Label) (r : Rest) → In (l, r) (call_steps H n k vs) → TermStep H (put (these vs) (right H k)) l r
  unfolding call_steps these
  call_sound zero k vs l r i = absurd (any_none i)
  call_sound (suc n) k vs l r i = by_sound (call_steps H n) (call_sound n) (get_elem? vs) (right H k) l r i

  pub listed_term_steps : (p : Proc) (l : Label) (r : Rest) → In (l, r) (term_steps H p) → TermStep H p l r
  unfolding term_steps or_var
  listed_term_steps p l r i = subst (λ (y : Proc). TermStep H y l r) (put_var p) (by_sound _ (call_sound _) (λ i. none) p l r i)

  -- EACH STEP IS LISTED

  module _ (known : ℕ → List ℕ → List (Label × Rest)) (G : ℕ → Type 0)
      (complete : (k : ℕ) (vs : List ℕ) (l : Label) (r : Rest) → G k → TermStep H (put (these vs) (right H k)) l r → In (l, r) (known k vs)) where
    by_complete : (e : Values) (p : Proc) (l : Label) (r : Rest) → AtHead G p → TermStep H (put (valued e) p) l r → In (l, r) (steps_by H known e p)
    unfolding steps_by put at_head
    by_complete e delta l r g t = absurd (step_delta H t)
    by_complete e (atom a ds) l r g t = let (x, y) = step_atom H t in here (λ i. (sym x i, sym y i))
    by_complete e (alt p q) l r g t =
        elim (step_alt H t) [
          | inl u ↦ any_left _ (by_complete e p l r (λ k a. g k (member_left _ a)) u)
          | inr u ↦ any_right (steps_by H known e p) (by_complete e q l r (λ k a. g k (member_right (at_head p) a)) u)
        ]
    by_complete e (cond c p q) l r g t =
        elim (step_cond H t) [
          | inl (h, u) ↦ any_left _ (any_where (ℕ_discrete (worth H e c) 1) (steps_by H known e p) h (by_complete e p l r (λ k a. g k (member_left _ a)) u))
          | inr (h, u) ↦ any_right (where_met (ℕ_discrete (worth H e c) 1) (λ h. steps_by H known e p)) (any_where (ℕ_discrete (worth H e c) 0) (steps_by H known e q) h (by_complete e q l r (λ k a. g k (member_right (at_head p) a)) u))
        ]
    by_complete e (sum x D p) l r g t =
        let (v, h, u) = step_sum H t in
        any_all (λ v. steps_by H known (with_value x v e) p) (any_tabulate (size H.sig D) (λ v. v) v h (by_complete (with_value x v e) p l r g (subst (λ (y : Proc). TermStep H y l r) (put_value x v e p) u)))
    by_complete e (seq p q) l r g t =
        let (s, u, z) = step_seq H t in
        any_map (then H q e) (any_to (λ x a. ap (then H q e) a ∙ (λ i. (l, sym z i))) (by_complete e p l s g u))
    by_complete e (call k ds) l r g t = complete k (all_worth H e ds) l r (g k member_here) (step_call H t)

  call_complete : (n k : ℕ) (vs : List ℕ) (l : Label) (r : Rest) → Passes H n k → TermStep H (put (these vs) (right H k)) l r → In (l, r) (call_steps H n k vs)
  unfolding call_steps these
  call_complete zero k vs l r g t = absurd (none_pass H k g)
  call_complete (suc n) k vs l r g t = by_complete (call_steps H n) (Passes H n) (call_complete n) (get_elem? vs) (right H k) l r (passes_heads H n k g) t

  -- a process that is not there has no step
  guarded_complete : T (guarded H) → (k : ℕ) (vs : List ℕ) (l : Label) (r : Rest) → Unit {0} → TermStep H (put (these vs) (right H k)) l r
      → In (l, r) (call_steps H (length H.procs) k vs)
  unfolding put
  guarded_complete h k vs l r g t = go (dec_lt k (length H.procs))
    where
      go : Dec (k < length H.procs) → In (l, r) (call_steps H (length H.procs) k vs)
      go (yes w) = call_complete (length H.procs) k vs l r (guarded_passes H h k w) t
      go (no w) = absurd (step_delta H (subst (λ (y : Proc). TermStep H (put (these vs) y) l r) (absent_right H k (omega arith)) t))

  pub term_steps_listed : T (guarded H) → (p : Proc) (l : Label) (r : Rest) → TermStep H p l r → In (l, r) (term_steps H p)
  unfolding term_steps or_var
  term_steps_listed h p l r t =
      by_complete (call_steps H (length H.procs)) (λ k. Unit {0}) (guarded_complete h) (λ i. none) p l r (λ k a. tt) (subst (λ (y : Proc). TermStep H y l r) (sym (put_var p)) t)
