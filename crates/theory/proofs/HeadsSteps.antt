-- The heads of a term are its steps: each head that fires is a step, and each step is a head that fires,
-- where the frames that it makes are like what is left of the term.
use Rattle.std.specs.Prelude.{◌≡◌}
use Rattle.std.proofs.Math.Path.{ap, ap₂, sym, subst}
use Rattle.std.proofs.Common.{◌∙◌}
use mathlib.Core.List.{List, [], ◌∷◌, ◌++◌, map, map-append}
use Rattle.std.proofs.Math.Bool.{false}
use Rattle.std.proofs.Math.Logic.{inl, inr}
use Prim.Native.Nat.{ℕ, suc, ◌+◌, ◌<◌}
use native.Mathlib.Omega.{arith}
use Rattle.std.proofs.Math.ListN.{length, length-map, length-append}
use Rattle.std.proofs.Math.Seq.{get_or-append_seam}
use Rattle.pcrl.specs.Tests.{Every, Each}
use Rattle.pcrl.specs.Sheet.{Data, var, Proc, delta, atom, alt, cond, sum, seq, call, Sheet, right, params}
use Rattle.pcrl.specs.Label.{Label, label}
use Rattle.pcrl.specs.Values.{eval, put_data, put, these, only, except}
use Rattle.pcrl.specs.Parts.{new_count}
use Rattle.pcrl.specs.Table.{Summand}
use Rattle.pcrl.specs.Heads.{with_var, with_cond, with_calls, look, calls_of, heads_by}
use Rattle.pcrl.specs.Circles.{at_head, here as member_here}
use Rattle.pcrl.specs.Stack.{Frame, InSorts}
use Rattle.pcrl.specs.Steps.{Any, here, Meets, call_frame, outcome, Fires}
use Rattle.pcrl.specs.Terms.{Rest, done, TermStep, acts, in_left, in_right, if_true, if_false, at_value, as_right}
use Rattle.laws.specs.Lists.{length_snoc}
use Rattle.laws.specs.Any.{any_left, any_right, any_cases, any_to, any_map, any_of_map, any_none, any_one, any_some}
use Rattle.theory.specs.AtHead.{AtHead, member_left, member_right}
use Rattle.theory.specs.Substitution.{put_only, except_these}
use Rattle.theory.specs.Below.{Below, below_look, all_below_look, all_eval_more}
use Rattle.theory.specs.Formed.{Formed, formed_numbered, Placed, alt_left, alt_right, cond_alt, sum_inside, seq_first, seq_rest}
use Rattle.theory.specs.TermSteps.{before, seq_step, step_delta, step_atom, step_alt, step_cond, step_sum, step_seq, step_call}
use Rattle.theory.specs.Firing.{fires_var, var_fires, fires_cond, cond_fires, fires_calls, calls_fires}
use Rattle.theory.specs.Like.{LikeRest, nothing_left, like_before, same_worth, same_args, calls_like, calls_below}

module _ (H : Sheet) where
  -- the term p with σ put for its variables, and the values τ for the variables of σ
  abbrev pub closed_by : List Data → List ℕ → Proc → Proc
  closed_by σ τ p = put (these (map (eval H.sig τ) σ)) p

  -- one variable more, worth v
  one_more : (σ : List Data) (τ : List ℕ) (v : ℕ) → Every (Below (length τ)) σ → map (eval H.sig (τ ++ (v ∷ []))) (σ ++ (var (length τ) ∷ [])) ≡ map (eval H.sig τ) σ ++ (v ∷ [])
  unfolding eval
  one_more σ τ v h = map-append _ σ _ ∙ ap₂ (λ (xs : List ℕ) (x : ℕ). xs ++ (x ∷ [])) (all_eval_more H.sig τ (v ∷ []) σ h) (get_or-append_seam τ v [] 0)

  -- a sum's value put in with the others, or by itself
  same_sum : (σ : List Data) (τ Γ : List ℕ) (c x D v : ℕ) (p : Proc) → Placed H false σ (length τ) Γ c (sum x D p)
      → closed_by (σ ++ (var (length τ) ∷ [])) (τ ++ (v ∷ [])) p ≡ put (only x v) (put (except x (these (map (eval H.sig τ) σ))) p)
  unfolding Formed
  same_sum σ τ Γ c x D v p at =
      let ρ : List ℕ = map (eval H.sig τ) σ in
      let i : x ≡ length Γ = at.formed.0 in
      let j : length Γ ≡ length σ = at.as_many in
      let n : length (map (eval H.sig τ) σ) ≡ length σ = length-map σ _ in
      let m : length (map (eval H.sig τ) σ) < length (Γ ++ (D ∷ [])) = simp length-append (omega arith) in
      let y : length (map (eval H.sig τ) σ) ≡ x = omega arith in
      ap (λ (r : List ℕ). put (these r) p) (one_more σ τ v at.below)
      ∙ sym (put_only ρ v (length (Γ ++ (D ∷ []))) p m (formed_numbered H (Γ ++ (D ∷ [])) p at.formed.1))
      ∙ ap₂ (λ (k : ℕ) (θ : ℕ → Data). put (only k v) (put θ p)) y (sym (except_these ρ x (omega arith)))

module _ (width : ℕ) (H : Sheet) where
  -- a step of the closed term to which the frames are like
  abbrev pub Stepped : Proc → Label → List Frame → Type 0
  Stepped p l fs = (r : Rest) × TermStep H p l r × LikeRest width H fs r

  -- EACH HEAD IS A STEP

  module _ (known : List Data → ℕ → ℕ → List Summand)
      (sound : (k : ℕ) (σ : List Data) (τ : List ℕ) (l : Label) (fs : List Frame) → Every (Below (length τ)) σ → k < length H.procs → length σ ≡ length (params H k)
      → Any (Fires width H.sig τ l fs) (known σ (length τ) k) → Stepped (closed_by H σ τ (right H k)) l fs) where
    pub head_steps : (p : Proc) (σ : List Data) (τ Γ : List ℕ) (c : ℕ) (l : Label) (fs : List Frame) → Placed H false σ (length τ) Γ c p
        → Any (Fires width H.sig τ l fs) (heads_by known σ (length τ) c p) → Stepped (closed_by H σ τ p) l fs
    unfolding heads_by Formed put outcome
    head_steps delta σ τ Γ c l fs at h = absurd (any_none h)
    head_steps (atom a ds) σ τ Γ c l fs at h =
        let f = any_one h in
        let e : l ≡ label H.sig a (map (eval H.sig []) (map (put_data (these (map (eval H.sig τ) σ))) ds)) =
        ap (λ (x : Label × List Frame). x.0) f.gives
        ∙ ap (label H.sig a) (all_eval_more H.sig τ f.values _ (all_below_look _ σ at.below ds) ∙ same_args H σ τ ds) in
        (done, rw e acts, rw (ap (λ (x : Label × List Frame). x.1) f.gives) nothing_left)
    head_steps (alt p q) σ τ Γ c l fs at h =
        elim (any_cases (heads_by known σ (length τ) c p) h) [
          | inl a ↦ let (r, t, k) = head_steps p σ τ Γ c l fs (alt_left H at) a in (r, in_left t, k)
          | inr a ↦ let (r, t, k) = head_steps q σ τ Γ (c + new_count false p) l fs (alt_right H at) a in (r, in_right t, k)
        ]
    head_steps (cond d p q) σ τ Γ c l fs at h =
        let b = below_look _ σ at.below d in
        elim (any_cases (map (with_cond 1 (put_data (look σ) d)) (heads_by known σ (length τ) c p)) h) [
          | inl a ↦
              let (i, a') = any_some (any_to (λ x. fires_cond width H.sig τ l 1 _ fs x b) (any_of_map (with_cond 1 (put_data (look σ) d)) (heads_by known σ (length τ) c p) a)) in
              let (r, t, k) = head_steps p σ τ Γ c l fs (alt_left H (cond_alt H at)) a' in
              (r, if_true (same_worth H σ τ d ∙ i) t, k)
          | inr a ↦
              let (i, a') = any_some (any_to (λ x. fires_cond width H.sig τ l 0 _ fs x b) (any_of_map (with_cond 0 (put_data (look σ) d)) (heads_by known σ (length τ) (c + new_count false p) q) a)) in
              let (r, t, k) = head_steps q σ τ Γ (c + new_count false p) l fs (alt_right H (cond_alt H at)) a' in
              (r, if_false (same_worth H σ τ d ∙ i) t, k)
        ]
    head_steps (sum x D p) σ τ Γ c l fs at h =
        let (v, a) = any_some (any_to (λ y. fires_var width H.sig τ l D fs y) (any_of_map (with_var D) (heads_by known (σ ++ (var (length τ) ∷ [])) (suc (length τ)) c p) h)) in
        let (i, a') = any_some a in
        let (r, t, k) = head_steps p (σ ++ (var (length τ) ∷ [])) (τ ++ (v ∷ [])) (Γ ++ (D ∷ [])) c l fs (rw (length_snoc τ v) (sum_inside H at)) (rw (length_snoc τ v) a') in
        (r, at_value {r = r} v i (rw (same_sum H σ τ Γ c x D v p at) at t), k)
    head_steps (seq p q) σ τ Γ c l fs at h =
        let cs = calls_of σ (c + new_count false p) q in
        let (fs', a) = any_some (any_to (λ x. fires_calls width H.sig τ l cs fs x (calls_below _ σ at.below _ q)) (any_of_map (with_calls cs) (heads_by known σ (length τ) c p) h)) in
        let (i, a') = any_some a in
        let (r, t, k) = head_steps p σ τ Γ c l fs' (seq_first H at) a' in (
          before (closed_by H σ τ q) r,
          seq_step H _ _ l r t,
          subst (λ (x : List Frame). LikeRest width H x (before (closed_by H σ τ q) r)) (sym i) (like_before width H r k (calls_like width H σ τ Γ _ q (seq_rest H at))),
        )
    head_steps (call k ds) σ τ Γ c l fs at h =
        let (r, t, j) = sound k (map (put_data (look σ)) ds) τ l fs (all_below_look _ σ at.below ds) at.formed.0 (length-map ds _ ∙ at.formed.1) h in
        (r, as_right (rw (same_args H σ τ ds) at t), j)

  -- EACH STEP IS A HEAD

  -- the head fires, and makes frames that are like r
  abbrev pub Matches : List ℕ → Label → Rest → Summand → Type 0
  Matches τ l r h = (fs : List Frame) × (Fires width H.sig τ l fs h × LikeRest width H fs r)

  module _ (known : List Data → ℕ → ℕ → List Summand) (G : ℕ → Type 0)
      (complete : (k : ℕ) (σ : List Data) (τ : List ℕ) (l : Label) (r : Rest) → Every (Below (length τ)) σ → k < length H.procs → length σ ≡ length (params H k)
      → G k → TermStep H (closed_by H σ τ (right H k)) l r → Any (Matches τ l r) (known σ (length τ) k)) where
    pub step_heads : (p : Proc) (σ : List Data) (τ Γ : List ℕ) (c : ℕ) (l : Label) (r : Rest) → Placed H false σ (length τ) Γ c p → AtHead G p
        → TermStep H (closed_by H σ τ p) l r → Any (Matches τ l r) (heads_by known σ (length τ) c p)
    unfolding heads_by at_head Formed put InSorts Each Meets Every outcome
    step_heads delta σ τ Γ c l r at g t = absurd (step_delta H t)
    step_heads (atom a ds) σ τ Γ c l r at g t =
        let (el, er) = step_atom H t in
        let e : l ≡ label H.sig a (map (eval H.sig (τ ++ [])) (map (put_data (look σ)) ds)) =
        el ∙ ap (label H.sig a) (sym (all_eval_more H.sig τ [] (map (put_data (look σ)) ds) (all_below_look _ σ at.below ds) ∙ same_args H σ τ ds)) in
        here ([], (record { values = []; in_sorts = tt; meets = tt; gives = λ i. (e i, []) }, subst (λ (u : Rest). LikeRest width H [] u) (sym er) nothing_left))
    step_heads (alt p q) σ τ Γ c l r at g t =
        elim (step_alt H t) [
          | inl u ↦ any_left _ (step_heads p σ τ Γ c l r (alt_left H at) (λ k a. g k (member_left _ a)) u)
          | inr u ↦ any_right (heads_by known σ (length τ) c p) (step_heads q σ τ Γ (c + new_count false p) l r (alt_right H at) (λ k a. g k (member_right (at_head p) a)) u)
        ]
    step_heads (cond d p q) σ τ Γ c l r at g t =
        let b = below_look _ σ at.below d in
        elim (step_cond H t) [
          | inl u ↦ any_left _ (any_map (with_cond 1 (put_data (look σ) d))
              (any_to (λ h m. (m.0, (cond_fires width H.sig τ l 1 _ m.0 h b (sym (same_worth H σ τ d) ∙ u.0) m.1.0, m.1.1)))
              (step_heads p σ τ Γ c l r (alt_left H (cond_alt H at)) (λ k a. g k (member_left _ a)) u.1)))
          | inr u ↦ any_right (map (with_cond 1 (put_data (look σ) d)) (heads_by known σ (length τ) c p)) (any_map (with_cond 0 (put_data (look σ) d))
              (any_to (λ h m. (m.0, (cond_fires width H.sig τ l 0 _ m.0 h b (sym (same_worth H σ τ d) ∙ u.0) m.1.0, m.1.1)))
              (step_heads q σ τ Γ (c + new_count false p) l r (alt_right H (cond_alt H at)) (λ k a. g k (member_right (at_head p) a)) u.1)))
        ]
    step_heads (sum x D p) σ τ Γ c l r at g t =
        let (v, i, u) = step_sum H t in
        let z = step_heads p (σ ++ (var (length τ) ∷ [])) (τ ++ (v ∷ [])) (Γ ++ (D ∷ [])) c l r (rw (length_snoc τ v) (sum_inside H at)) g (rw (same_sum H σ τ Γ c x D v p at) u) in
        any_map (with_var D) (any_to (λ h m. (m.0, (var_fires width H.sig τ l D m.0 h v i m.1.0, m.1.1))) (rw (length_snoc τ v) at z))
    step_heads (seq p q) σ τ Γ c l r at g t =
        let (r', u, i) = step_seq H t in
        let cs = calls_of σ (c + new_count false p) q in
        any_map (with_calls cs)
        (any_to (λ h m. (
          m.0 ++ map (call_frame width H.sig τ) cs,
          (
            calls_fires width H.sig τ l cs m.0 h (calls_below _ σ at.below _ q) m.1.0,
            subst (λ (y : Rest). LikeRest width H (m.0 ++ map (call_frame width H.sig τ) cs) y) (sym i) (like_before width H r' m.1.1 (calls_like width H σ τ Γ _ q (seq_rest H at))),
          ),
        ))
        (step_heads p σ τ Γ c l r' (seq_first H at) g u))
    step_heads (call k ds) σ τ Γ c l r at g t =
        complete k (map (put_data (look σ)) ds) τ l r (all_below_look _ σ at.below ds) at.formed.0 (length-map ds _ ∙ at.formed.1) (g k member_here)
        (rw (same_args H σ τ ds) (step_call H t))
