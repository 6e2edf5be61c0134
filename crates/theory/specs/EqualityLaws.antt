-- Equality to n steps is reflexive, symmetric and transitive, over any systems with the same labels; fewer steps ask less.
-- Pairs of a bisimulation are equal to every number of steps, and runs go along with it.
use Rattle.std.specs.Prelude.{List, ◌↔◌}
use Prim.Native.Nat.{ℕ, zero, suc}
use Rattle.pcrl.specs.Equality.{System, Equal, Run, stay, go}

module _ {L : Type 0} where
  pub equal_refl : (A : System L) (n : ℕ) (s : A.State) → Equal A A n s s
  unfolding Equal
  equal_refl A zero s = (λ h. h, λ h. h)
  equal_refl A (suc n) s = ((λ h. h, λ h. h), λ l s' h. (s', h, equal_refl A n s'), λ l s' h. (s', h, equal_refl A n s'))

  pub equal_sym : (A B : System L) (n : ℕ) (s : A.State) (t : B.State) → Equal A B n s t → Equal B A n t s
  unfolding Equal
  equal_sym A B zero s t e = (e.1, e.0)
  equal_sym A B (suc n) s t e = (
    (e.0.1, e.0.0),
    λ l t' h. let (s', k, r) = e.2 l t' h in (s', k, equal_sym A B n s' t' r),
    λ l s' h. let (t', k, r) = e.1 l s' h in (t', k, equal_sym A B n s' t' r),
  )

  pub equal_trans : (A B C : System L) (n : ℕ) (s : A.State) (t : B.State) (u : C.State)
      → Equal A B n s t → Equal B C n t u → Equal A C n s u
  unfolding Equal
  equal_trans A B C zero s t u e f = (λ h. f.0 (e.0 h), λ h. e.1 (f.1 h))
  equal_trans A B C (suc n) s t u e f = (
    (λ h. f.0.0 (e.0.0 h), λ h. e.0.1 (f.0.1 h)),
    λ l s' h. let (t', k, r) = e.1 l s' h in let (u', k', r') = f.1 l t' k in (u', k', equal_trans A B C n s' t' u' r r'),
    λ l u' h. let (t', k, r) = f.2 l u' h in let (s', k', r') = e.2 l t' k in (s', k', equal_trans A B C n s' t' u' r' r),
  )

  pub equal_less : (A B : System L) (n : ℕ) (s : A.State) (t : B.State) → Equal A B (suc n) s t → Equal A B n s t
  unfolding Equal
  equal_less A B zero s t e = e.0
  equal_less A B (suc n) s t e = (
    e.0,
    λ l s' h. let (t', k, r) = e.1 l s' h in (t', k, equal_less A B n s' t' r),
    λ l t' h. let (s', k, r) = e.2 l t' h in (s', k, equal_less A B n s' t' r),
  )

  -- what a relation has to be for its pairs to be equal to every number of steps
  pub record Bisimulation (A B : System L) (R : A.State → B.State → Type 0) : Type 0 where
    pub ended : (s : A.State) (t : B.State) → R s t → A.Ended s ↔ B.Ended t
    pub forth : (s : A.State) (t : B.State) → R s t → (l : L) (s' : A.State) → A.Step s l s' → (t' : B.State) × B.Step t l t' × R s' t'
    pub back : (s : A.State) (t : B.State) → R s t → (l : L) (t' : B.State) → B.Step t l t' → (s' : A.State) × A.Step s l s' × R s' t'

  pub bisimilar : (A B : System L) (R : A.State → B.State → Type 0) → Bisimulation A B R
      → (n : ℕ) (s : A.State) (t : B.State) → R s t → Equal A B n s t
  unfolding Equal
  bisimilar A B R b zero s t r = b.ended s t r
  bisimilar A B R b (suc n) s t r = (
    b.ended s t r,
    λ l s' h. let (t', k, r') = b.forth s t r l s' h in (t', k, bisimilar A B R b n s' t' r'),
    λ l t' h. let (s', k, r') = b.back s t r l t' h in (s', k, bisimilar A B R b n s' t' r'),
  )

  -- a run goes along with a bisimulation
  pub run_along : (A B : System L) (R : A.State → B.State → Type 0) → Bisimulation A B R → {s s' : A.State} {ls : List L} (t : B.State) → R s t → Run A s ls s'
      → (t' : B.State) × Run B t ls t' × R s' t'
  run_along A B R b t r stay = (t, stay, r)
  run_along A B R b {s} t r (go {l} {s' = u} h q) =
      let (v, k, r') = b.forth s t r l u h in
      let (t', q', r'') = run_along A B R b v r' q in
      (t', go k q', r'')
