-- Transition systems whose steps are listed: equality to n steps is decided, and what runs come to is listed, by computation.
use Rattle.std.specs.Prelude.{◌≡◌, ◌↔◌}
use Rattle.std.proofs.Math.Path.{refl, subst}
use Rattle.std.proofs.Common.{ap, sym}
use mathlib.Core.List.{List, [], ◌∷◌}
use Prim.Native.Nat.{ℕ, suc}
use Rattle.pcrl.specs.Reader.{all}
use Rattle.pcrl.specs.Steps.{here, if_met}
use Rattle.pcrl.specs.Equality.{System, Equal, Run, stay, go}
use Rattle.laws.specs.Any.{In, any_to, any_found, any_one, any_all, any_of_all}
use Rattle.theory.specs.Listing.{any_if_met, any_of_if_met}
use Rattle.deciding.specs.Decisions.{inhabited?}
use Rattle.deciding.specs.Matching.{Matched}

-- for each state whether it has ended, and the list of its steps: these and no others
pub record Listed {L : Type 0} (A : System L) : Type 0 where
  pub ended? : (s : A.State) → Dec (A.Ended s)
  pub successors : A.State → List (L × A.State)
  pub sound : (s : A.State) (l : L) (t : A.State) → In (l, t) (successors s) → A.Step s l t
  pub complete : (s : A.State) (l : L) (t : A.State) → A.Step s l t → In (l, t) (successors s)

-- EQUALITY TO n STEPS

module _ {L : Type 0} (A B : System L) where
  -- two steps with the same label to states equal to n steps
  abbrev pub Alike : ℕ → L × A.State → L × B.State → Type 0
  Alike n x y = (x.0 ≡ y.0) × Equal A B n x.1 y.1

  module _ (a : Listed A) (b : Listed B) (n : ℕ) (s : A.State) (t : B.State) where
    pub matched_equal : (A.Ended s ↔ B.Ended t) × Matched (Alike n) (a.successors s) (b.successors t) → Equal A B (suc n) s t
    unfolding Equal
    matched_equal (e, (forth, back)) = (
      e,
      λ l s' h.
          let (y, i, q) = any_found (forth (l, s') (a.complete s l s' h)) in
          (y.1, b.sound t l y.1 (subst (λ (k : L). In (k, y.1) (b.successors t)) (sym q.0) i), q.1),
      λ l t' h.
          let (x, i, q) = any_found (back (l, t') (b.complete t l t' h)) in
          (x.1, a.sound s l x.1 (subst (λ (k : L). In (k, x.1) (a.successors s)) q.0 i), q.1),
    )

    pub equal_matched : Equal A B (suc n) s t → (A.Ended s ↔ B.Ended t) × Matched (Alike n) (a.successors s) (b.successors t)
    unfolding Equal
    equal_matched (e, forth, back) = (
      e,
      (
        λ x i.
            let (t', h, r) = forth x.0 x.1 (a.sound s x.0 x.1 i) in
            any_to (λ y z. subst (λ (w : L × B.State). Alike n x w) (sym z) (refl, r)) (b.complete t x.0 t' h),
        λ y i.
            let (s', h, r) = back y.0 y.1 (b.sound t y.0 y.1 i) in
            any_to (λ x z. subst (λ (w : L × A.State). Alike n w y) (sym z) (refl, r)) (a.complete s y.0 s' h),
      ),
    )

-- RUNS

module _ {L : Type 0} (same? : (k l : L) → Dec (k ≡ l)) {A : System L} (a : Listed A) where
  -- where the steps with the label l lead
  unfoldable pub successors_by : L → A.State → List A.State
  successors_by l s = all (λ (x : L × A.State). if_met (same? x.0 l) x.1) (a.successors s)

  -- where the runs with these labels lead
  unfoldable pub reachable_by : List L → A.State → List A.State
  reachable_by [] s = s ∷ []
  reachable_by (l ∷ ls) s = all (reachable_by ls) (successors_by l s)

  successor_step : (l : L) (s t : A.State) → In t (successors_by l s) → A.Step s l t
  unfolding successors_by
  successor_step l s t i =
      let (x, j, k) = any_found (any_of_all (λ (x : L × A.State). if_met (same? x.0 l) x.1) (a.successors s) i) in
      let (e, f) = any_of_if_met (same? x.0 l) x.1 k in
      a.sound s l t (subst (λ (y : L × A.State). In y (a.successors s)) (λ i. (e i, f i)) j)

  step_successor : (l : L) (s t : A.State) → A.Step s l t → In t (successors_by l s)
  unfolding successors_by
  step_successor l s t h =
      any_all (λ (x : L × A.State). if_met (same? x.0 l) x.1)
      (any_to (λ x e. any_if_met (same? x.0 l) x.1 (ap (λ (y : L × A.State). y.0) e) (ap (λ (y : L × A.State). y.1) e)) (a.complete s l t h))

  pub reachable_run : (ls : List L) (s t : A.State) → In t (reachable_by ls s) → Run A s ls t
  unfolding reachable_by
  reachable_run [] s t i = subst (λ (u : A.State). Run A s [] u) (any_one i) stay
  reachable_run (l ∷ ls) s t i = let (u, j, k) = any_found (any_of_all (reachable_by ls) (successors_by l s) i) in go (successor_step l s u j) (reachable_run ls u t k)

  pub run_reachable : {s t : A.State} {ls : List L} → Run A s ls t → In t (reachable_by ls s)
  unfolding reachable_by
  run_reachable stay = here refl
  run_reachable (go {s} {l} {s'} {ls} {t} h r) =
      any_all (reachable_by ls) (any_to (λ u e. subst (λ (v : A.State). In t (reachable_by ls v)) (sym e) (run_reachable r)) (step_successor l s s' h))

  -- Does some run bear these labels?
  unfoldable pub bears? : (ls : List L) (s : A.State) → Dec ((t : A.State) × Run A s ls t)
  bears? ls s = inhabited? (reachable_by ls s) (reachable_run ls s) (λ t r. run_reachable r)
