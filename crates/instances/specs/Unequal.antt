-- States that are not equal to n steps, and labels that a run does not bear: equality and runs hold no more than document 01 says.
use Rattle.std.specs.Prelude.{◌≡◌, refl, [], ◌∷◌}
use Rattle.std.proofs.Common.{sym, subst, arith}
use Prim.Native.Nat.{ℕ, zero, suc}
use Rattle.pcrl.specs.Limits.{frame_width}
use Rattle.pcrl.specs.Label.{Label, label}
use Rattle.pcrl.specs.Sheet.{action, Proc, delta, alt, seq, atom, Sheet}
use Rattle.pcrl.specs.Table.{Table}
use Rattle.pcrl.specs.Terms.{Rest, done, still, TermStep, acts, in_left, in_right, goes_on, goes_over}
use Rattle.pcrl.specs.Equality.{System, Equal, Run, stay, go}
use Rattle.pcrl.specs.States.{State, of_term, of_stack, Ended, StateStep, system}

module _ (H : Sheet) (T : Table) where
  abbrev here : System Label
  here = system frame_width H T

  -- actions without data, and their labels
  abbrev act : ℕ → Proc
  act i = atom (action i) []

  abbrev bears : ℕ → Label
  bears i = label H.sig (action i) []

  abbrev term : Proc → State
  term p = of_term (still p)

  -- ENDED AND DELTA are not equal to 0 steps.
  pub ended_not_delta : Equal here here 0 (of_term done) (term delta) → ⊥
  unfolding Equal Ended
  ended_not_delta e = e.0 tt

  -- an action's step bears its label, and ends
  act_step : (i : ℕ) {l : Label} {r : Rest} → TermStep H (act i) l r → (l ≡ bears i) × (r ≡ done)
  act_step i acts = (refl, refl)

  act_steps : (i : ℕ) (l : Label) (u : State) → here.Step (term (act i)) l u → (l ≡ bears i) × (u ≡ of_term done)
  unfolding StateStep
  act_steps i l (of_term r) h = let (e, f) = act_step i h in (e, cc)
  act_steps i l (of_stack s) h = absurd h

  -- DELTA AFTER AN ACTION IS NOT THE END: a.delta and a are not equal to 1 step.
  pub delta_is_no_end : Equal here here 1 (term (seq (act 0) delta)) (term (act 0)) → ⊥
  unfolding Equal Ended StateStep
  delta_is_no_end e = go_on (e.1 (bears 0) (term delta) (goes_over acts))
    where
      go_on : (u : State) × here.Step (term (act 0)) (bears 0) u × Equal here here 0 (term delta) u → ⊥
      go_on (u, h, q) = let (l, f) = act_steps 0 (bears 0) u h in (rw f at q).1 tt

  no_rest : {q : Proc} → still q ≡ done → ⊥
  no_rest e = let z : ◌≡◌ {A = ℕ} 0 1 = cc in omega arith

  -- an action before p: its label, and then p
  before_step : (p : Proc) {l : Label} {r : Rest} → TermStep H (seq (act 0) p) l r → (l ≡ bears 0) × (r ≡ still p)
  before_step p (goes_on h) = absurd (no_rest (act_step 0 h).1)
  before_step p (goes_over h) = ((act_step 0 h).0, refl)

  before_steps : (p : Proc) (l : Label) (u : State) → here.Step (term (seq (act 0) p)) l u → (l ≡ bears 0) × (u ≡ term p)
  unfolding StateStep
  before_steps p l (of_term r) h = let (e, f) = before_step p h in (e, cc)
  before_steps p l (of_stack s) h = absurd h

  -- the step of one action is none of another's
  not_both : (i j : ℕ) → (bears i ≡ bears j → ⊥) → (n : ℕ) (p : Proc) → here.Step (term p) (bears j) (of_term done) → Equal here here (suc n) (term p) (term (act i)) → ⊥
  unfolding Equal
  not_both i j differ n p step e = found (e.1 (bears j) (of_term done) step)
    where
      found : (u : State) × here.Step (term (act i)) (bears j) u × Equal here here n (of_term done) u → ⊥
      found (u, h, q) = differ (sym (act_steps i (bears j) u h).0)

  -- "only choice on the left distributes": a.(b+c) AND a.b+a.c are not equal to 2 steps.
  pub choice_is_not_shared : (bears 1 ≡ bears 2 → ⊥) → Equal here here 2 (term (seq (act 0) (alt (act 1) (act 2)))) (term (alt (seq (act 0) (act 1)) (seq (act 0) (act 2)))) → ⊥
  unfolding Equal StateStep
  choice_is_not_shared differ e = found (e.1 (bears 0) (term both) (goes_over acts))
    where
      both : Proc
      both = alt (act 1) (act 2)

      to : {l : Label} {r : Rest} → TermStep H (alt (seq (act 0) (act 1)) (seq (act 0) (act 2))) l r → Equal here here 1 (term both) (of_term r) → ⊥
      to (in_left h) q = not_both 1 2 differ 0 both (in_right acts) (rw (before_step (act 1) h).1 at q)
      to (in_right h) q = not_both 2 1 (λ z. differ (sym z)) 0 both (in_left acts) (rw (before_step (act 2) h).1 at q)

      found : (u : State) × here.Step (term (alt (seq (act 0) (act 1)) (seq (act 0) (act 2)))) (bears 0) u × Equal here here 1 (term both) u → ⊥
      found (of_term r, h, q) = to h q
      found (of_stack s, h, q) = h

  -- n actions, and then p
  unfoldable pub chain : ℕ → Proc → Proc
  chain zero p = p
  chain (suc n) p = seq (act 0) (chain n p)

  -- WHAT DIFFERS BEHIND n STEPS is equal to n steps, and not to n + 1, whatever n.
  pub alike_so_far : (n : ℕ) → Equal here here n (term (chain n (act 1))) (term (chain n (act 2)))
  unfolding Equal Ended StateStep chain
  alike_so_far zero = (λ h. h, λ h. h)
  alike_so_far (suc n) = let rest = alike_so_far n in ((λ h. h, λ h. h), there rest, back rest)
    where
      rests : Type 0
      rests = Equal here here n (term (chain n (act 1))) (term (chain n (act 2)))

      there : rests → (l : Label) (s : State) → here.Step (term (chain (suc n) (act 1))) l s → (t : State) × here.Step (term (chain (suc n) (act 2))) l t × Equal here here n s t
      there rest l s h = let (e, f) = before_steps (chain n (act 1)) l s h in
          subst (λ (m : Label). (t : State) × here.Step (term (chain (suc n) (act 2))) m t × Equal here here n s t) (sym e)
          (subst (λ (u : State). (t : State) × here.Step (term (chain (suc n) (act 2))) (bears 0) t × Equal here here n u t) (sym f)
          (term (chain n (act 2)), goes_over acts, rest))

      back : rests → (l : Label) (t : State) → here.Step (term (chain (suc n) (act 2))) l t → (s : State) × here.Step (term (chain (suc n) (act 1))) l s × Equal here here n s t
      back rest l t h = let (e, f) = before_steps (chain n (act 2)) l t h in
          subst (λ (m : Label). (s : State) × here.Step (term (chain (suc n) (act 1))) m s × Equal here here n s t) (sym e)
          (subst (λ (u : State). (s : State) × here.Step (term (chain (suc n) (act 1))) (bears 0) s × Equal here here n s u) (sym f)
          (term (chain n (act 1)), goes_over acts, rest))

  pub then_unlike : (bears 1 ≡ bears 2 → ⊥) → (n : ℕ) → Equal here here (suc n) (term (chain n (act 1))) (term (chain n (act 2))) → ⊥
  unfolding Equal StateStep chain
  then_unlike differ zero e = not_both 2 1 (λ z. differ (sym z)) 0 (act 1) acts e
  then_unlike differ (suc n) e = found (then_unlike differ n) (e.1 (bears 0) (term (chain n (act 1))) (goes_over acts))
    where
      found : (Equal here here (suc n) (term (chain n (act 1))) (term (chain n (act 2))) → ⊥) → (u : State) × here.Step (term (chain (suc n) (act 2))) (bears 0) u × Equal here here (suc n) (term (chain n (act 1))) u → ⊥
      found unlike (u, h, q) = unlike (rw (before_steps (chain n (act 2)) (bears 0) u h).1 at q)

  -- A RUN BEARS THE LABELS OF ITS STEPS, and no others: of n actions in a chain only that many labels of theirs, in order.
  pub no_other_label : (m : Label) → (m ≡ bears 0 → ⊥) → (t : State) → Run here (term (act 0)) (m ∷ []) t → ⊥
  no_other_label m other t (go {l = l} {s' = u} h more) = other (act_steps 0 l u h).0

  -- nor more of them
  pub no_more_labels : (l m : Label) (t : State) → Run here (term (act 0)) (l ∷ m ∷ []) t → ⊥
  unfolding StateStep
  no_more_labels l m t (go {s' = u} h (go {s' = v} k more)) = ended v (rw (act_steps 0 l u h).1 at k)
    where
      ended : (v : State) → here.Step (of_term done) m v → ⊥
      ended v k = k

  -- and where there are none it stays
  pub no_label_stays : (s t : State) → Run here s [] t → s ≡ t
  no_label_stays s t stay = refl
