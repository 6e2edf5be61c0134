-- Each right state is equal to n steps, for every n, to the term that it stands for.
-- A right stack is like its term, and to be like is a bisimulation.
use Rattle.std.specs.Prelude.{◌≡◌, ◌↔◌}
use Rattle.std.proofs.Math.Path.{refl, ap, sym, subst}
use Rattle.std.proofs.Common.{◌∙◌}
use mathlib.Core.List.{List, [], ◌∷◌, map}
use Prim.Native.Nat.{ℕ, ◌<◌}
use native.Mathlib.Omega.{arith}
use Rattle.std.proofs.Math.ListN.{length}
use Rattle.std.proofs.lemmas.List.{length-map}
use Rattle.pcrl.specs.Tests.{Every}
use Rattle.pcrl.specs.Sheet.{val, call, Sheet}
use Rattle.pcrl.specs.Label.{Label}
use Rattle.pcrl.specs.Values.{eval}
use Rattle.pcrl.specs.Parts.{Kind, absent, written, part, kind}
use Rattle.pcrl.specs.Table.{equation}
use Rattle.pcrl.specs.Heads.{table_of}
use Rattle.pcrl.specs.Stack.{Frame, Stack, InSorts, used, RightFrame, RightStack}
use Rattle.pcrl.specs.Steps.{StackStep}
use Rattle.pcrl.specs.Terms.{Rest, done, still}
use Rattle.pcrl.specs.Equality.{Equal, Run}
use Rattle.pcrl.specs.States.{State, of_term, of_stack, Ended, StateStep, system, RightState, frame_term, term_of_frame, term_of_stack, stands_for}
use Rattle.laws.specs.Each.{each_length}
use Rattle.theory.specs.Standing.{Standing}
use Rattle.theory.specs.EqualityLaws.{equal_refl, equal_sym, Bisimulation, bisimilar, run_along}
use Rattle.theory.specs.Segments.{written_kind, kind_present}
use Rattle.theory.specs.Equations.{equation_count, params_written, params_part}
use Rattle.theory.specs.Like.{frame_with, Like, a_call, a_part, join, LikeRest, nothing_left, something_left, like_some}
use Rattle.theory.proofs.StackSteps.{like_forth, like_back}

module _ (width : ℕ) (H : Sheet) where
  -- A RIGHT STACK IS LIKE ITS TERM

  eval_vals : (vs : List ℕ) → map (eval H.sig []) (map val vs) ≡ vs
  unfolding eval
  eval_vals [] = refl
  eval_vals (v ∷ vs) = ap (λ (x : List ℕ). v ∷ x) (eval_vals vs)

  frame_like_by : (K : Kind) (e : ℕ) (vs : List ℕ) → kind H e ≡ K → e < length (table_of H).equations → length (equation (table_of H) e).params ≡ length vs
      → Like width H (frame_with width e vs ∷ []) (frame_term H K e vs)
  unfolding frame_term
  frame_like_by absent e vs w i h = absurd (kind_present H e (rw (equation_count H) at i) w)
  frame_like_by written e vs w i h =
      let k : e < length H.procs = written_kind H e w in
      let r : Like width H (frame_with width e (map (eval H.sig []) (map val vs)) ∷ []) (call e (map val vs)) =
      a_call e (map val vs) k (length-map vs val ∙ sym h ∙ ap length (params_written H e k)) in
      rw (eval_vals vs) at r
  frame_like_by (part x) e vs w i h = a_part e x vs w (sym h ∙ params_part H e x w)

  frame_like : (f : Frame) → RightFrame width (table_of H) f → Like width H (f ∷ []) (term_of_frame H f)
  unfolding RightFrame InSorts term_of_frame
  frame_like f h =
      let vs : List ℕ = used (table_of H) f in
      let r : Like width H (frame_with width f.number vs ∷ []) (frame_term H (kind H f.number) f.number vs) =
      frame_like_by (kind H f.number) f.number vs refl h.0 (each_length _ _ vs h.1.0) in
      subst (λ (x : List ℕ). Like width H (record { number = f.number; values = x } ∷ []) (frame_term H (kind H f.number) f.number vs)) (sym h.1.1) r

  stack_like : (f : Frame) (s : Stack) → RightStack width (table_of H) (f ∷ s) → Like width H (f ∷ s) (term_of_stack H f s)
  unfolding RightStack Every term_of_stack
  stack_like f [] h = frame_like f h.0
  stack_like f (g ∷ s) h = join (frame_like f h.0) (stack_like g s h.1)

  -- TO BE LIKE IS A BISIMULATION

  -- a stack, and a term or the ended process that goes on as it does
  unfoldable pub Goes : State → State → Type 0
  Goes (of_term r) u = ⊥
  Goes (of_stack s) (of_term r) = LikeRest width H s r
  Goes (of_stack s) (of_stack t) = ⊥

  pub stands_like : (s : Stack) → RightStack width (table_of H) s → Goes (of_stack s) (stands_for H (of_stack s))
  unfolding stands_for Goes
  stands_like [] h = nothing_left
  stands_like (f ∷ s) h = something_left (stack_like f s h)

  not_ended : (s : Stack) → 0 < length s → Ended (of_stack s) → ⊥
  unfolding Ended
  not_ended [] h e = omega arith
  not_ended (f ∷ s) h e = e

  like_ended : (s : Stack) (r : Rest) → LikeRest width H s r → Ended (of_stack s) ↔ Ended (of_term r)
  unfolding Ended
  like_ended s done nothing_left = (λ x. x, λ x. x)
  like_ended s (still p) (something_left k) = (not_ended s (like_some width H k), λ x. absurd x)

  module _ (ok : Standing H) where
    rest_forth : (s : Stack) (r : Rest) → LikeRest width H s r → (l : Label) (u : State) → StateStep width H (table_of H) (of_stack s) l u
        → (v : State) × StateStep width H (table_of H) (of_term r) l v × Goes u v
    unfolding StateStep Goes StackStep
    rest_forth s r k l (of_term u) h = absurd h
    rest_forth s done nothing_left l (of_stack u) h = absurd h
    rest_forth s (still p) (something_left k) l (of_stack u) h = let (r', t, k') = like_forth width H ok k l u h in (of_term r', t, k')

    rest_back : (s : Stack) (r : Rest) → LikeRest width H s r → (l : Label) (v : State) → StateStep width H (table_of H) (of_term r) l v
        → (u : State) × StateStep width H (table_of H) (of_stack s) l u × Goes u v
    unfolding StateStep Goes
    rest_back s done k l v h = absurd h
    rest_back s (still p) k l (of_stack v) h = absurd h
    rest_back s (still p) (something_left k) l (of_term v) h = let (u, t, k') = like_back width H ok k l v h in (of_stack u, t, k')

    pub goes : Bisimulation (system width H (table_of H)) (system width H (table_of H)) Goes
    unfolding Goes
    goes = record {
      ended = elim [ of_term t ↦ λ u r. absurd r | of_stack s ↦ elim [ of_term t ↦ λ r. like_ended s t r | of_stack u ↦ λ r. absurd r ] ];
      forth = elim [ of_term t ↦ λ u r. absurd r | of_stack s ↦ elim [ of_term t ↦ λ r l s' h. rest_forth s t r l s' h | of_stack u ↦ λ r. absurd r ] ];
      back = elim [ of_term t ↦ λ u r. absurd r | of_stack s ↦ elim [ of_term t ↦ λ r l t' h. rest_back s t r l t' h | of_stack u ↦ λ r. absurd r ] ];
    }

    -- Each right state is equal, to every number of steps, to the term that it stands for.
    pub equal_stands_for : (a : State) → RightState width H (table_of H) a → (n : ℕ) → Equal (system width H (table_of H)) (system width H (table_of H)) n a (stands_for H a)
    unfolding RightState stands_for
    equal_stands_for (of_term r) h n = equal_refl (system width H (table_of H)) n (of_term r)
    equal_stands_for (of_stack s) h n = bisimilar (system width H (table_of H)) (system width H (table_of H)) Goes goes n (of_stack s) (stands_for H (of_stack s)) (stands_like s h)

    -- Each run of a right stack is one of the term that it stands for, to a state that is equal to the stack that the run comes to.
    pub run_stands_for : (s : Stack) → RightStack width (table_of H) s → {ls : List Label} {u : State} → Run (system width H (table_of H)) (of_stack s) ls u
        → (v : State) × Run (system width H (table_of H)) (stands_for H (of_stack s)) ls v × ((n : ℕ) → Equal (system width H (table_of H)) (system width H (table_of H)) n v u)
    run_stands_for s h {ls} {u} q =
        let A = system width H (table_of H) in
        let (v, q', r) = run_along A A Goes goes (stands_for H (of_stack s)) (stands_like s h) q in
        (v, q', λ n. equal_sym A A n u v (bisimilar A A Goes goes n u v r))
