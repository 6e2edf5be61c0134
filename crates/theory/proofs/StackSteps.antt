-- A stack of a sheet's table steps as the term that it is like, and comes to a stack that is like what is left of the term.
use Rattle.std.specs.Prelude.{◌≡◌, refl, false, replicate}
use Rattle.std.proofs.Math.Path.{ap, sym}
use Rattle.std.proofs.Common.{◌∙◌, subst, arith}
use mathlib.Core.List.{List, [], ◌∷◌, ◌++◌, map, append-nil, append_assoc}
use Rattle.std.proofs.Math.Bool.{Bool, true}
use Prim.Native.Nat.{ℕ, zero, suc, ◌<◌}
use Rattle.std.proofs.Math.ListN.{length, length-replicate}
use Rattle.std.proofs.lemmas.List.{length-map}
use Rattle.pcrl.specs.Tests.{Every}
use Rattle.pcrl.specs.Sheet.{Data, Proc, Sheet, right, params}
use Rattle.pcrl.specs.Label.{Label}
use Rattle.pcrl.specs.Values.{eval, put, these}
use Rattle.pcrl.specs.Parts.{marks, count, as_params, first_new, NewPart, part, kind}
use Rattle.pcrl.specs.Table.{Equation, equation}
use Rattle.pcrl.specs.Heads.{heads, fuel, equation_of, table_of}
use Rattle.pcrl.specs.Stack.{Frame, Stack, used}
use Rattle.pcrl.specs.Steps.{Any, Fires, StackStep}
use Rattle.pcrl.specs.Terms.{Rest, TermStep, as_right}
use Rattle.laws.specs.Any.{any_to, any_none, any_some}
use Rattle.theory.specs.Standing.{Standing}
use Rattle.theory.specs.StandingLaws.{process_heads}
use Rattle.theory.specs.AtHead.{AtHead}
use Rattle.theory.specs.Circle.{Passes, none_pass, passes_heads, no_circle_passes}
use Rattle.theory.specs.Below.{Below}
use Rattle.theory.specs.Marks.{marks_length, as_params_below, as_params_length, count_all, eval_params}
use Rattle.theory.specs.Segments.{seg_right_side}
use Rattle.theory.specs.Formed.{Placed}
use Rattle.theory.proofs.Formed.{right_formed, part_formed}
use Rattle.theory.specs.TermSteps.{before, seq_step, step_seq, step_call}
use Rattle.theory.specs.Like.{frame_with, part_with, Like, a_call, a_part, join, LikeRest, like_some, like_before}
use Rattle.theory.proofs.HeadsSteps.{closed_by, Stepped, head_steps, Matches, step_heads}
use Rattle.theory.specs.Equations.{used_padded, equation_written, equation_part, params_written, params_part}

module _ (width : ℕ) (H : Sheet) (ok : Standing H) where
  -- CALLS AT THE HEAD FOLLOWED SO FAR

  -- the right side of a process that is called at the head
  right_placed : (k : ℕ) (σ : List Data) (m : ℕ) → Every (Below m) σ → k < length H.procs → length σ ≡ length (params H k)
      → Placed H false σ m (params H k) (first_new (length H.procs) H.procs k) (right H k)
  right_placed k σ m b w e = record { below = b; as_many = sym e; formed = right_formed H ok k w; segment = seg_right_side H k w }

  heads_sound : (n : ℕ) (p : Proc) (σ : List Data) (τ Γ : List ℕ) (c : ℕ) (l : Label) (fs : List Frame) → Placed H false σ (length τ) Γ c p
      → Any (Fires width H.sig τ l fs) (heads H n σ (length τ) c p) → Stepped width H (closed_by H σ τ p) l fs
  unfolding heads
  heads_sound zero p σ τ Γ c l fs at h = head_steps width H _ (λ k σ τ l fs b w e h. absurd (any_none h)) p σ τ Γ c l fs at h
  heads_sound (suc n) p σ τ Γ c l fs at h =
      head_steps width H _ (λ k σ τ l fs b w e h. heads_sound n (right H k) σ τ (params H k) _ l fs (right_placed k σ (length τ) b w e) h) p σ τ Γ c l fs at h

  heads_complete : (n : ℕ) (p : Proc) (σ : List Data) (τ Γ : List ℕ) (c : ℕ) (l : Label) (r : Rest) → Placed H false σ (length τ) Γ c p → AtHead (Passes H n) p
      → TermStep H (closed_by H σ τ p) l r → Any (Matches width H τ l r) (heads H n σ (length τ) c p)
  unfolding heads
  heads_complete zero p σ τ Γ c l r at g t = step_heads width H _ (Passes H 0) (λ k σ τ l r b w e g t. absurd (none_pass H k g)) p σ τ Γ c l r at g t
  heads_complete (suc n) p σ τ Γ c l r at g t =
      step_heads width H _ (Passes H (suc n))
      (λ k σ τ l r b w e g t. heads_complete n (right H k) σ τ (params H k) _ l r (right_placed k σ (length τ) b w e) (passes_heads H n k g) t) p σ τ Γ c l r at g t

  -- ONE FRAME

  -- the frame f and the term p have the same steps
  pub record FrameSteps (f : Frame) (p : Proc) : Type 0 where
    pub forth_one : (l : Label) (fs : List Frame) → Any (Fires width H.sig (used (table_of H) f) l fs) (equation (table_of H) f.number).summands → Stepped width H p l fs
    pub back_one : (l : Label) (r : Rest) → TermStep H p l r → Any (Matches width H (used (table_of H) f) l r) (equation (table_of H) f.number).summands

  -- the term p of an equation whose summands are its heads
  frame_steps : (f : Frame) (p : Proc) (σ : List Data) (vs Γ : List ℕ) (c : ℕ) → Placed H false σ (length vs) Γ c p → AtHead (λ k. k < length H.procs) p
      → used (table_of H) f ≡ vs → (equation (table_of H) f.number).summands ≡ heads H (fuel H) σ (length vs) c p → FrameSteps f (closed_by H σ vs p)
  unfolding fuel
  frame_steps f p σ vs Γ c at there u s = record {
    forth_one = λ l fs h. heads_sound (fuel H) p σ vs Γ c l fs at (rw (u, s) at h);
    back_one = λ l r t.
        rw (u, s) (heads_complete (fuel H) p σ vs Γ c l r at (λ k a. no_circle_passes H (process_heads H ok) ok.no_circle _ k (omega arith) (there k a)) t);
  }

  call_steps : (k : ℕ) (vs : List ℕ) → k < length H.procs → length vs ≡ length (params H k) → FrameSteps (frame_with width k vs) (put (these vs) (right H k))
  unfolding equation_of
  call_steps k vs w e =
      let σ : List Data = as_params (replicate (length vs) true) 0 in
      let below : Every (Below (length vs)) σ = as_params_below (replicate (length vs) true) 0 (length vs) (rw (count_all (length vs)) (omega arith)) in
      let as_many : length σ ≡ length (params H k) = as_params_length (replicate (length vs) true) 0 ∙ length-replicate (length vs) true ∙ e in
      rw (eval_params H.sig vs) at
      (frame_steps (frame_with width k vs) (right H k) σ vs (params H k) _ (right_placed k σ (length vs) below w as_many) (process_heads H ok k)
      (used_padded width (table_of H) k vs (ap length (params_written H k w) ∙ sym e)) (ap (λ (q : Equation). q.summands) (equation_written H k w) ∙ rw (← e)))

  part_steps : (e : ℕ) (x : NewPart) (vs : List ℕ) → kind H e ≡ part x → length vs ≡ count (marks (length x.scope) x.term) → FrameSteps (frame_with width e vs) (part_with H x vs)
  unfolding equation_of
  part_steps e x vs w h =
      let bs : List Bool = marks (length x.scope) x.term in
      let (f, there, seg) = part_formed H ok e x w in
      frame_steps (frame_with width e vs) x.term (as_params bs 0) vs x.scope (suc e)
      (record {
        below = as_params_below bs 0 (length vs) (omega arith);
        as_many = sym (as_params_length bs 0 ∙ marks_length (length x.scope) x.term);
        formed = f;
        segment = seg;
      })
      there (used_padded width (table_of H) e vs (params_part H e x w ∙ sym h)) (ap (λ (q : Equation). q.summands) (equation_part H e x w) ∙ rw h)

  -- STACKS

  -- a step of a stack whose top frame is in s
  split : (s t : Stack) (l : Label) (u : Stack) → 0 < length s → StackStep width (table_of H) (s ++ t) l u → (s' : Stack) × StackStep width (table_of H) s l s' × (u ≡ s' ++ t)
  unfolding StackStep
  split [] t l u n h = absurd (omega arith)
  split (f ∷ s) t l u n h = (h.0 ++ s, (h.0, h.1, refl), h.2 ∙ sym (append_assoc h.0 s t))

  widen : (s t : Stack) (l : Label) (s' : Stack) → StackStep width (table_of H) s l s' → StackStep width (table_of H) (s ++ t) l (s' ++ t)
  unfolding StackStep
  widen [] t l s' h = absurd h
  widen (f ∷ s) t l s' h = (h.0, h.1, ap (λ (x : Stack). x ++ t) h.2 ∙ append_assoc h.0 s t)

  frame_forth : (f : Frame) (p : Proc) → FrameSteps f p → (l : Label) (t : Stack) → StackStep width (table_of H) (f ∷ []) l t → Stepped width H p l t
  unfolding StackStep table_of
  frame_forth f p c l t h = let (r, u, k) = c.forth_one l h.0 h.1 in (r, u, rw (h.2, append-nil h.0) k)

  frame_back : (f : Frame) (p : Proc) → FrameSteps f p → (l : Label) (r : Rest) → TermStep H p l r → (t : Stack) × StackStep width (table_of H) (f ∷ []) l t × LikeRest width H t r
  unfolding StackStep table_of
  frame_back f p c l r u =
      let (fs, g) = any_some (c.back_one l r u) in
      let (k, g') = any_some {Q = λ (k : LikeRest width H fs r) h. Fires width H.sig (used (table_of H) f) l fs h} (any_to (λ h m. (m.1, m.0)) g) in
      (fs, (fs, g', sym (append-nil fs)), k)

  -- each step of the stack is one of the term
  pub like_forth : {s : Stack} {p : Proc} → Like width H s p → (l : Label) (t : Stack) → StackStep width (table_of H) s l t → Stepped width H p l t
  like_forth (a_call k ds w e) l t h =
      let (r, u, j) = frame_forth _ _ (call_steps k (map (eval H.sig []) ds) w (length-map ds _ ∙ e)) l t h in (r, as_right u, j)
  like_forth (a_part e x vs w h) l t u = frame_forth _ _ (part_steps e x vs w h) l t u
  like_forth (join {s} {t = s₂} {p} {q} r₁ r₂) l t h =
      let (s', h', e) = split s s₂ l t (like_some width H r₁) h in
      let (r, u, k) = like_forth r₁ l s' h' in
      (before q r, seq_step H p q l r u, subst (λ (x : Stack). LikeRest width H x (before q r)) (sym e) (like_before width H r k r₂))

  -- each step of the term is one of the stack
  pub like_back : {s : Stack} {p : Proc} → Like width H s p → (l : Label) (r : Rest) → TermStep H p l r → (t : Stack) × StackStep width (table_of H) s l t × LikeRest width H t r
  like_back (a_call k ds w e) l r h = frame_back _ _ (call_steps k (map (eval H.sig []) ds) w (length-map ds _ ∙ e)) l r (step_call H h)
  like_back (a_part e x vs w h) l r u = frame_back _ _ (part_steps e x vs w h) l r u
  like_back (join {s} {t = s₂} {p} {q} r₁ r₂) l r h =
      let (r', h', e) = step_seq H h in
      let (s', u, k) = like_back r₁ l r' h' in
      (s' ++ s₂, widen s s₂ l s' u, subst (λ (x : Rest). LikeRest width H (s' ++ s₂) x) (sym e) (like_before width H r' k r₂))
