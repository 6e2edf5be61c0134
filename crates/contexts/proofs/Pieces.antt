-- The summand of an action in its context, written in four pieces.
use mathlib.Core.Path.{◌≡◌, refl, sym, ap, ap₂, ◌∙◌, subst}
use mathlib.Core.List.{List, [], ◌∷◌, ◌++◌, map, append-nil}
use Rattle.std.specs.Prelude.{Option, Some, None, Result, Ok, Err, MatchResult, OnOk}
use Rattle.std.proofs.lemmas.Option.{MatchOption-at_some, MatchOption-at_none}
use Rattle.refusals.specs.declared.Refusal.{Refusal}
use Rattle.refusals.specs.declared.Refusal.TheVariants.{NoRoom}
use Prim.Native.Nat.{ℕ, suc, ◌+◌, ◌-◌, ◌%◌, ◌<◌, ◌≤◌}
use native.Mathlib.Omega.{arith}
use lib.ListN.{length, drop, take, length-append, length-drop}
use lib.Seq.{length-take-le}
use Rattle.pcrl.specs.Limits.{max_variables, max_conditions, max_calls, max_arity}
use Rattle.pcrl.specs.Tests.{Every}
use Rattle.laws.specs.Every.{every_weaken}
use Rattle.pcrl.specs.Reader.{all}
use Rattle.pcrl.specs.Sheet.{Data, Act, tau, action, atom, Sheet}
use Rattle.pcrl.specs.Values.{put_data}
use Rattle.pcrl.specs.Table.{Summand}
use Rattle.pcrl.specs.Stream.{encode_data, encode_numbers, encode_list, encode_act, encode_cond, encode_call, encode_summand}
use Rattle.pcrl.specs.Right.{Small, SummandWithin}
use Rattle.pcrl.specs.Heads.{look}
use Rattle.nodes.specs.declared.Node.{Node}
use Rattle.nodes.specs.Layout.{byte_limit, atom_kind, act_number}
use Rattle.nodes.specs.Nodes.{node_number, node_datas}
use Rattle.nodes.specs.Views.{Views}
use Rattle.putting.specs.Slots.{Adds}
use Rattle.putting.specs.Puts.{PutsAll}
use Rattle.putting.proofs.Bytes.{adds_then}
use Rattle.following.specs.Fine.{Fine}
use Rattle.following.specs.Follows.{CallSmall}
use Rattle.contexts.specs.declared.Spot.{Spot}
use Rattle.contexts.specs.Spots.{Ready, SummandFits, CondSmall, around, arrays, SpottedAt, Spotted}
use Rattle.contexts.specs.Steps.{act_code, SummandsOut, Written}
use Rattle.contexts.proofs.Unfold.{heads_atom, small_terms}
use Rattle.contexts.proofs.Spotting.{case_atom, kept_same, opened, kind}

act_right : (a : Act) → act_number a < byte_limit → act_code (act_number a) ∷ [] ≡ encode_act a
unfolding act_code act_number encode_act
act_right tau h = refl
act_right (action a) h =
    let z : a + 1 ≡ suc a = omega arith in
    let y : a % byte_limit ≡ a = omega arith in
    ap (λ (k : ℕ). act_code k ∷ []) z ∙ ap (λ (k : ℕ). k ∷ []) y

-- one summand written
abbrev SummandWritten : Summand → ℕ → List ℕ → Result ℕ Refusal → List ℕ → Type 0
SummandWritten h w o r o' =
    MatchResult r (λ v. SummandFits h × Adds (encode_summand h) w o v o')
    (λ e. SummandFits h → (e ≡ NoRoom) × (length o < w + length (encode_summand h)))

one_out : (h : Summand) (hs : List Summand) → hs ≡ h ∷ [] → (w : ℕ) (o : List ℕ) (r : Result ℕ Refusal) (o' : List ℕ) → SummandWritten h w o r o' → SummandsOut hs w o r o'
unfolding Every all
one_out h hs e w o (Ok v) o' k = subst (λ (l : List Summand). SummandsOut l w o (Ok v) o') (sym e) ((k.0, tt), k.1 ∙ ap (λ (l : List ℕ). take w o ++ l) (sym (append-nil (encode_summand h))))
one_out h hs e w o (Err x) o' k = subst (λ (l : List Summand). SummandsOut l w o (Err x) o') (sym e) (λ within. subst (λ (l : List ℕ). (x ≡ NoRoom) × (length o < w + length l)) (sym (append-nil (encode_summand h))) (k within.0))

on_ok : {A : Type 0} (r : Result A Refusal) {P : Type 0} → P → OnOk r P
on_ok (Ok x) p = p
on_ok (Err e) p = tt

abbrev whole : ℕ → List ℕ → ℕ → List ℕ → List ℕ → List ℕ → ℕ → List ℕ → List ℕ
whole nv v nc c a t nk k = (nv ∷ v) ++ ((nc ∷ c) ++ (a ++ (t ++ (nk ∷ k))))

-- the action's head, in its context
abbrev plain : Act → List Data → Summand
plain a ds = record { vars = []; conds = []; act = a; terms = ds; calls = [] }

encode_plain : (vs : List ℕ) (cs : List (ℕ × Data)) (ks : List (ℕ × List Data)) (a : Act) (ds : List Data)
    → encode_summand (around vs cs ks (plain a ds)) ≡ whole (length vs) vs (length cs) (all encode_cond cs) (encode_act a) (all encode_data ds) (length ks) (all encode_call ks)
unfolding encode_summand around encode_numbers encode_list
encode_plain vs cs ks a ds =
    ap₂ (λ (v : List ℕ) (c : List (ℕ × Data)). whole (length v) v (length c) (all encode_cond c) (encode_act a) (all encode_data ds) (length ks) (all encode_call ks)) (append-nil vs) (append-nil cs)

plain_within : (vs : List ℕ) (cs : List (ℕ × Data)) (ks : List (ℕ × List Data)) (a : Act) (ds : List Data)
    → length vs ≤ max_variables → length cs ≤ max_conditions → length ks ≤ max_calls → Every CondSmall cs → Every Small ds → Every CallSmall ks → SummandFits (around vs cs ks (plain a ds))
unfolding SummandWithin around Every
plain_within vs cs ks a ds v c k x y z =
    record {
      within =
          (subst (λ (l : List ℕ). length l ≤ max_variables) (sym (append-nil vs)) v, (subst (λ (l : List (ℕ × Data)). length l ≤ max_conditions) (sym (append-nil cs)) c, (k, (subst (λ (l : List (ℕ × Data)). Every CondSmall l) (sym (append-nil cs)) x, (y, every_weaken CallSmall _ (λ c h. h.0) ks z)))));
      narrow = every_weaken CallSmall _ (λ c h. h.1) ks z;
    }

module _ (cells starts counts firsts : List ℕ) (s : Spot) (slots vars conds calls : List ℕ) (d : Node) (vw : Views cells s.at d) (is : d.kind ≡ atom_kind) where
  pub atom_wide : max_arity < d.datas → (H : Sheet) (F : ℕ) (hs : List Summand) → Ready H F cells starts counts firsts → Spotted H F cells s (arrays slots vars conds calls) hs → ⊥
  unfolding node_datas Fine
  atom_wide big H F hs rd sp = case_atom (SpottedAt H F cells s (arrays slots vars conds calls) hs) ⊥ sp.0 sp.1 (kind H F cells s (arrays slots vars conds calls) hs d vw atom_kind is sp) λ a ds sp.
      omega (arith, (opened H F cells s (arrays slots vars conds calls) hs d vw (atom a ds) sp).datas_is, sp.fine.1.0)

  module _ (t₀ t : List ℕ) (r : Option ℕ) (put : PutsAll cells d.terms d.datas slots s.n 0 t₀ r t) where
    -- what is written of the head: its four pieces
    pub record Emitted (hs : List Summand) : Type 0 where
      pub h : Summand
      pub one : hs ≡ h ∷ []
      pub long : r ≡ None → ¬ (SummandFits h)
      pub within : (v : ℕ) → r ≡ Some v → s.nv ≤ max_variables → s.nc ≤ max_conditions → s.nk ≤ max_calls → SummandFits h
      pub bytes : (v : ℕ) → r ≡ Some v → encode_summand h ≡ (s.nv ∷ take s.nv vars) ++ ((s.nc ∷ take s.lc conds) ++ ((act_code d.number ∷ take v t) ++ (s.nk ∷ drop s.top calls)))

    pub emitted : (H : Sheet) (F : ℕ) (hs : List Summand) → Ready H F cells starts counts firsts → Spotted H F cells s (arrays slots vars conds calls) hs → Emitted hs
    unfolding node_datas node_number Fine
    emitted H F hs rd sp = case_atom (SpottedAt H F cells s (arrays slots vars conds calls) hs) (Emitted hs) sp.0 sp.1 (kind H F cells s (arrays slots vars conds calls) hs d vw atom_kind is sp) λ a ds sp.
        let u = opened H F cells s (arrays slots vars conds calls) hs d vw (atom a ds) sp in
        let q = sp.ctx in
        let T = map (put_data (look q.σ)) ds in
        let k = put ds _ q.σ (sym u.datas_is) u.terms_are q.held sp.fine.1.1 in
        record {
          h = around q.vs q.cs q.ks (plain a T);
          one = sym sp.are ∙ ap (map (around q.vs q.cs q.ks)) (heads_atom H q.σ s.m s.c s.fuel a ds);
          long = λ bad w. MatchOption-at_none _ _ bad k (small_terms q.vs q.cs q.ks (plain a T) w);
          within = λ z ok v c n. plain_within q.vs q.cs q.ks a T (omega (arith, q.vars_many)) (omega (arith, q.conds_many)) (omega (arith, q.calls_many)) q.conds_small (MatchOption-at_some _ _ z ok k).0 q.calls_small;
          bytes = λ v ok.
              let A = act_code d.number in
              let ea : encode_act a ≡ A ∷ [] = sym (ap (λ (x : ℕ). act_code x ∷ []) u.number_is ∙ act_right a sp.fine.0) in
              encode_plain q.vs q.cs q.ks a T
              ∙ ap₂ (λ (x : ℕ) (y : List ℕ). whole x y (length q.cs) (all encode_cond q.cs) (encode_act a) (all encode_data T) (length q.ks) (all encode_call q.ks)) q.vars_many (sym q.vars_are)
              ∙ ap₂ (λ (x : ℕ) (y : List ℕ). whole s.nv (take s.nv vars) x y (encode_act a) (all encode_data T) (length q.ks) (all encode_call q.ks)) q.conds_many (sym q.conds_are)
              ∙ ap₂ (λ (x y : List ℕ). whole s.nv (take s.nv vars) s.nc (take s.lc conds) x y (length q.ks) (all encode_call q.ks)) ea (sym (MatchOption-at_some _ _ v ok k).1)
              ∙ ap₂ (λ (x : ℕ) (y : List ℕ). whole s.nv (take s.nv vars) s.nc (take s.lc conds) (A ∷ []) (take v t) x y) q.calls_many (sym q.calls_are);
        }

    wrap : (w : ℕ) (o : List ℕ) (v : Result ℕ Refusal) (o' : List ℕ) → ((hs : List Summand) (em : Emitted hs) → SummandWritten em.h w o v o') → Written cells starts counts firsts s (arrays slots vars conds calls) w o v (arrays slots vars conds calls) o'
    wrap w o v o' f H F hs rd sp = let em = emitted H F hs rd sp in (one_out em.h hs em.one w o v o' (f hs em), on_ok v (kept_same s (arrays slots vars conds calls)))

    -- no room
    pub emit_full : (w : ℕ) (o : List ℕ) (v : ℕ) → r ≡ Some v → s.nv ≤ length vars → s.lc ≤ length conds → v ≤ length t → length o < w + (4 + s.nv + s.lc + v + (length calls - s.top))
        → (o' : List ℕ) → Written cells starts counts firsts s (arrays slots vars conds calls) w o (Err NoRoom) (arrays slots vars conds calls) o'
    emit_full w o v ok a b c full o' = wrap w o (Err NoRoom) o' λ hs em within.
        let n = ap length (em.bytes v ok) in (
          refl,
          omega (
            arith,
            n,
            length-append (s.nv ∷ take s.nv vars) ((s.nc ∷ take s.lc conds) ++ ((act_code d.number ∷ take v t) ++ (s.nk ∷ drop s.top calls))),
            length-append (s.nc ∷ take s.lc conds) ((act_code d.number ∷ take v t) ++ (s.nk ∷ drop s.top calls)),
            length-append (act_code d.number ∷ take v t) (s.nk ∷ drop s.top calls),
            length-take-le s.nv vars a,
            length-take-le s.lc conds b,
            length-take-le v t c,
            length-drop s.top calls,
          ),
        )

    -- the pieces one behind another
    pub emit_right : (w w₁ w₂ w₃ w₄ : ℕ) (o o₁ o₂ o₃ o₄ : List ℕ) (v : ℕ) → r ≡ Some v → s.nv ≤ max_variables → s.nc ≤ max_conditions → s.nk ≤ max_calls
        → Adds (s.nv ∷ take s.nv vars) w o w₁ o₁ → Adds (s.nc ∷ take s.lc conds) w₁ o₁ w₂ o₂ → Adds (act_code d.number ∷ take v t) w₂ o₂ w₃ o₃ → Adds (s.nk ∷ drop s.top calls) w₃ o₃ w₄ o₄
        → Written cells starts counts firsts s (arrays slots vars conds calls) w o (Ok w₄) (arrays slots vars conds calls) o₄
    emit_right w w₁ w₂ w₃ w₄ o o₁ o₂ o₃ o₄ v ok a b c p₁ p₂ p₃ p₄ = wrap w o (Ok w₄) o₄ λ hs em. (
      em.within v ok a b c,
      adds_then (s.nv ∷ take s.nv vars) _ w w₁ w₄ o o₁ o₄ p₁ (adds_then (s.nc ∷ take s.lc conds) _ w₁ w₂ w₄ o₁ o₂ o₄ p₂ (adds_then (act_code d.number ∷ take v t) (s.nk ∷ drop s.top calls) w₂ w₃ w₄ o₂ o₃ o₄ p₃ p₄))
          ∙ ap (λ (x : List ℕ). take w o ++ x) (sym (em.bytes v ok)),
    )

    pub emit_long : (w : ℕ) (o : List ℕ) → r ≡ None → (e : Refusal) (o' : List ℕ) → Written cells starts counts firsts s (arrays slots vars conds calls) w o (Err e) (arrays slots vars conds calls) o'
    emit_long w o bad e o' = wrap w o (Err e) o' λ hs em within. absurd (em.long bad within)
