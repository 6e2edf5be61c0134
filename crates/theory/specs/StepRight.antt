-- In a right table a step keeps a stack right, and the stack that it starts with is right: a call's data have values in the
-- sorts of the equation called. So question 15 holds again after each step.
use Rattle.std.specs.Prelude.{◌≡◌, ℕ, ◌<◌, length}
use Rattle.std.proofs.Math.Path.{ap, subst}
use Rattle.std.proofs.Common.{sym, arith}
use mathlib.Core.List.{List, [], ◌∷◌, ◌++◌, map}
use Rattle.std.proofs.Math.ListN.{get_or, get_or-map}
use Rattle.pcrl.specs.Tests.{Every}
use Rattle.pcrl.specs.Sheet.{Data, Sig}
use Rattle.pcrl.specs.Values.{eval}
use Rattle.pcrl.specs.Label.{Label}
use Rattle.pcrl.specs.Table.{Summand, Equation, Table, no_equation, equation, params_of, summands_of}
use Rattle.pcrl.specs.Stack.{Frame, Stack, InSorts, used, padded, RightFrame, RightStack}
use Rattle.pcrl.specs.Steps.{call_frame, outcome, StackStep}
use Rattle.pcrl.specs.Right.{RightSizes, RightFunc, RightSig, RightCall, RightSummand, RightSummands, RightEquations, RightStart, RightTable}
use Rattle.pcrl.specs.Answers.{start_stack}
use Rattle.laws.specs.Every.{every_map, every_append}
use Rattle.laws.specs.Each.{each_append, each_at, each_flip, each_length}
use Rattle.laws.specs.Any.{every_any}
use Rattle.theory.specs.Like.{frame_with}
use Rattle.theory.specs.Equations.{used_padded}
use Rattle.theory.specs.ValueSorts.{values_in}
use Rattle.theory.specs.TableRight.{params_length, params_at}

pub in_sorts_append : (S : Sig) (Γ Δ vs ws : List ℕ) → InSorts S Γ vs → InSorts S Δ ws → InSorts S (Γ ++ Δ) (vs ++ ws)
unfolding InSorts
in_sorts_append S Γ Δ vs ws h k = each_append _ Γ Δ vs ws h k

module _ (T : Table) (right : RightTable T) where
  funcs_right : Every (RightFunc T.sig.sorts) T.sig.funcs
  unfolding RightTable RightSig
  funcs_right = right.0.0.1.0.1

  sizes_right : RightSizes T.sig.sorts
  unfolding RightTable RightSig
  sizes_right = right.0.0.0

  -- the summands of each equation are right
  pub summands_right : (e : ℕ) → e < length T.equations → Every (RightSummand T.sig (params_of T.equations) (equation T e).params) (equation T e).summands
  unfolding RightTable RightEquations RightSummands summands_of equation
  summands_right e w =
      let l = params_length T in
      let h = each_at _ (params_of T.equations) (summands_of T.equations) e [] [] (omega arith) right.0.1.0.1 in
      let s : get_or (summands_of T.equations) e [] ≡ (equation T e).summands = get_or-map (λ (x : Equation). x.summands) T.equations e no_equation in
      subst (λ (hs : List Summand). Every (RightSummand T.sig (params_of T.equations) (equation T e).params) hs) s
      (subst (λ (Δ : List ℕ). Every (RightSummand T.sig (params_of T.equations) Δ) (get_or (summands_of T.equations) e [])) (params_at T e) h.1)

  module _ (width : ℕ) where
    -- values in the sorts of an equation make a right frame
    pub frame_right : (e : ℕ) (vs : List ℕ) → e < length T.equations → InSorts T.sig (equation T e).params vs → RightFrame width T (frame_with width e vs)
    unfolding RightFrame InSorts
    frame_right e vs w h =
        let l = each_length _ (equation T e).params vs h in
        let u = used_padded width T e vs l in
        (w, (rw u h, ap (padded width) (sym u)))

    -- the frames of right calls are right
    calls_right : (Γ vs : List ℕ) → InSorts T.sig Γ vs → (cs : List (ℕ × List Data)) → Every (RightCall T.sig (params_of T.equations) Γ) cs
        → RightStack width T (map (call_frame width T.sig vs) cs)
    unfolding RightStack call_frame RightCall
    calls_right Γ vs i cs h =
        let n = params_length T in
        every_map _ (RightFrame width T) (call_frame width T.sig vs)
        (λ c k. frame_right c.0 (map (eval T.sig vs) c.1) (omega arith)
        (values_in T.sig sizes_right funcs_right Γ vs i c.1 (equation T c.0).params (each_flip _ _ (λ D d z. z.0) (equation T c.0).params c.1 (rw (params_at T c.0) at k.1))))
        cs h

    -- A STEP KEEPS A STACK RIGHT, whatever the width of frames.
    pub step_right : (s : Stack) (l : Label) (t : Stack) → RightStack width T s → StackStep width T s l t → RightStack width T t
    unfolding StackStep RightStack RightFrame Every RightSummand outcome
    step_right [] l t h k = absurd k
    step_right (f ∷ s) l t h k =
        let (x, r, o) = every_any _ (summands_right f.number h.0.0) k.1 in
        let e = used T f ++ o.values in
        let i = in_sorts_append T.sig (equation T f.number).params x.vars (used T f) o.values h.0.1.0 o.in_sorts in
        let made : k.0 ≡ map (call_frame width T.sig e) x.calls = ap (λ (y : Label × List Frame). y.1) o.gives in
        let new : RightStack width T k.0 = subst (RightStack width T) (sym made) (calls_right _ e i x.calls r.1.1.1.1.1) in
        subst (RightStack width T) (sym k.2) (every_append _ k.0 s new h.1)

    -- The stack with which a table starts is right.
    pub start_stack_right : RightStack width T (start_stack width T)
    unfolding RightStack start_stack Every RightTable RightStart InSorts
    start_stack_right = (frame_right T.start.0 T.start.1 right.0.1.1.0 (rw (params_at T T.start.0) at right.0.1.1.1), tt)
