-- A summand from its parts: calls, conditions, label, and the variables that come into scope.
use mathlib.Core.Path.{◌≡◌, sym, ap, ◌∙◌}
use mathlib.Core.List.{List, [], ◌++◌, append_assoc}
use Prim.Native.Nat.{ℕ, suc, ◌+◌, ◌-◌, ◌<◌}
use native.Mathlib.Omega.{arith}
use borrow.Rule.Slice.PartMut.{put_mid}
use lib.ListN.{length, get_or, take, drop, length-append}
use lib.Seq.{take_at}
use Rattle.pcrl.specs.Limits.{max_variables, max_conditions, max_calls}
use Rattle.pcrl.specs.Tests.{at_most?, below?}
use Rattle.pcrl.specs.Reader.{missing, found, counted, each}
use Rattle.pcrl.specs.Sheet.{Sig, takes_of}
use Rattle.pcrl.specs.Stream.{encode_numbers}
use Rattle.pcrl.specs.Decode.{read_term, read_sorts, read_act, read_cond, read_call, to_summand, read_summand}
use Rattle.terms.specs.Stands.{Stands, KnownParams, list_at}
use Rattle.terms.specs.Ends.{rests}
use Rattle.terms.specs.Numbers.{read_list}
use Rattle.terms.proofs.Rests.{view_rests, pair_pass, pair_fail, pair_with, nest_pass, nest_fail, byte_no, byte_pass}
use Rattle.terms.proofs.Places.{stands_there, as_many, list_is}
use Rattle.terms.proofs.Lists.{sorts_list, list_found}
use Rattle.summands.specs.Parts.{read_label, read_body}

-- A CALL

module _ (S : Sig) (Ps : List (List ℕ)) (Γ s params : List ℕ) (known : KnownParams Ps s params) (at : ℕ) where
  pub call_bad : ¬ ((at < length s) × (get_or s at 0 < length params)) → rests (read_call S Ps Γ (drop at s)) ≡ missing
  unfolding read_call
  call_bad n =
      let q = as_many encode_numbers s Ps params known in
      byte_no (below? (length Ps)) s at (λ e. each (read_term S Γ) (get_or Ps e [])) (λ (k : (at < length s) × (get_or s at 0 < length Ps)). n (k.0, (let l = k.1 in omega arith)))

  pub call_pass : at < length s → (j p : ℕ) (Ds : List ℕ) → j ≡ suc at → get_or s at 0 < length params → p ≡ get_or params (get_or s at 0) 0 → Ds ≡ list_at s p
      → rests (read_call S Ps Γ (drop at s)) ≡ rests (each (read_term S Γ) Ds (drop j s))
  unfolding read_call
  call_pass h j p Ds z l w e =
      let q = as_many encode_numbers s Ps params known in
      let st : Stands s (get_or params (get_or s at 0) 0) (encode_numbers (get_or Ps (get_or s at 0) [])) = stands_there encode_numbers s Ps params known [] (get_or s at 0) (omega arith) in
      let y : get_or Ps (get_or s at 0) [] ≡ Ds = sym (list_is s (get_or params (get_or s at 0) 0) (get_or Ps (get_or s at 0) []) st) ∙ ap (λ (i : ℕ). list_at s i) (sym w) ∙ sym e in
      byte_pass (below? (length Ps)) s at (λ e. each (read_term S Γ) (get_or Ps e [])) j z h (omega arith) ∙ ap (λ (Es : List ℕ). rests (each (read_term S Γ) Es (drop j s))) y

-- CONDITIONS, LABEL, CALLS

module _ (S : Sig) (Ps : List (List ℕ)) (Γ xs : List ℕ) where
  pub body_no_conds : rests (counted (at_most? max_conditions) (read_cond S Γ) xs) ≡ missing → rests (read_body S Ps Γ xs) ≡ missing
  unfolding read_body
  body_no_conds e = pair_fail (counted (at_most? max_conditions) (read_cond S Γ)) _ xs e

  module _ (ys : List ℕ) (e : rests (counted (at_most? max_conditions) (read_cond S Γ) xs) ≡ found tt ys) where
    pub body_no_label : rests (read_label S Γ ys) ≡ missing → rests (read_body S Ps Γ xs) ≡ missing
    unfolding read_body read_label
    body_no_label f =
        pair_pass (counted (at_most? max_conditions) (read_cond S Γ)) _ xs ys missing e (λ cs. nest_fail (λ a. each (read_term S Γ) (takes_of S a)) (counted (at_most? max_calls) (read_call S Ps Γ)) (read_act S) ys f)

    pub body_calls : (zs : List ℕ) → rests (read_label S Γ ys) ≡ found tt zs → rests (read_body S Ps Γ xs) ≡ rests (counted (at_most? max_calls) (read_call S Ps Γ) zs)
    unfolding read_body read_label
    body_calls zs f =
        pair_pass (counted (at_most? max_conditions) (read_cond S Γ)) _ xs ys (rests (counted (at_most? max_calls) (read_call S Ps Γ) zs)) e
        (λ cs. nest_pass (λ a. each (read_term S Γ) (takes_of S a)) (counted (at_most? max_calls) (read_call S Ps Γ)) (read_act S) ys zs f)

-- THE VARIABLES

module _ (S : Sig) (Ps : List (List ℕ)) (Δ s : List ℕ) (at n : ℕ) (z : n ≡ length S.sorts) where
  variables : read_list 0 max_variables 0 n (drop at s) ≡ read_sorts S.sorts max_variables (drop at s)
  variables = rw z (sym (sorts_list S.sorts (drop at s) max_variables))

  pub summand_bad : rests (read_list 0 max_variables 0 n (drop at s)) ≡ missing → rests (read_summand S Ps Δ (drop at s)) ≡ missing
  unfolding read_summand
  summand_bad e = view_rests to_summand _ (drop at s) ∙ pair_fail (read_sorts S.sorts max_variables) _ (drop at s) (ap rests (sym variables) ∙ e)

  pub summand_pass : (Γ ys : List ℕ) → rests (read_list 0 max_variables 0 n (drop at s)) ≡ found tt ys → Γ ≡ Δ ++ list_at s at
      → rests (read_summand S Ps Δ (drop at s)) ≡ rests (read_body S Ps Γ ys)
  unfolding read_summand read_body
  summand_pass Γ ys e g =
      rw g (view_rests to_summand _ (drop at s)
      ∙ pair_with (read_sorts S.sorts max_variables) _ (drop at s) (list_at s at) ys (sym variables ∙ list_found 0 max_variables 0 n s at ys e))

-- SORTS COPIED INTO THE SCOPE

-- the parameters, and behind them the variables
pub scope_is : (own own' vars vars' zs : List ℕ) (n m : ℕ) → own' ≡ own → vars' ≡ vars → n ≡ length own → m ≡ n + length vars → take m (put_mid n (m - n) (own' ++ drop n zs) vars') ≡ own ++ vars
scope_is own own' vars vars' zs n m x y e f =
    let first : take n (own ++ drop n zs) ≡ own = take_at own (drop n zs) n (sym e) in
    let back : List ℕ = drop (m - n) (drop n (own ++ drop n zs)) in
    let long : length (own ++ vars) ≡ m = omega (arith, length-append own vars) in
    rw (x, y, first) (ap (take m) (sym (append_assoc own vars back)) ∙ take_at (own ++ vars) back m long)
