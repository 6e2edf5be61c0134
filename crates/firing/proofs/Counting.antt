-- How many parameters an equation has and how many values an action, read where they stand.
use mathlib.Core.Path.{◌≡◌, refl, ap, subst, ◌∙◌}
use mathlib.Core.List.{List, []}
use Prim.Native.Nat.{ℕ, ◌+◌, ◌≤◌, ◌<◌}
use native.Mathlib.Omega.{arith}
use native.Mathlib.Decide.{ℕ_discrete}
use lib.Dec.{ltb}
use mathlib.Core.Bool.{Bool, true, false}
use lib.ListN.{length, get_or, set}
use lib.Seq.{get_or-set_same, get_or-set_other}
use borrow.Author.Tests.{ltb-true, ltb-false}
use Rattle.pcrl.specs.Limits.{frame_width, max_arity}
use Rattle.pcrl.specs.Sheet.{Act, tau, action, Action, no_action, Sig, takes_of}
use Rattle.pcrl.specs.Sorts.{IsAct}
use Rattle.pcrl.specs.Stream.{tau_code, encode_action}
use Rattle.laws.specs.Every.{every_at}
use Rattle.laws.specs.Tests.{where_yes, where_no}
use Rattle.terms.specs.Stands.{Stands}
use Rattle.terms.proofs.Places.{count_at, sorts_stand}
use Rattle.firing.specs.Known.{KnownParts}
use Rattle.firing.specs.Fires.{act_of}

pub act_tau : (b : ℕ) → b ≡ tau_code → act_of b ≡ tau
unfolding act_of
act_tau b e = where_yes (ℕ_discrete b tau_code) e tau (action b)

pub act_action : (b : ℕ) → (b ≡ tau_code → ⊥) → act_of b ≡ action b
unfolding act_of
act_action b n = where_no (ℕ_discrete b tau_code) n tau (action b)

module _ (S : Sig) (Ps : List (List ℕ)) (s acts params : List ℕ) (known : KnownParts S Ps s acts params) where
  pub params_count : (e r : ℕ) → e < length Ps → r ≡ get_or s (get_or params e 0) 0 → r ≡ length (get_or Ps e [])
  params_count e r h k = k ∙ count_at s (get_or params e 0) (get_or Ps e []) (known.params_at e h)

  pub params_few : (e r : ℕ) → e < length Ps → r ≡ get_or s (get_or params e 0) 0 → r ≤ frame_width
  params_few e r h k =
      let c = params_count e r h k in
      let f : length (get_or Ps e []) ≤ frame_width = every_at (λ (Ds : List ℕ). length Ds ≤ frame_width) Ps [] e known.few_params h in
      omega arith

  pub tau_count : (b : ℕ) → b ≡ tau_code → 0 ≡ length (takes_of S (act_of b))
  unfolding takes_of
  tau_count b e = rw (act_tau b e) refl

  module _ (b p n : ℕ) (not_tau : b ≡ tau_code → ⊥) (is : IsAct S (act_of b)) (ep : p ≡ get_or acts b 0) (en : n ≡ get_or s (p + 1 + get_or s p 0) 0) where
    there : b < length S.acts
    unfolding IsAct
    there = subst (IsAct S) (act_action b not_tau) is

    pub action_count : n ≡ length (takes_of S (act_of b))
    unfolding takes_of
    action_count =
        let st : Stands s p (encode_action (get_or S.acts b no_action)) = rw ep (known.act_at b there) in
        rw (act_action b not_tau) (en ∙ count_at s (p + 1 + get_or s p 0) (get_or S.acts b no_action).takes (sorts_stand s p (get_or S.acts b no_action) st))

    pub action_few : n ≤ max_arity
    unfolding takes_of
    action_few =
        let c : n ≡ length (takes_of S (action b)) = action_count ∙ ap (λ (a : Act). length (takes_of S a)) (act_action b not_tau) in
        let f = every_at (λ (a : Action). length a.takes ≤ max_arity) S.acts no_action b known.few_sorts there in
        omega arith

-- VALUES COPIED ONE BY ONE

pub values_more : (a params : List ℕ) (i v : ℕ) → i < length a → v ≡ get_or params i 0 → ((j : ℕ) → j < i → get_or a j 0 ≡ get_or params j 0) → (j : ℕ) → j < i + 1 → get_or (set a i v) j 0 ≡ get_or params j 0
values_more a params i v h e old j k = go (ltb j i) refl
  where
    go : (t : Bool) → ltb j i ≡ t → get_or (set a i v) j 0 ≡ get_or params j 0
    go true q = let l = ltb-true j i q in get_or-set_other a i j v 0 (λ z. omega arith) ∙ old j l
    go false q = let l = ltb-false j i q in let z : j ≡ i = omega arith in rw z (get_or-set_same a i v 0 h ∙ e)

pub values_rest : (a : List ℕ) (i v : ℕ) → ((j : ℕ) → i ≤ j → get_or a j 0 ≡ 0) → (j : ℕ) → i + 1 ≤ j → get_or (set a i v) j 0 ≡ 0
values_rest a i v old j h = get_or-set_other a i j v 0 (λ z. omega arith) ∙ old j (omega arith)
