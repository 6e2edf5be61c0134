-- The label of a summand: tau, or an action and the terms for the sorts that stand behind its name.
use mathlib.Core.Path.{◌≡◌, refl, sym, ap, ◌∙◌}
use mathlib.Core.List.{List}
use Prim.Native.Nat.{ℕ, suc, ◌+◌, ◌<◌, ◌≤◌}
use native.Mathlib.Omega.{arith}
use native.Mathlib.Decide.{ℕ_discrete, dec_lt}
use lib.ListN.{length, get_or, drop, drop_of_length-le}
use lib.Seq.{drop-cons}
use Rattle.pcrl.specs.Reader.{Got, missing, found, keep, each}
use Rattle.pcrl.specs.Sheet.{Act, tau, action, Sig, no_action, takes_of}
use Rattle.pcrl.specs.Stream.{tau_code, encode_action}
use Rattle.pcrl.specs.Decode.{read_term, read_act}
use Rattle.codec.specs.Lawful.{keeps}
use Rattle.terms.specs.Stands.{Stands, KnownActs, list_at}
use Rattle.terms.specs.Ends.{rests}
use Rattle.terms.proofs.Rests.{pair_fail, pair_with, drops}
use Rattle.terms.proofs.Places.{stands_there, as_many, sorts_stand, list_is}
use Rattle.summands.specs.Parts.{read_label}

module _ (S : Sig) where
  act_by : (xs : List ℕ) (b : ℕ) (d : Dec (b ≡ tau_code)) → Got ℕ Act
  act_by xs b d = elim d [ yes e ↦ found tau xs | no h ↦ keep (dec_lt b (length S.acts)) (action b) xs ]

  act_tau : (xs : List ℕ) (b : ℕ) → b ≡ tau_code → (d : Dec (b ≡ tau_code)) → act_by xs b d ≡ found tau xs
  unfolding act_by
  act_tau xs b e (yes k) = refl
  act_tau xs b e (no k) = absurd (k e)

  act_bad : (xs : List ℕ) (b : ℕ) → ¬ (b ≡ tau_code) → ¬ (b < length S.acts) → (d : Dec (b ≡ tau_code)) → act_by xs b d ≡ missing
  unfolding act_by
  act_bad xs b n l (yes k) = absurd (n k)
  act_bad xs b n l (no k) = drops (dec_lt b (length S.acts)) (action b) xs l

  act_good : (xs : List ℕ) (b : ℕ) → ¬ (b ≡ tau_code) → b < length S.acts → (d : Dec (b ≡ tau_code)) → act_by xs b d ≡ found (action b) xs
  unfolding act_by
  act_good xs b n l (yes k) = absurd (n k)
  act_good xs b n l (no k) = keeps (dec_lt b (length S.acts)) (action b) xs l

module _ (S : Sig) (Γ s : List ℕ) (at : ℕ) where
  pub label_end : length s ≤ at → rests (read_label S Γ (drop at s)) ≡ missing
  unfolding read_label read_act rests
  label_end h = pair_fail (read_act S) (λ a. each (read_term S Γ) (takes_of S a)) (drop at s) (rw (drop_of_length-le s {i = at} h))

  pub label_tau : (j : ℕ) → j ≡ suc at → at < length s → get_or s at 0 ≡ tau_code → rests (read_label S Γ (drop at s)) ≡ found tt (drop j s)
  unfolding read_label read_act takes_of each rests act_by
  label_tau j z h e =
      rw z (pair_with (read_act S) (λ a. each (read_term S Γ) (takes_of S a)) (drop at s) tau (drop (suc at) s)
      (rw (drop-cons s at 0 h) (act_tau S (drop (suc at) s) (get_or s at 0) e (ℕ_discrete (get_or s at 0) tau_code))))

  module _ (acts : List ℕ) (known : KnownActs S s acts) (h : at < length s) (n : ¬ (get_or s at 0 ≡ tau_code)) where
    pub label_bad : ¬ (get_or s at 0 < length acts) → rests (read_label S Γ (drop at s)) ≡ missing
    unfolding read_label read_act rests act_by
    label_bad l =
        let q = as_many encode_action s S.acts acts known in
        pair_fail (read_act S) (λ a. each (read_term S Γ) (takes_of S a)) (drop at s)
        (rw (drop-cons s at 0 h) (ap rests (act_bad S (drop (suc at) s) (get_or s at 0) n (λ (k : get_or s at 0 < length S.acts). l (omega arith)) (ℕ_discrete (get_or s at 0) tau_code))))

    -- p: where the action stands
    pub label_pass : (j p : ℕ) (Ds : List ℕ) → j ≡ suc at → get_or s at 0 < length acts → p ≡ get_or acts (get_or s at 0) 0 → Ds ≡ list_at s (p + 1 + get_or s p 0)
        → rests (read_label S Γ (drop at s)) ≡ rests (each (read_term S Γ) Ds (drop j s))
    unfolding read_label read_act takes_of act_by
    label_pass j p Ds z l w e =
        let q = as_many encode_action s S.acts acts known in
        let a : ℕ = get_or s at 0 in
        let st : Stands s (get_or acts a 0) (encode_action (get_or S.acts a no_action)) = stands_there encode_action s S.acts acts known no_action a (omega arith) in
        let st' : Stands s p (encode_action (get_or S.acts a no_action)) = rw w st in
        let y : (get_or S.acts a no_action).takes ≡ Ds = sym (list_is s (p + 1 + get_or s p 0) (get_or S.acts a no_action).takes (sorts_stand s p (get_or S.acts a no_action) st')) ∙ sym e in
        rw z (pair_with (read_act S) (λ a. each (read_term S Γ) (takes_of S a)) (drop at s) (action (get_or s at 0)) (drop (suc at) s)
        (rw (drop-cons s at 0 h) (act_good S (drop (suc at) s) (get_or s at 0) n (omega arith) (ℕ_discrete (get_or s at 0) tau_code)))
        ∙ ap (λ (Es : List ℕ). rests (each (read_term S Γ) Es (drop (suc at) s))) y)
