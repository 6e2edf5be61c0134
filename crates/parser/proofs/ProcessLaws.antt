-- The readers of choices, conditionals, sequences and parts: one law for each way through a reader.
use mathlib.Core.Path.{◌≡◌, refl, subst}
use mathlib.Core.List.{List}
use Prim.Native.Nat.{ℕ, zero, suc, ◌+◌, ◌*◌, ◌≤◌, ◌<◌}
use native.Mathlib.Omega.{arith}
use lib.ListN.{length, get_or}
use Rattle.pcrl.specs.Tokens.{Token}
use Rattle.pcrl.specs.Reader.{Got, found, bind}
use Rattle.pcrl.specs.Tree.{Name, Part}
use Rattle.pcrl.specs.Grammar.{expect, a_name, data_term, choice, conditional, sequence, part}
use Rattle.laws.specs.Places.{get_or_positive}
use Rattle.parser.specs.Cells.{symbol_of, enc_name, enc_param, enc_data, enc_choice, enc_conditional, enc_sequence, enc_part}
use Rattle.parser.specs.Call.{call, sum_head}
use Rattle.parser.specs.Reading.{rest, left, Put}
use Rattle.parser.proofs.Signs.{open_sign, close_sign, plus_sign, comma_sign, dot_sign, colon_sign, if_sign, else_sign, sum_sign, delta_sign, tau_sign}
use Rattle.parser.proofs.Writing.{writes_cell, writes_then, writes_instead}
use Rattle.parser.proofs.Reading.{bind_assoc, reads_bind, reads_next, reads_other, reads_expect}
use Rattle.parser.proofs.Reaching.{After, Meets, Reaches, took}

-- ---- a choice
module _ (s toks : List ℕ) (at : ℕ) {w w₁ at₂ w₂ : ℕ} {o o₁ o₂ : List ℕ} (p : Put o w 6 w₁ o₁) (a : After (length toks) at at₂)
    (h : (f : ℕ) → 5 * left toks at + 3 < f → Reaches s toks enc_conditional w₁ o₁ at₂ w₂ o₂ (conditional f (rest s toks at))) where
  pub choice_only : (get_or toks at₂ 0 ≡ 43 → ⊥) → (f : ℕ) → 5 * left toks at + 4 < f → Reaches s toks enc_choice w o at₂ w₂ o₂ (choice f (rest s toks at))
  unfolding choice enc_choice symbol_of
  choice_only n zero l = absurd (omega arith)
  choice_only n (suc f) l = reads_bind _ (h f (omega arith)) (λ x. x) (λ c i u. reads_other plus_sign at₂ _ _ n (took i (writes_then (writes_cell p refl) u)))

  pub choice_plus : get_or toks at₂ 0 ≡ 43 → {w₃ at₄ w₄ : ℕ} {o₃ o₄ : List ℕ} → Put o₂ w 7 w₃ o₃
      → ((f : ℕ) → 5 * left toks (at₂ + 1) + 4 < f → Reaches s toks enc_choice w₂ o₃ at₄ w₄ o₄ (choice f (rest s toks (at₂ + 1))))
      → (f : ℕ) → 5 * left toks at + 4 < f → Reaches s toks enc_choice w o at₄ w₄ o₄ (choice f (rest s toks at))
  unfolding choice enc_choice symbol_of
  choice_plus m q hs zero l = absurd (omega arith)
  choice_plus m q hs (suc f) l =
      let v = get_or_positive toks at₂ (omega arith) in
      reads_bind _ (h f (omega arith)) (λ x. absurd (omega arith))
      (λ c i u. reads_next plus_sign at₂ _ _ m
      (reads_bind _ (hs f (omega arith)) (λ x. x) (λ d j v. took j (writes_then (writes_instead (writes_then (writes_cell p refl) u) q refl) v))))

-- ---- a conditional
module _ (s toks : List ℕ) (at : ℕ) {w w₁ at₂ w₂ : ℕ} {o o₁ o₂ : List ℕ} (p : Put o w 8 w₁ o₁) (a : After (length toks) at at₂)
    (h : (f : ℕ) → 5 * left toks at + 2 < f → Reaches s toks enc_sequence w₁ o₁ at₂ w₂ o₂ (sequence f (rest s toks at))) where
  pub conditional_plain : (get_or toks at₂ 0 ≡ 129 → ⊥) → (f : ℕ) → 5 * left toks at + 3 < f → Reaches s toks enc_conditional w o at₂ w₂ o₂ (conditional f (rest s toks at))
  unfolding conditional enc_conditional symbol_of
  conditional_plain n zero l = absurd (omega arith)
  conditional_plain n (suc f) l = reads_bind _ (h f (omega arith)) (λ x. x) (λ c i u. reads_other if_sign at₂ _ _ n (took i (writes_then (writes_cell p refl) u)))

  pub conditional_cond : get_or toks at₂ 0 ≡ 129 → {w₃ at₄ w₄ at₅ at₆ w₆ : ℕ} {o₃ o₄ o₆ : List ℕ} → Put o₂ w 9 w₃ o₃
      → After (length toks) (at₂ + 1) at₄ → ((f : ℕ) → 5 * left toks (at₂ + 1) + 4 < f → Reaches s toks enc_data w₂ o₃ at₄ w₄ o₄ (data_term f (rest s toks (at₂ + 1))))
      → After (length toks) at₄ at₅ → Meets toks at₄ 130 at₅
      → After (length toks) at₅ at₆ → (at₅ ≤ length toks → (f : ℕ) → 5 * left toks at₅ + 2 < f → Reaches s toks enc_sequence w₄ o₄ at₆ w₆ o₆ (sequence f (rest s toks at₅)))
      → (f : ℕ) → 5 * left toks at + 3 < f → Reaches s toks enc_conditional w o at₆ w₆ o₆ (conditional f (rest s toks at))
  unfolding conditional enc_conditional symbol_of
  conditional_cond m q a₄ hd a₅ x a₆ hs zero l = absurd (omega arith)
  conditional_cond m {w₃} {at₄} {w₄} {at₅} q a₄ hd a₅ x a₆ hs (suc f) l =
      let v = get_or_positive toks at₂ (omega arith) in
      reads_bind _ (h f (omega arith)) (λ x. absurd (omega arith))
      (λ c i u. reads_next if_sign at₂ _ _ m
      (reads_bind _ (hd f (omega arith)) (λ l. omega arith)
      (λ d j v. reads_expect else_sign at₄ x _ (λ l. omega arith)
      (λ k. reads_bind _ (hs k f (omega arith)) (λ l. l)
      (λ e n z. took n (writes_then (writes_instead (writes_then (writes_cell p refl) u) q refl) (writes_then v z)))))))

-- ---- a sequence
module _ (s toks : List ℕ) (at : ℕ) {w w₁ at₂ w₂ : ℕ} {o o₁ o₂ : List ℕ} (p : Put o w 10 w₁ o₁) (a : After (length toks) at at₂)
    (h : (f : ℕ) → 5 * left toks at + 1 < f → Reaches s toks enc_part w₁ o₁ at₂ w₂ o₂ (part f (rest s toks at))) where
  pub sequence_last : (get_or toks at₂ 0 ≡ 46 → ⊥) → (f : ℕ) → 5 * left toks at + 2 < f → Reaches s toks enc_sequence w o at₂ w₂ o₂ (sequence f (rest s toks at))
  unfolding sequence enc_sequence symbol_of
  sequence_last n zero l = absurd (omega arith)
  sequence_last n (suc f) l = reads_bind _ (h f (omega arith)) (λ x. x) (λ c i u. reads_other dot_sign at₂ _ _ n (took i (writes_then (writes_cell p refl) u)))

  pub sequence_then : get_or toks at₂ 0 ≡ 46 → {w₃ at₄ w₄ : ℕ} {o₃ o₄ : List ℕ} → Put o₂ w 11 w₃ o₃
      → ((f : ℕ) → 5 * left toks (at₂ + 1) + 2 < f → Reaches s toks enc_sequence w₂ o₃ at₄ w₄ o₄ (sequence f (rest s toks (at₂ + 1))))
      → (f : ℕ) → 5 * left toks at + 2 < f → Reaches s toks enc_sequence w o at₄ w₄ o₄ (sequence f (rest s toks at))
  unfolding sequence enc_sequence symbol_of
  sequence_then m q hs zero l = absurd (omega arith)
  sequence_then m q hs (suc f) l =
      let v = get_or_positive toks at₂ (omega arith) in
      reads_bind _ (h f (omega arith)) (λ x. absurd (omega arith))
      (λ c i u. reads_next dot_sign at₂ _ _ m
      (reads_bind _ (hs f (omega arith)) (λ x. x) (λ d j v. took j (writes_then (writes_instead (writes_then (writes_cell p refl) u) q refl) v))))

-- ---- a part
-- a sum's reader goes on behind its head
sum_behind : {A : Type 0} (ts : List Token) (k : Name → Name → List Token → Got Token A)
    → bind (sum_head ts) (λ x us. k x.0 x.1 us)
    ≡ bind (expect "(" ts) (λ a us. bind (a_name us) (λ v vs. bind (expect ":" vs) (λ b ws. bind (a_name ws) (λ D xs. bind (expect "," xs) (λ c ys. k v D ys)))))
unfolding bind
sum_behind ts k = simp bind_assoc

pub head_read : (s toks : List ℕ) (at : ℕ) {w at₁ at₂ w₂ at₃ at₄ w₄ at₅ : ℕ} {o o₂ o₄ : List ℕ}
    → Meets toks at 40 at₁ → After (length toks) at₁ at₂ → (at₁ ≤ length toks → Reaches s toks enc_name w o at₂ w₂ o₂ (a_name (rest s toks at₁)))
    → After (length toks) at₂ at₃ → Meets toks at₂ 58 at₃ → After (length toks) at₃ at₄ → (at₃ ≤ length toks → Reaches s toks enc_name w₂ o₂ at₄ w₄ o₄ (a_name (rest s toks at₃)))
    → After (length toks) at₄ at₅ → Meets toks at₄ 44 at₅ → Reaches s toks enc_param w o at₅ w₄ o₄ (sum_head (rest s toks at))
head_read s toks at {at₁ = at₁} {at₂ = at₂} {at₃ = at₃} {at₄ = at₄} x₁ a₂ h₂ a₃ x₃ a₄ h₄ a₅ x₅ =
    reads_expect open_sign at x₁ _ (λ l. omega arith)
    (λ i. reads_bind _ (h₂ i) (λ l. omega arith)
    (λ v j u. reads_expect colon_sign at₂ x₃ _ (λ l. omega arith)
    (λ k. reads_bind _ (h₄ k) (λ l. omega arith) (λ D m z. reads_expect comma_sign at₄ x₅ _ (λ l. l) (λ n. took n (writes_then u z))))))

module _ (s toks : List ℕ) (at : ℕ) {w : ℕ} {o : List ℕ} where
  pub part_delta : {w₁ : ℕ} {o₁ : List ℕ} → Put o w 12 w₁ o₁ → get_or toks at 0 ≡ 166 → (f : ℕ) → 5 * left toks at + 1 < f → Reaches s toks enc_part w o (at + 1) w₁ o₁ (part f (rest s toks at))
  unfolding part enc_part symbol_of
  part_delta p m zero l = absurd (omega arith)
  part_delta p m (suc f) l = let v = get_or_positive toks at (omega arith) in reads_next delta_sign at _ _ m (took (omega arith) (writes_cell p refl))

  module _ (n₁ : get_or toks at 0 ≡ 166 → ⊥) where
    pub part_tau : {w₁ : ℕ} {o₁ : List ℕ} → Put o w 13 w₁ o₁ → get_or toks at 0 ≡ 167 → (f : ℕ) → 5 * left toks at + 1 < f → Reaches s toks enc_part w o (at + 1) w₁ o₁ (part f (rest s toks at))
    unfolding part enc_part symbol_of
    part_tau p m zero l = absurd (omega arith)
    part_tau p m (suc f) l = let v = get_or_positive toks at (omega arith) in reads_other delta_sign at _ _ n₁ (reads_next tau_sign at _ _ m (took (omega arith) (writes_cell p refl)))

    module _ (n₂ : get_or toks at 0 ≡ 167 → ⊥) where
      pub part_sum : {w₁ at₂ w₂ at₃ w₃ at₄ : ℕ} {o₁ o₂ o₃ : List ℕ} → Put o w 16 w₁ o₁ → get_or toks at 0 ≡ 165
          → After (length toks) (at + 1) at₂ → Reaches s toks enc_param w₁ o₁ at₂ w₂ o₂ (sum_head (rest s toks (at + 1)))
          → After (length toks) at₂ at₃ → (at₂ ≤ length toks → (f : ℕ) → 5 * left toks at₂ + 4 < f → Reaches s toks enc_choice w₂ o₂ at₃ w₃ o₃ (choice f (rest s toks at₂)))
          → After (length toks) at₃ at₄ → Meets toks at₃ 41 at₄
          → (f : ℕ) → 5 * left toks at + 1 < f → Reaches s toks enc_part w o at₄ w₃ o₃ (part f (rest s toks at))
      unfolding part enc_part symbol_of
      part_sum p m a₂ h a₃ hs a₄ x zero l = absurd (omega arith)
      part_sum {w₁} {at₂} {w₂} {at₃} {w₃} {at₄} {o₁} {o₂} {o₃} p m a₂ h a₃ hs a₄ x (suc f) l =
          let v = get_or_positive toks at (omega arith) in
          reads_other delta_sign at _ _ n₁
          (reads_other tau_sign at _ _ n₂
          (reads_next sum_sign at _ _ m
          (subst (λ g. Reaches s toks enc_part w o at₄ w₃ o₃ g)
          (sum_behind (rest s toks (at + 1)) (λ v D us. bind (choice f us) (λ q vs. bind (expect ")" vs) (λ b ws. found (Part.sum v D q) ws))))
          (reads_bind _ h (λ l. omega arith)
          (λ y i u. reads_bind _ (hs i f (omega arith)) (λ l. omega arith)
          (λ q j z. reads_expect close_sign at₃ x _ (λ l. l) (λ k. took k (writes_then (writes_cell p refl) (writes_then u z)))))))))

      module _ (n₃ : get_or toks at 0 ≡ 165 → ⊥) where
        pub part_group : {w₁ at₂ w₂ at₃ : ℕ} {o₁ o₂ : List ℕ} → Put o w 17 w₁ o₁ → get_or toks at 0 ≡ 40
            → After (length toks) (at + 1) at₂ → ((f : ℕ) → 5 * left toks (at + 1) + 4 < f → Reaches s toks enc_choice w₁ o₁ at₂ w₂ o₂ (choice f (rest s toks (at + 1))))
            → After (length toks) at₂ at₃ → Meets toks at₂ 41 at₃
            → (f : ℕ) → 5 * left toks at + 1 < f → Reaches s toks enc_part w o at₃ w₂ o₂ (part f (rest s toks at))
        unfolding part enc_part symbol_of
        part_group p m a₂ hs a₃ x zero l = absurd (omega arith)
        part_group {at₂ = at₂} p m a₂ hs a₃ x (suc f) l =
            let v = get_or_positive toks at (omega arith) in
            reads_other delta_sign at _ _ n₁
            (reads_other tau_sign at _ _ n₂
            (reads_other sum_sign at _ _ n₃
            (reads_next open_sign at _ _ m
            (reads_bind _ (hs f (omega arith)) (λ l. omega arith)
            (λ q j z. reads_expect close_sign at₂ x _ (λ l. l) (λ k. took k (writes_then (writes_cell p refl) z)))))))

        pub part_named : (get_or toks at 0 ≡ 40 → ⊥) → {at₂ w₂ : ℕ} {o₂ : List ℕ} → ((f : ℕ) → 5 * left toks at < f → Reaches s toks enc_part w o at₂ w₂ o₂ (call f (rest s toks at)))
            → (f : ℕ) → 5 * left toks at + 1 < f → Reaches s toks enc_part w o at₂ w₂ o₂ (part f (rest s toks at))
        unfolding part
        part_named n₄ h zero l = absurd (omega arith)
        part_named n₄ h (suc f) l = reads_other delta_sign at _ _ n₁ (reads_other tau_sign at _ _ n₂ (reads_other sum_sign at _ _ n₃ (reads_other open_sign at _ _ n₄ (h f (omega arith)))))
