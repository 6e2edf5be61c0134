-- The readers of comparisons, negations, atoms, lists of data and calls: one law for each way through a reader.
use mathlib.Core.Path.{◌≡◌, refl, sym, ap, ◌∙◌, subst}
use mathlib.Core.List.{List}
use mathlib.Core.Option.{none, some}
use Prim.Native.Nat.{ℕ, zero, suc, ◌+◌, ◌*◌, ◌≤◌, ◌<◌}
use native.Mathlib.Omega.{arith}
use lib.ListN.{length, get_or}
use Rattle.pcrl.specs.Reader.{found, bind}
use Rattle.pcrl.specs.Tree.{Part}
use Rattle.pcrl.specs.Grammar.{a_name, data_term, comparison, negation, atom, data_list, data_given}
use Rattle.laws.specs.Places.{get_or_positive}
use Rattle.parser.specs.Cells.{symbol_of, enc_name, enc_data, enc_comparison, enc_negation, enc_atom, enc_datas, enc_call, enc_part}
use Rattle.parser.specs.Call.{call}
use Rattle.parser.specs.Reading.{rest, left, Put}
use Rattle.parser.proofs.Signs.{bang_sign, open_sign, close_sign, comma_sign, same_sign}
use Rattle.parser.proofs.Writing.{writes_cell, writes_then, writes_instead}
use Rattle.parser.proofs.Reading.{on_next, on_other, bind_assoc, reads_bind, reads_next, reads_other, reads_expect}
use Rattle.parser.proofs.Words.{symbol_numeral, writes_name, reads_at_name, reads_at_no_name, reads_on_numeral, reads_past_numeral, reads_before_numeral}
use Rattle.parser.proofs.Reaching.{After, Meets, Reaches, took}

-- ---- a comparison
module _ (s toks : List ℕ) (at : ℕ) {w w₁ at₂ w₂ : ℕ} {o o₁ o₂ : List ℕ} (p : Put o w 25 w₁ o₁) (a : After (length toks) at at₂)
    (h : (f : ℕ) → 5 * left toks at + 1 < f → Reaches s toks enc_negation w₁ o₁ at₂ w₂ o₂ (negation f (rest s toks at))) where
  pub comparison_alone : (get_or toks at₂ 0 ≡ 131 → ⊥) → (f : ℕ) → 5 * left toks at + 2 < f → Reaches s toks enc_comparison w o at₂ w₂ o₂ (comparison f (rest s toks at))
  unfolding comparison enc_comparison symbol_of
  comparison_alone n zero l = absurd (omega arith)
  comparison_alone n (suc f) l = reads_bind _ (h f (omega arith)) (λ x. x) (λ c i u. reads_other same_sign at₂ _ _ n (took i (writes_then (writes_cell p refl) u)))

  pub comparison_equal : get_or toks at₂ 0 ≡ 131 → {w₃ at₄ w₄ : ℕ} {o₃ o₄ : List ℕ} → Put o₂ w 26 w₃ o₃
      → ((f : ℕ) → 5 * left toks (at₂ + 1) + 1 < f → Reaches s toks enc_negation w₂ o₃ at₄ w₄ o₄ (negation f (rest s toks (at₂ + 1))))
      → (f : ℕ) → 5 * left toks at + 2 < f → Reaches s toks enc_comparison w o at₄ w₄ o₄ (comparison f (rest s toks at))
  unfolding comparison enc_comparison symbol_of
  comparison_equal m q hs zero l = absurd (omega arith)
  comparison_equal m q hs (suc f) l =
      let v = get_or_positive toks at₂ (omega arith) in
      reads_bind _ (h f (omega arith)) (λ x. absurd (omega arith))
      (λ c i u. reads_next same_sign at₂ _ _ m
      (reads_bind _ (hs f (omega arith)) (λ x. x) (λ d j v. took j (writes_then (writes_instead (writes_then (writes_cell p refl) u) q refl) v))))

-- ---- a negation
module _ (s toks : List ℕ) (at : ℕ) {w : ℕ} {o : List ℕ} where
  pub negation_atom : (get_or toks at 0 ≡ 33 → ⊥) → {at₂ w₂ : ℕ} {o₂ : List ℕ} → ((f : ℕ) → 5 * left toks at < f → Reaches s toks enc_atom w o at₂ w₂ o₂ (atom f (rest s toks at)))
      → (f : ℕ) → 5 * left toks at + 1 < f → Reaches s toks enc_negation w o at₂ w₂ o₂ (negation f (rest s toks at))
  unfolding negation enc_negation
  negation_atom n h zero l = absurd (omega arith)
  negation_atom n h (suc f) l = reads_other bang_sign at _ _ n (reads_bind _ (h f (omega arith)) (λ x. x) (λ a i u. took i u))

  pub negation_not : get_or toks at 0 ≡ 33 → {w₁ : ℕ} {o₁ : List ℕ} → Put o w 27 w₁ o₁ → {at₂ w₂ : ℕ} {o₂ : List ℕ}
      → ((f : ℕ) → 5 * left toks (at + 1) + 1 < f → Reaches s toks enc_negation w₁ o₁ at₂ w₂ o₂ (negation f (rest s toks (at + 1))))
      → (f : ℕ) → 5 * left toks at + 1 < f → Reaches s toks enc_negation w o at₂ w₂ o₂ (negation f (rest s toks at))
  unfolding negation enc_negation symbol_of
  negation_not m p h zero l = absurd (omega arith)
  negation_not m p h (suc f) l =
      let v = get_or_positive toks at (omega arith) in
      reads_next bang_sign at _ _ m (reads_bind _ (h f (omega arith)) (λ x. x) (λ a i u. took i (writes_then (writes_cell p refl) u)))

-- ---- an atom
module _ (s toks : List ℕ) (at : ℕ) {w : ℕ} {o : List ℕ} where
  pub atom_nest : get_or toks at 0 ≡ 40 → {w₁ at₂ w₂ e : ℕ} {o₁ o₂ : List ℕ} → Put o w 28 w₁ o₁ → After (length toks) (at + 1) at₂
      → ((f : ℕ) → 5 * left toks (at + 1) + 4 < f → Reaches s toks enc_data w₁ o₁ at₂ w₂ o₂ (data_term f (rest s toks (at + 1))))
      → After (length toks) at₂ e → Meets toks at₂ 41 e → (f : ℕ) → 5 * left toks at < f → Reaches s toks enc_atom w o e w₂ o₂ (atom f (rest s toks at))
  unfolding atom enc_atom symbol_of
  atom_nest m p a h b x zero k = absurd (omega arith)
  atom_nest m {at₂ = at₂} p a h b x (suc f) k =
      let l = get_or_positive toks at (omega arith) in
      reads_before_numeral s toks at _ _ (omega arith)
      (reads_next open_sign at _ _ m
      (reads_bind _ (h f (omega arith)) (λ l. omega arith)
      (λ d i u. reads_expect close_sign at₂ x _ (λ l. l) (λ j. took j (writes_then (writes_cell p refl) u)))))

  pub atom_none : (get_or toks at 0 ≡ 40 → ⊥) → {end w' : ℕ} {o' : List ℕ} → get_or toks at 0 < 256 → length toks < end → (f : ℕ) → 5 * left toks at < f → Reaches s toks enc_atom w o end w' o' (atom f (rest s toks at))
  unfolding atom
  atom_none n h l zero k = absurd (omega arith)
  atom_none n h l (suc f) k = reads_before_numeral s toks at _ _ h (reads_other open_sign at _ _ n (reads_at_no_name s toks at _ (omega arith) l))

  module _ {v w₁ w₂ : ℕ} {o₁ o₂ : List ℕ} (e : v ≡ get_or toks at 0) (q : Put o₁ w₁ v w₂ o₂) where
    pub atom_value : Put o w 1 w₁ o₁ → 256 ≤ get_or toks at 0 → get_or toks at 0 < 1024 → (f : ℕ) → 5 * left toks at < f → Reaches s toks enc_atom w o (at + 1) w₂ o₂ (atom f (rest s toks at))
    unfolding atom enc_atom symbol_of
    atom_value p g h zero k = absurd (omega arith)
    atom_value p g h (suc f) k =
        let l = get_or_positive toks at (omega arith) in
        reads_on_numeral s toks at _ _ g h
        (took (omega arith) (writes_then (writes_cell p refl) (writes_cell q (ap (symbol_of s) e ∙ symbol_numeral s (get_or toks at 0) g h))))

    module _ (p : Put o w 2 w₁ o₁) (h : 1024 ≤ get_or toks at 0) where
      pub atom_variable : (get_or toks (at + 1) 0 ≡ 40 → ⊥) → (f : ℕ) → 5 * left toks at < f → Reaches s toks enc_atom w o (at + 1) w₂ o₂ (atom f (rest s toks at))
      unfolding atom enc_atom symbol_of
      atom_variable n zero k = absurd (omega arith)
      atom_variable n (suc f) k =
          let l = get_or_positive toks at (omega arith) in
          reads_past_numeral s toks at _ _ h
          (reads_other open_sign at _ _ (λ x. omega arith)
          (reads_at_name s toks at _ h
          (reads_other open_sign (at + 1) _ _ n (took (omega arith) (writes_then (writes_cell p refl) (writes_name at q e h))))))

      pub atom_apply : get_or toks (at + 1) 0 ≡ 40 → {w₃ at₄ w₄ : ℕ} {o₃ o₄ : List ℕ} → Put o₂ w 3 w₃ o₃
          → ((f : ℕ) → 5 * left toks (at + 1 + 1) + 5 < f → Reaches s toks enc_datas w₂ o₃ at₄ w₄ o₄ (data_list f (rest s toks (at + 1 + 1))))
          → (f : ℕ) → 5 * left toks at < f → Reaches s toks enc_atom w o at₄ w₄ o₄ (atom f (rest s toks at))
      unfolding atom enc_atom symbol_of
      atom_apply m {w₃} {at₄} {w₄} {o₃} {o₄} r hs zero k = absurd (omega arith)
      atom_apply m {w₃} {at₄} {w₄} {o₃} {o₄} r hs (suc f) k =
          let l = get_or_positive toks (at + 1) (omega arith) in
          reads_past_numeral s toks at _ _ h
          (reads_other open_sign at _ _ (λ x. omega arith)
          (reads_at_name s toks at _ h
          (reads_next open_sign (at + 1) _ _ m
          (reads_bind _ (hs f (omega arith)) (λ x. x)
          (λ ds i u. took i (writes_then (writes_instead (writes_then (writes_cell p refl) (writes_name at q e h)) r refl) u))))))

-- ---- bracketed data, behind the opening bracket
module _ (s toks : List ℕ) (at : ℕ) {w w₁ at₂ w₂ : ℕ} {o o₁ o₂ : List ℕ} (p : Put o w 4 w₁ o₁) (a : After (length toks) at at₂)
    (h : (f : ℕ) → 5 * left toks at + 4 < f → Reaches s toks enc_data w₁ o₁ at₂ w₂ o₂ (data_term f (rest s toks at))) where
  pub list_one : (get_or toks at₂ 0 ≡ 44 → ⊥) → {e : ℕ} → After (length toks) at₂ e → Meets toks at₂ 41 e
      → (f : ℕ) → 5 * left toks at + 5 < f → Reaches s toks enc_datas w o e w₂ o₂ (data_list f (rest s toks at))
  unfolding data_list enc_datas symbol_of
  list_one n b x zero k = absurd (omega arith)
  list_one n b x (suc f) k =
      reads_bind _ (h f (omega arith)) (λ l. omega arith)
      (λ d i u. reads_other comma_sign at₂ _ _ n (reads_expect close_sign at₂ x _ (λ l. l) (λ j. took j (writes_then (writes_cell p refl) u))))

  pub list_more : get_or toks at₂ 0 ≡ 44 → {w₃ at₄ w₄ : ℕ} {o₃ o₄ : List ℕ} → Put o₂ w 5 w₃ o₃
      → ((f : ℕ) → 5 * left toks (at₂ + 1) + 5 < f → Reaches s toks enc_datas w₂ o₃ at₄ w₄ o₄ (data_list f (rest s toks (at₂ + 1))))
      → (f : ℕ) → 5 * left toks at + 5 < f → Reaches s toks enc_datas w o at₄ w₄ o₄ (data_list f (rest s toks at))
  unfolding data_list enc_datas symbol_of
  list_more m q hs zero k = absurd (omega arith)
  list_more m q hs (suc f) k =
      let l = get_or_positive toks at₂ (omega arith) in
      reads_bind _ (h f (omega arith)) (λ x. absurd (omega arith))
      (λ d i u. reads_next comma_sign at₂ _ _ m
      (reads_bind _ (hs f (omega arith)) (λ l. l)
      (λ ds j v. took j (writes_then (writes_instead (writes_then (writes_cell p refl) u) q refl) v))))

-- ---- a name with or without bracketed data
given_none : (s toks : List ℕ) (at f : ℕ) → (get_or toks at 0 ≡ 40 → ⊥) → data_given f (rest s toks at) ≡ found none (rest s toks at)
unfolding data_given
given_none s toks at f n = on_other open_sign s toks at _ _ n

given_some : (s toks : List ℕ) (at f : ℕ) → get_or toks at 0 ≡ 40 → data_given f (rest s toks at) ≡ bind (data_list f (rest s toks (at + 1))) (λ ds us. found (some ds) us)
unfolding data_given
given_some s toks at f e = on_next open_sign s toks at _ _ e

module _ (s toks : List ℕ) (at : ℕ) {w w₁ at₂ w₂ : ℕ} {o o₁ o₂ : List ℕ} (p : Put o w 14 w₁ o₁) (a : After (length toks) at at₂)
    (h : Reaches s toks enc_name w₁ o₁ at₂ w₂ o₂ (a_name (rest s toks at))) where
  pub call_bare : (get_or toks at₂ 0 ≡ 40 → ⊥) → (f : ℕ) → Reaches s toks enc_part w o at₂ w₂ o₂ (call f (rest s toks at))
  unfolding bind enc_part enc_call symbol_of
  call_bare n f =
      reads_bind _ h (λ l. l)
      (λ x i u. subst (λ g. Reaches s toks enc_part w o at₂ w₂ o₂ (bind g (λ ds us. found (Part.named x ds) us))) (sym (given_none s toks at₂ f n)) (took i (writes_then (writes_cell p refl) u)))

  pub call_given : get_or toks at₂ 0 ≡ 40 → {w₃ at₄ w₄ : ℕ} {o₃ o₄ : List ℕ} → Put o₂ w 15 w₃ o₃
      → ((f : ℕ) → 5 * left toks (at₂ + 1) + 5 < f → Reaches s toks enc_datas w₂ o₃ at₄ w₄ o₄ (data_list f (rest s toks (at₂ + 1))))
      → (f : ℕ) → 5 * left toks at < f → Reaches s toks enc_part w o at₄ w₄ o₄ (call f (rest s toks at))
  unfolding bind enc_part enc_call symbol_of
  call_given m {w₃} {at₄} {w₄} {o₃} {o₄} q hs f k =
      let l = get_or_positive toks at₂ (omega arith) in
      reads_bind _ h (λ x. absurd (omega arith))
      (λ x i u. subst (λ g. Reaches s toks enc_part w o at₄ w₄ o₄ g)
      (sym (ap (λ g. bind g (λ ds us. found (Part.named x ds) us)) (given_some s toks at₂ f m) ∙ bind_assoc (data_list f (rest s toks (at₂ + 1))) _ _))
      (reads_bind _ (hs f (omega arith)) (λ l. l) (λ ds j v. took j (writes_then (writes_instead (writes_then (writes_cell p refl) u) q refl) v))))
