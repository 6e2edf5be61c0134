-- The readers of the lines of a sheet, but init: one law for each way through a reader.
use mathlib.Core.Path.{◌≡◌, refl}
use mathlib.Core.List.{List}
use Prim.Native.Nat.{ℕ, zero, suc, ◌+◌, ◌*◌, ◌≤◌, ◌<◌}
use native.Mathlib.Omega.{arith}
use lib.ListN.{length, get_or}
use Rattle.pcrl.specs.Grammar.{a_name, a_numeral, choice, sort_line, numerals, one_or_two, func_line, act_line, parameters, proc_line}
use Rattle.laws.specs.Places.{get_or_positive}
use Rattle.parser.specs.Cells.{symbol_of, enc_name, enc_numeral, enc_param, enc_items, enc_choice, enc_sort, enc_func, enc_act, enc_proc}
use Rattle.parser.specs.Call.{params}
use Rattle.parser.specs.Reading.{rest, left, Put}
use Rattle.parser.proofs.Signs.{hash_sign, open_sign, close_sign, comma_sign, colon_sign, equals_sign, arrow_sign}
use Rattle.parser.proofs.Writing.{writes_cell, writes_then}
use Rattle.parser.proofs.Reading.{still_lost, left_below, reads_bind, reads_next, reads_other, reads_expect}
use Rattle.parser.proofs.Reaching.{After, NotBefore, Meets, Reaches, took}

-- ---- sort
pub sort_read : (s toks : List ℕ) (at : ℕ) {w w₁ at₂ w₂ at₃ w₃ : ℕ} {o o₁ o₂ o₃ : List ℕ} → Put o w 20 w₁ o₁ → Reaches s toks enc_name w₁ o₁ at₂ w₂ o₂ (a_name (rest s toks at))
    → After (length toks) at₂ at₃ → (at₂ ≤ length toks → Reaches s toks enc_numeral w₂ o₂ at₃ w₃ o₃ (a_numeral (rest s toks at₂))) → Reaches s toks enc_sort w o at₃ w₃ o₃ (sort_line (rest s toks at))
unfolding sort_line enc_sort symbol_of
sort_read s toks at p h a k = reads_bind _ h (λ l. omega arith) (λ x i u. reads_bind _ (k i) (λ l. l) (λ v j z. took j (writes_then (writes_cell p refl) (writes_then u z))))

-- ---- "values by commas"
module _ (s toks : List ℕ) (at : ℕ) {w w₁ at₂ w₂ : ℕ} {o o₁ o₂ : List ℕ} (p : Put o w 19 w₁ o₁) (a : After (length toks) at at₂)
    (h : Reaches s toks enc_numeral w₁ o₁ at₂ w₂ o₂ (a_numeral (rest s toks at))) where
  pub numerals_last : (get_or toks at₂ 0 ≡ 44 → ⊥) → {w₃ : ℕ} {o₃ : List ℕ} → Put o₂ w₂ 18 w₃ o₃
      → (f : ℕ) → left toks at < f → Reaches s toks (enc_items enc_numeral) w o at₂ w₃ o₃ (numerals f (rest s toks at))
  unfolding numerals enc_items symbol_of
  numerals_last n q zero l = absurd (omega arith)
  numerals_last n q (suc f) l =
      reads_bind _ h (λ l. l) (λ v i u. reads_other comma_sign at₂ _ _ n (took i (writes_then (writes_then (writes_cell p refl) u) (writes_cell q refl))))

  pub numerals_more : get_or toks at₂ 0 ≡ 44 → {at₄ w₄ : ℕ} {o₄ : List ℕ}
      → ((f : ℕ) → left toks (at₂ + 1) < f → Reaches s toks (enc_items enc_numeral) w₂ o₂ at₄ w₄ o₄ (numerals f (rest s toks (at₂ + 1))))
      → (f : ℕ) → left toks at < f → Reaches s toks (enc_items enc_numeral) w o at₄ w₄ o₄ (numerals f (rest s toks at))
  unfolding numerals enc_items symbol_of
  numerals_more m hs zero l = absurd (omega arith)
  numerals_more m hs (suc f) l =
      let v = get_or_positive toks at₂ (omega arith) in
      reads_bind _ h (λ x. absurd (omega arith))
      (λ v i u. reads_next comma_sign at₂ _ _ m (reads_bind _ (hs f (omega arith)) (λ l. l) (λ vs j z. took j (writes_then (writes_then (writes_cell p refl) u) z))))

-- ---- "sort, or sort `#` sort"
module _ (s toks : List ℕ) (at : ℕ) {w w₁ at₂ w₂ : ℕ} {o o₁ o₂ : List ℕ} (p : Put o w 19 w₁ o₁) (h : Reaches s toks enc_name w₁ o₁ at₂ w₂ o₂ (a_name (rest s toks at))) where
  pub sorts_one : (get_or toks at₂ 0 ≡ 35 → ⊥) → {w₃ : ℕ} {o₃ : List ℕ} → Put o₂ w₂ 18 w₃ o₃ → Reaches s toks (enc_items enc_name) w o at₂ w₃ o₃ (one_or_two (rest s toks at))
  unfolding one_or_two enc_items symbol_of
  sorts_one n q = reads_bind _ h (λ l. l) (λ v i u. reads_other hash_sign at₂ _ _ n (took i (writes_then (writes_then (writes_cell p refl) u) (writes_cell q refl))))

  pub sorts_two : get_or toks at₂ 0 ≡ 35 → {w₃ at₄ w₄ w₅ : ℕ} {o₃ o₄ o₅ : List ℕ} → Put o₂ w₂ 19 w₃ o₃ → Reaches s toks enc_name w₃ o₃ at₄ w₄ o₄ (a_name (rest s toks (at₂ + 1)))
      → Put o₄ w₄ 18 w₅ o₅ → Reaches s toks (enc_items enc_name) w o at₄ w₅ o₅ (one_or_two (rest s toks at))
  unfolding one_or_two enc_items symbol_of
  sorts_two m q k r =
      let v = get_or_positive toks at₂ (omega arith) in
      reads_bind _ h (λ x. absurd (omega arith))
      (λ v i u. reads_next hash_sign at₂ _ _ m
      (reads_bind _ k (λ l. l) (λ x j z. took j (writes_then (writes_then (writes_cell p refl) u) (writes_then (writes_then (writes_cell q refl) z) (writes_cell r refl))))))

-- ---- func
pub func_read : (s toks : List ℕ) (at : ℕ) {w w₁ at₂ w₂ at₃ at₄ w₄ at₅ at₆ w₆ at₇ at₈ w₈ : ℕ} {o o₁ o₂ o₄ o₆ o₈ : List ℕ} → Put o w 21 w₁ o₁
    → Reaches s toks enc_name w₁ o₁ at₂ w₂ o₂ (a_name (rest s toks at)) → After (length toks) at₂ at₃ → Meets toks at₂ 58 at₃
    → After (length toks) at₃ at₄ → (at₃ ≤ length toks → Reaches s toks (enc_items enc_name) w₂ o₂ at₄ w₄ o₄ (one_or_two (rest s toks at₃))) → After (length toks) at₄ at₅ → Meets toks at₄ 128 at₅
    → After (length toks) at₅ at₆ → (at₅ ≤ length toks → Reaches s toks enc_name w₄ o₄ at₆ w₆ o₆ (a_name (rest s toks at₅))) → After (length toks) at₆ at₇ → Meets toks at₆ 61 at₇
    → After (length toks) at₇ at₈ → (at₇ ≤ length toks → (f : ℕ) → left toks at₇ < f → Reaches s toks (enc_items enc_numeral) w₆ o₆ at₈ w₈ o₈ (numerals f (rest s toks at₇)))
    → (f : ℕ) → length toks < f → Reaches s toks enc_func w o at₈ w₈ o₈ (func_line f (rest s toks at))
unfolding func_line enc_func symbol_of
func_read s toks at {at₂ = at₂} {at₄ = at₄} {at₆ = at₆} {at₇ = at₇} {at₈ = at₈} p h₂ a₃ x₃ a₄ h₄ a₅ x₅ a₆ h₆ a₇ x₇ a₈ h₈ f l =
    let l₆ : length toks < at₆ → length toks < at₈ = λ k. still_lost a₈ (still_lost a₇ k) in
    let l₄ : length toks < at₄ → length toks < at₈ = λ k. l₆ (still_lost a₆ (still_lost a₅ k)) in
    reads_bind _ h₂ (λ k. l₄ (still_lost a₄ (still_lost a₃ k)))
    (λ x i u. reads_expect colon_sign at₂ x₃ _ (λ k. l₄ (still_lost a₄ k))
    (λ i. reads_bind _ (h₄ i) l₄
    (λ Ds i v. reads_expect arrow_sign at₄ x₅ _ (λ k. l₆ (still_lost a₆ k))
    (λ i. reads_bind _ (h₆ i) l₆
    (λ D i y. reads_expect equals_sign at₆ x₇ _ (still_lost a₈)
    (λ i. reads_bind _ (h₈ i f (left_below toks at₇ l)) (λ l. l)
    (λ vs i z. took i (writes_then (writes_cell p refl) (writes_then u (writes_then v (writes_then y z)))))))))))

-- ---- act
module _ (s toks : List ℕ) (at : ℕ) {w w₁ at₂ w₂ : ℕ} {o o₁ o₂ : List ℕ} (p : Put o w 22 w₁ o₁) (h : Reaches s toks enc_name w₁ o₁ at₂ w₂ o₂ (a_name (rest s toks at))) where
  pub act_bare : (get_or toks at₂ 0 ≡ 58 → ⊥) → {w₃ : ℕ} {o₃ : List ℕ} → Put o₂ w₂ 18 w₃ o₃ → Reaches s toks enc_act w o at₂ w₃ o₃ (act_line (rest s toks at))
  unfolding act_line enc_act enc_items symbol_of
  act_bare n q = reads_bind _ h (λ l. l) (λ x i u. reads_other colon_sign at₂ _ _ n (took i (writes_then (writes_cell p refl) (writes_then u (writes_cell q refl)))))

  pub act_sorts : get_or toks at₂ 0 ≡ 58 → {at₄ w₄ : ℕ} {o₄ : List ℕ} → Reaches s toks (enc_items enc_name) w₂ o₂ at₄ w₄ o₄ (one_or_two (rest s toks (at₂ + 1))) → Reaches s toks enc_act w o at₄ w₄ o₄ (act_line (rest s toks at))
  unfolding act_line enc_act symbol_of
  act_sorts m k =
      let v = get_or_positive toks at₂ (omega arith) in
      reads_bind _ h (λ x. absurd (omega arith))
      (λ x i u. reads_next colon_sign at₂ _ _ m (reads_bind _ k (λ l. l) (λ Ds j z. took j (writes_then (writes_cell p refl) (writes_then u z)))))

-- ---- "bracketed `v:sort` by commas", behind the opening bracket
module _ (s toks : List ℕ) (at : ℕ) {w w₁ at₂ w₂ at₃ at₄ w₄ : ℕ} {o o₁ o₂ o₄ : List ℕ} (p : Put o w 19 w₁ o₁)
    (a₂ : After (length toks) at at₂) (h₂ : Reaches s toks enc_name w₁ o₁ at₂ w₂ o₂ (a_name (rest s toks at)))
    (a₃ : After (length toks) at₂ at₃) (x₃ : Meets toks at₂ 58 at₃)
    (a₄ : After (length toks) at₃ at₄) (h₄ : at₃ ≤ length toks → Reaches s toks enc_name w₂ o₂ at₄ w₄ o₄ (a_name (rest s toks at₃))) where
  pub parameters_last : (get_or toks at₄ 0 ≡ 44 → ⊥) → {at₅ w₅ : ℕ} {o₅ : List ℕ} → After (length toks) at₄ at₅ → Meets toks at₄ 41 at₅ → Put o₄ w₄ 18 w₅ o₅
      → (f : ℕ) → left toks at < f → Reaches s toks (enc_items enc_param) w o at₅ w₅ o₅ (parameters f (rest s toks at))
  unfolding parameters enc_items symbol_of
  parameters_last n a₅ x₅ q zero l = absurd (omega arith)
  parameters_last n a₅ x₅ q (suc f) l =
      reads_bind _ h₂ (λ l. omega arith)
      (λ v i u. reads_expect colon_sign at₂ x₃ _ (λ l. omega arith)
      (λ i. reads_bind _ (h₄ i) (λ l. omega arith)
      (λ D i z. reads_other comma_sign at₄ _ _ n (reads_expect close_sign at₄ x₅ _ (λ l. l) (λ i. took i (writes_then (writes_then (writes_cell p refl) (writes_then u z)) (writes_cell q refl)))))))

  pub parameters_more : get_or toks at₄ 0 ≡ 44 → {at₅ w₅ : ℕ} {o₅ : List ℕ}
      → ((f : ℕ) → left toks (at₄ + 1) < f → Reaches s toks (enc_items enc_param) w₄ o₄ at₅ w₅ o₅ (parameters f (rest s toks (at₄ + 1))))
      → (f : ℕ) → left toks at < f → Reaches s toks (enc_items enc_param) w o at₅ w₅ o₅ (parameters f (rest s toks at))
  unfolding parameters enc_items symbol_of
  parameters_more m hs zero l = absurd (omega arith)
  parameters_more m hs (suc f) l =
      let e = get_or_positive toks at₄ (omega arith) in
      reads_bind _ h₂ (λ x. absurd (omega arith))
      (λ v i u. reads_expect colon_sign at₂ x₃ _ (λ x. absurd (omega arith))
      (λ i. reads_bind _ (h₄ i) (λ x. absurd (omega arith))
      (λ D i z. reads_next comma_sign at₄ _ _ m (reads_bind _ (hs f (omega arith)) (λ l. l) (λ ps j y. took j (writes_then (writes_then (writes_cell p refl) (writes_then u z)) y))))))

-- with or without them
module _ (s toks : List ℕ) (at : ℕ) {w : ℕ} {o : List ℕ} where
  pub params_none : at ≤ length toks → (get_or toks at 0 ≡ 40 → ⊥) → {w₁ : ℕ} {o₁ : List ℕ} → Put o w 18 w₁ o₁ → (f : ℕ) → Reaches s toks (enc_items enc_param) w o at w₁ o₁ (params f (rest s toks at))
  unfolding enc_items symbol_of
  params_none i n p f = reads_other open_sign at _ _ n (took i (writes_cell p refl))

  pub params_some : get_or toks at 0 ≡ 40 → {at₁ w₁ : ℕ} {o₁ : List ℕ} → ((f : ℕ) → left toks (at + 1) < f → Reaches s toks (enc_items enc_param) w o at₁ w₁ o₁ (parameters f (rest s toks (at + 1))))
      → (f : ℕ) → left toks at < f → Reaches s toks (enc_items enc_param) w o at₁ w₁ o₁ (params f (rest s toks at))
  params_some m h f l = reads_next open_sign at _ _ m (h f (omega arith))

-- ---- proc
pub proc_read : (s toks : List ℕ) (at : ℕ) {w w₁ at₂ w₂ at₃ w₃ at₄ at₅ w₅ : ℕ} {o o₁ o₂ o₃ o₅ : List ℕ} → Put o w 23 w₁ o₁
    → Reaches s toks enc_name w₁ o₁ at₂ w₂ o₂ (a_name (rest s toks at))
    → NotBefore (length toks) at₂ at₃ → (at₂ ≤ length toks → (f : ℕ) → left toks at₂ < f → Reaches s toks (enc_items enc_param) w₂ o₂ at₃ w₃ o₃ (params f (rest s toks at₂)))
    → After (length toks) at₃ at₄ → Meets toks at₃ 61 at₄
    → After (length toks) at₄ at₅ → (at₄ ≤ length toks → (f : ℕ) → 5 * left toks at₄ + 4 < f → Reaches s toks enc_choice w₃ o₃ at₅ w₅ o₅ (choice f (rest s toks at₄)))
    → (f : ℕ) → 5 * length toks + 4 < f → Reaches s toks enc_proc w o at₅ w₅ o₅ (proc_line f (rest s toks at))
unfolding proc_line enc_proc symbol_of
proc_read s toks at {at₂ = at₂} {at₃ = at₃} p h₂ a₃ h₃ a₄ x₄ a₅ h₅ f l =
    reads_bind _ h₂ (λ l. omega arith)
    (λ x i u. reads_bind _ (h₃ i f (omega arith)) (λ l. omega arith)
    (λ ps i v. reads_expect equals_sign at₃ x₄ _ (λ l. omega arith)
    (λ i. reads_bind _ (h₅ i f (omega arith)) (λ l. l) (λ q i z. took i (writes_then (writes_cell p refl) (writes_then u (writes_then v z)))))))
