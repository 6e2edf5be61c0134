-- Operands joined by `\/` or `/\`, read one after another by a loop that counts them: the cell of their count is set when the last one is read.
use mathlib.Core.Path.{◌≡◌, refl, sym, ap, ◌∙◌, subst}
use mathlib.Core.List.{List, [], ◌∷◌}
use Prim.Native.Nat.{ℕ, zero, suc, ◌+◌, ◌*◌, ◌≤◌, ◌<◌}
use Prim.Native.String.{String}
use native.Mathlib.Omega.{arith}
use lib.ListN.{length, get_or}
use Rattle.pcrl.specs.Tokens.{Token}
use Rattle.pcrl.specs.Reader.{Got, missing, found, Reader, bind}
use Rattle.pcrl.specs.Grammar.{on, data_term, conjunction, comparison}
use Rattle.laws.specs.Places.{get_or_positive}
use Rattle.parser.specs.Cells.{Symbol, ors, ands, first_ors, first_ands, symbol_of, more_ors, more_ands, enc_ors, enc_ands, enc_data, enc_conjunction, enc_comparison}
use Rattle.parser.specs.Reading.{rest, left, Put, Few, Writes}
use Rattle.parser.proofs.Reaching as R
use Rattle.parser.proofs.Signs.{Sign, or_sign, and_sign}
use Rattle.parser.proofs.Writing.{writes_cell, writes_then, writes_over}
use Rattle.parser.proofs.Reading.{on_next, on_other, then_reads}
use Rattle.parser.proofs.Words.{symbol_ors, symbol_ands}
use Rattle.parser.proofs.Reaching.{After, Reaches}

-- Where the definition's reader finds a value, its operands are written, and n stand behind the first; else `next` is past the end.
pub data Counts (s toks : List ℕ) {A : Type 0} (enc : A → List Symbol) (more : A → ℕ) (w : ℕ) (o : List ℕ) (next w' : ℕ) (o' : List ℕ) (n : ℕ) : Got Token A → Type 0 where
  lost : length toks < next → Counts s toks enc more w o next w' o' n missing
  took : {a : A} → next ≤ length toks → Writes s toks (enc a) w o w' o' → n ≡ more a → Counts s toks enc more w o next w' o' n (found a (rest s toks next))

-- What is read from `at` on, at every bound above its least one, follows from what is read from `from` on, behind n operands.
pub record Joins (s toks : List ℕ) {A : Type 0} (enc : A → List Symbol) (more : A → ℕ) (reader : ℕ → Reader Token A) (least : ℕ → ℕ) (at w : ℕ) (o : List ℕ) (from v : ℕ) (o₁ : List ℕ) (n : ℕ) : Type 0 where
  pub on : {end w' : ℕ} {o' : List ℕ} {m : ℕ} → ((g : ℕ) → least from < g → Counts s toks enc more v o₁ end w' o' m (reader g (rest s toks from)))
      → (f : ℕ) → least at < f → Counts s toks enc more w o end w' o' (m + n) (reader f (rest s toks at))

module _ {s toks : List ℕ} {A : Type 0} {enc : A → List Symbol} {more : A → ℕ} where
  more_by : {w : ℕ} {o : List ℕ} {end w' : ℕ} {o' : List ℕ} {n m : ℕ} {P : Got Token A} → n ≡ m → Counts s toks enc more w o end w' o' n P → Counts s toks enc more w o end w' o' m P
  more_by {w} {o} {end} {w'} {o'} {P = P} e h = subst (λ k. Counts s toks enc more w o end w' o' k P) e h

  module _ {reader : ℕ → Reader Token A} {least : ℕ → ℕ} {at w : ℕ} {o : List ℕ} where
    pub joins_start : Joins s toks enc more reader least at w o at w o 0
    joins_start = record { on = λ {end} {w'} {o'} {m} h f l. let e : m ≡ m + 0 = omega arith in more_by e (h f l) }

    pub joins_then : {from v : ℕ} {o₁ : List ℕ} {n : ℕ} → Joins s toks enc more reader least at w o from v o₁ n → {from₂ v₂ : ℕ} {o₂ : List ℕ} → Joins s toks enc more reader least from v o₁ from₂ v₂ o₂ 1
        → Joins s toks enc more reader least at w o from₂ v₂ o₂ (n + 1)
    joins_then {n = n} h k = record { on = λ {end} {w'} {o'} {m} x f l. let e : m + 1 + n ≡ m + (n + 1) = omega arith in more_by e (h.on (k.on x) f l) }

  -- the count in the cell before them
  pub counted : (y : ℕ → Symbol) {x : Symbol} {w w₁ at₂ w₂ : ℕ} {o o₁ o₂ : List ℕ} {n v w₃ : ℕ} {o₃ : List ℕ} {P : Got Token A}
      → Writes s toks (x ∷ []) w o w₁ o₁ → Counts s toks enc more w₁ o₁ at₂ w₂ o₂ n P → (at₂ ≤ length toks → Few toks → symbol_of s v ≡ y n) → Put o₂ w v w₃ o₃
      → Reaches s toks (λ a. y (more a) ∷ enc a) w o at₂ w₂ o₃ P
  counted y b (lost l) k p = R.lost l
  counted y b (took {a} i u e) k p = R.took i (writes_over (writes_then b u) p (λ few. k i few ∙ ap y e))

module _ (s toks : List ℕ) {A : Type 0} {enc : A → List Symbol} {more : A → ℕ} {w₀ : ℕ} {o₀ : List ℕ} {end w' : ℕ} {o' : List ℕ} {n : ℕ} where
  -- an operand, and then the others
  counts_bind : {I : Type 0} {encI : I → List Symbol} {P : Got Token I} (k : I → List Token → Got Token A) {w : ℕ} {o : List ℕ} {at w₁ : ℕ} {o₁ : List ℕ}
      → Reaches s toks encI w o at w₁ o₁ P → (length toks < at → length toks < end) → ((i : I) → at ≤ length toks → Writes s toks (encI i) w o w₁ o₁ → Counts s toks enc more w₀ o₀ end w' o' n (k i (rest s toks at))) → Counts s toks enc more w₀ o₀ end w' o' n (bind P k)
  counts_bind k h f g = then_reads s toks (λ g. Counts s toks enc more w₀ o₀ end w' o' n g) k h (λ l. lost (f l)) g

  counts_next : {c : ℕ} {t : String} → Sign c t → (at : ℕ) (behind other : List Token → Got Token A) → get_or toks at 0 ≡ c → Counts s toks enc more w₀ o₀ end w' o' n (behind (rest s toks (at + 1))) → Counts s toks enc more w₀ o₀ end w' o' n (on t behind other (rest s toks at))
  counts_next S at behind other e h = subst (λ g. Counts s toks enc more w₀ o₀ end w' o' n g) (sym (on_next S s toks at behind other e)) h

  counts_other : {c : ℕ} {t : String} → Sign c t → (at : ℕ) (behind other : List Token → Got Token A) → (get_or toks at 0 ≡ c → ⊥) → Counts s toks enc more w₀ o₀ end w' o' n (other (rest s toks at)) → Counts s toks enc more w₀ o₀ end w' o' n (on t behind other (rest s toks at))
  counts_other S at behind other e h = subst (λ g. Counts s toks enc more w₀ o₀ end w' o' n g) (sym (on_other S s toks at behind other e)) h

  counts_more : {P : Got Token A} (k : A → List Token → Got Token A) {w w₁ m : ℕ} {o o₁ : List ℕ}
      → Counts s toks enc more w o end w₁ o₁ m P → ((a : A) → end ≤ length toks → Writes s toks (enc a) w o w₁ o₁ → m ≡ more a → Counts s toks enc more w₀ o₀ end w' o' n (k a (rest s toks end))) → Counts s toks enc more w₀ o₀ end w' o' n (bind P k)
  unfolding bind
  counts_more k (lost l) g = lost l
  counts_more k (took {a} i u e) g = g a i u e

-- ---- `\/`
module _ (s toks : List ℕ) (at : ℕ) {w at₂ w₂ : ℕ} {o o₂ : List ℕ} (a : After (length toks) at at₂)
    (h : (f : ℕ) → 5 * left toks at + 3 < f → Reaches s toks enc_conjunction w o at₂ w₂ o₂ (conjunction f (rest s toks at))) where
  pub or_last : (get_or toks at₂ 0 ≡ 133 → ⊥) → (f : ℕ) → 5 * left toks at + 4 < f → Counts s toks enc_ors more_ors w o at₂ w₂ o₂ 0 (data_term f (rest s toks at))
  unfolding data_term enc_ors more_ors
  or_last n zero l = absurd (omega arith)
  or_last n (suc f) l = counts_bind s toks _ (h f (omega arith)) (λ x. x) (λ c i u. counts_other s toks or_sign at₂ _ _ n (took i u refl))

  pub or_more : get_or toks at₂ 0 ≡ 133 → {at₄ w₄ : ℕ} {o₄ : List ℕ} {m : ℕ}
      → ((f : ℕ) → 5 * left toks (at₂ + 1) + 4 < f → Counts s toks enc_ors more_ors w₂ o₂ at₄ w₄ o₄ m (data_term f (rest s toks (at₂ + 1))))
      → (f : ℕ) → 5 * left toks at + 4 < f → Counts s toks enc_ors more_ors w o at₄ w₄ o₄ (m + 1) (data_term f (rest s toks at))
  unfolding data_term enc_ors more_ors
  or_more e hs zero l = absurd (omega arith)
  or_more e hs (suc f) l =
      let v = get_or_positive toks at₂ (omega arith) in
      counts_bind s toks _ (h f (omega arith)) (λ x. absurd (omega arith))
      (λ c i u. counts_next s toks or_sign at₂ _ _ e (counts_more s toks _ (hs f (omega arith)) (λ d j z q. took j (writes_then u z) (omega arith))))

pub data_read : (s toks : List ℕ) (at : ℕ) {w w₁ at₂ w₂ n v w₃ : ℕ} {o o₁ o₂ o₃ : List ℕ} → Put o w first_ors w₁ o₁
    → ((f : ℕ) → 5 * left toks at + 4 < f → Counts s toks enc_ors more_ors w₁ o₁ at₂ w₂ o₂ n (data_term f (rest s toks at)))
    → (at₂ ≤ length toks → n < length toks) → (n < first_ors → v ≡ first_ors + n) → Put o₂ w v w₃ o₃
    → (f : ℕ) → 5 * left toks at + 4 < f → Reaches s toks enc_data w o at₂ w₂ o₃ (data_term f (rest s toks at))
unfolding symbol_of
data_read s toks at {n = n} p h b e q f l =
    counted ors (writes_cell p refl) (h f l)
    (λ i few.
    let k = b i in
    let m : n < first_ors = omega arith in
    ap (symbol_of s) (e m) ∙ symbol_ors s n m)
    q

-- ---- `/\`
module _ (s toks : List ℕ) (at : ℕ) {w at₂ w₂ : ℕ} {o o₂ : List ℕ} (a : After (length toks) at at₂)
    (h : (f : ℕ) → 5 * left toks at + 2 < f → Reaches s toks enc_comparison w o at₂ w₂ o₂ (comparison f (rest s toks at))) where
  pub and_last : (get_or toks at₂ 0 ≡ 132 → ⊥) → (f : ℕ) → 5 * left toks at + 3 < f → Counts s toks enc_ands more_ands w o at₂ w₂ o₂ 0 (conjunction f (rest s toks at))
  unfolding conjunction enc_ands more_ands
  and_last n zero l = absurd (omega arith)
  and_last n (suc f) l = counts_bind s toks _ (h f (omega arith)) (λ x. x) (λ c i u. counts_other s toks and_sign at₂ _ _ n (took i u refl))

  pub and_more : get_or toks at₂ 0 ≡ 132 → {at₄ w₄ : ℕ} {o₄ : List ℕ} {m : ℕ}
      → ((f : ℕ) → 5 * left toks (at₂ + 1) + 3 < f → Counts s toks enc_ands more_ands w₂ o₂ at₄ w₄ o₄ m (conjunction f (rest s toks (at₂ + 1))))
      → (f : ℕ) → 5 * left toks at + 3 < f → Counts s toks enc_ands more_ands w o at₄ w₄ o₄ (m + 1) (conjunction f (rest s toks at))
  unfolding conjunction enc_ands more_ands
  and_more e hs zero l = absurd (omega arith)
  and_more e hs (suc f) l =
      let v = get_or_positive toks at₂ (omega arith) in
      counts_bind s toks _ (h f (omega arith)) (λ x. absurd (omega arith))
      (λ c i u. counts_next s toks and_sign at₂ _ _ e (counts_more s toks _ (hs f (omega arith)) (λ d j z q. took j (writes_then u z) (omega arith))))

pub conjunction_read : (s toks : List ℕ) (at : ℕ) {w w₁ at₂ w₂ n v w₃ : ℕ} {o o₁ o₂ o₃ : List ℕ} → Put o w first_ands w₁ o₁
    → ((f : ℕ) → 5 * left toks at + 3 < f → Counts s toks enc_ands more_ands w₁ o₁ at₂ w₂ o₂ n (conjunction f (rest s toks at)))
    → (at₂ ≤ length toks → n < length toks) → (n < first_ors → v ≡ first_ands + n) → Put o₂ w v w₃ o₃
    → (f : ℕ) → 5 * left toks at + 3 < f → Reaches s toks enc_conjunction w o at₂ w₂ o₃ (conjunction f (rest s toks at))
unfolding symbol_of
conjunction_read s toks at {n = n} p h b e q f l =
    counted ands (writes_cell p refl) (h f l)
    (λ i few.
    let k = b i in
    let m : n < first_ors = omega arith in
    ap (symbol_of s) (e m) ∙ symbol_ands s n)
    q
