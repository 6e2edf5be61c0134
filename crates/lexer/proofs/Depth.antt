-- Question 4 by a loop over cells: with n open and no more than the limit, the most that are ever open is as high above the limit
-- as the most from the next cell on.
use mathlib.Core.Path.{◌≡◌, refl, sym, ap, ◌∙◌, subst⁻¹}
use mathlib.Core.List.{List, [], ◌∷◌, map}
use Prim.Native.Nat.{ℕ, suc, pred, ◌+◌, ◌<◌, ◌≤◌, max}
use native.Mathlib.Numerals.{add-one}
use native.Mathlib.Decide.{ℕ_discrete}
use native.Mathlib.Omega.{arith}
use lib.ListN.{length, drop, get_or, drop_of_length-le}
use Rattle.pcrl.specs.Text.{byte}
use Rattle.pcrl.specs.Limits.{max_open}
use Rattle.pcrl.specs.Tests.{same?}
use Rattle.pcrl.specs.Tokens.{Token, the, is?, open_behind, most_open, Shallow}
use Rattle.lexer.specs.Cells.{cell_token, spelling}
use Rattle.lexer.proofs.Runs.{drop_at}
use Rattle.lexer.proofs.Cells.{cell_mark, sign_once}

-- ---- a token that is no bracket
no_bracket : (t : Token) (n : ℕ) → (t ≡ the "(" → ⊥) → (t ≡ the ")" → ⊥) → n ≡ open_behind t n
unfolding open_behind
no_bracket t n a b = go (is? "(" t) (is? ")" t)
  where
    go : (x : Dec (t ≡ the "(")) (y : Dec (t ≡ the ")")) → ◌≡◌ {A = ℕ} n (elim x as (λ _. ℕ) [ yes e ↦ suc n | no h ↦ elim y as (λ _. ℕ) [ yes e ↦ pred n | no k ↦ n ] ])
    go (yes e) y = absurd (a e)
    go (no h) (yes e) = absurd (b e)
    go (no h) (no k) = refl

-- no more are open behind one that is no opening bracket
no_open : (t : Token) (n : ℕ) → (t ≡ the "(" → ⊥) → open_behind t n ≤ n
unfolding open_behind
no_open t n a = go (is? "(" t) (is? ")" t)
  where
    go : (x : Dec (t ≡ the "(")) (y : Dec (t ≡ the ")")) → (elim x as (λ _. ℕ) [ yes e ↦ suc n | no h ↦ elim y as (λ _. ℕ) [ yes e ↦ pred n | no k ↦ n ] ]) ≤ n
    go (yes e) y = absurd (a e)
    go (no h) (yes e) = omega arith
    go (no h) (no k) = omega arith

-- where more are open, more are open behind a token
open_behind_mono : (t : Token) (m n : ℕ) → m ≤ n → open_behind t m ≤ open_behind t n
unfolding open_behind
open_behind_mono t m n l = go (is? "(" t) (is? ")" t)
  where
    go : (x : Dec (t ≡ the "(")) (y : Dec (t ≡ the ")"))
        → (elim x as (λ _. ℕ) [ yes e ↦ suc m | no h ↦ elim y as (λ _. ℕ) [ yes e ↦ pred m | no k ↦ m ] ])
        ≤ (elim x as (λ _. ℕ) [ yes e ↦ suc n | no h ↦ elim y as (λ _. ℕ) [ yes e ↦ pred n | no k ↦ n ] ])
    go (yes e) y = omega arith
    go (no h) (yes e) = omega arith
    go (no h) (no k) = l

-- ---- a cell's brackets
module _ (s : List ℕ) (n : ℕ) where
  opening : n + 1 ≡ open_behind (cell_token s (byte "(")) n
  unfolding open_behind cell_token spelling is? same? ℕ_discrete
  opening = add-one n

  closing : pred n ≡ open_behind (cell_token s (byte ")")) n
  unfolding open_behind cell_token spelling is? same? ℕ_discrete
  closing = refl

  pub at_open : (c : ℕ) → c ≡ byte "(" → n + 1 ≡ open_behind (cell_token s c) n
  at_open c e = opening ∙ ap (λ (x : ℕ). open_behind (cell_token s x) n) (sym e)

  pub at_close : (c m : ℕ) → c ≡ byte ")" → m ≡ pred n → m ≡ open_behind (cell_token s c) n
  at_close c m e q = q ∙ closing ∙ ap (λ (x : ℕ). open_behind (cell_token s x) n) (sym e)

  pub at_other : (c : ℕ) → (c ≡ byte "(" → ⊥) → (c ≡ byte ")" → ⊥) → n ≡ open_behind (cell_token s c) n
  unfolding spelling
  at_other c a b =
      no_bracket (cell_token s c) n (λ e. a (sign_once s c (byte "(") tt (e ∙ sym (cell_mark s (byte "(") (omega arith))))) (λ e. b (sign_once s c (byte ")") tt (e ∙ sym (cell_mark s (byte ")") (omega arith)))))

  pub opens_one : (c : ℕ) → c ≡ byte "(" → open_behind (cell_token s c) n ≤ n + 1
  opens_one c e = omega (arith, at_open c e)

  pub opens_none : (c : ℕ) → (c ≡ byte "(" → ⊥) → open_behind (cell_token s c) n ≤ n + 0
  unfolding spelling
  opens_none c a = omega (arith, no_open (cell_token s c) n (λ e. a (sign_once s c (byte "(") tt (e ∙ sym (cell_mark s (byte "(") (omega arith))))))

-- ---- the most that are open
most_open_ge : (n : ℕ) (ts : List Token) → n ≤ most_open n ts
unfolding most_open
most_open_ge n [] = omega arith
most_open_ge n (t ∷ ts) = omega arith

most_open_mono : (ts : List Token) (m n : ℕ) → m ≤ n → most_open m ts ≤ most_open n ts
unfolding most_open
most_open_mono [] m n l = l
most_open_mono (t ∷ ts) m n l = omega (arith, most_open_mono ts (open_behind t m) (open_behind t n) (open_behind_mono t m n l))

pub few_open : (ts : List Token) (k : ℕ) → most_open 0 ts ≤ k → k ≤ max_open → Shallow ts
unfolding Shallow
few_open ts k l h = omega arith

module _ (f : ℕ → Token) (cells : List ℕ) where
  next_cell : (i : ℕ) → i < length cells → drop i cells ≡ get_or cells i 0 ∷ drop (i + 1) cells
  next_cell i h = drop_at cells i h

  pub open_step : (i m k : ℕ) → i < length cells → m ≤ max_open → k ≡ open_behind (f (get_or cells i 0)) m
      → max max_open (most_open m (map f (drop i cells))) ≡ max max_open (most_open k (map f (drop (i + 1) cells)))
  unfolding most_open
  open_step i m k h l e =
      ap (λ (x : List ℕ). max max_open (most_open m (map f x))) (next_cell i h)
      ∙ (let q : max max_open (max m (most_open (open_behind (f (get_or cells i 0)) m) (map f (drop (i + 1) cells))))
      ≡ max max_open (most_open (open_behind (f (get_or cells i 0)) m) (map f (drop (i + 1) cells))) = omega arith in q)
      ∙ ap (λ (x : ℕ). max max_open (most_open x (map f (drop (i + 1) cells)))) (sym e)

  pub too_deep : (i k : ℕ) → max max_open (most_open k (map f (drop i cells))) ≡ max max_open (most_open 0 (map f cells)) → max_open < k → Shallow (map f cells) → ⊥
  unfolding Shallow
  too_deep i k e h s = omega (arith, most_open_ge k (map f (drop i cells)))

  pub open_end : (i k : ℕ) → length cells ≤ i → most_open k (map f (drop i cells)) ≡ k
  unfolding most_open
  open_end i k h = ap (λ (x : List ℕ). most_open k (map f x)) (drop_of_length-le cells {i = i} h)

  pub never_deep : (i k : ℕ) → max max_open (most_open k (map f (drop i cells))) ≡ max max_open (most_open 0 (map f cells)) → length cells ≤ i → k ≤ max_open → Shallow (map f cells)
  unfolding Shallow
  never_deep i k e h l = omega (arith, open_end i k h)

  -- with as many open as were opened, at a cell that opens k
  pub opened_step : (i m k : ℕ) → i < length cells → open_behind (f (get_or cells i 0)) m ≤ m + k
      → most_open m (map f (drop i cells)) ≤ most_open (m + k) (map f (drop (i + 1) cells))
  unfolding most_open
  opened_step i m k h l =
      let rest : List Token = map f (drop (i + 1) cells) in
      let q : max m (most_open (open_behind (f (get_or cells i 0)) m) rest) ≤ most_open (m + k) rest
      = omega (arith, most_open_ge (m + k) rest, most_open_mono rest (open_behind (f (get_or cells i 0)) m) (m + k) l) in
      subst⁻¹ (λ (x : List ℕ). most_open m (map f x) ≤ most_open (m + k) rest) (next_cell i h) q
