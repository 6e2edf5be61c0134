-- What a cell's token is, by the range that the cell lies in; and that the token of a word or a mark has one cell only (`sign_once`).
use mathlib.Core.Path.{◌≡◌, refl, sym, ap, ◌∙◌, subst⁻¹}
use mathlib.Core.Bool.{Bool, true, false}
use mathlib.Core.List.{List, [], ◌∷◌}
use Prim.Native.Nat.{ℕ, ◌+◌, ◌-◌, ◌<◌, ◌≤◌}
use native.Mathlib.Nat.{add-sub_cancel_left}
use native.Mathlib.Decide.{ℕ_discrete}
use native.Mathlib.Omega.{arith}
use lib.Dec.{T, ltb, eqb, ltb→lt, eqb→eq}
use lib.ListN.{drop, get_or}
use borrow.Author.Tests.{lt-ltb, le-ltb, ltb-true, ltb-false, eqb-true}
use Rattle.pcrl.specs.Tests.{and, or, negated, same?}
use Rattle.pcrl.specs.Bytes.{name_byte}
use Rattle.pcrl.specs.Tokens.{name, numeral, sign, words, front}
use Rattle.lexer.specs.Classes.{one_of}
use Rattle.lexer.specs.Cells.{first_long_mark, first_word, first_numeral, first_name, long_marks, spelling, cell_token}
use Rattle.lexer.proofs.Match.{all_from, from_all, or_no, and_left, and_right}

module _ (s : List ℕ) where
  pub cell_sign : (c : ℕ) → c < first_numeral → cell_token s c ≡ sign (spelling c)
  unfolding cell_token
  cell_sign c h = rw (lt-ltb _ _ h, cell_token)

  -- a mark of one byte
  pub cell_mark : (b : ℕ) → b < first_long_mark → cell_token s b ≡ sign (b ∷ [])
  unfolding spelling
  cell_mark b h = cell_sign b (omega arith) ∙ ap sign (rw (lt-ltb _ _ h, spelling))

  pub cell_long_mark : (k : ℕ) → k < 32 → cell_token s (first_long_mark + k) ≡ sign (get_or long_marks k [])
  unfolding spelling
  cell_long_mark k h =
      let over : first_long_mark ≤ first_long_mark + k = omega arith in
      let under : first_long_mark + k < first_word = omega arith in
      cell_sign (first_long_mark + k) (omega arith)
      ∙ ap sign (rw (le-ltb _ _ over, lt-ltb _ _ under, spelling) (ap (λ (j : ℕ). get_or long_marks j []) (add-sub_cancel_left first_long_mark k)))

  pub cell_word : (k : ℕ) → k < 96 → cell_token s (first_word + k) ≡ sign (get_or words k [])
  unfolding spelling
  cell_word k h =
      let over : first_long_mark ≤ first_word + k = omega arith in
      let over_too : first_word ≤ first_word + k = omega arith in
      cell_sign (first_word + k) (omega arith)
      ∙ ap sign (rw (le-ltb _ _ over, le-ltb _ _ over_too, spelling) (ap (λ (j : ℕ). get_or words j []) (add-sub_cancel_left first_word k)))

  pub numeral_cell : (c : ℕ) → first_numeral ≤ c → c < first_name → cell_token s c ≡ numeral (c - first_numeral)
  unfolding cell_token
  numeral_cell c over under = rw (le-ltb _ _ over, lt-ltb _ _ under, cell_token)

  pub cell_numeral : (v : ℕ) → v < 768 → cell_token s (first_numeral + v) ≡ numeral v
  cell_numeral v h = numeral_cell (first_numeral + v) (omega arith) (omega arith) ∙ ap numeral (add-sub_cancel_left first_numeral v)

  pub name_cell : (c : ℕ) → first_name ≤ c → cell_token s c ≡ name (front name_byte (drop (c - first_name) s))
  unfolding cell_token
  name_cell c over =
      let over_too : first_numeral ≤ c = omega arith in
      rw (le-ltb _ _ over_too, le-ltb _ _ over, cell_token)

  pub cell_name : (p : ℕ) → cell_token s (first_name + p) ≡ name (front name_byte (drop p s))
  cell_name p = name_cell (first_name + p) (omega arith) ∙ ap (λ (j : ℕ). name (front name_byte (drop j s))) (add-sub_cancel_left first_name p)

-- ---- a word or a mark has one cell
sign_small : (s : List ℕ) (c : ℕ) (w : List ℕ) → cell_token s c ≡ sign w → c < first_numeral
sign_small s c w q = go (ltb c first_numeral) (ltb c first_name) refl refl
  where
    go : (t u : Bool) → ltb c first_numeral ≡ t → ltb c first_name ≡ u → c < first_numeral
    go true u e f = ltb-true c first_numeral e
    go false true e f = let p = numeral_cell s c (ltb-false c first_numeral e) (ltb-true c first_name f) in let z : ◌≡◌ {A = ℕ} 0 1 = cc in absurd (omega arith)
    go false false e f = let p = name_cell s c (ltb-false c first_name f) in let z : ◌≡◌ {A = ℕ} 0 1 = cc in absurd (omega arith)

abbrev differ : List ℕ → List ℕ → Bool
differ v w = elim (same? v w) [ yes e ↦ false | no h ↦ true ]

differ_no : (v w : List ℕ) → T (differ v w) → v ≡ w → ⊥
differ_no v w t e = go (same? v w) t
  where
    go : (d : Dec (v ≡ w)) → T (elim d as (λ _. Bool) [ yes q ↦ false | no h ↦ true ]) → ⊥
    go (yes q) t = t
    go (no h) t = h e

-- the cells of the marks and words
abbrev pub sign_cells : List ℕ
sign_cells =
    40 ∷ 41 ∷ 44 ∷ 59 ∷ 58 ∷ 35 ∷ 61 ∷ 43 ∷ 46 ∷ 33 ∷ 128 ∷ 129 ∷ 130 ∷ 131 ∷ 132 ∷ 133 ∷ 160 ∷ 161 ∷ 162 ∷ 163 ∷ 164 ∷ 165 ∷ 166 ∷ 167 ∷ []

-- no other cell below 256 is written like k
abbrev only : ℕ → Bool
only k = all_from (λ c. or (eqb c k) (differ (spelling c) (spelling k))) 0 256

all_only : T (all_from (λ k. or (negated (one_of sign_cells k)) (only k)) 0 256)
unfolding spelling words long_marks same? ℕ_discrete
all_only = tt

abbrev below : ℕ → List ℕ → Bool
below n [] = true
below n (k ∷ ks) = and (ltb k n) (below n ks)

below_step : (n b k : ℕ) (ks : List ℕ) (t : Bool) → eqb k b ≡ t → (T (below n ks) → T (one_of ks k) → k < n) → T (and (ltb b n) (below n ks)) → T (or t (one_of ks k)) → k < n
below_step n b k ks true e ih h o = subst⁻¹ (λ (x : ℕ). x < n) (eqb-true k b e) (ltb→lt b n (and_left (ltb b n) (below n ks) h))
below_step n b k ks false e ih h o = ih (and_right (ltb b n) (below n ks) h) o

one_below : (n k : ℕ) (ks : List ℕ) → T (below n ks) → T (one_of ks k) → k < n
one_below n k [] h o = absurd o
one_below n k (b ∷ ks) h o = below_step n b k ks (eqb k b) refl (one_below n k ks) h o

or_first : (a b : Bool) → (T b → ⊥) → T (or a b) → T a
or_first true b n t = tt
or_first false b n t = n t

negated_no : (t : Bool) → T t → T (negated t) → ⊥
negated_no true h n = n
negated_no false h n = h

-- Only k itself has the token of a mark's or word's cell k: so a reader may compare cells in place of tokens.
pub sign_once : (s : List ℕ) (c k : ℕ) → T (one_of sign_cells k) → cell_token s c ≡ cell_token s k → c ≡ k
sign_once s c k o e =
    let small : k < first_numeral = one_below first_numeral k sign_cells tt o in
    let low : c < first_numeral = sign_small s c (spelling k) (e ∙ cell_sign s k small) in
    let same : sign (spelling c) ≡ sign (spelling k) = sym (cell_sign s c low) ∙ e ∙ cell_sign s k small in
    let alike : spelling c ≡ spelling k = cc in
    let ok : T (only k) = or_no (negated (one_of sign_cells k)) (only k) (negated_no (one_of sign_cells k) o)
    (from_all (λ k. or (negated (one_of sign_cells k)) (only k)) 0 256 all_only k (omega arith) (omega arith)) in
    eqb→eq c k
    (or_first (eqb c k) (differ (spelling c) (spelling k)) (λ d. differ_no (spelling c) (spelling k) d alike)
    (from_all (λ c. or (eqb c k) (differ (spelling c) (spelling k))) 0 256 ok c (omega arith) (omega arith)))
