-- Words and marks: where a sign is found in a list of them, and the mark that bytes begin with.
use mathlib.Core.Path.{◌≡◌, refl, sym, ap, ◌∙◌, subst, subst⁻¹}
use mathlib.Core.Logic.{◌⊎◌, inl, inr}
use mathlib.Core.Bool.{Bool, true, false}
use mathlib.Core.List.{List, [], ◌∷◌, ◌++◌}
use mathlib.Core.Option.{none, some}
use Prim.Native.Nat.{ℕ, suc, ◌+◌, ◌<◌}
use native.Mathlib.Nat.{add-zero}
use native.Mathlib.Omega.{arith}
use lib.Dec.{T, eqb}
use lib.ListN.{length, take, get_or}
use borrow.Author.Tests.{eqb-true, eqb-false}
use Rattle.std.specs.Prelude.{None, Some}
use Rattle.std.proofs.lemmas.Option.{none-some}
use Rattle.pcrl.specs.Text.{bytes}
use Rattle.pcrl.specs.Tests.{and, or, negated, same?, among, Every}
use Rattle.pcrl.specs.Tokens.{sign, words, mark_of}
use Rattle.laws.specs.Booleans.{false_not_true}
use Rattle.laws.specs.Tests.{where_yes, where_no}
use Rattle.lexer.specs.Classes.{sign_cell}
use Rattle.lexer.specs.Cells.{first_word}

-- ---- a sign among some
pub sign_cell_none : (c : ℕ) (vs : List (List ℕ)) (w : List ℕ) → Every (λ v. w ≡ v → ⊥) vs → sign_cell c vs w ≡ None
unfolding sign_cell Every
sign_cell_none c [] w h = refl
sign_cell_none c (v ∷ vs) w h = where_no (same? w v) h.0 (Some c) (sign_cell (suc c) vs w) ∙ sign_cell_none (suc c) vs w h.1

-- w is one of the signs, and its cell is as far from c as its place from the first
pub record Found (c : ℕ) (vs : List (List ℕ)) (w : List ℕ) : Type 0 where
  pub place : ℕ
  pub inside : place < length vs
  pub cell : sign_cell c vs w ≡ Some (c + place)
  pub here : get_or vs place [] ≡ w
  pub known : among w vs ≡ true

pub record Missing (c : ℕ) (vs : List (List ℕ)) (w : List ℕ) : Type 0 where
  pub cell : sign_cell c vs w ≡ None
  pub unknown : among w vs ≡ false

look_up_step : (c : ℕ) (v : List ℕ) (vs : List (List ℕ)) (w : List ℕ) (d : Dec (w ≡ v)) → Found (suc c) vs w ⊎ Missing (suc c) vs w
    → Found c (v ∷ vs) w ⊎ Missing c (v ∷ vs) w
unfolding sign_cell among
look_up_step c v vs w (yes e) f =
    inl (record {
      place = 0;
      inside = omega arith;
      cell = where_yes (same? w v) e (Some c) (sign_cell (suc c) vs w) ∙ ap Some (sym (add-zero c));
      here = sym e;
      known = where_yes (same? w v) e true (among w vs);
    })
look_up_step c v vs w (no h) (inl f) =
    let q : suc c + f.place ≡ c + suc f.place = omega arith in
    inl (record {
      place = suc f.place;
      inside = omega (arith, f.inside);
      cell = where_no (same? w v) h (Some c) (sign_cell (suc c) vs w) ∙ f.cell ∙ ap Some q;
      here = f.here;
      known = where_no (same? w v) h true (among w vs) ∙ f.known;
    })
look_up_step c v vs w (no h) (inr m) =
    inr (record {
      cell = where_no (same? w v) h (Some c) (sign_cell (suc c) vs w) ∙ m.cell;
      unknown = where_no (same? w v) h true (among w vs) ∙ m.unknown;
    })

pub look_up : (c : ℕ) (vs : List (List ℕ)) (w : List ℕ) → Found c vs w ⊎ Missing c vs w
unfolding sign_cell among
look_up c [] w = inr (record { cell = refl; unknown = refl })
look_up c (v ∷ vs) w = look_up_step c v vs w (same? w v) (look_up (suc c) vs w)

-- ---- words
module _ (w : List ℕ) where
  pub no_word : (w ≡ bytes "sort" → ⊥) → (w ≡ bytes "func" → ⊥) → (w ≡ bytes "act" → ⊥) → (w ≡ bytes "proc" → ⊥)
      → (w ≡ bytes "init" → ⊥) → (w ≡ bytes "sum" → ⊥) → (w ≡ bytes "delta" → ⊥) → (w ≡ bytes "tau" → ⊥) → None ≡ sign_cell first_word words w
  unfolding words Every
  no_word n₁ n₂ n₃ n₄ n₅ n₆ n₇ n₈ = sym (sign_cell_none first_word words w (n₁, (n₂, (n₃, (n₄, (n₅, (n₆, (n₇, (n₈, tt)))))))))

  other_first : (v : List ℕ) → (get_or w 0 0 ≡ get_or v 0 0 → ⊥) → w ≡ v → ⊥
  other_first v n e = n (ap (λ (l : List ℕ). get_or l 0 0) e)

  -- no word begins with its first byte
  pub first_unlike : (get_or w 0 0 ≡ 115 → ⊥) → (get_or w 0 0 ≡ 102 → ⊥) → (get_or w 0 0 ≡ 97 → ⊥) → (get_or w 0 0 ≡ 112 → ⊥)
      → (get_or w 0 0 ≡ 105 → ⊥) → (get_or w 0 0 ≡ 100 → ⊥) → (get_or w 0 0 ≡ 116 → ⊥) → None ≡ sign_cell first_word words w
  first_unlike s f a p i d t =
      no_word (other_first (bytes "sort") s) (other_first (bytes "func") f) (other_first (bytes "act") a) (other_first (bytes "proc") p)
      (other_first (bytes "init") i) (other_first (bytes "sum") s) (other_first (bytes "delta") d) (other_first (bytes "tau") t)

  other_length : (v : List ℕ) → length w < length v → w ≡ v → ⊥
  other_length v h e = let q = ap length e in omega arith

  -- each word has three bytes at least
  pub short_no_word : length w < 3 → None ≡ sign_cell first_word words w
  short_no_word h =
      no_word (other_length (bytes "sort") (omega arith)) (other_length (bytes "func") (omega arith)) (other_length (bytes "act") (omega arith)) (other_length (bytes "proc") (omega arith))
      (other_length (bytes "init") (omega arith)) (other_length (bytes "sum") (omega arith)) (other_length (bytes "delta") (omega arith)) (other_length (bytes "tau") (omega arith))

-- the signs that begin with b
abbrev pub starting : ℕ → List (List ℕ) → List (List ℕ)
starting b [] = []
starting b (v ∷ vs) = elim (eqb b (get_or v 0 0)) as (λ _. List (List ℕ)) [ true ↦ v ∷ starting b vs | false ↦ starting b vs ]

-- what is none of the signs that begin with its first byte is none of all
module _ (w : List ℕ) (b : ℕ) (first : get_or w 0 0 ≡ b) where
  starting_step : (v : List ℕ) (vs : List (List ℕ)) (t : Bool) → eqb b (get_or v 0 0) ≡ t
      → Every (λ v. w ≡ v → ⊥) (elim t as (λ _. List (List ℕ)) [ true ↦ v ∷ starting b vs | false ↦ starting b vs ])
      → (Every (λ v. w ≡ v → ⊥) (starting b vs) → Every (λ v. w ≡ v → ⊥) vs) → Every (λ v. w ≡ v → ⊥) (v ∷ vs)
  unfolding Every
  starting_step v vs true e h ih = (h.0, ih h.1)
  starting_step v vs false e h ih = (other_first w v (λ q. eqb-false b (get_or v 0 0) e (sym first ∙ q)), ih h)

  starting_none : (vs : List (List ℕ)) → Every (λ v. w ≡ v → ⊥) (starting b vs) → Every (λ v. w ≡ v → ⊥) vs
  unfolding Every
  starting_none [] h = tt
  starting_none (v ∷ vs) h = starting_step v vs (eqb b (get_or v 0 0)) refl h (starting_none vs)

  pub no_sign_starting : (c : ℕ) (vs : List (List ℕ)) → Every (λ v. w ≡ v → ⊥) (starting b vs) → None ≡ sign_cell c vs w
  no_sign_starting c vs h = sym (sign_cell_none c vs w (starting_none vs h))

  pub no_word_starting : Every (λ v. w ≡ v → ⊥) (starting b words) → None ≡ sign_cell first_word words w
  no_word_starting = no_sign_starting first_word words

-- ---- one word alone
pub is_word : (w v : List ℕ) (cell : ℕ) → w ≡ v → Some cell ≡ sign_cell cell (v ∷ []) w
unfolding sign_cell
is_word w v cell e = sym (where_yes (same? w v) e (Some cell) None)

pub is_other : (w v : List ℕ) (cell : ℕ) → (w ≡ v → ⊥) → None ≡ sign_cell cell (v ∷ []) w
unfolding sign_cell
is_other w v cell n = sym (where_no (same? w v) n (Some cell) None)

not_word : (w v : List ℕ) (cell : ℕ) → None ≡ sign_cell cell (v ∷ []) w → w ≡ v → ⊥
not_word w v cell e h = none-some cell (e ∙ sym (is_word w v cell h))

-- A text is looked for among the words that begin with its first byte b: v is the last of these, and has this cell.
module _ (w : List ℕ) (b cell : ℕ) (v : List ℕ) (first : get_or w 0 0 ≡ b) (known : sign_cell first_word words v ≡ Some cell) where
  pub one_word : starting b words ≡ v ∷ [] → sign_cell cell (v ∷ []) w ≡ sign_cell first_word words w
  unfolding Every
  one_word q = by (same? w v)
    where
      by : Dec (w ≡ v) → sign_cell cell (v ∷ []) w ≡ sign_cell first_word words w
      by (yes h) = sym (is_word w v cell h) ∙ sym (ap (sign_cell first_word words) h ∙ known)
      by (no n) = sym (is_other w v cell n) ∙ no_word_starting w b first (subst⁻¹ (Every (λ u. w ≡ u → ⊥)) q (n, tt))

  -- behind another one, which it is not
  pub next_word : (u : List ℕ) (c : ℕ) → starting b words ≡ u ∷ v ∷ [] → None ≡ sign_cell c (u ∷ []) w → sign_cell cell (v ∷ []) w ≡ sign_cell first_word words w
  unfolding Every
  next_word u c q e = by (same? w v)
    where
      by : Dec (w ≡ v) → sign_cell cell (v ∷ []) w ≡ sign_cell first_word words w
      by (yes h) = sym (is_word w v cell h) ∙ sym (ap (sign_cell first_word words) h ∙ known)
      by (no n) = sym (is_other w v cell n) ∙ no_word_starting w b first (subst⁻¹ (Every (λ u. w ≡ u → ⊥)) q (not_word w u c e, (n, tt)))

  -- it is this one
  pub found_word : {k : ℕ} → Some k ≡ sign_cell cell (v ∷ []) w → Some k ≡ sign_cell first_word words w
  found_word {k} e = by (same? w v)
    where
      by : Dec (w ≡ v) → Some k ≡ sign_cell first_word words w
      by (yes h) = e ∙ sym (is_word w v cell h) ∙ sym (ap (sign_cell first_word words) h ∙ known)
      by (no n) = absurd (none-some k (is_other w v cell n ∙ sym e))

-- ---- the mark that bytes begin with
mark_miss : (m : List ℕ) (ms : List (List ℕ)) (s : List ℕ) → (m ≡ take (length m) s → ⊥) → mark_of (m ∷ ms) s ≡ mark_of ms s
unfolding mark_of
mark_miss m ms s h = where_no (same? m (take (length m) s)) h (some (sign m, length m)) (mark_of ms s)

mark_hit : (m : List ℕ) (ms : List (List ℕ)) (s : List ℕ) → m ≡ take (length m) s → mark_of (m ∷ ms) s ≡ some (sign m, length m)
unfolding mark_of
mark_hit m ms s e = where_yes (same? m (take (length m) s)) e (some (sign m, length m)) (mark_of ms s)

-- no mark begins with b
abbrev pub unlike : ℕ → List (List ℕ) → Bool
unlike b [] = true
unlike b ([] ∷ ms) = false
unlike b ((k ∷ m) ∷ ms) = and (negated (eqb b k)) (unlike b ms)

-- of the marks that begin with b the first has one byte
abbrev pub lone : ℕ → List (List ℕ) → Bool
lone b [] = false
lone b ([] ∷ ms) = false
lone b ((k ∷ []) ∷ ms) = or (eqb b k) (lone b ms)
lone b ((k ∷ j ∷ m) ∷ ms) = and (negated (eqb b k)) (lone b ms)

module _ (b : ℕ) (l : List ℕ) where
  other_head : (k : ℕ) (m : List ℕ) → eqb b k ≡ false → k ∷ m ≡ take (length (k ∷ m)) (b ∷ l) → ⊥
  other_head k m h e = eqb-false b k h (ap (λ (x : List ℕ). get_or x 0 0) (sym e))

  unlike_step : (k : ℕ) (m : List ℕ) (ms : List (List ℕ)) (t : Bool) → eqb b k ≡ t → (T (unlike b ms) → mark_of ms (b ∷ l) ≡ none)
      → T (and (negated t) (unlike b ms)) → mark_of ((k ∷ m) ∷ ms) (b ∷ l) ≡ none
  unlike_step k m ms true e ih h = absurd h
  unlike_step k m ms false e ih h = mark_miss (k ∷ m) ms (b ∷ l) (other_head k m e) ∙ ih h

  pub no_mark : (ms : List (List ℕ)) → T (unlike b ms) → mark_of ms (b ∷ l) ≡ none
  unfolding mark_of
  no_mark [] h = refl
  no_mark ([] ∷ ms) h = absurd h
  no_mark ((k ∷ m) ∷ ms) h = unlike_step k m ms (eqb b k) refl (no_mark ms) h

  lone_here : (k : ℕ) (ms : List (List ℕ)) (t : Bool) → eqb b k ≡ t → (T (lone b ms) → mark_of ms (b ∷ l) ≡ some (sign (b ∷ []), 1))
      → T (or t (lone b ms)) → mark_of ((k ∷ []) ∷ ms) (b ∷ l) ≡ some (sign (b ∷ []), 1)
  lone_here k ms true e ih h = subst (λ (x : ℕ). mark_of ((x ∷ []) ∷ ms) (b ∷ l) ≡ some (sign (b ∷ []), 1)) (eqb-true b k e) (mark_hit (b ∷ []) ms (b ∷ l) refl)
  lone_here k ms false e ih h = mark_miss (k ∷ []) ms (b ∷ l) (other_head k [] e) ∙ ih h

  lone_next : (k j : ℕ) (m : List ℕ) (ms : List (List ℕ)) (t : Bool) → eqb b k ≡ t → (T (lone b ms) → mark_of ms (b ∷ l) ≡ some (sign (b ∷ []), 1))
      → T (and (negated t) (lone b ms)) → mark_of ((k ∷ j ∷ m) ∷ ms) (b ∷ l) ≡ some (sign (b ∷ []), 1)
  lone_next k j m ms true e ih h = absurd h
  lone_next k j m ms false e ih h = mark_miss (k ∷ j ∷ m) ms (b ∷ l) (other_head k (j ∷ m) e) ∙ ih h

  pub lone_mark : (ms : List (List ℕ)) → T (lone b ms) → mark_of ms (b ∷ l) ≡ some (sign (b ∷ []), 1)
  lone_mark [] h = absurd h
  lone_mark ([] ∷ ms) h = absurd h
  lone_mark ((k ∷ []) ∷ ms) h = lone_here k ms (eqb b k) refl (lone_mark ms) h
  lone_mark ((k ∷ j ∷ m) ∷ ms) h = lone_next k j m ms (eqb b k) refl (lone_mark ms) h

-- ---- marks of two bytes
abbrev pub pairs : List (List ℕ) → Bool
pairs [] = true
pairs ([] ∷ vs) = false
pairs ((k ∷ []) ∷ vs) = false
pairs ((k ∷ j ∷ []) ∷ vs) = pairs vs
pairs ((k ∷ j ∷ i ∷ v) ∷ vs) = false

module _ (a x : ℕ) (l : List ℕ) where
  pair_step : (k j : ℕ) (vs ms : List (List ℕ)) (d : Dec (a ∷ x ∷ [] ≡ k ∷ j ∷ [])) → (among (a ∷ x ∷ []) vs ≡ true → mark_of (vs ++ ms) (a ∷ x ∷ l) ≡ some (sign (a ∷ x ∷ []), 2))
      → among (a ∷ x ∷ []) ((k ∷ j ∷ []) ∷ vs) ≡ true → mark_of ((k ∷ j ∷ []) ∷ vs ++ ms) (a ∷ x ∷ l) ≡ some (sign (a ∷ x ∷ []), 2)
  unfolding among
  pair_step k j vs ms (yes e) ih h =
      mark_hit (k ∷ j ∷ []) (vs ++ ms) (a ∷ x ∷ l) (sym e) ∙ ap (λ (w : List ℕ). some (sign w, 2)) (sym e)
  pair_step k j vs ms (no n) ih h =
      mark_miss (k ∷ j ∷ []) (vs ++ ms) (a ∷ x ∷ l) (λ e. n (sym e)) ∙ ih (sym (where_no (same? (a ∷ x ∷ []) (k ∷ j ∷ [])) n true (among (a ∷ x ∷ []) vs)) ∙ h)

  pub pair_mark : (vs ms : List (List ℕ)) → T (pairs vs) → among (a ∷ x ∷ []) vs ≡ true → mark_of (vs ++ ms) (a ∷ x ∷ l) ≡ some (sign (a ∷ x ∷ []), 2)
  unfolding among
  pair_mark [] ms t h = false_not_true h
  pair_mark ([] ∷ vs) ms t h = absurd t
  pair_mark ((k ∷ []) ∷ vs) ms t h = absurd t
  pair_mark ((k ∷ j ∷ []) ∷ vs) ms t h = pair_step k j vs ms (same? (a ∷ x ∷ []) (k ∷ j ∷ [])) (pair_mark vs ms t) h
  pair_mark ((k ∷ j ∷ i ∷ v) ∷ vs) ms t h = absurd t

  no_pair_step : (k j : ℕ) (vs ms : List (List ℕ)) (d : Dec (a ∷ x ∷ [] ≡ k ∷ j ∷ [])) → (among (a ∷ x ∷ []) vs ≡ false → mark_of (vs ++ ms) (a ∷ x ∷ l) ≡ mark_of ms (a ∷ x ∷ l))
      → among (a ∷ x ∷ []) ((k ∷ j ∷ []) ∷ vs) ≡ false → mark_of ((k ∷ j ∷ []) ∷ vs ++ ms) (a ∷ x ∷ l) ≡ mark_of ms (a ∷ x ∷ l)
  unfolding among
  no_pair_step k j vs ms (yes e) ih h = false_not_true (sym h ∙ where_yes (same? (a ∷ x ∷ []) (k ∷ j ∷ [])) e true (among (a ∷ x ∷ []) vs))
  no_pair_step k j vs ms (no n) ih h =
      mark_miss (k ∷ j ∷ []) (vs ++ ms) (a ∷ x ∷ l) (λ e. n (sym e)) ∙ ih (sym (where_no (same? (a ∷ x ∷ []) (k ∷ j ∷ [])) n true (among (a ∷ x ∷ []) vs)) ∙ h)

  pub no_pair_mark : (vs ms : List (List ℕ)) → T (pairs vs) → among (a ∷ x ∷ []) vs ≡ false → mark_of (vs ++ ms) (a ∷ x ∷ l) ≡ mark_of ms (a ∷ x ∷ l)
  unfolding among
  no_pair_mark [] ms t h = refl
  no_pair_mark ([] ∷ vs) ms t h = absurd t
  no_pair_mark ((k ∷ []) ∷ vs) ms t h = absurd t
  no_pair_mark ((k ∷ j ∷ []) ∷ vs) ms t h = no_pair_step k j vs ms (same? (a ∷ x ∷ []) (k ∷ j ∷ [])) (no_pair_mark vs ms t) h
  no_pair_mark ((k ∷ j ∷ i ∷ v) ∷ vs) ms t h = absurd t

-- behind the last byte of the sheet there is no mark of two
pub no_pair_end : (a : ℕ) (vs ms : List (List ℕ)) → T (pairs vs) → mark_of (vs ++ ms) (a ∷ []) ≡ mark_of ms (a ∷ [])
no_pair_end a [] ms t = refl
no_pair_end a ([] ∷ vs) ms t = absurd t
no_pair_end a ((k ∷ []) ∷ vs) ms t = absurd t
no_pair_end a ((k ∷ j ∷ []) ∷ vs) ms t = mark_miss (k ∷ j ∷ []) (vs ++ ms) (a ∷ []) (λ e. let q = ap length e in omega arith) ∙ no_pair_end a vs ms t
no_pair_end a ((k ∷ j ∷ i ∷ v) ∷ vs) ms t = absurd t
