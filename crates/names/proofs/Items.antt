-- A list in the cells by its tags: the count of its items is its length, and its names and values are its elements.
use mathlib.Core.Path.{◌≡◌, refl, sym, ◌∙◌, ap}
use mathlib.Core.List.{List, [], ◌∷◌, ◌++◌, append_assoc}
use Prim.Native.Nat.{ℕ, zero, suc, ◌+◌, ◌*◌, ◌-◌, ◌≤◌, ◌<◌, min}
use native.Mathlib.Nat.{mul-suc}
use native.Mathlib.Numerals.{add-one}
use native.Mathlib.Omega.{arith}
use lib.ListN.{length, drop, get_or, length-append}
use lib.Seq.{drop-drop, drop-append_seam}
use borrow.Author.Tests.{eq-eqb, ne_eqb}
use Rattle.pcrl.specs.Tree.{Name}
use Rattle.parser.specs.Cells.{Symbol, tag, end_tag, item_tag, enc_items, enc_name, enc_numeral}
use Rattle.names.specs.NameCells.{name_at}
use Rattle.names.specs.Standing.{symbols}
use Rattle.names.specs.Items.{numeral_at, item_count, item_names, item_values}
use Rattle.names.proofs.Symbols.{tag_at, numeral_is, name_is, symbols_behind}

-- the tag at the end
pub count_ends : (cells : List ℕ) (step p m : ℕ) → get_or cells p 0 ≡ end_tag → item_count cells step p m ≡ 0
unfolding item_count
count_ends cells step p zero e = refl
count_ends cells step p (suc m) e = rw (eq-eqb (get_or cells p 0) end_tag e, item_count)

-- another
pub count_goes : (cells : List ℕ) (step p m : ℕ) → (get_or cells p 0 ≡ end_tag → ⊥) → item_count cells step p (suc m) ≡ suc (item_count cells step (p + step) m)
unfolding item_count
count_goes cells step p m n = rw (ne_eqb (get_or cells p 0) end_tag n, item_count)

-- n items were counted
pub record Counting (cells : List ℕ) (step at most p n : ℕ) : Type 0 where
  pub near : p ≤ at + 3 * n
  pub few : n ≤ most
  pub whole : item_count cells step at most ≡ n + item_count cells step p (most - n)

pub counting_starts : (cells : List ℕ) (step at most : ℕ) → Counting cells step at most at 0
counting_starts cells step at most = let z : most - 0 ≡ most = omega arith in record { near = omega arith; few = omega arith; whole = rw z (omega arith) }

pub counting_ends : (cells : List ℕ) (step at most p n : ℕ) → Counting cells step at most p n → get_or cells p 0 ≡ end_tag → n ≡ item_count cells step at most
counting_ends cells step at most p n c e = let z = count_ends cells step p (most - n) e in let w = c.whole in omega arith

pub counting_goes : (cells : List ℕ) (step at most p n : ℕ) → step ≤ 3 → n < most → Counting cells step at most p n → (get_or cells p 0 ≡ end_tag → ⊥)
    → Counting cells step at most (p + step) (n + 1)
counting_goes cells step at most p n h l c e =
    let k : most - n ≡ suc (most - (n + 1)) = omega arith in
    let z : item_count cells step p (most - n) ≡ suc (item_count cells step (p + step) (most - (n + 1))) = rw k (count_goes cells step p (most - (n + 1)) e) in
    let w = c.whole in
    record { near = omega arith; few = omega arith; whole = omega arith }

pub counting_full : (cells : List ℕ) (step at most p n : ℕ) → most ≤ n → Counting cells step at most p n → n ≡ item_count cells step at most
unfolding item_count
counting_full cells step at most p n h c =
    let k : most - n ≡ 0 = omega arith in
    let z : item_count cells step p (most - n) ≡ 0 = rw k in
    let w = c.whole in
    omega arith

module _ (s cells : List ℕ) where
  -- behind what stands at p
  pub behind : (p q : ℕ) (e rest : List Symbol) → q ≡ p + length e → drop p (symbols s cells) ≡ e ++ rest → drop q (symbols s cells) ≡ rest
  behind p q e rest h k = rw (h, ← drop-drop (length e) p (symbols s cells), k) (drop-append_seam e rest)

  module _ {A : Type 0} (enc : A → List Symbol) where
    pub items_end : (p : ℕ) (rest : List Symbol) → drop p (symbols s cells) ≡ enc_items enc [] ++ rest → get_or cells p 0 ≡ end_tag
    unfolding enc_items
    items_end p rest e = tag_at s cells p end_tag rest e

    pub item_tagged : (p : ℕ) (a : A) (l : List A) (rest : List Symbol) → drop p (symbols s cells) ≡ enc_items enc (a ∷ l) ++ rest → get_or cells p 0 ≡ item_tag
    unfolding enc_items
    item_tagged p a l rest e = tag_at s cells p item_tag ((enc a ++ enc_items enc l) ++ rest) e

    -- an item, and the items behind it
    pub item_first : (p q : ℕ) (a : A) (l : List A) (rest : List Symbol) → q ≡ p + 1 → drop p (symbols s cells) ≡ enc_items enc (a ∷ l) ++ rest
        → drop q (symbols s cells) ≡ enc a ++ (enc_items enc l ++ rest)
    unfolding enc_items
    item_first p q a l rest h e = symbols_behind s cells p q (tag item_tag) ((enc a ++ enc_items enc l) ++ rest) h e ∙ append_assoc (enc a) (enc_items enc l) rest

    module _ (w : ℕ) (wide : (a : A) → length (enc a) ≡ w) where
      pub items_later : (p q : ℕ) (a : A) (l : List A) (rest : List Symbol) → q ≡ p + suc w → drop p (symbols s cells) ≡ enc_items enc (a ∷ l) ++ rest
          → drop q (symbols s cells) ≡ enc_items enc l ++ rest
      items_later p q a l rest h e = behind (p + 1) q (enc a) (enc_items enc l ++ rest) (omega (arith, wide a)) (item_first p (p + 1) a l rest refl e)

      -- the count of the items is the length, as far as it goes
      pub count_is : (l : List A) (p m : ℕ) (rest : List Symbol) → drop p (symbols s cells) ≡ enc_items enc l ++ rest → item_count cells (suc w) p m ≡ min m (length l)
      unfolding item_count
      count_is [] p m rest e = let z = count_ends cells (suc w) p m (items_end p rest e) in omega arith
      count_is (a ∷ l) p zero rest e = omega arith
      count_is (a ∷ l) p (suc m) rest e =
          let g = item_tagged p a l rest e in
          let z = count_goes cells (suc w) p m (λ k. omega arith) in
          let ih = count_is l (p + suc w) m rest (items_later p (p + suc w) a l rest refl e) in
          omega arith

      pub items_length : (l : List A) → length (enc_items enc l) ≡ suc w * length l + 1
      unfolding enc_items
      items_length [] = omega arith
      items_length (a ∷ l) = let ih = items_length l in let z = wide a in rw mul-suc (simp length-append (omega arith))

      pub items_behind : (l : List A) (p q : ℕ) (rest : List Symbol) → q ≡ p + suc w * length l + 1 → drop p (symbols s cells) ≡ enc_items enc l ++ rest → drop q (symbols s cells) ≡ rest
      items_behind l p q rest h e = behind p q (enc_items enc l) rest (omega (arith, items_length l)) e

  -- names and numerals take a cell
  pub names_are : (xs : List Name) (p : ℕ) (rest : List Symbol) → drop p (symbols s cells) ≡ enc_items enc_name xs ++ rest → item_names s cells p (length xs) ≡ xs
  unfolding item_names
  names_are [] p rest e = refl
  names_are (x ∷ xs) p rest e =
      let h = name_is s cells (p + 1) x (enc_items enc_name xs ++ rest) (item_first enc_name p (p + 1) x xs rest refl e) in
      let ih = names_are xs (p + 2) rest (items_later enc_name 1 (λ x. refl) p (p + 2) x xs rest refl e) in
      cc

  pub values_are : (vs : List ℕ) (p : ℕ) (rest : List Symbol) → drop p (symbols s cells) ≡ enc_items enc_numeral vs ++ rest → item_values cells p (length vs) ≡ vs
  unfolding item_values
  values_are [] p rest e = refl
  values_are (v ∷ vs) p rest e =
      let h = numeral_is s cells (p + 1) v (enc_items enc_numeral vs ++ rest) (item_first enc_numeral p (p + 1) v vs rest refl e) in
      let ih = values_are vs (p + 2) rest (items_later enc_numeral 1 (λ x. refl) p (p + 2) v vs rest refl e) in
      let k : numeral_at cells (p + 1) ≡ v = omega arith in
      cc

-- the items one by one
pub names_length : (s cells : List ℕ) (p n : ℕ) → length (item_names s cells p n) ≡ n
unfolding item_names
names_length s cells p zero = refl
names_length s cells p (suc n) = ap suc (names_length s cells (p + 2) n)

pub names_next : (s cells : List ℕ) (p n k q : ℕ) → k < n → q ≡ p + 2 * k + 1 → drop k (item_names s cells p n) ≡ name_at s (get_or cells q 0) ∷ drop (k + 1) (item_names s cells p n)
unfolding item_names
names_next s cells p zero k q h e = absurd (omega arith)
names_next s cells p (suc n) zero q h e = let z : q ≡ p + 1 = omega arith in rw z
names_next s cells p (suc n) (suc k) q h e =
    let z : suc k + 1 ≡ suc (k + 1) = omega arith in
    rw z (names_next s cells (p + 2) n k q (omega arith) (omega arith))

pub values_more : (cells : List ℕ) (p n q : ℕ) → q ≡ p + 2 * n + 1 → item_values cells p (n + 1) ≡ item_values cells p n ++ (numeral_at cells q ∷ [])
unfolding item_values
values_more cells p zero q e = let z : q ≡ p + 1 = omega arith in rw (add-one 0, z)
values_more cells p (suc n) q e =
    rw add-one (ap (λ (l : List ℕ). numeral_at cells (p + 1) ∷ l) (ap (item_values cells (p + 2)) (sym (add-one n)) ∙ values_more cells (p + 2) n q (omega arith)))
