-- The array of declared names: written name by name, each as the first of its key, then the numbers of each kind.
use mathlib.Core.Path.{◌≡◌, refl, sym, ◌∙◌, ap}
use mathlib.Core.List.{List, [], ◌∷◌}
use mathlib.Core.Logic.{⊎_elim}
use Prim.Native.Nat.{ℕ, zero, suc, ◌+◌, ◌-◌, ◌≤◌, ◌<◌}
use native.Mathlib.Omega.{arith}
use native.Mathlib.Nat.{eq-or-lt_of_le}
use native.Mathlib.Decide.{ℕ_discrete}
use lib.ListN.{length, take, drop, get_or, set, length-set, length-take, length-drop}
use lib.Seq.{get_or-set_same, get_or-set_other, get_or-take, get_or-drop, take-take}
use Rattle.names.specs.declared.Kinds.{Kinds}
use Rattle.names.specs.NameCells.{name_at, scope_at}
use Rattle.names.specs.NameKeys.{key_count, key_of, FirstFrom, Keyed}
use Rattle.names.specs.NameKinds.{total_of, sorts_in}
use Rattle.names.specs.NameList.{max_names, first_count, first_place, list_cells, names_in, nexts_in, firsts_in, kinds_in, KeyedNames}
use Rattle.names.proofs.Lists.{mapped_next}
use Rattle.names.proofs.KeyLaws.{scope_most}

-- n names with their keys: there are so few, and the next ones stand in the array
pub names_few : (s l : List ℕ) (n : ℕ) → Keyed s (names_in l) (nexts_in l) (firsts_in l) n → (n ≤ max_names) × (n ≤ length l)
names_few s l n K = let a = length-take max_names l in let b = K.names_few in (omega arith, omega arith)

pub nexts_few : (s l : List ℕ) (n : ℕ) → Keyed s (names_in l) (nexts_in l) (firsts_in l) n → n < 1 + (length l - max_names)
nexts_few s l n K = let a = length-drop max_names l in let b = K.nexts_few in omega arith

-- the next of n names
pub next_listed : (s l : List ℕ) (n i : ℕ) → Keyed s (names_in l) (nexts_in l) (firsts_in l) n → i < n → drop i (scope_at s (names_in l) n) ≡ name_at s (get_or l i 0) ∷ drop (i + 1) (scope_at s (names_in l) n)
unfolding scope_at
next_listed s l n i K h =
    let few = names_few s l n K in
    mapped_next (name_at s) (names_in l) n K.names_few i h ∙ ap (λ (c : ℕ). name_at s c ∷ drop (i + 1) (scope_at s (names_in l) n)) (get_or-take max_names l i 0 (omega arith))

-- Bool and the other sorts
pub sorts_few : (s l : List ℕ) (k : Kinds) → length (sorts_in s l k) ≤ suc k.sorts
unfolding sorts_in
sorts_few s l k = let a = scope_most s l k.sorts in omega arith

take_same : (n : ℕ) (a b : List ℕ) → n ≤ length a → n ≤ length b → ((j : ℕ) → j < n → get_or a j 0 ≡ get_or b j 0) → take n a ≡ take n b
take_same zero a b h k e = refl
take_same (suc n) [] b h k e = absurd (omega arith)
take_same (suc n) (x ∷ a) [] h k e = absurd (omega arith)
take_same (suc n) (x ∷ a) (y ∷ b) h k e =
    let z : x ≡ y = e 0 (omega arith) in
    rw z (ap (◌∷◌ y) (take_same n a b (omega arith) (omega arith) (λ j l. e (suc j) (omega arith))))

-- for each of the first j keys n stands where its first name does
abbrev pub Cleared : List ℕ → ℕ → ℕ → Type 0
Cleared l n j = (k : ℕ) → k < j → get_or l (first_place + k) 0 ≡ n

pub cleared_more : (l : List ℕ) (n j p v : ℕ) → p ≡ first_place + j → p < length l → v ≡ n → Cleared l n j → Cleared (set l p v) n (j + 1)
cleared_more l n j p v e h f C k less = ⊎_elim
    (λ z. let y : first_place + k ≡ p = omega arith in ap (λ (x : ℕ). get_or (set l p v) x 0) y ∙ (get_or-set_same l p v 0 h ∙ f))
    (λ z. get_or-set_other l p (first_place + k) v 0 (λ y. omega arith) ∙ C k z)
    (eq-or-lt_of_le {n = k} {m = j} (omega arith))

module _ (s names : List ℕ) where
  abbrev key_at : ℕ → ℕ
  key_at j = key_of (name_at s (get_or names j 0))

  -- the names from i on, the first of each key and the next after each name
  pub record ListedFrom (l : List ℕ) (n i : ℕ) : Type 0 where
    pub many : length l ≡ list_cells
    pub name_there : (j : ℕ) → i ≤ j → j < n → get_or l j 0 ≡ get_or names j 0
    pub first_there : (k : ℕ) → k < key_count → FirstFrom s names n k i (get_or l (first_place + k) 0)
    pub next_there : (j : ℕ) → i ≤ j → j < n → FirstFrom s names n (key_at j) (j + 1) (get_or l (max_names + j) 0)

  pub listed_start : (l : List ℕ) (n : ℕ) → length l ≡ list_cells → Cleared l n key_count → ListedFrom l n n
  listed_start l n h e = record {
    many = h;
    name_there = λ j k m. absurd (omega arith);
    first_there = λ k m. rw (e k m) (record { from = omega arith; has = λ z. absurd (omega arith); least = λ j a b z. absurd (omega arith) });
    next_there = λ j k m. absurd (omega arith);
  }

  -- a name is the first of its key from its own place on
  own_first : (n i k : ℕ) → key_at i ≡ k → FirstFrom s names n k i i
  own_first n i k e = record { from = omega arith; has = λ h. e; least = λ j a b z. a }

  -- of another key the first stays
  other_first : (n i k q : ℕ) → (key_at i ≡ k → ⊥) → FirstFrom s names n k (i + 1) q → FirstFrom s names n k i q
  other_first n i k q d F = record {
    from = omega (arith, F.from);
    has = F.has;
    least = λ j a b z. ⊎_elim (λ y. absurd (d (ap key_at y ∙ z))) (λ y. F.least j (omega arith) b z) (eq-or-lt_of_le {n = i} {m = j} a);
  }

  module _ (l : List ℕ) (n i v k q p w : ℕ) (few : n ≤ max_names) (less : i < n) (e : v ≡ get_or names i 0) (f : k ≡ key_of (name_at s v)) (small : k < key_count) (g : q ≡ max_names + i) (at : p ≡ first_place + k) (is : w ≡ i) (L : ListedFrom l n (i + 1)) where
    abbrev l₁ : List ℕ
    l₁ = set l i v

    abbrev l₂ : List ℕ
    l₂ = set l₁ q (get_or l₁ p 0)

    abbrev l₃ : List ℕ
    l₃ = set l₂ p w

    many₁ : length l₁ ≡ list_cells
    many₁ = length-set l i v ∙ L.many

    many₂ : length l₂ ≡ list_cells
    many₂ = length-set l₁ q (get_or l₁ p 0) ∙ many₁

    -- what stands elsewhere stays
    kept : (j : ℕ) → (j ≡ i → ⊥) → (j ≡ q → ⊥) → (j ≡ p → ⊥) → get_or l₃ j 0 ≡ get_or l j 0
    kept j a b c = get_or-set_other l₂ p j w 0 (λ z. c z) ∙ (get_or-set_other l₁ q j (get_or l₁ p 0) 0 (λ z. b z) ∙ get_or-set_other l i j v 0 (λ z. a z))

    own_key : key_at i ≡ k
    own_key = sym (f ∙ ap (λ (c : ℕ). key_of (name_at s c)) e)

    name_of : (j : ℕ) → i ≤ j → j < n → get_or l₃ j 0 ≡ get_or names j 0
    name_of j a b = ⊎_elim
        (λ z. get_or-set_other l₂ p j w 0 (λ y. omega arith) ∙ (get_or-set_other l₁ q j (get_or l₁ p 0) 0 (λ y. omega arith) ∙ (rw (← z) (let y = L.many in get_or-set_same l i v 0 (omega arith)) ∙ (e ∙ ap (λ (m : ℕ). get_or names m 0) z))))
        (λ z. kept j (λ y. omega arith) (λ y. omega arith) (λ y. omega arith) ∙ L.name_there j (omega arith) b)
        (eq-or-lt_of_le {n = i} {m = j} a)

    first_of : (m : ℕ) → m < key_count → Dec (m ≡ k) → FirstFrom s names n m i (get_or l₃ (first_place + m) 0)
    first_of m h (yes z) =
        let y : first_place + m ≡ p = omega arith in
        let x : get_or l₃ (first_place + m) 0 ≡ i = ap (λ (x : ℕ). get_or l₃ x 0) y ∙ ((let o = many₂ in get_or-set_same l₂ p w 0 (omega arith)) ∙ is) in
        rw x (own_first n i m (own_key ∙ sym z))
    first_of m h (no d) =
        rw (kept (first_place + m) (λ y. omega arith) (λ y. omega arith) (λ y. d (omega arith))) (other_first n i m _ (λ z. d (sym z ∙ own_key)) (L.first_there m h))

    -- the first of the key so far is the next after the name
    next_of : (j : ℕ) → i ≤ j → j < n → FirstFrom s names n (key_at j) (j + 1) (get_or l₃ (max_names + j) 0)
    next_of j a b = ⊎_elim
        (λ z.
        let y : max_names + j ≡ q = omega arith in
        let x : get_or l₃ (max_names + j) 0 ≡ get_or l (first_place + k) 0 = get_or-set_other l₂ p (max_names + j) w 0 (λ y. omega arith)
        ∙ (ap (λ (x : ℕ). get_or l₂ x 0) y ∙ ((let o = many₁ in get_or-set_same l₁ q (get_or l₁ p 0) 0 (omega arith)) ∙ (get_or-set_other l i p v 0 (λ y. omega arith) ∙ ap (λ (x : ℕ). get_or l x 0) at))) in
        rw (x, ← z, own_key) (L.first_there k small))
        (λ z. rw (kept (max_names + j) (λ y. omega arith) (λ y. omega arith) (λ y. omega arith)) (L.next_there j (omega arith) b))
        (eq-or-lt_of_le {n = i} {m = j} a)

    pub listed_more : ListedFrom l₃ n i
    listed_more = record {
      many = length-set l₂ p w ∙ many₂;
      name_there = name_of;
      first_there = λ m h. first_of m h (ℕ_discrete m k);
      next_there = next_of;
    }

  -- a number between the next ones and the first ones
  pub listed_count : (l : List ℕ) (n q v : ℕ) → n ≤ max_names → first_count ≤ q → q < first_place → ListedFrom l n 0 → ListedFrom (set l q v) n 0
  listed_count l n q v h r t L = record {
    many = length-set l q v ∙ L.many;
    name_there = λ j a o. get_or-set_other l q j v 0 (λ z. omega arith) ∙ L.name_there j a o;
    first_there = λ k o. rw (get_or-set_other l q (first_place + k) v 0 (λ z. omega arith)) (L.first_there k o);
    next_there = λ j a o. rw (get_or-set_other l q (max_names + j) v 0 (λ z. omega arith)) (L.next_there j a o);
  }

  -- the same of a list that has the same names
  first_in : (l : List ℕ) (n k p q : ℕ) → ((j : ℕ) → j < n → get_or l j 0 ≡ get_or names j 0) → FirstFrom s names n k p q → FirstFrom s l n k p q
  first_in l n k p q e F = record {
    from = F.from;
    has = λ h. ap (λ (c : ℕ). key_of (name_at s c)) (e q h) ∙ F.has h;
    least = λ j a b z. F.least j a b (ap (λ (c : ℕ). key_of (name_at s c)) (sym (e j b)) ∙ z);
  }

  -- all of them
  pub listed_all : (l : List ℕ) (k : Kinds) → total_of k ≤ max_names → total_of k ≤ length names → kinds_in l ≡ k → ListedFrom l (total_of k) 0
      → KeyedNames s l × (kinds_in l ≡ k) × (take (total_of k) (names_in l) ≡ take (total_of k) names)
  listed_all l k h m e L =
      let z : total_of (kinds_in l) ≡ total_of k = ap total_of e in
      let w = L.many in
      let same : (j : ℕ) → j < total_of k → get_or (names_in l) j 0 ≡ get_or names j 0 = λ j o. get_or-take max_names l j 0 (omega arith) ∙ L.name_there j (omega arith) o in (
        record {
          names_few = let a = length-take max_names l in omega arith;
          nexts_few = let a = length-drop max_names l in omega arith;
          first_of = λ i o. rw (z, get_or-drop first_place l i 0) (first_in (names_in l) (total_of k) i 0 _ same (L.first_there i o));
          next_of = λ i o. rw (z, get_or-drop max_names l i 0, same i (omega arith)) (first_in (names_in l) (total_of k) (key_at i) (i + 1) _ same (L.next_there i (omega arith) (omega arith)));
        },
        e,
        take-take (total_of k) max_names l h ∙ take_same (total_of k) l names (omega arith) m (λ j o. L.name_there j (omega arith) o),
      )

  -- the four numbers are put behind the keys of all names
  pub listed_kinds : (l : List ℕ) (k : Kinds) (a b c d : ℕ) → total_of k ≤ max_names → total_of k ≤ length names → a ≡ k.sorts → b ≡ k.funcs → c ≡ k.acts → d ≡ k.procs → ListedFrom l (total_of k) 0
      → let l' = set (set (set (set l 144 a) 145 b) 146 c) 147 d in KeyedNames s l' × (kinds_in l' ≡ k) × (take (total_of k) (names_in l') ≡ take (total_of k) names)
  listed_kinds l k a b c d h m ea eb ec ed L =
      let l₁ = set l 144 a in
      let l₂ = set l₁ 145 b in
      let l₃ = set l₂ 146 c in
      let L₁ = listed_count l (total_of k) 144 a h (omega arith) (omega arith) L in
      let L₂ = listed_count l₁ (total_of k) 145 b h (omega arith) (omega arith) L₁ in
      let L₃ = listed_count l₂ (total_of k) 146 c h (omega arith) (omega arith) L₂ in
      let L₄ = listed_count l₃ (total_of k) 147 d h (omega arith) (omega arith) L₃ in
      let ha = get_or-set_other l₃ 147 144 d 0 (λ z. omega arith) ∙ (get_or-set_other l₂ 146 144 c 0 (λ z. omega arith) ∙ (get_or-set_other l₁ 145 144 b 0 (λ z. omega arith) ∙ (get_or-set_same l 144 a 0 (let z = L.many in omega arith) ∙ ea))) in
      let hb = get_or-set_other l₃ 147 145 d 0 (λ z. omega arith) ∙ (get_or-set_other l₂ 146 145 c 0 (λ z. omega arith) ∙ (get_or-set_same l₁ 145 b 0 (let z = L₁.many in omega arith) ∙ eb)) in
      let hc = get_or-set_other l₃ 147 146 d 0 (λ z. omega arith) ∙ (get_or-set_same l₂ 146 c 0 (let z = L₂.many in omega arith) ∙ ec) in
      let hd = get_or-set_same l₃ 147 d 0 (let z = L₃.many in omega arith) ∙ ed in
      listed_all (set l₃ 147 d) k h m (rw (ha, hb, hc, hd) refl) L₄
