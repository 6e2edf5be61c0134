-- Two tests, one that is constant on blocks of P, one that says the same P numbers on: each block that the first accepts has in it what the second accepts of one.
use mathlib.Core.Path.{◌≡◌, refl, sym, ◌∙◌, ap, ap₂, subst}
use mathlib.Core.List.{List, [], ◌∷◌, ◌++◌, map}
use mathlib.Core.Bool.{Bool, true, false}
use mathlib.Core.Option.{some}
use Prim.Native.Nat.{ℕ, zero, suc, ◌+◌, ◌-◌, ◌*◌, ◌/◌, ◌%◌, ◌≤◌, ◌<◌, min}
use native.Mathlib.Nat.{sub-zero, div-add-mod', mul-le-mul_right, mul-div_left, mul_comm, mul-zero, mod-lt, div-mul-le_self, div-le_of_le-mul}
use native.Mathlib.Omega.{arith}
use lib.ListN.{length, get_elem?, length-append, length-map}
use Rattle.pcrl.specs.Tests.{and}
use Rattle.laws.specs.Lists.{some_append}
use Rattle.evaluation.specs.Run.{pick}
use Rattle.assignments.specs.Places.{places}
use Rattle.std.specs.Prelude.{Result, Ok, Err, MatchResult}
use Rattle.assignments.specs.Conditions.{Finds}
use Rattle.assignments.proofs.Passing.{none_pass, passed_end, going_start, going_on, going_found, going_end}
use Rattle.assignments.proofs.Periods.{map_some, behind_some, places_append, places_later}

pub map_from : (f : ℕ → ℕ) (l : List ℕ) (k x : ℕ) → get_elem? (map f l) k ≡ some x → (a : ℕ) × (get_elem? l k ≡ some a) × (x ≡ f a)
map_from f [] k x e = absurd (let z : ◌≡◌ {A = ℕ} 0 1 = cc in omega arith)
map_from f (y ∷ l) zero x e = (y, refl, let z : f y ≡ x = cc in sym z)
map_from f (y ∷ l) (suc k) x e = map_from f l k x e

some_within : (l : List ℕ) (k x : ℕ) → get_elem? l k ≡ some x → k < length l
some_within [] k x e = absurd (let z : ◌≡◌ {A = ℕ} 0 1 = cc in omega arith)
some_within (y ∷ l) zero x e = omega arith
some_within (y ∷ l) (suc k) x e = let h = some_within l k x e in omega arith

places_few : (acc : ℕ → Bool) (n j : ℕ) → length (places acc n j) ≤ n
unfolding places
places_few acc zero j = omega arith
places_few acc (suc n) j = go (acc j) (places_few acc n (j + 1))
  where
    go : (t : Bool) → length (places acc n (j + 1)) ≤ n → length (pick t (j ∷ places acc n (j + 1)) (places acc n (j + 1))) ≤ suc n
    go true h = omega arith
    go false h = omega arith

-- tests that say the same
pub same_places : (acc other : ℕ → Bool) (n j : ℕ) → ((i : ℕ) → i < j + n → acc i ≡ other i) → places acc n j ≡ places other n j
unfolding places
same_places acc other zero j h = refl
same_places acc other (suc n) j h = let z : j + 1 + n ≡ j + suc n = omega arith in rw (h j (omega arith), same_places acc other n (j + 1) (λ i k. h i (omega arith))) refl

-- what is passed is not more than what is asked for
pub passed_few : (P q left k m : ℕ) → q ≤ k / m → (q * P - left) / P * m ≤ k
passed_few P q left k m h =
    let l : (q * P - left) / P ≤ q = div-le_of_le-mul P {m = q * P - left} {n = q} (omega (arith, mul_comm P q)) in
    omega (arith, mul-le-mul_right m l, mul-le-mul_right m h, div-mul-le_self k m)

pub passed_fits : (P q left k m top : ℕ) → q ≤ k / m → k < top → (q * P - left) / P * m < top
passed_fits P q left k m top h f = let w = passed_few P q left k m h in omega arith

module _ (P : ℕ) (pos : 0 < P) where
  first_then : (acc : ℕ → Bool) (n : ℕ) → places acc (suc n * P) 0 ≡ places acc P 0 ++ map (λ x. P + x) (places (λ i. acc (P + i)) (n * P) 0)
  first_then acc n =
      let z : suc n * P ≡ P + n * P = omega arith in
      let w : 0 + P ≡ P + 0 = omega arith in
      ap (λ (x : ℕ). places acc x 0) z ∙ places_append acc P (n * P) 0 ∙ ap (λ (l : List ℕ). places acc P 0 ++ l) (ap (places acc (n * P)) w ∙ places_later acc P (n * P) 0)

  -- one block of which all pass, or none
  full_length : (acc : ℕ → Bool) → ((i : ℕ) → i < P → acc i ≡ true) → length (places acc P 0) ≡ P
  full_length acc h = ap (λ (x : ℕ). length (places acc x 0)) (sym (sub-zero P)) ∙ sym (going_end acc P 0 P P 0 (omega arith) (going_on acc P 0 P 0 P P 0 (omega arith) (omega arith) (λ i u v. h i v) (omega arith) (omega arith) (going_start acc P 0 P)) ∙ omega arith)

  full_first : (acc : ℕ → Bool) → ((i : ℕ) → i < P → acc i ≡ true) → get_elem? (places acc P 0) 0 ≡ some 0
  full_first acc h = ap (λ (x : ℕ). get_elem? (places acc x 0) 0) (sym (sub-zero P)) ∙ going_found acc P 0 0 0 0 P 0 (omega arith) (omega arith) (λ i u v. h i v) (omega arith) (omega arith) (going_start acc P 0 0)

  none_at_all : (acc : ℕ → Bool) → ((i : ℕ) → i < P → acc i ≡ false) → places acc P 0 ≡ []
  none_at_all acc h = ap (λ (x : ℕ). places acc x 0) (sym (sub-zero P)) ∙ none_pass acc P 0 P (omega arith) (λ i u v. h i v) ∙ passed_end acc P P (omega arith)

  abbrev pub Constant : (ℕ → Bool) → Type 0
  Constant a = (t i : ℕ) → i < P → a (t * P + i) ≡ a (t * P)

  later_constant : (a : ℕ → Bool) → Constant a → Constant (λ i. a (P + i))
  later_constant a h t i k =
      let z : P + (t * P + i) ≡ suc t * P + i = omega arith in
      let w : suc t * P ≡ P + t * P = omega arith in
      ap a z ∙ h (suc t) i k ∙ ap a w

  on_first : (a : ℕ → Bool) → Constant a → (i : ℕ) → i < P → a i ≡ a 0
  on_first a h i k =
      let z : i ≡ 0 * P + i = omega arith in
      let w : 0 * P ≡ 0 = omega arith in
      ap a z ∙ h 0 i k ∙ ap a w

  module _ (late : ℕ → Bool) (again : (i : ℕ) → late (P + i) ≡ late i) where
    abbrev pub both : (ℕ → Bool) → ℕ → Bool
    both a i = and (a i) (late i)

    abbrev c : ℕ
    c = length (places late P 0)

    both_then : (a : ℕ → Bool) (n : ℕ) → places (both a) (suc n * P) 0 ≡ places (both a) P 0 ++ map (λ x. P + x) (places (both (λ i. a (P + i))) (n * P) 0)
    both_then a n = first_then (both a) n ∙ ap (λ (l : List ℕ). places (both a) P 0 ++ map (λ x. P + x) l) (same_places (λ i. both a (P + i)) (both (λ i. a (P + i))) (n * P) 0 (λ i k. ap (λ (x : Bool). and (a (P + i)) x) (again i)))

    taken_in : (a : ℕ → Bool) → Constant a → a 0 ≡ true → (i : ℕ) → i < P → a i ≡ true
    taken_in a h e i k = on_first a h i k ∙ e

    both_taken : (a : ℕ → Bool) → Constant a → a 0 ≡ true → places (both a) P 0 ≡ places late P 0
    both_taken a h e = same_places (both a) late P 0 (λ i k. ap (λ (x : Bool). and x (late i)) (on_first a h i (omega arith) ∙ e))

    both_left : (a : ℕ → Bool) → Constant a → a 0 ≡ false → places (both a) P 0 ≡ []
    both_left a h e = none_at_all (both a) (λ i k. ap (λ (x : Bool). and x (late i)) (on_first a h i k ∙ e))

    -- a accepts e blocks: so many are there of its numbers, so many of both tests'
    blocks_lengths : (n : ℕ) (a : ℕ → Bool) → Constant a → (e : ℕ) × (length (places a (n * P) 0) ≡ e * P) × (length (places (both a) (n * P) 0) ≡ e * c)
    unfolding places
    blocks_lengths zero a h =
        let z : zero * P ≡ 0 = omega arith in
        let w : zero * c ≡ 0 = omega arith in
        (0, ap (λ (x : ℕ). length (places a x 0)) z ∙ sym z, ap (λ (x : ℕ). length (places (both a) x 0)) z ∙ sym w)
    blocks_lengths (suc n) a h =
        let (e, u, v) = blocks_lengths n (λ i. a (P + i)) (later_constant a h) in
        go (a 0) refl e u v
      where
        A : List ℕ
        A = places (λ i. a (P + i)) (n * P) 0

        B : List ℕ
        B = places (both (λ i. a (P + i))) (n * P) 0

        all_len : length (places a (suc n * P) 0) ≡ length (places a P 0) + length A
        all_len = ap length (first_then a n) ∙ length-append (places a P 0) (map (λ x. P + x) A) ∙ ap (λ (x : ℕ). length (places a P 0) + x) (length-map A (λ x. P + x))

        both_len : length (places (both a) (suc n * P) 0) ≡ length (places (both a) P 0) + length B
        both_len = ap length (both_then a n) ∙ length-append (places (both a) P 0) (map (λ x. P + x) B) ∙ ap (λ (x : ℕ). length (places (both a) P 0) + x) (length-map B (λ x. P + x))

        go : (t : Bool) → a 0 ≡ t → (e : ℕ) → length A ≡ e * P → length B ≡ e * c → (e : ℕ) × (length (places a (suc n * P) 0) ≡ e * P) × (length (places (both a) (suc n * P) 0) ≡ e * c)
        go true q e u v =
            let z : suc e * P ≡ P + e * P = omega arith in
            let w : suc e * c ≡ c + e * c = omega arith in
            (suc e, all_len ∙ ap₂ ◌+◌ (full_length a (taken_in a h q)) u ∙ sym z, both_len ∙ ap₂ ◌+◌ (ap length (both_taken a h q)) v ∙ sym w)
        go false q e u v =
            (e, all_len ∙ ap₂ ◌+◌ (ap length (none_at_all a (λ i k. on_first a h i k ∙ q))) u ∙ omega arith, both_len ∙ ap₂ ◌+◌ (ap length (both_left a h q)) v ∙ omega arith)

    -- in block t of those that a accepts, which begins with x, the r-th is r places on in what the other accepts
    blocks_at : (n : ℕ) (a : ℕ → Bool) → Constant a → (t x r y : ℕ) → get_elem? (places a (n * P) 0) (t * P) ≡ some x → get_elem? (places late P 0) r ≡ some y → get_elem? (places (both a) (n * P) 0) (t * c + r) ≡ some (x + y)
    unfolding places
    blocks_at zero a h t x r y e f =
        let z : zero * P ≡ 0 = omega arith in
        let g : get_elem? (places a 0 0) (t * P) ≡ some x = ap (λ (m : ℕ). get_elem? (places a m 0) (t * P)) (sym z) ∙ e in
        absurd (let w : ◌≡◌ {A = ℕ} 0 1 = cc in omega arith)
    blocks_at (suc n) a h t x r y e f = go (a 0) refl t (ap (λ (l : List ℕ). get_elem? l (t * P)) (sym (first_then a n)) ∙ e) (λ t x' e'. blocks_at n (λ i. a (P + i)) (later_constant a h) t x' r y e' f)
      where
        A : List ℕ
        A = places (λ i. a (P + i)) (n * P) 0

        B : List ℕ
        B = places (both (λ i. a (P + i))) (n * P) 0

        Rest : Type 0
        Rest = (t x' : ℕ) → get_elem? A (t * P) ≡ some x' → get_elem? B (t * c + r) ≡ some (x' + y)

        -- found behind the first block
        behind : Rest → (t : ℕ) → get_elem? (map (λ x. P + x) A) (t * P) ≡ some x → get_elem? (map (λ x. P + x) B) (t * c + r) ≡ some (x + y)
        behind rest t g =
            let (x', e', z) = map_from (λ x. P + x) A (t * P) x g in
            let w : P + (x' + y) ≡ x + y = omega arith in
            map_some (λ x. P + x) B (t * c + r) (x' + y) (rest t x' e') ∙ ap some w

        go : (b : Bool) → a 0 ≡ b → (t : ℕ) → get_elem? (places a P 0 ++ map (λ x. P + x) A) (t * P) ≡ some x → Rest → get_elem? (places (both a) (suc n * P) 0) (t * c + r) ≡ some (x + y)
        go true q zero g rest =
            let z : 0 * P ≡ 0 = omega arith in
            let s : get_elem? (places a P 0 ++ map (λ x. P + x) A) 0 ≡ some 0 = some_append (places a P 0) (map (λ x. P + x) A) 0 0 (full_first a (taken_in a h q)) in
            let o : some 0 ≡ some x = sym s ∙ ap (get_elem? (places a P 0 ++ map (λ x. P + x) A)) (sym z) ∙ g in
            let w : 0 ≡ x = cc in
            let v : y ≡ x + y = omega arith in
            let u : 0 * c + r ≡ r = omega arith in
            ap₂ get_elem? (both_then a n ∙ ap (λ (l : List ℕ). l ++ map (λ x. P + x) B) (both_taken a h q)) u ∙ some_append (places late P 0) (map (λ x. P + x) B) r y f ∙ ap some v
        go true q (suc t) g rest =
            let z : P + t * P ≡ suc t * P = omega arith in
            let l : length (places a P 0) + t * P ≡ suc t * P = ap (λ (m : ℕ). m + t * P) (full_length a (taken_in a h q)) ∙ z in
            let o : get_elem? (map (λ x. P + x) A) (t * P) ≡ some x = sym (behind_some (places a P 0) (map (λ x. P + x) A) (t * P)) ∙ ap (get_elem? (places a P 0 ++ map (λ x. P + x) A)) l ∙ g in
            let u : suc t * c + r ≡ c + (t * c + r) = omega arith in
            ap₂ get_elem? (both_then a n ∙ ap (λ (l : List ℕ). l ++ map (λ x. P + x) B) (both_taken a h q)) u ∙ behind_some (places late P 0) (map (λ x. P + x) B) (t * c + r) ∙ behind rest t o
        go false q t g rest =
            let o : get_elem? (map (λ x. P + x) A) (t * P) ≡ some x = ap (λ (l : List ℕ). get_elem? (l ++ map (λ x. P + x) A) (t * P)) (sym (none_at_all a (λ i k. on_first a h i k ∙ q))) ∙ g in
            ap (λ (l : List ℕ). get_elem? l (t * c + r)) (both_then a n ∙ ap (λ (l : List ℕ). l ++ map (λ x. P + x) B) (both_left a h q)) ∙ behind rest t o

    -- THE SEARCH: first how many the second test accepts of one block, then a block that the first accepts, then a place in it

    -- as many are asked for as a block has: they are never found
    pub none_counted : (at : ℕ) → Finds (places late P 0) P (Ok at) → ⊥
    unfolding Finds
    none_counted at e = omega (arith, some_within (places late P 0) P at e, places_few late P 0)

    module _ (a : ℕ → Bool) (h : Constant a) (n N : ℕ) (whole : N ≡ n * P) (k left : ℕ) (counted : Finds (places late P 0) P (Err left)) (m : ℕ) (is_m : m ≡ P - left) where
      m_is : m ≡ c
      unfolding Finds
      m_is = let e = counted in omega arith

      lengths : (e : ℕ) × (length (places a N 0) ≡ e * P) × (length (places (both a) N 0) ≡ e * m)
      lengths =
          let (e, u, v) = blocks_lengths n a h in
          (e, ap (λ (x : ℕ). length (places a x 0)) whole ∙ u, ap (λ (x : ℕ). length (places (both a) x 0)) whole ∙ v ∙ ap (λ (x : ℕ). e * x) (sym m_is))

      pub both_none : m ≡ 0 → Finds (places (both a) N 0) k (Err k)
      unfolding Finds
      both_none z = let (e, u, v) = lengths in let w : length (places (both a) N 0) ≡ 0 = v ∙ ap (λ (y : ℕ). e * y) z ∙ mul-zero e in omega arith

      module _ (some_late : 0 < m) (q : ℕ) (is_q : q ≡ min (k / m) N) where
        pub both_found : (at₂ : ℕ) → Finds (places a N 0) (q * P) (Ok at₂) → (o : Result ℕ ℕ) → Finds (places late P 0) (k % m) o → MatchResult o (λ at₃. Finds (places (both a) N 0) k (Ok (at₂ + at₃))) (λ left₃. ⊥)
        unfolding Finds
        both_found at₂ s (Err left₃) f = absurd (omega (arith, mod-lt k {m = m} some_late, m_is))
        both_found at₂ s (Ok at₃) f =
            let w : q * P < N = let v = some_within (places a N 0) (q * P) at₂ s in omega (arith, places_few a N 0) in
            let o : q * 1 ≤ q * P = subst (λ (x : ℕ). q * 1 ≤ x) (mul_comm P q) (subst (λ (x : ℕ). x ≤ P * q) (mul_comm 1 q) (mul-le-mul_right q pos)) in
            let d : q ≡ k / m = omega arith in
            let z : k ≡ q * c + k % m = sym (div-add-mod' k m) ∙ ap₂ (λ (x y : ℕ). x * y + k % m) (sym d) m_is in
            ap₂ (λ (x y : ℕ). get_elem? (places (both a) x 0) y) whole z ∙ blocks_at n a h q at₂ (k % m) at₃ (ap (λ (x : ℕ). get_elem? (places a x 0) (q * P)) (sym whole) ∙ s) f

        pub both_past : (left₂ : ℕ) → Finds (places a N 0) (q * P) (Err left₂) → Finds (places (both a) N 0) k (Err (k - (q * P - left₂) / P * m))
        unfolding Finds
        both_past left₂ s =
            let (e, u, v) = lengths in
            let z : q * P - left₂ ≡ e * P = omega arith in
            let d : (q * P - left₂) / P ≡ e = ap (λ (x : ℕ). x / P) z ∙ mul-div_left e pos in
            let w : (q * P - left₂) / P * m ≡ length (places (both a) N 0) = ap (λ (x : ℕ). x * m) d ∙ sym v in
            let l = passed_few P q left₂ k m (omega arith) in
            omega arith
