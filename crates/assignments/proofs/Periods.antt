-- A test that says the same P numbers on: what passes of q periods is what passes of one, q times.
use mathlib.Core.Path.{◌≡◌, refl, sym, ◌∙◌, ap, ap₂, subst}
use mathlib.Core.List.{List, [], ◌∷◌, ◌++◌, map}
use mathlib.Core.Bool.{Bool, true, false}
use mathlib.Core.Option.{some}
use Prim.Native.Nat.{ℕ, zero, suc, ◌+◌, ◌-◌, ◌*◌, ◌/◌, ◌%◌, ◌≤◌, ◌<◌}
use native.Mathlib.Nat.{div-add-mod', mul-add-div_right, mul-add-mod_self_right, mul_assoc, mul-le-mul_right, mod-lt, mul_comm, mul-div_left, mul-zero}
use native.Mathlib.Omega.{arith}
use lib.Dec.{eqb}
use lib.ListN.{length, get_or, get_elem?, take, drop, length-append, length-map}
use Rattle.laws.specs.Lists.{some_append}
use Rattle.evaluation.specs.Run.{pick, top}
use Rattle.evaluation.proofs.Bytes.{run_past}
use Rattle.assignments.specs.Places.{product, digits_of, places}
use Rattle.std.specs.Prelude.{Result, Ok, Err, MatchResult}
use Rattle.assignments.specs.Conditions.{env, code, Finds}
use Rattle.assignments.specs.Parting.{asked, part_met, Above}
use Rattle.assignments.proofs.Blocks.{product_pos, product_split, env_same, all_same, asked_same}

-- LISTS

pub map_some : (f : ℕ → ℕ) (l : List ℕ) (k a : ℕ) → get_elem? l k ≡ some a → get_elem? (map f l) k ≡ some (f a)
map_some f [] k a e = absurd (let z : ◌≡◌ {A = ℕ} 0 1 = cc in omega arith)
map_some f (x ∷ l) zero a e = ap some (let z : x ≡ a = cc in ap f z)
map_some f (x ∷ l) (suc k) a e = map_some f l k a e

pub behind_some : (l m : List ℕ) (k : ℕ) → get_elem? (l ++ m) (length l + k) ≡ get_elem? m k
behind_some [] m k = let z : 0 + k ≡ k = omega arith in ap (get_elem? m) z
behind_some (x ∷ l) m k = let z : suc (length l) + k ≡ suc (length l + k) = omega arith in ap (get_elem? (x ∷ (l ++ m))) z ∙ behind_some l m k

-- PERIODS

module _ (acc : ℕ → Bool) where
  pub places_append : (m n j : ℕ) → places acc (m + n) j ≡ places acc m j ++ places acc n (j + m)
  unfolding places
  places_append zero n j = let z : 0 + n ≡ n = omega arith in let w : j ≡ j + 0 = omega arith in ap (λ (x : ℕ). places acc x j) z ∙ ap (places acc n) w
  places_append (suc m) n j = ap (λ (x : ℕ). places acc x j) z ∙ go (acc j) (places_append m n (j + 1))
    where
      z : suc m + n ≡ suc (m + n)
      z = omega arith

      w : j + 1 + m ≡ j + suc m
      w = omega arith

      go : (t : Bool) → places acc (m + n) (j + 1) ≡ places acc m (j + 1) ++ places acc n (j + 1 + m)
          → pick t (j ∷ places acc (m + n) (j + 1)) (places acc (m + n) (j + 1)) ≡ pick t (j ∷ places acc m (j + 1)) (places acc m (j + 1)) ++ places acc n (j + suc m)
      go true e = ap (λ (l : List ℕ). j ∷ l) (e ∙ ap (λ (x : ℕ). places acc m (j + 1) ++ places acc n x) w)
      go false e = e ∙ ap (λ (x : ℕ). places acc m (j + 1) ++ places acc n x) w

  -- what passes later on is what passes of the test moved there
  pub places_later : (P n j : ℕ) → places acc n (P + j) ≡ map (λ x. P + x) (places (λ i. acc (P + i)) n j)
  unfolding places
  places_later P zero j = refl
  places_later P (suc n) j = rw z (go (acc (P + j)) (places_later P n (j + 1)))
    where
      z : P + j + 1 ≡ P + (j + 1)
      z = omega arith

      go : (t : Bool) → places acc n (P + (j + 1)) ≡ map (λ x. P + x) (places (λ i. acc (P + i)) n (j + 1))
          → pick t ((P + j) ∷ places acc n (P + (j + 1))) (places acc n (P + (j + 1))) ≡ map (λ x. P + x) (pick t (j ∷ places (λ i. acc (P + i)) n (j + 1)) (places (λ i. acc (P + i)) n (j + 1)))
      go true e = ap (λ (l : List ℕ). (P + j) ∷ l) e
      go false e = e

  module _ (P : ℕ) (again : (i : ℕ) → acc (P + i) ≡ acc i) where
    places_shift : (n j : ℕ) → places acc n (P + j) ≡ map (λ x. P + x) (places acc n j)
    unfolding places
    places_shift zero j = refl
    places_shift (suc n) j = rw (again j, z) (go (acc j) (places_shift n (j + 1)))
      where
        z : P + j + 1 ≡ P + (j + 1)
        z = omega arith

        go : (t : Bool) → places acc n (P + (j + 1)) ≡ map (λ x. P + x) (places acc n (j + 1))
            → pick t ((P + j) ∷ places acc n (P + (j + 1))) (places acc n (P + (j + 1))) ≡ map (λ x. P + x) (pick t (j ∷ places acc n (j + 1)) (places acc n (j + 1)))
        go true e = ap (λ (l : List ℕ). (P + j) ∷ l) e
        go false e = e

    one_more : (q : ℕ) → places acc (suc q * P) 0 ≡ places acc P 0 ++ map (λ x. P + x) (places acc (q * P) 0)
    one_more q =
        let z : suc q * P ≡ P + q * P = omega arith in
        let w : 0 + P ≡ P + 0 = omega arith in
        ap (λ (x : ℕ). places acc x 0) z ∙ places_append P (q * P) 0 ∙ ap (λ (l : List ℕ). places acc P 0 ++ l) (ap (places acc (q * P)) w ∙ places_shift (q * P) 0)

    abbrev c : ℕ
    c = length (places acc P 0)

    pub periods_length : (q : ℕ) → length (places acc (q * P) 0) ≡ q * c
    unfolding places
    periods_length zero = let z : zero * P ≡ 0 = omega arith in let w : 0 ≡ zero * c = omega arith in ap (λ (x : ℕ). length (places acc x 0)) z ∙ w
    periods_length (suc q) =
        let z : suc q * c ≡ c + q * c = omega arith in
        ap length (one_more q) ∙ simp (length-append, length-map) (ap (λ (x : ℕ). c + x) (periods_length q) ∙ sym z)

    pub periods_at : (q t k a : ℕ) → t < q → get_elem? (places acc P 0) k ≡ some a → get_elem? (places acc (q * P) 0) (t * c + k) ≡ some (t * P + a)
    periods_at zero t k a h e = absurd (omega arith)
    periods_at (suc q) zero k a h e =
        let z : zero * c + k ≡ k = omega arith in
        let w : a ≡ zero * P + a = omega arith in
        ap₂ get_elem? (one_more q) z ∙ some_append (places acc P 0) (map (λ x. P + x) (places acc (q * P) 0)) k a e ∙ ap some w
    periods_at (suc q) (suc t) k a h e =
        let z : suc t * c + k ≡ c + (t * c + k) = omega arith in
        let w : P + (t * P + a) ≡ suc t * P + a = omega arith in
        ap₂ get_elem? (one_more q) z ∙ behind_some (places acc P 0) (map (λ x. P + x) (places acc (q * P) 0)) (t * c + k) ∙ map_some (λ x. P + x) (places acc (q * P) 0) (t * c + k) (t * P + a) (periods_at q t k a (omega arith) e) ∙ ap some w

    -- WHAT IS FOUND IN n PERIODS

    module _ (n N k : ℕ) (whole : N ≡ n * P) (some_period : 0 < n) where
      pub found_first : (a : ℕ) → get_elem? (places acc P 0) k ≡ some a → get_elem? (places acc N 0) k ≡ some a
      found_first a e =
          let z : 0 * c + k ≡ k = omega arith in
          let w : 0 * P + a ≡ a = omega arith in
          ap₂ (λ (x y : ℕ). get_elem? (places acc x 0) y) whole (sym z) ∙ periods_at n 0 k a some_period e ∙ ap some w

      pub found_none : (left m : ℕ) → k ≡ left + c → m ≡ k - left → m ≡ 0 → k ≡ left + length (places acc N 0)
      found_none left m e d z =
          let y : c ≡ 0 = omega arith in
          let l : length (places acc N 0) ≡ 0 = ap (λ (x : ℕ). length (places acc x 0)) whole ∙ periods_length n ∙ ap (λ (x : ℕ). n * x) y ∙ mul-zero n in
          omega arith

      pub found_past : (left m : ℕ) → k ≡ left + c → m ≡ k - left → 0 < m → n ≤ k / m → k ≡ k - m * n + length (places acc N 0)
      found_past left m e d pos h =
          let y : m ≡ c = omega arith in
          let l : length (places acc N 0) ≡ n * m = ap (λ (x : ℕ). length (places acc x 0)) whole ∙ periods_length n ∙ ap (λ (x : ℕ). n * x) (sym y) in
          omega (arith, mul-le-mul_right m h, div-add-mod' k m, mul_comm m n)

      pub found_later : (left m : ℕ) → k ≡ left + c → m ≡ k - left → 0 < m → k / m < n → (o : Result ℕ ℕ) → Finds (places acc P 0) (k % m) o → MatchResult o (λ a. get_elem? (places acc N 0) k ≡ some (k / m * P + a)) (λ left'. ⊥)
      unfolding Finds
      found_later left m e d pos h (Err left') f = absurd (omega (arith, mod-lt k {m = m} pos))
      found_later left m e d pos h (Ok a) f =
          let y : m ≡ c = omega arith in
          let z : k ≡ k / m * c + k % m = sym (div-add-mod' k m) ∙ ap (λ (x : ℕ). k / m * x + k % m) y in
          ap₂ (λ (x y : ℕ). get_elem? (places acc x 0) y) whole z ∙ periods_at n (k / m) (k % m) a h f

-- ASSIGNMENTS GO ROUND

pub around : (s : List ℕ) (k j : ℕ) → ((i : ℕ) → i < length s → 0 < get_or s i 0) → digits_of s (k * product s + j) ≡ digits_of s j
around [] k j h = refl
around (n ∷ s) k j h =
    let pos : 0 < product s = product_pos 0 s (λ i l. h (suc i) (omega arith)) in
    let z : k * (n * product s) ≡ k * n * product s = sym (mul_assoc k n (product s)) in
    let d : (k * n * product s + j) / product s ≡ k * n + j / product s = mul-add-div_right pos (k * n) j in
    ap (λ (x : ℕ). digits_of (n ∷ s) (x + j)) z ∙ ap₂ (λ (x : ℕ) (l : List ℕ). x ∷ l) (ap (λ (x : ℕ). x % n) d ∙ mul-add-mod_self_right k n (j / product s)) (around s (k * n) j (λ i l. h (suc i) (omega arith)))

-- the values from l on are the same some blocks of them further
pub later_values : (l : ℕ) (s : List ℕ) (q j : ℕ) → ((i : ℕ) → i < length s → 0 < get_or s i 0) → (v : ℕ) → l ≤ v → get_or (digits_of s (q * product (drop l s) + j)) v 0 ≡ get_or (digits_of s j) v 0
later_values zero s q j h v k = ap (λ (w : List ℕ). get_or w v 0) (around s q j h)
later_values (suc l) [] q j h v k = refl
later_values (suc l) (n ∷ s) q j h zero k = absurd (omega arith)
later_values (suc l) (n ∷ s) q j h (suc v) k = later_values l s q j (λ i q. h (suc i) (omega arith)) v (omega arith)

-- CONDITIONS SAY THE SAME A ROUND LATER

module _ (p low : ℕ) (sizes a : List ℕ) (few : p ≤ length a) (positive : (i : ℕ) → i < length sizes → 0 < get_or sizes i 0) where
  later_env : (j v : ℕ) → (p ≤ v → low ≤ v) → get_or (env p a (digits_of sizes (product (drop (low - p) sizes) + j))) v 0 ≡ get_or (env p a (digits_of sizes j)) v 0
  later_env j v h =
      let z : product (drop (low - p) sizes) + j ≡ 1 * product (drop (low - p) sizes) + j = omega arith in
      env_same p a (digits_of sizes (product (drop (low - p) sizes) + j)) (digits_of sizes j) few v (λ x. let y = h x in ap (λ (i : ℕ). get_or (digits_of sizes i) (v - p) 0) z ∙ later_values (low - p) sizes 1 j positive (v - p) (omega arith))

  pub met_again : (s funcs froms ends blocks : List ℕ) (n : ℕ) → Above s p froms ends blocks n low
      → (j : ℕ) → part_met s funcs froms ends blocks n (env p a (digits_of sizes (product (drop (low - p) sizes) + j))) ≡ part_met s funcs froms ends blocks n (env p a (digits_of sizes j))
  met_again s funcs froms ends blocks n above j =
      let e : List ℕ = env p a (digits_of sizes (product (drop (low - p) sizes) + j)) in
      let f : List ℕ = env p a (digits_of sizes j) in
      all_same n (asked s funcs froms ends blocks e) (asked s funcs froms ends blocks f) (λ m k.
      asked_same s funcs froms ends blocks e f m (λ h.
      let r = above m k h in
      ap (λ (l : List ℕ). eqb (top l) (get_or s (get_or froms m 0) 0)) (run_past s funcs e f p (code s (get_or froms m 0) (get_or ends m 0)) (λ v w. later_env j v (λ x. let y = w x in omega arith)))))

-- all assignments are whole rounds
pub whole_rounds : (l : ℕ) (sizes : List ℕ) → ((i : ℕ) → i < length sizes → 0 < get_or sizes i 0) → (product sizes ≡ product sizes / product (drop l sizes) * product (drop l sizes)) × (0 < product sizes / product (drop l sizes))
whole_rounds l sizes positive =
    let P = product (drop l sizes) in
    let pos : 0 < P = product_pos l sizes positive in
    let all : 0 < product sizes = product_pos 0 sizes positive in
    let e : product sizes ≡ product (take l sizes) * P = product_split l sizes ∙ mul_comm P (product (take l sizes)) in
    let d : product sizes / P ≡ product (take l sizes) = ap (λ (x : ℕ). x / P) e ∙ mul-div_left (product (take l sizes)) pos in
    (e ∙ ap (λ (x : ℕ). x * P) (sym d), rw d (go (product (take l sizes)) e all))
  where
    go : (x : ℕ) → product sizes ≡ x * product (drop l sizes) → 0 < product sizes → 0 < x
    go zero e h = absurd (omega arith)
    go (suc x) e h = omega arith

-- THE SEARCH IN ONE ROUND SAYS WHAT IS FOUND IN ALL

module _ (s funcs froms ends blocks : List ℕ) (count p low : ℕ) (sizes a : List ℕ) (few : p ≤ length a) (positive : (i : ℕ) → i < length sizes → 0 < get_or sizes i 0) (above : Above s p froms ends blocks count low) (round : ℕ) (is_round : round ≡ product (drop (low - p) sizes)) where
  abbrev passes : ℕ → Bool
  passes j = part_met s funcs froms ends blocks count (env p a (digits_of sizes j))

  again : (j : ℕ) → passes (round + j) ≡ passes j
  again j = ap (λ (x : ℕ). passes (x + j)) is_round ∙ met_again p low sizes a few positive s funcs froms ends blocks count above j

  all_rounds : (product sizes ≡ product sizes / round * round) × (0 < product sizes / round)
  all_rounds = subst (λ (x : ℕ). (product sizes ≡ product sizes / x * x) × (0 < product sizes / x)) (sym is_round) (whole_rounds (low - p) sizes positive)

  module _ (k : ℕ) where
    pub search_whole : (o : Result ℕ ℕ) → Finds (places passes round 0) k o → round ≡ product sizes → Finds (places passes (product sizes) 0) k o
    search_whole o first e = subst (λ (x : ℕ). Finds (places passes x 0) k o) e first

    pub search_first : (at : ℕ) → Finds (places passes round 0) k (Ok at) → Finds (places passes (product sizes) 0) k (Ok at)
    unfolding Finds
    search_first at first = found_first passes round again (product sizes / round) (product sizes) k all_rounds.0 all_rounds.1 at first

    module _ (left : ℕ) (first : Finds (places passes round 0) k (Err left)) (m : ℕ) (is_m : m ≡ k - left) where
      none_first : k ≡ left + length (places passes round 0)
      unfolding Finds
      none_first = first

      pub search_none : m ≡ 0 → Finds (places passes (product sizes) 0) k (Err left)
      unfolding Finds
      search_none z = found_none passes round again (product sizes / round) (product sizes) k all_rounds.0 all_rounds.1 left m none_first is_m z

      pub search_past : 0 < m → (n : ℕ) → n ≡ product sizes / round → n ≤ k / m → Finds (places passes (product sizes) 0) k (Err (k - m * n))
      unfolding Finds
      search_past pos n is_n h = found_past passes round again n (product sizes) k (all_rounds.0 ∙ ap (λ (y : ℕ). y * round) (sym is_n)) (subst (λ (y : ℕ). 0 < y) (sym is_n) all_rounds.1) left m none_first is_m pos h

      pub search_later : 0 < m → (n : ℕ) → n ≡ product sizes / round → k / m < n → (o : Result ℕ ℕ) → Finds (places passes round 0) (k % m) o → MatchResult o (λ y. Finds (places passes (product sizes) 0) k (Ok (k / m * round + y))) (λ left'. ⊥)
      unfolding Finds
      search_later pos n is_n h = found_later passes round again n (product sizes) k (all_rounds.0 ∙ ap (λ (z : ℕ). z * round) (sym is_n)) (subst (λ (z : ℕ). 0 < z) (sym is_n) all_rounds.1) left m none_first is_m pos h
