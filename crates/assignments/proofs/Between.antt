-- A gap, sum variables that no condition names between some that conditions name: in a block of the variables before it, what passes for its first values passes for all its values.
use mathlib.Core.Path.{◌≡◌, refl, sym, ◌∙◌, ap, ap₂, subst}
use mathlib.Core.List.{List, ◌++◌, map}
use mathlib.Core.Bool.{Bool, true, false}
use mathlib.Core.Option.{some}
use Prim.Native.Nat.{ℕ, suc, ◌+◌, ◌-◌, ◌*◌, ◌/◌, ◌%◌, ◌≤◌, ◌<◌}
use native.Mathlib.Nat.{add-mod_left, mod-eq_of_lt, mod-lt, mod-le, div-add-mod', mul_comm, mul-add-div_right, div-eq_of_lt, div-lt_iff_lt-mul, le-div_iff_mul-le, div-mul-le_self, le_of_lt, lt_of_mul-lt-mul_right, mul-le-mul_right}
use native.Mathlib.Omega.{arith}
use lib.Dec.{eqb, ltb}
use lib.ListN.{length, get_or, get_elem?, drop, length-append, length-map}
use borrow.Author.Tests.{ltb-true, ltb-false}
use Rattle.laws.specs.Lists.{some_append}
use Rattle.evaluation.specs.Run.{top}
use Rattle.evaluation.proofs.Bytes.{run_past}
use Rattle.assignments.specs.Places.{product, digits_of, places}
use Rattle.std.specs.Prelude.{Result, Ok, Err, MatchResult}
use Rattle.assignments.specs.Conditions.{env, code, Finds}
use Rattle.assignments.specs.Parting.{asked, part_met, Gapped}
use Rattle.assignments.proofs.Passing.{Going}
use Rattle.assignments.proofs.Blocks.{product_pos, multiple, same_values, env_same, all_same, asked_same}
use Rattle.assignments.proofs.Periods.{map_some, behind_some, places_append, places_later, periods_length, periods_at, later_values}
use Rattle.assignments.proofs.TwoTests.{map_from, same_places}

-- WHAT STAYS BELOW WHAT, FOR ANY NUMBERS

pub rounds_pos : (w b : ℕ) → 0 < b → b ≤ w → 0 < w / b
rounds_pos w b pos h = (le-div_iff_mul-le {x = 1} pos).1 (omega arith)

later_few : (n left m : ℕ) → 0 < n → left / n < m → left / m < n
later_few n left m pos h = (div-lt_iff_lt-mul {k = m} (omega arith)).1 (subst (λ (y : ℕ). left < y) (mul_comm m n) ((div-lt_iff_lt-mul pos).0 h))

pub later_below : (w b left m : ℕ) → 0 < b → b ≤ w → left / (w / b) < m → left / m * b ≤ w
later_below w b left m pos k h = let l = later_few (w / b) left m (rounds_pos w b pos k) h in omega (arith, mul-le-mul_right b (le_of_lt l), div-mul-le_self w b)

pub past_below : (n left m : ℕ) → 0 < n → m ≤ left / n → m * n ≤ left
past_below n left m pos h = (le-div_iff_mul-le pos).0 h

-- A BLOCK AFTER ANOTHER

module _ (acc : ℕ → Bool) (total from k j left w : ℕ) (fits : j + w ≤ total) (so_far : Going acc total from k j left) where
  parted_at : places acc (total - j) j ≡ places acc w j ++ places acc (total - (j + w)) (j + w)
  parted_at = let z : total - j ≡ w + (total - (j + w)) = omega arith in ap (λ (x : ℕ). places acc x j) z ∙ places_append acc w (total - (j + w)) j

  pub going_by : (left' : ℕ) → left ≡ left' + length (places acc w j) → Going acc total from k (j + w) left'
  unfolding Going
  going_by left' e =
      let z : left ≡ length (places acc w j) + left' = omega arith in (
        so_far.0 ∙ ap₂ get_elem? parted_at z ∙ behind_some (places acc w j) (places acc (total - (j + w)) (j + w)) left',
        omega (arith, so_far.1, ap length parted_at ∙ length-append (places acc w j) (places acc (total - (j + w)) (j + w))),
      )

  pub going_in : (at : ℕ) → get_elem? (places acc w j) left ≡ some at → get_elem? (places acc (total - from) from) k ≡ some at
  unfolding Going
  going_in at e = so_far.0 ∙ ap (λ (l : List ℕ). get_elem? l left) parted_at ∙ some_append (places acc w j) (places acc (total - (j + w)) (j + w)) left at e

-- ONE BLOCK OF n ROUNDS

module _ (acc : ℕ → Bool) (j b n w : ℕ) (whole : w ≡ n * b) (some_round : 0 < n) (same : (i : ℕ) → i < w → acc (j + i) ≡ acc (j + i % b)) where
  abbrev here : ℕ → Bool
  here i = acc (j + i % b)

  here_again : (i : ℕ) → here (b + i) ≡ here i
  here_again i = ap (λ (x : ℕ). acc (j + x)) (add-mod_left b i)

  from_here : (m : ℕ) → ((i : ℕ) → i < m → acc (j + i) ≡ here i) → places acc m j ≡ map (λ x. j + x) (places here m 0)
  from_here m h =
      let z : j ≡ j + 0 = omega arith in
      ap (places acc m) z ∙ places_later acc j m 0 ∙ ap (map (λ x. j + x)) (same_places (λ i. acc (j + i)) here m 0 (λ i k. h i (omega arith)))

  all_here : places acc w j ≡ map (λ x. j + x) (places here w 0)
  all_here = from_here w same

  one_here : places acc b j ≡ map (λ x. j + x) (places here b 0)
  one_here = from_here b (λ i h. ap (λ (x : ℕ). acc (j + x)) (sym (mod-eq_of_lt h)))

  one_length : length (places acc b j) ≡ length (places here b 0)
  one_length = ap length one_here ∙ length-map (places here b 0) (λ x. j + x)

  block_length : length (places acc w j) ≡ n * length (places acc b j)
  block_length =
      ap length all_here ∙ length-map (places here w 0) (λ x. j + x) ∙ ap (λ (x : ℕ). length (places here x 0)) whole ∙ periods_length here b here_again n ∙ ap (λ (x : ℕ). n * x) (sym one_length)

  block_at : (t r a : ℕ) → t < n → get_elem? (places acc b j) r ≡ some a → get_elem? (places acc w j) (t * length (places acc b j) + r) ≡ some (t * b + a)
  block_at t r a h e =
      let (a', f, g) = map_from (λ x. j + x) (places here b 0) r a (ap (λ (l : List ℕ). get_elem? l r) (sym one_here) ∙ e) in
      let z : j + (t * b + a') ≡ t * b + a = omega arith in
      ap₂ get_elem? all_here (ap (λ (x : ℕ). t * x + r) one_length) ∙ map_some (λ x. j + x) (places here w 0) (t * length (places here b 0) + r) (t * b + a') (ap (λ (x : ℕ). get_elem? (places here x 0) (t * length (places here b 0) + r)) whole ∙ periods_at here b here_again n t r a' h f) ∙ ap some z

  -- what is found in its first round, and how many are there, says what is found in the block
  module _ (total from k left : ℕ) (fits : j + w ≤ total) (so_far : Going acc total from k j left) where
    one_round : (i : ℕ) (o : Result ℕ ℕ) → Finds (places acc (j + b - j) j) i o → Finds (places acc b j) i o
    one_round i o = let z : j + b - j ≡ b = omega arith in subst (λ (m : ℕ). Finds (places acc m j) i o) z

    pub around_first : (at : ℕ) → Finds (places acc (j + b - j) j) left (Ok at) → Finds (places acc (total - from) from) k (Ok at)
    unfolding Finds
    around_first at first =
        let f : get_elem? (places acc b j) left ≡ some at = one_round left (Ok at) first in
        let z : left ≡ 0 * length (places acc b j) + left = omega arith in
        let y : 0 * b + at ≡ at = omega arith in
        going_in acc total from k j left w fits so_far at (ap (get_elem? (places acc w j)) z ∙ block_at 0 left at some_round f ∙ ap some y)

    module _ (left₁ : ℕ) (first : Finds (places acc (j + b - j) j) left (Err left₁)) (m : ℕ) (is_m : m ≡ left - left₁) where
      counted : left ≡ left₁ + length (places acc b j)
      unfolding Finds
      counted = one_round left (Err left₁) first

      m_is : m ≡ length (places acc b j)
      m_is = let z = counted in omega arith

      pub around_later : left / n < m → (o : Result ℕ ℕ) → Finds (places acc (j + b - j) j) (left % m) o → MatchResult o (λ at₂. Finds (places acc (total - from) from) k (Ok (left / m * b + at₂))) (λ left₂. ⊥)
      unfolding Finds
      around_later h o f = go o (one_round (left % m) o f)
        where
          pos : 0 < m
          pos = omega arith

          few : left / m < n
          few = later_few n left m some_round h

          go : (o : Result ℕ ℕ) → Finds (places acc b j) (left % m) o → MatchResult o (λ at₂. Finds (places acc (total - from) from) k (Ok (left / m * b + at₂))) (λ left₂. ⊥)
          go (Err left₂) g = absurd (omega (arith, mod-lt left {m = m} pos, m_is))
          go (Ok at₂) g =
              let z : left ≡ left / m * length (places acc b j) + left % m = sym (div-add-mod' left m) ∙ ap (λ (y : ℕ). left / m * y + left % m) m_is in
              going_in acc total from k j left w fits so_far (left / m * b + at₂) (ap (get_elem? (places acc w j)) z ∙ block_at (left / m) (left % m) at₂ few g)

      pub around_past : m ≤ left / n → Going acc total from k (j + w) (left - m * n)
      around_past h =
          let l = past_below n left m some_round h in
          let z : length (places acc w j) ≡ m * n = block_length ∙ ap (λ (y : ℕ). n * y) (sym m_is) ∙ mul_comm n m in
          going_by acc total from k j left w fits so_far (left - m * n) (omega arith)

-- CONDITIONS SAY THE SAME ON BOTH SIDES OF A GAP

module _ (s funcs froms ends blocks : List ℕ) (count p : ℕ) (sizes a : List ℕ) (few : p ≤ length a) (positive : (i : ℕ) → i < length sizes → 0 < get_or sizes i 0) (total before behind : ℕ) (gapped : Gapped s p sizes froms ends blocks count total before behind) where
  abbrev pub passes : ℕ → Bool
  passes j = part_met s funcs froms ends blocks count (env p a (digits_of sizes j))

  before_pos : 0 < before
  before_pos = subst (λ (x : ℕ). 0 < x) (sym gapped.before_is) (product_pos gapped.level sizes positive)

  in_turn : (t i : ℕ) → i < before → (t * before + i) / before ≡ t
  in_turn t i h = mul-add-div_right before_pos t i ∙ ap (λ (x : ℕ). t + x) (div-eq_of_lt h) ∙ omega arith

  -- the values of all variables but those in the gap
  beside : (t i v : ℕ) → i < before → (p + gapped.level ≤ v → gapped.low ≤ v) → get_or (env p a (digits_of sizes (t * before + i))) v 0 ≡ get_or (env p a (digits_of sizes (t * before + i % behind))) v 0
  beside t i v h k = env_same p a (digits_of sizes (t * before + i)) (digits_of sizes (t * before + i % behind)) few v (λ x. go x (ltb v (p + gapped.level)) refl)
    where
      go : p ≤ v → (c : Bool) → ltb v (p + gapped.level) ≡ c → get_or (digits_of sizes (t * before + i)) (v - p) 0 ≡ get_or (digits_of sizes (t * before + i % behind)) (v - p) 0
      go x true r =
          let l = ltb-true v (p + gapped.level) r in
          let e : (t * before + i) / before ≡ (t * before + i % behind) / before = in_turn t i h ∙ sym (in_turn t (i % behind) (let y = mod-le i (behind) in omega arith)) in
          same_values gapped.level sizes (t * before + i) (t * before + i % behind) (subst (λ (y : ℕ). (t * before + i) / y ≡ (t * before + i % behind) / y) gapped.before_is e) (v - p) (omega arith)
      go x false r =
          let l = k (ltb-false v (p + gapped.level) r) in
          let e : t * before + i ≡ i / behind * behind + (t * before + i % behind) = let y = div-add-mod' i (behind) in omega arith in
          ap (λ (y : ℕ). get_or (digits_of sizes y) (v - p) 0) (e ∙ ap (λ (y : ℕ). i / behind * y + (t * before + i % behind)) gapped.behind_is) ∙ later_values (gapped.low - p) sizes (i / behind) (t * before + i % behind) positive (v - p) (omega arith)

  beside_met : (t i : ℕ) → i < before → passes (t * before + i) ≡ passes (t * before + i % behind)
  beside_met t i h =
      let e : List ℕ = env p a (digits_of sizes (t * before + i)) in
      let f : List ℕ = env p a (digits_of sizes (t * before + i % behind)) in
      all_same count (asked s funcs froms ends blocks e) (asked s funcs froms ends blocks f) (λ m k.
      asked_same s funcs froms ends blocks e f m (λ o.
      let r = gapped.unnamed m k o in
      ap (λ (l : List ℕ). eqb (top l) (get_or s (get_or froms m 0) 0)) (run_past s funcs e f (p + gapped.level) (code s (get_or froms m 0) (get_or ends m 0)) (λ v w. beside t i v h (λ x. let y = w x in omega arith)))))

  -- what holds at each turn of the search
  abbrev pub Turn : ℕ → ℕ → ℕ → Type 0
  Turn k j left = (t : ℕ) × (j ≡ t * before) × Going passes total 0 k j left

  module _ (m : ℕ) (is_total : total ≡ product (drop m sizes)) (k j left : ℕ) (turn : Turn k j left) (inside : j < total) where
    pub turn_same : (i : ℕ) → i < before → passes (j + i) ≡ passes (j + i % behind)
    turn_same i h = let (t, e, w) = turn in subst (λ (x : ℕ). passes (x + i) ≡ passes (x + i % behind)) (sym e) (beside_met t i h)

    pub turn_fits : j + before ≤ total
    turn_fits =
        let (t, e, w) = turn in
        let z : total ≡ total / before * before = subst (λ (x : ℕ). total ≡ total / x * x) (sym gapped.before_is) (subst (λ (x : ℕ). x ≡ x / product (drop gapped.level sizes) * product (drop gapped.level sizes)) (sym is_total) (multiple gapped.level m sizes positive (subst (λ (x : ℕ). product (drop gapped.level sizes) ≤ x) is_total (subst (λ (x : ℕ). x ≤ total) gapped.before_is gapped.within)))) in
        let l : t < total / before = lt_of_mul-lt-mul_right (before) (omega arith) in
        let y : suc t * before ≡ t * before + before = omega arith in
        omega (arith, mul-le-mul_right (before) l)

    pub turn_whole : before ≡ before / behind * behind
    turn_whole =
        subst (λ (x : ℕ). before ≡ before / x * x) (sym gapped.behind_is) (subst (λ (x : ℕ). x ≡ x / product (drop (gapped.low - p) sizes) * product (drop (gapped.low - p) sizes)) (sym gapped.before_is) (multiple (gapped.low - p) gapped.level sizes positive (subst (λ (x : ℕ). product (drop (gapped.low - p) sizes) ≤ x) gapped.before_is (subst (λ (x : ℕ). x ≤ before) gapped.behind_is gapped.smaller))))

    pub turn_next : (left' : ℕ) → Going passes total 0 k (j + before) left' → Turn k (j + before) left'
    turn_next left' w = let (t, e, v) = turn in (suc t, let y : suc t * before ≡ t * before + before = omega arith in omega arith, w)
