-- A row of blocks: what the conditions say in the block of a lane.
use mathlib.Core.Path.{◌≡◌, refl, sym, ◌∙◌, ap, ap₂, subst}
use mathlib.Core.List.{List, [], ◌∷◌}
use mathlib.Core.Bool.{Bool, true, false}
use mathlib.Core.Option.{some}
use Prim.Native.Nat.{ℕ, zero, suc, ◌+◌, ◌-◌, ◌*◌, ◌/◌, ◌%◌, ◌≤◌, ◌<◌}
use native.Mathlib.Nat.{div-eq_of_lt-le, div-mul-le_self, div-add-mod', mul-add-mod_self_right, mul_assoc, mul-le-mul, mul-div_left, mod-eq_of_lt}
use native.Mathlib.Numerals.{add-one}
use native.Mathlib.Omega.{arith}
use lib.Dec.{eqb, ltb}
use lib.ListN.{length, get_or, get_elem?, drop, set, length-set, replicate, length-replicate}
use lib.Seq.{set-set, get_or-set_same, get_or-set_other, drop-cons}
use borrow.Author.Tests.{ltb-true, ltb-false, lt-ltb, le-ltb, eqb-true, eqb-false}
use Rattle.pcrl.specs.Tests.{and}
use Rattle.evaluation.specs.Run.{pick, peak}
use Rattle.evaluation.specs.Known.{Alike}
use Rattle.assignments.specs.Places.{product, digits_of, places, Sizes}
use Rattle.std.specs.Prelude.{Result, Ok, Err, MatchResult}
use Rattle.assignments.specs.Conditions.{env, code, all_below, Tested, Finds}
use Rattle.assignments.specs.Parting.{asked, part_met, Part}
use Rattle.evaluation.specs.Rows.{lane_env}
use Rattle.assignments.specs.Lanes.{inner, Sifted, RowMet, Strip, Lent, Rowed, Came}
use Rattle.assignments.specs.declared.Reached.{Reached}
use Rattle.assignments.proofs.Blocks.{product_pos, coarser, finer, in_block, env_same, split_at, all_same, asked_same, same_on, in_grain}
use Rattle.assignments.proofs.Periods.{around}
use Rattle.assignments.proofs.Passing.{Going, going_start, going_skip, going_on, going_found, none_left}
use Rattle.assignments.proofs.Between.{going_by, going_in}

-- VALUES IN A ROW

pub product_at : (l : ℕ) (s : List ℕ) → l < length s → product (drop l s) ≡ get_or s l 0 * product (drop (l + 1) s)
product_at l s h = rw (drop-cons s l 0 h, add-one l) refl

values_length : (s : List ℕ) (j : ℕ) → length (digits_of s j) ≡ length s
values_length [] j = refl
values_length (n ∷ s) j = ap suc (values_length s j)

-- the blocks of a row's lanes are in the row
pub lane_below : (i size g w : ℕ) → i < size → w ≡ size * g → i * g + g ≤ w
lane_below i size g w h e = let m : suc i * g ≤ size * g = mul-le-mul h (let z : g ≤ g = omega arith in z) in omega arith

-- a row begins at q: in it, the values change at one level
row_values : (l : ℕ) (s : List ℕ) (q i : ℕ) → ((v : ℕ) → v < length s → 0 < get_or s v 0) → l < length s → i < get_or s l 0
    → digits_of s (q * product (drop l s) + i * product (drop (suc l) s)) ≡ set (digits_of s (q * product (drop l s))) l i
row_values l [] q i pos h k = absurd (omega arith)
row_values zero (n ∷ s) q i pos h k = ap₂ (λ (x : ℕ) (l : List ℕ). x ∷ l) head tail
  where
    P : ℕ
    P = product s

    pos_P : 0 < product s
    pos_P = product_pos 0 s (λ v z. pos (suc v) (omega arith))

    head : (q * (n * product s) + i * product s) / product s % n ≡ i
    head =
        let z : q * (n * product s) + i * product s ≡ (q * n + i) * product s = omega (arith, mul_assoc q n (product s)) in
        ap (λ (x : ℕ). x / product s % n) z ∙ ap (λ (x : ℕ). x % n) (mul-div_left (q * n + i) pos_P) ∙ mul-add-mod_self_right q n i ∙ mod-eq_of_lt k

    tail : digits_of s (q * (n * product s) + i * product s) ≡ digits_of s (q * (n * product s))
    tail =
        let z : q * (n * product s) + i * product s ≡ i * product s + q * (n * product s) = omega arith in
        ap (digits_of s) z ∙ around s i (q * (n * product s)) (λ v z. pos (suc v) (omega arith))
row_values (suc l) (n ∷ s) q i pos h k = ap₂ (λ (x : ℕ) (l : List ℕ). x ∷ l) head (row_values l s q i (λ v z. pos (suc v) (omega arith)) (omega arith) k)
  where
    pos_W : 0 < product (drop l s)
    pos_W = product_pos l s (λ v z. pos (suc v) (omega arith))

    pos_G : 0 < product (drop (suc l) s)
    pos_G = product_pos (suc l) s (λ v z. pos (suc v) (omega arith))

    same : (q * product (drop l s) + i * product (drop (suc l) s)) / product (drop l s) ≡ q * product (drop l s) / product (drop l s)
    same =
        let e : product (drop l s) ≡ get_or s l 0 * product (drop (suc l) s) = product_at l s (omega arith) ∙ ap (λ (x : ℕ). get_or s l 0 * product (drop x s)) (add-one l) in
        let b = lane_below i (get_or s l 0) (product (drop (suc l) s)) (product (drop l s)) k e in
        let d : q * product (drop l s) / product (drop l s) ≡ q = mul-div_left q pos_W in
        let m : (q * product (drop l s) / product (drop l s) + 1) * product (drop l s) ≡ q * product (drop l s) + product (drop l s) = ap (λ (x : ℕ). (x + 1) * product (drop l s)) d ∙ omega arith in
        in_block (q * product (drop l s)) (product (drop l s)) (q * product (drop l s) + i * product (drop (suc l) s)) pos_W (omega arith) (omega (arith, pos_G))

    head : (q * product (drop l s) + i * product (drop (suc l) s)) / product s % n ≡ q * product (drop l s) / product s % n
    head = ap (λ (x : ℕ). x % n) (coarser l s (q * product (drop l s) + i * product (drop (suc l) s)) (q * product (drop l s)) same)

-- the same by the numbers of the row's and its blocks' assignments
row_at : (l : ℕ) (s : List ℕ) (q i : ℕ) → ((v : ℕ) → v < length s → 0 < get_or s v 0) → l < length s → i < get_or s l 0 → (w g x y : ℕ) → w ≡ product (drop l s) → g ≡ product (drop (l + 1) s) → x ≡ q * w + i * g → y ≡ q * w → digits_of s x ≡ set (digits_of s y) l i
row_at l s q i pos h k w g x y is_w is_g is_x is_y =
    let e : x ≡ q * product (drop l s) + i * product (drop (suc l) s) = is_x ∙ ap₂ (λ (a b : ℕ). q * a + i * b) is_w (is_g ∙ ap (λ (m : ℕ). product (drop m s)) (add-one l)) in
    let o : y ≡ q * product (drop l s) = is_y ∙ ap (λ (a : ℕ). q * a) is_w in
    ap (digits_of s) e ∙ row_values l s q i pos h k ∙ ap (λ (v : ℕ). set (digits_of s v) l i) (sym o)

value_at : (u : ℕ) (s : List ℕ) (j : ℕ) → u < length s → get_or (digits_of s j) u 0 ≡ j / product (drop (suc u) s) % get_or s u 0
value_at u [] j h = absurd (omega arith)
value_at zero (n ∷ s) j h = refl
value_at (suc u) (n ∷ s) j h = value_at u s j (omega arith)

-- a value put in an environment and in the values that it is made of
env_set : (p : ℕ) (a w f : List ℕ) → p ≤ length a → Alike f (env p a w) → (l x : ℕ) → p + l < length f → l < length w → Alike (set f (p + l) x) (env p a (set w l x))
env_set p a w f few alike l x h k v = go (eqb v (p + l)) refl
  where
    go : (t : Bool) → eqb v (p + l) ≡ t → get_or (set f (p + l) x) v 0 ≡ get_or (env p a (set w l x)) v 0
    go true q =
        let e : v ≡ p + l = eqb-true v (p + l) q in
        let z : v - p ≡ l = omega arith in
        ap (λ (y : ℕ). get_or (set f (p + l) x) y 0) e ∙ get_or-set_same f (p + l) x 0 h ∙ sym (get_or-set_same w l x 0 k) ∙ ap (λ (y : ℕ). get_or (set w l x) y 0) (sym z) ∙ sym (split_at p a (set w l x) few v (omega arith))
    go false q =
        let e : v ≡ p + l → ⊥ = eqb-false v (p + l) q in
        get_or-set_other f (p + l) v x 0 e ∙ alike v ∙ sym (env_same p a (set w l x) w few v (λ y. get_or-set_other w l (v - p) x 0 (λ z. e (omega arith))))

-- WHAT THE CONDITIONS SAY IN A LANE

module _ (s funcs froms ends blocks : List ℕ) (n p g : ℕ) (sizes a : List ℕ) (few : p ≤ length a) (positive : (i : ℕ) → i < length sizes → 0 < get_or sizes i 0) (part : (i : ℕ) → i < n → Part s p sizes froms ends blocks g i)
    (l u w : ℕ) (four : length sizes ≡ 4) (rowed : Rowed sizes l u g w) (f : List ℕ) (j : ℕ) (aligned : j % w ≡ 0) (alike : Alike f (env p a (digits_of sizes j))) (known : p + l < length f)
    (slow fast met : List ℕ) (first m lanes : ℕ) (strip : Strip (get_or sizes l 0) first lanes slow fast met) (is_lanes : lanes ≡ m * get_or sizes l 0) (is_first : first ≡ get_or f (p + u) 0) (fits : first + m ≤ get_or sizes u 0) where
  abbrev size : ℕ
  size = get_or sizes l 0

  abbrev count : ℕ
  count = get_or sizes u 0

  -- assignments for all values at level u
  abbrev b : ℕ
  b = product (drop u sizes)

  -- rows before the strip's block
  abbrev Q : ℕ
  Q = j / w / count

  in_l : l < length sizes
  in_l = omega (arith, rowed.l_inside)

  in_u : u < length sizes
  in_u = omega (arith, rowed.l_inside, rowed.u_first)

  row_wide : w ≡ get_or sizes l 0 * g
  row_wide = rowed.row_is ∙ product_at l sizes in_l ∙ ap (λ (x : ℕ). get_or sizes l 0 * x) (sym rowed.grain_is)

  b_wide : product (drop u sizes) ≡ get_or sizes u 0 * w
  b_wide = product_at u sizes in_u ∙ ap (λ (x : ℕ). get_or sizes u 0 * x) (sym rowed.again_is)

  pos_w : 0 < w
  pos_w = subst (λ (x : ℕ). 0 < x) (sym rowed.row_is) (product_pos l sizes positive)

  pos_g : 0 < g
  pos_g = subst (λ (x : ℕ). 0 < x) (sym rowed.grain_is) (product_pos (l + 1) sizes positive)

  pos_b : 0 < product (drop u sizes)
  pos_b = product_pos u sizes positive

  begins : j ≡ j / w * w
  begins = omega (arith, div-add-mod' j w)

  first_is : first ≡ j / w % get_or sizes u 0
  first_is =
      let z : p + u - p ≡ u = omega arith in
      let y : product (drop (suc u) sizes) ≡ w = ap (λ (x : ℕ). product (drop x sizes)) (sym (add-one u)) ∙ sym rowed.again_is in
      is_first ∙ alike (p + u) ∙ split_at p a (digits_of sizes j) few (p + u) (omega arith) ∙ ap (λ (x : ℕ). get_or (digits_of sizes j) x 0) z ∙ value_at u sizes j in_u ∙ ap (λ (x : ℕ). j / x % get_or sizes u 0) y

  row_is_at : j / w ≡ j / w / get_or sizes u 0 * get_or sizes u 0 + first
  row_is_at = omega (arith, div-add-mod' (j / w) (get_or sizes u 0), first_is)

  -- rows behind the block's first one
  row_place : (q : ℕ) → (j / w + q) * w ≡ Q * b + (first + q) * w
  row_place q =
      let e : Q * b ≡ Q * count * w = ap (λ (x : ℕ). Q * x) b_wide ∙ sym (mul_assoc Q count w) in
      let o : j / w * w ≡ (Q * count + first) * w = ap (λ (x : ℕ). x * w) row_is_at in
      omega (arith, e, o)

  strip_values : (q c : ℕ) → first + q < get_or sizes u 0 → c < get_or sizes l 0 → digits_of sizes (j + (q * get_or sizes l 0 + c) * g) ≡ set (set (digits_of sizes j) u (first + q)) l c
  strip_values q c h k =
      let e : q * w ≡ q * get_or sizes l 0 * g = ap (λ (x : ℕ). q * x) row_wide ∙ sym (mul_assoc q (get_or sizes l 0) g) in
      let r₀ : first < get_or sizes u 0 = omega arith in
      let z : j ≡ Q * b + first * w = omega (arith, begins, row_place 0) in
      row_at l sizes (j / w + q) c positive in_l k w g (j + (q * get_or sizes l 0 + c) * g) ((j / w + q) * w) rowed.row_is rowed.grain_is (omega (arith, e, begins)) refl
      ∙ ap (λ (x : List ℕ). set x l c) (row_at u sizes Q (first + q) positive in_u h b w ((j / w + q) * w) (Q * b) refl rowed.again_is (row_place q) refl ∙ sym (set-set (digits_of sizes (Q * b)) u first (first + q)) ∙ ap (λ (x : List ℕ). set x u (first + q)) (sym (row_at u sizes Q first positive in_u r₀ b w j (Q * b) refl rowed.again_is z refl)))

  module _ (i : ℕ) (in_lanes : i < lanes) where
    abbrev row_of : ℕ
    row_of = get_or slow i 0 - first

    row_below : first + row_of < get_or sizes u 0
    row_below = go (ltb row_of m) refl
      where
        go : (t : Bool) → ltb row_of m ≡ t → first + row_of < get_or sizes u 0
        go true q = omega (arith, ltb-true row_of m q)
        go false q =
            let z : m * get_or sizes l 0 ≤ row_of * get_or sizes l 0 = mul-le-mul (ltb-false row_of m q) (let y : get_or sizes l 0 ≤ get_or sizes l 0 = omega arith in y) in
            absurd (omega (arith, z, strip.lane_is i in_lanes))

    lane_alike : Alike (lane_env f (p + u) (p + l) slow fast i) (env p a (digits_of sizes (j + i * g)))
    lane_alike v =
        let x : first + row_of ≡ get_or slow i 0 = omega (arith, strip.slow_least i in_lanes) in
        let y : j + i * g ≡ j + (row_of * get_or sizes l 0 + get_or fast i 0) * g = ap (λ (k : ℕ). j + k * g) (strip.lane_is i in_lanes) in
        let e = subst (λ (k : ℕ). digits_of sizes (j + (row_of * get_or sizes l 0 + get_or fast i 0) * g) ≡ set (set (digits_of sizes j) u k) l (get_or fast i 0)) x (strip_values row_of (get_or fast i 0) row_below (strip.fast_below i in_lanes)) in
        env_set p a (set (digits_of sizes j) u (get_or slow i 0)) (set f (p + u) (get_or slow i 0)) few (env_set p a (digits_of sizes j) f few alike u (get_or slow i 0) (omega (arith, rowed.u_first)) (omega (arith, values_length sizes j, in_u))) l (get_or fast i 0) (omega (arith, length-set f (p + u) (get_or slow i 0))) (omega (arith, length-set (digits_of sizes j) u (get_or slow i 0), values_length sizes j, in_l)) v
        ∙ ap (λ (k : List ℕ). get_or (env p a k) v 0) (sym (ap (digits_of sizes) y ∙ e))

    module _ (x : ℕ) (from_lane : j + i * g ≤ x) (before_next : x < j + i * g + g) where
      in_lane : x / g ≡ (j + i * g) / g
      in_lane =
          let o : j / w * w ≡ j / w * get_or sizes l 0 * g = ap (λ (y : ℕ). j / w * y) row_wide ∙ sym (mul_assoc (j / w) (get_or sizes l 0) g) in
          let e : j + i * g ≡ (j / w * get_or sizes l 0 + i) * g = omega (arith, begins, o) in
          let d : (j + i * g) / g ≡ j / w * get_or sizes l 0 + i = ap (λ (y : ℕ). y / g) e ∙ mul-div_left (j / w * get_or sizes l 0 + i) pos_g in
          let m : ((j + i * g) / g + 1) * g ≡ j + i * g + g = ap (λ (y : ℕ). (y + 1) * g) d ∙ omega (arith, e) in
          in_block (j + i * g) g x pos_g from_lane (omega (arith, m, before_next))

      in_b : x / product (drop u sizes) ≡ j / product (drop u sizes)
      in_b =
          let z : j ≡ Q * b + first * w = omega (arith, begins, row_place 0) in
          let e = lane_below i lanes g (lanes * g) in_lanes refl in
          let o : lanes * g ≡ m * w = ap (λ (k : ℕ). k * g) is_lanes ∙ mul_assoc m (get_or sizes l 0) g ∙ ap (λ (k : ℕ). m * k) (sym row_wide) in
          let t : (first + m) * w ≤ get_or sizes u 0 * w = mul-le-mul fits (let k : w ≤ w = omega arith in k) in
          let c : x / b ≡ Q = div-eq_of_lt-le b (omega (arith, z, from_lane)) (omega (arith, z, e, o, t, b_wide, before_next)) in
          let d : j / b ≡ Q = div-eq_of_lt-le b (omega (arith, z)) (omega (arith, z, e, o, t, b_wide, from_lane, before_next)) in
          c ∙ sym d

      pub row_says : (w₂ : ℕ) → w₂ ≡ product (drop u sizes) → (d : ℕ) → Tested (asked s funcs froms ends blocks f) blocks (w₂ - 1) n d → d < w₂
          → part_met s funcs froms ends blocks n (env p a (digits_of sizes x)) ≡ all_below n (inner s funcs froms ends blocks w₂ (lane_env f (p + u) (p + l) slow fast i))
      row_says w₂ is_b d t small = all_same n (asked s funcs froms ends blocks (env p a (digits_of sizes x))) (inner s funcs froms ends blocks w₂ (lane_env f (p + u) (p + l) slow fast i)) (λ m k. go m k (ltb (get_or blocks m 0) w₂) refl)
        where
          e₀ : List ℕ
          e₀ = lane_env f (p + u) (p + l) slow fast i

          pos_w₂ : 0 < w₂
          pos_w₂ = omega (arith, pos_b, is_b)

          go : (m : ℕ) → m < n → (b : Bool) → ltb (get_or blocks m 0) w₂ ≡ b → asked s funcs froms ends blocks (env p a (digits_of sizes x)) m ≡ pick b (asked s funcs froms ends blocks (lane_env f (p + u) (p + l) slow fast i) m) true
          go m k true q = in_grain s funcs froms ends blocks n p g sizes a few positive part (l + 1) rowed.grain_is (lane_env f (p + u) (p + l) slow fast i) (j + i * g) lane_alike x in_lane m k
          go m k false q =
              let o = ltb-false (get_or blocks m 0) w₂ q in
              let r = (part m k).block_is (omega (arith, pos_w₂)) in
              asked_same s funcs froms ends blocks (env p a (digits_of sizes x)) f m (λ z.
              same_on s funcs froms ends blocks n p g sizes a few positive part f j alike m x (finer u (peak (code s (get_or froms m 0) (get_or ends m 0)) - p) sizes positive (subst (λ (y : ℕ). y ≤ product (drop (peak (code s (get_or froms m 0) (get_or ends m 0)) - p) sizes)) is_b (subst (λ (y : ℕ). w₂ ≤ y) r o)) x j in_b))
              ∙ t.all_pass (omega (arith, t.no_less, pos_w₂)) m k (omega (arith, pos_w₂))

-- LANES SIFTED BY ONE CONDITION AFTER ANOTHER

pick_none : (b : Bool) (x : ℕ) → x ≡ 0 → x ≡ pick b x 0
pick_none true x e = refl
pick_none false x e = e

pub sift_none : (lanes : ℕ) (t : ℕ → Bool) (met : List ℕ) (left : Bool) → ((i : ℕ) → i < lanes → get_or met i 0 ≡ 0) → Sifted lanes t met met left
sift_none lanes t met left h = record { sifted = λ i k. pick_none (t i) (get_or met i 0) (h i k); none = λ e i k. h i k }

pub sift_all : (lanes : ℕ) (t : ℕ → Bool) (met : List ℕ) (left : Bool) → ((i : ℕ) → t i ≡ true) → (left ≡ false → (i : ℕ) → i < lanes → get_or met i 0 ≡ 0) → Sifted lanes t met met left
sift_all lanes t met left h z = record { sifted = λ i k. sym (ap (λ (b : Bool). pick b (get_or met i 0) 0) (h i)); none = z }

pub not_asked : (h : Bool) (block w : ℕ) → block ≡ 0 → pick (ltb block w) (pick (ltb 0 block) h true) true ≡ true
not_asked h block w e = rw (le-ltb 0 block (omega arith)) (go (ltb block w))
  where
    go : (b : Bool) → pick b true true ≡ true
    go true = refl
    go false = refl

pub not_inner : (h : Bool) (block w : ℕ) → w ≤ block → pick (ltb block w) (pick (ltb 0 block) h true) true ≡ true
not_inner h block w e = rw (le-ltb block w e) refl

pub is_inner : (h : Bool) (block w : ℕ) → 0 < block → block < w → h ≡ pick (ltb block w) (pick (ltb 0 block) h true) true
is_inner h block w e k = rw (lt-ltb block w k, lt-ltb 0 block e) refl

pub met_start : (lanes : ℕ) (t : ℕ → ℕ → Bool) (met : List ℕ) → ((i : ℕ) → i < lanes → get_or met i 0 ≡ 1) → RowMet lanes t 0 met true
unfolding all_below
met_start lanes t met h = record { each = h; none = λ e. absurd (let y : ◌≡◌ {A = ℕ} 0 1 = cc in omega arith) }

pub met_more : (lanes : ℕ) (t : ℕ → ℕ → Bool) (n : ℕ) (met met' : List ℕ) (left left' : Bool) → RowMet lanes t n met left → Sifted lanes (λ i. t i n) met met' left' → RowMet lanes t (n + 1) met' left'
unfolding all_below
met_more lanes t n met met' left left' r q = record { each = λ i h. rw (add-one n) (q.sifted i h ∙ ap (λ (x : ℕ). pick (t i n) x 0) (r.each i h) ∙ join (t i n) (all_below n (t i))); none = q.none }
  where
    join : (a b : Bool) → ◌≡◌ {A = ℕ} (pick a (pick b 1 0) 0) (pick (and a b) 1 0)
    join true b = refl
    join false b = refl

pub met_lane : (b : Bool) (x : ℕ) → x ≡ pick b 1 0 → b ≡ ltb 0 x
met_lane b x e = go b ∙ ap (ltb 0) (sym e)
  where
    go : (b : Bool) → b ≡ ltb 0 (pick b 1 0)
    go true = refl
    go false = refl

-- THE SEARCH IN A ROW, LANE BY LANE

module _ (lanes : List ℕ) (size g j k : ℕ) (acc : ℕ → Bool) (says : (i x : ℕ) → i < size → j + i * g ≤ x → x < j + i * g + g → acc x ≡ ltb 0 (get_or lanes i 0)) where
  abbrev pub Lane : ℕ → ℕ → Type 0
  Lane i left = Going acc (j + size * g) j k (j + i * g) left

  next_lane : (i : ℕ) → j + i * g + g ≡ j + (i + 1) * g
  next_lane i = omega arith

  below : (i : ℕ) → i < size → j + i * g + g ≤ j + size * g
  below i h = omega (arith, lane_below i size g (size * g) h refl)

  whole : j + size * g - j ≡ size * g
  whole = omega arith

  pub lane_start : Lane 0 k
  lane_start = let z : j ≡ j + 0 * g = omega arith in subst (λ (x : ℕ). Going acc (j + size * g) j k x k) z (going_start acc (j + size * g) j k)

  pub lane_none : (i left : ℕ) → i < size → get_or lanes i 0 ≡ 0 → Lane i left → Lane (i + 1) left
  lane_none i left h e w =
      subst (λ (x : ℕ). Going acc (j + size * g) j k x left) (next_lane i) (going_skip acc (j + size * g) j k (j + i * g) left (j + i * g + g) (omega arith) (λ x u v. says i x h u v ∙ le-ltb 0 (get_or lanes i 0) (omega arith)) w)

  pub lane_some : (i left : ℕ) → i < size → (get_or lanes i 0 ≡ 0 → ⊥) → g ≤ left → Lane i left → Lane (i + 1) (left - g)
  lane_some i left h e l w =
      subst (λ (x : ℕ). Going acc (j + size * g) j k x (left - g)) (next_lane i) (going_on acc (j + size * g) j k (j + i * g) left (j + i * g + g) (left - g) (omega arith) (below i h) (λ x u v. says i x h u v ∙ lt-ltb 0 (get_or lanes i 0) (positive e)) (omega arith) (omega arith) w)
    where
      positive : (get_or lanes i 0 ≡ 0 → ⊥) → 0 < get_or lanes i 0
      positive e = omega arith

  pub lane_found : (i left at : ℕ) → i < size → (get_or lanes i 0 ≡ 0 → ⊥) → left < g → at ≡ j + i * g + left → Lane i left → Finds (places acc (size * g) j) k (Ok at)
  unfolding Finds
  lane_found i left at h e l q w =
      subst (λ (y : ℕ). get_elem? (places acc y j) k ≡ some at) whole (going_found acc (j + size * g) j k (j + i * g) left (j + i * g + g) at (omega arith) (below i h) (λ x u v. says i x h u v ∙ lt-ltb 0 (get_or lanes i 0) (positive e)) (omega arith) q w)
    where
      positive : (get_or lanes i 0 ≡ 0 → ⊥) → 0 < get_or lanes i 0
      positive e = omega arith

  pub lane_end : (i left : ℕ) → i ≡ size → Lane i left → Finds (places acc (size * g) j) k (Err left)
  lane_end i left e w = subst (λ (y : ℕ). Finds (places acc y j) k (Err left)) whole (none_left acc (j + size * g) j k (j + i * g) left (let z : j + i * g ≡ j + size * g = ap (λ (y : ℕ). j + y * g) e in omega arith) w)

-- A ROW AFTER ANOTHER

module _ (acc : ℕ → Bool) (total from k : ℕ) where
  pub came_to : (r : Reached) → Going acc total from k r.at r.left → Came acc total from k (Err r)
  unfolding Came Going
  came_to r w = w

  pub going_from : (r : Reached) → Came acc total from k (Err r) → Going acc total from k r.at r.left
  unfolding Came Going
  going_from r w = w

  module _ (j left w : ℕ) (fits : j + w ≤ total) (so_far : Going acc total from k j left) where
    pub row_found : (at : ℕ) → Finds (places acc w j) left (Ok at) → Came acc total from k (Ok at)
    unfolding Finds Came
    row_found at f = going_in acc total from k j left w fits so_far at f

    pub row_past : (left' : ℕ) → Finds (places acc w j) left (Err left') → Going acc total from k (j + w) left'
    unfolding Finds
    row_past left' f = going_by acc total from k j left w fits so_far left' f

-- a strip is not long
pub row_small : (size g : ℕ) → size ≤ 128 → g ≤ 65536 → size * g ≤ 8388608
row_small size g h k = let m : size * g ≤ 128 * 65536 = mul-le-mul h k in omega arith

-- THE SEARCH GOES ON BY ROWS

module _ (acc : ℕ → Bool) (total from k j left : ℕ) (so_far : Going acc total from k j left) where
  pub rows_found : (at : ℕ) → Came acc total j left (Ok at) → Finds (places acc (total - from) from) k (Ok at)
  unfolding Going Came Finds
  rows_found at c = so_far.0 ∙ c

  pub rows_past : (r : Reached) → Came acc total j left (Err r) → Going acc total from k r.at r.left
  unfolding Going
  rows_past r came =
      let c = going_from acc total j left r came in
      (so_far.0 ∙ c.0, omega (arith, so_far.1, c.1))

  -- what the search finds from there on, or how far it comes
  pub came_then : (o : Result ℕ Reached) → Came acc total j left o → Came acc total from k o
  unfolding Going Came
  came_then (Ok at) c = so_far.0 ∙ c
  came_then (Err r) c = came_to acc total from k r (rows_past r c)

-- LANES OF A STRIP

pub strip_none : (size first : ℕ) (slow fast met : List ℕ) → Strip size first 0 slow fast met
strip_none size first slow fast met = record { slow_least = λ i h. absurd (omega arith); fast_below = λ i h. absurd (omega arith); lane_is = λ i h. absurd (omega arith); all_kept = λ i h. absurd (omega arith) }

below_set : (P : ℕ → ℕ → Type 0) (n : ℕ) (l : List ℕ) (x : ℕ) → n < length l → ((i : ℕ) → i < n → P i (get_or l i 0)) → P n x → (i : ℕ) → i < n + 1 → P i (get_or (set l n x) i 0)
below_set P n l x h p q i k = go (ltb i n) refl
  where
    go : (t : Bool) → ltb i n ≡ t → P i (get_or (set l n x) i 0)
    go true r = let o = ltb-true i n r in subst (P i) (sym (get_or-set_other l n i x 0 (λ y. omega arith))) (p i o)
    go false r =
        let o = ltb-false i n r in
        let z : n ≡ i = omega arith in
        subst (λ (m : ℕ). P m (get_or (set l n x) m 0)) z (subst (P n) (sym (get_or-set_same l n x 0 h)) q)

pub strip_more : (size first n : ℕ) (slow fast met : List ℕ) (x y : ℕ) → n < length slow → n < length fast → n < length met → first ≤ x → y < size → n ≡ (x - first) * size + y → Strip size first n slow fast met → Strip size first (n + 1) (set slow n x) (set fast n y) (set met n 1)
strip_more size first n slow fast met x y hs hf hm least below is_n t =
    record {
      slow_least = below_set (λ i v. first ≤ v) n slow x hs t.slow_least least;
      fast_below = below_set (λ i v. v < size) n fast y hf t.fast_below below;
      lane_is = λ i k. pair i (ltb i n) refl k;
      all_kept = below_set (λ i v. v ≡ 1) n met 1 hm t.all_kept refl;
    }
  where
    pair : (i : ℕ) (b : Bool) → ltb i n ≡ b → i < n + 1 → i ≡ (get_or (set slow n x) i 0 - first) * size + get_or (set fast n y) i 0
    pair i true r k =
        let o = ltb-true i n r in
        t.lane_is i o ∙ ap₂ (λ (v z : ℕ). (v - first) * size + z) (sym (get_or-set_other slow n i x 0 (λ q. omega arith))) (sym (get_or-set_other fast n i y 0 (λ q. omega arith)))
    pair i false r k =
        let o = ltb-false i n r in
        let z : i ≡ n = omega arith in
        rw z (is_n ∙ ap₂ (λ (v z : ℕ). (v - first) * size + z) (sym (get_or-set_same slow n x 0 hs)) (sym (get_or-set_same fast n y 0 hf)))

-- the next lane, in the same row or in the next one
pub next_row : (size first n x y : ℕ) → first ≤ x → n ≡ (x - first) * size + y → y + 1 ≡ size → n + 1 ≡ (x + 1 - first) * size + 0
next_row size first n x y h e k = let z : x + 1 - first ≡ suc (x - first) = omega arith in let o : (x + 1 - first) * size ≡ suc (x - first) * size = ap (λ (m : ℕ). m * size) z in omega arith

pub few_rows : (a m size : ℕ) → m ≤ a / size → a ≤ 128 → m * size ≤ 128
few_rows a m size h k = let z : m * size ≤ a / size * size = mul-le-mul h (let y : size ≤ size = omega arith in y) in omega (arith, div-mul-le_self a size)

-- as much room as before
pub lent_again : (rows marks slow fast met rows' marks' slow' fast' met' : List ℕ) → length rows' ≡ length rows → length marks' ≡ length marks → length slow' ≡ length slow → length fast' ≡ length fast → length met' ≡ length met → Lent rows marks slow fast met → Lent rows' marks' slow' fast' met'
lent_again rows marks slow fast met rows' marks' slow' fast' met' a b c d e l = record { rows_long = omega (arith, l.rows_long); marks_long = omega (arith, l.marks_long); slow_long = omega (arith, l.slow_long); fast_long = omega (arith, l.fast_long); met_long = omega (arith, l.met_long) }

-- what is found in the w numbers from j on
pub came_lanes : (acc : ℕ → Bool) (total j k w : ℕ) → j + w ≤ total → (o : Result ℕ ℕ) → Finds (places acc w j) k o → MatchResult o (λ at. Came acc total j k (Ok at)) (λ left. Came acc total j k (Err (record { at = j + w; left = left })))
came_lanes acc total j k w fits (Ok at) f = row_found acc total j k j k w fits (going_start acc total j k) at f
came_lanes acc total j k w fits (Err left) f = came_to acc total j k (record { at = j + w; left = left }) (row_past acc total j k j k w fits (going_start acc total j k) left f)

module _ (sizes : List ℕ) (l u g w : ℕ) (rowed : Rowed sizes l u g w) (four : length sizes ≡ 4) (right : Sizes sizes) where
  pub all_positive : (i : ℕ) → i < length sizes → 0 < get_or sizes i 0
  all_positive i h = (right i (omega arith)).0

  pub row_pos : 0 < w
  row_pos = subst (λ (x : ℕ). 0 < x) (sym rowed.row_is) (product_pos l sizes all_positive)

  pub strip_pos : (b : ℕ) → b ≡ product (drop u sizes) → 0 < b
  strip_pos b e = subst (λ (x : ℕ). 0 < x) (sym e) (product_pos u sizes all_positive)

pub zero_room : Lent (replicate 2560 0) (replicate 20 0) (replicate 128 0) (replicate 128 0) (replicate 128 0)
zero_room = record { rows_long = omega (arith, length-replicate {A = ℕ} 2560 0); marks_long = omega (arith, length-replicate {A = ℕ} 20 0); slow_long = omega (arith, length-replicate {A = ℕ} 128 0); fast_long = omega (arith, length-replicate {A = ℕ} 128 0); met_long = omega (arith, length-replicate {A = ℕ} 128 0) }
