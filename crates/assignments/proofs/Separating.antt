-- Conditions parted in two: what each part is, and that both parts are met where all are.
use mathlib.Core.Path.{◌≡◌, refl, sym, ◌∙◌, ap, ap₂, subst}
use mathlib.Core.List.{List}
use mathlib.Core.Bool.{Bool, true, false}
use Prim.Native.Nat.{ℕ, zero, suc, ◌+◌, ◌-◌, ◌*◌, ◌/◌, ◌≤◌, ◌<◌, min}
use native.Mathlib.Nat.{mul-div_left, min-le_left, min-le_right}
use native.Mathlib.Omega.{arith}
use lib.Dec.{ltb}
use lib.ListN.{length, get_or, drop, set, replicate}
use lib.Seq.{get_or-set_same, get_or-set_other}
use borrow.Author.Tests.{ltb-true, ltb-false}
use Rattle.pcrl.specs.Tests.{and}
use Rattle.laws.specs.Booleans.{and_true}
use Rattle.evaluation.specs.Run.{peak, foot}
use Rattle.assignments.specs.Places.{product, digits_of}
use Rattle.assignments.specs.Conditions.{env, code, holds, all_below, met, Ready}
use Rattle.assignments.specs.Parting.{Standing, asked, part_met, Part, Above, Apart}
use Rattle.assignments.specs.declared.Parts.{Parts}
use Rattle.assignments.proofs.Blocks.{product_pos, product_mono, in_block, all_same, asked_none, asked_some, met_alike}

and_assoc : (a b x y : Bool) → and (and a b) (and x y) ≡ and (and a x) (and b y)
and_assoc true true x y = refl
and_assoc true false true y = refl
and_assoc true false false y = refl
and_assoc false b x y = refl

-- all pass of both
all_both : (n : ℕ) (t u v : ℕ → Bool) → ((i : ℕ) → i < n → t i ≡ and (u i) (v i)) → all_below n t ≡ and (all_below n u) (all_below n v)
unfolding all_below
all_both zero t u v h = refl
all_both (suc n) t u v h = ap₂ and (h n (omega arith)) (all_both n t u v (λ i k. h i (omega arith))) ∙ and_assoc (u n) (v n) (all_below n u) (all_below n v)

-- blocks by division are blocks from one start
pub constant_by : (P : ℕ) → 0 < P → (a : ℕ → Bool) → ((i j : ℕ) → i / P ≡ j / P → a i ≡ a j) → (t i : ℕ) → i < P → a (t * P + i) ≡ a (t * P)
constant_by P pos a h t i k =
    let d : t * P / P ≡ t = mul-div_left t pos in
    let z : (t * P / P + 1) * P ≡ t * P + P = ap (λ (x : ℕ). (x + 1) * P) d ∙ omega arith in
    h (t * P + i) (t * P) (in_block (t * P) P (t * P + i) pos (omega arith) (omega arith))

module _ (s : List ℕ) (p : ℕ) (sizes froms ends blocks : List ℕ) (n reach low : ℕ) (positive : (i : ℕ) → i < length sizes → 0 < get_or sizes i 0) (ready : (i : ℕ) → i < n → Ready s p sizes froms ends blocks reach low i) where
  pub standing_of : (i : ℕ) → i < n → Standing s froms ends i
  standing_of i k = let r = ready i k in record { some_term = r.some_term; short = r.short; inside = r.inside }

  pub block_pos : (i : ℕ) → i < n → 0 < get_or blocks i 0
  block_pos i k = subst (λ (x : ℕ). 0 < x) (sym (ready i k).block_is) (product_pos (peak (code s (get_or froms i 0) (get_or ends i 0)) - p) sizes positive)

  reached : (g i : ℕ) → g ≡ product (drop (reach - p) sizes) → i < n → g ≤ get_or blocks i 0
  reached g i e k =
      let r = ready i k in
      let b : peak (code s (get_or froms i 0) (get_or ends i 0)) ≤ reach = r.below in
      let m = product_mono (peak (code s (get_or froms i 0) (get_or ends i 0)) - p) (reach - p) sizes positive (omega arith) in
      subst (λ (x : ℕ). x ≤ get_or blocks i 0) (sym e) (subst (λ (x : ℕ). product (drop (reach - p) sizes) ≤ x) (sym r.block_is) m)

  -- ALL CONDITIONS AS ONE PART

  pub all_part : (g : ℕ) → g ≡ product (drop (reach - p) sizes) → (i : ℕ) → i < n → Part s p sizes froms ends blocks g i
  all_part g e i k = record { standing = standing_of i k; block_is = λ h. (ready i k).block_is; coarse = λ h. reached g i e k }

  pub all_above : Above s p froms ends blocks n low
  all_above i k h = (ready i k).above

  pub all_met : (funcs e : List ℕ) → part_met s funcs froms ends blocks n e ≡ met s funcs froms ends n e
  all_met funcs e = all_same n (asked s funcs froms ends blocks e) (λ i. holds s funcs e (get_or froms i 0) (get_or ends i 0)) (λ i k. asked_some s funcs froms ends blocks e i (block_pos i k))

  -- TWO PARTS

  module _ (r : Parts) (apart : Apart s p sizes froms ends blocks n r) where
    -- condition i is early or late
    either : (G : Type 0) (i : ℕ) → i < n
        → (apart.bound ≤ get_or blocks i 0 → get_or r.early i 0 ≡ get_or blocks i 0 → get_or r.late i 0 ≡ 0 → r.grain ≤ get_or blocks i 0 → G)
        → (get_or r.late i 0 ≡ get_or blocks i 0 → get_or r.early i 0 ≡ 0 → r.low ≤ foot p (code s (get_or froms i 0) (get_or ends i 0)) → G) → G
    either G i k f g = go (ltb (get_or blocks i 0) apart.bound) refl
      where
        go : (t : Bool) → ltb (get_or blocks i 0) apart.bound ≡ t → G
        go true q = let w = apart.late i k (ltb-true _ _ q) in g w.0 w.1.0 w.1.1
        go false q = let l = ltb-false (get_or blocks i 0) apart.bound q in let w = apart.early i k l in f l w.0 w.1.0 w.1.1

    early_part_of : (g : ℕ) → ((i : ℕ) → i < n → apart.bound ≤ get_or blocks i 0 → r.grain ≤ get_or blocks i 0 → g ≤ get_or blocks i 0) → (i : ℕ) → i < n → Part s p sizes froms ends r.early g i
    early_part_of g h i k =
        either (Part s p sizes froms ends r.early g i) i k
        (λ b e l c. record { standing = standing_of i k; block_is = λ x. e ∙ (ready i k).block_is; coarse = λ x. let y = h i k b c in omega arith })
        (λ l e f. record { standing = standing_of i k; block_is = λ x. absurd (omega arith); coarse = λ x. absurd (omega arith) })

    pub early_part : (i : ℕ) → i < n → Part s p sizes froms ends r.early r.grain i
    early_part = early_part_of r.grain (λ i k b c. c)

    pub late_part : (g : ℕ) → g ≡ product (drop (reach - p) sizes) → (i : ℕ) → i < n → Part s p sizes froms ends r.late g i
    late_part g z i k =
        either (Part s p sizes froms ends r.late g i) i k
        (λ b e l c. record { standing = standing_of i k; block_is = λ x. absurd (omega arith); coarse = λ x. absurd (omega arith) })
        (λ l e f. record { standing = standing_of i k; block_is = λ x. l ∙ (ready i k).block_is; coarse = λ x. let y = reached g i z k in omega arith })

    pub early_above : Above s p froms ends r.early n low
    early_above i k h = (ready i k).above

    pub late_above : Above s p froms ends r.late n r.low
    late_above i k h = either (r.low ≤ foot p (code s (get_or froms i 0) (get_or ends i 0))) i k (λ b e l c. absurd (omega arith)) (λ l e f. f)

    pub both_met : (funcs e : List ℕ) → met s funcs froms ends n e ≡ and (part_met s funcs froms ends r.early n e) (part_met s funcs froms ends r.late n e)
    both_met funcs e =
        all_both n (λ i. holds s funcs e (get_or froms i 0) (get_or ends i 0)) (asked s funcs froms ends r.early e) (asked s funcs froms ends r.late e) (λ i k.
        let w = block_pos i k in
        either (holds s funcs e (get_or froms i 0) (get_or ends i 0) ≡ and (asked s funcs froms ends r.early e i) (asked s funcs froms ends r.late e i)) i k
        (λ b x y c. sym (ap₂ and (asked_some s funcs froms ends r.early e i (omega arith)) (asked_none s funcs froms ends r.late e i y) ∙ and_true (holds s funcs e (get_or froms i 0) (get_or ends i 0))))
        (λ x y f. sym (ap₂ and (asked_none s funcs froms ends r.early e i y) (asked_some s funcs froms ends r.late e i (omega arith)))))

    pub early_constant : (funcs a : List ℕ) → p ≤ length a → (P : ℕ) → P ≡ product (drop (r.low - p) sizes) → (t i : ℕ) → i < P
        → part_met s funcs froms ends r.early n (env p a (digits_of sizes (t * P + i))) ≡ part_met s funcs froms ends r.early n (env p a (digits_of sizes (t * P)))
    early_constant funcs a few P e =
        let pos : 0 < P = subst (λ (x : ℕ). 0 < x) (sym e) (product_pos (r.low - p) sizes positive) in
        let fits : P ≤ apart.bound = subst (λ (x : ℕ). x ≤ apart.bound) (sym e) apart.repeats in
        constant_by P pos (λ j. part_met s funcs froms ends r.early n (env p a (digits_of sizes j))) (met_alike s funcs froms ends r.early n p P sizes a few positive (early_part_of P (λ i k b c. omega arith)) (r.low - p) e)

-- THE LOOP THAT PARTS THEM

-- one more, by the cases that it is the last or one before
pub last_or : (G : ℕ → Type 0) (m : ℕ) → G m → ((i : ℕ) → i < m → G i) → (i : ℕ) → i < m + 1 → G i
last_or G m x f i h = go (ltb i m) refl
  where
    go : (t : Bool) → ltb i m ≡ t → G i
    go true q = f i (ltb-true i m q)
    go false q = let l = ltb-false i m q in let z : m ≡ i = omega arith in subst G z x

pub zeros : (n i : ℕ) → get_or {A = ℕ} (replicate n 0) i 0 ≡ 0
zeros zero i = refl
zeros (suc n) zero = refl
zeros (suc n) (suc i) = zeros n i

module _ (s : List ℕ) (p : ℕ) (froms ends blocks : List ℕ) (n b : ℕ) where
  -- the first m are parted
  pub record Parting (early late : List ℕ) (grain low m : ℕ) : Type 0 where
    pub early_rest : (i : ℕ) → m ≤ i → get_or early i 0 ≡ 0
    pub late_rest : (i : ℕ) → m ≤ i → get_or late i 0 ≡ 0
    pub early_is : (i : ℕ) → i < m → b ≤ get_or blocks i 0 → (get_or early i 0 ≡ get_or blocks i 0) × ((get_or late i 0 ≡ 0) × (grain ≤ get_or blocks i 0))
    pub late_is : (i : ℕ) → i < m → get_or blocks i 0 < b → (get_or late i 0 ≡ get_or blocks i 0) × ((get_or early i 0 ≡ 0) × ((i < n → Standing s froms ends i) → low ≤ foot p (code s (get_or froms i 0) (get_or ends i 0))))

  pub parting_none : (early late : List ℕ) (grain low : ℕ) → ((i : ℕ) → get_or early i 0 ≡ 0) → ((i : ℕ) → get_or late i 0 ≡ 0) → Parting early late grain low 0
  parting_none early late grain low e l = record { early_rest = λ i h. e i; late_rest = λ i h. l i; early_is = λ i h. absurd (omega arith); late_is = λ i h. absurd (omega arith) }

  module _ (early late : List ℕ) (grain low m : ℕ) (now : Parting early late grain low m) (d w : ℕ) (is_d : d ≡ get_or blocks m 0) (is_w : w ≡ d) (in_List : m < n) where
    pub parting_late : m < length late → w < b → (f low' : ℕ) → (get_or froms m 0 + 1 ≤ get_or ends m 0 → get_or ends m 0 ≤ length s → f ≡ foot p (code s (get_or froms m 0) (get_or ends m 0))) → low' ≡ min low f → Parting early (set late m d) grain low' (m + 1)
    parting_late l h f low' is_f is_low =
        record {
          early_rest = λ i k. now.early_rest i (omega arith);
          late_rest = λ i k. get_or-set_other late m i d 0 (λ z. absurd (omega arith)) ∙ now.late_rest i (omega arith);
          early_is = last_or (λ i. b ≤ get_or blocks i 0 → (get_or early i 0 ≡ get_or blocks i 0) × ((get_or (set late m d) i 0 ≡ 0) × (grain ≤ get_or blocks i 0))) m
              (λ k. absurd (omega arith))
              (λ i k x. let y = now.early_is i k x in (y.0, (get_or-set_other late m i d 0 (λ z. absurd (omega arith)) ∙ y.1.0, y.1.1)));
          late_is = last_or (λ i. get_or blocks i 0 < b → (get_or (set late m d) i 0 ≡ get_or blocks i 0) × ((get_or early i 0 ≡ 0) × ((i < n → Standing s froms ends i) → low' ≤ foot p (code s (get_or froms i 0) (get_or ends i 0))))) m
              (λ k. (get_or-set_same late m d 0 l ∙ is_d, (now.early_rest m (omega arith), λ st. let y = st in_List in let z = is_f y.some_term y.inside in omega (arith, min-le_right low f))))
              (λ i k x. let y = now.late_is i k x in (get_or-set_other late m i d 0 (λ z. absurd (omega arith)) ∙ y.0, (y.1.0, λ st. let z = y.1.1 st in omega (arith, min-le_left low f))));
        }

    pub parting_early : m < length early → b ≤ w → (grain' : ℕ) → grain' ≡ min grain w → Parting (set early m d) late grain' low (m + 1)
    parting_early l h grain' is_grain =
        record {
          early_rest = λ i k. get_or-set_other early m i d 0 (λ z. absurd (omega arith)) ∙ now.early_rest i (omega arith);
          late_rest = λ i k. now.late_rest i (omega arith);
          early_is = last_or (λ i. b ≤ get_or blocks i 0 → (get_or (set early m d) i 0 ≡ get_or blocks i 0) × ((get_or late i 0 ≡ 0) × (grain' ≤ get_or blocks i 0))) m
              (λ k. (get_or-set_same early m d 0 l ∙ is_d, (now.late_rest m (omega arith), omega (arith, min-le_right grain w))))
              (λ i k x. let y = now.early_is i k x in (get_or-set_other early m i d 0 (λ z. absurd (omega arith)) ∙ y.0, (y.1.0, omega (arith, y.1.1, min-le_left grain w))));
          late_is = last_or (λ i. get_or blocks i 0 < b → (get_or late i 0 ≡ get_or blocks i 0) × ((get_or (set early m d) i 0 ≡ 0) × ((i < n → Standing s froms ends i) → low ≤ foot p (code s (get_or froms i 0) (get_or ends i 0))))) m
              (λ k. absurd (omega arith))
              (λ i k x. let y = now.late_is i k x in (y.0, (get_or-set_other early m i d 0 (λ z. absurd (omega arith)) ∙ y.1.0, y.1.1)));
        }

-- the smallest of the blocks of conditions is a block
pub grain_more : (sizes : List ℕ) (grain w block l grain' : ℕ) → w ≡ block → block ≡ product (drop l sizes) → grain' ≡ min grain w → (level : ℕ) × (grain ≡ product (drop level sizes)) → (level : ℕ) × (grain' ≡ product (drop level sizes))
grain_more sizes grain w block l grain' e f m (level, g) = go (ltb grain w) refl
  where
    go : (t : Bool) → ltb grain w ≡ t → (level : ℕ) × (grain' ≡ product (drop level sizes))
    go true q = let u = ltb-true grain w q in let z : grain' ≡ grain = omega arith in (level, z ∙ g)
    go false q = let u = ltb-false grain w q in let z : grain' ≡ block = omega arith in (l, z ∙ f)

-- all are parted
pub parting_all : (s : List ℕ) (p : ℕ) (sizes froms ends blocks : List ℕ) (n b l reach low₀ : ℕ) (r : Parts) (m : ℕ) → ((i : ℕ) → i < length sizes → 0 < get_or sizes i 0) → ((i : ℕ) → i < n → Ready s p sizes froms ends blocks reach low₀ i) → b ≡ product (drop l sizes) → p + l ≤ r.low → m ≡ n
    → (level : ℕ) × (r.grain ≡ product (drop level sizes)) → Parting s p froms ends blocks n b r.early r.late r.grain r.low m → Apart s p sizes froms ends blocks n r
parting_all s p sizes froms ends blocks n b l reach low₀ r m positive ready is_b far is_m (level, g) w =
    record {
      bound = b;
      level = level;
      grain_is = g;
      repeats = subst (λ (x : ℕ). product (drop (r.low - p) sizes) ≤ x) (sym is_b) (product_mono l (r.low - p) sizes positive (omega arith));
      early = λ i k h. w.early_is i (omega arith) h;
      late = λ i k h. let y = w.late_is i (omega arith) h in (y.0, (y.1.0, y.1.1 (standing_of s p sizes froms ends blocks n reach low₀ positive ready i)));
    }
