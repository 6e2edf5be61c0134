-- Blocks of assignments: what a condition says on one of them it says on all, if it names no variable that changes there.
use mathlib.Core.Path.{◌≡◌, refl, sym, ◌∙◌, ap, ap₂, subst}
use mathlib.Core.List.{List, [], ◌∷◌}
use mathlib.Core.Bool.{Bool, true, false}
use Prim.Native.Nat.{ℕ, zero, suc, ◌+◌, ◌-◌, ◌*◌, ◌/◌, ◌%◌, ◌≤◌, ◌<◌}
use native.Mathlib.Nat.{div-div-eq-div-mul, mul-one, mul_comm, mul_assoc, mul-pos, mul-zero, div-eq_of_lt-le, div-mul-le_self, mul-div_left}
use native.Mathlib.Omega.{arith}
use lib.Dec.{eqb, ltb}
use lib.ListN.{length, get_or, drop, take, get_or-append}
use lib.Seq.{length-take-le, get_or-append-add, drop-drop}
use borrow.Author.Tests.{eq-eqb, ne_eqb, lt-ltb, le-ltb, ltb-true, ltb-false}
use Rattle.pcrl.specs.Tests.{and}
use Rattle.laws.specs.Booleans.{and_false}
use Rattle.evaluation.specs.Run.{pick, top, peak}
use Rattle.evaluation.specs.Known.{Alike}
use Rattle.evaluation.proofs.Bytes.{run_same}
use Rattle.assignments.specs.Places.{product, digits_of}
use Rattle.assignments.specs.Conditions.{env, code, holds, all_below, tried_of, Tested}
use Rattle.assignments.specs.Parting.{asked, part_met, Part}

-- products of sizes
pub product_pos : (l : ℕ) (s : List ℕ) → ((i : ℕ) → i < length s → 0 < get_or s i 0) → 0 < product (drop l s)
product_pos zero [] h = omega arith
product_pos (suc l) [] h = omega arith
product_pos zero (n ∷ s) h = mul-pos (h 0 (omega arith)) (product_pos 0 s (λ i k. h (suc i) (omega arith)))
product_pos (suc l) (n ∷ s) h = product_pos l s (λ i k. h (suc i) (omega arith))

pub product_split : (l : ℕ) (s : List ℕ) → product s ≡ product (drop l s) * product (take l s)
product_split zero s = sym (mul-one (product s))
product_split (suc l) [] = refl
product_split (suc l) (n ∷ s) = ap (λ (x : ℕ). n * x) (product_split l s) ∙ sym (mul_assoc n (product (drop l s)) (product (take l s))) ∙ ap (λ (x : ℕ). x * product (take l s)) (mul_comm n (product (drop l s))) ∙ mul_assoc (product (drop l s)) n (product (take l s))

pub coarser : (l : ℕ) (s : List ℕ) (i j : ℕ) → i / product (drop l s) ≡ j / product (drop l s) → i / product s ≡ j / product s
coarser l s i j h =
    rw (product_split l s) (sym (div-div-eq-div-mul i (product (drop l s)) (product (take l s))) ∙ ap (λ (x : ℕ). x / product (take l s)) h ∙ div-div-eq-div-mul j (product (drop l s)) (product (take l s)))

-- a longer product of last sizes is a multiple of a shorter one
between : (a b : ℕ) (s : List ℕ) → a ≤ b → product (drop a s) ≡ product (drop b s) * product (take (b - a) (drop a s))
between a b s k =
    let z : a + (b - a) ≡ b = omega arith in
    product_split (b - a) (drop a s) ∙ ap (λ (x : List ℕ). product x * product (take (b - a) (drop a s))) (drop-drop (b - a) a s ∙ ap (λ (x : ℕ). drop x s) z)

pub product_mono : (a b : ℕ) (s : List ℕ) → ((i : ℕ) → i < length s → 0 < get_or s i 0) → a ≤ b → product (drop b s) ≤ product (drop a s)
product_mono a b s h k = go (product (take (b - a) (drop a s))) (between a b s k) (product_pos a s h)
  where
    go : (x : ℕ) → product (drop a s) ≡ product (drop b s) * x → 0 < product (drop a s) → product (drop b s) ≤ product (drop a s)
    go zero e p = absurd (omega (arith, mul-zero (product (drop b s))))
    go (suc x) e p = let z : suc x * product (drop b s) ≡ product (drop b s) + x * product (drop b s) = omega arith in omega (arith, mul_comm (product (drop b s)) (suc x))

pub multiple : (b a : ℕ) (s : List ℕ) → ((i : ℕ) → i < length s → 0 < get_or s i 0) → product (drop b s) ≤ product (drop a s) → product (drop a s) ≡ product (drop a s) / product (drop b s) * product (drop b s)
multiple b a s h k = go (ltb b a) refl
  where
    pos : 0 < product (drop b s)
    pos = product_pos b s h

    by : (x : ℕ) → product (drop a s) ≡ x * product (drop b s) → product (drop a s) ≡ product (drop a s) / product (drop b s) * product (drop b s)
    by x e = e ∙ ap (λ (y : ℕ). y * product (drop b s)) (sym (ap (λ (y : ℕ). y / product (drop b s)) e ∙ mul-div_left x pos))

    go : (t : Bool) → ltb b a ≡ t → product (drop a s) ≡ product (drop a s) / product (drop b s) * product (drop b s)
    go true r =
        let l = ltb-true b a r in
        let m = product_mono b a s h (omega arith) in
        by 1 (omega arith)
    go false r = let l = ltb-false b a r in by (product (take (b - a) (drop a s))) (between a b s l ∙ mul_comm (product (drop b s)) (product (take (b - a) (drop a s))))

-- what is in one block is in one larger block
pub finer : (a b : ℕ) (s : List ℕ) → ((i : ℕ) → i < length s → 0 < get_or s i 0) → product (drop a s) ≤ product (drop b s) → (i j : ℕ) → i / product (drop a s) ≡ j / product (drop a s) → i / product (drop b s) ≡ j / product (drop b s)
finer a b s h k i j q = go (ltb a b) refl
  where
    go : (t : Bool) → ltb a b ≡ t → i / product (drop b s) ≡ j / product (drop b s)
    go true r =
        let l = ltb-true a b r in
        let m = product_mono a b s h (omega arith) in
        let e : product (drop a s) ≡ product (drop b s) = omega arith in
        subst (λ (x : ℕ). i / x ≡ j / x) e q
    go false r =
        let l = ltb-false a b r in
        let z : b + (a - b) ≡ a = omega arith in
        let e : drop (a - b) (drop b s) ≡ drop a s = drop-drop (a - b) b s ∙ ap (λ (x : ℕ). drop x s) z in
        coarser (a - b) (drop b s) i j (subst (λ (x : List ℕ). i / product x ≡ j / product x) (sym e) q)

-- two places of one block have the same first values
pub same_values : (l : ℕ) (s : List ℕ) (i j : ℕ) → i / product (drop l s) ≡ j / product (drop l s) → (v : ℕ) → v < l → get_or (digits_of s i) v 0 ≡ get_or (digits_of s j) v 0
same_values zero s i j h v k = absurd (omega arith)
same_values (suc l) [] i j h v k = refl
same_values (suc l) (n ∷ s) i j h zero k = ap (λ (x : ℕ). x % n) (coarser l s i j h)
same_values (suc l) (n ∷ s) i j h (suc v) k = same_values l s i j h v (omega arith)

pub split_at : (p : ℕ) (a w : List ℕ) → p ≤ length a → (v : ℕ) → p ≤ v → get_or (env p a w) v 0 ≡ get_or w (v - p) 0
split_at p a w h v k =
    let e : v ≡ length (take p a) + (v - p) = simp (length-take-le p a h) (omega arith) in
    ap (λ (x : ℕ). get_or (env p a w) x 0) e ∙ get_or-append-add (take p a) w (v - p) 0

-- environments that agree in the variables behind the parameters agree
pub env_same : (p : ℕ) (a u w : List ℕ) → p ≤ length a → (v : ℕ) → (p ≤ v → get_or u (v - p) 0 ≡ get_or w (v - p) 0) → get_or (env p a u) v 0 ≡ get_or (env p a w) v 0
env_same p a u w h v k = go (ltb v p) refl
  where
    go : (t : Bool) → ltb v p ≡ t → get_or (env p a u) v 0 ≡ get_or (env p a w) v 0
    go true r =
        let x : v < length (take p a) = simp (length-take-le p a h) (ltb-true v p r) in
        get_or-append (take p a) u 0 v x ∙ sym (get_or-append (take p a) w 0 v x)
    go false r = let x : p ≤ v = ltb-false v p r in split_at p a u h v x ∙ k x ∙ sym (split_at p a w h v x)

-- places whose environments agree as far as their blocks do
abbrev pub Agree : ℕ → List ℕ → ℕ → ℕ → List ℕ → List ℕ → Type 0
Agree p sizes i j e f = (l : ℕ) → i / product (drop l sizes) ≡ j / product (drop l sizes) → (v : ℕ) → v < p + l → get_or e v 0 ≡ get_or f v 0

pub env_agree : (p : ℕ) (a sizes f : List ℕ) (i j : ℕ) → p ≤ length a → ((v : ℕ) → get_or f v 0 ≡ get_or (env p a (digits_of sizes j)) v 0) → Agree p sizes i j (env p a (digits_of sizes i)) f
env_agree p a sizes f i j h g l q v k = env_same p a (digits_of sizes i) (digits_of sizes j) h v (λ x. same_values l sizes i j q (v - p) (omega arith)) ∙ sym (g v)

-- a block of d holds what divides to the same
pub in_block : (j d i : ℕ) → 0 < d → j ≤ i → i < (j / d + 1) * d → i / d ≡ j / d
in_block j d i p h k = div-eq_of_lt-le d (let z : j / d * d ≤ j = div-mul-le_self j d in omega arith) k

-- ALL CONDITIONS, AND ONE OF THEM

pub all_true : (n : ℕ) (t : ℕ → Bool) → ((i : ℕ) → i < n → t i ≡ true) → all_below n t ≡ true
unfolding all_below
all_true zero t h = refl
all_true (suc n) t h = rw (h n (omega arith)) (all_true n t (λ i k. h i (omega arith)))

pub one_false : (n : ℕ) (t : ℕ → Bool) (m : ℕ) → m < n → t m ≡ false → all_below n t ≡ false
unfolding all_below
one_false zero t m h e = absurd (omega arith)
one_false (suc n) t m h e = go (ltb m n) refl (λ k. one_false n t m k e)
  where
    go : (b : Bool) → ltb m n ≡ b → (m < n → all_below n t ≡ false) → and (t n) (all_below n t) ≡ false
    go true q ih = rw (ih (ltb-true m n q)) (and_false (t n))
    go false q ih = let l = ltb-false m n q in let z : n ≡ m = omega arith in let f : t n ≡ false = ap t z ∙ e in rw f refl

pub all_same : (n : ℕ) (t u : ℕ → Bool) → ((i : ℕ) → i < n → t i ≡ u i) → all_below n t ≡ all_below n u
unfolding all_below
all_same zero t u h = refl
all_same (suc n) t u h = ap₂ and (h n (omega arith)) (all_same n t u (λ i k. h i (omega arith)))

-- WHAT A TEST OF THE CONDITIONS SAYS OF A WHOLE BLOCK

module _ (s funcs froms ends blocks : List ℕ) where
  abbrev holds_in : List ℕ → ℕ → Bool
  holds_in e i = holds s funcs e (get_or froms i 0) (get_or ends i 0)

  abbrev asked_in : List ℕ → ℕ → Bool
  asked_in = asked s funcs froms ends blocks

  pub asked_same : (e f : List ℕ) (m : ℕ) → (0 < get_or blocks m 0 → holds_in e m ≡ holds_in f m) → asked_in e m ≡ asked_in f m
  asked_same e f m h = go (ltb 0 (get_or blocks m 0)) refl
    where
      go : (t : Bool) → ltb 0 (get_or blocks m 0) ≡ t → pick t (holds_in e m) true ≡ pick t (holds_in f m) true
      go true q = h (ltb-true 0 (get_or blocks m 0) q)
      go false q = refl

  -- only what is asked can fail
  asked_block : (e : List ℕ) (m : ℕ) → asked_in e m ≡ false → 0 < get_or blocks m 0
  asked_block e m h = go (ltb 0 (get_or blocks m 0)) refl h
    where
      go : (t : Bool) → ltb 0 (get_or blocks m 0) ≡ t → pick t (holds_in e m) true ≡ false → 0 < get_or blocks m 0
      go true q z = ltb-true 0 (get_or blocks m 0) q
      go false q z = absurd (let y : ◌≡◌ {A = ℕ} 0 1 = cc in omega arith)

  pub asked_none : (e : List ℕ) (m : ℕ) → get_or blocks m 0 ≡ 0 → asked_in e m ≡ true
  asked_none e m h = rw (le-ltb 0 (get_or blocks m 0) (omega arith)) refl

  pub asked_some : (e : List ℕ) (m : ℕ) → 0 < get_or blocks m 0 → asked_in e m ≡ holds_in e m
  asked_some e m h = rw (lt-ltb 0 (get_or blocks m 0) h) refl

  -- what is not asked passes
  pub asked_or : (e : List ℕ) (m : ℕ) → (0 < get_or blocks m 0 → asked_in e m ≡ true) → asked_in e m ≡ true
  asked_or e m h = go (ltb 0 (get_or blocks m 0)) refl
    where
      go : (t : Bool) → ltb 0 (get_or blocks m 0) ≡ t → asked_in e m ≡ true
      go true q = h (ltb-true 0 (get_or blocks m 0) q)
      go false q = let l = ltb-false 0 (get_or blocks m 0) q in asked_none e m (omega arith)

  module _ (n p g : ℕ) (sizes a : List ℕ) (few : p ≤ length a) (positive : (i : ℕ) → i < length sizes → 0 < get_or sizes i 0) (part : (i : ℕ) → i < n → Part s p sizes froms ends blocks g i) where
    -- the values of a condition's variables are the same on its block
    pub same_on : (f : List ℕ) (j : ℕ) → Alike f (env p a (digits_of sizes j)) → (m i : ℕ) → i / product (drop (peak (code s (get_or froms m 0) (get_or ends m 0)) - p) sizes) ≡ j / product (drop (peak (code s (get_or froms m 0) (get_or ends m 0)) - p) sizes)
        → holds_in (env p a (digits_of sizes i)) m ≡ holds_in f m
    same_on f j alike m i q =
        ap (λ (l : List ℕ). eqb (top l) (get_or s (get_or froms m 0) 0)) (run_same s funcs (env p a (digits_of sizes i)) f (code s (get_or froms m 0) (get_or ends m 0)) (λ v w. env_agree p a sizes f i j few alike (peak (code s (get_or froms m 0) (get_or ends m 0)) - p) q v (omega arith)))

    pub blocked : (f : List ℕ) (j : ℕ) → Alike f (env p a (digits_of sizes j)) → (least d : ℕ) → Tested (asked_in f) blocks least n d → least < d → (i : ℕ) → i / d ≡ j / d → part_met s funcs froms ends blocks n (env p a (digits_of sizes i)) ≡ false
    blocked f j alike least d t h i q =
        let (m, k, e, b) = t.one_fails h in
        let z : d ≡ product (drop (peak (code s (get_or froms m 0) (get_or ends m 0)) - p) sizes) = b ∙ (part m k).block_is (asked_block f m e) in
        one_false n (asked_in (env p a (digits_of sizes i))) m k
        (asked_same (env p a (digits_of sizes i)) f m (λ w. same_on f j alike m i (ap (λ (x : ℕ). i / x) (sym z) ∙ q ∙ ap (λ (x : ℕ). j / x) z)) ∙ e)

    module _ (l : ℕ) (is_grain : g ≡ product (drop l sizes)) where
      pub in_grain : (f : List ℕ) (j : ℕ) → Alike f (env p a (digits_of sizes j)) → (i : ℕ) → i / g ≡ j / g → (m : ℕ) → m < n → asked_in (env p a (digits_of sizes i)) m ≡ asked_in f m
      in_grain f j alike i q m k =
          asked_same (env p a (digits_of sizes i)) f m (λ w.
          let b = (part m k).block_is w in
          let c : g ≤ get_or blocks m 0 = (part m k).coarse w in
          same_on f j alike m i (finer l (peak (code s (get_or froms m 0) (get_or ends m 0)) - p) sizes positive (subst (λ (x : ℕ). x ≤ product (drop (peak (code s (get_or froms m 0) (get_or ends m 0)) - p) sizes)) is_grain (subst (λ (x : ℕ). g ≤ x) b c)) i j (subst (λ (x : ℕ). i / x ≡ j / x) is_grain q)))

      pub accepted : (f : List ℕ) (j : ℕ) → Alike f (env p a (digits_of sizes j)) → (d : ℕ) → Tested (asked_in f) blocks 0 n d → d ≡ 0 → (i : ℕ) → i / g ≡ j / g → part_met s funcs froms ends blocks n (env p a (digits_of sizes i)) ≡ true
      accepted f j alike d t h i q = all_true n (asked_in (env p a (digits_of sizes i))) (λ m k. in_grain f j alike i q m k ∙ asked_or f m (t.all_pass h m k))

      pub met_alike : (i j : ℕ) → i / g ≡ j / g → part_met s funcs froms ends blocks n (env p a (digits_of sizes i)) ≡ part_met s funcs froms ends blocks n (env p a (digits_of sizes j))
      met_alike i j q = all_same n (asked_in (env p a (digits_of sizes i))) (asked_in (env p a (digits_of sizes j))) (in_grain (env p a (digits_of sizes j)) j (λ v. refl) i q)

-- A TEST, CONDITION BY CONDITION

pub tested_none : (t : ℕ → Bool) (blocks : List ℕ) (least : ℕ) → Tested t blocks least 0 least
tested_none t blocks least = record { no_less = omega arith; all_pass = λ e i h k. absurd (omega arith); one_fails = λ h. absurd (omega arith) }

pub tested_more : (t : ℕ → Bool) (blocks : List ℕ) (least n r r' : ℕ) → Tested t blocks least n r → r' ≡ tried_of (t n) (get_or blocks n 0) r → Tested t blocks least (n + 1) r'
tested_more t blocks least n r r' w e = go (ltb r (get_or blocks n 0)) refl (t n) refl
  where
    keep : r' ≡ r → (r ≡ least → least < get_or blocks n 0 → t n ≡ true) → Tested t blocks least (n + 1) r'
    keep z h =
        record {
          no_less = omega (arith, w.no_less);
          all_pass = λ q i k l. last (ltb i n) i refl k (sym z ∙ q) l;
          one_fails = λ q. let (m, k, f, b) = w.one_fails (omega arith) in (m, omega arith, f, z ∙ b);
        }
      where
        last : (c : Bool) (i : ℕ) → ltb i n ≡ c → i < n + 1 → r ≡ least → least < get_or blocks i 0 → t i ≡ true
        last true i y k q l = w.all_pass q i (ltb-true i n y) l
        last false i y k q l = let u = ltb-false i n y in let x : i ≡ n = omega arith in ap t x ∙ h q (subst (λ (m : ℕ). least < get_or blocks m 0) x l)

    go : (c : Bool) → ltb r (get_or blocks n 0) ≡ c → (h : Bool) → t n ≡ h → Tested t blocks least (n + 1) r'
    go true q true k = keep (e ∙ rw (q, k) refl) (λ z l. k)
    go true q false k =
        let u = ltb-true r (get_or blocks n 0) q in
        let z : r' ≡ get_or blocks n 0 = e ∙ rw (q, k) refl in
        let l = w.no_less in
        record { no_less = omega arith; all_pass = λ y i l m. absurd (omega arith); one_fails = λ y. (n, omega arith, k, z) }
    go false q h k = let u = ltb-false r (get_or blocks n 0) q in keep (e ∙ rw q refl) (λ z l. absurd (omega arith))

-- what one condition gives
pub tried_known : (h : Bool) (block out : ℕ) → block ≤ out → out ≡ tried_of h block out
tried_known h block out l = rw (le-ltb out block l) refl

pub tried_holds : (x y block out : ℕ) → out < block → x ≡ y → out ≡ tried_of (eqb x y) block out
tried_holds x y block out l e = rw (lt-ltb out block l, eq-eqb x y e) refl

pub tried_fails : (x y block out : ℕ) → out < block → (x ≡ y → ⊥) → block ≡ tried_of (eqb x y) block out
tried_fails x y block out l e = rw (lt-ltb out block l, ne_eqb x y e) refl

-- a condition that is not asked changes nothing
pub tried_asked : (h : Bool) (block out : ℕ) → tried_of h block out ≡ tried_of (pick (ltb 0 block) h true) block out
tried_asked h block out = go (ltb 0 block) refl
  where
    go : (t : Bool) → ltb 0 block ≡ t → tried_of h block out ≡ tried_of (pick t h true) block out
    go true q = refl
    go false q = let l = ltb-false 0 block q in let z : ltb out block ≡ false = le-ltb out block (omega arith) in rw z refl
