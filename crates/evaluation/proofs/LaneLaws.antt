-- Rows of values: one is put lane by lane, and lane by lane rows are worth what the bytes read so far are.
use mathlib.Core.Path.{◌≡◌, refl, sym, ap, ap₂, subst, ◌∙◌}
use mathlib.Core.List.{List, ◌∷◌}
use mathlib.Core.Bool.{Bool, true, false}
use Prim.Native.Nat.{ℕ, zero, suc, ◌+◌, ◌-◌, ◌*◌, ◌≤◌, ◌<◌, min}
use native.Mathlib.Nat.{mul-le-mul}
use native.Mathlib.Omega.{arith}
use lib.Dec.{eqb, ltb}
use lib.ListN.{length, get_or, drop, take, set, length-set}
use lib.Seq.{get_or-drop, get_or-set_same, get_or-set_other}
use borrow.Author.Tests.{ltb-true, ltb-false, eqb-true, eqb-false}
use Rattle.pcrl.specs.Stream.{variable_code, function_code}
use Rattle.pcrl.specs.Decode.{node_of}
use Rattle.terms.specs.Stands.{size_in}
use Rattle.evaluation.specs.Run.{pick, operator_code, operator_worth, argument_count, worth_of, run}
use Rattle.evaluation.specs.Rows.{lane, lane_env, Putting, RowPut, Marked, Zeros, LanesKept}
use Rattle.evaluation.proofs.Bytes.{worth_value, worth_variable, worth_one, worth_two, worth_operator, run_none, run_more}

-- ONE ROW, LANE BY LANE

pub put_none : (rows : List ℕ) (d : ℕ) (f : ℕ → ℕ) (a b : ℕ) → b ≤ a → Putting rows d f a b rows
put_none rows d f a b o = record { so_far = λ i g h. absurd (omega arith); rest = λ x h. refl }

-- one lane more, whose place is x
pub put_more : (rows : List ℕ) (d : ℕ) (f : ℕ → ℕ) (a n : ℕ) (rows' : List ℕ) (x w : ℕ) → x ≡ d * 128 + n → a ≤ n → x < length rows' → w ≡ f n → Putting rows d f a n rows' → Putting rows d f a (n + 1) (set rows' x w)
put_more rows d f a n rows' x w z o h e p =
    record {
      so_far = λ i g k. go i (ltb i n) refl g k;
      rest = λ y k. get_or-set_other rows' x y w 0 (λ q. k (omega arith) (omega arith)) ∙ p.rest y (λ a b. k a (omega arith));
    }
  where
    go : (i : ℕ) (t : Bool) → ltb i n ≡ t → a ≤ i → i < n + 1 → lane (set rows' x w) d i ≡ f i
    go i true q g k = let l = ltb-true i n q in get_or-set_other rows' x (d * 128 + i) w 0 (λ y. omega arith) ∙ p.so_far i g l
    go i false q g k =
        let l = ltb-false i n q in
        let y : d * 128 + i ≡ x = omega arith in
        let u : n ≡ i = omega arith in
        ap (λ (m : ℕ). get_or (set rows' x w) m 0) y ∙ get_or-set_same rows' x w 0 h ∙ e ∙ ap f u

pub put_next : (rows : List ℕ) (d : ℕ) (f : ℕ → ℕ) (a i : ℕ) (rows' : List ℕ) (x w : ℕ) → x ≡ d * 128 + (a + i) → x < length rows' → w ≡ f (a + i) → Putting rows d f a (a + i) rows' → Putting rows d f a (a + (i + 1)) (set rows' x w)
put_next rows d f a i rows' x w z h e p = let y : a + i + 1 ≡ a + (i + 1) = omega arith in subst (λ (m : ℕ). Putting rows d f a m (set rows' x w)) y (put_more rows d f a (a + i) rows' x w z (omega arith) h e p)

-- a lane that is read before it can be put anew is as it was
pub put_read : (rows : List ℕ) (d : ℕ) (f : ℕ → ℕ) (a n : ℕ) (rows' : List ℕ) → Putting rows d f a n rows' → (t m x : ℕ) → x ≡ t * 128 + m → n ≤ m → m < 128 → get_or rows' x 0 ≡ lane rows t m
put_read rows d f a n rows' p t m x e o h =
    ap (λ (y : ℕ). get_or rows' y 0) e ∙ p.rest (t * 128 + m) (λ a b. omega arith)

pub same_pairs : (rows : List ℕ) (d : ℕ) (f : ℕ → ℕ) (a n : ℕ) (rows' : List ℕ) → Putting rows d f a n rows' → (q width t m : ℕ) → n ≤ m → m < 128 → q + (lane rows' t m * width + lane rows' (t + 1) m) ≡ q + (lane rows t m * width + lane rows (t + 1) m)
same_pairs rows d f a n rows' p q width t m o h =
    ap₂ (λ (x y : ℕ). q + (x * width + y)) (put_read rows d f a n rows' p t m (t * 128 + m) refl o h) (put_read rows d f a n rows' p (t + 1) m ((t + 1) * 128 + m) refl o h)

-- lanes put behind others
pub put_join : (rows : List ℕ) (d : ℕ) (f g : ℕ → ℕ) (n m : ℕ) (rows' rows'' : List ℕ) → n ≤ m → ((i : ℕ) → n ≤ i → i < m → g i ≡ f i) → Putting rows d f 0 n rows' → Putting rows' d g n m rows'' → Putting rows d f 0 m rows''
put_join rows d f g n m rows' rows'' o e p q =
    record {
      so_far = λ i z k. go i (ltb i n) refl k;
      rest = λ x k. q.rest x (λ a b. k (omega arith) b) ∙ p.rest x (λ a b. k a (omega arith));
    }
  where
    go : (i : ℕ) (t : Bool) → ltb i n ≡ t → i < m → lane rows'' d i ≡ f i
    go i true y k = let l = ltb-true i n y in q.rest (d * 128 + i) (λ a b. omega arith) ∙ p.so_far i (omega arith) l
    go i false y k = let l = ltb-false i n y in q.so_far i l k ∙ e i l k

pub put_all : (n : ℕ) (rows : List ℕ) (d : ℕ) (f : ℕ → ℕ) (m : ℕ) (rows' : List ℕ) → n ≤ m → m ≤ 128 → Putting rows d f 0 m rows' → RowPut n rows d f rows'
put_all n rows d f m rows' e o p = record { lanes = λ i h. p.so_far i (omega arith) (omega arith); others = λ x h. p.rest x (λ a b. h (omega arith) (omega arith)) }

pub put_fewer : (n m : ℕ) (rows : List ℕ) (d : ℕ) (f : ℕ → ℕ) (rows' : List ℕ) → n ≤ m → RowPut m rows d f rows' → RowPut n rows d f rows'
put_fewer n m rows d f rows' o p = record { lanes = λ i h. p.lanes i (omega arith); others = p.others }

-- the same row by other words
pub put_as : (n : ℕ) (rows : List ℕ) (d : ℕ) (f g : ℕ → ℕ) (rows' : List ℕ) → ((i : ℕ) → i < n → f i ≡ g i) → RowPut n rows d f rows' → RowPut n rows d g rows'
put_as n rows d f g rows' h p = record { lanes = λ i k. p.lanes i k ∙ h i k; others = p.others }

-- a row is marked as one value only if it is one
pub mark_put : (n : ℕ) (rows marks : List ℕ) (d : ℕ) (f : ℕ → ℕ) (rows' : List ℕ) (m : ℕ) → 20 ≤ length marks → d < 20 → (m ≡ 0 → (128 ≤ n) × ((i : ℕ) → f i ≡ f 0)) → RowPut n rows d f rows' → Marked rows marks → Marked rows' (set marks d m)
mark_put n rows marks d f rows' m l k h p w r q e i o = go (eqb r d) refl
  where
    go : (b : Bool) → eqb r d ≡ b → lane rows' r i ≡ lane rows' r 0
    go true y =
        let z : r ≡ d = eqb-true r d y in
        let u : m ≡ 0 = sym (get_or-set_same marks d m 0 (omega arith)) ∙ ap (λ (x : ℕ). get_or (set marks d m) x 0) (sym z) ∙ e in
        let a = (h u).0 in
        rw z (p.lanes i (omega arith) ∙ (h u).1 i ∙ sym (p.lanes 0 (omega arith)))
    go false y =
        let z = eqb-false r d y in
        let u : get_or marks r 0 ≡ 0 = sym (get_or-set_other marks d r m 0 z) ∙ e in
        let v : (x : ℕ) → x < 128 → lane rows' r x ≡ lane rows r x = λ x c. p.others (r * 128 + x) (λ a b. z (omega arith)) in
        v i o ∙ w r q u i o ∙ sym (v 0 (omega arith))

-- THE ROW OF A BYTE

-- b is a byte, and n the same as a number
module _ (lanes : ℕ) (s funcs : List ℕ) (env : ℕ → List ℕ) (b n t : ℕ) (rows rows' : List ℕ) (d : ℕ) (is_n : n ≡ b) where
  abbrev PutWorth : Type 0
  PutWorth = RowPut lanes rows d (λ i. worth_of s funcs (env i) (node_of b) (lane rows t i) (lane rows (t + 1) i) (lane rows (t + 2) i)) rows'

  pub put_value : n < variable_code → RowPut lanes rows d (λ i. b) rows' → PutWorth
  put_value h p = put_as lanes rows d (λ i. b) _ rows' (λ i k. worth_value s funcs (env i) b (lane rows t i) (lane rows (t + 1) i) (lane rows (t + 2) i) (omega arith)) p

  pub put_variable : (f : ℕ → ℕ) → variable_code ≤ n → n < function_code → ((i : ℕ) → f i ≡ get_or (env i) (n - variable_code) 0) → RowPut lanes rows d f rows' → PutWorth
  put_variable f h k e p =
      put_as lanes rows d f _ rows' (λ i m.
      let z : n - variable_code ≡ b - variable_code = omega arith in
      e i ∙ ap (λ (x : ℕ). get_or (env i) x 0) z ∙ worth_variable s funcs (env i) b (lane rows t i) (lane rows (t + 1) i) (lane rows (t + 2) i) (omega arith) (omega arith)) p

  module _ (a : ℕ) (function : function_code ≤ n) (written : n < operator_code) (is_a : a ≡ get_or funcs (n - function_code) 0) where
    place_is : a ≡ get_or funcs (b - function_code) 0
    place_is = let z : n - function_code ≡ b - function_code = omega arith in is_a ∙ ap (λ (x : ℕ). get_or funcs x 0) z

    pub put_one : get_or s a 0 ≡ 1 → RowPut lanes rows d (λ i. get_or s (a + 3 + lane rows t i) 0) rows' → PutWorth
    put_one h p = put_as lanes rows d _ _ rows' (λ i k. worth_one s funcs (env i) b (lane rows t i) (lane rows (t + 1) i) (lane rows (t + 2) i) a (omega arith) (omega arith) place_is h) p

    pub put_two : (width : ℕ) → (get_or s a 0 ≡ 1 → ⊥) → width ≡ size_in funcs (get_or s (a + 2) 0) → RowPut lanes rows d (λ i. get_or s (a + 4 + (lane rows t i * width + lane rows (t + 1) i)) 0) rows' → PutWorth
    put_two width h w p =
        put_as lanes rows d _ _ rows' (λ i k. worth_two s funcs (env i) b (lane rows t i) (lane rows (t + 1) i) (lane rows (t + 2) i) a (lane rows t i * width + lane rows (t + 1) i) (omega arith) (omega arith) place_is h (ap (λ (x : ℕ). lane rows t i * x + lane rows (t + 1) i) w)) p

  pub put_operator : operator_code ≤ n → RowPut lanes rows d (λ i. operator_worth (n - operator_code) (lane rows t i) (lane rows (t + 1) i) (lane rows (t + 2) i)) rows' → PutWorth
  put_operator h p =
      put_as lanes rows d _ _ rows' (λ i k.
      let z : n - operator_code ≡ b - operator_code = omega arith in
      ap (λ (m : ℕ). operator_worth m (lane rows t i) (lane rows (t + 1) i) (lane rows (t + 2) i)) z ∙ worth_operator s funcs (env i) b (lane rows t i) (lane rows (t + 1) i) (lane rows (t + 2) i) (omega arith)) p

-- what a variable is worth in a lane
module _ (e : List ℕ) (u v : ℕ) (slow fast : List ℕ) (i x : ℕ) where
  pub lane_fast : v < length e → x ≡ v → get_or fast i 0 ≡ get_or (lane_env e u v slow fast i) x 0
  lane_fast h q = sym (get_or-set_same (set e u (get_or slow i 0)) v (get_or fast i 0) 0 (let l = length-set e u (get_or slow i 0) in omega arith)) ∙ ap (λ (y : ℕ). get_or (lane_env e u v slow fast i) y 0) (sym q)

  pub lane_slow : u < length e → (x ≡ v → ⊥) → x ≡ u → get_or slow i 0 ≡ get_or (lane_env e u v slow fast i) x 0
  lane_slow h o q = sym (get_or-set_same e u (get_or slow i 0) 0 h) ∙ ap (λ (y : ℕ). get_or (set e u (get_or slow i 0)) y 0) (sym q) ∙ sym (get_or-set_other (set e u (get_or slow i 0)) v x (get_or fast i 0) 0 o)

  pub lane_other : (x ≡ v → ⊥) → (x ≡ u → ⊥) → get_or e x 0 ≡ get_or (lane_env e u v slow fast i) x 0
  lane_other o q = sym (get_or-set_other e u x (get_or slow i 0) 0 q) ∙ sym (get_or-set_other (set e u (get_or slow i 0)) v x (get_or fast i 0) 0 o)

-- THE ROWS OF A TERM

-- rows from t on are what the bytes of c from j to end are worth
abbrev pub Worth : ℕ → List ℕ → List ℕ → (ℕ → List ℕ) → List ℕ → List ℕ → ℕ → ℕ → ℕ → Type 0
Worth n s funcs env c rows t j end = (i : ℕ) → i < n → (m : ℕ) → lane rows (t + m) i ≡ get_or (run s funcs (env i) (take (end - j) (drop j c))) m 0

module _ (n : ℕ) (few_lanes : n ≤ 128) (s funcs : List ℕ) (env : ℕ → List ℕ) (c : List ℕ) where
  pub rows_start : (rows : List ℕ) (end : ℕ) → Zeros rows → Worth n s funcs env c rows 17 end end
  rows_start rows end z i h m =
      let o : end - end ≡ 0 = omega arith in
      z ((17 + m) * 128 + i) (omega arith) ∙ sym (ap (λ (l : List ℕ). get_or l m 0) (sym (run_none s funcs (env i) c end (end - end) o)))

  module _ (rows rows' : List ℕ) (j end t k u : ℕ) (first : 0 < j) (before : j ≤ end) (inside : end ≤ length c) (so_far : Worth n s funcs env c rows t j end) (zero_rows : Zeros rows)
      (is_k : k ≡ argument_count s funcs (node_of (get_or c (j - 1) 0))) (is_u : u ≡ min (t + k) 17 - 1) (deep : 0 < t) (few : t ≤ 17)
      (put : RowPut n rows u (λ i. worth_of s funcs (env i) (node_of (get_or c (j - 1) 0)) (lane rows t i) (lane rows (t + 1) i) (lane rows (t + 2) i)) rows') where
    pub zeros_again : Zeros rows'
    zeros_again x h = put.others x (λ a b. omega arith) ∙ zero_rows x h

    -- the rows behind the one that was put
    behind : (i : ℕ) → i < n → (m : ℕ) → lane rows' (u + suc m) i ≡ lane rows (t + (k + m)) i
    behind i h m = put.others ((u + suc m) * 128 + i) (λ a b. omega arith) ∙ go (ltb 17 (t + k)) refl
      where
        go : (b : Bool) → ltb 17 (t + k) ≡ b → lane rows (u + suc m) i ≡ lane rows (t + (k + m)) i
        go true q = let l = ltb-true 17 (t + k) q in zero_rows ((u + suc m) * 128 + i) (omega arith) ∙ sym (zero_rows ((t + (k + m)) * 128 + i) (omega arith))
        go false q = let l = ltb-false 17 (t + k) q in let z : u + suc m ≡ t + (k + m) = omega arith in ap (λ (x : ℕ). lane rows x i) z

    pub rows_again : Worth n s funcs env c rows' u (j - 1) end
    rows_again i h m =
        let a : end - (j - 1) ≡ suc (end - j) = omega arith in
        let y : j - 1 + 1 ≡ j = omega arith in
        let more = rw y at (run_more s funcs (env i) c (j - 1) (end - j) (omega arith)) in
        let t₀ : t ≡ t + 0 = omega arith in
        let x₀ : lane rows t i ≡ get_or (run s funcs (env i) (take (end - j) (drop j c))) 0 0 = ap (λ (x : ℕ). lane rows x i) t₀ ∙ so_far i h 0 in
        rw (a, more, ← x₀, ← so_far i h 1, ← so_far i h 2, ← is_k) (go m)
      where
        go : (m : ℕ) → lane rows' (u + m) i
            ≡ get_or (worth_of s funcs (env i) (node_of (get_or c (j - 1) 0)) (lane rows t i) (lane rows (t + 1) i) (lane rows (t + 2) i) ∷ drop k (run s funcs (env i) (take (end - j) (drop j c)))) m 0
        go zero = let z : u + 0 ≡ u = omega arith in ap (λ (x : ℕ). lane rows' x i) z ∙ put.lanes i h
        go (suc m) = behind i h m ∙ so_far i h (k + m) ∙ sym (get_or-drop k (run s funcs (env i) (take (end - j) (drop j c))) m 0)

-- LANES THAT ARE KEPT

-- the first k lanes are tested, and none is more than `some`
pub record Keeping (f : ℕ → ℕ) (wanted : ℕ) (met : List ℕ) (k : ℕ) (met' : List ℕ) (some : ℕ) : Type 0 where
  pub tested : (i : ℕ) → i < k → get_or met' i 0 ≡ pick (eqb (f i) wanted) (get_or met i 0) 0
  pub at_most : (i : ℕ) → i < k → get_or met' i 0 ≤ some
  pub untested : (i : ℕ) → k ≤ i → get_or met' i 0 ≡ get_or met i 0

pub keep_none : (f : ℕ → ℕ) (wanted : ℕ) (met : List ℕ) → Keeping f wanted met 0 met 0
keep_none f wanted met = record { tested = λ i h. absurd (omega arith); at_most = λ i h. absurd (omega arith); untested = λ i h. refl }

pub keep_more : (f : ℕ → ℕ) (wanted : ℕ) (met : List ℕ) (k : ℕ) (met' : List ℕ) (some w some' : ℕ) → k < length met' → w ≡ pick (eqb (f k) wanted) (get_or met' k 0) 0 → some ≤ some' → w ≤ some' → Keeping f wanted met k met' some → Keeping f wanted met (k + 1) (set met' k w) some'
keep_more f wanted met k met' some w some' h e s z p =
    record {
      tested = λ i l. at i (ltb i k) refl l;
      at_most = λ i l. below i (ltb i k) refl l;
      untested = λ i l. get_or-set_other met' k i w 0 (λ y. omega arith) ∙ p.untested i (omega arith);
    }
  where
    last : get_or (set met' k w) k 0 ≡ w
    last = get_or-set_same met' k w 0 h

    at : (i : ℕ) (t : Bool) → ltb i k ≡ t → i < k + 1 → get_or (set met' k w) i 0 ≡ pick (eqb (f i) wanted) (get_or met i 0) 0
    at i true q l = let m = ltb-true i k q in get_or-set_other met' k i w 0 (λ y. omega arith) ∙ p.tested i m
    at i false q l =
        let m = ltb-false i k q in
        let y : i ≡ k = omega arith in
        rw y (last ∙ e ∙ ap (λ (x : ℕ). pick (eqb (f k) wanted) x 0) (p.untested k (omega arith)))

    below : (i : ℕ) (t : Bool) → ltb i k ≡ t → i < k + 1 → get_or (set met' k w) i 0 ≤ some'
    below i true q l = let m = ltb-true i k q in omega (arith, get_or-set_other met' k i w 0 (λ y. omega arith), p.at_most i m)
    below i false q l =
        let m = ltb-false i k q in
        let y : i ≡ k = omega arith in
        rw y (omega (arith, last))

pub keep_all : (n : ℕ) (f : ℕ → ℕ) (wanted : ℕ) (met : List ℕ) (k : ℕ) (met' : List ℕ) (some : ℕ) (left : Bool) → n ≤ k → (left ≡ false → some ≡ 0) → Keeping f wanted met k met' some → LanesKept n f wanted met met' left
keep_all n f wanted met k met' some left e q p = record { kept_lanes = λ i h. p.tested i (omega arith); none_left = λ z i h. omega (arith, q z, p.at_most i (omega arith)) }

-- the same lanes by other words
pub kept_as : (n : ℕ) (f g : ℕ → ℕ) (wanted : ℕ) (met met' : List ℕ) (some : Bool) → ((i : ℕ) → i < n → f i ≡ g i) → LanesKept n f wanted met met' some → LanesKept n g wanted met met' some
kept_as n f g wanted met met' some h p = record { kept_lanes = λ i k. p.kept_lanes i k ∙ ap (λ (x : ℕ). pick (eqb x wanted) (get_or met i 0) 0) (h i k); none_left = p.none_left }

-- ALL PLACES IN THE STREAM

-- no value in the lanes names a place past that of the highest
pub below_highest : (q x y m n width at : ℕ) → x ≤ m → y ≤ n → q + (m * width + n) < at → q + (x * width + y) < at
below_highest q x y m n width at h k l = let z : x * width ≤ m * width = mul-le-mul h (let r : width ≤ width = omega arith in r) in omega arith

pub high_more : (rows : List ℕ) (t i m x w m' : ℕ) → x ≡ t * 128 + i → w ≡ get_or rows x 0 → m ≤ m' → w ≤ m' → ((k : ℕ) → k < i → lane rows t k ≤ m) → (k : ℕ) → k < i + 1 → lane rows t k ≤ m'
high_more rows t i m x w m' e v h l p k o = go (ltb k i) refl
  where
    go : (b : Bool) → ltb k i ≡ b → lane rows t k ≤ m'
    go true q = omega (arith, p k (ltb-true k i q))
    go false q = let z = ltb-false k i q in let y : t * 128 + k ≡ x = omega arith in let u : lane rows t k ≡ w = ap (λ (n : ℕ). get_or rows n 0) y ∙ sym v in omega arith

-- one element more of a list is known
pub list_more : (P : ℕ → ℕ → Type 0) (n : ℕ) (l : List ℕ) (w : ℕ) → n < length l → P n w → ((m : ℕ) → m < n → P m (get_or l m 0)) → (m : ℕ) → m < n + 1 → P m (get_or (set l n w) m 0)
list_more P n l w h e p m k = go (ltb m n) refl
  where
    go : (t : Bool) → ltb m n ≡ t → P m (get_or (set l n w) m 0)
    go true q = let o = ltb-true m n q in subst (P m) (sym (get_or-set_other l n m w 0 (λ y. omega arith))) (p m o)
    go false q =
        let o = ltb-false m n q in
        let z : n ≡ m = omega arith in
        subst (λ (x : ℕ). P x (get_or (set l n w) x 0)) z (subst (P n) (sym (get_or-set_same l n w 0 h)) e)
