-- Laws of the bytes of terms: one byte more, and what hangs on which variables.
use mathlib.Core.Path.{◌≡◌, refl, sym, ap, ◌∙◌}
use mathlib.Core.List.{List, [], ◌∷◌}
use mathlib.Core.Bool.{Bool, true, false}
use Prim.Native.Nat.{ℕ, zero, suc, ◌+◌, ◌-◌, ◌*◌, ◌≤◌, ◌<◌, max, min}
use native.Mathlib.Nat.{add-zero}
use native.Mathlib.Numerals.{add-one}
use native.Mathlib.Omega.{arith}
use lib.Dec.{ltb}
use lib.ListN.{length, get_or, drop, take, set, length-set, drop_of_length-le}
use lib.Seq.{drop-cons, drop-drop, get_or-drop}
use borrow.Author.Tests.{eq-eqb, ne_eqb, ltb-true, ltb-false, lt-ltb, le-ltb}
use Rattle.pcrl.specs.Limits.{frame_width, max_variables}
use Rattle.pcrl.specs.Sheet.{not_number}
use Rattle.pcrl.specs.Stream.{variable_code, function_code}
use Rattle.pcrl.specs.Decode.{Node, value, variable, function, node_of}
use Rattle.codec.specs.TermLaws.{node_value, node_variable, node_function}
use Rattle.terms.specs.Stands.{size_in}
use Rattle.terms.proofs.Stack.{push_at}
use Rattle.evaluation.specs.Run.{pick, operator_code, operator_count, operator_worth, argument_count, extent, worth_of, run, named, peak, lowered, foot}

-- A BYTE'S KIND

pub is_value : (b : ℕ) → b < variable_code → node_of b ≡ value b
is_value b h = node_value b h

pub is_variable : (b : ℕ) → variable_code ≤ b → b < function_code → node_of b ≡ variable (b - variable_code)
is_variable b h k = let z : b ≡ variable_code + (b - variable_code) = omega arith in ap node_of z ∙ node_variable (b - variable_code) (omega arith)

pub is_function : (b : ℕ) → function_code ≤ b → node_of b ≡ function (b - function_code)
is_function b h = let z : b ≡ function_code + (b - function_code) = omega arith in ap node_of z ∙ node_function (b - function_code)

-- a byte below the functions is a value or a variable
pub below_functions : (P : Node → Type 0) (b : ℕ) → b < function_code → ((v : ℕ) → P (value v)) → ((i : ℕ) → P (variable i)) → P (node_of b)
below_functions P b h f g = go (ltb b variable_code) refl
  where
    go : (t : Bool) → ltb b variable_code ≡ t → P (node_of b)
    go true e = rw (is_value b (ltb-true b variable_code e)) (f b)
    go false e = rw (is_variable b (ltb-false b variable_code e) h) (g (b - variable_code))

-- what is lowered is no higher than either
lowered_le : (p n m i : ℕ) → m ≤ i → lowered p n m ≤ i
lowered_le p n m i h = go (ltb p n)
  where
    go : (t : Bool) → pick t (min (n - 1) m) m ≤ i
    go true = omega arith
    go false = h

lowered_is : (p n m i : ℕ) → p < n → n ≡ suc i → lowered p n m ≤ i
lowered_is p n m i l e = rw (lt-ltb p n l) (omega arith)

pub lowered_yes : (p n m r : ℕ) → p < n → r ≡ min (n - 1) m → r ≡ lowered p n m
lowered_yes p n m r l e = rw (lt-ltb p n l) e

pub lowered_no : (p n m : ℕ) → n ≤ p → m ≡ lowered p n m
lowered_no p n m l = rw (le-ltb p n l) refl

module _ (s funcs : List ℕ) where
  pub no_arguments : (b : ℕ) → b < function_code → 0 ≡ argument_count s funcs (node_of b)
  unfolding argument_count
  no_arguments b h = below_functions (λ n. 0 ≡ argument_count s funcs n) b h (λ v. refl) (λ i. refl)

  pub one_argument : (b p : ℕ) → function_code ≤ b → b < operator_code → p ≡ get_or funcs (b - function_code) 0 → get_or s p 0 ≡ 1 → 1 ≡ argument_count s funcs (node_of b)
  unfolding argument_count
  one_argument b p h l e k = rw (is_function b h, lt-ltb (b - function_code) not_number (omega arith), ← e, eq-eqb (get_or s p 0) 1 k) refl

  pub two_arguments : (b p : ℕ) → function_code ≤ b → b < operator_code → p ≡ get_or funcs (b - function_code) 0 → (get_or s p 0 ≡ 1 → ⊥) → 2 ≡ argument_count s funcs (node_of b)
  unfolding argument_count
  two_arguments b p h l e k = rw (is_function b h, lt-ltb (b - function_code) not_number (omega arith), ← e, ne_eqb (get_or s p 0) 1 k) refl

  pub operator_arguments : (b : ℕ) → operator_code ≤ b → operator_count (b - operator_code) ≡ argument_count s funcs (node_of b)
  unfolding argument_count
  operator_arguments b h =
      let z : b - operator_code ≡ b - function_code - not_number = omega arith in
      rw (is_function b (omega arith), le-ltb (b - function_code) not_number (omega arith)) (ap operator_count z)

  -- SCANNING

  pub extent_none : (l : List ℕ) → extent s funcs l 0 ≡ 0
  unfolding extent
  extent_none [] = refl
  extent_none (b ∷ l) = refl

  pub extent_end : (c : List ℕ) (i n : ℕ) → length c ≤ i → extent s funcs (drop i c) n ≡ 0
  unfolding extent
  extent_end c i n h = rw (drop_of_length-le c {i = i} h) refl

  pub extent_step : (c : List ℕ) (i n : ℕ) → i < length c → 0 < n → extent s funcs (drop i c) n ≡ suc (extent s funcs (drop (i + 1) c) (n - 1 + argument_count s funcs (node_of (get_or c i 0))))
  unfolding extent
  extent_step c i zero h p = absurd (omega arith)
  extent_step c i (suc n) h p = let e : suc n - 1 ≡ n = omega arith in rw (e, add-one i, drop-cons c i 0) refl

  -- VALUES

  module _ (e : List ℕ) where
    module _ (b x y z : ℕ) where
      pub worth_value : b < variable_code → b ≡ worth_of s funcs e (node_of b) x y z
      unfolding worth_of
      worth_value h = rw (is_value b h) refl

      pub worth_variable : variable_code ≤ b → b < function_code → get_or e (b - variable_code) 0 ≡ worth_of s funcs e (node_of b) x y z
      unfolding worth_of
      worth_variable h k = rw (is_variable b h k) refl

      pub worth_one : (p : ℕ) → function_code ≤ b → b < operator_code → p ≡ get_or funcs (b - function_code) 0 → get_or s p 0 ≡ 1 → get_or s (p + 3 + x) 0 ≡ worth_of s funcs e (node_of b) x y z
      unfolding worth_of
      worth_one p h l q k = rw (is_function b h, lt-ltb (b - function_code) not_number (omega arith), ← q, eq-eqb (get_or s p 0) 1 k) refl

      pub worth_two : (p i : ℕ) → function_code ≤ b → b < operator_code → p ≡ get_or funcs (b - function_code) 0 → (get_or s p 0 ≡ 1 → ⊥) → i ≡ x * size_in funcs (get_or s (p + 2) 0) + y
          → get_or s (p + 4 + i) 0 ≡ worth_of s funcs e (node_of b) x y z
      unfolding worth_of
      worth_two p i h l q k j = rw (is_function b h, lt-ltb (b - function_code) not_number (omega arith), ← q, ne_eqb (get_or s p 0) 1 k, j) refl

      pub worth_operator : operator_code ≤ b → operator_worth (b - operator_code) x y z ≡ worth_of s funcs e (node_of b) x y z
      unfolding worth_of
      worth_operator h =
          let m : b - operator_code ≡ b - function_code - not_number = omega arith in
          rw (is_function b (omega arith), le-ltb (b - function_code) not_number (omega arith)) (ap (λ (n : ℕ). operator_worth n x y z) m)

    -- the bytes from i to end are worth nothing at the end, and one more than from i + 1 on
    pub run_none : (c : List ℕ) (i n : ℕ) → n ≡ 0 → [] ≡ run s funcs e (take n (drop i c))
    unfolding run
    run_none c i n h = rw h refl

    pub run_more : (c : List ℕ) (i n : ℕ) → i < length c → run s funcs e (take (suc n) (drop i c))
        ≡ worth_of s funcs e (node_of (get_or c i 0)) (get_or (run s funcs e (take n (drop (i + 1) c))) 0 0) (get_or (run s funcs e (take n (drop (i + 1) c))) 1 0) (get_or (run s funcs e (take n (drop (i + 1) c))) 2 0)
        ∷ drop (argument_count s funcs (node_of (get_or c i 0))) (run s funcs e (take n (drop (i + 1) c)))
    unfolding run
    run_more c i n h = rw (drop-cons c i 0 h, add-one i) refl

  -- A term's value hangs on no variable from its peak on.
  module _ (e f : List ℕ) where
    worth_same : (n : Node) (x y z : ℕ) → ((i : ℕ) → i < named n → get_or e i 0 ≡ get_or f i 0) → worth_of s funcs e n x y z ≡ worth_of s funcs f n x y z
    unfolding worth_of named
    worth_same (value v) x y z h = refl
    worth_same (variable i) x y z h = h i (omega arith)
    worth_same (function g) x y z h = refl

    pub run_same : (c : List ℕ) → ((i : ℕ) → i < peak c → get_or e i 0 ≡ get_or f i 0) → run s funcs e c ≡ run s funcs f c
    unfolding run peak
    run_same [] h = refl
    run_same (b ∷ c) h =
        let r = run_same c (λ i k. h i (omega arith)) in
        rw r (ap (λ (v : ℕ). v ∷ drop (argument_count s funcs (node_of b)) (run s funcs f c)) (worth_same (node_of b) _ _ _ (λ i k. h i (omega arith))))

  -- A term's value hangs on no variable between the first p and its foot.
  module _ (e f : List ℕ) (p : ℕ) where
    worth_past : (n : Node) (m x y z : ℕ) → ((i : ℕ) → (p ≤ i → lowered p (named n) m ≤ i) → get_or e i 0 ≡ get_or f i 0) → worth_of s funcs e n x y z ≡ worth_of s funcs f n x y z
    unfolding worth_of named
    worth_past (value v) m x y z h = refl
    worth_past (variable i) m x y z h = h i (λ k. lowered_is p (suc i) m i (omega arith) (omega arith))
    worth_past (function g) m x y z h = refl

    pub run_past : (c : List ℕ) → ((i : ℕ) → (p ≤ i → foot p c ≤ i) → get_or e i 0 ≡ get_or f i 0) → run s funcs e c ≡ run s funcs f c
    unfolding run foot
    run_past [] h = refl
    run_past (b ∷ c) h =
        let r = run_past c (λ i k. h i (λ l. lowered_le p (named (node_of b)) (foot p c) i (k l))) in
        rw r (ap (λ (v : ℕ). v ∷ drop (argument_count s funcs (node_of b)) (run s funcs f c)) (worth_past (node_of b) (foot p c) _ _ _ h))

-- THE HIGHEST AND THE LOWEST VARIABLE

pub named_value : (b : ℕ) → b < variable_code → 0 ≡ named (node_of b)
unfolding named
named_value b h = rw (is_value b h) refl

pub named_variable : (b : ℕ) → variable_code ≤ b → b < function_code → b - variable_code + 1 ≡ named (node_of b)
unfolding named
named_variable b h k = rw (is_variable b h k) (omega arith)

pub named_function : (b : ℕ) → function_code ≤ b → 0 ≡ named (node_of b)
unfolding named
named_function b h = rw (is_function b h) refl

pub peak_none : (c : List ℕ) (i n : ℕ) → n ≡ 0 → 0 ≡ peak (take n (drop i c))
unfolding peak
peak_none c i n h = rw h refl

pub peak_more : (c : List ℕ) (i n : ℕ) → i < length c → peak (take (suc n) (drop i c)) ≡ max (named (node_of (get_or c i 0))) (peak (take n (drop (i + 1) c)))
unfolding peak
peak_more c i n h = rw (drop-cons c i 0 h, add-one i) refl

pub foot_none : (p : ℕ) (c : List ℕ) (i n : ℕ) → n ≡ 0 → frame_width + max_variables ≡ foot p (take n (drop i c))
unfolding foot
foot_none p c i n h = rw h refl

pub foot_more : (p : ℕ) (c : List ℕ) (i n : ℕ) → i < length c → foot p (take (suc n) (drop i c)) ≡ lowered p (named (node_of (get_or c i 0))) (foot p (take n (drop (i + 1) c)))
unfolding foot
foot_more p c i n h = rw (drop-cons c i 0 h, add-one i) refl

-- THE STACK OF VALUES, from t on

-- x is put on the stack, and k values are taken
pub stack_put : (l : List ℕ) (t k u x : ℕ) → length l ≡ 48 → 0 < t → t ≤ 48 → u ≡ min (t - 1 + k) 48 → drop u (set l (t - 1) x) ≡ drop k (x ∷ drop t l)
stack_put l t k u x n p h e = go (ltb (t - 1 + k) 48) refl ∙ sym (drop-drop k (t - 1) l') ∙ ap (drop k) (push_at l t x p (omega arith))
  where
    l' : List ℕ
    l' = set l (t - 1) x

    go : (b : Bool) → ltb (t - 1 + k) 48 ≡ b → drop u (set l (t - 1) x) ≡ drop (t - 1 + k) (set l (t - 1) x)
    go true q = let a = ltb-true (t - 1 + k) 48 q in let z : u ≡ t - 1 + k = omega arith in ap (λ (m : ℕ). drop m (set l (t - 1) x)) z
    go false q =
        let a = ltb-false (t - 1 + k) 48 q in
        let m = length-set l (t - 1) x in
        drop_of_length-le (set l (t - 1) x) {i = u} (omega arith) ∙ sym (drop_of_length-le (set l (t - 1) x) {i = t - 1 + k} (omega arith))

-- what the stack is worth at the start: nothing
pub run_start : (s funcs e c stack : List ℕ) (i n : ℕ) → n ≡ 0 → length stack ≡ 48 → (m : ℕ) → get_or (0 ∷ drop 48 stack) m 0 ≡ get_or (run s funcs e (take n (drop i c))) m 0
run_start s funcs e c stack i n z l m =
    let d : drop 48 stack ≡ [] = drop_of_length-le stack {i = 48} (omega arith) in
    ap (λ (y : List ℕ). get_or (0 ∷ y) m 0) d ∙ none 0 m ∙ ap (λ (y : List ℕ). get_or y m 0) (run_none s funcs e c i n z)
  where
    none : (x m : ℕ) → get_or (x ∷ []) m x ≡ x
    none x zero = refl
    none x (suc m) = refl

-- one byte more is read: the value x is put on the stack, k arguments are taken, and v is the value last found
pub run_again : (s funcs e c stack : List ℕ) (i end t k u v x : ℕ) → length stack ≡ 48 → 0 < t → t ≤ 48 → 0 < i → i ≤ end → end ≤ length c
    → ((m : ℕ) → get_or (x ∷ drop t stack) m 0 ≡ get_or (run s funcs e (take (end - i) (drop i c))) m 0)
    → v ≡ worth_of s funcs e (node_of (get_or c (i - 1) 0)) x (get_or stack t 0) (get_or stack (t + 1) 0) → k ≡ argument_count s funcs (node_of (get_or c (i - 1) 0)) → u ≡ min (t - 1 + k) 48
    → (m : ℕ) → get_or (v ∷ drop u (set stack (t - 1) x)) m 0 ≡ get_or (run s funcs e (take (end - (i - 1)) (drop (i - 1) c))) m 0
run_again s funcs e c stack i end t k u v x n p h q r w before ev ek eu m =
    let a : end - (i - 1) ≡ suc (end - i) = omega arith in
    let j : i - 1 + 1 ≡ i = omega arith in
    let more = rw j at (run_more s funcs e c (i - 1) (end - i) (omega arith)) in
    let y : get_or stack t 0 ≡ get_or (run s funcs e (take (end - i) (drop i c))) 1 0 = ap (λ (j : ℕ). get_or stack j 0) (sym (add-zero t)) ∙ sym (get_or-drop t stack 0 0) ∙ before 1 in
    let z : get_or stack (t + 1) 0 ≡ get_or (run s funcs e (take (end - i) (drop i c))) 2 0 = sym (get_or-drop t stack 1 0) ∙ before 2 in
    let put = stack_put stack t k u x n p h eu in
    rw (a, more, ← before 0, ← y, ← z, ← ek, ← ev) (go m put)
  where
    go : (m : ℕ) → drop u (set stack (t - 1) x) ≡ drop k (x ∷ drop t stack) → get_or (v ∷ drop u (set stack (t - 1) x)) m 0 ≡ get_or (v ∷ drop k (run s funcs e (take (end - i) (drop i c)))) m 0
    go zero put = refl
    go (suc m) put = ap (λ (z : List ℕ). get_or z m 0) put ∙ get_or-drop k (x ∷ drop t stack) m 0 ∙ before (k + m) ∙ sym (get_or-drop k (run s funcs e (take (end - i) (drop i c))) m 0)
