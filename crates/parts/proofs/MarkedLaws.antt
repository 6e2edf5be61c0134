-- The marked elements of a list, the lowest mark first.
use mathlib.Core.Path.{◌≡◌, refl, sym, ap, ap₂, subst, ◌∙◌}
use mathlib.Core.List.{List, [], ◌∷◌, ◌++◌, append-nil, append_assoc}
use mathlib.Core.Bool.{Bool, true, false}
use Prim.Native.Nat.{ℕ, zero, suc, ◌+◌, ◌-◌, ◌/◌, ◌%◌, ◌^◌, ◌≤◌, ◌<◌}
use native.Mathlib.Nat.{pow-suc, pow-succ', div-div-eq-div-mul, div-one, mod-eq_of_lt}
use native.Mathlib.Numerals.{add-one}
use native.Mathlib.Omega.{arith}
use lib.ListN.{length, drop, get_or, length-drop, length-append}
use lib.Seq.{drop-drop, get_or-drop}
use lib.Pow.{shr_lt}
use lib.Count.{count_trailing_zeros, under}
use Rattle.pcrl.specs.Parts.{count, marked}
use Rattle.pcrl.specs.Stream.{encode_numbers}
use Rattle.nodes.specs.Bits.{odd}
use Rattle.nodes.specs.Layout.{byte_limit}
use Rattle.marking.specs.Marks.{bits}
use Rattle.emit.specs.Putting.{PutsTo, NoRoom}
use Rattle.emit.proofs.Putting.{puts_none, puts_then, puts_as, no_room_as, no_room_then}

pub bits_length : (k m : ℕ) → length (bits k m) ≡ k
unfolding bits
bits_length zero m = refl
bits_length (suc k) m = ap suc (bits_length k (m / 2))

-- as many as are marked
pub marked_length : {A : Type 0} (bs : List Bool) (xs : List A) → length bs ≤ length xs → length (marked bs xs) ≡ count bs
unfolding marked count
marked_length [] xs h = refl
marked_length (true ∷ bs) [] h = absurd (omega arith)
marked_length (false ∷ bs) [] h = absurd (omega arith)
marked_length (true ∷ bs) (x ∷ xs) h = ap suc (marked_length bs xs (omega arith))
marked_length (false ∷ bs) (x ∷ xs) h = marked_length bs xs (omega arith)

pub marked_few : (bs : List Bool) (xs : List ℕ) → length (marked bs xs) ≤ length xs
unfolding marked
marked_few [] xs = omega arith
marked_few (true ∷ bs) [] = omega arith
marked_few (false ∷ bs) [] = omega arith
marked_few (true ∷ bs) (x ∷ xs) = omega (arith, marked_few bs xs)
marked_few (false ∷ bs) (x ∷ xs) = omega (arith, marked_few bs xs)

-- bits past the list's end do not matter
marked_enough : (k y : ℕ) (xs : List ℕ) → length xs ≤ k → marked (bits (suc k) y) xs ≡ marked (bits k y) xs
unfolding bits marked
marked_enough zero y [] h = refl
marked_enough zero y (x ∷ xs) h = absurd (omega arith)
marked_enough (suc k) y [] h = refl
marked_enough (suc k) y (x ∷ xs) h = go (odd (y % 2)) (marked_enough k (y / 2) xs (omega arith))
  where
    go : (b : Bool) → marked (bits (suc k) (y / 2)) xs ≡ marked (bits k (y / 2)) xs → marked (b ∷ bits (suc k) (y / 2)) (x ∷ xs) ≡ marked (b ∷ bits k (y / 2)) (x ∷ xs)
    go true e = ap (λ (l : List ℕ). x ∷ l) e
    go false e = e

marked_none : (k : ℕ) (xs : List ℕ) → marked (bits k 0) xs ≡ []
unfolding bits marked odd
marked_none zero xs = refl
marked_none (suc k) [] = refl
marked_none (suc k) (x ∷ xs) = marked_none k xs

trailing_lt : (k j n : ℕ) → 0 < n → n < 2 ^ j → j ≤ k → count_trailing_zeros k n < j
unfolding count_trailing_zeros
trailing_lt zero j n p h l = let e : j ≡ 0 = omega arith in absurd (subst (λ (x : ℕ). n < 2 ^ x → ⊥) (sym e) (λ q. omega arith) h)
trailing_lt (suc k) zero n p h l = absurd (omega arith)
trailing_lt (suc k) (suc j) n p h l = go (n % 2) refl (λ q. trailing_lt k j (n / 2) q (omega (arith, pow-suc 2 j)) (omega arith))
  where
    go : (d : ℕ) → n % 2 ≡ d → (0 < n / 2 → count_trailing_zeros k (n / 2) < j) → under d (count_trailing_zeros k (n / 2)) < suc j
    go zero e ih = let q : count_trailing_zeros k (n / 2) < j = ih (omega arith) in omega arith
    go (suc d) e ih = omega arith

-- THE LOWEST MARK is the first marked element; the others are those of what is left
marked_first : (k n : ℕ) (xs : List ℕ) → 0 < n → n < 2 ^ length xs → length xs ≤ k
    → marked (bits k n) xs ≡ get_or xs (count_trailing_zeros k n) 0 ∷ marked (bits k (n / 2 ^ count_trailing_zeros k n / 2)) (drop (count_trailing_zeros k n + 1) xs)
unfolding bits count_trailing_zeros odd marked
marked_first zero n [] p h l = absurd (omega arith)
marked_first zero n (x ∷ xs) p h l = absurd (omega arith)
marked_first (suc k) n [] p h l = absurd (omega arith)
marked_first (suc k) n (x ∷ xs) p h l = go (n % 2) refl (λ q. marked_first k (n / 2) xs q (omega (arith, pow-suc 2 (length xs))) (omega arith))
  where
    go : (d : ℕ) → n % 2 ≡ d
        → (0 < n / 2 → marked (bits k (n / 2)) xs ≡ get_or xs (count_trailing_zeros k (n / 2)) 0 ∷ marked (bits k (n / 2 / 2 ^ count_trailing_zeros k (n / 2) / 2)) (drop (count_trailing_zeros k (n / 2) + 1) xs))
        → marked (odd d ∷ bits k (n / 2)) (x ∷ xs) ≡ get_or (x ∷ xs) (under d (count_trailing_zeros k (n / 2))) 0 ∷ marked (bits (suc k) (n / 2 ^ under d (count_trailing_zeros k (n / 2)) / 2)) (drop (under d (count_trailing_zeros k (n / 2)) + 1) (x ∷ xs))
    go zero e ih =
        let t = count_trailing_zeros k (n / 2) in
        let z : suc t + 1 ≡ suc (t + 1) = omega arith in
        let short : length (drop (t + 1) xs) ≤ k = omega (arith, length-drop (t + 1) xs) in
        ih (omega arith)
        ∙ ap (λ (l : List ℕ). get_or xs t 0 ∷ l)
        (sym (marked_enough k (n / 2 / 2 ^ t / 2) (drop (t + 1) xs) short)
        ∙ ap (λ (y : ℕ). marked (bits (suc k) (y / 2)) (drop (t + 1) xs)) (div-div-eq-div-mul n 2 (2 ^ t) ∙ ap (λ (y : ℕ). n / y) (sym (pow-succ' 2 t)))
        ∙ ap (λ (y : ℕ). marked (bits (suc k) (n / 2 ^ suc t / 2)) (drop y (x ∷ xs))) (sym z))
    go (suc d) e ih = ap (λ (l : List ℕ). x ∷ l) (sym (marked_enough k (n / 2) xs (omega arith)) ∙ ap (λ (y : ℕ). marked (bits (suc k) (y / 2)) xs) (sym (div-one n)))

-- what is put of the marks of m, and what is left
pub record Listed (m : ℕ) (sorts : List ℕ) (w : ℕ) (o : List ℕ) (rest at v : ℕ) (q : List ℕ) : Type 0 where
  pub at_le : at ≤ 32
  pub rest_lt : rest < 2 ^ (32 - at)
  pub done : List ℕ
  pub whole : marked (bits 32 m) sorts ≡ done ++ marked (bits 32 rest) (drop at sorts)
  pub puts : PutsTo done w o v q

pub listed_start : (m : ℕ) (sorts : List ℕ) (w : ℕ) (o : List ℕ) → m < 2 ^ 32 → Listed m sorts w o m 0 w o
listed_start m sorts w o h = record { at_le = omega arith; rest_lt = h; done = []; whole = refl; puts = puts_none w o }

positive : (r : ℕ) → (r ≡ 0 → ⊥) → 0 < r
positive zero q = absurd (q refl)
positive (suc r) q = omega arith

module _ (m : ℕ) (sorts : List ℕ) (w : ℕ) (o : List ℕ) (rest at v : ℕ) (q : List ℕ) (size : length sorts ≡ 32) (i : Listed m sorts w o rest at v q) where
  module _ (p : rest ≡ 0 → ⊥) where
    pub t_lt : count_trailing_zeros 32 rest < 32 - at
    t_lt = trailing_lt 32 (32 - at) rest (positive rest p) i.rest_lt (omega arith)

    -- no room for the next one
    pub listed_no_room : (t b : ℕ) (r : List ℕ) → t ≡ count_trailing_zeros 32 rest → NoRoom (b ∷ []) v q r → NoRoom (marked (bits 32 m) sorts) w o r
    listed_no_room t b r et put =
        let tl = t_lt in
        let le = i.at_le in
        let left : length (drop at sorts) ≡ 32 - at = length-drop at sorts ∙ ap (λ (k : ℕ). k - at) size in
        let first = marked_first 32 rest (drop at sorts) (positive rest p) (subst (λ (k : ℕ). rest < 2 ^ k) (sym left) i.rest_lt) (omega arith) in
        no_room_as (omega (arith, ap length i.whole, length-append i.done (marked (bits 32 rest) (drop at sorts)), ap length first, length-append i.done (b ∷ []))) (no_room_then i.puts put)

    pub listed_more : (t a b u : ℕ) (r : List ℕ) → t ≡ count_trailing_zeros 32 rest → a ≡ at + t + 1 → b ≡ get_or sorts (at + t) 0 → PutsTo (b ∷ []) v q u r → Listed m sorts w o (rest / 2 ^ t / 2) a u r
    listed_more t a b u r et ea eb put =
        let tl = t_lt in
        let le = i.at_le in
        let left : length (drop at sorts) ≡ 32 - at = length-drop at sorts ∙ ap (λ (k : ℕ). k - at) size in
        let first = marked_first 32 rest (drop at sorts) (positive rest p) (subst (λ (k : ℕ). rest < 2 ^ k) (sym left) i.rest_lt) (omega arith) in
        let split : 32 - at ≡ 32 - a + (t + 1) = omega arith in
        let z : at + (t + 1) ≡ a = omega arith in
        record {
          at_le = omega arith;
          rest_lt = rw (div-div-eq-div-mul rest (2 ^ t) 2, ← pow-suc 2 t, ← add-one t) (shr_lt (32 - a) (t + 1) (subst (λ (k : ℕ). rest < 2 ^ k) split i.rest_lt));
          done = i.done ++ (b ∷ []);
          whole =
              i.whole
              ∙ ap (λ (l : List ℕ). i.done ++ l)
              (first
              ∙ ap (λ (k : ℕ). get_or (drop at sorts) k 0 ∷ marked (bits 32 (rest / 2 ^ k / 2)) (drop (k + 1) (drop at sorts))) (sym et)
              ∙ ap₂ (λ (x : ℕ) (l : List ℕ). x ∷ marked (bits 32 (rest / 2 ^ t / 2)) l) (get_or-drop at sorts t 0 ∙ sym eb) (drop-drop (t + 1) at sorts ∙ ap (λ (k : ℕ). drop k sorts) z))
              ∙ sym (append_assoc i.done (b ∷ []) (marked (bits 32 (rest / 2 ^ t / 2)) (drop a sorts)));
          puts = puts_then i.puts put;
        }

  pub listed_all : rest ≡ 0 → PutsTo (marked (bits 32 m) sorts) w o v q
  listed_all z = puts_as w o v q (sym (i.whole ∙ ap (λ (l : List ℕ). i.done ++ l) (ap (λ (k : ℕ). marked (bits 32 k) (drop at sorts)) z ∙ marked_none 32 (drop at sorts)) ∙ append-nil i.done)) i.puts

-- the count first
pub params_put : (m : ℕ) (sorts : List ℕ) (n b w : ℕ) (o : List ℕ) (v : ℕ) (p : List ℕ) (r : ℕ) (q : List ℕ) → length sorts ≡ 32 → n ≡ count (bits 32 m) → b ≡ n % byte_limit → PutsTo (b ∷ []) w o v p
    → PutsTo (marked (bits 32 m) sorts) v p r q → PutsTo (encode_numbers (marked (bits 32 m) sorts)) w o r q
unfolding encode_numbers
params_put m sorts n b w o v p r q size en eb f g =
    let many : length (marked (bits 32 m) sorts) ≡ count (bits 32 m) = marked_length (bits 32 m) sorts (omega (arith, bits_length 32 m)) in
    let few = marked_few (bits 32 m) sorts in
    puts_as w o r q (ap (λ (x : ℕ). (x ∷ []) ++ marked (bits 32 m) sorts) (eb ∙ mod-eq_of_lt (omega arith) ∙ en ∙ sym many)) (puts_then f g)

-- no room for it, or for what is behind it
pub count_no_room : (m : ℕ) (sorts : List ℕ) (b w : ℕ) (o p : List ℕ) → NoRoom (b ∷ []) w o p → NoRoom (encode_numbers (marked (bits 32 m) sorts)) w o p
unfolding encode_numbers
count_no_room m sorts b w o p h = no_room_as (omega arith) h

pub marks_no_room : (m : ℕ) (sorts : List ℕ) (b w : ℕ) (o : List ℕ) (v : ℕ) (p q : List ℕ) → PutsTo (b ∷ []) w o v p → NoRoom (marked (bits 32 m) sorts) v p q → NoRoom (encode_numbers (marked (bits 32 m) sorts)) w o q
unfolding encode_numbers
marks_no_room m sorts b w o v p q f g = no_room_as (omega arith) (no_room_then f g)
