-- The terms in the marked slots, one after another: the next one is found by the zeros below the lowest mark.
use mathlib.Core.Path.{◌≡◌, refl, sym, ap, ap₂, ◌∙◌, subst}
use mathlib.Core.List.{List, [], ◌∷◌, ◌++◌, append_assoc, append-nil}
use Rattle.std.specs.Prelude.{Some, None}
use Prim.Native.Nat.{ℕ, zero, suc, ◌+◌, ◌-◌, ◌/◌, ◌%◌, ◌^◌, ◌<◌, ◌≤◌}
use native.Mathlib.Nat.{pow-suc, pow-succ', div-div-eq-div-mul, div-le_self, div-one}
use native.Mathlib.Omega.{arith}
use lib.ListN.{length, drop, take, get_or, length-drop}
use lib.Seq.{get_or-drop, drop-drop}
use lib.Count.{count_trailing_zeros, under}
use Rattle.pcrl.specs.Limits.{frame_width}
use Rattle.pcrl.specs.Tests.{Every}
use Rattle.pcrl.specs.Reader.{all}
use Rattle.pcrl.specs.Sheet.{Data, val}
use Rattle.pcrl.specs.Parts.{marked}
use Rattle.pcrl.specs.Stream.{encode_data}
use Rattle.pcrl.specs.Right.{Small}
use Rattle.pcrl.specs.Heads.{look}
use Rattle.nodes.specs.Bits.{odd}
use Rattle.putting.specs.Slots.{Slots}
use Rattle.marking.specs.Marks.{bits}
use Rattle.following.specs.Follows.{OnePut, MarkedPut}

-- THE NEXT MARK

trailing_step : (k n : ℕ) → count_trailing_zeros (suc k) n ≡ under (n % 2) (count_trailing_zeros k (n / 2))
unfolding count_trailing_zeros
trailing_step k n = refl

pub marked_none : {A : Type 0} (k : ℕ) (xs : List A) → marked (bits k 0) xs ≡ []
unfolding marked bits odd
marked_none zero xs = refl
marked_none (suc k) [] = refl
marked_none (suc k) (x ∷ xs) = marked_none k xs

module _ {A : Type 0} (z : A) where
  pub marked_first : (K k n : ℕ) (xs : List A) → 0 < n → n < 2 ^ K → length xs ≡ k → count_trailing_zeros K n < k
      → marked (bits k n) xs ≡ get_or xs (count_trailing_zeros K n) z ∷ marked (bits (k - (count_trailing_zeros K n + 1)) (n / 2 ^ count_trailing_zeros K n / 2)) (drop (count_trailing_zeros K n + 1) xs)
  unfolding marked bits odd
  marked_first zero k n xs p h l a = absurd (omega arith)
  marked_first (suc K) zero n xs p h l a = absurd (omega arith)
  marked_first (suc K) (suc k) n [] p h l a = absurd (omega arith)
  marked_first (suc K) (suc k) n (x ∷ xs) p h l a =
      subst (λ (T : ℕ). marked (bits (suc k) n) (x ∷ xs) ≡ get_or (x ∷ xs) T z ∷ marked (bits (suc k - (T + 1)) (n / 2 ^ T / 2)) (drop (T + 1) (x ∷ xs))) (sym (trailing_step K n))
      (go (n % 2) refl (subst (λ (T : ℕ). T < suc k) (trailing_step K n) a) (λ q b. marked_first K k (n / 2) xs q (omega (arith, pow-suc 2 K)) (omega arith) b))
    where
      go : (d : ℕ) → n % 2 ≡ d → under d (count_trailing_zeros K (n / 2)) < suc k
          → (0 < n / 2 → count_trailing_zeros K (n / 2) < k → marked (bits k (n / 2)) xs ≡ get_or xs (count_trailing_zeros K (n / 2)) z ∷ marked (bits (k - (count_trailing_zeros K (n / 2) + 1)) (n / 2 / 2 ^ count_trailing_zeros K (n / 2) / 2)) (drop (count_trailing_zeros K (n / 2) + 1) xs))
          → marked (bits (suc k) n) (x ∷ xs) ≡ get_or (x ∷ xs) (under d (count_trailing_zeros K (n / 2))) z ∷ marked (bits (suc k - (under d (count_trailing_zeros K (n / 2)) + 1)) (n / 2 ^ under d (count_trailing_zeros K (n / 2)) / 2)) (drop (under d (count_trailing_zeros K (n / 2)) + 1) (x ∷ xs))
      go zero e b rec =
          let T = count_trailing_zeros K (n / 2) in
          let ih = rec (omega arith) (omega arith) in
          let u : suc k - (suc T + 1) ≡ k - (T + 1) = omega arith in
          let v : n / 2 ^ suc T / 2 ≡ n / 2 / 2 ^ T / 2 = ap (λ (y : ℕ). y / 2) (ap (λ (y : ℕ). n / y) (pow-succ' 2 T) ∙ sym (div-div-eq-div-mul n 2 (2 ^ T))) in
          let w : suc T + 1 ≡ suc (T + 1) = omega arith in
          ap (λ (y : ℕ). marked (odd y ∷ bits k (n / 2)) (x ∷ xs)) e ∙ ih
          ∙ ap₂ (λ (i m : ℕ). get_or xs T z ∷ marked (bits i m) (drop (T + 1) xs)) (sym u) (sym v)
          ∙ ap (λ (i : ℕ). get_or xs T z ∷ marked (bits (suc k - (suc T + 1)) (n / 2 ^ suc T / 2)) (drop i (x ∷ xs))) (sym w)
      go (suc d) e b rec =
          let u : suc k - (0 + 1) ≡ k = omega arith in
          let v : n / 2 ^ 0 / 2 ≡ n / 2 = ap (λ (y : ℕ). y / 2) (div-one n) in
          ap (λ (y : ℕ). marked (odd y ∷ bits k (n / 2)) (x ∷ xs)) e ∙ ap₂ (λ (i m : ℕ). x ∷ marked (bits i m) xs) (sym u) (sym v)

  pub marked_past : (K k n : ℕ) (xs : List A) → 0 < n → n < 2 ^ K → length xs ≡ k → k ≤ count_trailing_zeros K n → marked (bits k n) xs ≡ []
  unfolding marked bits odd
  marked_past zero k n xs p h l a = absurd (omega arith)
  marked_past (suc K) zero n xs p h l a = refl
  marked_past (suc K) (suc k) n [] p h l a = absurd (omega arith)
  marked_past (suc K) (suc k) n (x ∷ xs) p h l a = go (n % 2) refl (subst (λ (T : ℕ). suc k ≤ T) (trailing_step K n) a) (λ q b. marked_past K k (n / 2) xs q (omega (arith, pow-suc 2 K)) (omega arith) b)
    where
      go : (d : ℕ) → n % 2 ≡ d → suc k ≤ under d (count_trailing_zeros K (n / 2)) → (0 < n / 2 → k ≤ count_trailing_zeros K (n / 2) → marked (bits k (n / 2)) xs ≡ []) → marked (odd (n % 2) ∷ bits k (n / 2)) (x ∷ xs) ≡ []
      go zero e b rec = ap (λ (y : ℕ). marked (odd y ∷ bits k (n / 2)) (x ∷ xs)) e ∙ rec (omega arith) (omega arith)
      go (suc d) e b rec = absurd (omega arith)

-- the lowest mark taken out
pub rest_less : (n t : ℕ) → 0 < n → n / 2 ^ t / 2 < n
rest_less n t h = let z = div-le_self n (2 ^ t) in omega arith

-- THE MARKED TERMS

module _ (m : ℕ) (slots : List ℕ) (n w : ℕ) (o : List ℕ) where
  pub record MarkedLeft (σ : List Data) (rest at k v : ℕ) (out : List ℕ) : Type 0 where
    pub bytes : take v out ++ all encode_data (marked (bits (n - at) rest) (drop at σ)) ≡ take w o ++ all encode_data (marked (bits n m) σ)
    pub number : k + length (marked (bits (n - at) rest) (drop at σ)) ≡ length (marked (bits n m) σ)
    pub small : Every Small (marked (bits (n - at) rest) (drop at σ)) → Every Small (marked (bits n m) σ)
    pub small_left : Every Small (marked (bits n m) σ) → Every Small (marked (bits (n - at) rest) (drop at σ))

  abbrev pub Left : ℕ → ℕ → ℕ → ℕ → List ℕ → Type 0
  Left rest at k v out = (σ : List Data) → Slots σ slots n → MarkedLeft σ rest at k v out

  pub marked_start : Left m 0 0 w o
  marked_start σ s =
      let z : n - 0 ≡ n = omega arith in
      record {
        bytes = ap (λ (k : ℕ). take w o ++ all encode_data (marked (bits k m) σ)) z;
        number = let y = ap (λ (k : ℕ). length (marked (bits k m) σ)) z in omega arith;
        small = λ h. subst (λ (k : ℕ). Every Small (marked (bits k m) σ)) z h;
        small_left = λ h. subst (λ (k : ℕ). Every Small (marked (bits k m) σ)) (sym z) h;
      }

  module _ (rest at k v : ℕ) (out : List ℕ) (left : Left rest at k v out) where
    -- no mark is left
    pub marked_end : k ≤ frame_width → ((σ : List Data) → Slots σ slots n → marked (bits (n - at) rest) (drop at σ) ≡ []) → MarkedPut m slots n w o (Some v) out
    unfolding all Every
    marked_end few h σ s =
        (((left σ s).small (subst (λ (l : List Data). Every Small l) (sym (h σ s)) tt), omega (arith, (left σ s).number, ap length (h σ s))), sym (append-nil (take v out)) ∙ ap (λ (l : List Data). take v out ++ all encode_data l) (sym (h σ s)) ∙ (left σ s).bytes)

    pub marked_done : k ≤ frame_width → rest ≡ 0 → MarkedPut m slots n w o (Some v) out
    marked_done few e = marked_end few (λ σ s. ap (λ (x : ℕ). marked (bits (n - at) x) (drop at σ)) e ∙ marked_none (n - at) (drop at σ))

    module _ (pos : 0 < rest) (small : rest < 2 ^ 32) (i : ℕ) (ei : i ≡ at + count_trailing_zeros 32 rest) where
      pub marked_out : k ≤ frame_width → at ≤ n → n ≤ i → MarkedPut m slots n w o (Some v) out
      marked_out few a h = marked_end few (λ σ s. marked_past (val 0) 32 (n - at) rest (drop at σ) pos small (length-drop at σ ∙ ap (λ (k : ℕ). k - at) s.many) (omega arith))

      -- the next one
      next : (σ : List Data) → Slots σ slots n → at ≤ n → i < n
          → marked (bits (n - at) rest) (drop at σ) ≡ look σ i ∷ marked (bits (n - (i + 1)) (rest / 2 ^ count_trailing_zeros 32 rest / 2)) (drop (i + 1) σ)
      unfolding look
      next σ s a h =
          let t = count_trailing_zeros 32 rest in
          let u : n - at - (t + 1) ≡ n - (i + 1) = omega arith in
          let y : at + (t + 1) ≡ i + 1 = omega arith in
          marked_first (val 0) 32 (n - at) rest (drop at σ) pos small (length-drop at σ ∙ ap (λ (k : ℕ). k - at) s.many) (omega arith)
          ∙ ap₂ (λ (d : Data) (k : ℕ). d ∷ marked (bits k (rest / 2 ^ t / 2)) (drop (t + 1) (drop at σ))) (get_or-drop at σ t (val 0) ∙ ap (λ (k : ℕ). get_or σ k (val 0)) (sym ei)) u
          ∙ ap (λ (l : List Data). get_or σ i (val 0) ∷ marked (bits (n - (i + 1)) (rest / 2 ^ t / 2)) l) (drop-drop (t + 1) at σ ∙ ap (λ (k : ℕ). drop k σ) y)

      -- one more than a call may have
      pub marked_many : frame_width ≤ k → at ≤ n → i < n → (o' : List ℕ) → MarkedPut m slots n w o None o'
      marked_many most a h o' σ s few = let l = few.1 in omega (arith, (left σ s).number, ap length (next σ s a h))

      module _ (a : at ≤ n) (h : i < n) (out' : List ℕ) where
        pub marked_on : (v' : ℕ) → OnePut slots i v out (Some v') out' → Left (rest / 2 ^ count_trailing_zeros 32 rest / 2) (i + 1) (k + 1) v' out'
        unfolding all Every
        marked_on v' put σ s =
            let e = next σ s a h in
            let u = put (look σ i) (s.each i h) in
            let M = marked (bits (n - (i + 1)) (rest / 2 ^ count_trailing_zeros 32 rest / 2)) (drop (i + 1) σ) in
            record {
              bytes = ap (λ (l : List ℕ). l ++ all encode_data M) u.1 ∙ append_assoc (take v out) (encode_data (look σ i)) (all encode_data M) ∙ ap (λ (l : List Data). take v out ++ all encode_data l) (sym e) ∙ (left σ s).bytes;
              number = omega (arith, (left σ s).number, ap length e);
              small = λ k. (left σ s).small (subst (λ (l : List Data). Every Small l) (sym e) (u.0, k));
              small_left = λ k. (subst (λ (l : List Data). Every Small l) e ((left σ s).small_left k)).1;
            }

        pub marked_long : OnePut slots i v out None out' → (o' : List ℕ) → MarkedPut m slots n w o None o'
        unfolding Every
        marked_long put o' σ s k = put (look σ i) (s.each i h) (subst (λ (l : List Data). Every Small l) (next σ s a h) ((left σ s).small_left k.0)).0
