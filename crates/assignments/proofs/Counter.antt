-- The counter of assignments: values by division, blocks by multiplication, values put behind the parameters.
use mathlib.Core.Path.{◌≡◌, refl, sym, ◌∙◌, ap}
use mathlib.Core.List.{List, [], ◌∷◌, ◌++◌}
use Prim.Native.Nat.{ℕ, zero, suc, ◌+◌, ◌*◌, ◌/◌, ◌%◌, ◌≤◌, ◌<◌}
use native.Mathlib.Nat.{div-div-eq-div-mul, div-one, mul-one, mul_comm, mod-lt, mul-le-mul}
use native.Mathlib.Omega.{arith}
use lib.ListN.{length, get_or, drop, take, set, drop_of_length-le}
use mir.Val.{Val}
use denote.Laws.{Is}
use denote.Struct.Laws as LL
use Rattle.pcrl.specs.Limits.{frame_width, max_variables}
use Rattle.assignments.specs.declared.PerSum.{PerSum}
use Rattle.assignments.specs.declared.PerVariable.{PerVariable}
use Rattle.assignments.specs.Places.{product, digits_of}
use Rattle.assignments.specs.Conditions.{env}
use Rattle.assignments.specs.contracts.PerSum as F
use Rattle.assignments.proofs.PerSum.TheLaws as F'
use Rattle.assignments.specs.contracts.PerVariable as E
use Rattle.assignments.proofs.PerVariable.TheLaws as E'

pub per_sum_length : (s : PerSum) (vs : List Val) → Is F.the_row s vs → length s.at ≡ max_variables
per_sum_length s vs g = (LL.owed F.the_type F'.the_laws s vs g).0.1.0.1

pub per_variable_length : (s : PerVariable) (vs : List Val) → Is E.the_row s vs → length s.at ≡ frame_width + max_variables
per_variable_length s vs g = (LL.owed E.the_type E'.the_laws s vs g).0.1.0.1

-- four sizes: each value by the divisions of the code
pub four_values : (s : List ℕ) (j : ℕ) → length s ≡ max_variables
    → (j / get_or s 3 0 / get_or s 2 0 / get_or s 1 0 % get_or s 0 0) ∷ (j / get_or s 3 0 / get_or s 2 0 % get_or s 1 0) ∷ (j / get_or s 3 0 % get_or s 2 0) ∷ (j % get_or s 3 0) ∷ [] ≡ digits_of s j
four_values [] j h = absurd (omega arith)
four_values (a ∷ []) j h = absurd (omega arith)
four_values (a ∷ b ∷ []) j h = absurd (omega arith)
four_values (a ∷ b ∷ c ∷ []) j h = absurd (omega arith)
four_values (a ∷ b ∷ c ∷ d ∷ e ∷ s) j h = absurd (omega arith)
four_values (a ∷ b ∷ c ∷ d ∷ []) j h = λ i. (p₀ i % a) ∷ (p₁ i % b) ∷ (p₂ i % c) ∷ (p₃ i % d) ∷ []
  where
    p₃ : j ≡ j / 1
    p₃ = sym (div-one j)

    p₂ : j / d ≡ j / (d * 1)
    p₂ = ap (λ (x : ℕ). j / x) (sym (mul-one d))

    p₁ : j / d / c ≡ j / (c * (d * 1))
    p₁ = div-div-eq-div-mul j d c ∙ ap (λ (x : ℕ). j / x) (mul_comm d c ∙ ap (λ (x : ℕ). c * x) (sym (mul-one d)))

    p₀ : j / d / c / b ≡ j / (b * (c * (d * 1)))
    p₀ = ap (λ (x : ℕ). x / b) p₁ ∙ div-div-eq-div-mul j (c * (d * 1)) b ∙ ap (λ (x : ℕ). j / x) (mul_comm (c * (d * 1)) b)

-- the blocks of four sizes
pub four_blocks : (s : List ℕ) → length s ≡ max_variables
    → (product (drop 3 s) ≡ get_or s 3 0 * 1) × ((product (drop 2 s) ≡ get_or s 2 0 * (get_or s 3 0 * 1)) × ((product (drop 1 s) ≡ get_or s 1 0 * (get_or s 2 0 * (get_or s 3 0 * 1))) × (product s ≡ get_or s 0 0 * (get_or s 1 0 * (get_or s 2 0 * (get_or s 3 0 * 1))))))
four_blocks [] h = absurd (omega arith)
four_blocks (a ∷ []) h = absurd (omega arith)
four_blocks (a ∷ b ∷ []) h = absurd (omega arith)
four_blocks (a ∷ b ∷ c ∷ []) h = absurd (omega arith)
four_blocks (a ∷ b ∷ c ∷ d ∷ e ∷ s) h = absurd (omega arith)
four_blocks (a ∷ b ∷ c ∷ d ∷ []) h = (refl, (refl, (refl, refl)))

pub no_block : (s : List ℕ) (l : ℕ) → length s ≡ max_variables → max_variables ≤ l → 1 ≡ product (drop l s)
no_block s l e h = rw (drop_of_length-le s {i = l} (omega arith))

-- a remainder by a size fits a byte
pub small : (x s : ℕ) → 0 < s → s < 256 → x % s < 256
small x s p h = let m : x % s < s = mod-lt x p in omega arith

pub product_le : (a b m n : ℕ) → a ≤ m → b ≤ n → a * b ≤ m * n
product_le a b m n h k = mul-le-mul h k

-- VALUES BEHIND PARAMETERS

-- nothing but zeros
zeros : (a : List ℕ) → ((i : ℕ) → get_or a i 0 ≡ 0) → (k l m n : ℕ) → max_variables ≤ length a → (i : ℕ) → get_or (set (set (set (set a 0 k) 1 l) 2 m) 3 n) i 0 ≡ get_or (k ∷ l ∷ m ∷ n ∷ []) i 0
zeros [] z k l m n h i = absurd (omega arith)
zeros (a ∷ []) z k l m n h i = absurd (omega arith)
zeros (a ∷ b ∷ []) z k l m n h i = absurd (omega arith)
zeros (a ∷ b ∷ c ∷ []) z k l m n h i = absurd (omega arith)
zeros (a ∷ b ∷ c ∷ d ∷ s) z k l m n h zero = refl
zeros (a ∷ b ∷ c ∷ d ∷ s) z k l m n h (suc zero) = refl
zeros (a ∷ b ∷ c ∷ d ∷ s) z k l m n h (suc (suc zero)) = refl
zeros (a ∷ b ∷ c ∷ d ∷ s) z k l m n h (suc (suc (suc zero))) = refl
zeros (a ∷ b ∷ c ∷ d ∷ s) z k l m n h (suc (suc (suc (suc i)))) = z (suc (suc (suc (suc i))))

put_all : (p : ℕ) (a : List ℕ) (k l m n : ℕ) → p + max_variables ≤ length a → ((i : ℕ) → p ≤ i → get_or a i 0 ≡ 0) → (i : ℕ)
    → get_or (set (set (set (set a p k) (p + 1) l) (p + 2) m) (p + 3) n) i 0 ≡ get_or (env p a (k ∷ l ∷ m ∷ n ∷ [])) i 0
put_all zero a k l m n h z i = zeros a (λ j. z j (omega arith)) k l m n (omega arith) i
put_all (suc p) [] k l m n h z i = absurd (omega arith)
put_all (suc p) (x ∷ a) k l m n h z i =
    let z₁ : suc p + 1 ≡ suc (p + 1) = omega arith in
    let z₂ : suc p + 2 ≡ suc (p + 2) = omega arith in
    let z₃ : suc p + 3 ≡ suc (p + 3) = omega arith in
    rw (z₁, z₂, z₃) (go i (put_all p a k l m n (omega arith) (λ j q. z (suc j) (omega arith))))
  where
    go : (i : ℕ) → ((i : ℕ) → get_or (set (set (set (set a p k) (p + 1) l) (p + 2) m) (p + 3) n) i 0 ≡ get_or (env p a (k ∷ l ∷ m ∷ n ∷ [])) i 0)
        → get_or (x ∷ set (set (set (set a p k) (p + 1) l) (p + 2) m) (p + 3) n) i 0 ≡ get_or (x ∷ env p a (k ∷ l ∷ m ∷ n ∷ [])) i 0
    go zero ih = refl
    go (suc i) ih = ih i

four_is : (s : List ℕ) → length s ≡ max_variables → s ≡ get_or s 0 0 ∷ get_or s 1 0 ∷ get_or s 2 0 ∷ get_or s 3 0 ∷ []
four_is [] h = absurd (omega arith)
four_is (a ∷ []) h = absurd (omega arith)
four_is (a ∷ b ∷ []) h = absurd (omega arith)
four_is (a ∷ b ∷ c ∷ []) h = absurd (omega arith)
four_is (a ∷ b ∷ c ∷ d ∷ e ∷ s) h = absurd (omega arith)
four_is (a ∷ b ∷ c ∷ d ∷ []) h = refl

pub put : (p : ℕ) (a w : List ℕ) → p + max_variables ≤ length a → ((i : ℕ) → p ≤ i → get_or a i 0 ≡ 0) → length w ≡ max_variables → (i : ℕ)
    → get_or (set (set (set (set a p (get_or w 0 0)) (p + 1) (get_or w 1 0)) (p + 2) (get_or w 2 0)) (p + 3) (get_or w 3 0)) i 0 ≡ get_or (env p a w) i 0
put p a w h z lw i =
    put_all p a (get_or w 0 0) (get_or w 1 0) (get_or w 2 0) (get_or w 3 0) h z i ∙ ap (λ (y : List ℕ). get_or (take p a ++ y) i 0) (sym (four_is w lw))
