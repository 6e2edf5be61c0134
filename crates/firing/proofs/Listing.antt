-- What a summand gives, listed by the values of its sum variables, is what it gives for the assignments that meet its conditions in the stream.
use mathlib.Core.Path.{◌≡◌, refl, ap, ap₂, sym, ◌∙◌}
use mathlib.Core.List.{List, [], ◌∷◌, ◌++◌, map}
use mathlib.Core.Bool.{Bool, true, false}
use Prim.Native.Nat.{ℕ, zero, suc, ◌+◌, ◌*◌, ◌-◌, ◌/◌, ◌%◌, ◌<◌}
use native.Mathlib.Nat.{mul-add-div_right, mul-add-mod_self_right, div-eq_of_lt, mod-eq_of_lt, suc-mul, zero-mul, mul_assoc, mul-pos, mod-lt}
use native.Mathlib.Omega.{arith}
use lib.ListN.{length, get_or, replicate}
use Rattle.pcrl.specs.Tests.{Each}
use Rattle.pcrl.specs.Reader.{all}
use Rattle.pcrl.specs.Lists.{tabulate}
use Rattle.pcrl.specs.Sheet.{Sig, size}
use Rattle.pcrl.specs.Stack.{InSorts}
use Rattle.pcrl.specs.Steps.{values_of, if_met}
use Rattle.laws.specs.Tabulated.{tabulate_alike, map_tabulate}
use Rattle.laws.specs.Says.{Says}
use Rattle.evaluation.specs.Run.{pick}
use Rattle.evaluation.specs.Known.{Alike}
use Rattle.assignments.specs.Places.{product, digits_of, places}
use Rattle.opening.specs.Opened.{sizes_of}

abbrev pub Positive : List ℕ → Type 0
Positive ns = (i : ℕ) → i < length ns → 0 < get_or ns i 0

product_pos : (s : List ℕ) → Positive s → 0 < product s
product_pos [] h = omega arith
product_pos (n ∷ s) h = mul-pos (h 0 (omega arith)) (product_pos s (λ i k. h (suc i) (omega arith)))

-- TABULATED LISTS

module _ {A : Type 0} where
  tab_append : (m n k : ℕ) (f : ℕ → A) → k ≡ m + n → tabulate k f ≡ tabulate m f ++ tabulate n (λ i. f (m + i))
  unfolding tabulate
  tab_append zero n k f e = let z : k ≡ n = omega arith in rw z (tabulate_alike n f _ (λ i h. ap f (omega arith)))
  tab_append (suc m) n zero f e = absurd (omega arith)
  tab_append (suc m) n (suc k) f e =
      ap (λ (xs : List A). f zero ∷ xs) (tab_append m n k (λ i. f (suc i)) (omega arith) ∙ ap (λ (xs : List A). tabulate m (λ i. f (suc i)) ++ xs) (tabulate_alike n _ _ (λ i h. ap f (omega arith))))

  -- m rows of n
  rows : (m n a : ℕ) (F : ℕ → List A) (f : ℕ → A) (g : ℕ → ℕ) → ((v : ℕ) → g v ≡ a + v) → ((v : ℕ) → v < a + m → F v ≡ tabulate n (λ r. f (v * n + r))) → all F (tabulate m g) ≡ tabulate (m * n) (λ i. f (a * n + i))
  unfolding tabulate all
  rows zero n a F f g h k = rw (zero-mul n)
  rows (suc m) n a F f g h k =
      let z : g 0 ≡ a = h 0 ∙ omega arith in
      ap₂ (λ (xs ys : List A). xs ++ ys)
      (ap F z ∙ k a (omega arith))
      (rows m n (suc a) F f (λ v. g (suc v)) (λ v. let z : g (suc v) ≡ a + suc v = h (suc v) in omega arith) (λ v q. k v (omega arith))
      ∙ tabulate_alike (m * n) _ _ (λ i q. ap f (rw (suc-mul a n) (omega arith))))
      ∙ sym (tab_append n (m * n) (suc m * n) (λ i. f (a * n + i)) (rw (suc-mul m n) (omega arith)))

-- ALL VALUES, BY NUMBER

periodic : (ns : List ℕ) → Positive ns → (x r : ℕ) → digits_of ns (x * product ns + r) ≡ digits_of ns r
periodic [] h x r = refl
periodic (m ∷ ms) h x r =
    let p : 0 < product ms = product_pos ms (λ i k. h (suc i) (omega arith)) in
    let e : x * (m * product ms) + r ≡ x * m * product ms + r = ap (λ (y : ℕ). y + r) (sym (mul_assoc x m (product ms))) in
    let a : (x * (m * product ms) + r) / product ms % m ≡ r / product ms % m = ap (λ (y : ℕ). y / product ms % m) e ∙ ap (λ (y : ℕ). y % m) (mul-add-div_right p (x * m) r) ∙ mul-add-mod_self_right x m (r / product ms) in
    ap₂ (λ (y : ℕ) (l : List ℕ). y ∷ l) a (ap (digits_of ms) e ∙ periodic ms (λ i k. h (suc i) (omega arith)) (x * m) r)

module _ (S : Sig) where
  pub values_tab : (Ds : List ℕ) → Positive (map (size S) Ds) → values_of S Ds ≡ tabulate (product (map (size S) Ds)) (digits_of (map (size S) Ds))
  unfolding values_of tabulate
  values_tab [] h = refl
  values_tab (D ∷ Ds) h =
      let n : ℕ = size S D in
      let ns : List ℕ = map (size S) Ds in
      let tail : Positive ns = λ i k. h (suc i) (omega arith) in
      let p : 0 < product ns = product_pos ns tail in
      rows n (product ns) 0 _ (digits_of (n ∷ ns)) (λ v. v) (λ v. omega arith)
      (λ v k. ap (map (λ w. v ∷ w)) (values_tab Ds tail) ∙ map_tabulate (λ w. v ∷ w) (product ns) (digits_of ns)
      ∙ tabulate_alike (product ns) _ _ (λ r q.
      let a : (v * product ns + r) / product ns % n ≡ v = ap (λ (y : ℕ). y % n) (mul-add-div_right p v r ∙ rw (div-eq_of_lt q) (omega arith)) ∙ mod-eq_of_lt (omega arith) in
      ap₂ (λ (y : ℕ) (l : List ℕ). y ∷ l) (sym a) (sym (periodic ns tail v r))))
      ∙ tabulate_alike (n * product ns) _ _ (λ i q. ap (digits_of (n ∷ ns)) (rw (zero-mul (product ns)) (omega arith)))

  -- an assignment's values are in their sorts
  pub values_in : (Ds : List ℕ) → Positive (map (size S) Ds) → (j : ℕ) → InSorts S Ds (digits_of (map (size S) Ds) j)
  unfolding InSorts Each
  values_in [] h j = tt
  values_in (D ∷ Ds) h j = (mod-lt (j / product (map (size S) Ds)) (h 0 (omega arith)), values_in Ds (λ i k. h (suc i) (omega arith)) j)

-- WHERE A VARIABLE IS MISSING ITS SIZE IS 1

product_padded : (ns : List ℕ) (z : ℕ) → product (ns ++ replicate z 1) ≡ product ns
product_padded [] zero = refl
product_padded [] (suc z) = let e = product_padded [] z in omega arith
product_padded (n ∷ ns) z = ap (λ (x : ℕ). n * x) (product_padded ns z)

values_padded : (ns : List ℕ) (z j : ℕ) → Alike (digits_of (ns ++ replicate z 1) j) (digits_of ns j)
values_padded [] zero j i = refl
values_padded [] (suc z) j zero = mod_one (j / product (replicate z 1))
  where
    mod_one : (x : ℕ) → x % 1 ≡ 0
    mod_one x = let m : x % 1 < 1 = mod-lt x (omega arith) in omega arith
values_padded [] (suc z) j (suc i) = values_padded [] z j i
values_padded (n ∷ ns) z j zero = ap (λ (x : ℕ). j / x % n) (product_padded ns z)
values_padded (n ∷ ns) z j (suc i) = values_padded ns z j i

pub sizes_product : (S : Sig) (vars : List ℕ) → product (sizes_of S vars) ≡ product (map (size S) vars)
unfolding sizes_of
sizes_product S vars = product_padded (map (size S) vars) (4 - length vars)

pub sizes_values : (S : Sig) (vars : List ℕ) (j : ℕ) → Alike (digits_of (sizes_of S vars) j) (digits_of (map (size S) vars) j)
unfolding sizes_of
sizes_values S vars j = values_padded (map (size S) vars) (4 - length vars) j

-- THOSE THAT PASS A TEST

abbrev pub answer : {P : Type 0} → Dec P → Bool
answer (yes h) = true
answer (no h) = false

pub answers : {P : Type 0} (d : Dec P) → Says (answer d) P
answers (yes h) = h
answers (no h) = h

met_one : {A P : Type 0} (d : Dec P) (a : A) (rest : List A) → if_met d a ++ rest ≡ pick (answer d) (a ∷ rest) rest
unfolding if_met
met_one (yes h) a rest = refl
met_one (no h) a rest = refl

pub passing : {A : Type 0} (P : ℕ → Type 0) (d : (j : ℕ) → Dec (P j)) (F : ℕ → A) (n j : ℕ) (g : ℕ → ℕ) → ((i : ℕ) → g i ≡ j + i) → all (λ i. if_met (d i) (F i)) (tabulate n g) ≡ map F (places (λ i. answer (d i)) n j)
unfolding tabulate all places
passing P d F zero j g h = refl
passing {A} P d F (suc n) j g h =
    let z : g 0 ≡ j = h 0 ∙ omega arith in
    let acc : ℕ → Bool = λ i. answer (d i) in
    let rest : all (λ i. if_met (d i) (F i)) (tabulate n (λ i. g (suc i))) ≡ map F (places acc n (j + 1)) = passing P d F n (j + 1) (λ i. g (suc i)) (λ i. let w : g (suc i) ≡ j + suc i = h (suc i) in omega arith) in
    rw z (met_one (d j) (F j) (all (λ i. if_met (d i) (F i)) (tabulate n (λ i. g (suc i)))) ∙ ap (λ (l : List A). pick (acc j) (F j ∷ l) l) rest ∙ go (acc j))
  where
    go : (b : Bool) → pick b (F j ∷ map F (places (λ i. answer (d i)) n (j + 1))) (map F (places (λ i. answer (d i)) n (j + 1))) ≡ map F (pick b (j ∷ places (λ i. answer (d i)) n (j + 1)) (places (λ i. answer (d i)) n (j + 1)))
    go true = refl
    go false = refl
