-- The slots of an equation's parameters.
use mathlib.Core.Path.{◌≡◌, refl, sym, ap, ◌∙◌, subst}
use mathlib.Core.List.{List, [], ◌∷◌, ◌++◌}
use mathlib.Core.Bool.{Bool, true, false}
use Prim.Native.Nat.{ℕ, zero, suc, ◌+◌, ◌/◌, ◌%◌, ◌^◌, ◌<◌}
use native.Mathlib.Numerals.{add-one}
use native.Mathlib.Nat.{pow-suc, pow-succ', div-div-eq-div-mul, div-one}
use native.Mathlib.Omega.{arith}
use Rattle.pcrl.specs.Sheet.{Data, val, var}
use Rattle.pcrl.specs.Parts.{count, as_params}
use Rattle.pcrl.specs.Table.{nodes}
use Rattle.pcrl.specs.Stream.{encode_data}
use Rattle.putting.specs.Slots.{Slots}
use Rattle.heads.specs.Writing.{param_of}
use Rattle.putting.specs.Puts.{BytePut}
use Rattle.nodes.specs.Bits.{odd}
use Rattle.marking.specs.Marks.{bits}

-- PARAMETERS

snoc_params : (bs : List Bool) (b : Bool) (i : ℕ) → as_params (bs ++ (b ∷ [])) i ≡ as_params bs i ++ (param_of b (i + count bs) ∷ [])
unfolding as_params param_of count
snoc_params [] true i = let z : i + 0 ≡ i = omega arith in ap (λ (k : ℕ). var k ∷ []) (sym z)
snoc_params [] false i = refl
snoc_params (true ∷ bs) b i =
    let z : suc i + count bs ≡ i + suc (count bs) = omega arith in
    ap (λ (l : List Data). var i ∷ l) (snoc_params bs b (suc i) ∙ ap (λ (k : ℕ). as_params bs (suc i) ++ (param_of b k ∷ [])) z)
snoc_params (false ∷ bs) b i = ap (λ (l : List Data). val 0 ∷ l) (snoc_params bs b i)

snoc_bits : (i m : ℕ) → bits (suc i) m ≡ bits i m ++ (odd (m / 2 ^ i % 2) ∷ [])
unfolding bits
snoc_bits zero m = ap (λ (k : ℕ). odd (k % 2) ∷ []) (sym (div-one m))
snoc_bits (suc i) m =
    let v : m / 2 / 2 ^ i ≡ m / 2 ^ suc i = div-div-eq-div-mul m 2 (2 ^ i) ∙ ap (λ (y : ℕ). m / y) (sym (pow-succ' 2 i)) in
    ap (λ (l : List Bool). odd (m % 2) ∷ l) (snoc_bits i (m / 2) ∙ ap (λ (k : ℕ). bits i (m / 2) ++ (odd (k % 2) ∷ [])) v)

snoc_count : (bs : List Bool) (x : ℕ) → x < 2 → count (bs ++ (odd x ∷ [])) ≡ count bs + x
unfolding count odd
snoc_count [] zero h = refl
snoc_count [] (suc zero) h = refl
snoc_count [] (suc (suc x)) h = absurd (omega arith)
snoc_count (true ∷ bs) x h = omega (arith, snoc_count bs x h)
snoc_count (false ∷ bs) x h = snoc_count bs x h

param_one : (b : Bool) (k : ℕ) → nodes (param_of b k) ≡ 1
unfolding param_of nodes
param_one true k = refl
param_one false k = refl

-- the first i slots are right
pub record Params (m i k rest : ℕ) (slots : List ℕ) : Type 0 where
  pub held : Slots (as_params (bits i m) 0) slots i
  pub many : k ≡ count (bits i m)
  pub left : rest ≡ m / 2 ^ i

pub params_start : (m : ℕ) (o : List ℕ) → Params m 0 0 m o
unfolding bits count as_params
params_start m o = record { held = record { many = refl; each = λ i h. absurd (omega arith) }; many = refl; left = sym (div-one m) }

pub params_on : (m i k rest : ℕ) (o o' : List ℕ) → Params m i k rest o → (x : ℕ) → encode_data (param_of (odd (rest % 2)) k) ≡ x ∷ [] → BytePut o i x o' → Params m (i + 1) (k + rest % 2) (rest / 2) o'
params_on m i k rest o o' p x e put = subst (λ (j : ℕ). Params m j (k + rest % 2) (rest / 2) o') (sym (add-one i)) (record {
  held =
      subst (λ (bs : List Bool). Slots (as_params bs 0) o' (suc i)) (sym step)
      (subst (λ (l : List Data). Slots l o' (suc i)) (sym (snoc_params (bits i m) (odd (rest % 2)) 0 ∙ ap (λ (j : ℕ). as_params (bits i m) 0 ++ (param_of (odd (rest % 2)) j ∷ [])) same))
      (subst (λ (j : ℕ). Slots (as_params (bits i m) 0 ++ (param_of (odd (rest % 2)) k ∷ [])) o' j) (add-one i) (put.0 (as_params (bits i m) 0) (param_of (odd (rest % 2)) k) (param_one (odd (rest % 2)) k) e p.held)));
  many = ap (λ (j : ℕ). j + rest % 2) p.many ∙ sym (snoc_count (bits i m) (rest % 2) (omega arith)) ∙ ap count (sym step);
  left = ap (λ (j : ℕ). j / 2) p.left ∙ div-div-eq-div-mul m (2 ^ i) 2 ∙ ap (λ (y : ℕ). m / y) (sym (pow-suc 2 i));
})
  where
    step : bits (suc i) m ≡ bits i m ++ (odd (rest % 2) ∷ [])
    step = snoc_bits i m ∙ ap (λ (j : ℕ). bits i m ++ (odd (j % 2) ∷ [])) (sym p.left)

    same : 0 + count (bits i m) ≡ k
    same = omega (arith, p.many)
