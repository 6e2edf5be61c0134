-- The sizes of the sorts of a summand's variables, whose sorts stand in the stream.
use mathlib.Core.Path.{◌≡◌, refl, sym, ap, subst, ◌∙◌}
use mathlib.Core.List.{List, [], ◌∷◌, ◌++◌, map}
use Prim.Native.Nat.{ℕ, zero, suc, ◌+◌, ◌-◌, ◌≤◌, ◌<◌}
use native.Mathlib.Omega.{arith}
use lib.ListN.{length, get_or, replicate, length-map, length-append, get_or-append}
use lib.Seq.{get_or-append-add}
use Rattle.pcrl.specs.Limits.{max_variables}
use Rattle.pcrl.specs.Tests.{Between}
use Rattle.pcrl.specs.Sheet.{Sig, size}
use Rattle.pcrl.specs.Stream.{encode_numbers}
use Rattle.pcrl.specs.Right.{RightSizes, AreSorts}
use Rattle.laws.specs.Every.{every_at}
use Rattle.laws.specs.Lists.{get_d_map}
use Rattle.terms.specs.Stands.{Stands, size_in}
use Rattle.terms.proofs.Places.{count_at, item_at}
use Rattle.evaluation.specs.Known.{KnownTerms}
use Rattle.opening.specs.Opened.{sizes_of}

alike_at : (x n i : ℕ) → i < n → get_or (replicate n x) i 0 ≡ x
alike_at x zero i h = absurd (omega arith)
alike_at x (suc n) zero h = refl
alike_at x (suc n) (suc i) h = alike_at x n i (omega arith)

alike_length : (x n : ℕ) → length (replicate n x) ≡ n
alike_length x zero = refl
alike_length x (suc n) = ap suc (alike_length x n)

pub sizes_length : (S : Sig) (vars : List ℕ) → length vars ≤ max_variables → length (sizes_of S vars) ≡ max_variables
unfolding sizes_of
sizes_length S vars h =
    let a = length-map vars (size S) in
    let b = alike_length 1 (max_variables - length vars) in
    omega (arith, length-append (map (size S) vars) (replicate (max_variables - length vars) 1))

module _ (S : Sig) (s funcs vars : List ℕ) (at i : ℕ) (known : KnownTerms S s funcs) (st : Stands s at (encode_numbers vars)) (sorts : AreSorts S.sorts vars) (few : length vars ≤ max_variables) (below : i < max_variables) where
  -- no such variable
  pub size_none : get_or s at 0 ≤ i → 1 ≡ get_or (sizes_of S vars) i 0
  unfolding sizes_of
  size_none h =
      let n = count_at s at vars st in
      let l = length-map vars (size S) in
      let z : i ≡ length (map (size S) vars) + (i - length vars) = omega arith in
      sym (ap (λ (k : ℕ). get_or (map (size S) vars ++ replicate (max_variables - length vars) 1) k 0) z ∙ get_or-append-add (map (size S) vars) (replicate (max_variables - length vars) 1) (i - length vars) 0
      ∙ alike_at 1 (max_variables - length vars) (i - length vars) (omega arith))

  module _ (z : ℕ) (is : z ≡ size_in funcs (get_or s (at + 1 + i) 0)) (there : i < get_or s at 0) where
    in_list : i < length vars
    in_list = let n = count_at s at vars st in omega arith

    sort : get_or s (at + 1 + i) 0 ≡ get_or vars i 0
    sort = item_at s at vars st i in_list

    declared : get_or vars i 0 < length S.sorts
    declared = every_at (λ D. D < length S.sorts) vars 0 i sorts in_list

    size_is : z ≡ size S (get_or vars i 0)
    size_is = is ∙ ap (size_in funcs) sort ∙ known.size_at (get_or vars i 0) declared

    pub size_some : z ≡ get_or (sizes_of S vars) i 0
    unfolding sizes_of
    size_some =
        let l = length-map vars (size S) in
        let k = in_list in
        size_is ∙ sym (get_or-append (map (size S) vars) (replicate (max_variables - length vars) 1) 0 i (omega arith) ∙ get_d_map (size S) vars i 0 0 k)

    -- a sort has from 1 to 16 values
    pub size_right : Between 1 16 z
    unfolding size RightSizes
    size_right = subst (Between 1 16) (sym size_is) (every_at (Between 1 16) S.sorts 0 (get_or vars i 0) known.right_sizes.0.1 declared)

-- four sizes
pub four_sizes : (S : Sig) (vars : List ℕ) (a b c d : ℕ) → length vars ≤ max_variables → a ≡ get_or (sizes_of S vars) 0 0 → b ≡ get_or (sizes_of S vars) 1 0 → c ≡ get_or (sizes_of S vars) 2 0 → d ≡ get_or (sizes_of S vars) 3 0
    → a ∷ b ∷ c ∷ d ∷ [] ≡ sizes_of S vars
four_sizes S vars a b c d h ea eb ec ed = go (sizes_of S vars) (sizes_length S vars h) ea eb ec ed
  where
    go : (l : List ℕ) → length l ≡ 4 → a ≡ get_or l 0 0 → b ≡ get_or l 1 0 → c ≡ get_or l 2 0 → d ≡ get_or l 3 0 → a ∷ b ∷ c ∷ d ∷ [] ≡ l
    go [] n x y z w = absurd (omega arith)
    go (e ∷ []) n x y z w = absurd (omega arith)
    go (e ∷ f ∷ []) n x y z w = absurd (omega arith)
    go (e ∷ f ∷ g ∷ []) n x y z w = absurd (omega arith)
    go (e ∷ f ∷ g ∷ k ∷ []) n x y z w = cc
    go (e ∷ f ∷ g ∷ k ∷ m ∷ l) n x y z w = absurd (omega arith)
