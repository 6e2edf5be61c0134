-- Names are found at their places: in a list without doubles, and in a list of names made from numbers in turn.
use Rattle.std.specs.Prelude.{◌≡◌, T, length, get_or}
use Rattle.std.proofs.Math.Path.{refl, ap}
use Rattle.std.proofs.Common.{ap₂, sym, ◌∙◌}
use mathlib.Core.List.{List, [], ◌∷◌, ◌++◌, map}
use Rattle.std.proofs.Math.Option.{Option, none, some}
use Prim.Native.Nat.{ℕ, zero, suc, ◌+◌, ◌<◌, ◌≤◌}
use native.Mathlib.Omega.{arith}
use Rattle.pcrl.specs.Tests.{negated, same?, among, distinct, Every}
use Rattle.pcrl.specs.Tree.{Name}
use Rattle.pcrl.specs.Maybe.{◌>>=◌}
use Rattle.pcrl.specs.Names.{number_of}
use Rattle.pcrl.specs.Printer.{numbered}
use Rattle.laws.specs.Tests.{both_pass, pass_both, where_yes, where_no}
use Rattle.laws.specs.Every.{every_append, every_right, every_at}
use Rattle.theory.specs.Distinct.{Unlike, unlike_each, each_unlike, distinct_first}

-- LOOKING UP

pub number_here : (x y : Name) (l : List Name) → x ≡ y → number_of x (y ∷ l) ≡ some 0
unfolding number_of
number_here x y l e = where_yes (same? x y) e (some 0) (◌>>=◌ (number_of x l) (λ n. some (suc n)))

pub number_later : (x y : Name) (l : List Name) → Unlike x y → number_of x (y ∷ l) ≡ ◌>>=◌ (number_of x l) (λ n. some (suc n))
unfolding number_of
number_later x y l h = where_no (same? x y) h (some 0) (◌>>=◌ (number_of x l) (λ n. some (suc n)))

-- a name that is not there
pub number_none : (x : Name) (l : List Name) → Every (Unlike x) l → number_of x l ≡ none
unfolding Every number_of
number_none x [] h = refl
number_none x (y ∷ l) h = number_later x y l h.0 ∙ ap (λ (o : Option ℕ). ◌>>=◌ o (λ n. some (suc n))) (number_none x l h.1)

-- the name at a place of a list without doubles
pub number_place : (l : List Name) (d : Name) (k : ℕ) → T (distinct l) → k < length l → number_of (get_or l k d) l ≡ some k
unfolding distinct
number_place [] d k t h = absurd (omega arith)
number_place (x ∷ l) d zero t h = number_here x x l refl
number_place (x ∷ l) d (suc k) t h =
    let later = distinct_first x l t in
    number_later (get_or l k d) x l (λ e. every_at (Unlike x) l d k later (omega arith) (sym e))
    ∙ ap (λ (o : Option ℕ). ◌>>=◌ o (λ n. some (suc n))) (number_place l d k (both_pass (negated (among x l)) (distinct l) t).1 (omega arith))

-- TWO LISTS

-- two lists without doubles that have no name in common
pub distinct_append : (l m : List Name) → T (distinct l) → T (distinct m) → Every (λ x. Every (Unlike x) m) l → T (distinct (l ++ m))
unfolding distinct Every
distinct_append [] m t u h = u
distinct_append (x ∷ l) m t u h =
    let k = both_pass (negated (among x l)) (distinct l) t in
    pass_both (negated (among x (l ++ m))) (distinct (l ++ m)) (each_unlike x (l ++ m) (every_append (Unlike x) l m (unlike_each x l k.0) h.0)) (distinct_append l m k.1 u h.1)

-- and if two lists together have no doubles, they have no name in common
pub distinct_across : (l m : List Name) → T (distinct (l ++ m)) → Every (λ x. Every (Unlike x) m) l
unfolding distinct Every
distinct_across [] m t = tt
distinct_across (x ∷ l) m t = (every_right (Unlike x) l m (distinct_first x (l ++ m) t), distinct_across l m (both_pass (negated (among x (l ++ m))) (distinct (l ++ m)) t).1)

-- NAMES IN TURN

-- g i, g (i + 1), .., n of them
unfoldable pub in_turn : (ℕ → Name) → ℕ → ℕ → List Name
in_turn g i zero = []
in_turn g i (suc n) = g i ∷ in_turn g (suc i) n

-- the names of what is made with numbers
pub names_numbered : {A B : Type 0} (f : ℕ → A → B) (name : B → Name) (g : ℕ → Name) → ((k : ℕ) (a : A) → name (f k a) ≡ g k) → (i : ℕ) (l : List A)
    → map name (numbered f i l) ≡ in_turn g i (length l)
unfolding numbered in_turn
names_numbered f name g e i [] = refl
names_numbered f name g e i (a ∷ l) = ap₂ ◌∷◌ (e i a) (names_numbered f name g e (suc i) l)

module _ (g : ℕ → Name) where
  pub length_in_turn : (i n : ℕ) → length (in_turn g i n) ≡ n
  unfolding in_turn
  length_in_turn i zero = refl
  length_in_turn i (suc n) = ap suc (length_in_turn (suc i) n)

  -- one more behind them
  pub in_turn_snoc : (i n j : ℕ) → j ≡ i + n → in_turn g i n ++ (g j ∷ []) ≡ in_turn g i (suc n)
  unfolding in_turn
  in_turn_snoc i zero j e = let z : j ≡ i = omega arith in ap (λ (k : ℕ). g k ∷ []) z
  in_turn_snoc i (suc n) j e = ap (λ (l : List Name). g i ∷ l) (in_turn_snoc (suc i) n j (omega arith))

  pub every_in_turn : (P : Name → Type 0) (i n : ℕ) → ((k : ℕ) → k < i + n → P (g k)) → Every P (in_turn g i n)
  unfolding in_turn Every
  every_in_turn P i zero h = tt
  every_in_turn P i (suc n) h = (h i (omega arith), every_in_turn P (suc i) n (λ k w. h k (omega arith)))

  -- where no two of the numbers below a bound have the same name
  module _ (bound : ℕ) (one : (i j : ℕ) → i < bound → j < bound → g i ≡ g j → i ≡ j) where
    pub number_in_turn : (i n k j : ℕ) → i + n ≤ bound → k < n → j ≡ i + k → number_of (g j) (in_turn g i n) ≡ some k
    unfolding in_turn
    number_in_turn i zero k j b w e = absurd (omega arith)
    number_in_turn i (suc n) zero j b w e = number_here (g j) (g i) _ (let z : j ≡ i = omega arith in ap g z)
    number_in_turn i (suc n) (suc k) j b w e =
        number_later (g j) (g i) _ (λ h. let z = one j i (omega arith) (omega arith) h in omega arith)
        ∙ ap (λ (o : Option ℕ). ◌>>=◌ o (λ n. some (suc n))) (number_in_turn (suc i) n k j (omega arith) (omega arith) (omega arith))

    unlike_in_turn : (i j n : ℕ) → i < j → j + n ≤ bound → Every (Unlike (g i)) (in_turn g j n)
    unfolding in_turn Every
    unlike_in_turn i j zero h b = tt
    unlike_in_turn i j (suc n) h b = (λ e. let z = one i j (omega arith) (omega arith) e in omega arith, unlike_in_turn i (suc j) n (omega arith) (omega arith))

    pub distinct_in_turn : (i n : ℕ) → i + n ≤ bound → T (distinct (in_turn g i n))
    unfolding in_turn distinct
    distinct_in_turn i zero b = tt
    distinct_in_turn i (suc n) b =
        pass_both (negated (among (g i) (in_turn g (suc i) n))) (distinct (in_turn g (suc i) n)) (each_unlike (g i) _ (unlike_in_turn i (suc i) n (omega arith) (omega arith)))
        (distinct_in_turn (suc i) n (omega arith))
