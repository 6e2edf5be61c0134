-- The place of a name in a list, found by going through the list: the first i elements are others.
use mathlib.Core.Path.{◌≡◌, refl, sym, ◌∙◌, ap}
use mathlib.Core.List.{List, [], ◌∷◌, ◌++◌, map}
use Rattle.std.specs.Prelude.{Option as Given, Some, None}
use mathlib.Core.Option.{Option, none, some}
use mathlib.Core.Logic.{◌⊎◌, inl, inr, ⊎_elim}
use Prim.Native.Nat.{ℕ, suc, ◌+◌, ◌-◌, ◌≤◌, ◌<◌}
use native.Mathlib.Numerals.{add-one}
use native.Mathlib.Omega.{arith}
use lib.ListN.{length, take, drop, get_or, drop_of_length-le}
use lib.Seq.{drop-cons}
use Rattle.pcrl.specs.Tests.{same?}
use Rattle.pcrl.specs.Tree.{Name}
use Rattle.pcrl.specs.Names.{number_of}
use Rattle.pcrl.specs.Maybe.{◌>>=◌}
use Rattle.laws.specs.Numbers.{number_below}
use Rattle.names.specs.NameCells.{or_count, found}
use Rattle.names.proofs.Lists.{mapped_length, mapped_at}

-- the number of x among n names, or n
abbrev pub number_in : ℕ → Name → List Name → ℕ
number_in n x l = or_count n (number_of x l)

here : (n : ℕ) (x y : Name) (l : List Name) → x ≡ y → number_in n x (y ∷ l) ≡ 0
unfolding number_of
here n x y l e = go (same? x y)
  where
    go : (d : Dec (x ≡ y)) → or_count n (elim d [ yes e ↦ some 0 | no h ↦ ◌>>=◌ (number_of x l) (λ n. some (suc n)) ]) ≡ 0
    go (yes e) = refl
    go (no h) = absurd (h e)

counted_on : (n : ℕ) (o : Option ℕ) → or_count (suc n) (◌>>=◌ o (λ n. some (suc n))) ≡ suc (or_count n o)
counted_on n none = refl
counted_on n (some i) = refl

pub elsewhere : (n : ℕ) (x y : Name) (l : List Name) → (x ≡ y → ⊥) → number_in (suc n) x (y ∷ l) ≡ suc (number_in n x l)
unfolding number_of
elsewhere n x y l d = go (same? x y)
  where
    go : (t : Dec (x ≡ y)) → or_count (suc n) (elim t [ yes e ↦ some 0 | no h ↦ ◌>>=◌ (number_of x l) (λ n. some (suc n)) ]) ≡ suc (number_in n x l)
    go (yes e) = absurd (d e)
    go (no h) = counted_on n (number_of x l)

-- the name at the front
pub found_first : (x y : Name) (l : List Name) → x ≡ y → Some 0 ≡ found (number_of x (y ∷ l))
unfolding number_of
found_first x y l e = go (same? x y)
  where
    go : (t : Dec (x ≡ y)) → ◌≡◌ {A = Given ℕ} (Some 0) (found (elim t [ yes e ↦ some 0 | no h ↦ ◌>>=◌ (number_of x l) (λ n. some (suc n)) ]))
    go (yes z) = refl
    go (no h) = absurd (h e)

-- i names were passed; what is left says where x is
abbrev pub Passed : ℕ → Name → List Name → ℕ → Type 0
Passed n x l i = number_in n x l ≡ i + number_in (n - i) x (drop i l)

module _ (n : ℕ) (x : Name) (l : List Name) (many : length l ≡ n) where
  pub passed_none : Passed n x l 0
  passed_none = let k : n - 0 ≡ n = omega arith in rw k (omega arith)

  pub passed_here : (i : ℕ) → i < n → Passed n x l i → x ≡ get_or l i [] → i ≡ number_in n x l
  passed_here i h p e =
      let f : number_in (n - i) x (drop i l) ≡ 0 = rw (drop-cons l i [] (omega arith)) (here (n - i) x (get_or l i []) (drop (suc i) l) e) in
      omega arith

  pub passed_on : (i : ℕ) → i < n → Passed n x l i → (x ≡ get_or l i [] → ⊥) → Passed n x l (i + 1)
  passed_on i h p d =
      let k : n - i ≡ suc (n - (i + 1)) = omega arith in
      let f : number_in (n - i) x (drop i l) ≡ suc (number_in (n - (i + 1)) x (drop (i + 1) l))
      = rw (drop-cons l i [] (omega arith), k, add-one i) (elsewhere (n - suc i) x (get_or l i []) (drop (suc i) l) d) in
      omega arith

  pub passed_all : (i : ℕ) → n ≤ i → i ≤ n → Passed n x l i → n ≡ number_in n x l
  unfolding number_of
  passed_all i h k p =
      let f : number_in (n - i) x (drop i l) ≡ n - i = rw (drop_of_length-le l {i = i} (omega arith)) in
      omega arith

-- a number below n was found
pub found_some : (n : ℕ) (o : Option ℕ) (i : ℕ) → i ≡ or_count n o → i < n → o ≡ some i
found_some n none i e h = absurd (omega arith)
found_some n (some j) i e h = ap some (sym e)

-- n itself: there is none
pub found_none : (n : ℕ) (x : Name) (l : List Name) (i : ℕ) → length l ≤ n → i ≡ number_in n x l → n ≤ i → number_of x l ≡ none
found_none n x l i h e k = go (number_of x l) refl
  where
    go : (o : Option ℕ) → number_of x l ≡ o → number_of x l ≡ none
    go none z = z
    go (some j) z = let b = number_below x l j z in let w : number_in n x l ≡ j = rw z in absurd (omega arith)

-- what code gives for a number below n, and for none
pub some_found : (n : ℕ) (o : Option ℕ) (i : ℕ) → i ≡ or_count n o → i < n → Some i ≡ found o
some_found n o i e h = ap found (sym (found_some n o i e h))

pub none_found : (n : ℕ) (x : Name) (l : List Name) (i : ℕ) → length l ≤ n → i ≡ number_in n x l → n ≤ i → None ≡ found (number_of x l)
none_found n x l i h e k = ap found (sym (found_none n x l i h e k))

-- what is there, where code gives a number, and where it gives none
pub is_found : (o : Option ℕ) (i : ℕ) → Some i ≡ found o → o ≡ some i
is_found none i e = absurd (cc)
is_found (some j) i e = let z : i ≡ j = cc in ap some (sym z)

pub not_found : (o : Option ℕ) → None ≡ found o → o ≡ none
not_found none e = refl
not_found (some j) e = absurd (cc)

-- one more than the number among those behind the first
pub found_next : (x y : Name) (l : List Name) (i : ℕ) → (x ≡ y → ⊥) → Some i ≡ found (number_of x l) → Some (i + 1) ≡ found (number_of x (y ∷ l))
unfolding number_of
found_next x y l i d e = go (same? x y)
  where
    go : (t : Dec (x ≡ y)) → ◌≡◌ {A = Given ℕ} (Some (i + 1)) (found (elim t [ yes e ↦ some 0 | no h ↦ ◌>>=◌ (number_of x l) (λ n. some (suc n)) ]))
    go (yes z) = absurd (d z)
    go (no h) = rw (is_found (number_of x l) i e) (rw (add-one i) refl)

pub found_nowhere : (x y : Name) (l : List Name) → (x ≡ y → ⊥) → None ≡ found (number_of x l) → None ≡ found (number_of x (y ∷ l))
unfolding number_of
found_nowhere x y l d e = go (same? x y)
  where
    go : (t : Dec (x ≡ y)) → ◌≡◌ {A = Given ℕ} None (found (elim t [ yes e ↦ some 0 | no h ↦ ◌>>=◌ (number_of x l) (λ n. some (suc n)) ]))
    go (yes z) = absurd (d z)
    go (no h) = rw (not_found (number_of x l) e)

-- a name among those of the first n cells
module _ (f : ℕ → Name) (cells : List ℕ) (n : ℕ) (room : n ≤ length cells) where
  module _ (x : Name) where
    abbrev pub Searched : ℕ → Type 0
    Searched i = Passed n x (map f (take n cells)) i

    pub search_starts : Searched 0
    search_starts = passed_none n x (map f (take n cells)) (mapped_length f cells n room)

    pub search_finds : (i : ℕ) → i < n → Searched i → x ≡ f (get_or cells i 0) → Some i ≡ found (number_of x (map f (take n cells)))
    search_finds i h p e = some_found n _ i (passed_here n x (map f (take n cells)) (mapped_length f cells n room) i h p (e ∙ sym (mapped_at f cells n room i [] h))) h

    pub search_goes : (i : ℕ) → i < n → Searched i → (x ≡ f (get_or cells i 0) → ⊥) → Searched (i + 1)
    search_goes i h p d = passed_on n x (map f (take n cells)) (mapped_length f cells n room) i h p (λ e. d (e ∙ mapped_at f cells n room i [] h))

    pub search_ends : (i : ℕ) → n ≤ i → i ≤ n → Searched i → None ≡ found (number_of x (map f (take n cells)))
    search_ends i h k p = let many = mapped_length f cells n room in none_found n x (map f (take n cells)) n (omega arith) (passed_all n x (map f (take n cells)) many i h k p) (omega arith)

-- A name among some and those behind them: it is one of the first, or its number there is counted on.
abbrev Joined : ℕ → Name → List Name → List Name → Type 0
Joined p x ys ps =
    ((number_in (length ys + p) x (ys ++ ps) ≡ number_in (length ys) x ys) × (number_in (length ys) x ys < length ys))
    ⊎ ((number_in (length ys) x ys ≡ length ys) × (number_in (length ys + p) x (ys ++ ps) ≡ length ys + number_in p x ps))

joined : (p : ℕ) (x : Name) (ys ps : List Name) → Joined p x ys ps
unfolding number_of
joined p x [] ps = let z : 0 + p ≡ p = omega arith in inr (refl, rw z (omega arith))
joined p x (y ∷ ys) ps = go (same? x y) (joined p x ys ps)
  where
    go : Dec (x ≡ y) → Joined p x ys ps → Joined p x (y ∷ ys) ps
    go (yes e) j = inl (here (suc (length ys) + p) x y (ys ++ ps) e ∙ sym (here (suc (length ys)) x y ys e), let h = here (suc (length ys)) x y ys e in omega arith)
    go (no d) j =
        let f = elsewhere (length ys) x y ys d in
        let z : suc (length ys) + p ≡ suc (length ys + p) = omega arith in
        let g : number_in (suc (length ys) + p) x (y ∷ (ys ++ ps)) ≡ suc (number_in (length ys + p) x (ys ++ ps)) = rw z (elsewhere (length ys + p) x y (ys ++ ps) d) in
        ⊎_elim (λ q. inl (let a = q.0 in let b = q.1 in omega arith, let b = q.1 in omega arith)) (λ q. inr (let a = q.0 in omega arith, let b = q.1 in omega arith)) j

-- where a number in both is below the number of the first, it is the number there; else the rest of it is the number behind them
pub number_parts : (a p : ℕ) (x : Name) (ys ps : List Name) (r : ℕ) → length ys ≡ a → r ≡ number_in (a + p) x (ys ++ ps)
    → (r < a → r ≡ number_in a x ys) × (a ≤ r → (a ≡ number_in a x ys) × (r - a ≡ number_in p x ps))
number_parts a p x ys ps r e f = let k : r ≡ number_in (length ys + p) x (ys ++ ps) = rw e f in rw (← e) (⊎_elim
    (λ q. let g = q.0 in let h = q.1 in (λ l. omega arith, λ l. absurd (omega arith)))
    (λ q. let g = q.0 in let h = q.1 in (λ l. absurd (omega arith), λ l. (omega arith, omega arith)))
    (joined p x ys ps))
