-- A name among others, and names that are distinct, found by going through the list.
use mathlib.Core.Path.{◌≡◌, refl, sym, ◌∙◌, ap}
use mathlib.Core.List.{List, [], ◌∷◌}
use mathlib.Core.Bool.{Bool, true, false, not}
use mathlib.Core.Option.{Option, none, some}
use Prim.Native.Nat.{ℕ, suc, ◌≤◌, ◌<◌}
use native.Mathlib.Omega.{arith}
use native.Mathlib.Decide.{dec_lt}
use borrow.Author.Tests.{eq-eqb, ne_eqb}
use lib.Dec.{eqb}
use lib.ListN.{length}
use Rattle.pcrl.specs.Tests.{and, negated, same?, among, distinct}
use Rattle.pcrl.specs.Tree.{Name}
use Rattle.pcrl.specs.Names.{number_of}
use Rattle.pcrl.specs.Maybe.{◌>>=◌}
use Rattle.laws.specs.Booleans.{and_false}
use Rattle.std.specs.Prelude.{Option as Given}
use Rattle.std.specs.Option.{is_some as given}
use Rattle.names.specs.NameCells.{found}

pub among_first : (x y : Name) (l : List Name) → x ≡ y → among x (y ∷ l) ≡ true
unfolding among
among_first x y l e = go (same? x y)
  where
    go : (d : Dec (x ≡ y)) → elim d [ yes e ↦ true | no h ↦ among x l ] ≡ true
    go (yes k) = refl
    go (no h) = absurd (h e)

pub among_later : (x y : Name) (l : List Name) → (x ≡ y → ⊥) → among x (y ∷ l) ≡ among x l
unfolding among
among_later x y l n = go (same? x y)
  where
    go : (d : Dec (x ≡ y)) → elim d [ yes e ↦ true | no h ↦ among x l ] ≡ among x l
    go (yes e) = absurd (n e)
    go (no h) = refl

abbrev is_some : Option ℕ → Bool
is_some none = false
is_some (some i) = true

some_suc : (o : Option ℕ) → is_some (◌>>=◌ o (λ i. some (suc i))) ≡ is_some o
some_suc none = refl
some_suc (some i) = refl

-- a name is among others if it has a number
among_number : (x : Name) (l : List Name) → among x l ≡ is_some (number_of x l)
unfolding among number_of
among_number x [] = refl
among_number x (y ∷ l) = by (same? x y) (among_number x l)
  where
    by : (d : Dec (x ≡ y)) → among x l ≡ is_some (number_of x l)
        → elim d as (λ (z : Dec (x ≡ y)). Bool) [ yes e ↦ true | no h ↦ among x l ] ≡ is_some (elim d [ yes e ↦ some 0 | no h ↦ ◌>>=◌ (number_of x l) (λ n. some (suc n)) ])
    by (yes e) h = refl
    by (no q) h = h ∙ sym (some_suc (number_of x l))

-- a search that finds the name, and one that does not
pub number_among : (x : Name) (l : List Name) (r : Given ℕ) → r ≡ found (number_of x l) → among x l ≡ given r
number_among x l r e = among_number x l ∙ rw e (go (number_of x l))
  where
    go : (o : Option ℕ) → is_some o ≡ given (found o)
    go none = refl
    go (some i) = refl

-- n stands before l; the next name is n,
pub taken_twice : (b : Bool) (n y : Name) (l m : List Name) → b ≡ distinct (n ∷ l) → l ≡ y ∷ m → y ≡ n → false ≡ b
unfolding distinct
taken_twice b n y l m h e k = sym (h ∙ rw (e, among_first n y m (sym k)))

-- it is there once more,
pub there_twice : (b : Bool) (n y : Name) (l m : List Name) → b ≡ distinct (n ∷ l) → l ≡ y ∷ m → among y m ≡ true → false ≡ b
unfolding distinct
there_twice b n y l m h e k = sym (h ∙ rw (e, k) (and_false (negated (among n (y ∷ m)))))

-- or it is new
pub new_passed : (b : Bool) (n y : Name) (l m : List Name) → b ≡ distinct (n ∷ l) → l ≡ y ∷ m → (y ≡ n → ⊥) → among y m ≡ false → b ≡ distinct (n ∷ m)
unfolding distinct
new_passed b n y l m h e k a = h ∙ rw (e, among_later n y m (λ z. k (sym z)), a)

-- a variable: Bool, one of the others, one in scope, or none of them
pub new_none : (n x : Name) (l : List Name) (t : Bool) → x ≡ n → false ≡ and (negated (among x (n ∷ l))) t
new_none n x l t e = rw (among_first x n l e)

pub new_taken : (n x : Name) (l : List Name) (t : Bool) → (x ≡ n → ⊥) → among x l ≡ true → false ≡ and (negated (among x (n ∷ l))) t
new_taken n x l t e a = rw (among_later x n l e, a)

new_scope : (n x : Name) (l m : List Name) → (x ≡ n → ⊥) → among x l ≡ false → (b : Bool) → among x m ≡ b → negated b ≡ and (negated (among x (n ∷ l))) (negated (among x m))
new_scope n x l m e a b h = rw (among_later x n l e, a, h)

-- the scope is searched last
pub new_last : (n x : Name) (l m : List Name) → (x ≡ n → ⊥) → among x l ≡ false → (r : Given ℕ) → r ≡ found (number_of x m)
    → (b : Bool) → given r ≡ not b → b ≡ and (negated (among x (n ∷ l))) (negated (among x m))
new_last n x l m e a r h true k = new_scope n x l m e a false (number_among x m r h ∙ k)
new_last n x l m e a r h false k = new_scope n x l m e a true (number_among x m r h ∙ k)
