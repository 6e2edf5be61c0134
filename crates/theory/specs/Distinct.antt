-- Names that are distinct: `among` and `distinct` as tests, and what they say of the elements of a list and of its parts.
use Rattle.std.specs.Prelude.{◌≡◌, List, [], ◌∷◌, ◌++◌, Bool, true, ℕ, T}
use Rattle.pcrl.specs.Tests.{negated, same?, among, distinct, Every}
use Rattle.laws.specs.Tests.{both_pass, pass_both}
use Rattle.laws.specs.Every.{every_left}

abbrev pub Unlike : List ℕ → List ℕ → Type 0
Unlike x y = x ≡ y → ⊥

-- A list that is not among others is unlike the first and not among the rest.
not_first : {P : Type 0} (d : Dec P) (b : Bool) → T (negated (elim d [ yes e ↦ true | no k ↦ b ])) → (P → ⊥) × T (negated b)
not_first (yes e) b h = absurd h
not_first (no k) b h = (k, h)

not_there : {P : Type 0} (d : Dec P) (b : Bool) → (P → ⊥) → T (negated b) → T (negated (elim d [ yes e ↦ true | no k ↦ b ]))
not_there (yes e) b h k = absurd (h e)
not_there (no n) b h k = k

-- It is unlike each of them,
pub unlike_each : (x : List ℕ) (l : List (List ℕ)) → T (negated (among x l)) → Every (Unlike x) l
unfolding among Every
unlike_each x [] h = tt
unlike_each x (y ∷ l) h = let k = not_first (same? x y) (among x l) h in (k.0, unlike_each x l k.1)

-- and one that is unlike each is not among them.
pub each_unlike : (x : List ℕ) (l : List (List ℕ)) → Every (Unlike x) l → T (negated (among x l))
unfolding among Every
each_unlike x [] h = tt
each_unlike x (y ∷ l) h = not_there (same? x y) (among x l) h.0 (each_unlike x l h.1)

-- Parts of a distinct list are distinct.
pub distinct_left : (l m : List (List ℕ)) → T (distinct (l ++ m)) → T (distinct l)
unfolding distinct
distinct_left [] m h = tt
distinct_left (x ∷ l) m h =
    let k = both_pass (negated (among x (l ++ m))) (distinct (l ++ m)) h in
    pass_both (negated (among x l)) (distinct l) (each_unlike x l (every_left (Unlike x) l m (unlike_each x (l ++ m) k.0))) (distinct_left l m k.1)

pub distinct_right : (l m : List (List ℕ)) → T (distinct (l ++ m)) → T (distinct m)
unfolding distinct
distinct_right [] m h = h
distinct_right (x ∷ l) m h = distinct_right l m (both_pass (negated (among x (l ++ m))) (distinct (l ++ m)) h).1

-- The first of a distinct list is unlike the others.
pub distinct_first : (x : List ℕ) (l : List (List ℕ)) → T (distinct (x ∷ l)) → Every (Unlike x) l
unfolding distinct
distinct_first x l h = unlike_each x l (both_pass (negated (among x l)) (distinct l) h).0
