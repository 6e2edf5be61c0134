-- Rows filled one after another: the values found so far have theirs, and the values of all are those and what is left gives.
use mathlib.Core.Path.{◌≡◌, refl, sym, ◌∙◌, ap}
use mathlib.Core.List.{List, [], ◌∷◌, ◌++◌, append-nil, append_assoc}
use mathlib.Core.Bool.{Bool, true, false}
use Rattle.std.specs.Prelude.{Some}
use mathlib.Core.Option.{Option, none, some}
use mathlib.Core.Logic.{⊎_elim}
use Prim.Native.Nat.{ℕ, ◌+◌, ◌≤◌, ◌<◌}
use native.Mathlib.Nat.{eq-or-lt_of_le}
use native.Mathlib.Omega.{arith}
use lib.ListN.{length, drop, get_or, length-append, drop_of_length-le, get_or-append}
use lib.Seq.{get_or_at}
use Rattle.pcrl.specs.Maybe.{◌>>=◌, for_each}
use Rattle.names.specs.Rows.{Answers, Yields}

-- values before those that may be missing
abbrev pub glue : {B : Type 0} → List B → Option (List B) → Option (List B)
glue d none = none
glue d (some m) = some (d ++ m)

module _ {A B : Type 0} where
  module _ (f : A → Option B) (d : B) where
    pub record Gone (P : B → ℕ → Type 0) (ls : List A) (i : ℕ) : Type 0 where
      pub done : List B
      pub many : length done ≡ i
      pub whole : for_each f ls ≡ glue done (for_each f (drop i ls))
      pub held : (j : ℕ) → j < i → P (get_or done j d) j

    pub gone_none : (P : B → ℕ → Type 0) (ls : List A) → Gone P ls 0
    gone_none P ls = record { done = []; many = refl; whole = go (for_each f ls); held = λ j h. absurd (omega arith) }
      where
        go : (o : Option (List B)) → o ≡ glue [] o
        go none = refl
        go (some m) = refl

    missing : (done : List B) (a : A) (m : List A) → f a ≡ none → glue done (for_each f (a ∷ m)) ≡ none
    unfolding for_each
    missing done a m e = rw e

    -- a value that is missing
    pub gone_stops : (P : B → ℕ → Type 0) (ls m : List A) (i : ℕ) (a : A) → Gone P ls i → drop i ls ≡ a ∷ m → f a ≡ none → for_each f ls ≡ none
    gone_stops P ls m i a g e n = rw (g.whole, e, missing g.done a m n)

    next : (done : List B) (a : A) (m : List A) (b : B) → f a ≡ some b → glue done (for_each f (a ∷ m)) ≡ glue (done ++ (b ∷ [])) (for_each f m)
    unfolding for_each
    next done a m b e = rw e (go (for_each f m))
      where
        go : (o : Option (List B)) → glue done (◌>>=◌ o (λ l. some (b ∷ l))) ≡ glue (done ++ (b ∷ [])) o
        go none = refl
        go (some l) = ap some (sym (append_assoc done (b ∷ []) l))

    -- one more: what holds of the values before goes on to hold
    pub gone_goes : (P Q : B → ℕ → Type 0) (ls : List A) (i : ℕ) (a : A) (b : B) → Gone P ls i → drop i ls ≡ a ∷ drop (i + 1) ls → f a ≡ some b
        → ((x : B) (j : ℕ) → j < i → P x j → Q x j) → Q b i → Gone Q ls (i + 1)
    gone_goes P Q ls i a b g e s keep q =
        record {
          done = g.done ++ (b ∷ []);
          many = simp length-append (omega (arith, g.many));
          whole = g.whole ∙ (ap (λ (l : List A). glue g.done (for_each f l)) e ∙ next g.done a (drop (i + 1) ls) b s);
          held = λ j h. ⊎_elim (λ z. last j z) (λ l. before j (omega arith)) (eq-or-lt_of_le {n = j} {m = i} (omega arith));
        }
      where
        before : (j : ℕ) → j < i → Q (get_or (g.done ++ (b ∷ [])) j d) j
        before j h = rw (get_or-append g.done (b ∷ []) d j (omega (arith, g.many))) (keep (get_or g.done j d) j h (g.held j h))

        last : (j : ℕ) → j ≡ i → Q (get_or (g.done ++ (b ∷ [])) j d) j
        last j z = rw (get_or_at g.done b [] d j (g.many ∙ sym z), z) q

    all_there : (done : List B) (m : List A) → m ≡ [] → glue done (for_each f m) ≡ some done
    unfolding for_each
    all_there done m e = rw (e, append-nil done)

    -- all of them, and what is given for them
    pub gone_yields : {C : Type 0} (P : B → ℕ → Type 0) (X : List B → C → Type 0) (ls : List A) (i : ℕ) (c : C) → Gone P ls i → length ls ≤ i
        → ((bs : List B) → length bs ≡ i → ((j : ℕ) → j < i → P (get_or bs j d) j) → X bs c) → Yields X (for_each f ls) (Some c)
    gone_yields P X ls i c g h x = rw (g.whole, all_there g.done (drop i ls) (drop_of_length-le ls {i = i} h)) (x g.done g.many g.held)

    -- all of them
    pub gone_ends : (P : B → ℕ → Type 0) (X : List B → Type 0) (ls : List A) (i : ℕ) (ok : Bool) → Gone P ls i → length ls ≤ i → ok ≡ true
        → ((bs : List B) → length bs ≡ i → ((j : ℕ) → j < i → P (get_or bs j d) j) → X bs) → Answers X (for_each f ls) ok
    gone_ends P X ls i ok g h o x = rw (g.whole, all_there g.done (drop i ls) (drop_of_length-le ls {i = i} h)) (o, x g.done g.many g.held)
