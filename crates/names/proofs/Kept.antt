-- What stands before p is kept: its elements, and the rows of sorts there. And lines at their places, one by one.
use mathlib.Core.Path.{◌≡◌, refl, sym, ◌∙◌, ap}
use mathlib.Core.List.{List, [], ◌∷◌}
use mathlib.Core.Bool.{Bool, true, false}
use Rattle.std.specs.Prelude.{Some, None}
use mathlib.Core.Option.{Option, none, some}
use Prim.Native.Nat.{ℕ, zero, suc, ◌+◌, ◌<◌}
use native.Mathlib.Numerals.{add-one}
use native.Mathlib.Omega.{arith}
use lib.ListN.{length, drop, get_or}
use lib.Seq.{get_or-take}
use Rattle.pcrl.specs.Tests.{Every, Each}
use Rattle.nodes.specs.Held.{SortsAt}
use Rattle.names.specs.Rows.{Kept, Answers, Yields}

pub kept_at : (p : ℕ) (l l' : List ℕ) (q : ℕ) → Kept p l l' → q < p → get_or l' q 0 ≡ get_or l q 0
kept_at p l l' q k h = sym (get_or-take p l' q 0 h) ∙ (ap (λ (m : List ℕ). get_or m q 0) k.before ∙ get_or-take p l q 0 h)

pub sorts_kept : (p : ℕ) (l l' Ds : List ℕ) (q : ℕ) → Kept p l l' → q + length Ds < p → SortsAt Ds l q → SortsAt Ds l' q
sorts_kept p l l' Ds q k h r = record {
  many = kept_at p l l' q k (omega arith) ∙ r.many;
  each = λ i o. kept_at p l l' (q + 1 + i) k (omega arith) ∙ r.each i o;
}

-- an answer that is known
pub answered_no : {A : Type 0} (X : A → Type 0) (o : Option A) (ok : Bool) → Answers X o ok → ok ≡ false → o ≡ none
answered_no X none ok a e = refl
answered_no X (some x) ok a e = let h = a.0 in absurd (let z : ◌≡◌ {A = ℕ} 0 1 = cc in omega arith)

pub answered_yes : {A : Type 0} (X : A → Type 0) (o : Option A) (ok : Bool) → Answers X o ok → ok ≡ true → (x : A) × (o ≡ some x) × X x
answered_yes X none ok a e = absurd (let z : ◌≡◌ {A = ℕ} 0 1 = cc in omega arith)
answered_yes X (some x) ok a e = (x, refl, a.1)

-- and one that is a value, or none
pub yields_none : {A B : Type 0} (X : A → B → Type 0) (o : Option A) → Yields X o None → o ≡ none
yields_none X none g = refl
yields_none X (some x) g = absurd g

pub yields_some : {A B : Type 0} (X : A → B → Type 0) (o : Option A) (b : B) → Yields X o (Some b) → (x : A) × (o ≡ some x) × X x b
yields_some X none b g = absurd g
yields_some X (some x) b g = (x, refl, g)

-- the line at the i-th place, and those behind it
pub each_next : {B : Type 0} (R : ℕ → B → Type 0) (l : List ℕ) (m : List B) (i : ℕ) → Each R l m → i < length l
    → (b : B) × (drop i m ≡ b ∷ drop (i + 1) m) × R (get_or l i 0) b
unfolding Each
each_next R [] m i e h = absurd (omega arith)
each_next R (a ∷ l) [] i e h = absurd e
each_next R (a ∷ l) (b ∷ m) zero e h = (b, refl, e.0)
each_next R (a ∷ l) (b ∷ m) (suc i) e h = let (x, d, r) = each_next R l m i e.1 (omega arith) in (x, rw (add-one (suc i)) (rw (add-one i) at d), r)

pub every_at : {B : Type 0} (P : B → Type 0) (m : List B) (i : ℕ) (b : B) (k : List B) → Every P m → drop i m ≡ b ∷ k → P b
unfolding Every
every_at P [] zero b k h e = absurd (let z : ◌≡◌ {A = ℕ} 0 1 = cc in omega arith)
every_at P [] (suc i) b k h e = absurd (let z : ◌≡◌ {A = ℕ} 0 1 = cc in omega arith)
every_at P (a ∷ m) zero b k h e = let z : a ≡ b = cc in rw z at h.0
every_at P (a ∷ m) (suc i) b k h e = every_at P m i b k h.1 e
