-- Tests as facts: a bit that passes is true, both or one of two pass, `eqb` passes equal numbers and no others, and a decision goes one way.
use Rattle.std.specs.Prelude.{◌≡◌, refl, Bool, true, false, ◌⊎◌, ◌≢◌, ℕ, eqb, T}
use Rattle.std.proofs.Common.{sym, subst, inl, inr, eqb→eq}
use Rattle.std.proofs.Math.Dec.{eqb_refl}
use Rattle.pcrl.specs.Tests.{and, or}

pub is_true : (b : Bool) → T b → b ≡ true
is_true true h = refl
is_true false h = absurd h

pub of_true : (b : Bool) → b ≡ true → T b
of_true b e = subst T (sym e) tt

pub both_pass : (a b : Bool) → T (and a b) → T a × T b
both_pass true b h = (tt, h)
both_pass false b h = absurd h

pub pass_both : (a b : Bool) → T a → T b → T (and a b)
pass_both true b h k = k
pass_both false b h k = absurd h

pub one_passes : (a b : Bool) → T (or a b) → T a ⊎ T b
one_passes true b h = inl tt
one_passes false b h = inr h

pub or_left : (a b : Bool) → a ≡ true → or a b ≡ true
or_left a b h = rw h

pub or_right : (a b : Bool) → b ≡ true → or a b ≡ true
or_right true b h = refl
or_right false b h = h

pub eqb_self : (i : ℕ) → eqb i i ≡ true
eqb_self i = is_true (eqb i i) (eqb_refl i)

pub eqb_true : (i j : ℕ) → eqb i j ≡ true → i ≡ j
eqb_true i j e = eqb→eq i j (of_true (eqb i j) e)

pub eqb_other : (i j : ℕ) → i ≢ j → eqb i j ≡ false
eqb_other i j h = go (eqb i j) refl
  where
    go : (b : Bool) → eqb i j ≡ b → b ≡ false
    go true e = absurd (h (eqb_true i j e))
    go false e = refl

-- what is chosen by a decision
pub where_yes : {P A : Type 0} (d : Dec P) → P → (a b : A) → (elim d as (λ x. A) [ yes h ↦ a | no h ↦ b ]) ≡ a
where_yes (yes h) p a b = refl
where_yes (no h) p a b = absurd (h p)

pub where_no : {P A : Type 0} (d : Dec P) → (P → ⊥) → (a b : A) → (elim d as (λ x. A) [ yes h ↦ a | no h ↦ b ]) ≡ b
where_no (yes h) n a b = absurd (n h)
where_no (no h) n a b = refl
