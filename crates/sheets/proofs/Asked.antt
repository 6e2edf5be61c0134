-- One question of names after another: the answer to all of them is that of each, and what each leaves holds together.
use Rattle.std.specs.Prelude.{Option as Given, Some, None}
use mathlib.Core.Path.{◌≡◌, refl}
use mathlib.Core.Bool.{Bool, true, false}
use mathlib.Core.Option.{Option, none, some}
use Rattle.pcrl.specs.Maybe.{◌>>=◌, ◌>>◌, provided}
use Rattle.names.specs.Rows.{Yields}

module _ {B C : Type 0} (R : B → C → Type 0) where
  -- values, and then those made of them
  pub yields_then : {A D : Type 0} (P : A → D → Type 0) (o : Option A) (k : A → Option B) (d : D) (r : Given C) → Yields P o (Some d) → ((x : A) → o ≡ some x → P x d → Yields R (k x) r) → Yields R (◌>>=◌ o k) r
  yields_then P none k d r h f = absurd h
  yields_then P (some x) k d r h f = f x refl h

  -- the first are missing
  pub yields_missing : {A D : Type 0} (P : A → D → Type 0) (o : Option A) (k : A → Option B) → Yields P o None → Yields R (◌>>=◌ o k) None
  yields_missing P none k h = tt
  yields_missing P (some x) k h = absurd h

  -- the last ones, given by the same answer,
  pub yields_last : {A : Type 0} (P : A → C → Type 0) (o : Option A) (k : A → B) (r : Given C) → Yields P o r → ((x : A) (c : C) → o ≡ some x → P x c → R (k x) c) → Yields R (◌>>=◌ o (λ x. some (k x))) r
  yields_last P none k None h f = tt
  yields_last P none k (Some c) h f = absurd h
  yields_last P (some x) k None h f = absurd h
  yields_last P (some x) k (Some c) h f = f x c refl h

  -- only where a test passes
  pub yields_test : (t : Bool) (o : Option B) (r : Given C) → true ≡ t → Yields R o r → Yields R (◌>>◌ (provided t) o) r
  yields_test true o r e h = h
  yields_test false o r e h = absurd (cc)

  pub yields_untested : (t : Bool) (o : Option B) → false ≡ t → Yields R (◌>>◌ (provided t) o) None
  yields_untested true o e = absurd (cc)
  yields_untested false o e = tt
