-- Steps of a reader: what is kept where a test passes, and what was found where a larger reader finds something.
use Rattle.std.specs.Prelude.{◌≡◌, List, ℕ}
use Rattle.std.proofs.Math.Path.{refl}
use Rattle.std.proofs.Common.{arith}
use Rattle.pcrl.specs.Reader.{Got, missing, found, Reader, bind, keep, test}

module _ {S : Type 0} where
  pub never : {A B : Type 0} (a : A) (xs : List S) → ◌≡◌ {A = Got S A} missing (found a xs) → B
  never a xs e = absurd (let z : ◌≡◌ {A = ℕ} 0 1 = cc in omega arith)

  -- where a `bind` finds something, its first reader did
  pub bound : {A B : Type 0} (g : Got S A) (k : A → Reader S B) (b : B) (zs : List S) → bind g k ≡ found b zs
      → (a : A) × (ys : List S) × (g ≡ found a ys) × (k a ys ≡ found b zs)
  unfolding bind
  bound missing k b zs e = never b zs e
  bound (found a ys) k b zs e = (a, ys, refl, e)

  pub kept : {A P : Type 0} (d : Dec P) (a b : A) (xs ys : List S) → keep d a xs ≡ found b ys → P × ((a ≡ b) × (xs ≡ ys))
  unfolding keep
  kept (yes h) a b xs ys e = (h, (cc, cc))
  kept (no h) a b xs ys e = never b ys e

  pub keeps : {A P : Type 0} (d : Dec P) (a : A) (xs : List S) → P → keep d a xs ≡ found a xs
  unfolding keep
  keeps (yes h) a xs p = refl
  keeps (no h) a xs p = absurd (h p)

  -- a value that passes the test
  pub test_read : {A : Type 0} {P : A → Type 0} (p : (a : A) → Dec (P a)) (read : Reader S A) (xs r : List S) (a : A) → read xs ≡ found a r → P a → test p read xs ≡ found a r
  unfolding test bind
  test_read p read xs r a e h = rw e (keeps (p a) a r h)
