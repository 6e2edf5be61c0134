-- A writer, a condition and a reader that belong together: what is right is read back, and what is read was written and is right.
-- One law for each reader of pcrl's Reader; the law of a larger reader is a term of the same shape as that reader.
use Rattle.std.proofs.Math.Path.{◌≡◌, refl, sym, ap, subst}
use Rattle.std.proofs.Common.{◌∙◌, arith}
use mathlib.Core.List.{List, [], ◌∷◌, ◌++◌, append_assoc}
use Prim.Native.Nat.{ℕ, zero, suc}
use Rattle.std.proofs.Math.ListN.{length}
use Rattle.pcrl.specs.Tests.{Every, Each}
use Rattle.pcrl.specs.Reader.{found, Reader, bind, one, test, pair, view, times, counted, each, all}
pub use Rattle.laws.specs.Readers.{never, bound, kept, keeps}
use Rattle.laws.specs.Readers.{test_read}

-- w writes a value, R says which values are right, r reads
pub record Lawful {A : Type 0} (w : A → List ℕ) (R : A → Type 0) (r : Reader ℕ A) : Type 0 where
  pub there : (a : A) (rest : List ℕ) → R a → r (w a ++ rest) ≡ found a rest
  pub back : (xs : List ℕ) (a : A) (rest : List ℕ) → r xs ≡ found a rest → (xs ≡ w a ++ rest) × R a

-- ONE LAW A READER

pub one_law : {P : ℕ → Type 0} (p : (n : ℕ) → Dec (P n)) → Lawful (λ x. x ∷ []) P (one p)
unfolding one
one_law {P} p = record { there = λ a rest h. keeps (p a) a rest h; back = from }
  where
    from : (xs : List ℕ) (a : ℕ) (rest : List ℕ) → one p xs ≡ found a rest → (xs ≡ a ∷ rest) × P a
    from [] a rest e = never a rest e
    from (x ∷ xs) a rest e = let (h, (u, v)) = kept (p x) x a xs rest e in (cc, rw u at h)

pub test_law : {A : Type 0} {P : A → Type 0} (p : (a : A) → Dec (P a)) {w : A → List ℕ} {R : A → Type 0} {r : Reader ℕ A}
    → Lawful w R r → Lawful w (λ a. R a × P a) (test p r)
unfolding test bind
test_law {A} {P} p {w} {R} {r} l = record { there = λ a rest h. test_read p r _ rest a (l.there a rest h.0) h.1; back = from }
  where
    from : (xs : List ℕ) (a : A) (rest : List ℕ) → test p r xs ≡ found a rest → (xs ≡ w a ++ rest) × (R a × P a)
    from xs a rest e =
        let (a', ys, e₁, e₂) = bound (r xs) _ a rest e in
        let (h, (u, v)) = kept (p a') a' a ys rest e₂ in
        let q : r xs ≡ found a rest = cc in
        let (f, g) = l.back xs a rest q in
        (f, (g, rw u at h))

module _ {A B : Type 0} {w : A → List ℕ} {R : A → Type 0} {r : Reader ℕ A} {v : B → List ℕ} {Q : A → B → Type 0} {s : A → Reader ℕ B} where
  -- The second law may use that the first value is right.
  pub pair_law : Lawful w R r → ((a : A) → R a → Lawful v (Q a) (s a)) → Lawful (λ (p : A × B). w p.0 ++ v p.1) (λ p. R p.0 × Q p.0 p.1) (pair r s)
  unfolding pair bind
  pair_law l m =
      record { there = λ p rest h. rw (append_assoc (w p.0) (v p.1) rest, l.there p.0 (v p.1 ++ rest) h.0, (m p.0 h.0).there p.1 rest h.1); back = from }
    where
      from : (xs : List ℕ) (p : A × B) (rest : List ℕ) → pair r s xs ≡ found p rest → (xs ≡ (w p.0 ++ v p.1) ++ rest) × (R p.0 × Q p.0 p.1)
      from xs p rest e =
          let (a, ys, e₁, e₂) = bound (r xs) _ p rest e in
          let (b, zs, e₃, e₄) = bound (s a ys) _ p rest e₂ in
          let (f, g) = l.back xs a ys e₁ in
          let (f', g') = (m a g).back ys b zs e₃ in
          let q : ◌≡◌ {A = A × B} (a, b) p = cc in
          let z : zs ≡ rest = cc in
          let t : xs ≡ (w a ++ v b) ++ rest = rw (append_assoc (w a) (v b) rest) (cc) in
          subst (λ (y : A × B). (xs ≡ (w y.0 ++ v y.1) ++ rest) × (R y.0 × Q y.0 y.1)) q (t, (g, g'))

module _ {A : Type 0} {w : A → List ℕ} {R : A → Type 0} {r : Reader ℕ A} where
  -- the same values in another dress
  pub view_law : {B : Type 0} (f : A → B) (g : B → A) → ((b : B) → f (g b) ≡ b) → ((a : A) → R a → g (f a) ≡ a) → Lawful w R r → Lawful (λ b. w (g b)) (λ b. R (g b)) (view f r)
  unfolding view bind
  view_law {B} f g fg gf l = record { there = λ b rest h. rw (l.there (g b) rest h, fg b); back = from }
    where
      from : (xs : List ℕ) (b : B) (rest : List ℕ) → view f r xs ≡ found b rest → (xs ≡ w (g b) ++ rest) × R (g b)
      from xs b rest e =
          let (a, ys, e₁, e₂) = bound (r xs) _ b rest e in
          let q : f a ≡ b = cc in
          let q' : a ≡ g b = sym (gf a (l.back xs a ys e₁).1) ∙ ap g q in
          let z : r xs ≡ found (g b) rest = cc in
          l.back xs (g b) rest z

  -- the same values in another dress, where Q holds of the dress
  pub view_law_where : {B : Type 0} (f : A → B) (g : B → A) (Q : B → Type 0) → ((b : B) → Q b → f (g b) ≡ b) → ((a : A) → R a → (g (f a) ≡ a) × Q (f a)) → Lawful w R r
      → Lawful (λ b. w (g b)) (λ b. R (g b) × Q b) (view f r)
  unfolding view bind
  view_law_where {B} f g Q fg gf l = record { there = λ b rest h. rw (l.there (g b) rest h.0, fg b h.1); back = from }
    where
      from : (xs : List ℕ) (b : B) (rest : List ℕ) → view f r xs ≡ found b rest → (xs ≡ w (g b) ++ rest) × (R (g b) × Q b)
      from xs b rest e =
          let (a, ys, e₁, e₂) = bound (r xs) _ b rest e in
          let q : f a ≡ b = cc in
          let k = gf a (l.back xs a ys e₁).1 in
          let q' : a ≡ g b = sym k.0 ∙ ap g q in
          let z : r xs ≡ found (g b) rest = cc in
          let (u, v) = l.back xs (g b) rest z in
          (u, (v, subst Q q k.1))

  -- the same condition in other words
  pub right_law : {R' : A → Type 0} → ((a : A) → R a → R' a) → ((a : A) → R' a → R a) → Lawful w R r → Lawful w R' r
  right_law to from l = record { there = λ a rest h. l.there a rest (from a h); back = λ xs a rest q. let (x, y) = l.back xs a rest q in (x, to a y) }

  -- another way to write the same bytes
  pub alike_law : (w' : A → List ℕ) → ((a : A) → w a ≡ w' a) → Lawful w R r → Lawful w' R r
  alike_law w' e l =
      record {
        there = λ a rest h. rw (← e a) (l.there a rest h);
        back = λ xs a rest q. let (x, y) = l.back xs a rest q in (rw (← e a) x, y);
      }

  times_there : Lawful w R r → (l : List A) (rest : List ℕ) → Every R l → times r (length l) (all w l ++ rest) ≡ found l rest
  unfolding times all Every bind
  times_there m [] rest h = refl
  times_there m (a ∷ l) rest h = rw (append_assoc (w a) (all w l) rest, m.there a (all w l ++ rest) h.0, times_there m l rest h.1)

  times_back : Lawful w R r → (n : ℕ) (xs : List ℕ) (l : List A) (rest : List ℕ) → times r n xs ≡ found l rest → (xs ≡ all w l ++ rest) × ((length l ≡ n) × Every R l)
  unfolding times all Every bind
  times_back m zero xs [] rest e = (cc, (refl, tt))
  times_back m zero xs (a ∷ l) rest e = absurd (let z : ◌≡◌ {A = ℕ} 0 1 = cc in omega arith)
  times_back m (suc n) xs [] rest e =
      let (a, ys, e₁, e₂) = bound (r xs) _ [] rest e in
      let (l', zs, e₃, e₄) = bound (times r n ys) _ [] rest e₂ in
      absurd (let z : ◌≡◌ {A = ℕ} 0 1 = cc in omega arith)
  times_back m (suc n) xs (b ∷ l) rest e =
      let (a, ys, e₁, e₂) = bound (r xs) _ (b ∷ l) rest e in
      let (l', zs, e₃, e₄) = bound (times r n ys) _ (b ∷ l) rest e₂ in
      let p : r xs ≡ found b ys = cc in
      let q : times r n ys ≡ found l rest = cc in
      let (f, g) = m.back xs b ys p in
      let (f', g') = times_back m n ys l rest q in
      (rw (append_assoc (w b) (all w l) rest) (cc), (ap suc g'.0, (g, g'.1)))

  pub times_law : (n : ℕ) → Lawful w R r → Lawful (all w) (λ l. (length l ≡ n) × Every R l) (times r n)
  times_law n m =
      record { there = λ l rest h. subst (λ (k : ℕ). times r k (all w l ++ rest) ≡ found l rest) h.0 (times_there m l rest h.1); back = λ xs l rest e. times_back m n xs l rest e }

  pub counted_law : {P : ℕ → Type 0} (p : (n : ℕ) → Dec (P n)) → Lawful w R r → Lawful (λ l. length l ∷ all w l) (λ l. P (length l) × Every R l) (counted p r)
  unfolding counted bind one
  counted_law {P} p m = record { there = λ l rest h. rw (keeps (p (length l)) (length l) (all w l ++ rest) h.0) (times_there m l rest h.1); back = from }
    where
      from : (xs : List ℕ) (l : List A) (rest : List ℕ) → counted p r xs ≡ found l rest → (xs ≡ length l ∷ (all w l ++ rest)) × (P (length l) × Every R l)
      from xs l rest e =
          let (n, ys, e₁, e₂) = bound (one p xs) _ l rest e in
          let (f, g) = (one_law p).back xs n ys e₁ in
          let (f', g') = times_back m n ys l rest e₂ in
          let z : n ≡ length l = sym g'.0 in
          (cc, (rw z at g, g'.1))

-- G: what is known of the elements of the list
module _ {A B : Type 0} {w : B → List ℕ} {R : A → B → Type 0} {r : A → Reader ℕ B} {G : A → Type 0} (law : (a : A) → G a → Lawful w (R a) (r a)) where
  each_there : (l : List A) → Every G l → (m : List B) (rest : List ℕ) → Each R l m → each r l (all w m ++ rest) ≡ found m rest
  unfolding each all Each Every bind
  each_there [] k [] rest h = refl
  each_there [] k (b ∷ m) rest h = absurd h
  each_there (a ∷ l) k [] rest h = absurd h
  each_there (a ∷ l) k (b ∷ m) rest h = rw (append_assoc (w b) (all w m) rest, (law a k.0).there b (all w m ++ rest) h.0, each_there l k.1 m rest h.1)

  each_back : (l : List A) → Every G l → (xs : List ℕ) (m : List B) (rest : List ℕ) → each r l xs ≡ found m rest → (xs ≡ all w m ++ rest) × Each R l m
  unfolding each all Each Every bind
  each_back [] k xs [] rest e = (cc, tt)
  each_back [] k xs (b ∷ m) rest e = absurd (let z : ◌≡◌ {A = ℕ} 0 1 = cc in omega arith)
  each_back (a ∷ l) k xs [] rest e =
      let (b', ys, e₁, e₂) = bound (r a xs) _ [] rest e in
      let (m', zs, e₃, e₄) = bound (each r l ys) _ [] rest e₂ in
      absurd (let z : ◌≡◌ {A = ℕ} 0 1 = cc in omega arith)
  each_back (a ∷ l) k xs (b ∷ m) rest e =
      let (b', ys, e₁, e₂) = bound (r a xs) _ (b ∷ m) rest e in
      let (m', zs, e₃, e₄) = bound (each r l ys) _ (b ∷ m) rest e₂ in
      let p : r a xs ≡ found b ys = cc in
      let q : each r l ys ≡ found m rest = cc in
      let (f, g) = (law a k.0).back xs b ys p in
      let (f', g') = each_back l k.1 ys m rest q in
      (rw (append_assoc (w b) (all w m) rest) (cc), (g, g'))

  pub each_law : (l : List A) → Every G l → Lawful (all w) (Each R l) (each r l)
  each_law l k = record { there = each_there l k; back = each_back l k }
