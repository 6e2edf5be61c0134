-- A loop that reads values one after another and keeps where each stands: what was read so far, and what is left to read.
use mathlib.Core.Path.{◌≡◌, refl, sym, ap, ◌∙◌}
use mathlib.Core.List.{List, [], ◌∷◌, ◌++◌, append_assoc, append-nil}
use Prim.Native.Nat.{ℕ, suc, ◌<◌, ◌≤◌}
use Rattle.std.specs.Prelude.{Some, None}
use lib.ListN.{length, get_or, take, drop, set, drop_of_length-le}
use lib.Seq.{drop-cons, take-suc-set}
use Rattle.pcrl.specs.Tests.{Each}
use Rattle.pcrl.specs.Reader.{Got, missing, found, Reader, bind, times, each}
use Rattle.codec.specs.Lawful.{Lawful}
use Rattle.terms.specs.Stands.{Stands, Standing}
use Rattle.terms.specs.Ends.{rests}
use Rattle.terms.specs.Laid.{Laid}
use Rattle.terms.proofs.Rests.{found_there, missing_there}

-- values read before, put in front
unfoldable pub glue : {A : Type 0} → List A → Got ℕ (List A) → Got ℕ (List A)
glue l missing = missing
glue l (found m xs) = found (l ++ m) xs

-- one value and then more
unfoldable pub one_more : {A : Type 0} → Reader ℕ A → Reader ℕ (List A) → Reader ℕ (List A)
one_more r t xs = bind (r xs) (λ a ys. bind (t ys) (λ l zs. found (a ∷ l) zs))

pub times_more : {A : Type 0} (r : Reader ℕ A) (n m : ℕ) (xs : List ℕ) → n ≡ suc m → times r n xs ≡ one_more r (times r m) xs
unfolding times one_more
times_more r n m xs z = rw z

pub times_none : {A : Type 0} (r : Reader ℕ A) (n : ℕ) (xs : List ℕ) → n ≡ 0 → times r n xs ≡ found [] xs
unfolding times
times_none r n xs z = rw z

pub each_more : {A B : Type 0} (r : A → Reader ℕ B) (l : List A) (d : A) (k j : ℕ) (xs : List ℕ) → k < length l → j ≡ suc k → each r (drop k l) xs ≡ one_more (r (get_or l k d)) (each r (drop j l)) xs
unfolding each one_more
each_more r l d k j xs h z = rw (z, drop-cons l k d h)

pub each_none : {A B : Type 0} (r : A → Reader ℕ B) (l : List A) (k : ℕ) (xs : List ℕ) → length l ≤ k → each r (drop k l) xs ≡ found [] xs
unfolding each
each_none r l k xs h = rw (drop_of_length-le l {i = k} h)

-- g is to be read, rest is left to read; what was read stands at the places
pub record Laying {A : Type 0} (g rest : Got ℕ (List A)) (encode : A → List ℕ) (s places : List ℕ) : Type 0 where
  pub values : List A
  pub left : g ≡ glue values rest
  pub stand : Standing encode s values places

each_snoc : {A B : Type 0} (R : A → B → Type 0) (l : List A) (m : List B) (a : A) (b : B) → Each R l m → R a b → Each R (l ++ (a ∷ [])) (m ++ (b ∷ []))
unfolding Each
each_snoc R [] [] a b h k = (k, tt)
each_snoc R [] (y ∷ m) a b h k = absurd h
each_snoc R (x ∷ l) [] a b h k = absurd h
each_snoc R (x ∷ l) (y ∷ m) a b h k = (h.0, each_snoc R l m a b h.1 k)

module _ {A : Type 0} where
  glue_more : (l : List A) (a : A) (g : Got ℕ (List A)) → glue l (bind g (λ m zs. found (a ∷ m) zs)) ≡ glue (l ++ (a ∷ [])) g
  unfolding glue bind
  glue_more l a missing = refl
  glue_more l a (found m xs) = ap (λ (y : List A). found y xs) (sym (append_assoc l (a ∷ []) m))

  glue_none : (g : Got ℕ (List A)) → g ≡ glue [] g
  unfolding glue
  glue_none missing = refl
  glue_none (found m xs) = refl

  first_of : (r : Reader ℕ A) (t : Reader ℕ (List A)) (xs ys : List ℕ) (a : A) → r xs ≡ found a ys → one_more r t xs ≡ bind (t ys) (λ l zs. found (a ∷ l) zs)
  unfolding one_more bind
  first_of r t xs ys a e = rw e

  module _ (g : Got ℕ (List A)) (encode : A → List ℕ) (s : List ℕ) where
    pub lay_start : (rest : Got ℕ (List A)) → g ≡ rest → Laying g rest encode s []
    unfolding Standing Each
    lay_start rest e = record { values = []; left = e ∙ glue_none rest; stand = tt }

    pub lay_fail : (r : Reader ℕ A) (t : Reader ℕ (List A)) (rest : Got ℕ (List A)) (places xs : List ℕ) → Laying g rest encode s places → rest ≡ one_more r t xs → rests (r xs) ≡ missing → g ≡ missing
    unfolding one_more bind glue
    lay_fail r t rest places xs l e h = l.left ∙ rw (e, missing_there (r xs) h)

    module _ {R : A → Type 0} (r : Reader ℕ A) (law : Lawful encode R r) (t : Reader ℕ (List A)) (rest : Got ℕ (List A)) where
      -- the value's place goes behind the others
      pub lay_pass : (pos : List ℕ) (k k' i j : ℕ) → Laying g rest encode s (take k pos) → rest ≡ one_more r t (drop i s) → k < length pos → k' ≡ suc k → rests (r (drop i s)) ≡ found tt (drop j s)
          → Laying g (t (drop j s)) encode s (take k' (set pos k i))
      unfolding Standing
      lay_pass pos k k' i j l e h z f =
          let (a, q) = found_there (r (drop i s)) (drop j s) f in
          let st : Stands s i (encode a) = (drop j s, (law.back (drop i s) a (drop j s) q).0) in
          let p : take k' (set pos k i) ≡ take k pos ++ (i ∷ []) = rw z (take-suc-set pos k i h) in
          record {
            values = l.values ++ (a ∷ []);
            left = l.left ∙ ap (glue l.values) (e ∙ first_of r t (drop i s) (drop j s) a q) ∙ glue_more l.values a (t (drop j s));
            stand = rw p (each_snoc (λ x at. Stands s at (encode x)) l.values (take k pos) a i l.stand st);
          }

    pub lay_done : (rest : Got ℕ (List A)) (places : List ℕ) (end : ℕ) → Laying g rest encode s places → rest ≡ found [] (drop end s) → Laid g encode s (Some end) places
    unfolding Laid glue
    lay_done rest places end l e = (l.values, l.left ∙ rw e (ap (λ (y : List A). found y (drop end s)) (append-nil l.values)), l.stand)

    pub not_laid : (places : List ℕ) → g ≡ missing → Laid g encode s None places
    unfolding Laid
    not_laid places e = e
