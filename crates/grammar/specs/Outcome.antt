-- What holds of whatever a reader finds: one law for each of the readers' makers, so that a proof follows the reader's text.
use Rattle.std.specs.Prelude.{◌≡◌, refl, List, [], ◌∷◌, ℕ}
use Rattle.std.proofs.Common.{ap}
use Prim.Native.String.{String}
use Rattle.pcrl.specs.Tokens.{Token, name, numeral, sign, the, is?}
use Rattle.pcrl.specs.Reader.{Got, missing, found, Reader, bind, keep, test}
use Rattle.pcrl.specs.Grammar.{Reads, on, fail, expect, a_name, a_numeral, on_numeral}

-- P holds of the value and of what is left, if there is a value
pub data Found {S A : Type 0} (P : A → List S → Type 0) : Got S A → Type 0 where
  nothing : Found P missing
  just : {a : A} {r : List S} → P a r → Found P (found a r)

pub of_found : {S A : Type 0} {P : A → List S → Type 0} {a : A} {r : List S} → Found P (found a r) → P a r
of_found (just p) = p

pub found_bind : {S A B : Type 0} {P : A → List S → Type 0} {Q : B → List S → Type 0} {g : Got S A} {k : A → List S → Got S B} → Found P g → ((a : A) (r : List S) → P a r → Found Q (k a r)) → Found Q (bind g k)
unfolding bind
found_bind nothing h = nothing
found_bind (just {a} {r} p) h = h a r p

pub found_map : {S A : Type 0} {P Q : A → List S → Type 0} {g : Got S A} → Found P g → ((a : A) (r : List S) → P a r → Q a r) → Found Q g
found_map nothing h = nothing
found_map (just {a} {r} p) h = just (h a r p)

-- the sign stands next, or the other way is taken
pub found_on : {A : Type 0} {Q : A → List Token → Type 0} (s : String) {y n : Reads A} {ts : List Token} → ((us : List Token) → ts ≡ the s ∷ us → Found Q (y us)) → ((us : List Token) → ts ≡ us → Found Q (n us)) → Found Q (on s y n ts)
unfolding on
found_on s {ts = []} h k = k [] refl
found_on {Q = Q} s {y} {n} {ts = t ∷ ts} h k = by (is? s t)
  where
    by : (d : Dec (t ≡ the s)) → Found Q (elim d [ yes e ↦ y ts | no f ↦ n (t ∷ ts) ])
    by (yes e) = h ts (ap (λ u. u ∷ ts) e)
    by (no f) = k (t ∷ ts) refl

pub found_expect : (s : String) (ts : List Token) → Found (λ u r. ts ≡ the s ∷ r) (expect s ts)
unfolding expect fail
found_expect s ts = found_on s (λ us e. just e) (λ us e. nothing)

pub found_name : (ts : List Token) → Found (λ x r. ts ≡ name x ∷ r) (a_name ts)
unfolding a_name
found_name [] = nothing
found_name (name w ∷ ts) = just refl
found_name (numeral v ∷ ts) = nothing
found_name (sign w ∷ ts) = nothing

pub found_numeral : (ts : List Token) → Found (λ v r. ts ≡ numeral v ∷ r) (a_numeral ts)
unfolding a_numeral
found_numeral [] = nothing
found_numeral (name w ∷ ts) = nothing
found_numeral (numeral v ∷ ts) = just refl
found_numeral (sign w ∷ ts) = nothing

pub found_on_numeral : {A : Type 0} {Q : A → List Token → Type 0} {y : ℕ → Reads A} {n : Reads A} {ts : List Token} → ((v : ℕ) (us : List Token) → ts ≡ numeral v ∷ us → Found Q (y v us)) → ((us : List Token) → ts ≡ us → Found Q (n us)) → Found Q (on_numeral y n ts)
unfolding on_numeral
found_on_numeral {ts = []} h k = k [] refl
found_on_numeral {ts = name w ∷ ts} h k = k (name w ∷ ts) refl
found_on_numeral {ts = numeral v ∷ ts} h k = h v ts refl
found_on_numeral {ts = sign w ∷ ts} h k = k (sign w ∷ ts) refl

-- what is found passes the test too
pub found_test : {S A : Type 0} {P : A → Type 0} {Q : A → List S → Type 0} (p : (a : A) → Dec (P a)) (read : Reader S A) (xs : List S) → Found Q (read xs) → Found (λ a r. Q a r × P a) (test p read xs)
unfolding test keep
found_test {S} {A} {P} {Q} p read xs h = found_bind h (λ a r q. by a r q (p a))
  where
    by : (a : A) (r : List S) → Q a r → (d : Dec (P a)) → Found (λ a r. Q a r × P a) (keep d a r)
    by a r q (yes e) = just (q, e)
    by a r q (no f) = nothing
