-- One law for each of the definition's makers of readers, so that a reader's proof follows its text.
use mathlib.Core.Path.{◌≡◌, refl, sym, ap, ◌∙◌, subst}
use mathlib.Core.List.{List, [], ◌∷◌, map}
use Prim.Native.Nat.{ℕ, ◌+◌, ◌≤◌, ◌<◌}
use Prim.Native.String.{String}
use native.Mathlib.Decide.{dec_lt}
use native.Mathlib.Numerals.{add-one}
use native.Mathlib.Omega.{arith}
use lib.ListN.{length, drop, get_or, drop_of_length-le}
use lib.Seq.{drop-cons}
use Rattle.pcrl.specs.Tokens.{Token, the, is?}
use Rattle.pcrl.specs.Reader.{Got, missing, found, bind}
use Rattle.pcrl.specs.Grammar.{on, fail, expect}
use Rattle.laws.specs.Places.{get_or_positive}
use Rattle.grammar.specs.Ahead.{on_sign}
use Rattle.lexer.specs.Cells.{cell_token}
use Rattle.parser.specs.Cells.{Symbol}
use Rattle.parser.specs.Reading.{rest, left, Writes}
use Rattle.parser.proofs.Signs.{Sign}
use Rattle.parser.proofs.Reaching.{After, NotBefore, Meets, next, wrong, Reaches, lost, took}

-- what is past the end stays there
pub still_lost : {n at next : ℕ} → After n at next → n < at → n < next
still_lost a l = omega arith

-- one step and the next
pub ahead_then : (n at : ℕ) {next end : ℕ} → After n at next → After n next end → After n at end
ahead_then n at a b = omega arith

pub ahead_on : (n at : ℕ) {next end : ℕ} → After n at next → NotBefore n next end → After n at end
ahead_on n at a b = omega arith

pub left_below : (toks : List ℕ) (at : ℕ) {f : ℕ} → length toks < f → left toks at < f
left_below toks at l = omega arith

pub rest_next : (s toks : List ℕ) (at : ℕ) → at < length toks → rest s toks at ≡ cell_token s (get_or toks at 0) ∷ rest s toks (at + 1)
unfolding rest
rest_next s toks at h = ap (map (cell_token s)) (drop-cons toks at 0 h ∙ ap (λ k. get_or toks at 0 ∷ drop k toks) (sym (add-one at)))

pub rest_past : (s toks : List ℕ) (at : ℕ) → length toks ≤ at → rest s toks at ≡ []
unfolding rest
rest_past s toks at h = ap (map (cell_token s)) (drop_of_length-le toks h)

on_not : {A : Type 0} (t : String) (behind other : List Token → Got Token A) (u : Token) (ts : List Token) → (u ≡ the t → ⊥) → on t behind other (u ∷ ts) ≡ other (u ∷ ts)
unfolding on
on_not t behind other u ts n = by (is? t u)
  where
    by : (d : Dec (u ≡ the t)) → elim d [ yes e ↦ behind ts | no h ↦ other (u ∷ ts) ] ≡ other (u ∷ ts)
    by (yes e) = absurd (n e)
    by (no h) = refl

module _ {c : ℕ} {t : String} (S : Sign c t) (s toks : List ℕ) (at : ℕ) where
  pub on_next : {A : Type 0} (behind other : List Token → Got Token A) → get_or toks at 0 ≡ c → on t behind other (rest s toks at) ≡ behind (rest s toks (at + 1))
  on_next behind other e =
      let p = S.some in
      ap (on t behind other) (rest_next s toks at (get_or_positive toks at (omega arith)) ∙ ap (λ x. x ∷ rest s toks (at + 1)) (ap (cell_token s) e ∙ S.is s)) ∙ on_sign t behind other (rest s toks (at + 1))

  pub on_other : {A : Type 0} (behind other : List Token → Got Token A) → (get_or toks at 0 ≡ c → ⊥) → on t behind other (rest s toks at) ≡ other (rest s toks at)
  unfolding on
  on_other behind other n = by (dec_lt at (length toks))
    where
      by : Dec (at < length toks) → on t behind other (rest s toks at) ≡ other (rest s toks at)
      by (yes l) =
          let e = rest_next s toks at l in
          ap (on t behind other) e ∙ on_not t behind other (cell_token s (get_or toks at 0)) (rest s toks (at + 1)) (λ q. n (S.only s (get_or toks at 0) q)) ∙ ap other (sym e)
      by (no l) = let e = rest_past s toks at (omega arith) in ap (on t behind other) e ∙ ap other (sym e)

pub bind_assoc : {A B C : Type 0} (g : Got Token A) (k : A → List Token → Got Token B) (l : B → List Token → Got Token C) → bind (bind g k) l ≡ bind g (λ a ts. bind (k a ts) l)
unfolding bind
bind_assoc missing k l = refl
bind_assoc (found a ts) k l = refl

-- any claim on what is read: one reader, and then another
module _ (s toks : List ℕ) {B : Type 0} (G : Got Token B → Type 0) where
  pub then_reads : {A : Type 0} {encA : A → List Symbol} {at : ℕ} {P : Got Token A} (k : A → List Token → Got Token B) {w : ℕ} {o : List ℕ} {w₁ : ℕ} {o₁ : List ℕ}
      → Reaches s toks encA w o at w₁ o₁ P → (length toks < at → G missing) → ((a : A) → at ≤ length toks → Writes s toks (encA a) w o w₁ o₁ → G (k a (rest s toks at))) → G (bind P k)
  unfolding bind
  then_reads k (lost l) f g = f l
  then_reads k (took {a} i u) f g = g a i u

  -- a sign has to stand next
  pub then_expect : {c : ℕ} {t : String} → Sign c t → (at : ℕ) {e : ℕ} → Meets toks at c e → (k : Unit {0} → List Token → Got Token B) → (length toks < e → G missing)
      → (e ≤ length toks → G (k tt (rest s toks e))) → G (bind (expect t (rest s toks at)) k)
  unfolding expect bind fail
  then_expect {c} {t} S at (next h) k f g =
      let p = S.some in
      let l = get_or_positive toks at (omega arith) in
      subst (λ x. G (bind x k)) (sym (on_next S s toks at _ _ h)) (g (omega arith))
  then_expect {c} {t} S at (wrong n) k f g = subst (λ x. G (bind x k)) (sym (on_other S s toks at _ _ n)) (f (omega arith))

module _ {s toks : List ℕ} {B : Type 0} {enc : B → List Symbol} {w₀ : ℕ} {o₀ : List ℕ} {end w' : ℕ} {o' : List ℕ} where
  -- one reader, and then another
  pub reads_bind : {A : Type 0} {encA : A → List Symbol} {P : Got Token A} (k : A → List Token → Got Token B) {w : ℕ} {o : List ℕ} {at w₁ : ℕ} {o₁ : List ℕ}
      → Reaches s toks encA w o at w₁ o₁ P → (length toks < at → length toks < end)
      → ((a : A) → at ≤ length toks → Writes s toks (encA a) w o w₁ o₁ → Reaches s toks enc w₀ o₀ end w' o' (k a (rest s toks at))) → Reaches s toks enc w₀ o₀ end w' o' (bind P k)
  reads_bind k h f g = then_reads s toks (λ x. Reaches s toks enc w₀ o₀ end w' o' x) k h (λ l. lost (f l)) g

  -- a sign stands next
  pub reads_next : {c : ℕ} {t : String} → Sign c t → (at : ℕ) (behind other : List Token → Got Token B) → get_or toks at 0 ≡ c
      → Reaches s toks enc w₀ o₀ end w' o' (behind (rest s toks (at + 1))) → Reaches s toks enc w₀ o₀ end w' o' (on t behind other (rest s toks at))
  reads_next S at behind other e h = subst (λ g. Reaches s toks enc w₀ o₀ end w' o' g) (sym (on_next S s toks at behind other e)) h

  -- it does not
  pub reads_other : {c : ℕ} {t : String} → Sign c t → (at : ℕ) (behind other : List Token → Got Token B) → (get_or toks at 0 ≡ c → ⊥)
      → Reaches s toks enc w₀ o₀ end w' o' (other (rest s toks at)) → Reaches s toks enc w₀ o₀ end w' o' (on t behind other (rest s toks at))
  reads_other S at behind other n h = subst (λ g. Reaches s toks enc w₀ o₀ end w' o' g) (sym (on_other S s toks at behind other n)) h

  -- a sign has to stand next
  pub reads_expect : {c : ℕ} {t : String} → Sign c t → (at : ℕ) {e : ℕ} → Meets toks at c e → (k : Unit {0} → List Token → Got Token B) → (length toks < e → length toks < end)
      → (e ≤ length toks → Reaches s toks enc w₀ o₀ end w' o' (k tt (rest s toks e))) → Reaches s toks enc w₀ o₀ end w' o' (bind (expect t (rest s toks at)) k)
  reads_expect S at x k f g = then_expect s toks (λ y. Reaches s toks enc w₀ o₀ end w' o' y) S at x k (λ l. lost (f l)) g
