-- A run of name bytes, and the test of a name that was read.
use mathlib.Core.Path.{◌≡◌, refl, ap, sym, subst, ◌∙◌}
use mathlib.Core.List.{List}
use mathlib.Core.Bool.{Bool, true, false, not}
use mathlib.Core.Logic.{⊎_elim}
use Prim.Native.Nat.{ℕ, zero, suc, ◌<◌, ◌≤◌}
use native.Mathlib.Omega.{arith}
use native.Mathlib.Nat.{eq-or-lt_of_le}
use lib.Dec.{T, eqb}
use lib.ListN.{drop}
use Rattle.pcrl.specs.Limits.{max_name}
use borrow.Author.Tests.{eq-eqb, ne_eqb}
use Rattle.pcrl.specs.Tests.{and, or, negated, between?, T?}
use Rattle.pcrl.specs.Bytes.{letter, name_byte}
use Rattle.pcrl.specs.Reader.{missing, found, one, counted}
use Rattle.pcrl.specs.Right.{free_name, token_name}
use Rattle.pcrl.specs.Decode.{read_name, read_sort_name}
use Rattle.laws.specs.Tests.{both_pass, of_true}
use Rattle.lexer.specs.Classes.{class_of}
use Rattle.terms.specs.Stands.{list_at}
use Rattle.terms.specs.Ends.{rests}
use Rattle.terms.proofs.Rests.{test_fail, test_bad, test_pass}
use Rattle.terms.proofs.Lists.{numbers_are}

pub fails : (b : Bool) → b ≡ false → ¬ T b
fails true e = absurd (let z : ◌≡◌ {A = ℕ} 0 1 = cc in omega arith)
fails false e = λ x. x

module _ (s : List ℕ) (at : ℕ) where
  pub name_fail : rests (counted (between? 1 max_name) (one (λ b. T? (name_byte b))) (drop at s)) ≡ missing → rests (read_name (drop at s)) ≡ missing
  unfolding read_name
  name_fail e = test_fail (λ n. T? (free_name n)) (counted (between? 1 max_name) (one (λ b. T? (name_byte b)))) (drop at s) e

  module _ (ys : List ℕ) (e : rests (counted (between? 1 max_name) (one (λ b. T? (name_byte b))) (drop at s)) ≡ found tt ys) where
    named : counted (between? 1 max_name) (one (λ b. T? (name_byte b))) (drop at s) ≡ found (list_at s at) ys
    named = numbers_are (between? 1 max_name) (λ b. T? (name_byte b)) s at ys e

    pub name_bad : free_name (list_at s at) ≡ false → rests (read_name (drop at s)) ≡ missing
    unfolding read_name rests
    name_bad f = ap rests (test_bad (λ n. T? (free_name n)) (counted (between? 1 max_name) (one (λ b. T? (name_byte b)))) (drop at s) (list_at s at) ys named (fails (free_name (list_at s at)) f))

    pub name_pass : free_name (list_at s at) ≡ true → rests (read_name (drop at s)) ≡ found tt ys
    unfolding read_name rests
    name_pass f = ap rests (test_pass (λ n. T? (free_name n)) (counted (between? 1 max_name) (one (λ b. T? (name_byte b)))) (drop at s) (list_at s at) ys named (of_true (free_name (list_at s at)) f))

-- a sort's name
module _ (s : List ℕ) (at : ℕ) where
  pub sort_name_fail : rests (counted (between? 1 max_name) (one (λ b. T? (name_byte b))) (drop at s)) ≡ missing → rests (read_sort_name (drop at s)) ≡ missing
  unfolding read_sort_name
  sort_name_fail e = test_fail (λ n. T? (token_name n)) (counted (between? 1 max_name) (one (λ b. T? (name_byte b)))) (drop at s) e

  module _ (ys : List ℕ) (e : rests (counted (between? 1 max_name) (one (λ b. T? (name_byte b))) (drop at s)) ≡ found tt ys) where
    pub sort_name_bad : token_name (list_at s at) ≡ false → rests (read_sort_name (drop at s)) ≡ missing
    unfolding read_sort_name rests
    sort_name_bad f = ap rests (test_bad (λ n. T? (token_name n)) (counted (between? 1 max_name) (one (λ b. T? (name_byte b)))) (drop at s) (list_at s at) ys (named s at ys e) (fails (token_name (list_at s at)) f))

    pub sort_name_pass : token_name (list_at s at) ≡ true → rests (read_sort_name (drop at s)) ≡ found tt ys
    unfolding read_sort_name rests
    sort_name_pass f = ap rests (test_pass (λ n. T? (token_name n)) (counted (between? 1 max_name) (one (λ b. T? (name_byte b)))) (drop at s) (list_at s at) ys (named s at ys e) (of_true (token_name (list_at s at)) f))

pub not_negated : (a b : Bool) → a ≡ b → not a ≡ negated b
not_negated true b e = rw (← e)
not_negated false b e = rw (← e)

pub negated_not : (a b : Bool) → a ≡ not b → b ≡ negated a
negated_not a true e = rw e
negated_not a false e = rw e

-- a byte's class says whether it is a letter
abbrev alike : Bool → Bool → Bool
alike a b = or (and a b) (and (negated a) (negated b))

agree : (a b : Bool) → T (alike a b) → a ≡ b
agree true true t = refl
agree true false t = absurd t
agree false true t = absurd t
agree false false t = refl

all_alike : ℕ → Bool
all_alike zero = true
all_alike (suc n) = and (alike (eqb (class_of n) 3) (letter n)) (all_alike n)

from_all : (n : ℕ) → T (all_alike n) → (b : ℕ) → b < n → T (alike (eqb (class_of b) 3) (letter b))
unfolding all_alike
from_all zero t b h = absurd (omega arith)
from_all (suc n) t b h =
    let (here, rest) = both_pass (alike (eqb (class_of n) 3) (letter n)) (all_alike n) t in
    let z : b ≤ n = omega arith in
    ⊎_elim (λ e. subst (λ (k : ℕ). T (alike (eqb (class_of k) 3) (letter k))) (sym e) here) (λ l. from_all n rest b l) (eq-or-lt_of_le z)

letter_class : (b : ℕ) → b < 256 → eqb (class_of b) 3 ≡ letter b
unfolding class_of all_alike
letter_class b h = agree (eqb (class_of b) 3) (letter b) (from_all 256 tt b h)

pub a_letter : (b : ℕ) → b < 256 → class_of b ≡ 3 → letter b ≡ true
a_letter b h e = sym (letter_class b h) ∙ eq-eqb (class_of b) 3 e

pub no_letter : (b : ℕ) → b < 256 → ¬ (class_of b ≡ 3) → letter b ≡ false
no_letter b h n = sym (letter_class b h) ∙ ne_eqb (class_of b) 3 n
