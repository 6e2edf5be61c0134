-- What is written at a byte of a term, and behind it, by the byte's number.
use mathlib.Core.Path.{◌≡◌, refl, ap, ◌∙◌}
use mathlib.Core.List.{List, [], ◌∷◌, ◌++◌}
use mathlib.Core.Bool.{Bool, true, false}
use Prim.Native.Nat.{ℕ, zero, suc, ◌+◌, ◌-◌, ◌*◌, ◌/◌, ◌%◌, ◌≤◌, ◌<◌}
use native.Mathlib.Decide.{dec_lt}
use native.Mathlib.Omega.{arith}
use lib.ListN.{length, get_or}
use borrow.Author.Tests.{eq-eqb, ne_eqb, lt-ltb, le-ltb, le-leb, lt-leb}
use Rattle.pcrl.specs.Text.{bytes, byte, decimal}
use Rattle.pcrl.specs.Stream.{variable_code, function_code}
use Rattle.rendering.specs.Texts.{any_data, a_negation}
use Rattle.lettering.specs.Named.{named_by}
use Rattle.texts.specs.Wrote.{Wrote}
use Rattle.texts.proofs.Writing.{wrote_nothing}
use Rattle.clauses.specs.Brackets.{Mark, first_place, number, mark_of, enclosed, mark, Open, bit, code, ended, limit, Sign, value, variable, joint, operator_code, operator_mark, operator_sign, sign, open_bracket, node_text, tail_text, more, deeper, turned, following, passed, Closes, Turns}
use Rattle.clauses.proofs.TermText.{number_small, bit_small, sign_value, sign_variable, sign_function, sign_operator}

-- MARKS BY THEIR NUMBERS

pub mark_number : (m : Mark) → mark_of (number m) ≡ m
unfolding mark_of number
mark_number Mark.comma = refl
mark_number Mark.or = refl
mark_number Mark.and = refl
mark_number Mark.equal = refl

pub mark_last : (m : ℕ) → (m ≡ 0 → ⊥) → (m ≡ 1 → ⊥) → (m ≡ 2 → ⊥) → Mark.equal ≡ mark_of m
unfolding mark_of
mark_last zero h k l = absurd (h refl)
mark_last (suc zero) h k l = absurd (k refl)
mark_last (suc (suc zero)) h k l = absurd (l refl)
mark_last (suc (suc (suc m))) h k l = refl

pub first_last : (m : ℕ) (k : Mark) → m ≡ number k → m ≡ 3 → a_negation ≡ first_place k
unfolding number first_place
first_last m Mark.comma e h = absurd (omega arith)
first_last m Mark.or e h = absurd (omega arith)
first_last m Mark.and e h = absurd (omega arith)
first_last m Mark.equal e h = refl

pub first_other : (m : ℕ) (k : Mark) → m ≡ number k → 0 < m → (m ≡ 3 → ⊥) → first_place k + 1 ≡ m
unfolding number first_place
first_other m Mark.comma e l h = absurd (omega arith)
first_other m Mark.or e l h = omega arith
first_other m Mark.and e l h = omega arith
first_other m Mark.equal e l h = absurd (h e)

-- A MARK LESS

module _ (o : ℕ) (m : Mark) (b : Bool) (bs : Open) (e : o ≡ code (mark m b ∷ bs)) where
  pub mark_there : o / 2 % 4 ≡ number m
  unfolding code
  mark_there = omega (arith, number_small m, bit_small b)

  pub kept_bracket : o / 8 % 2 ≡ 1 → o / 16 * 2 ≡ code (ended b bs)
  unfolding code
  kept_bracket h = go b e
    where
      go : (x : Bool) → o ≡ code (mark m x ∷ bs) → o / 16 * 2 ≡ code (ended x bs)
      go true e = unfold code bit ended in omega (arith, number_small m)
      go false e = unfold code bit ended in absurd (omega (arith, number_small m))

  pub kept_plain : (o / 8 % 2 ≡ 1 → ⊥) → o / 16 ≡ code (ended b bs)
  unfolding code
  kept_plain h = go b e
    where
      go : (x : Bool) → o ≡ code (mark m x ∷ bs) → o / 16 ≡ code (ended x bs)
      go true e = unfold code bit ended in absurd (h (omega (arith, number_small m)))
      go false e = unfold code bit ended in omega (arith, number_small m)

-- A MARK OR A BRACKET MORE

module _ (o m p : ℕ) (k : Mark) (bs : Open) (e : m ≡ number k) (f : o ≡ code bs) where
  pub marked_none : limit ≤ o → o ≡ code (more (mark k (enclosed k p)) bs)
  unfolding more
  marked_none h = rw (le-ltb (code bs) limit (omega arith)) f

  pub marked_bracket : o < limit → m ≤ p → 16 * o + 2 * m + 9 ≡ code (more (mark k (enclosed k p)) bs)
  unfolding more code bit enclosed
  marked_bracket h l = rw (lt-ltb (code bs) limit (omega arith), le-leb (number k) p (omega arith)) (omega arith)

  pub marked_plain : o < limit → p < m → 16 * o + 2 * m + 1 ≡ code (more (mark k (enclosed k p)) bs)
  unfolding more code bit enclosed
  marked_plain h l = rw (lt-ltb (code bs) limit (omega arith), lt-leb (number k) p (omega arith)) (omega arith)

module _ (s : List ℕ) (p o : ℕ) (bs : Open) where
  pub deeper_mark : (get_or s p 0 ≡ 1 → ⊥) → o ≡ code (more (mark Mark.comma (enclosed Mark.comma any_data)) bs) → o ≡ code (deeper s p bs)
  unfolding deeper enclosed number
  deeper_mark h e = rw (ne_eqb (get_or s p 0) 1 h) e

  pub deeper_none : get_or s p 0 ≡ 1 → o ≡ code bs → limit ≤ o → o ≡ code (deeper s p bs)
  unfolding deeper more
  deeper_none h e l = rw (le-ltb (code bs) limit (omega arith)) e

  pub deeper_bracket : get_or s p 0 ≡ 1 → o ≡ code bs → o < limit → 2 * o ≡ code (deeper s p bs)
  unfolding deeper more code
  deeper_bracket h e l = rw (lt-ltb (code bs) limit (omega arith), eq-eqb (get_or s p 0) 1 h) (omega arith)

-- OPERATORS

pub operator_equal : (n : ℕ) → n ≡ 0x61 → 3 ≡ number (operator_mark (n - operator_code - 1))
unfolding operator_mark number
operator_equal n e = rw e refl

pub operator_and : (n : ℕ) → n ≡ 0x62 → 2 ≡ number (operator_mark (n - operator_code - 1))
unfolding operator_mark number
operator_and n e = rw e refl

pub operator_or : (n : ℕ) → operator_code < n → (n ≡ 0x61 → ⊥) → (n ≡ 0x62 → ⊥) → 1 ≡ number (operator_mark (n - operator_code - 1))
unfolding operator_mark number
operator_or n l h k = go (n - operator_code - 1) refl
  where
    go : (x : ℕ) → n - operator_code - 1 ≡ x → 1 ≡ number (operator_mark x)
    go zero e = absurd (h (omega arith))
    go (suc zero) e = absurd (k (omega arith))
    go (suc (suc x)) e = refl

pub operator_some : (x : ℕ) → 0 < number (operator_mark x)
unfolding operator_mark number
operator_some zero = omega arith
operator_some (suc zero) = omega arith
operator_some (suc (suc x)) = omega arith

pub sign_joint : (n : ℕ) → operator_code < n → sign n ≡ joint (operator_mark (n - operator_code - 1))
unfolding operator_sign
sign_joint n h = let z : n - operator_code ≡ suc (n - operator_code - 1) = omega arith in sign_operator n (omega arith) ∙ ap operator_sign z

module _ (k l n p : ℕ) where
  pub not_text : n ≡ operator_code → bytes "!" ≡ node_text k l p (sign n)
  unfolding node_text sign operator_sign
  not_text e = rw e refl

  module _ (o : ℕ) (h : operator_code < n) (e : o ≡ number (operator_mark (n - operator_code - 1))) where
    pub bracket_text : o ≤ p → bytes "(" ≡ node_text k l p (sign n)
    unfolding node_text enclosed open_bracket
    bracket_text f = rw (sign_joint n h, le-leb (number (operator_mark (n - operator_code - 1))) p (omega arith)) refl

    pub bare_text : p < o → [] ≡ node_text k l p (sign n)
    unfolding node_text enclosed open_bracket
    bare_text f = rw (sign_joint n h, lt-leb (number (operator_mark (n - operator_code - 1))) p (omega arith)) refl

-- VALUES AND NAMES

-- k: the byte b as a larger number
module _ (m n p b k : ℕ) (e : k ≡ b) where
  pub value_text : b < variable_code → decimal (k % 256) ≡ node_text m n p (sign b)
  unfolding node_text
  value_text h = let z : k % 256 ≡ b = omega arith in rw (sign_value b h, z) refl

  pub variable_text : variable_code ≤ b → b < function_code → named_by (byte "v") n (k - variable_code) ≡ node_text m n p (sign b)
  unfolding node_text
  variable_text h l = let z : (k - variable_code) % 256 ≡ b - variable_code = omega arith in rw (sign_variable b h l, z) refl

  pub function_text : function_code ≤ b → b < operator_code → named_by (byte "f") m (k - function_code) ++ bytes "(" ≡ node_text m n p (sign b)
  unfolding node_text
  function_text h l = let z : (k - function_code) % 256 ≡ b - function_code = omega arith in rw (sign_function b h l, z) refl

-- BEHIND A BYTE

pub passed_sort : (b : ℕ) → b ≡ 0x61 → passed (sign b) ≡ 1
unfolding passed sign operator_sign operator_mark
passed_sort b e = rw e refl

leaf : (P : Sign → Type 0) (b : ℕ) → b < function_code → ((v : ℕ) → P (value v)) → ((i : ℕ) → P (variable i)) → P (sign b)
leaf P b h f g = elim (dec_lt b variable_code) [ yes l ↦ rw (sign_value b l) (f b) | no l ↦ rw (sign_variable b (omega arith) h) (g (b - variable_code)) ]

pub passed_none : (b : ℕ) → (b ≡ 0x61 → ⊥) → passed (sign b) ≡ 0
unfolding passed operator_sign operator_mark
passed_none b h = elim (dec_lt b function_code) [
  | yes l ↦ leaf (λ x. passed x ≡ 0) b l (λ v. refl) (λ i. refl)
  | no l ↦ elim (dec_lt b operator_code) [ yes k ↦ rw (sign_function b (omega arith) k) refl | no k ↦ rw (sign_operator b (omega arith)) (go (b - operator_code) refl) ]
]
  where
    go : (x : ℕ) → b - operator_code ≡ x → passed (operator_sign x) ≡ 0
    go zero e = refl
    go (suc zero) e = absurd (h (omega arith))
    go (suc (suc zero)) e = refl
    go (suc (suc (suc x))) e = refl

module _ (s funcs : List ℕ) (b p : ℕ) (out : List ℕ) (at : ℕ) (bs : Open) where
  pub turns_leaf : (last : List ℕ) (z o q : ℕ) → b < function_code → Closes out at bs last z o q → Turns s funcs b p out at bs last z o q
  unfolding tail_text turned following
  turns_leaf last z o q h c = record {
    wrote = leaf (λ x. Wrote out at (tail_text x bs) last z) b h (λ v. c.wrote) (λ i. c.wrote);
    opens_are = leaf (λ x. o ≡ code (turned s funcs p x bs)) b h (λ v. c.opens_are) (λ i. c.opens_are);
    place_is = leaf (λ x. q ≡ following x bs) b h (λ v. c.place_is) (λ i. c.place_is);
  }

  module _ (f : at ≤ length out) (o : ℕ) where
    pub turns_function : function_code ≤ b → b < operator_code → o ≡ code (deeper s (get_or funcs (b - function_code) 0) bs) → Turns s funcs b p out at bs out at o any_data
    unfolding tail_text turned following
    turns_function h l e = record { wrote = rw (sign_function b h l) (wrote_nothing out at f); opens_are = rw (sign_function b h l) e; place_is = rw (sign_function b h l) refl }

    pub turns_not : b ≡ operator_code → o ≡ code bs → Turns s funcs b p out at bs out at o a_negation
    unfolding tail_text turned following sign operator_sign
    turns_not h e = record { wrote = rw h (wrote_nothing out at f); opens_are = rw h e; place_is = rw h refl }

    pub turns_joint : (q : ℕ) → operator_code < b → o ≡ code (more (mark (operator_mark (b - operator_code - 1)) (enclosed (operator_mark (b - operator_code - 1)) p)) bs)
        → q ≡ first_place (operator_mark (b - operator_code - 1)) → Turns s funcs b p out at bs out at o q
    unfolding tail_text turned following
    turns_joint q h e k = record { wrote = rw (sign_joint b h) (wrote_nothing out at f); opens_are = rw (sign_joint b h) e; place_is = rw (sign_joint b h) k }
