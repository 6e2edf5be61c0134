-- The token that bytes begin with, by what the first byte is: a letter, a digit, a mark by itself, the first byte of a longer one, or none of these.
use mathlib.Core.Path.{◌≡◌, refl, sym, ap, ◌∙◌, subst⁻¹}
use mathlib.Core.Logic.{⊎_elim}
use mathlib.Core.Bool.{Bool, true, false}
use mathlib.Core.List.{List, [], ◌∷◌}
use mathlib.Core.Option.{Option, some}
use Prim.Native.Nat.{ℕ, ◌+◌, ◌<◌, ◌≤◌}
use native.Mathlib.Nat.{add-zero}
use native.Mathlib.Omega.{arith}
use lib.Dec.{T, leb, eqb, leb→le, eqb→eq}
use lib.ListN.{length, drop, get_or, get_or-eq_default}
use lib.Seq.{get_or-drop}
use borrow.Author.Tests.{eqb-true, leb-true, leb-false}
use Rattle.pcrl.specs.Tests.{and, or, negated, Every}
use Rattle.pcrl.specs.Bytes.{letter, digit, name_byte}
use Rattle.pcrl.specs.Tokens.{sign, punctuation, front, Lexeme, name_of, numeral_of, mark_of, first_token}
use Rattle.laws.specs.Booleans.{false_not_true}
use Rattle.lexer.specs.Classes.{one_of, alone_bytes, alone, lead_bytes, leads, sign_cell}
use Rattle.lexer.specs.Cells.{first_long_mark, long_marks, cell_token, Reads, Fits}
use Rattle.lexer.proofs.Match.{and_left, and_right, or_no, all_of, at_key}
use Rattle.lexer.proofs.Runs.{drop_at}
use Rattle.lexer.proofs.Signs.{sign_cell_none, starting, no_sign_starting, Found, Missing, look_up, unlike, lone, no_mark, lone_mark, pair_mark, no_pair_mark, no_pair_end}
use Rattle.lexer.proofs.Cells.{cell_mark, cell_long_mark}
use Rattle.lexer.proofs.Reading.{reads_none, reads_some}
use Rattle.std.specs.Prelude as R
use Rattle.std.proofs.lemmas.Option.{none-some, same_Some}

-- what holds of each of some bytes holds of one of them
one_of_step : (p : ℕ → Bool) (k : ℕ) (ks : List ℕ) (b : ℕ) (x : Bool) → eqb b k ≡ x → T (and (p k) (all_of p ks)) → (T (all_of p ks) → one_of ks b ≡ true → T (p b)) → or x (one_of ks b) ≡ true → T (p b)
one_of_step p k ks b true e t ih o = at_key p k b (and_left (p k) (all_of p ks) t) (eqb-true b k e)
one_of_step p k ks b false e t ih o = ih (and_right (p k) (all_of p ks) t) o

one_of_test : (p : ℕ → Bool) (ks : List ℕ) → T (all_of p ks) → (b : ℕ) → one_of ks b ≡ true → T (p b)
one_of_test p [] t b o = false_not_true o
one_of_test p (k ∷ ks) t b o = one_of_step p k ks b (eqb b k) refl t (λ u. one_of_test p ks u b) o

-- no letter and no digit, and a test besides
abbrev pub neither : (ℕ → Bool) → ℕ → Bool
neither p b = and (negated (letter b)) (and (negated (digit b)) (p b))

-- ---- the definition's cases
module _ (b : ℕ) (l : List ℕ) where
  of_letter : letter b ≡ true → first_token b l ≡ name_of (front name_byte (b ∷ l))
  unfolding first_token
  of_letter h = rw (h, first_token)

  digit_step : (x y : Bool) → letter b ≡ x → digit b ≡ y → T (and (negated x) y) → first_token b l ≡ numeral_of (front digit (b ∷ l))
  unfolding first_token
  digit_step true y e f h = absurd h
  digit_step false true e f h = rw (e, f, first_token)
  digit_step false false e f h = absurd h

  mark_step : (x y z : Bool) → letter b ≡ x → digit b ≡ y → T (and (negated x) (and (negated y) z)) → (first_token b l ≡ mark_of punctuation (b ∷ l)) × T z
  unfolding first_token
  mark_step true y z e f h = absurd h
  mark_step false true z e f h = absurd h
  mark_step false false z e f h = (rw (e, f, first_token), h)

  of_mark : (p : ℕ → Bool) → T (neither p b) → (first_token b l ≡ mark_of punctuation (b ∷ l)) × T (p b)
  of_mark p h = mark_step (letter b) (digit b) (p b) refl refl h

module _ (s : List ℕ) (at : ℕ) (h : at < length s) where
  here : (x : Option Lexeme) (f : List ℕ → Option Lexeme) → x ≡ f (get_or s at 0 ∷ drop (at + 1) s) → x ≡ f (drop at s)
  here x f e = e ∙ ap f (sym (drop_at s at h))

  pub of_name : letter (get_or s at 0) ≡ true → first_token (get_or s at 0) (drop (at + 1) s) ≡ name_of (front name_byte (drop at s))
  of_name e = here _ (λ w. name_of (front name_byte w)) (of_letter (get_or s at 0) (drop (at + 1) s) e)

  pub of_numeral : T (and (negated (letter (get_or s at 0))) (digit (get_or s at 0))) → first_token (get_or s at 0) (drop (at + 1) s) ≡ numeral_of (front digit (drop at s))
  of_numeral t = here _ (λ w. numeral_of (front digit w)) (digit_step (get_or s at 0) (drop (at + 1) s) (letter (get_or s at 0)) (digit (get_or s at 0)) refl refl t)

  pub of_long_mark : leads (get_or s at 0) ≡ true → first_token (get_or s at 0) (drop (at + 1) s) ≡ mark_of punctuation (drop at s)
  of_long_mark e = here _ (mark_of punctuation) (of_mark (get_or s at 0) (drop (at + 1) s) (λ b. true) (one_of_test (neither (λ b. true)) lead_bytes tt (get_or s at 0) e)).0

  pub reads_mark : alone (get_or s at 0) ≡ true → Reads s (first_token (get_or s at 0) (drop (at + 1) s)) (R.Some (record { cell = get_or s at 0; len = 1 }))
  unfolding punctuation
  reads_mark e =
      let low = leb→le 1 (get_or s at 0) (one_of_test (leb 1) alone_bytes tt (get_or s at 0) e) in
      let high = leb→le (get_or s at 0) 127 (one_of_test (λ b. leb b 127) alone_bytes tt (get_or s at 0) e) in
      let (f, t) = of_mark (get_or s at 0) (drop (at + 1) s) (λ b. lone b punctuation) (one_of_test (neither (λ b. lone b punctuation)) alone_bytes tt (get_or s at 0) e) in
      reads_some s (first_token (get_or s at 0) (drop (at + 1) s)) (record { cell = get_or s at 0; len = 1 }) (sign (get_or s at 0 ∷ [])) 1
      (f ∙ lone_mark (get_or s at 0) (drop (at + 1) s) punctuation t)
      (λ z. omega arith)
      (cell_mark s (get_or s at 0) (omega arith))
      refl

  pub reads_other : T (neither (λ b. unlike b punctuation) (get_or s at 0)) → Reads s (first_token (get_or s at 0) (drop (at + 1) s)) R.None
  reads_other n =
      let (f, t) = of_mark (get_or s at 0) (drop (at + 1) s) (λ b. unlike b punctuation) n in
      reads_none s (first_token (get_or s at 0) (drop (at + 1) s)) (f ∙ no_mark (get_or s at 0) (drop (at + 1) s) punctuation t)

-- ---- marks of two bytes
pub no_pair : (a b : ℕ) → (a ≡ 45 → b ≡ 62 → ⊥) → (a ≡ 60 → b ≡ 124 → ⊥) → (a ≡ 124 → b ≡ 62 → ⊥)
    → (a ≡ 61 → b ≡ 61 → ⊥) → (a ≡ 47 → b ≡ 92 → ⊥) → (a ≡ 92 → b ≡ 47 → ⊥) → R.None ≡ sign_cell first_long_mark long_marks (a ∷ b ∷ [])
unfolding long_marks Every
no_pair a b n₁ n₂ n₃ n₄ n₅ n₆ =
    sym (sign_cell_none first_long_mark long_marks (a ∷ b ∷ []) (other n₁, (other n₂, (other n₃, (other n₄, (other n₅, (other n₆, tt)))))))
  where
    other : {k j : ℕ} → (a ≡ k → b ≡ j → ⊥) → a ∷ b ∷ [] ≡ k ∷ j ∷ [] → ⊥
    other n e = n (cc) (cc)

-- one mark begins with k, and b is not its second byte
pub no_pair_from : (a b k j : ℕ) → starting k long_marks ≡ (k ∷ j ∷ []) ∷ [] → a ≡ k → (b ≡ j → ⊥) → R.None ≡ sign_cell first_long_mark long_marks (a ∷ b ∷ [])
unfolding Every
no_pair_from a b k j q e n = no_sign_starting (a ∷ b ∷ []) k e first_long_mark long_marks (subst⁻¹ (Every (λ v. a ∷ b ∷ [] ≡ v → ⊥)) q (λ p. n (cc), tt))

no_second : (a : ℕ) → sign_cell first_long_mark long_marks (a ∷ 0 ∷ []) ≡ R.None
no_second a = sym (no_pair a 0 (λ p q. omega arith) (λ p q. omega arith) (λ p q. omega arith) (λ p q. omega arith) (λ p q. omega arith) (λ p q. omega arith))

-- the marks of one byte
abbrev short_marks : List (List ℕ)
short_marks = drop 6 punctuation

module _ (a : ℕ) where
  pair_missing : (l : List ℕ) → Missing first_long_mark long_marks (a ∷ get_or l 0 0 ∷ []) → mark_of punctuation (a ∷ l) ≡ mark_of short_marks (a ∷ l)
  unfolding punctuation long_marks
  pair_missing [] m = no_pair_end a long_marks short_marks tt
  pair_missing (x ∷ l) m = no_pair_mark a x l long_marks short_marks tt m.unknown

  pair_found : (l : List ℕ) → Found first_long_mark long_marks (a ∷ get_or l 0 0 ∷ []) → mark_of punctuation (a ∷ l) ≡ some (sign (a ∷ get_or l 0 0 ∷ []), 2)
  unfolding punctuation long_marks
  pair_found [] f = absurd (none-some (first_long_mark + f.place) (sym (no_second a) ∙ f.cell))
  pair_found (x ∷ l) f = pair_mark a x l long_marks short_marks tt f.known

-- the marks of two bytes, and `=`, at a place where the first byte of one stands
module _ (s : List ℕ) (at : ℕ) (h : at < length s) where
  second : get_or (drop (at + 1) s) 0 0 ≡ get_or s (at + 1) 0
  second = get_or-drop (at + 1) s 0 0 ∙ ap (λ (j : ℕ). get_or s j 0) (add-zero (at + 1))

  -- the cell of the two bytes there
  abbrev pub pair_cell : R.Option ℕ
  pair_cell = sign_cell first_long_mark long_marks (get_or s at 0 ∷ get_or s (at + 1) 0 ∷ [])

  cell_is : pair_cell ≡ sign_cell first_long_mark long_marks (get_or s at 0 ∷ get_or (drop (at + 1) s) 0 0 ∷ [])
  cell_is = ap (λ (x : ℕ). sign_cell first_long_mark long_marks (get_or s at 0 ∷ x ∷ [])) (sym second)

  at_place : (x : Option Lexeme) → mark_of punctuation (get_or s at 0 ∷ drop (at + 1) s) ≡ x → mark_of punctuation (drop at s) ≡ x
  at_place x q = ap (mark_of punctuation) (drop_at s at h) ∙ q

  module _ (f : R.None ≡ pair_cell) where
    one_byte : mark_of punctuation (drop at s) ≡ mark_of short_marks (get_or s at 0 ∷ drop (at + 1) s)
    one_byte =
        ⊎_elim (λ q. absurd (none-some (first_long_mark + q.place) (f ∙ cell_is ∙ q.cell)))
        (λ q. at_place _ (pair_missing (get_or s at 0) (drop (at + 1) s) q))
        (look_up first_long_mark long_marks (get_or s at 0 ∷ get_or (drop (at + 1) s) 0 0 ∷ []))

    pub reads_no_pair : leads (get_or s at 0) ≡ true → (get_or s at 0 ≡ 61 → ⊥) → Reads s (mark_of punctuation (drop at s)) R.None
    unfolding punctuation
    reads_no_pair e n =
        let other : T (unlike (get_or s at 0) short_marks) = or_no (eqb (get_or s at 0) 61) (unlike (get_or s at 0) short_marks) (λ t. n (eqb→eq (get_or s at 0) 61 t))
        (one_of_test (λ b. or (eqb b 61) (unlike b short_marks)) lead_bytes tt (get_or s at 0) e) in
        reads_none s (mark_of punctuation (drop at s)) (one_byte ∙ no_mark (get_or s at 0) (drop (at + 1) s) short_marks other)

    pub reads_equals : get_or s at 0 ≡ 61 → Reads s (mark_of punctuation (drop at s)) (R.Some (record { cell = 61; len = 1 }))
    unfolding punctuation
    reads_equals q =
        reads_some s (mark_of punctuation (drop at s)) (record { cell = 61; len = 1 }) (sign (61 ∷ [])) 1
        (one_byte ∙ ap (λ (b : ℕ). mark_of short_marks (b ∷ drop (at + 1) s)) q ∙ lone_mark 61 (drop (at + 1) s) short_marks tt)
        (λ z. omega arith)
        (cell_mark s 61 (omega arith))
        refl

  module _ (m : ℕ) (f : R.Some m ≡ pair_cell) where
    reads_found : Found first_long_mark long_marks (get_or s at 0 ∷ get_or (drop (at + 1) s) 0 0 ∷ []) → Reads s (mark_of punctuation (drop at s)) (R.Some (record { cell = m; len = 2 }))
    unfolding long_marks
    reads_found q =
        let c : m ≡ first_long_mark + q.place = same_Some m (first_long_mark + q.place) (f ∙ cell_is ∙ q.cell) in
        reads_some s (mark_of punctuation (drop at s)) (record { cell = m; len = 2 }) (sign (get_or s at 0 ∷ get_or (drop (at + 1) s) 0 0 ∷ [])) 2
        (at_place _ (pair_found (get_or s at 0) (drop (at + 1) s) q))
        (λ z. omega arith)
        (ap (cell_token s) c ∙ cell_long_mark s q.place (omega (arith, q.inside)) ∙ ap sign q.here)
        refl

    pub reads_pair : Reads s (mark_of punctuation (drop at s)) (R.Some (record { cell = m; len = 2 }))
    reads_pair = ⊎_elim (λ q. reads_found q) (λ q. absurd (none-some m (sym q.cell ∙ sym cell_is ∙ sym f))) (look_up first_long_mark long_marks (get_or s at 0 ∷ get_or (drop (at + 1) s) 0 0 ∷ []))

    pub pair_fits : Fits (length s) at (record { cell = m; len = 2 })
    pair_fits = record { least = omega arith; most = go (leb (at + 2) (length s)) refl }
      where
        go : (t : Bool) → leb (at + 2) (length s) ≡ t → at + 2 ≤ length s
        go true q = leb-true (at + 2) (length s) q
        go false q =
            let short = leb-false (at + 2) (length s) q in
            absurd (none-some m (sym (no_second (get_or s at 0)) ∙ ap (λ (x : ℕ). sign_cell first_long_mark long_marks (get_or s at 0 ∷ x ∷ [])) (sym (get_or-eq_default s 0 (omega arith))) ∙ sym f))
