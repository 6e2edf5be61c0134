-- A term's nodes written one by one: what is left to write follows from the whole.
use mathlib.Core.Path.{◌≡◌, refl, sym, ap, ◌∙◌}
use mathlib.Core.List.{List, [], ◌∷◌, ◌++◌, append-nil}
use Prim.Native.Nat.{ℕ, suc, ◌+◌, ◌≤◌, ◌<◌, min}
use native.Mathlib.Decide.{dec_le}
use native.Mathlib.Numerals.{add-one}
use native.Mathlib.Omega.{arith}
use lib.ListN.{length, get_or, drop, drop_of_length-le}
use lib.Seq.{drop-cons, drop-drop}
use borrow.Author.Tests.{eq-eqb, ne_eqb}
use Rattle.pcrl.specs.Text.{byte}
use Rattle.pcrl.specs.Sheet.{Data, Sig}
use Rattle.pcrl.specs.Stream.{variable_code, encode_data}
use Rattle.pcrl.specs.Right.{RightTerm}
use Rattle.pcrl.specs.Letters.{longest_run}
use Rattle.pcrl.specs.Printer.{taken}
use Rattle.rendering.specs.Texts.{any_data, data_text}
use Rattle.evaluation.specs.Known.{KnownTerms}
use Rattle.texts.specs.Wrote.{Wrote}
use Rattle.texts.proofs.Writing.{wrote_nothing, wrote_more, wrote_as}
use Rattle.clauses.specs.Brackets.{Open, code, closing, reopened, no_place, next_place, sign, node_text, tail_text, turned, passed, Turns}
use Rattle.clauses.proofs.TermText.{bits, Shown, ahead, next, shown, shown_drop, behind, shown_data}

-- a place past the end is as good as the end
drop_within : (s : List ℕ) (i j k : ℕ) → j ≡ min (length s) (i + 1 + k) → drop k (drop (i + 1) s) ≡ drop j s
drop_within s i j k e = drop-drop k (i + 1) s ∙ elim (dec_le (length s) (i + 1 + k)) [
  | yes h ↦ drop_of_length-le s {i = i + 1 + k} h ∙ sym (drop_of_length-le s {i = j} (omega arith))
  | no h ↦ (let z : i + 1 + k ≡ j = omega arith in ap (λ (x : ℕ). drop x s) z)
]

module _ (s funcs : List ℕ) (m n from : ℕ) (out₀ : List ℕ) (at : ℕ) where
  -- the bytes from the start on as text
  abbrev pub all_shown : Shown
  all_shown = shown s funcs m n 0 (drop from s) [] any_data

  -- at the byte i and an operand's place, with the text written up to p
  pub record Going (i : ℕ) (out : List ℕ) (p o place : ℕ) : Type 0 where
    pub opens : Open
    pub number_is : o ≡ code opens
    pub whole : (last : List ℕ) (z : ℕ) → Wrote out p (shown s funcs m n 0 (drop i s) opens place).0 last z → Wrote out₀ at all_shown.0 last z
    pub left : (shown s funcs m n 0 (drop i s) opens place).1 ≡ all_shown.1

  -- all is written, and the stream is read up to the byte i
  abbrev pub Gone : ℕ → List ℕ → ℕ → Type 0
  Gone i out p = Wrote out₀ at all_shown.0 out p × (drop i s ≡ all_shown.1)

  pub going_start : Going from out₀ at 1 any_data
  unfolding code
  going_start = record { opens = []; number_is = refl; whole = λ last z w. w; left = refl }

  module _ (i : ℕ) (out : List ℕ) (p o place : ℕ) (g : Going i out p o place) (f : p ≤ length out) where
    pub going_end : length s ≤ i → Gone i out p
    unfolding shown
    going_end h = let e : drop i s ≡ [] = drop_of_length-le s h in
        (g.whole out p (rw e (wrote_nothing out p f)), e ∙ sym (ap (λ (c : List ℕ). (shown s funcs m n 0 c g.opens place).1) e) ∙ g.left)

    module _ (j : ℕ) (mid : List ℕ) (q : ℕ) (last : List ℕ) (z o' place' b : ℕ) (h : i < length s) (is : b ≡ get_or s i 0) (on : j ≡ min (length s) (i + 1 + passed (sign b)))
        (a : Wrote out p (node_text m n place (sign b)) mid q) (t : (bs : Open) → o ≡ code bs → Turns s funcs b place mid q bs last z o' place') where
      said : Turns s funcs b place mid q g.opens last z o' place'
      said = t g.opens g.number_is

      opens' : Open
      opens' = turned s funcs place (sign b) g.opens

      -- the node at i, and what is behind it
      first : shown s funcs m n 0 (drop i s) g.opens place ≡ ahead (node_text m n place (sign b) ++ tail_text (sign b) g.opens) (next place' (shown s funcs m n 0 (drop j s) opens' place') (drop j s))
      unfolding shown opens'
      first =
          let e : drop i s ≡ b ∷ drop (i + 1) s = rw (add-one i, is) (drop-cons s i 0 h) in
          rw (e, shown_drop s funcs m n (passed (sign b)) (drop (i + 1) s), drop_within s i j (passed (sign b)) on, said.place_is) refl

      written : Wrote out p (node_text m n place (sign b) ++ tail_text (sign b) g.opens) last z
      written = wrote_more out p (node_text m n place (sign b)) mid q (tail_text (sign b) g.opens) last z f a said.wrote

      pub going_on : (place' ≡ no_place → ⊥) → Going j last z o' place'
      unfolding opens'
      going_on k =
          let e : shown s funcs m n 0 (drop i s) g.opens place ≡ ahead (node_text m n place (sign b) ++ tail_text (sign b) g.opens) (shown s funcs m n 0 (drop j s) opens' place') =
          first ∙ rw (ne_eqb place' no_place k) refl in
          record {
            opens = opens';
            number_is = said.opens_are;
            whole = λ l y w. g.whole l y (wrote_as out p _ _ l y (sym (ap (λ (v : Shown). v.0) e)) (wrote_more out p _ last z _ l y f written w));
            left = sym (ap (λ (v : Shown). v.1) e) ∙ g.left;
          }

      pub going_last : place' ≡ no_place → Gone j last z
      going_last k =
          let e : shown s funcs m n 0 (drop i s) g.opens place ≡ ahead (node_text m n place (sign b) ++ tail_text (sign b) g.opens) ([], drop j s) = first ∙ rw (eq-eqb place' no_place k) refl in
          (g.whole last z (wrote_as out p _ _ last z (sym (append-nil _) ∙ sym (ap (λ (v : Shown). v.0) e)) written), sym (ap (λ (v : Shown). v.1) e) ∙ g.left)

  -- THE TEXT OF A TERM
  module _ (S : Sig) (Γ : List ℕ) (D : ℕ) (d : Data) (rest : List ℕ) (known : KnownTerms S s funcs) (short : length Γ ≤ variable_code) (right : RightTerm S Γ D d)
      (for_funcs : m ≡ suc (longest_run (byte "f") (taken S))) (for_vars : n ≡ suc (longest_run (byte "v") (taken S)))
      (stands : drop from s ≡ encode_data d ++ rest) where
    term_shown : all_shown ≡ (data_text S d, rest)
    unfolding behind closing reopened next_place bits data_text
    term_shown =
        ap (λ (c : List ℕ). shown s funcs m n 0 c [] any_data) stands
        ∙ shown_data s funcs m n S known Γ short for_funcs for_vars 32 d D rest [] any_data right.0 (omega (arith, right.1)) (omega (arith, right.1))
        ∙ ap (λ (t : List ℕ). (t, rest)) (append-nil (data_text S d))

    pub gone_term : (i : ℕ) (out : List ℕ) (p : ℕ) → Gone i out p → Wrote out₀ at (data_text S d) out p × (drop i s ≡ rest)
    gone_term i out p g = (wrote_as out₀ at _ _ out p (ap (λ (v : Shown). v.0) term_shown) g.0, g.1 ∙ ap (λ (v : Shown). v.1) term_shown)
