-- Brackets closed one by one, up to a mark: what is left of the items and of the text follows from the whole.
use mathlib.Core.Path.{◌≡◌, refl, ap, ◌∙◌}
use mathlib.Core.List.{List, [], ◌∷◌}
use mathlib.Core.Bool.{Bool}
use Prim.Native.Nat.{ℕ, ◌/◌, ◌%◌, ◌≤◌, ◌<◌}
use native.Mathlib.Omega.{arith}
use lib.ListN.{length}
use Rattle.pcrl.specs.Text.{byte}
use Rattle.texts.specs.Wrote.{Wrote}
use Rattle.texts.proofs.Writing.{wrote_nothing, wrote_more, wrote_as}
use Rattle.clauses.specs.Brackets.{Mark, mark_text, mark_of, close, mark, Open, code, closing, ended, reopened, no_place, next_place, Closes}
use Rattle.clauses.proofs.TermText.{code_some}
use Rattle.clauses.proofs.Marks.{mark_number, mark_there}

-- of the items bs some are left, with the number o; the rest of the text is to be written from p on
pub record Closing (out₀ : List ℕ) (at : ℕ) (bs : Open) (out : List ℕ) (p o : ℕ) : Type 0 where
  pub opens : Open
  pub number_is : o ≡ code opens
  pub then_open : reopened opens ≡ reopened bs
  pub then_place : next_place opens ≡ next_place bs
  pub whole : (last : List ℕ) (z : ℕ) → Wrote out p (closing opens) last z → Wrote out₀ at (closing bs) last z

pub closing_start : (out : List ℕ) (at o : ℕ) (bs : Open) → o ≡ code bs → Closing out at bs out at o
closing_start out at o bs e = record { opens = bs; number_is = e; then_open = refl; then_place = refl; whole = λ last z w. w }

module _ (out₀ : List ℕ) (at : ℕ) (bs : Open) (out : List ℕ) (p o : ℕ) where
  pub closing_mark : (last : List ℕ) (z k : ℕ) → Closing out₀ at bs out p o → 1 < o → o % 2 ≡ 1 → Wrote out p (mark_text (mark_of (o / 2 % 4))) last z
      → ((m : Mark) (b : Bool) (cs : Open) → o ≡ code (mark m b ∷ cs) → k ≡ code (ended b cs)) → Closes out₀ at bs last z k (o / 2 % 4)
  unfolding code closing reopened next_place
  closing_mark last z k g l h w r = go g.opens g.number_is g.then_open g.then_place (g.whole last z)
    where
      go : (cs : Open) → o ≡ code cs → reopened cs ≡ reopened bs → next_place cs ≡ next_place bs → (Wrote out p (closing cs) last z → Wrote out₀ at (closing bs) last z) → Closes out₀ at bs last z k (o / 2 % 4)
      go [] e t q f = absurd (omega arith)
      go (mark m b ∷ cs) e t q f =
          let n = mark_there o m b cs e in
          record { wrote = f (wrote_as out p _ _ last z (ap (λ (j : ℕ). mark_text (mark_of j)) n ∙ ap mark_text (mark_number m)) w); opens_are = r m b cs e ∙ ap code t; place_is = n ∙ q }
      go (close ∷ cs) e t q f = absurd (omega arith)

  pub closing_bracket : (mid : List ℕ) (q : ℕ) → Closing out₀ at bs out p o → 1 < o → (o % 2 ≡ 1 → ⊥) → p ≤ length out → Wrote out p (byte ")" ∷ []) mid q → Closing out₀ at bs mid q (o / 2)
  unfolding code closing reopened next_place
  closing_bracket mid q g l h f w = go g.opens g.number_is g.then_open g.then_place g.whole
    where
      go : (cs : Open) → o ≡ code cs → reopened cs ≡ reopened bs → next_place cs ≡ next_place bs → ((last : List ℕ) (z : ℕ) → Wrote out p (closing cs) last z → Wrote out₀ at (closing bs) last z)
          → Closing out₀ at bs mid q (o / 2)
      go [] e t y k = absurd (omega arith)
      go (mark m b ∷ cs) e t y k = absurd (h (omega arith))
      go (close ∷ cs) e t y k = record {
        opens = cs;
        number_is = omega arith;
        then_open = t;
        then_place = y;
        whole = λ last z v. k last z (wrote_more out p (byte ")" ∷ []) mid q (closing cs) last z f w v);
      }

  pub closing_end : Closing out₀ at bs out p o → (1 < o → ⊥) → p ≤ length out → Closes out₀ at bs out p o no_place
  unfolding code closing reopened next_place
  closing_end g l f = go g.opens g.number_is g.then_open g.then_place (g.whole out p)
    where
      go : (cs : Open) → o ≡ code cs → reopened cs ≡ reopened bs → next_place cs ≡ next_place bs → (Wrote out p (closing cs) out p → Wrote out₀ at (closing bs) out p) → Closes out₀ at bs out p o no_place
      go [] e t q k = record { wrote = k (wrote_nothing out p f); opens_are = e ∙ ap code t; place_is = q }
      go (mark m b ∷ cs) e t q k = absurd (l (omega (arith, code_some cs)))
      go (close ∷ cs) e t q k = absurd (l (omega (arith, code_some cs)))
