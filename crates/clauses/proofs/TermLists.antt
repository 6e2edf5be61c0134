-- Terms written one behind another: what is left to write follows from the whole.
use mathlib.Core.Path.{◌≡◌, refl, sym, ap, ◌∙◌}
use mathlib.Core.List.{List, [], ◌∷◌, ◌++◌, append_assoc, map}
use Prim.Native.Nat.{ℕ, zero, suc, ◌+◌, ◌≤◌, ◌<◌}
use native.Mathlib.Numerals.{add-one}
use native.Mathlib.Omega.{arith}
use lib.ListN.{length, drop}
use Rattle.pcrl.specs.Text.{bytes, byte}
use Rattle.pcrl.specs.Tests.{Each}
use Rattle.pcrl.specs.Reader.{all}
use Rattle.pcrl.specs.Sheet.{Data, Sig}
use Rattle.pcrl.specs.Stream.{encode_data}
use Rattle.pcrl.specs.Right.{RightTerm}
use Rattle.rendering.specs.Texts.{joined_text, bracketed_text, data_text, given_text}
use Rattle.texts.specs.Wrote.{Wrote}
use Rattle.texts.proofs.Writing.{wrote_nothing, wrote_more, wrote_as, wrote_fits}
use Rattle.clauses.specs.Brackets.{lead}

pub lead_first : (i : ℕ) → i ≡ 0 → byte "(" ≡ lead i
unfolding lead
lead_first zero e = refl
lead_first (suc i) e = absurd (omega arith)

pub lead_later : (i : ℕ) → (i ≡ 0 → ⊥) → byte "," ≡ lead i
unfolding lead
lead_later zero h = absurd (h refl)
lead_later (suc i) h = refl

-- the terms from number i on, up to the bracket
unfoldable pub rest_text : Sig → ℕ → List Data → List ℕ
rest_text S i [] = bytes ")"
rest_text S i (d ∷ ds) = lead i ∷ (data_text S d ++ rest_text S (suc i) ds)

given_all : (S : Sig) (d : Data) (ds : List Data) → rest_text S 0 (d ∷ ds) ≡ given_text S (d ∷ ds)
unfolding bracketed_text rest_text joined_text lead
given_all S d ds = ap (λ (t : List ℕ). bytes "(" ++ t) (go 0 d ds)
  where
    go : (i : ℕ) (e : Data) (es : List Data) → data_text S e ++ rest_text S (suc i) es ≡ joined_text (bytes ",") (map (data_text S) (e ∷ es)) ++ bytes ")"
    go i e [] = refl
    go i e (f ∷ es) = rw (go (suc i) f es) (simp append_assoc)

module _ (S : Sig) (Γ rest s out₀ : List ℕ) (at : ℕ) (text : List ℕ) (n : ℕ) where
  -- the terms from number i on stand at a place, and their text is to be written from p on
  pub record Listing (i from : ℕ) (out : List ℕ) (p : ℕ) : Type 0 where
    pub sorts : List ℕ
    pub terms : List Data
    pub right : Each (RightTerm S Γ) sorts terms
    pub count : length terms + i ≡ n
    pub stand : drop from s ≡ all encode_data terms ++ rest
    pub whole : (last : List ℕ) (z : ℕ) → Wrote out p (rest_text S i terms) last z → Wrote out₀ at text last z

  pub listing_start : (Ds : List ℕ) (ds : List Data) (from : ℕ) → Each (RightTerm S Γ) Ds ds → length ds ≡ n → 0 < n → drop from s ≡ all encode_data ds ++ rest → text ≡ given_text S ds → Listing 0 from out₀ at
  listing_start Ds [] from h c l e t = absurd (omega arith)
  listing_start Ds (d ∷ ds) from h c l e t = record {
    sorts = Ds;
    terms = d ∷ ds;
    right = h;
    count = omega arith;
    stand = e;
    whole = λ last z w. wrote_as out₀ at _ _ last z (given_all S d ds ∙ sym t) w;
  }

  -- a term that stands at a place is written, and read up to what is behind it
  abbrev pub Termed : ℕ → List ℕ → ℕ → ℕ → List ℕ → ℕ → Type 0
  Termed from mid a from' last z = (D : ℕ) (d : Data) (l : List ℕ) → RightTerm S Γ D d → drop from s ≡ encode_data d ++ l → Wrote mid a (data_text S d) last z × (drop from' s ≡ l)

  pub listing_more : (i from : ℕ) (out : List ℕ) (p : ℕ) (mid : List ℕ) (a from' : ℕ) (last : List ℕ) (z : ℕ)
      → i < n → p ≤ length out → Wrote out p (lead i ∷ []) mid a → Termed from mid a from' last z → Listing i from out p → Listing (i + 1) from' last z
  unfolding rest_text Each all
  listing_more i from out p mid a from' last z l f m w g = go g.sorts g.terms g.right g.count g.stand g.whole
    where
      go : (Ds : List ℕ) (ds : List Data) → Each (RightTerm S Γ) Ds ds → length ds + i ≡ n → drop from s ≡ all encode_data ds ++ rest
          → ((u : List ℕ) (y : ℕ) → Wrote out p (rest_text S i ds) u y → Wrote out₀ at text u y) → Listing (i + 1) from' last z
      go [] [] h c e v = absurd (omega arith)
      go [] (d ∷ ds) h c e v = absurd h
      go (D ∷ Ds) [] h c e v = absurd h
      go (D ∷ Ds) (d ∷ ds) h c e v =
          let t = w D d (all encode_data ds ++ rest) h.0 (e ∙ append_assoc (encode_data d) (all encode_data ds) rest) in
          record {
            sorts = Ds;
            terms = ds;
            right = h.1;
            count = omega arith;
            stand = t.1;
            whole = rw (add-one i) (λ u y x. v u y (wrote_more out p (lead i ∷ []) mid a _ u y f m (wrote_more mid a (data_text S d) last z (rest_text S (suc i) ds) u y (wrote_fits out p _ mid a m) t.0 x)));
          }

  pub listing_end : (i from : ℕ) (out : List ℕ) (p : ℕ) (last : List ℕ) (z : ℕ) → n ≤ i → Listing i from out p → Wrote out p (byte ")" ∷ []) last z → Wrote out₀ at text last z × (drop from s ≡ rest)
  unfolding rest_text all
  listing_end i from out p last z l g w = go g.terms g.count g.stand (g.whole last z)
    where
      go : (ds : List Data) → length ds + i ≡ n → drop from s ≡ all encode_data ds ++ rest → (Wrote out p (rest_text S i ds) last z → Wrote out₀ at text last z) → Wrote out₀ at text last z × (drop from s ≡ rest)
      go [] c e k = (k w, e)
      go (d ∷ ds) c e k = absurd (omega arith)

-- no terms, no text
pub listing_none : (S : Sig) (rest s out : List ℕ) (at from : ℕ) (ds : List Data) → at ≤ length out → length ds ≡ 0 → drop from s ≡ all encode_data ds ++ rest → Wrote out at (given_text S ds) out at × (drop from s ≡ rest)
unfolding all bracketed_text
listing_none S rest s out at from [] f c e = (wrote_nothing out at f, e)
listing_none S rest s out at from (d ∷ ds) f c e = absurd (omega arith)
