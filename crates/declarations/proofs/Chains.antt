-- Pieces written one behind another, and small pieces by their cases.
use mathlib.Core.Path.{◌≡◌, refl, sym, ap, ◌∙◌}
use mathlib.Core.List.{List, [], ◌∷◌, ◌++◌, map}
use Prim.Native.Nat.{ℕ, zero, suc, ◌%◌, ◌≤◌, ◌<◌}
use native.Mathlib.Omega.{arith}
use lib.ListN.{length, get_or, take, drop}
use lib.Seq.{take_all}
use Rattle.pcrl.specs.Text.{bytes, decimal}
use Rattle.pcrl.specs.Reader.{all}
use Rattle.rendering.specs.Texts.{joined_text, bracketed_text}
use Rattle.rendering.specs.TextLaws.{joined_first}
use Rattle.pcrl.specs.Walk.{values_text}
use Rattle.texts.specs.Wrote.{Wrote}
use Rattle.texts.specs.Pieces.{bracketed}
use Rattle.texts.proofs.Writing.{wrote_more, wrote_fits}
use Rattle.lettering.specs.Named.{sort_by}
use Rattle.declarations.specs.Lines.{sort_line_by, colon_before}

pub empty_of : (l : List ℕ) → length l ≡ 0 → l ≡ []
empty_of [] e = refl
empty_of (x ∷ l) e = absurd (omega arith)

pub value_is : (n v : ℕ) → n ≡ v → n < 256 → decimal (n % 256) ≡ decimal v
value_is n v e h = let z : n % 256 ≡ v = omega arith in ap decimal z

-- values by commas, as the walk and as the printer prints them
pub values_joined : (vs : List ℕ) → values_text vs ≡ joined_text (bytes ",") (map decimal vs)
unfolding values_text joined_text
values_joined [] = refl
values_joined (v ∷ []) = refl
values_joined (v ∷ (w ∷ vs)) = ap (λ (t : List ℕ). decimal v ++ (bytes "," ++ t)) (values_joined (w ∷ vs))

pub values_bracketed : (vs : List ℕ) → bracketed vs ≡ bracketed_text (map decimal vs)
unfolding bracketed bracketed_text
values_bracketed [] = refl
values_bracketed (v ∷ vs) = ap (λ (t : List ℕ). bytes "(" ++ (t ++ bytes ")")) (values_joined (v ∷ vs))

pub no_colon : (n : ℕ) → n ≡ 0 → [] ≡ colon_before n
unfolding colon_before
no_colon n e = sym (ap colon_before e)

pub some_colon : (n : ℕ) → (n ≡ 0 → ⊥) → bytes ":" ≡ colon_before n
unfolding colon_before
some_colon zero h = absurd (h refl)
some_colon (suc n) h = refl

-- five pieces
pub five : (o : List ℕ) (at : ℕ) (p₁ o₁ : List ℕ) (r₁ : ℕ) (p₂ o₂ : List ℕ) (r₂ : ℕ) (p₃ o₃ : List ℕ) (r₃ : ℕ) (p₄ o₄ : List ℕ) (r₄ : ℕ) (p₅ o₅ : List ℕ) (r₅ : ℕ) → at ≤ length o
    → Wrote o at p₁ o₁ r₁ → Wrote o₁ r₁ p₂ o₂ r₂ → Wrote o₂ r₂ p₃ o₃ r₃ → Wrote o₃ r₃ p₄ o₄ r₄ → Wrote o₄ r₄ p₅ o₅ r₅ → Wrote o at (p₁ ++ (p₂ ++ (p₃ ++ (p₄ ++ p₅)))) o₅ r₅
five o at p₁ o₁ r₁ p₂ o₂ r₂ p₃ o₃ r₃ p₄ o₄ r₄ p₅ o₅ r₅ h a b c d e =
    wrote_more o at p₁ o₁ r₁ _ o₅ r₅ h a
    (wrote_more o₁ r₁ p₂ o₂ r₂ _ o₅ r₅ (wrote_fits o at p₁ o₁ r₁ a) b
    (wrote_more o₂ r₂ p₃ o₃ r₃ _ o₅ r₅ (wrote_fits o₁ r₁ p₂ o₂ r₂ b) c
    (wrote_more o₃ r₃ p₄ o₄ r₄ p₅ o₅ r₅ (wrote_fits o₂ r₂ p₃ o₃ r₃ c) d e)))

pub size_is : (l : List ℕ) (D w size : ℕ) → w ≡ size → w < 256 → bytes "sort " ++ (sort_by l D ++ (bytes " " ++ (decimal (w % 256) ++ bytes ";"))) ≡ sort_line_by l D size
size_is l D w size e h = ap (λ (t : List ℕ). bytes "sort " ++ (sort_by l D ++ (bytes " " ++ (t ++ bytes ";")))) (value_is w size e h)

-- what a loop from the second element on has written when it begins, and when it ends
pub tail_start : (g : ℕ → List ℕ) (l : List ℕ) → [] ≡ all g (drop 1 (take 1 l))
unfolding all
tail_start g [] = refl
tail_start g (x ∷ l) = refl

pub tail_end : (m : List ℕ) (f : ℕ → List ℕ) (l : List ℕ) (i : ℕ) → 1 ≤ length l → length l ≤ i → f (get_or l 0 0) ++ all (λ x. m ++ f x) (drop 1 (take i l)) ≡ joined_text m (map f l)
tail_end m f l i h k = ap (λ (x : List ℕ). f (get_or l 0 0) ++ all (λ x. m ++ f x) (drop 1 x)) (take_all i l k) ∙ sym (joined_first m f l 0 h)
