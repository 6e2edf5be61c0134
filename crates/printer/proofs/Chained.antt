-- Three and four pieces written one behind another.
use mathlib.Core.List.{List, ◌++◌}
use Prim.Native.Nat.{ℕ, ◌≤◌}
use lib.ListN.{length}
use Rattle.texts.specs.Wrote.{Wrote}
use Rattle.texts.proofs.Writing.{wrote_more, wrote_fits}

pub three : (o : List ℕ) (at : ℕ) (p₁ o₁ : List ℕ) (r₁ : ℕ) (p₂ o₂ : List ℕ) (r₂ : ℕ) (p₃ o₃ : List ℕ) (r₃ : ℕ) → at ≤ length o
    → Wrote o at p₁ o₁ r₁ → Wrote o₁ r₁ p₂ o₂ r₂ → Wrote o₂ r₂ p₃ o₃ r₃ → Wrote o at (p₁ ++ (p₂ ++ p₃)) o₃ r₃
three o at p₁ o₁ r₁ p₂ o₂ r₂ p₃ o₃ r₃ h a b c = wrote_more o at p₁ o₁ r₁ _ o₃ r₃ h a (wrote_more o₁ r₁ p₂ o₂ r₂ p₃ o₃ r₃ (wrote_fits o at p₁ o₁ r₁ a) b c)

pub four : (o : List ℕ) (at : ℕ) (p₁ o₁ : List ℕ) (r₁ : ℕ) (p₂ o₂ : List ℕ) (r₂ : ℕ) (p₃ o₃ : List ℕ) (r₃ : ℕ) (p₄ o₄ : List ℕ) (r₄ : ℕ) → at ≤ length o
    → Wrote o at p₁ o₁ r₁ → Wrote o₁ r₁ p₂ o₂ r₂ → Wrote o₂ r₂ p₃ o₃ r₃ → Wrote o₃ r₃ p₄ o₄ r₄ → Wrote o at (p₁ ++ (p₂ ++ (p₃ ++ p₄))) o₄ r₄
four o at p₁ o₁ r₁ p₂ o₂ r₂ p₃ o₃ r₃ p₄ o₄ r₄ h a b c d = wrote_more o at p₁ o₁ r₁ _ o₄ r₄ h a (three o₁ r₁ p₂ o₂ r₂ p₃ o₃ r₃ p₄ o₄ r₄ (wrote_fits o at p₁ o₁ r₁ a) b c d)
