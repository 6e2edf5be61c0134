-- Are two labels the same? A test that computes.
use Rattle.std.specs.Prelude.{◌≡◌, refl, List, [], ◌∷◌, ℕ}
use Rattle.std.proofs.Common.{arith}
use Rattle.pcrl.specs.Tests.{same?}
use Rattle.pcrl.specs.Label.{Label, silent, named}

unfoldable pub same_lists? : (l m : List (List ℕ)) → Dec (l ≡ m)
same_lists? [] [] = yes refl
same_lists? [] (y ∷ m) = no (λ e. let z : ◌≡◌ {A = ℕ} 0 1 = cc in omega arith)
same_lists? (x ∷ l) [] = no (λ e. let z : ◌≡◌ {A = ℕ} 0 1 = cc in omega arith)
same_lists? (x ∷ l) (y ∷ m) = elim (same? x y) [ yes e ↦ elim (same_lists? l m) [ yes k ↦ yes (cc (e, k)) | no h ↦ no (λ k. h (cc)) ] | no h ↦ no (λ e. h (cc)) ]

unfoldable pub same_label? : (k l : Label) → Dec (k ≡ l)
same_label? silent silent = yes refl
same_label? silent (named n Ds vs) = no (λ e. let z : ◌≡◌ {A = ℕ} 0 1 = cc in omega arith)
same_label? (named n Ds vs) silent = no (λ e. let z : ◌≡◌ {A = ℕ} 0 1 = cc in omega arith)
same_label? (named n Ds vs) (named m Es ws) =
    elim (same? n m) [
      | yes a ↦ elim (same_lists? Ds Es) [ yes b ↦ elim (same? vs ws) [ yes c ↦ yes (cc (a, b, c)) | no h ↦ no (λ e. h (cc)) ] | no h ↦ no (λ e. h (cc)) ]
      | no h ↦ no (λ e. h (cc))
    ]
