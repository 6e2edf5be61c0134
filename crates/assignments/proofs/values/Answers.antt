-- Division from the last variable on gives the same values as the definition.
use native.Mathlib.Omega.{arith}
use Prim.Native.Nat.{ℕ, ◌/◌, ◌%◌}
use mathlib.Core.Path.{◌∙◌, ap}
use mathlib.Core.List.{[], ◌∷◌}
use lib.ListN.{get_or}
use Rattle.assignments.proofs.Counter.{per_sum_length, four_values}
use Rattle.assignments.proofs.values.Goals as goal

pub quotient-j2-requires : goal.quotient-j2-requires
quotient-j2-requires c = c.requires 3 (omega arith)

pub quotient-j1-requires : goal.quotient-j1-requires
quotient-j1-requires c = c.requires 2 (omega arith)

pub quotient-j0-requires : goal.quotient-j0-requires
quotient-j0-requires c = c.requires 1 (omega arith)

pub digit-requires : goal.digit-requires
digit-requires c = c.requires 0 (omega arith)

pub digit-requires-2 : goal.digit-requires-2
digit-requires-2 c = c.requires 1 (omega arith)

pub digit-requires-3 : goal.digit-requires-3
digit-requires-3 c = c.requires 2 (omega arith)

pub digit-requires-4 : goal.digit-requires-4
digit-requires-4 c = c.requires 3 (omega arith)

pub returns : goal.returns
returns c = let a = c.args in
    let s = a.s.at in
    let q₂ = c.quotient-j2.ensures in
    let q₁ = c.quotient-j1.ensures ∙ ap (λ (x : ℕ). x / get_or s 2 0) q₂ in
    let q₀ = c.quotient-j0.ensures ∙ ap (λ (x : ℕ). x / get_or s 1 0) q₁ in
    let d₀ = c.digit.ensures ∙ ap (λ (x : ℕ). x % get_or s 0 0) q₀ in
    let d₁ = c.digit-2.ensures ∙ ap (λ (x : ℕ). x % get_or s 1 0) q₁ in
    let d₂ = c.digit-3.ensures ∙ ap (λ (x : ℕ). x % get_or s 2 0) q₂ in
    (λ i. d₀ i ∷ d₁ i ∷ d₂ i ∷ c.digit-4.ensures i ∷ []) ∙ four_values s a.j (per_sum_length a.s _ c.well_formed.0)
