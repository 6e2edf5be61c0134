-- The values of a right frame: exactly as many as a frame has, and spare ones 0.
use Rattle.std.specs.Prelude.{◌≡◌, ℕ, zero, suc, ◌-◌, ◌<◌, ◌≤◌, replicate}
use Rattle.std.proofs.Math.Path.{sym, ap}
use Rattle.std.proofs.Common.{◌∙◌, arith}
use mathlib.Core.List.{List, [], ◌∷◌, ◌++◌}
use Rattle.std.proofs.Math.ListN.{length, get_or, length-append}
use Rattle.std.proofs.lemmas.List.{length-replicate}
use Rattle.pcrl.specs.Sheet.{size}
use Rattle.pcrl.specs.Table.{Table, equation}
use Rattle.pcrl.specs.Stack.{Frame, InSorts, used, padded, RightFrame}
use Rattle.laws.specs.Places.{get_or_zeros}
use Rattle.laws.specs.Each.{each_length}

past_values : (vs : List ℕ) (n i : ℕ) → length vs ≤ i → get_or (vs ++ replicate n 0) i 0 ≡ 0
past_values [] n i h = get_or_zeros n i
past_values (v ∷ vs) n zero h = absurd (omega arith)
past_values (v ∷ vs) n (suc i) h = past_values vs n i (omega arith)

module _ (width : ℕ) (T : Table) (f : Frame) (right : RightFrame width T f) where
  -- as many used values as the equation has parameters
  pub used_length : length (used T f) ≡ length (equation T f.number).params
  unfolding RightFrame InSorts
  used_length = sym (each_length (λ (D v : ℕ). v < size T.sig D) _ _ right.1.0)

  -- "spare ones 0"
  pub spare_zero : (i : ℕ) → length (equation T f.number).params ≤ i → get_or f.values i 0 ≡ 0
  unfolding RightFrame padded
  spare_zero i h = ap (λ (vs : List ℕ). get_or vs i 0) right.1.1 ∙ past_values (used T f) (width - length (used T f)) i (omega (arith, used_length))

  -- exactly as many values as a frame has
  pub full : length (equation T f.number).params ≤ width → length f.values ≡ width
  unfolding RightFrame padded
  full h = ap length right.1.1 ∙ length-append (used T f) (replicate (width - length (used T f)) 0) ∙ rw (length-replicate {A = ℕ} (width - length (used T f)) 0) (omega (arith, used_length))
