-- Every value that a numeral may have is spelled by its decimal digits, by trial of all 256.
use Rattle.std.specs.Prelude.{◌≡◌, Bool, true, false, ℕ, zero, suc, ◌≤◌, ◌<◌, T, eqb, ltb, length, get_or}
use Rattle.std.proofs.Common.{sym, subst, arith}
use Rattle.std.proofs.Math.Decide.{ℕ_discrete, dec_le}
use Rattle.pcrl.specs.Text.{byte, digits, decimal}
use Rattle.pcrl.specs.Limits.{max_numeral}
use Rattle.pcrl.specs.Tests.{or, Every, every?, both?, T?}
use Rattle.pcrl.specs.Bytes.{digit}
use Rattle.pcrl.specs.Tokens.{value_of}

-- a value in decimal: digits, no leading zero, and they spell the value
abbrev pub Spelled : ℕ → Type 0
Spelled v =
    Every (λ b. T (digit b)) (decimal v)
    × ((1 ≤ length (decimal v))
    × (T (or (eqb (length (decimal v)) 1) (ltb (byte "0") (get_or (decimal v) 0 0)))
    × (value_of 0 (decimal v) ≡ v)))

unfoldable pub spelled? : (v : ℕ) → Dec (Spelled v)
spelled? v =
    both? (every? (λ b. T? (digit b)) (decimal v))
    (both? (dec_le 1 (length (decimal v)))
    (both? (T? (or (eqb (length (decimal v)) 1) (ltb (byte "0") (get_or (decimal v) 0 0))))
    (ℕ_discrete (value_of 0 (decimal v)) v)))

-- by trial of every number below n
unfoldable pub decided_below : {P : ℕ → Type 0} → ((v : ℕ) → Dec (P v)) → ℕ → Bool
decided_below p zero = true
decided_below p (suc n) = elim (p n) [ yes h ↦ decided_below p n | no h ↦ false ]

pub holds_below : {P : ℕ → Type 0} (p : (v : ℕ) → Dec (P v)) (n : ℕ) → T (decided_below p n) → (v : ℕ) → v < n → P v
unfolding decided_below
holds_below p zero t v h = absurd (omega arith)
holds_below {P} p (suc n) t v h = by (p n) t (ℕ_discrete v n) (holds_below p n)
  where
    by : (d : Dec (P n)) → T (elim d [ yes k ↦ decided_below p n | no k ↦ false ]) → Dec (v ≡ n) → (T (decided_below p n) → (v : ℕ) → v < n → P v) → P v
    by (no k) u e next = absurd u
    by (yes k) u (yes e) next = subst P (sym e) k
    by (yes k) u (no e) next = next u v (omega arith)

pub spelled : (v : ℕ) → v ≤ max_numeral → Spelled v
unfolding decided_below spelled? decimal digits value_of Every every? both? T? ℕ_discrete dec_le
spelled v h = holds_below spelled? (suc max_numeral) tt v (omega arith)
