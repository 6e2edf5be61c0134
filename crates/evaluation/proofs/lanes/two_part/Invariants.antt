use Prim.Native.Nat.{ℕ, ◌+◌, ◌-◌, ◌*◌, ◌≤◌, ◌<◌}
use mathlib.Core.Path.{◌≡◌}
use lib.ListN.{length, get_or}
use Rattle.evaluation.specs.Rows.{lane, Putting}
use Rattle.evaluation.proofs.lanes.two_part.Given as goal

abbrev pub invariant-loop-i : goal.invariant-loop-i
invariant-loop-i l = (l.i ≤ 16) × (((l.x ≡ l.t * 128 + l.k) × ((l.y ≡ l.t * 128 + l.k + 128) × (l.r ≡ l.d * 128 + l.k))) × ((length l.at ≡ 16) × ((m : ℕ) → m < l.i → (get_or l.at m 0 ≡ lane l.rows l.t (l.k + m) * l.width + lane l.rows (l.t + 1) (l.k + m)) × (get_or l.at m 0 < 65536))))

abbrev pub invariant-loop-j : goal.invariant-loop-j
invariant-loop-j l = (l.j ≤ 16) × (((l.x ≡ l.t * 128 + l.k) × ((l.y ≡ l.t * 128 + l.k + 128) × (l.r ≡ l.d * 128 + l.k))) × (((length l.at ≡ 16) × ((m : ℕ) → m < 16 → (get_or l.at m 0 ≡ lane l.initial.rows l.t (l.k + m) * l.width + lane l.initial.rows (l.t + 1) (l.k + m)) × (get_or l.at m 0 < 65536))) × ((length l.rows ≡ length l.initial.rows) × Putting l.initial.rows l.d (λ m. get_or l.s (l.q + (lane l.initial.rows l.t m * l.width + lane l.initial.rows (l.t + 1) m)) 0) l.k (l.k + l.j) l.rows)))
