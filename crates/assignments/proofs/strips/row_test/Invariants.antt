use Prim.Native.Nat.{ℕ, ◌≤◌, ◌<◌}
use mathlib.Core.Path.{◌≡◌}
use lib.ListN.{length, get_or}
use Rattle.evaluation.specs.Rows.{lane_env, Marked, Zeros}
use Rattle.assignments.specs.Parting.{Standing}
use Rattle.assignments.specs.Lanes.{inner, RowMet}
use Rattle.assignments.proofs.strips.row_test.Given as goal

abbrev pub invariant-loop-i : goal.invariant-loop-i
invariant-loop-i l = (l.i ≤ l.c.count) × (((length l.rows ≡ length l.initial.rows) × ((length l.marks ≡ length l.initial.marks) × (length l.met ≡ length l.initial.met))) × (((m : ℕ) → m < l.c.count → Standing l.s l.c.froms l.c.ends m) → l.u < length l.e → l.v < length l.e → Marked l.initial.rows l.initial.marks → Zeros l.initial.rows → Marked l.rows l.marks × (Zeros l.rows × (((m : ℕ) → m < l.lanes → get_or l.initial.met m 0 ≡ 1) → RowMet l.lanes (λ x. inner l.s l.funcs l.c.froms l.c.ends l.c.blocks l.w (lane_env l.e l.u l.v l.slow l.fast x)) l.i l.met l.some))))
