use Prim.Native.Nat.{◌≤◌, ◌<◌}
use mathlib.Core.Path.{◌≡◌}
use lib.ListN.{length}
use Rattle.evaluation.specs.Rows.{lane_env, Marked, Zeros}
use Rattle.evaluation.proofs.LaneLaws.{Worth}
use Rattle.evaluation.proofs.rows.term.Given as goal

abbrev pub invariant-loop-j : goal.invariant-loop-j
invariant-loop-j l = ((l.j ≤ l.end) × ((l.at ≤ l.j) × (l.t ≤ 17))) × (((length l.rows ≡ length l.initial.rows) × (length l.marks ≡ length l.initial.marks)) × (l.u < length l.e → l.v < length l.e → Marked l.initial.rows l.initial.marks → Zeros l.initial.rows → Marked l.rows l.marks × (Zeros l.rows × Worth l.n l.s l.funcs (λ i. lane_env l.e l.u l.v l.slow l.fast i) l.s l.rows l.t l.j l.end)))
