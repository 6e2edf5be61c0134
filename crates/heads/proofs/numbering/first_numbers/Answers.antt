-- `heads::numbering::first_numbers` meets its contract.
use native.Mathlib.Omega.{arith}
use Prim.Native.Nat.{ℕ}
use mathlib.Core.Path.{◌∙◌}
use lib.ListN.{length-replicate, length-set}
use Rattle.heads.proofs.Numbers.{numbering_start, numbering_on, numbering_done}
use Rattle.heads.proofs.numbering.first_numbers.Goals as goal

pub loop-k-init : goal.loop-k-init
loop-k-init c =
    let args = c.args in
    ((omega arith, omega arith, length-replicate {A = ℕ} 16 0), numbering_start args.cells.now args.starts.now args.n _)

pub loop-k-preserved : goal.loop-k-preserved
loop-k-preserved c =
    let here = c.loop-k in
    let args = c.args in (
      (omega arith, c.later-c.ensures.0, length-set here.t _ _ ∙ here.invariant.0.2),
      numbering_on args.cells.now args.starts.now args.n here.k here.c here.t here.invariant.1 (omega arith) (omega arith) c.cell-p.result c.cell-p.ensures.0 c.skip-s.result c.skip-s.ensures.skips c.later-c.result c.later-c.ensures.1,
    )

pub returns : goal.returns
returns c =
    let args = c.args in
    let here = c.loop-k in
    numbering_done args.cells.now args.starts.now args.n here.k here.c here.t here.invariant.1 (omega arith)
