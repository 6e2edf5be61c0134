-- `counting::next_count` meets its contract.
use native.Mathlib.Omega.{arith}
use Prim.Native.Nat.{◌+◌, ◌-◌}
use mathlib.Core.Path.{◌≡◌, ◌∙◌}
use Rattle.counting.proofs.Rows.{kept_next, counted_next}
use Rattle.counting.proofs.next_count.Goals as goal

pub returns-then-settled : goal.returns-then-settled
returns-then-settled c =
    let a = c.args in
    let s = c.settled.ensures c.if-settled.true in record {
      upper_bound = omega arith;
      next_count = λ H few placed is_set alike rows.
          let z : a.f ≡ a.f - 1 + 1 = omega (arith, s.0) in
          c.cell.ensures.0 ∙ kept_next H few a.t.now a.f (a.f - 1) a.k a.set a.same z (omega arith) s.1 is_set (alike (a.f - 1) z) rows;
    }

pub returns : goal.returns
returns c =
    let a = c.args in record {
      upper_bound = omega arith;
      next_count = λ H few placed is_set alike rows. counted_next H few a.cells.now a.at a.t.now a.f a.k c.count-r.result c.count-r.ensures.counts placed.0 placed.1 rows;
    }
