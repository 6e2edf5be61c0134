-- `contexts::down_seq` meets its contract: `seq-down`, `seq-long`.
use native.Mathlib.Omega.{arith}
use mathlib.Core.Path.{refl}
use Rattle.std.specs.Prelude.{Some, None}
use Rattle.contexts.specs.Spots.{arrays}
use Rattle.contexts.proofs.Down.{fails, seq_long, seq_down}
use Rattle.contexts.proofs.down_seq.Goals as goal

pub returns-in_err-r : goal.returns-in_err-r
returns-in_err-r c = rw c.from_residual.ensures record {
  bound = tt;
  fuel_value = tt;
  seq_down = λ starts counts firsts vars conds vw is ra. fails c.args.cells.now starts counts firsts c.args.s (arrays c.args.slots.now vars conds c.args.calls.now) (seq_long c.args.cells.now starts counts firsts c.args.s c.args.slots.now vars conds c.args.calls.now c.args.d vw is c.args.e ra None c.push_calls.new.calls c.in_err-r.ensures.pushes refl) _ (record { slots_kept = refl; vars_kept = refl; conds_kept = refl; calls_kept = c.in_err-r.ensures.top_le_top.1 });
}

pub returns : goal.returns
returns c = let q = c.requires in
    let u = c.in_ok-r.ensures.n_le_max_calls in record {
      bound = λ ls b. record { fuel_small = omega (arith, b.fuel_small); n_small = omega (arith, b.n_small); n_room = omega (arith, b.n_room); m_small = omega (arith, b.m_small); c_small = omega (arith, b.c_small); nv_few = omega (arith, b.nv_few); nc_few = omega (arith, b.nc_few); lc_few = omega (arith, b.lc_few); nk_few = omega (arith, b.nk_few); top_in = omega (arith, b.top_in); top_room = omega (arith, b.top_room) };
      fuel_value = (refl, refl);
      seq_down = λ starts counts firsts vars conds vw is ra. seq_down c.args.cells.now starts counts firsts c.args.s c.args.slots.now vars conds c.args.calls.now c.args.d vw is c.args.e ra (Some c.in_ok-r.r) c.push_calls.new.calls c.in_ok-r.ensures.pushes c.in_ok-r.r refl c.in_ok-r.ensures.top_le_top.0 c.in_ok-r.ensures.top_le_top.1;
    }
