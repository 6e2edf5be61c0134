-- `contexts::down_sum` meets its contract: a step by `sum-down`, failures by `sum-many` and `sum-deep`.
use native.Mathlib.Omega.{arith}
use mathlib.Core.Path.{refl}
use Rattle.contexts.specs.Spots.{arrays}
use Rattle.contexts.proofs.Spotting.{kept_same}
use Rattle.contexts.proofs.Down.{fails, sum_many, sum_deep, sum_down}
use Rattle.contexts.proofs.down_sum.Goals as goal

pub returns-then-nv-ge-MAX_VARIABLES : goal.returns-then-nv-ge-MAX_VARIABLES
returns-then-nv-ge-MAX_VARIABLES c = record {
  stays = tt;
  fuel_value = tt;
  sum_down = λ cells starts counts firsts conds calls vw is. fails cells starts counts firsts c.args.s (arrays c.args.slots.now c.args.vars.now conds calls) (sum_many cells starts counts firsts c.args.s c.args.slots.now c.args.vars.now conds calls c.args.d vw is (omega arith)) _ (kept_same c.args.s _);
}

pub returns-then-n-ge-MAX_SCOPE : goal.returns-then-n-ge-MAX_SCOPE
returns-then-n-ge-MAX_SCOPE c = record {
  stays = tt;
  fuel_value = tt;
  sum_down = λ cells starts counts firsts conds calls vw is. fails cells starts counts firsts c.args.s (arrays c.args.slots.now c.args.vars.now conds calls) (sum_deep cells starts counts firsts c.args.s c.args.slots.now c.args.vars.now conds calls c.args.d vw is (omega arith)) _ (kept_same c.args.s _);
}

pub returns : goal.returns
returns c = let q = c.requires in record {
  stays = λ lk ls b. record { fuel_small = omega (arith, b.fuel_small); n_small = omega (arith, b.n_small); n_room = omega (arith, b.n_room); m_small = omega (arith, b.m_small); c_small = omega (arith, b.c_small); nv_few = omega (arith, b.nv_few); nc_few = omega (arith, b.nc_few); lc_few = omega (arith, b.lc_few); nk_few = omega (arith, b.nk_few); top_in = omega (arith, b.top_in); top_room = omega (arith, b.top_room) };
  fuel_value = (refl, refl);
  sum_down = λ cells starts counts firsts conds calls vw is. sum_down cells starts counts firsts c.args.s c.args.slots.now c.args.vars.now conds calls c.args.d vw is (omega arith) c.put_variable.new.slots c.put_variable.ensures;
}
