-- `contexts::down_call` meets its contract: `call-down`.
use native.Mathlib.Omega.{arith}
use Prim.Native.Nat.{◌-◌, suc}
use mathlib.Core.Path.{◌≡◌, refl}
use Rattle.contexts.proofs.Following.{call_none, call_wide, call_down}
use Rattle.contexts.proofs.down_call.Goals as goal

pub returns-then-s-eq0 : goal.returns-then-s-eq0
returns-then-s-eq0 c = record {
  fuel_value = tt;
  call_down = λ counts vars conds calls vw is H F hs rd sp. (call_none c.args.cells.now c.args.starts.now counts c.args.firsts.now c.args.s c.args.slots.now vars conds calls c.args.d vw is H F hs rd sp (omega arith));
}

pub returns-then-count-gt-FRAME_WIDTH : goal.returns-then-count-gt-FRAME_WIDTH
returns-then-count-gt-FRAME_WIDTH c = record {
  fuel_value = tt;
  call_down = λ counts vars conds calls vw is H F hs rd sp. (call_wide c.args.cells.now c.args.starts.now counts c.args.firsts.now c.args.s c.args.slots.now vars conds calls c.args.d vw is H F hs rd sp (omega arith));
}

pub returns : goal.returns
returns c = let y = c.if-s-eq0.false in
    let x = c.if-count-gt-FRAME_WIDTH.false in
    let q = c.cell-c.ensures in
    let g : c.args.s.fuel ≡ suc (c.args.s.fuel - 1) = omega arith in record {
      fuel_value = (omega arith, λ lk ls b. record { fuel_small = omega (arith, b.fuel_small); n_small = omega (arith, b.n_small); n_room = omega (arith, b.n_room); m_small = omega (arith, b.m_small); c_small = omega (arith, b.c_small); nv_few = omega (arith, b.nv_few); nc_few = omega (arith, b.nc_few); lc_few = omega (arith, b.lc_few); nk_few = omega (arith, b.nk_few); top_in = omega (arith, b.top_in); top_room = omega (arith, b.top_room) });
      call_down = λ counts vars conds calls vw is H F hs rd sp. (
        call_down c.args.cells.now c.args.starts.now counts c.args.firsts.now c.args.s c.args.slots.now vars conds calls c.args.d vw is H F hs rd sp (c.args.s.fuel - 1) g c.put_slots.new.out c.put_slots.ensures c.cell-at.result c.cell-c.result c.cell-at.ensures.0 c.cell-c.ensures.0,
        refl,
        refl,
        refl,
      );
    }
