-- `contexts::down_side` meets its contract: a choice by `side-plain`, a conditional by `side-cond`.
use native.Mathlib.Omega.{arith}
use Prim.Native.Nat.{ℕ, ◌+◌}
use mathlib.Core.Path.{refl, ap, ◌∙◌, subst}
use Rattle.std.specs.Prelude.{Some, None}
use lib.ListN.{take, set, length-set}
use Rattle.putting.specs.Puts.{Puts}
use Rattle.contexts.proofs.Sides.{side_plain, side_many, side_long, side_cond}
use Rattle.contexts.proofs.down_side.Goals as goal

pub returns-then-d-ne-COND : goal.returns-then-d-ne-COND
returns-then-d-ne-COND c = record {
  stays = λ ec lk ls b. record { fuel_small = omega (arith, b.fuel_small); n_small = omega (arith, b.n_small); n_room = omega (arith, b.n_room); m_small = omega (arith, b.m_small); c_small = omega (arith, b.c_small); nv_few = omega (arith, b.nv_few); nc_few = omega (arith, b.nc_few); lc_few = omega (arith, b.lc_few); nk_few = omega (arith, b.nk_few); top_in = omega (arith, b.top_in); top_room = omega (arith, b.top_room) };
  fuel_value = (refl, refl);
  side_down = side_plain c.args.cells.now c.args.d c.args.s c.args.e c.args.slots.now c.args.conds.now (λ z. c.if-d-ne-COND.true z);
}

pub returns-then-s-ge-MAX_CONDITIONS : goal.returns-then-s-ge-MAX_CONDITIONS
returns-then-s-ge-MAX_CONDITIONS c = record {
  stays = tt;
  fuel_value = tt;
  side_down = side_many c.args.cells.now c.args.d c.args.s c.args.e c.args.slots.now c.args.conds.now (omega arith) (omega arith);
}

pub put_term-requires : goal.put_term-requires
put_term-requires c = let q = c.requires in omega (arith, length-set c.args.conds.now c.args.s.lc c.wanted.result)

pub shape_of-conds-in_err-r : goal.shape_of-conds-in_err-r
shape_of-conds-in_err-r c = c.put_term.auto.out ∙ length-set c.args.conds.now c.args.s.lc c.wanted.result

pub returns-in_err-r : goal.returns-in_err-r
returns-in_err-r c = rw c.from_residual.ensures let p = subst (λ (x : ℕ). Puts c.args.cells.now c.args.d.terms c.args.slots.now c.args.s.n (c.args.s.lc + 1) (set c.args.conds.now c.args.s.lc x) None c.put_term.new.out) c.wanted.ensures c.in_err-r.ensures.puts in
    let p2 = c.put_term.ensures.out_unchanged ∙ ap (λ (x : ℕ). take (c.args.s.lc + 1) (set c.args.conds.now c.args.s.lc x)) c.wanted.ensures in record {
      stays = tt;
      fuel_value = tt;
      side_down = side_long c.args.cells.now c.args.d c.args.s c.args.e c.args.slots.now c.args.conds.now (omega arith) c.put_term.new.out p2 p;
    }

pub shape_of-conds : goal.shape_of-conds
shape_of-conds c = c.put_term.auto.out ∙ length-set c.args.conds.now c.args.s.lc c.wanted.result

pub returns : goal.returns
returns c = let q = c.requires in
    let u = c.in_ok-r.ensures.w_le_w in
    let y = c.if-s-ge-MAX_CONDITIONS.false in
    let p = subst (λ (x : ℕ). Puts c.args.cells.now c.args.d.terms c.args.slots.now c.args.s.n (c.args.s.lc + 1) (set c.args.conds.now c.args.s.lc x) (Some c.in_ok-r.r) c.put_term.new.out) c.wanted.ensures c.in_ok-r.ensures.puts in
    let p2 = c.put_term.ensures.out_unchanged ∙ ap (λ (x : ℕ). take (c.args.s.lc + 1) (set c.args.conds.now c.args.s.lc x)) c.wanted.ensures in record {
      stays = λ ec lk ls b. record { fuel_small = omega (arith, b.fuel_small); n_small = omega (arith, b.n_small); n_room = omega (arith, b.n_room); m_small = omega (arith, b.m_small); c_small = omega (arith, b.c_small); nv_few = omega (arith, b.nv_few); nc_few = omega (arith, b.nc_few); lc_few = omega (arith, b.lc_few); nk_few = omega (arith, b.nk_few); top_in = omega (arith, b.top_in); top_room = omega (arith, b.top_room) };
      fuel_value = (refl, refl);
      side_down = side_cond c.args.cells.now c.args.d c.args.s c.args.e c.args.slots.now c.args.conds.now (omega arith) c.put_term.new.out p2 c.in_ok-r.r p (omega arith) (omega arith);
    }
