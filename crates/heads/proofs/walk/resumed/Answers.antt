-- `heads::walk::resumed` meets its contract.
use native.Mathlib.Omega.{arith}
use Prim.Native.Nat.{◌-◌, ◌<◌}
use mathlib.Core.Path.{refl, sym, ◌∙◌, subst}
use mathlib.Core.Logic.{inl}
use Rattle.std.specs.Prelude.{Err}
use Rattle.refusals.specs.declared.Refusal.TheVariants.{NotWithin}
use Rattle.contexts.specs.Spots.{Bound}
use Rattle.heads.specs.declared.waiting.Later.{Later}
use Rattle.heads.proofs.Stacking.{entry_c, steady_pop, steady_last}
use Rattle.heads.proofs.Resuming.{resume_done, resume_none, resume_empty, resume_out, resume_goes}
use Rattle.heads.proofs.walk.resumed.Goals as goal

pub returns-then-left-heads : goal.returns-then-left-heads
returns-then-left-heads c =
    let a = c.args in record {
      w_value = refl;
      resumed = (λ lk ls f y. tt, λ starts counts firsts B o S eq lf. resume_done a.cells.now starts counts firsts S a.g.s a.heads a.left a.q a.v B a.later.now o lf (omega (arith, c.if-left-heads.true)));
    }

pub returns-then-q-q0 : goal.returns-then-q-q0
returns-then-q-q0 c =
    let a = c.args in record {
      w_value = tt;
      resumed = (λ lk ls f y. tt, λ starts counts firsts B o S eq lf. resume_none a.cells.now starts counts firsts S a.g.s a.heads a.left a.q a.v B a.later.now o lf (omega (arith, c.if-left-heads.false)) (omega (arith, c.if-q-q0.true, eq)) (Err NotWithin));
    }

pub returns-then-heads-eq0 : goal.returns-then-heads-eq0
returns-then-heads-eq0 c =
    let a = c.args in record {
      w_value = tt;
      resumed = (λ lk ls f y. tt, λ starts counts firsts B o S eq lf. resume_empty a.cells.now starts counts firsts S a.g.s a.heads a.left a.q a.v B a.later.now o lf c.if-heads-eq0.true (Err NotWithin));
    }

pub later_at-l-requires : goal.later_at-l-requires
later_at-l-requires c = omega (arith, c.requires, c.if-q-q0.false)

pub returns-then-t-cells : goal.returns-then-t-cells
returns-then-t-cells c =
    let a = c.args in record {
      w_value = tt;
      resumed = (λ lk ls f y. tt, λ starts counts firsts B o S eq lf. resume_out a.cells.now starts counts firsts S a.g.s a.heads a.left a.q a.v B a.later.now o lf (omega (arith, c.if-q-q0.false, eq)) c.later_at-l.result c.later_at-l.ensures (omega (arith, c.if-t-cells.true)) (Err NotWithin));
    }

pub returns : goal.returns
returns c =
    let a = c.args in
    let l = a.later.now in
    let y = c.later_at-l.result in
    let ey = c.later_at-l.ensures in
    let more : a.heads < a.left = omega (arith, c.if-left-heads.false) in
    let some : a.q0 < a.q = omega (arith, c.if-q-q0.false) in
    let ec = entry_c l (a.q - 1) a.g.s.fuel y ey in record {
      w_value = refl;
      resumed = (
        λ lk ls f v.
            let b : Bound lk ls y.s = subst (λ (z : Later). Bound lk ls z.s) (sym ey) (steady_last lk ls f a.q0 a.g.s a.q l v some) in
            (steady_pop lk ls f a.q0 a.g.s a.q l v some (a.q - 1) refl y.s b (ec.1 ∙ v.fuel_is), (omega (arith, ec.0, b.c_small), inl (omega (arith, more, c.if-heads-eq0.false)))),
        λ starts counts firsts B o S eq lf. resume_goes a.cells.now starts counts firsts S a.g.s a.heads a.left a.q a.v B l o lf more (omega (arith, some, eq)) y ey c.node_at-d.result c.node_at-d.ensures.on c.node_at-d.ensures.views,
      );
    }
