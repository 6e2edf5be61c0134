-- `heads::walk::chosen` meets its contract.
use native.Mathlib.Omega.{arith}
use Prim.Native.Nat.{◌+◌, ◌-◌, ◌*◌, ◌≤◌, ◌<◌}
use mathlib.Core.Path.{◌≡◌, refl, sym, ap, subst}
use mathlib.Core.Logic.{inl, inr}
use lib.ListN.{length}
use Rattle.std.specs.Prelude.{Ok, Err}
use Rattle.refusals.specs.declared.Refusal.TheVariants.{NotWithin}
use Rattle.heads.specs.declared.walk.Next.TheVariants.{Into}
use Rattle.contexts.specs.declared.Side.{Side}
use Rattle.heads.specs.declared.walk.Turn.{Turn}
use Rattle.heads.specs.Stack.{later_cells}
use Rattle.heads.specs.Progress.{Chosen}
use Rattle.heads.proofs.Stacking.{steady_push}
use Rattle.heads.proofs.Choosing.{second_goes, first_goes, has_room, both_go}
use Rattle.heads.proofs.walk.chosen.Goals as goal

pub second_side-e-requires : goal.second_side-e-requires
second_side-e-requires c = c.requires.0.3.c_small

pub returns-then-first-eq0 : goal.returns-then-first-eq0
returns-then-first-eq0 c =
    let a = c.args in
    let e = c.second_side-e.result in
    let se = c.second_side-e.ensures in
    subst (λ (r : Turn). Chosen a.g a.heads a.left a.q a.w a.later.now (Ok (Into r)) a.later.now) (sym c.aside.ensures)
    ((
      (refl, refl),
      λ cells counts lo is. (
        (se.1, inr (refl, omega (arith, ap (λ (x : Side). x.at) se.0, (lo.counts_first (inl is)).0, lo.on.on))),
        λ lk ls f q₀ few y. y,
        λ starts firsts B o S on. second_goes cells starts counts firsts a.g lo is e se S a.heads a.left a.q a.w B a.later.now o on c.if-first-eq0.true,
      ),
    ))

pub returns-then-first-heads : goal.returns-then-first-heads
returns-then-first-heads c =
    let a = c.args in
    subst (λ (r : Turn). Chosen a.g a.heads a.left a.q a.w a.later.now (Ok (Into r)) a.later.now) (sym c.aside-then-first-heads.ensures)
    ((
      (refl, refl),
      λ cells counts lo is. (
        (c.requires.0.3.c_small, inr (refl, omega (arith, lo.on.on))),
        λ lk ls f q₀ few y. y,
        λ starts firsts B o S on. first_goes cells starts counts firsts a.g lo is c.second_side-e.result c.second_side-e.ensures S a.heads a.left a.q a.w B a.later.now o on (omega (arith, c.if-first-heads.true)),
      ),
    ))

pub overflow_mul-q : goal.overflow_mul-q
overflow_mul-q c = omega (arith, c.requires.1)

pub overflow_sub-later : goal.overflow_sub-later
overflow_sub-later c = omega (arith, c.requires.1)

pub returns-then-later-q-lt-LATER : goal.returns-then-later-q-lt-LATER
returns-then-later-q-lt-LATER c =
    let a = c.args in
    let l = a.later.now in
    let full : length l < later_cells * a.q + later_cells = omega (arith, c.if-later-q-lt-LATER.true, c.requires.1) in
    let less : a.g.a.heads < a.heads = omega (arith, c.if-first-heads.false) in (
      (tt, refl),
      λ cells counts lo is. (
        tt,
        λ lk ls f q₀ few y. tt,
        λ starts firsts B o S on. has_room cells starts counts firsts a.g lo is c.second_side-e.result c.second_side-e.ensures S a.heads a.left a.q a.w B l o on c.if-first-eq0.false less full (Err NotWithin) B o,
      ),
    )

pub put_later-requires : goal.put_later-requires
put_later-requires c =
    let b = c.requires.0.3 in
    (omega (arith, c.if-later-q-lt-LATER.false, c.requires.1), omega (arith, b.n_small), omega (arith, b.m_small, b.nv_few), omega (arith, b.nv_few), omega (arith, b.nc_few), omega (arith, b.nk_few), c.second_side-e.ensures.1)

pub overflow_add-q : goal.overflow_add-q
overflow_add-q c = omega (arith, c.requires.1)

pub shape_of-later : goal.shape_of-later
shape_of-later c = c.put_later.auto.later

pub returns : goal.returns
returns c =
    let a = c.args in
    let l = a.later.now in
    let pre = c.requires in
    let e = c.second_side-e.result in
    let se = c.second_side-e.ensures in
    let l' = c.put_later.new.later in
    let put = c.put_later.ensures in
    let el : length l' ≡ length l = c.put_later.auto.later in
    let first = a.g.a.heads in
    let room : later_cells * a.q + later_cells ≤ length l = omega (arith, c.if-later-q-lt-LATER.false, pre.1) in
    let less : first < a.heads = omega (arith, c.if-first-heads.false) in
    subst (λ (r : Turn). Chosen a.g a.heads a.left a.q a.w a.later.now (Ok (Into r)) l') (sym c.aside-2.ensures)
    ((
      (refl, put.0),
      λ cells counts lo is. (
        (pre.0.3.c_small, inr (refl, omega (arith, lo.on.on))),
        λ lk ls f q₀ few y. steady_push lk ls f q₀ a.g.s a.q l y few e (a.heads - first) l' se.1 room el put a.g.s y.bound refl,
        λ starts firsts B o S on. both_go cells starts counts firsts a.g lo is e se S a.heads a.left a.q a.w B l o on c.if-first-eq0.false less pre.0.0 pre.0.1 pre.0.3 pre.0.2 l' room el put,
      ),
    ))
