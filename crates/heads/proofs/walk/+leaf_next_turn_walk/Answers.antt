-- The walk meets its contract: each round carries on, and what is left falls; each call may follow one call less.
use borrow.Author.Rules.{rules}
use native.Mathlib.Omega.{arith}
use Prim.Native.Nat.{◌+◌, ◌*◌, ◌≤◌, ℕ, ◌<◌}
use mathlib.Core.Path.{◌≡◌, refl, sym, ◌∙◌, subst}
use Rattle.std.specs.Prelude.{Result, Ok, Err}
use Rattle.std.proofs.lemmas.Result.{IfOk-weaker, err_from_is_err_and}
use Rattle.refusals.specs.declared.Refusal.{Refusal}
use Rattle.refusals.specs.declared.Refusal.TheVariants.{NotWithin}
use Rattle.heads.specs.declared.walk.Turn.{Turn}
use Rattle.heads.specs.declared.walk.Next.{Next}
use Rattle.heads.specs.declared.walk.Next.TheVariants.{Over, Into}
use mathlib.Core.Logic.{inr}
use lib.ListN.{length}
use Rattle.pcrl.specs.Limits.{max_variables}
use Rattle.putting.specs.Slots.{slot_width}
use Rattle.following.specs.Follows.{calls_room}
use Rattle.putting.proofs.Bytes.{kept_front}
use Rattle.contexts.specs.Spots.{arrays, Bound}
use Rattle.contexts.specs.Steps.{call_room, terms_room}
use Rattle.heads.specs.Stack.{later_cells}
use Rattle.heads.specs.Progress.{start, WrittenBy, IfInto}
use Rattle.heads.proofs.Stacking.{steady_start, steady_to, steady_own, steady_lengths, steady_later, steady_back}
use Rattle.heads.proofs.Walking.{goes_start, goes_stuck, goes_past, goes_step, goes_nowhere, goes_later, toward_down, toward_nowhere}
use Rattle.heads.proofs.Standing.{weigh_less, nearer}
use Rattle.heads.proofs.Remembering.{rest_at}
use Rattle.heads.proofs.Resuming.{resume_fails}
use Rattle.heads.proofs.Lent.{same_start, same_then}
use Rattle.heads.proofs.Calling.{leaf_kind, is_call, call_fails, call_out}
use Rattle.heads.proofs.walk.+leaf_next_turn_walk.Goals as goal

-- Orders among plain numbers: where they are cited, `omega` would read every record of the places.

up_to : {a b c : ℕ} → a ≤ b → c ≡ b → a ≤ c
up_to {a} {b} {c} h e = omega arith

over : {a b c : ℕ} → a ≤ b → b ≡ c → a ≤ c
over {a} {b} {c} h e = omega arith

under : {a b c : ℕ} → a ≤ b → c ≡ a → c ≤ b
under {a} {b} {c} h e = omega arith

then : {a b c : ℕ} → a ≤ b → b ≤ c → a ≤ c
then {a} {b} {c} h g = omega arith

on-from : {a b c : ℕ} → a ≤ b → b < c → a < c
on-from {a} {b} {c} h g = omega arith

itself : {a : ℕ} → a ≤ a
itself {a} = omega arith

terms : {n : ℕ} → calls_room ≤ n → terms_room ≤ n
terms {n} h = omega arith

slots-in : (n nv l : ℕ) → slot_width * (n + max_variables) ≤ l + slot_width * nv → nv ≤ max_variables → slot_width * n ≤ l
slots-in n nv l h g = omega arith

front : {a b : ℕ} → a ≤ b → later_cells * a ≤ later_cells * b
front {a} {b} h = omega arith

call-falls : (f g : ℕ) {t : ℕ} → 3 * f ≡ t → f ≡ g + 1 → 3 * g + 2 < t
call-falls f g {t} h e = omega arith

leaf-falls : (f : ℕ) {t : ℕ} → 3 * f + 1 ≡ t → 3 * f < t
leaf-falls f {t} h = omega arith

turn-falls : {f g t : ℕ} → 3 * f + 2 ≡ t → g ≡ f → 3 * g + 1 < t
turn-falls {f} {g} {t} h e = omega arith

into_both : (r : Result Next Refusal) (P Q : Turn → Type 0) → IfInto r P → IfInto r Q → IfInto r (λ k. P k × Q k)
into_both (Ok (Into k)) P Q p q = (p, q)
into_both (Ok (Over v)) P Q p q = tt
into_both (Err e) P Q p q = tt

pub leaf-emit-requires : goal.leaf-emit-requires
leaf-emit-requires t c =
    let rooms = c.args.work.now.rooms in
    record {
      bound = (c.requires.bound.0, c.if-g-eq-ATOM.true, c.requires.looked.0.views);
      rooms = (rooms.vars_room, rooms.conds_fit, terms rooms.after_fit, rooms.calls_fit, c.requires.bound.1);
    }

pub leaf-returns-then-g-eq-ATOM : goal.leaf-returns-then-g-eq-ATOM
leaf-returns-then-g-eq-ATOM t c =
    let a = c.args in
    let em = c.emit.ensures in
    record {
      w_le_w = (em.w_le_w, refl);
      same_arrays = search rules;
      written_by = λ H F hs rd sp ro. em.emits a.sheet.starts.now a.sheet.counts.now a.sheet.firsts.now H F hs rd sp;
      remembers = c.requires.looked.2;
    }

pub leaf-down_call-requires : goal.leaf-down_call-requires
leaf-down_call-requires t c =
    let bound = c.requires.bound.0 in
    let a = c.args in
    (slots-in a.g.s.n a.g.s.nv (length a.slots.now) bound.n_room bound.nv_few, itself)

pub leaf-returns-in_default : goal.leaf-returns-in_default
leaf-returns-in_default t c =
    let a = c.args in
    let is = is_call a.g.d.kind c.requires.looked.1 c.if-g-eq-ATOM.false in
    record {
      w_le_w = (tt, refl);
      written_by = call_fails a.sheet.cells.now a.sheet.starts.now a.sheet.counts.now a.sheet.firsts.now a.g.s a.g.d c.requires.looked.0.views is a.slots.now a.work.now.vars.now a.work.now.conds.now a.work.now.calls.now c.down_call.new.mine a.w a.out.now a.heads a.q (length a.work.now.later.now) c.in_default.ensures.call_down NotWithin;
      same_arrays = same_start;
      remembers = c.requires.looked.2;
    }

pub leaf-walk-requires : goal.leaf-walk-requires
leaf-walk-requires t c =
    let a = c.args in
    let y = c.in-Some.ensures.fuel_value in
    let em : length c.down_call.new.mine ≡ call_room = c.down_call.auto.mine in
    (call-falls a.g.s.fuel c.in-Some.r.fuel c.decreases y.0, (subst (λ (x : ℕ). Bound (length a.work.now.calls.now) x c.in-Some.r) (sym em) (y.1 (length a.work.now.calls.now) (length a.slots.now) c.requires.bound.0), c.requires.bound.1, c.requires.bound.2, c.requires.looked.2))

pub leaf-returns : goal.leaf-returns
leaf-returns t c =
    let a = c.args in
    let is = is_call a.g.d.kind c.requires.looked.1 c.if-g-eq-ATOM.false in
    let wk = c.walk.ensures in
    record {
      w_le_w = wk.w_le_w;
      written_by = call_out a.sheet.cells.now a.sheet.starts.now a.sheet.counts.now a.sheet.firsts.now a.g.s a.g.d c.requires.looked.0.views is a.slots.now a.work.now.vars.now a.work.now.conds.now a.work.now.calls.now c.down_call.new.mine a.w a.out.now a.heads a.q (length a.work.now.later.now) c.in-Some.r c.in-Some.ensures.call_down c.walk.result c.walk.new.slots c.walk.new.work.vars.now c.walk.new.work.conds.now c.walk.new.work.calls.now c.walk.new.out wk.written_by;
      same_arrays = wk.same_arrays;
      remembers = wk.remembers;
    }

pub next_turn-chosen-requires : goal.next_turn-chosen-requires
next_turn-chosen-requires t c =
    let a = c.args in
    let y = c.requires.steady.0 in
    ((length a.work.now.calls.now, length a.slots.now, a.work.now.rooms.calls_fit, y.bound), y.high)

pub next_turn-returns-then-choice : goal.next_turn-returns-then-choice
next_turn-returns-then-choice t c =
    let a = c.args in
    let y = c.requires.steady.0 in
    let fits = c.requires.steady.1 in
    let lk = length a.work.now.calls.now in
    let ls = length a.slots.now in
    let l = a.work.now.later.now in
    let o = a.out.now in
    let B = arrays a.slots.now a.work.now.vars.now a.work.now.conds.now a.work.now.calls.now in
    let ch = c.chosen.ensures in
    let z = ch.1 a.sheet.cells.now a.sheet.counts.now c.requires.looked.0 (c.choice.ensures.0 c.if-choice.true) in
    record {
      w_le_w = (IfOk-weaker c.chosen.result _ _ (λ n e. (up_to {a = a.w} itself e, under fits e)) ch.0.0, kept_front (later_cells * a.q0) (later_cells * a.q) l c.chosen.new.later (front y.low) ch.0.1);
      stays_steady = into_both c.chosen.result _ _ (z.1 lk ls a.g.s.fuel a.q0 (a.work.now.rooms.calls_fit) y) z.0;
      turned = λ S eq on. z.2 a.sheet.starts.now a.sheet.firsts.now B o S on;
      same_arrays = search rules;
      remembers = c.requires.looked.2;
    }

pub next_turn-leaf-requires : goal.next_turn-leaf-requires
next_turn-leaf-requires t c =
    let a = c.args in
    let y = c.requires.steady.0 in
    (leaf-falls a.g.s.fuel c.decreases, ((y.bound, c.requires.steady.1, y.high), (c.requires.looked.0, leaf_kind a.g.d.kind c.requires.looked.1 (c.choice.ensures.1 c.if-choice.false), c.requires.looked.2)))

pub next_turn-resumed-requires : goal.next_turn-resumed-requires
next_turn-resumed-requires t c = up_to c.requires.steady.0.high (omega arith)

pub next_turn-returns-in_err-v : goal.next_turn-returns-in_err-v
next_turn-returns-in_err-v t c =
    let a = c.args in
    let y = c.requires.steady.0 in
    let l = a.work.now.later.now in
    let o = a.out.now in
    let B = arrays a.slots.now a.work.now.vars.now a.work.now.conds.now a.work.now.calls.now in
    let lf = c.in_err-v.ensures in
    let l' = c.leaf.new.work.later.now in
    let o' = c.leaf.new.out in
    let el : length l' ≡ length l = lf.same_arrays.later_long in
    let C = arrays a.slots.now c.leaf.new.work.vars.now c.leaf.new.work.conds.now c.leaf.new.work.calls.now in
    let p = err_from_is_err_and c.from_residual.result c.from_residual.ensures.1 in
    rw (p.1, p.2) record {
      w_le_w = (tt, kept_front (later_cells * a.q0) (later_cells * a.q) l l' (front y.low) lf.w_le_w.1);
      stays_steady = tt;
      turned = λ S eq on. resume_fails a.sheet.cells.now a.sheet.starts.now a.sheet.counts.now a.sheet.firsts.now S a.g.s a.heads a.left a.q a.w B C l' o o' (length l) el (goes_later a.sheet.cells.now a.sheet.starts.now a.sheet.counts.now a.sheet.firsts.now S a.g.s a.heads a.left a.q a.w B l o on l' y.high el lf.w_le_w.1) _ lf.written_by;
      same_arrays = lf.same_arrays;
      remembers = lf.remembers;
    }

pub next_turn-returns : goal.next_turn-returns
next_turn-returns t c =
    let a = c.args in
    let y = c.requires.steady.0 in
    let lk = length a.work.now.calls.now in
    let ls = length a.slots.now in
    let l = a.work.now.later.now in
    let o = a.out.now in
    let B = arrays a.slots.now a.work.now.vars.now a.work.now.conds.now a.work.now.calls.now in
    let v = c.in_ok-v.v in
    let lf = c.in_ok-v.ensures in
    let rs = c.resumed.ensures in
    let l' = c.leaf.new.work.later.now in
    let o' = c.leaf.new.out in
    let el : length l' ≡ length l = lf.same_arrays.later_long in
    let eo : length o' ≡ length o = c.leaf.auto.out in
    let C = arrays a.slots.now c.leaf.new.work.vars.now c.leaf.new.work.conds.now c.leaf.new.work.calls.now in
    record {
      w_le_w = (IfOk-weaker c.resumed.result _ _ (λ n e. (up_to lf.w_le_w.0.0 e, under lf.w_le_w.0.1 e)) rs.w_value, kept_front (later_cells * a.q0) (later_cells * a.q) l l' (front y.low) lf.w_le_w.1);
      stays_steady = rs.resumed.0 lk ls a.g.s.fuel (steady_later lk ls a.g.s.fuel a.q0 a.g.s a.q l y l' el lf.w_le_w.1);
      turned = λ S eq on. rs.resumed.1 a.sheet.starts.now a.sheet.counts.now a.sheet.firsts.now C o' S eq (record {
        before = B;
        v = a.w;
        o = o;
        onward = goes_later a.sheet.cells.now a.sheet.starts.now a.sheet.counts.now a.sheet.firsts.now S a.g.s a.heads a.left a.q a.w B l o on l' y.high el lf.w_le_w.1;
        written = subst (λ (n : ℕ). WrittenBy a.sheet.cells.now a.sheet.starts.now a.sheet.counts.now a.sheet.firsts.now (start a.g.s B a.w o a.heads a.q n) (Ok v) C o') (sym el) lf.written_by;
        inside = up_to lf.w_le_w.0.1 eo;
        same = eo;
      });
      same_arrays = same_then lf.same_arrays (search rules);
      remembers = lf.remembers;
    }

pub walk-loop-s-init : goal.walk-loop-s-init
walk-loop-s-init t c =
    let a = c.args in
    let B₀ = arrays a.slots.now a.work.now.vars.now a.work.now.conds.now a.work.now.calls.now in
    let pre = c.requires in (
      (refl, refl),
      (itself, pre.1, refl),
      steady_start (length a.work.now.calls.now) (length a.slots.now) a.s0.fuel a.q0 a.s0 a.q0 a.work.now.later.now pre.0 refl pre.2,
      goes_start a.sheet.cells.now a.sheet.starts.now a.sheet.counts.now a.sheet.firsts.now a.s0 B₀ a.w a.out.now a.heads0 a.q0 a.work.now.later.now pre.1,
      pre.3,
      same_start,
    )

pub walk-look-g-requires : goal.walk-look-g-requires
walk-look-g-requires t c =
    let i = c.loop-s.invariant in
    let y = i.2 in
    (c.loop-s-test.true, y.bound.fuel_small, y.bound.c_small, i.4)

pub walk-second_side-requires : goal.walk-second_side-requires
walk-second_side-requires t c = c.look-g.ensures.past.small c.loop-s.invariant.2.bound.c_small

pub walk-step-requires : goal.walk-step-requires
walk-step-requires t c =
    let a = c.args in
    let here = c.loop-s in
    let i = here.invariant in
    let y = i.2 in
    let g = c.look-g.result in
    let lo = c.look-g.ensures.looked in
    let past = c.look-g.ensures.past in
    let lk = length here.work.calls.now in
    let ls = length here.slots in
    let ys = steady_to lk ls a.s0.fuel a.q0 here.s here.q here.work.later.now y g.s (past.stays lk ls y.bound) past.fuel_same in
    record {
      place = (lo.inside, lo.on, lo.views, ys.bound);
      rooms = (here.work.rooms.vars_room, here.work.rooms.after_fit, c.second_side.ensures.1, rest_at a.sheet.cells.now a.sheet.counts.now g c.second_side.result lo c.second_side.ensures);
    }

pub walk-loop-s-smaller-then-inner : goal.walk-loop-s-smaller-then-inner
walk-loop-s-smaller-then-inner t c =
    let a = c.args in
    let here = c.loop-s in
    let past = c.look-g.ensures.past in
    let s' = c.in-Some.t in
    let sp = c.in-Some.ensures in
    weigh_less (length a.sheet.cells.now) here.left here.left here.s.at s'.at c.loop-s-test.true (inr (refl, on-from past.further sp.fuel_value.1))

pub walk-loop-s-preserved-then-inner : goal.walk-loop-s-preserved-then-inner
walk-loop-s-preserved-then-inner t c =
    let a = c.args in
    let B₀ = arrays a.slots.now a.work.now.vars.now a.work.now.conds.now a.work.now.calls.now in
    let S = start a.s0 B₀ a.w a.out.now a.heads0 a.q0 (length a.work.now.later.now) in
    let here = c.loop-s in
    let i = here.invariant in
    let B = arrays here.slots here.work.vars.now here.work.conds.now here.work.calls.now in
    let y = i.2 in
    let g = c.look-g.result in
    let past = c.look-g.ensures.past in
    let lk = length here.work.calls.now in
    let ls = length here.slots in
    let ys = steady_to lk ls a.s0.fuel a.q0 here.s here.q here.work.later.now y g.s (past.stays lk ls y.bound) past.fuel_same in
    let s' = c.in-Some.t in
    let sp = c.in-Some.ensures in
    let new = c.step.new in
    let n = c.inner.ensures.0 c.if-inner.true in
    let es : length new.slots ≡ ls = c.step.auto.slots in
    let ec : length new.calls ≡ lk = c.step.auto.calls in (
      (es ∙ i.0.0, i.0.1),
      (i.1.0, i.1.1, i.1.2),
      steady_lengths lk (length new.calls) ls (length new.slots) a.s0.fuel a.q0 s' here.q here.work.later.now (sym ec) (sym es) (steady_to lk ls a.s0.fuel a.q0 g.s here.q here.work.later.now ys s' sp.bound sp.fuel_value.0),
      goes_step a.sheet.cells.now a.sheet.starts.now a.sheet.counts.now a.sheet.firsts.now S g.s here.heads here.left here.q here.v B here.work.later.now here.out (goes_past a.sheet.cells.now a.sheet.starts.now a.sheet.counts.now a.sheet.firsts.now S here.s here.heads here.left here.q here.v B here.work.later.now here.out i.3 g.s past) s' (arrays new.slots new.vars here.work.conds.now new.calls) (sp.step_down here.work.conds.now a.sheet.starts.now a.sheet.counts.now a.sheet.firsts.now n.0 n.1 n.2 n.3) sp.fuel_value.0,
      c.look-g.ensures.remembers,
      same_then i.5 (search rules),
    )

pub walk-next_turn-requires : goal.walk-next_turn-requires
walk-next_turn-requires t c =
    let a = c.args in
    let here = c.loop-s in
    let i = here.invariant in
    let y = i.2 in
    let g = c.look-g.result in
    let lo = c.look-g.ensures.looked in
    let past = c.look-g.ensures.past in
    let lk = length here.work.calls.now in
    let ls = length here.slots in
    let ys = steady_to lk ls a.s0.fuel a.q0 here.s here.q here.work.later.now y g.s (past.stays lk ls y.bound) past.fuel_same in (
      turn-falls {f = a.s0.fuel} c.decreases ys.fuel_is,
      (
        (steady_own lk ls a.s0.fuel a.q0 g.s here.q here.work.later.now ys, up_to i.1.1 i.0.1),
        (lo, c.inner.ensures.1 c.if-inner.false, c.look-g.ensures.remembers),
      ),
    )

pub walk-returns-in_default : goal.walk-returns-in_default
walk-returns-in_default t c =
    let a = c.args in
    let B₀ = arrays a.slots.now a.work.now.vars.now a.work.now.conds.now a.work.now.calls.now in
    let S = start a.s0 B₀ a.w a.out.now a.heads0 a.q0 (length a.work.now.later.now) in
    let here = c.loop-s in
    let i = here.invariant in
    let B = arrays here.slots here.work.vars.now here.work.conds.now here.work.calls.now in
    let g = c.look-g.result in
    let past = c.look-g.ensures.past in
    let new = c.step.new in
    let n = c.inner.ensures.0 c.if-inner.true in
    record {
      w_le_w = (tt, i.1.2);
      written_by = goes_nowhere a.sheet.cells.now a.sheet.starts.now a.sheet.counts.now a.sheet.firsts.now S g.s here.heads here.left here.q here.v B here.work.later.now here.out (goes_past a.sheet.cells.now a.sheet.starts.now a.sheet.counts.now a.sheet.firsts.now S here.s here.heads here.left here.q here.v B here.work.later.now here.out i.3 g.s past) (arrays new.slots new.vars here.work.conds.now new.calls) (c.in_default.ensures.step_down here.work.conds.now a.sheet.starts.now a.sheet.counts.now a.sheet.firsts.now n.0 n.1 n.2 n.3) NotWithin;
      same_arrays = same_then i.5 (search rules);
      remembers = c.look-g.ensures.remembers;
    }

pub walk-returns-in_err-turn : goal.walk-returns-in_err-turn
walk-returns-in_err-turn t c =
    let a = c.args in
    let B₀ = arrays a.slots.now a.work.now.vars.now a.work.now.conds.now a.work.now.calls.now in
    let S = start a.s0 B₀ a.w a.out.now a.heads0 a.q0 (length a.work.now.later.now) in
    let here = c.loop-s in
    let i = here.invariant in
    let B = arrays here.slots here.work.vars.now here.work.conds.now here.work.calls.now in
    let g = c.look-g.result in
    let past = c.look-g.ensures.past in
    let nt = c.in_err-turn.ensures in
    let p = err_from_is_err_and c.from_residual.result c.from_residual.ensures.1 in
    rw (p.1, p.2) record {
      w_le_w = (tt, nt.w_le_w.1 ∙ i.1.2);
      written_by = nt.turned S refl (goes_past a.sheet.cells.now a.sheet.starts.now a.sheet.counts.now a.sheet.firsts.now S here.s here.heads here.left here.q here.v B here.work.later.now here.out i.3 g.s past);
      same_arrays = same_then i.5 (same_then (search rules) nt.same_arrays);
      remembers = nt.remembers;
    }

pub walk-returns-in-Over : goal.walk-returns-in-Over
walk-returns-in-Over t c =
    let a = c.args in
    let B₀ = arrays a.slots.now a.work.now.vars.now a.work.now.conds.now a.work.now.calls.now in
    let S = start a.s0 B₀ a.w a.out.now a.heads0 a.q0 (length a.work.now.later.now) in
    let here = c.loop-s in
    let i = here.invariant in
    let B = arrays here.slots here.work.vars.now here.work.conds.now here.work.calls.now in
    let g = c.look-g.result in
    let past = c.look-g.ensures.past in
    let nt = rw c.in-Over.is at c.in_ok-turn.ensures in
    record {
      w_le_w = ((then i.1.0 nt.w_le_w.0.0, over nt.w_le_w.0.1 i.0.1), nt.w_le_w.1 ∙ i.1.2);
      written_by = nt.turned S refl (goes_past a.sheet.cells.now a.sheet.starts.now a.sheet.counts.now a.sheet.firsts.now S here.s here.heads here.left here.q here.v B here.work.later.now here.out i.3 g.s past);
      same_arrays = same_then i.5 (same_then (search rules) nt.same_arrays);
      remembers = nt.remembers;
    }

pub walk-down_side-requires : goal.walk-down_side-requires
walk-down_side-requires t c =
    let here = c.loop-s in
    let i = here.invariant in
    let nt = rw c.in-Into.is at c.in_ok-turn.ensures in
    let k = c.in-Into.k in
    let b = nt.stays_steady.0.bound in
    (b.lc_few, c.next_turn.new.work.rooms.conds_fit, slots-in k.t.n k.t.nv (length here.slots) b.n_room b.nv_few)

pub walk-loop-s-smaller : goal.walk-loop-s-smaller
walk-loop-s-smaller t c =
    let a = c.args in
    let here = c.loop-s in
    let g = c.look-g.result in
    let past = c.look-g.ensures.past in
    let k = c.in-Into.k in
    let nt = rw c.in-Into.is at c.in_ok-turn.ensures in
    let s' = c.in-Some-down_side.side in
    let sd = c.in-Some-down_side.ensures in
    let near = nt.stays_steady.1 in
    weigh_less (length a.sheet.cells.now) here.left k.left here.s.at s'.at c.loop-s-test.true (nearer here.left k.left here.s.at g.s.at k.e.at s'.at past.further sd.fuel_value.1 near.1)

pub walk-loop-s-preserved : goal.walk-loop-s-preserved
walk-loop-s-preserved t c =
    let a = c.args in
    let B₀ = arrays a.slots.now a.work.now.vars.now a.work.now.conds.now a.work.now.calls.now in
    let S = start a.s0 B₀ a.w a.out.now a.heads0 a.q0 (length a.work.now.later.now) in
    let here = c.loop-s in
    let i = here.invariant in
    let B = arrays here.slots here.work.vars.now here.work.conds.now here.work.calls.now in
    let y = i.2 in
    let g = c.look-g.result in
    let past = c.look-g.ensures.past in
    let lk = length here.work.calls.now in
    let ls = length here.slots in
    let ys = steady_to lk ls a.s0.fuel a.q0 here.s here.q here.work.later.now y g.s (past.stays lk ls y.bound) past.fuel_same in
    let k = c.in-Into.k in
    let nt = rw c.in-Into.is at c.in_ok-turn.ensures in
    let new = c.next_turn.new in
    let kept = c.next_turn.auto in
    let s' = c.in-Some-down_side.side in
    let sd = c.in-Some-down_side.ensures in
    let z = nt.stays_steady in
    let ec : length new.work.calls.now ≡ lk = nt.same_arrays.calls_long in (
      (i.0.0, kept.out ∙ i.0.1),
      (then i.1.0 nt.w_le_w.0.0, over nt.w_le_w.0.1 i.0.1, nt.w_le_w.1 ∙ i.1.2),
      steady_back (length new.work.calls.now) ls a.s0.fuel g.s.fuel a.q0 s' k.q new.work.later.now ys.fuel_is (steady_lengths lk (length new.work.calls.now) ls ls g.s.fuel a.q0 s' k.q new.work.later.now (sym ec) refl (steady_to lk ls g.s.fuel a.q0 k.t k.q new.work.later.now z.0 s' (sd.stays z.1.0 lk ls z.0.bound) sd.fuel_value.0)),
      toward_down a.sheet.cells.now a.sheet.starts.now a.sheet.counts.now a.sheet.firsts.now S k here.slots new.work.vars.now new.work.conds.now new.work.calls.now new.work.later.now new.out (nt.turned S refl (goes_past a.sheet.cells.now a.sheet.starts.now a.sheet.counts.now a.sheet.firsts.now S here.s here.heads here.left here.q here.v B here.work.later.now here.out i.3 g.s past)) c.down_side.new.conds s' sd.side_down sd.fuel_value.0,
      nt.remembers,
      same_then i.5 (same_then (same_then (search rules) nt.same_arrays) (search rules)),
    )

pub walk-returns-in_default-down_side : goal.walk-returns-in_default-down_side
walk-returns-in_default-down_side t c =
    let a = c.args in
    let B₀ = arrays a.slots.now a.work.now.vars.now a.work.now.conds.now a.work.now.calls.now in
    let S = start a.s0 B₀ a.w a.out.now a.heads0 a.q0 (length a.work.now.later.now) in
    let here = c.loop-s in
    let i = here.invariant in
    let B = arrays here.slots here.work.vars.now here.work.conds.now here.work.calls.now in
    let g = c.look-g.result in
    let past = c.look-g.ensures.past in
    let k = c.in-Into.k in
    let nt = rw c.in-Into.is at c.in_ok-turn.ensures in
    let new = c.next_turn.new in
    record {
      w_le_w = (tt, nt.w_le_w.1 ∙ i.1.2);
      written_by = toward_nowhere a.sheet.cells.now a.sheet.starts.now a.sheet.counts.now a.sheet.firsts.now S k here.slots new.work.vars.now new.work.conds.now new.work.calls.now new.work.later.now new.out (nt.turned S refl (goes_past a.sheet.cells.now a.sheet.starts.now a.sheet.counts.now a.sheet.firsts.now S here.s here.heads here.left here.q here.v B here.work.later.now here.out i.3 g.s past)) c.down_side.new.conds c.in_default-down_side.ensures.side_down NotWithin;
      same_arrays = same_then i.5 (same_then (same_then (search rules) nt.same_arrays) (search rules));
      remembers = nt.remembers;
    }

pub walk-returns : goal.walk-returns
walk-returns t c =
    let a = c.args in
    let S = start a.s0 (arrays a.slots.now a.work.now.vars.now a.work.now.conds.now a.work.now.calls.now) a.w a.out.now a.heads0 a.q0 (length a.work.now.later.now) in
    let here = c.loop-s in
    let i = here.invariant in
    let B = arrays here.slots here.work.vars.now here.work.conds.now here.work.calls.now in
    record {
      w_le_w = (tt, i.1.2);
      written_by = goes_stuck a.sheet.cells.now a.sheet.starts.now a.sheet.counts.now a.sheet.firsts.now S here.s here.heads here.left here.q here.v B here.work.later.now here.out i.3 c.loop-s-test.false (Err NotWithin) B here.out;
      same_arrays = i.5;
      remembers = i.4;
    }
