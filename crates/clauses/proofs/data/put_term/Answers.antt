-- The loop's invariant: what is left to write follows from the whole, node by node; the text of a term's bytes is that of the term.
use native.Mathlib.Omega.{arith}
use mathlib.Core.Path.{refl, ◌∙◌}
use lib.ListN.{get_or}
use Rattle.lettering.specs.Named.{funcs_place, vars_place}
use Rattle.texts.proofs.Writing.{wrote_fits}
use Rattle.clauses.proofs.TermSteps.{going_start, going_on, going_last, going_end, gone_term}
use Rattle.clauses.proofs.data.put_term.Goals as goal

pub loop-i-init : goal.loop-i-init
loop-i-init c = let a = c.args in (omega arith, (omega arith, (c.requires.0, (refl, going_start a.s.now a.funcs.now (get_or a.l.now funcs_place 0) (get_or a.l.now vars_place 0) a.from a.out.now a.at))))

pub turn-t-requires : goal.turn-t-requires
turn-t-requires c = wrote_fits _ _ _ _ _ c.put_node-q.ensures

pub shape_of-out-then-place-eq-NONE : goal.shape_of-out-then-place-eq-NONE
shape_of-out-then-place-eq-NONE c = c.turn-t.ensures.at_in_bounds.1 ∙ c.put_node-q.ensures.same ∙ c.loop-i.invariant.1.1.1.0

pub returns-then-place-eq-NONE : goal.returns-then-place-eq-NONE
returns-then-place-eq-NONE c =
    let a = c.args in
    let now = c.loop-i in
    let w = c.put_node-q.ensures in
    let t = c.turn-t.ensures in
    let j = c.next_node-i.ensures in
    let same = t.at_in_bounds.1 ∙ w.same ∙ now.invariant.1.1.1.0 in
    record {
      within = record { fits = omega (arith, t.at_in_bounds.0, w.same, now.invariant.1.1.1.0); same = same; inside = omega arith };
      puts = λ S Γ D d rest known short right lettered e.
          let g = going_last a.s.now a.funcs.now (get_or a.l.now funcs_place 0) (get_or a.l.now vars_place 0) a.from a.out.now a.at now.i now.out now.p now.opens now.place now.invariant.1.1.1.1 now.invariant.1.1.0 _ _ _ _ _ _ _ _ (omega arith) refl j w t.turns c.if-place-eq-NONE.true in
          let z = gone_term a.s.now a.funcs.now (get_or a.l.now funcs_place 0) (get_or a.l.now vars_place 0) a.from a.out.now a.at S Γ D d rest known short right lettered.funcs_are lettered.vars_are e c.next_node-i.result _ _ g in
          record { wrote = z.0; left = z.1 };
    }

pub loop-i-smaller : goal.loop-i-smaller
loop-i-smaller c = let j = c.next_node-i.ensures in omega arith

pub loop-i-preserved : goal.loop-i-preserved
loop-i-preserved c =
    let a = c.args in
    let now = c.loop-i in
    let w = c.put_node-q.ensures in
    let t = c.turn-t.ensures in
    let j = c.next_node-i.ensures in
    let same = t.at_in_bounds.1 ∙ w.same ∙ now.invariant.1.1.1.0 in (
      omega arith,
      (
        omega arith,
        (
          omega (arith, t.at_in_bounds.0, t.at_in_bounds.1),
          (same, going_on a.s.now a.funcs.now (get_or a.l.now funcs_place 0) (get_or a.l.now vars_place 0) a.from a.out.now a.at now.i now.out now.p now.opens now.place now.invariant.1.1.1.1 now.invariant.1.1.0 _ _ _ _ _ _ _ _ (omega arith) refl j w t.turns c.if-place-eq-NONE.false),
        ),
      ),
    )

pub returns : goal.returns
returns c =
    let a = c.args in
    let now = c.loop-i in
    record {
      within = record { fits = omega arith; same = now.invariant.1.1.1.0; inside = omega arith };
      puts = λ S Γ D d rest known short right lettered e.
          let g = going_end a.s.now a.funcs.now (get_or a.l.now funcs_place 0) (get_or a.l.now vars_place 0) a.from a.out.now a.at now.i now.out now.p now.opens now.place now.invariant.1.1.1.1 now.invariant.1.1.0 (omega arith) in
          let z = gone_term a.s.now a.funcs.now (get_or a.l.now funcs_place 0) (get_or a.l.now vars_place 0) a.from a.out.now a.at S Γ D d rest known short right lettered.funcs_are lettered.vars_are e now.i _ _ g in
          record { wrote = z.0; left = z.1 };
    }
