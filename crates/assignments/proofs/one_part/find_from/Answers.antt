-- A block that fails is gone over, one that passes is counted: what is left of k behind j follows from what was asked. Once, the search goes on by rows.
use native.Mathlib.Omega.{arith}
use Prim.Native.Nat.{ℕ, ◌+◌, ◌-◌, ◌/◌, ◌≤◌, ◌<◌}
use mathlib.Core.Path.{◌≡◌, refl, sym, ◌∙◌, ap}
use mathlib.Core.List.{List}
use mathlib.Core.Bool.{Bool, true, false}
use lib.ListN.{length, get_or}
use Rattle.evaluation.specs.Known.{Alike}
use Rattle.assignments.specs.Places.{digits_of}
use Rattle.assignments.specs.Conditions.{env, Finds}
use Rattle.assignments.specs.Parting.{part_met}
use Rattle.assignments.proofs.Passing.{going_start, going_skip, going_on, going_found, none_left}
use Rattle.assignments.proofs.Blocks.{blocked, accepted}
use Rattle.assignments.proofs.InRows.{rows_found, rows_past}
use Rattle.assignments.proofs.one_part.find_from.Goals as goal

pub first_row-start-requires : goal.first_row-start-requires
first_row-start-requires c = let q = c.requires in (q.1.1.1.0, q.1.1.1.1)

pub loop-j-init : goal.loop-j-init
loop-j-init c = (omega arith, λ l e r. going_start _ _ _ _)

pub find_rows-requires : goal.find_rows-requires
find_rows-requires c = c.requires

pub returns-in-Ok : goal.returns-in-Ok
returns-in-Ok c = let a = c.args in let l = c.loop-j in let acc : ℕ → Bool = λ i. part_met a.space.now.s.now a.space.now.funcs.now a.c.now.froms a.c.now.ends a.c.now.blocks a.c.now.count (env a.space.now.p a.space.now.params.at (digits_of a.space.now.z.at i)) in
    let r = c.in-Ok in (r.ensures.0, (tt, λ lv e part. rows_found acc a.to a.from a.k l.j l.left (l.invariant.1 lv e part) r.at (r.ensures.1.1.1 lv e part)))

pub loop-j-smaller-then-start-j : goal.loop-j-smaller-then-start-j
loop-j-smaller-then-start-j c = let u = c.in-Err.ensures.1.0 in let v = c.loop-j-test.true in let w = c.if-start-j.true in omega arith

pub loop-j-preserved-then-start-j : goal.loop-j-preserved-then-start-j
loop-j-preserved-then-start-j c = let a = c.args in let l = c.loop-j in let acc : ℕ → Bool = λ i. part_met a.space.now.s.now a.space.now.funcs.now a.c.now.froms a.c.now.ends a.c.now.blocks a.c.now.count (env a.space.now.p a.space.now.params.at (digits_of a.space.now.z.at i)) in
    let r = c.in-Err in (omega (arith, r.ensures.1.1.0, l.invariant.0), λ lv e part. rows_past acc a.to a.from a.k l.j l.left (l.invariant.1 lv e part) r.r (r.ensures.1.1.1 lv e part))

pub values-requires : goal.values-requires
values-requires c = λ i h. (c.requires.1.1.1.0 i h).0

pub environment-e-requires : goal.environment-e-requires
environment-e-requires c = (c.requires.0, c.requires.1.0)

pub test-d-requires : goal.test-d-requires
test-d-requires c = c.requires.1.1.0

pub next-requires : goal.next-requires
next-requires c = (c.requires.1.1.1.1.1.0, (omega (arith, c.requires.1.1.1.1.1.1), omega (arith, c.requires.1.1.1.1.0)))

pub overflow_sub-m : goal.overflow_sub-m
overflow_sub-m c = omega (arith, c.min-r.ensures, c.next.ensures.0)

pub overflow_add-result : goal.overflow_add-result
overflow_add-result c = omega (arith, c.min-r.ensures, c.requires.1.1.1.1.0)

pub returns-then-left-m : goal.returns-then-left-m
unfolding Finds
returns-then-left-m c = let a = c.args in let l = c.loop-j in let acc : ℕ → Bool = λ i. part_met a.space.now.s.now a.space.now.funcs.now a.c.now.froms a.c.now.ends a.c.now.blocks a.c.now.count (env a.space.now.p a.space.now.params.at (digits_of a.space.now.z.at i)) in (
  omega (arith, c.min-r.ensures, c.requires.1.1.1.1.0),
  (
    tt,
    λ lv e part.
        let positive : (i : ℕ) → i < length a.space.now.z.at → 0 < get_or a.space.now.z.at i 0 = λ i h. (c.requires.1.1.1.0 i (omega arith)).0 in
        let few : a.space.now.p ≤ length a.space.now.params.at = omega (arith, c.requires.0) in
        let alike : Alike c.environment-e.result.at (env a.space.now.p a.space.now.params.at (digits_of a.space.now.z.at l.j)) = λ v. c.environment-e.ensures v ∙ ap (λ (u : List ℕ). get_or (env a.space.now.p a.space.now.params.at u) v 0) c.values.ensures in
        let tested = c.test-d.ensures (λ i k. (part i k).standing) in
        let taken : (i : ℕ) → l.j ≤ i → i < c.min-r.result → acc i ≡ true = λ i u v.
        let same : i / a.g ≡ l.j / a.g = c.next.ensures.1 i u (omega (arith, c.min-r.ensures)) in
        accepted a.space.now.s.now a.space.now.funcs.now a.c.now.froms a.c.now.ends a.c.now.blocks a.c.now.count a.space.now.p a.g a.space.now.z.at a.space.now.params.at few positive part lv e c.environment-e.result.at l.j alike c.test-d.result tested c.if-d-eq0.true i same in
        going_found acc a.to a.from a.k l.j l.left c.min-r.result (l.j + l.left) (omega (arith, c.next.ensures.0, c.min-r.ensures)) (omega (arith, c.min-r.ensures)) taken (omega arith) refl (l.invariant.1 lv e part),
  ),
)

pub loop-j-smaller-then-d-eq0 : goal.loop-j-smaller-then-d-eq0
loop-j-smaller-then-d-eq0 c = omega (arith, c.min-r.ensures, c.next.ensures.0)

pub loop-j-preserved-then-d-eq0 : goal.loop-j-preserved-then-d-eq0
loop-j-preserved-then-d-eq0 c = let a = c.args in let l = c.loop-j in let acc : ℕ → Bool = λ i. part_met a.space.now.s.now a.space.now.funcs.now a.c.now.froms a.c.now.ends a.c.now.blocks a.c.now.count (env a.space.now.p a.space.now.params.at (digits_of a.space.now.z.at i)) in (
  omega arith,
  λ lv e part.
      let positive : (i : ℕ) → i < length a.space.now.z.at → 0 < get_or a.space.now.z.at i 0 = λ i h. (c.requires.1.1.1.0 i (omega arith)).0 in
      let few : a.space.now.p ≤ length a.space.now.params.at = omega (arith, c.requires.0) in
      let alike : Alike c.environment-e.result.at (env a.space.now.p a.space.now.params.at (digits_of a.space.now.z.at l.j)) = λ v. c.environment-e.ensures v ∙ ap (λ (u : List ℕ). get_or (env a.space.now.p a.space.now.params.at u) v 0) c.values.ensures in
      let tested = c.test-d.ensures (λ i k. (part i k).standing) in
      let taken : (i : ℕ) → l.j ≤ i → i < c.min-r.result → acc i ≡ true = λ i u v.
      let same : i / a.g ≡ l.j / a.g = c.next.ensures.1 i u (omega (arith, c.min-r.ensures)) in
      accepted a.space.now.s.now a.space.now.funcs.now a.c.now.froms a.c.now.ends a.c.now.blocks a.c.now.count a.space.now.p a.g a.space.now.z.at a.space.now.params.at few positive part lv e c.environment-e.result.at l.j alike c.test-d.result tested c.if-d-eq0.true i same in
      going_on acc a.to a.from a.k l.j l.left c.min-r.result (l.left - (c.min-r.result - l.j)) (omega (arith, c.next.ensures.0, c.min-r.ensures)) (omega (arith, c.min-r.ensures)) taken (omega (arith, c.if-left-m.false)) refl (l.invariant.1 lv e part),
)

pub next-j-requires : goal.next-j-requires
next-j-requires c = (omega (arith, c.wide_block.ensures.0, c.if-d-eq0.false), (c.wide_block.ensures.1, omega (arith, c.requires.1.1.1.1.0)))

pub loop-j-smaller : goal.loop-j-smaller
loop-j-smaller c = omega (arith, c.next-j.ensures.0)

pub loop-j-preserved : goal.loop-j-preserved
loop-j-preserved c = let a = c.args in let l = c.loop-j in let acc : ℕ → Bool = λ i. part_met a.space.now.s.now a.space.now.funcs.now a.c.now.froms a.c.now.ends a.c.now.blocks a.c.now.count (env a.space.now.p a.space.now.params.at (digits_of a.space.now.z.at i)) in (
  omega arith,
  λ lv e part.
      let positive : (i : ℕ) → i < length a.space.now.z.at → 0 < get_or a.space.now.z.at i 0 = λ i h. (c.requires.1.1.1.0 i (omega arith)).0 in
      let few : a.space.now.p ≤ length a.space.now.params.at = omega (arith, c.requires.0) in
      let alike : Alike c.environment-e.result.at (env a.space.now.p a.space.now.params.at (digits_of a.space.now.z.at l.j)) = λ v. c.environment-e.ensures v ∙ ap (λ (u : List ℕ). get_or (env a.space.now.p a.space.now.params.at u) v 0) c.values.ensures in
      let tested = c.test-d.ensures (λ i k. (part i k).standing) in
      let none : (i : ℕ) → l.j ≤ i → i < c.next-j.result → acc i ≡ false = λ i u v.
      let same : i / c.test-d.result ≡ l.j / c.test-d.result = ap (λ (x : ℕ). i / x) (sym c.wide_block.ensures.0) ∙ c.next-j.ensures.1 i u v ∙ ap (λ (x : ℕ). l.j / x) c.wide_block.ensures.0 in
      blocked a.space.now.s.now a.space.now.funcs.now a.c.now.froms a.c.now.ends a.c.now.blocks a.c.now.count a.space.now.p a.g a.space.now.z.at a.space.now.params.at few positive part c.environment-e.result.at l.j alike 0 c.test-d.result tested (omega (arith, c.if-d-eq0.false)) i same in
      going_skip acc a.to a.from a.k l.j l.left c.next-j.result (omega (arith, c.next-j.ensures.0)) none (l.invariant.1 lv e part),
)

pub returns : goal.returns
returns c = let a = c.args in let l = c.loop-j in let acc : ℕ → Bool = λ i. part_met a.space.now.s.now a.space.now.funcs.now a.c.now.froms a.c.now.ends a.c.now.blocks a.c.now.count (env a.space.now.p a.space.now.params.at (digits_of a.space.now.z.at i)) in (
  tt,
  (l.invariant.0, λ lv e part. none_left acc a.to a.from a.k l.j l.left c.loop-j-test.false (l.invariant.1 lv e part)),
)
