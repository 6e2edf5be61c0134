-- No name is the first of a key yet; then name by name from the last, the first of its key so far as the next one; then the numbers.
use Prim.Native.Nat.{◌-◌, ◌+◌}
use mathlib.Core.Path.{◌≡◌, refl, sym, ◌∙◌, subst}
use native.Mathlib.Omega.{arith}
use lib.ListN.{get_or, set, length-set}
use Rattle.names.specs.NameKinds.{total_of}
use Rattle.names.specs.NameList.{max_names, first_place}
use Rattle.names.proofs.ListLaws.{cleared_more, ListedFrom, listed_start, listed_more, listed_kinds}
use Rattle.names.proofs.keys.put_names.Goals as goal

pub overflow_add-n : goal.overflow_add-n
overflow_add-n c = omega (arith, c.requires)

pub overflow_add-n-2 : goal.overflow_add-n-2
overflow_add-n-2 c = omega (arith, c.requires)

pub overflow_add-n-3 : goal.overflow_add-n-3
overflow_add-n-3 c = omega (arith, c.requires)

pub loop-j-init : goal.loop-j-init
loop-j-init c = (c.requires.2, omega arith, λ k h. absurd (omega arith))

pub overflow_add-declared : goal.overflow_add-declared
overflow_add-declared c = omega (arith, c.loop-j.invariant.0, c.loop-j.invariant.1, c.loop-j-test.true)

pub offset_bounds-declared-j : goal.offset_bounds-declared-j
offset_bounds-declared-j c = omega (arith, c.loop-j.invariant.0, c.loop-j.invariant.1, c.loop-j-test.true)

pub bounds-declared-j : goal.bounds-declared-j
bounds-declared-j c = omega (arith, c.loop-j.invariant.0, c.loop-j.invariant.1, c.loop-j-test.true)

pub loop-j-preserved : goal.loop-j-preserved
loop-j-preserved c =
    let loop = c.loop-j in
    let n = c.short.ensures (omega (arith, c.requires)) in
    (length-set loop.declared _ _ ∙ loop.invariant.0, omega (arith, c.loop-j-test.true), cleared_more loop.declared _ loop.j _ c.short.result refl (omega (arith, loop.invariant.0, loop.invariant.1, c.loop-j-test.true)) n loop.invariant.2)

pub loop-i-init : goal.loop-i-init
loop-i-init c =
    let loop = c.loop-j in
    (omega arith, listed_start c.args.s.now c.args.names.now loop.declared _ loop.invariant.0 (λ k h. loop.invariant.2 k (omega (arith, c.loop-j-test.false))))

pub offset_bounds-names-i : goal.offset_bounds-names-i
offset_bounds-names-i c = omega (arith, c.requires, c.loop-i.invariant.0, c.loop-i.invariant.1.many, c.loop-i-test.true)

pub bounds-names-i : goal.bounds-names-i
bounds-names-i c = omega (arith, c.requires, c.loop-i.invariant.0, c.loop-i.invariant.1.many, c.loop-i-test.true)

pub overflow_add-p : goal.overflow_add-p
overflow_add-p c = omega (arith, c.wide-p.ensures.1)

pub offset_bounds-names-i-in-loop-i : goal.offset_bounds-names-i-in-loop-i
offset_bounds-names-i-in-loop-i c = omega (arith, c.requires, c.loop-i.invariant.0, c.loop-i.invariant.1.many, c.loop-i-test.true)

pub bounds-names-i-in-loop-i : goal.bounds-names-i-in-loop-i
bounds-names-i-in-loop-i c = omega (arith, c.requires, c.loop-i.invariant.0, c.loop-i.invariant.1.many, c.loop-i-test.true)

pub offset_bounds-declared-i : goal.offset_bounds-declared-i
offset_bounds-declared-i c = omega (arith, c.requires, c.loop-i.invariant.0, c.loop-i.invariant.1.many, c.loop-i-test.true)

pub bounds-declared-i : goal.bounds-declared-i
bounds-declared-i c = omega (arith, c.requires, c.loop-i.invariant.0, c.loop-i.invariant.1.many, c.loop-i-test.true)

pub offset_bounds-declared-p : goal.offset_bounds-declared-p
offset_bounds-declared-p c = omega (arith, c.wide-p.ensures.1)

pub bounds-declared-p : goal.bounds-declared-p
bounds-declared-p c =
    let loop = c.loop-i in
    let few = length-set loop.declared (loop.i - 1) (get_or c.args.names.now (loop.i - 1) 0) in
    omega (arith, c.wide-p.ensures.1, loop.invariant.1.many)

pub overflow_add-declared-in-loop-i : goal.overflow_add-declared-in-loop-i
overflow_add-declared-in-loop-i c = omega (arith, c.requires, c.loop-i.invariant.0, c.loop-i.invariant.1.many, c.loop-i-test.true)

pub offset_bounds-declared-i-in-loop-i : goal.offset_bounds-declared-i-in-loop-i
offset_bounds-declared-i-in-loop-i c = omega (arith, c.requires, c.loop-i.invariant.0, c.loop-i.invariant.1.many, c.loop-i-test.true)

pub bounds-declared-i-in-loop-i : goal.bounds-declared-i-in-loop-i
bounds-declared-i-in-loop-i c =
    let loop = c.loop-i in
    let few = length-set loop.declared (loop.i - 1) (get_or c.args.names.now (loop.i - 1) 0) in
    omega (arith, c.requires, loop.invariant.0, loop.invariant.1.many)

pub offset_bounds-declared-p-in-loop-i : goal.offset_bounds-declared-p-in-loop-i
offset_bounds-declared-p-in-loop-i c = omega (arith, c.wide-p.ensures.1)

pub bounds-declared-p-in-loop-i : goal.bounds-declared-p-in-loop-i
bounds-declared-p-in-loop-i c =
    let loop = c.loop-i in
    let wide = c.wide-p in
    let l = set loop.declared (loop.i - 1) (get_or c.args.names.now (loop.i - 1) 0) in
    let few = length-set loop.declared (loop.i - 1) (get_or c.args.names.now (loop.i - 1) 0) in
    let few' = length-set l (max_names + (loop.i - 1)) (get_or l (first_place + wide.result) 0) in
    omega (arith, wide.ensures.1, loop.invariant.1.many)

pub loop-i-preserved : goal.loop-i-preserved
loop-i-preserved c =
    let loop = c.loop-i in
    let test = c.loop-i-test.true in
    let key = c.key-d in
    let wide = c.wide-p in
    let place = c.short-in-loop-i in
    let listed = subst (ListedFrom c.args.s.now c.args.names.now loop.declared (total_of c.args.kinds)) (let z : loop.i ≡ loop.i - 1 + 1 = omega arith in z) loop.invariant.1 in
    (omega (arith, loop.invariant.0), listed_more c.args.s.now c.args.names.now loop.declared (total_of c.args.kinds) (loop.i - 1) (get_or c.args.names.now (loop.i - 1) 0) key.result.key (max_names + (loop.i - 1)) (first_place + wide.result) place.result (omega (arith, c.requires)) (omega (arith, loop.invariant.0, test)) refl key.ensures.0 (omega (arith, wide.ensures)) refl (omega (arith, wide.ensures.0)) (place.ensures (omega (arith, c.requires, loop.invariant.0))) listed)

pub shape_of-declared : goal.shape_of-declared
shape_of-declared c =
    let loop = c.loop-i in
    let a = c.short-2 in
    let b = c.short-3 in
    let d = c.short-4 in
    let e = c.short-5 in
    let l₁ = set loop.declared 144 a.result in
    let l₂ = set l₁ 145 b.result in
    let l₃ = set l₂ 146 d.result in
    length-set l₃ 147 e.result ∙ (length-set l₂ 146 _ ∙ (length-set l₁ 145 _ ∙ (length-set loop.declared 144 _ ∙ (loop.invariant.1.many ∙ sym c.requires.2))))

pub returns : goal.returns
returns c =
    let loop = c.loop-i in
    let a = c.short-2 in
    let b = c.short-3 in
    let d = c.short-4 in
    let e = c.short-5 in
    let k = c.args.kinds in
    let listed = subst (ListedFrom c.args.s.now c.args.names.now loop.declared (total_of k)) (let y = c.loop-i-test.false in let z : loop.i ≡ 0 = omega arith in z) loop.invariant.1 in
    let r = listed_kinds c.args.s.now c.args.names.now loop.declared k a.result b.result d.result e.result (omega (arith, c.requires)) (omega (arith, c.requires)) (a.ensures (omega (arith, c.requires))) (b.ensures (omega (arith, c.requires))) (d.ensures (omega (arith, c.requires))) (e.ensures (omega (arith, c.requires))) listed in
    record { keyed = r.0; kinds = r.1; names = r.2 }
