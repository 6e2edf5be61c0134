-- The conditions in two parts if they come apart, or as one.
use native.Mathlib.Omega.{arith}
use Prim.Native.Nat.{ℕ, ◌-◌, ◌<◌}
use lib.ListN.{length, get_or}
use Rattle.assignments.proofs.Counter.{per_sum_length}
use Rattle.assignments.proofs.Blocks.{product_pos, all_true}
use Rattle.assignments.proofs.Separating.{all_part, all_above}
use Rattle.assignments.proofs.Searching.{search_all}
use Rattle.assignments.proofs.find.Goals as goal

pub find_any-requires : goal.find_any-requires
find_any-requires c = c.requires.1.1.1

pub returns-then-c-eq0 : goal.returns-then-c-eq0
returns-then-c-eq0 c = λ ready. c.find_any.ensures _ (λ i. all_true c.args.c.now.count _ (λ m h. absurd (let z = c.if-c-eq0.true in omega arith)))

pub grain-g-requires : goal.grain-g-requires
grain-g-requires c = c.requires.1.1.1

pub grain-round-requires : goal.grain-round-requires
grain-round-requires c = c.requires.1.1.1

pub split-requires : goal.split-requires
split-requires c = let q = c.requires in (q.0, (q.1.1.0, q.1.1.1))

pub find_parted-requires : goal.find_parted-requires
find_parted-requires c = let q = c.requires in let a = c.args in let len = per_sum_length a.sizes _ c.well_formed.1.1.1.1.0 in
    let positive : (i : ℕ) → i < length a.sizes.at → 0 < get_or a.sizes.at i 0 = λ i h. (c.requires.1.1.1 i (omega arith)).0 in
    (q.0, (q.1.0, (q.1.1.0, (q.1.1.1, (c.grain-round.ensures.1, (omega (arith, c.grain-round.ensures.0, product_pos (a.c.now.low - a.p) a.sizes.at positive), (omega (arith, c.grain-g.ensures.0, product_pos (a.c.now.reach - a.p) a.sizes.at positive), (c.grain-g.ensures.1, c.in-Some.ensures.0))))))))

pub returns-in-Some : goal.returns-in-Some
returns-in-Some c = λ ready. let a = c.args in c.find_parted.ensures a.c.now.blocks a.c.now.reach a.c.now.low c.grain-g.ensures.0 c.grain-round.ensures.0 ready (c.in-Some.ensures.1 a.c.now.reach a.c.now.low ready)

pub find_rounds-requires : goal.find_rounds-requires
find_rounds-requires c = let q = c.requires in let a = c.args in let len = per_sum_length a.sizes _ c.well_formed.1.1.1.1.0 in
    let positive : (i : ℕ) → i < length a.sizes.at → 0 < get_or a.sizes.at i 0 = λ i h. (c.requires.1.1.1 i (omega arith)).0 in
    (q.0, (q.1.0, (q.1.1.0, (q.1.1.1, (c.grain-round.ensures.1, (omega (arith, c.grain-round.ensures.0, product_pos (a.c.now.low - a.p) a.sizes.at positive), (omega (arith, c.grain-g.ensures.0, product_pos (a.c.now.reach - a.p) a.sizes.at positive), c.grain-g.ensures.1)))))))

pub returns : goal.returns
returns c = λ ready. let a = c.args in let len = per_sum_length a.sizes _ c.well_formed.1.1.1.1.0 in
    let positive : (i : ℕ) → i < length a.sizes.at → 0 < get_or a.sizes.at i 0 = λ i h. (c.requires.1.1.1 i (omega arith)).0 in
    search_all a.s.now a.funcs.now a.c.now.froms a.c.now.ends a.c.now.blocks a.c.now.count a.p a.c.now.reach a.c.now.low a.sizes.at a.params.at positive ready a.k c.find_rounds.result (c.find_rounds.ensures.1.1 (a.c.now.reach - a.p) a.c.now.low c.grain-g.ensures.0 c.grain-round.ensures.0 (all_part a.s.now a.p a.sizes.at a.c.now.froms a.c.now.ends a.c.now.blocks a.c.now.count a.c.now.reach a.c.now.low positive ready c.grain-g.result c.grain-g.ensures.0) (all_above a.s.now a.p a.sizes.at a.c.now.froms a.c.now.ends a.c.now.blocks a.c.now.count a.c.now.reach a.c.now.low positive ready))
