-- A block that the early conditions accept, and in it a place that the late ones accept.
use native.Mathlib.Omega.{arith}
use Rattle.std.specs.Prelude.{Ok, Err}
use Rattle.std.proofs.lemmas.Result.{err_from_is_err_and}
use Prim.Native.Nat.{ℕ, ◌-◌, ◌/◌, ◌≤◌, ◌<◌, min}
use mathlib.Core.Path.{refl, ◌∙◌, ap}
use lib.ListN.{length, get_or}
use native.Mathlib.Nat.{mul-le-mul}
use Rattle.assignments.proofs.TwoTests.{passed_few, passed_fits}
use Rattle.assignments.proofs.Separating.{early_part, late_part, early_above}
use Rattle.assignments.proofs.Searching.{parts_counted, parts_none, parts_found, parts_past}
use Rattle.assignments.proofs.two_parts.find_parted.Goals as goal

pub returns-in-Ok : goal.returns-in-Ok
returns-in-Ok c = λ blocks reach low ge re ready apart. let a = c.args in
    let positive : (i : ℕ) → i < length a.space.now.z.at → 0 < get_or a.space.now.z.at i 0 = λ i h. (c.requires.1.1.1.0 i (omega arith)).0 in
    let few : a.space.now.p ≤ length a.space.now.params.at = omega (arith, c.requires.0) in
    absurd (parts_counted a.space.now.s.now a.space.now.funcs.now a.c.now.froms a.c.now.ends blocks a.c.now.count a.space.now.p reach low a.space.now.z.at a.space.now.params.at positive ready few a.t apart c.grain-b.result c.grain-b.ensures.0 _ (c.in-Ok.ensures.1.1 (reach - a.space.now.p) ge (late_part a.space.now.s.now a.space.now.p a.space.now.z.at a.c.now.froms a.c.now.ends blocks a.c.now.count reach low positive ready a.t apart a.g ge)))

pub returns-then-m-eq0 : goal.returns-then-m-eq0
returns-then-m-eq0 c = λ blocks reach low ge re ready apart. let a = c.args in
    let positive : (i : ℕ) → i < length a.space.now.z.at → 0 < get_or a.space.now.z.at i 0 = λ i h. (c.requires.1.1.1.0 i (omega arith)).0 in
    let few : a.space.now.p ≤ length a.space.now.params.at = omega (arith, c.requires.0) in
    parts_none a.space.now.s.now a.space.now.funcs.now a.c.now.froms a.c.now.ends blocks a.c.now.count a.space.now.p reach low a.space.now.z.at a.space.now.params.at positive ready few a.t apart c.grain-b.result c.grain-b.ensures.0 a.k c.in-Err.left (c.in-Err.ensures.1.1 (reach - a.space.now.p) ge (late_part a.space.now.s.now a.space.now.p a.space.now.z.at a.c.now.froms a.c.now.ends blocks a.c.now.count reach low positive ready a.t apart a.g ge)) (c.grain-b.result - c.in-Err.left) refl (omega arith)

pub overflow_mul-q : goal.overflow_mul-q
overflow_mul-q c = let h : c.min.result ≤ 65536 = omega (arith, c.min.ensures, c.block_size-total.ensures.1) in omega (arith, mul-le-mul h c.grain-b.ensures.1)

pub find_rounds-requires : goal.find_rounds-requires
find_rounds-requires c = (c.requires.0, (c.requires.1.0, (c.requires.1.1.0, (c.requires.1.1.1.0, (c.requires.1.1.1.1.0, (c.requires.1.1.1.1.1.0, (c.requires.1.1.1.1.1.1.1.1.0, c.requires.1.1.1.1.1.1.1.1.1)))))))

pub find_in-requires-in-Ok-find_rounds : goal.find_in-requires-in-Ok-find_rounds
find_in-requires-in-Ok-find_rounds c = (c.requires.0, (c.requires.1.0, (c.requires.1.1.0, (c.requires.1.1.1.0, (c.grain-b.ensures.1, (c.requires.1.1.1.1.1.1.0, c.requires.1.1.1.1.1.1.1.0))))))

pub returns-in_err-at-in-Ok-find_rounds : goal.returns-in_err-at-in-Ok-find_rounds
returns-in_err-at-in-Ok-find_rounds c = let p = err_from_is_err_and c.from_residual.result c.from_residual.ensures.1 in rw (p.1, p.2) (
    λ blocks reach low ge re ready apart. let a = c.args in
    let positive : (i : ℕ) → i < length a.space.now.z.at → 0 < get_or a.space.now.z.at i 0 = λ i h. (c.requires.1.1.1.0 i (omega arith)).0 in
    let few : a.space.now.p ≤ length a.space.now.params.at = omega (arith, c.requires.0) in
    absurd (parts_found a.space.now.s.now a.space.now.funcs.now a.c.now.froms a.c.now.ends blocks a.c.now.count a.space.now.p reach low a.space.now.z.at a.space.now.params.at positive ready few a.t apart c.grain-b.result c.grain-b.ensures.0 a.k c.in-Err.left (c.in-Err.ensures.1.1 (reach - a.space.now.p) ge (late_part a.space.now.s.now a.space.now.p a.space.now.z.at a.c.now.froms a.c.now.ends blocks a.c.now.count reach low positive ready a.t apart a.g ge)) (c.grain-b.result - c.in-Err.left) refl (omega arith) c.min.result (c.min.ensures ∙ ap (λ (x : ℕ). min (a.k / (c.grain-b.result - c.in-Err.left)) x) c.block_size-total.ensures.0) c.in-Ok-find_rounds.first (c.in-Ok-find_rounds.ensures.1.1 apart.level low apart.grain_is re (early_part a.space.now.s.now a.space.now.p a.space.now.z.at a.c.now.froms a.c.now.ends blocks a.c.now.count reach low positive ready a.t apart) (early_above a.space.now.s.now a.space.now.p a.space.now.z.at a.c.now.froms a.c.now.ends blocks a.c.now.count reach low positive ready a.t apart)) (Err _) (c.in_err-at-in-Ok-find_rounds.ensures.1.1 (reach - a.space.now.p) ge (late_part a.space.now.s.now a.space.now.p a.space.now.z.at a.c.now.froms a.c.now.ends blocks a.c.now.count reach low positive ready a.t apart a.g ge))))

pub returns-in_ok-at-in-Ok-find_rounds : goal.returns-in_ok-at-in-Ok-find_rounds
returns-in_ok-at-in-Ok-find_rounds c = λ blocks reach low ge re ready apart. let a = c.args in
    let positive : (i : ℕ) → i < length a.space.now.z.at → 0 < get_or a.space.now.z.at i 0 = λ i h. (c.requires.1.1.1.0 i (omega arith)).0 in
    let few : a.space.now.p ≤ length a.space.now.params.at = omega (arith, c.requires.0) in
    parts_found a.space.now.s.now a.space.now.funcs.now a.c.now.froms a.c.now.ends blocks a.c.now.count a.space.now.p reach low a.space.now.z.at a.space.now.params.at positive ready few a.t apart c.grain-b.result c.grain-b.ensures.0 a.k c.in-Err.left (c.in-Err.ensures.1.1 (reach - a.space.now.p) ge (late_part a.space.now.s.now a.space.now.p a.space.now.z.at a.c.now.froms a.c.now.ends blocks a.c.now.count reach low positive ready a.t apart a.g ge)) (c.grain-b.result - c.in-Err.left) refl (omega arith) c.min.result (c.min.ensures ∙ ap (λ (x : ℕ). min (a.k / (c.grain-b.result - c.in-Err.left)) x) c.block_size-total.ensures.0) c.in-Ok-find_rounds.first (c.in-Ok-find_rounds.ensures.1.1 apart.level low apart.grain_is re (early_part a.space.now.s.now a.space.now.p a.space.now.z.at a.c.now.froms a.c.now.ends blocks a.c.now.count reach low positive ready a.t apart) (early_above a.space.now.s.now a.space.now.p a.space.now.z.at a.c.now.froms a.c.now.ends blocks a.c.now.count reach low positive ready a.t apart)) (Ok c.in_ok-at-in-Ok-find_rounds.at) (c.in_ok-at-in-Ok-find_rounds.ensures.1.1 (reach - a.space.now.p) ge (late_part a.space.now.s.now a.space.now.p a.space.now.z.at a.c.now.froms a.c.now.ends blocks a.c.now.count reach low positive ready a.t apart a.g ge))

pub overflow_mul-result : goal.overflow_mul-result
overflow_mul-result c = record { fits = passed_fits c.grain-b.result c.min.result c.in-Err-find_rounds.rest c.args.k (c.grain-b.result - c.in-Err.left) _ (omega (arith, c.min.ensures)) c.ranges.k.fits }

pub overflow_sub-result-in-Err-find_rounds : goal.overflow_sub-result-in-Err-find_rounds
overflow_sub-result-in-Err-find_rounds c = passed_few c.grain-b.result c.min.result c.in-Err-find_rounds.rest c.args.k (c.grain-b.result - c.in-Err.left) (omega (arith, c.min.ensures))

pub returns-in-Err-find_rounds : goal.returns-in-Err-find_rounds
returns-in-Err-find_rounds c = λ blocks reach low ge re ready apart. let a = c.args in
    let positive : (i : ℕ) → i < length a.space.now.z.at → 0 < get_or a.space.now.z.at i 0 = λ i h. (c.requires.1.1.1.0 i (omega arith)).0 in
    let few : a.space.now.p ≤ length a.space.now.params.at = omega (arith, c.requires.0) in
    parts_past a.space.now.s.now a.space.now.funcs.now a.c.now.froms a.c.now.ends blocks a.c.now.count a.space.now.p reach low a.space.now.z.at a.space.now.params.at positive ready few a.t apart c.grain-b.result c.grain-b.ensures.0 a.k c.in-Err.left (c.in-Err.ensures.1.1 (reach - a.space.now.p) ge (late_part a.space.now.s.now a.space.now.p a.space.now.z.at a.c.now.froms a.c.now.ends blocks a.c.now.count reach low positive ready a.t apart a.g ge)) (c.grain-b.result - c.in-Err.left) refl (omega arith) c.min.result (c.min.ensures ∙ ap (λ (x : ℕ). min (a.k / (c.grain-b.result - c.in-Err.left)) x) c.block_size-total.ensures.0) c.in-Err-find_rounds.rest (c.in-Err-find_rounds.ensures.1.1 apart.level low apart.grain_is re (early_part a.space.now.s.now a.space.now.p a.space.now.z.at a.c.now.froms a.c.now.ends blocks a.c.now.count reach low positive ready a.t apart) (early_above a.space.now.s.now a.space.now.p a.space.now.z.at a.c.now.froms a.c.now.ends blocks a.c.now.count reach low positive ready a.t apart))
