-- What is found in one round is found in each.
use native.Mathlib.Omega.{arith}
use native.Mathlib.Nat.{mod-le}
use Rattle.std.specs.Prelude.{Ok, Err, Option, IfSome}
use Rattle.std.proofs.lemmas.Option.{IfSome_then}
use Rattle.std.proofs.lemmas.Result.{err_from_is_err_and}
use Prim.Native.Nat.{ℕ, ◌-◌, ◌*◌, ◌/◌, ◌≤◌, ◌<◌}
use mathlib.Core.Path.{refl, ap}
use mathlib.Core.List.{List}
use lib.ListN.{length, get_or}
use native.Mathlib.Nat.{mul-le-mul_left, mul-le-mul_right, mul-div-le, div-mul-le_self}
use Rattle.assignments.specs.Parting.{Standing, Gapped}
use Rattle.assignments.specs.declared.Gap.{Gap}
use Rattle.assignments.proofs.Periods.{search_whole, search_first, search_none, search_past, search_later}
use Rattle.assignments.proofs.rounds.find_rounds.Goals as goal

gap_known : (s : List ℕ) (p : ℕ) (sizes froms ends blocks : List ℕ) (n round : ℕ) (o : Option Gap)
    → IfSome o (λ t. ((0 < t.behind) × ((t.behind ≤ t.before) × (t.before ≤ 65536))) × ((blocks : List ℕ) → ((i : ℕ) → i < n → Standing s froms ends i) → Gapped s p sizes froms ends blocks n round t.before t.behind))
    → ((i : ℕ) → i < n → Standing s froms ends i) → IfSome o (λ t. Gapped s p sizes froms ends blocks n round t.before t.behind)
gap_known s p sizes froms ends blocks n round o g st = IfSome_then o g (λ t h. h.1 blocks st)

pub gap_of-t-requires : goal.gap_of-t-requires
gap_of-t-requires c = let q = c.requires in (q.0, (q.1.1.0, q.1.1.1.0))

pub find_once-requires : goal.find_once-requires
find_once-requires c = let q = c.requires in (q.0, (q.1.0, (q.1.1.0, (q.1.1.1.0, (q.1.1.1.1.0, (q.1.1.1.1.1.1.0, (q.1.1.1.1.1.1.1, IfSome_then c.gap_of-t.result c.gap_of-t.ensures (λ t h. h.0))))))))

pub returns-in-Ok : goal.returns-in-Ok
returns-in-Ok c = (
  omega (arith, c.in-Ok.ensures.0),
  (
    tt,
    λ l low e z part above. let a = c.args in
        let positive : (i : ℕ) → i < length a.space.now.z.at → 0 < get_or a.space.now.z.at i 0 = λ i h. (c.requires.1.1.1.0 i (omega arith)).0 in
        let few : a.space.now.p ≤ length a.space.now.params.at = omega (arith, c.requires.0) in
        let gapped = gap_known a.space.now.s.now a.space.now.p a.space.now.z.at a.c.now.froms a.c.now.ends a.c.now.blocks a.c.now.count a.round c.gap_of-t.result c.gap_of-t.ensures (λ i k. (part i k).standing) in
        search_first a.space.now.s.now a.space.now.funcs.now a.c.now.froms a.c.now.ends a.c.now.blocks a.c.now.count a.space.now.p low a.space.now.z.at a.space.now.params.at few positive above a.round z a.k c.in-Ok.at (c.in-Ok.ensures.1.1 l (low - a.space.now.p) e z part gapped),
  ),
)

pub returns-then-m-eq0 : goal.returns-then-m-eq0
returns-then-m-eq0 c = (
  tt,
  (
    c.in-Err.ensures.1.0,
    λ l low e z part above. let a = c.args in
        let positive : (i : ℕ) → i < length a.space.now.z.at → 0 < get_or a.space.now.z.at i 0 = λ i h. (c.requires.1.1.1.0 i (omega arith)).0 in
        let few : a.space.now.p ≤ length a.space.now.params.at = omega (arith, c.requires.0) in
        let gapped = gap_known a.space.now.s.now a.space.now.p a.space.now.z.at a.c.now.froms a.c.now.ends a.c.now.blocks a.c.now.count a.round c.gap_of-t.result c.gap_of-t.ensures (λ i k. (part i k).standing) in
        search_none a.space.now.s.now a.space.now.funcs.now a.c.now.froms a.c.now.ends a.c.now.blocks a.c.now.count a.space.now.p low a.space.now.z.at a.space.now.params.at few positive above a.round z a.k c.in-Err.left (c.in-Err.ensures.1.1 l (low - a.space.now.p) e z part gapped) (a.k - c.in-Err.left) refl (omega arith),
  ),
)

pub returns-then-round-total : goal.returns-then-round-total
returns-then-round-total c = (
  tt,
  (
    c.in-Err.ensures.1.0,
    λ l low e z part above. let a = c.args in
        let positive : (i : ℕ) → i < length a.space.now.z.at → 0 < get_or a.space.now.z.at i 0 = λ i h. (c.requires.1.1.1.0 i (omega arith)).0 in
        let few : a.space.now.p ≤ length a.space.now.params.at = omega (arith, c.requires.0) in
        let gapped = gap_known a.space.now.s.now a.space.now.p a.space.now.z.at a.c.now.froms a.c.now.ends a.c.now.blocks a.c.now.count a.round c.gap_of-t.result c.gap_of-t.ensures (λ i k. (part i k).standing) in
        search_whole a.space.now.s.now a.space.now.funcs.now a.c.now.froms a.c.now.ends a.c.now.blocks a.c.now.count a.space.now.p low a.space.now.z.at a.space.now.params.at few positive above a.round z a.k (Err c.in-Err.left) (c.in-Err.ensures.1.1 l (low - a.space.now.p) e z part gapped) (omega (arith, c.block_size-total.ensures.0)),
  ),
)

pub nonzero_div-rounds : goal.nonzero_div-rounds
nonzero_div-rounds c = omega (arith, c.requires.1.1.1.1.1.0)

pub overflow_mul-result : goal.overflow_mul-result
overflow_mul-result c = omega (arith, mul-le-mul_left (c.args.k - c.in-Err.left) (let h : (c.block_size-total.result / c.args.round) ≤ c.args.k / (c.args.k - c.in-Err.left) = omega arith in h), mul-div-le c.args.k (c.args.k - c.in-Err.left))

pub overflow_sub-result : goal.overflow_sub-result
overflow_sub-result c = omega (arith, mul-le-mul_left (c.args.k - c.in-Err.left) (let h : (c.block_size-total.result / c.args.round) ≤ c.args.k / (c.args.k - c.in-Err.left) = omega arith in h), mul-div-le c.args.k (c.args.k - c.in-Err.left))

pub returns-then-rounds-q : goal.returns-then-rounds-q
returns-then-rounds-q c = (
  tt,
  (
    omega arith,
    λ l low e z part above. let a = c.args in
        let positive : (i : ℕ) → i < length a.space.now.z.at → 0 < get_or a.space.now.z.at i 0 = λ i h. (c.requires.1.1.1.0 i (omega arith)).0 in
        let few : a.space.now.p ≤ length a.space.now.params.at = omega (arith, c.requires.0) in
        let gapped = gap_known a.space.now.s.now a.space.now.p a.space.now.z.at a.c.now.froms a.c.now.ends a.c.now.blocks a.c.now.count a.round c.gap_of-t.result c.gap_of-t.ensures (λ i k. (part i k).standing) in
        search_past a.space.now.s.now a.space.now.funcs.now a.c.now.froms a.c.now.ends a.c.now.blocks a.c.now.count a.space.now.p low a.space.now.z.at a.space.now.params.at few positive above a.round z a.k c.in-Err.left (c.in-Err.ensures.1.1 l (low - a.space.now.p) e z part gapped) (a.k - c.in-Err.left) refl (omega arith) (c.block_size-total.result / a.round) (ap (λ (x : ℕ). x / a.round) c.block_size-total.ensures.0) (omega arith),
  ),
)

pub find_once-requires-2 : goal.find_once-requires-2
find_once-requires-2 c = let q = c.requires in (q.0, (q.1.0, (q.1.1.0, (q.1.1.1.0, (q.1.1.1.1.0, (q.1.1.1.1.1.1.0, (q.1.1.1.1.1.1.1, IfSome_then c.gap_of-t.result c.gap_of-t.ensures (λ t h. h.0))))))))

pub returns-in_err-at : goal.returns-in_err-at
returns-in_err-at c = let p = err_from_is_err_and c.from_residual.result c.from_residual.ensures.1 in rw (p.1, p.2) (
  tt,
  (
    omega (arith, c.in_err-at.ensures.1.0, mod-le c.args.k (c.args.k - c.in-Err.left)),
    λ l low e z part above. let a = c.args in
        let positive : (i : ℕ) → i < length a.space.now.z.at → 0 < get_or a.space.now.z.at i 0 = λ i h. (c.requires.1.1.1.0 i (omega arith)).0 in
        let few : a.space.now.p ≤ length a.space.now.params.at = omega (arith, c.requires.0) in
        let gapped = gap_known a.space.now.s.now a.space.now.p a.space.now.z.at a.c.now.froms a.c.now.ends a.c.now.blocks a.c.now.count a.round c.gap_of-t.result c.gap_of-t.ensures (λ i k. (part i k).standing) in
        absurd (search_later a.space.now.s.now a.space.now.funcs.now a.c.now.froms a.c.now.ends a.c.now.blocks a.c.now.count a.space.now.p low a.space.now.z.at a.space.now.params.at few positive above a.round z a.k c.in-Err.left (c.in-Err.ensures.1.1 l (low - a.space.now.p) e z part gapped) (a.k - c.in-Err.left) refl (omega arith) (c.block_size-total.result / a.round) (ap (λ (x : ℕ). x / a.round) c.block_size-total.ensures.0) (omega arith) (Err _) (c.in_err-at.ensures.1.1 l (low - a.space.now.p) e z part gapped)),
  ),
)

pub overflow_mul-result-2 : goal.overflow_mul-result-2
overflow_mul-result-2 c = let h : c.args.k / (c.args.k - c.in-Err.left) ≤ (c.block_size-total.result / c.args.round) = omega arith in let q : c.args.k / (c.args.k - c.in-Err.left) * c.args.round ≤ 65536 = omega (arith, mul-le-mul_right c.args.round h, div-mul-le_self c.block_size-total.result c.args.round, c.block_size-total.ensures.1) in omega arith

pub overflow_add-result : goal.overflow_add-result
overflow_add-result c = let h : c.args.k / (c.args.k - c.in-Err.left) ≤ (c.block_size-total.result / c.args.round) = omega arith in let q : c.args.k / (c.args.k - c.in-Err.left) * c.args.round ≤ 65536 = omega (arith, mul-le-mul_right c.args.round h, div-mul-le_self c.block_size-total.result c.args.round, c.block_size-total.ensures.1) in omega (arith, c.in_ok-at.ensures.0)

pub returns : goal.returns
returns c = let h : c.args.k / (c.args.k - c.in-Err.left) ≤ (c.block_size-total.result / c.args.round) = omega arith in let q : c.args.k / (c.args.k - c.in-Err.left) * c.args.round ≤ 65536 = omega (arith, mul-le-mul_right c.args.round h, div-mul-le_self c.block_size-total.result c.args.round, c.block_size-total.ensures.1) in (
  omega (arith, c.in_ok-at.ensures.0),
  (
    tt,
    λ l low e z part above. let a = c.args in
        let positive : (i : ℕ) → i < length a.space.now.z.at → 0 < get_or a.space.now.z.at i 0 = λ i h. (c.requires.1.1.1.0 i (omega arith)).0 in
        let few : a.space.now.p ≤ length a.space.now.params.at = omega (arith, c.requires.0) in
        let gapped = gap_known a.space.now.s.now a.space.now.p a.space.now.z.at a.c.now.froms a.c.now.ends a.c.now.blocks a.c.now.count a.round c.gap_of-t.result c.gap_of-t.ensures (λ i k. (part i k).standing) in
        search_later a.space.now.s.now a.space.now.funcs.now a.c.now.froms a.c.now.ends a.c.now.blocks a.c.now.count a.space.now.p low a.space.now.z.at a.space.now.params.at few positive above a.round z a.k c.in-Err.left (c.in-Err.ensures.1.1 l (low - a.space.now.p) e z part gapped) (a.k - c.in-Err.left) refl (omega arith) (c.block_size-total.result / a.round) (ap (λ (x : ℕ). x / a.round) c.block_size-total.ensures.0) (omega arith) (Ok c.in_ok-at.at) (c.in_ok-at.ensures.1.1 l (low - a.space.now.p) e z part gapped),
  ),
)
