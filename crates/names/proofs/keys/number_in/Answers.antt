-- The names of the key are gone through in order: those passed are others.
use mathlib.Core.Path.{◌≡◌, sym, ◌∙◌, ap}
use Prim.Native.Nat.{ℕ, ◌+◌}
use native.Mathlib.Omega.{arith}
use lib.ListN.{get_or}
use lib.Seq.{get_or-drop}
use Rattle.laws.specs.Says.{said_yes, said_no}
use Rattle.names.specs.NameCells.{name_at}
use Rattle.names.specs.NameList.{max_names, first_place, names_in, nexts_in, firsts_in}
use Rattle.names.proofs.KeyLaws.{along_starts, next_after, along_goes, along_finds, along_ends}
use Rattle.names.proofs.ListLaws.{names_few, nexts_few}
use Rattle.names.proofs.keys.number_in.Goals as goal

pub overflow_add-end : goal.overflow_add-end
overflow_add-end c =
    let few = names_few c.args.s.now c.args.declared.now (c.args.lo + c.args.count) c.requires in
    omega arith

pub loop-i-init : goal.loop-i-init
loop-i-init c =
    let a = c.args in
    let l = a.declared.now in
    let key = c.key-d in
    let wide = c.wide in
    let first : c.cell-i.result ≡ get_or (firsts_in l) key.result.key 0 = c.cell-i.ensures.0 ∙ (ap (λ (m : ℕ). get_or l (first_place + m) 0) wide.ensures.0 ∙ sym (get_or-drop first_place l key.result.key 0)) in
    along_starts a.s.now (names_in l) (nexts_in l) (firsts_in l) a.lo a.count c.requires (name_at a.s.now a.c) key.result.key c.cell-i.result key.ensures.0 (omega arith) first

pub found_at-requires : goal.found_at-requires
found_at-requires c =
    let few = names_few c.args.s.now c.args.declared.now (c.args.lo + c.args.count) c.requires in
    (omega arith, omega arith, c.key-d.ensures.1)

pub overflow_sub-result : goal.overflow_sub-result
overflow_sub-result c =
    let a = c.args in
    let l = a.declared.now in
    let found = said_yes c.found_at.result c.found_at.ensures c.if-found_at.true in
    omega (arith, found.0)

pub returns-then-found_at : goal.returns-then-found_at
returns-then-found_at c =
    let a = c.args in
    let l = a.declared.now in
    let loop = c.loop-i in
    let found = said_yes c.found_at.result c.found_at.ensures c.if-found_at.true in
    record { most = omega (arith, found.0); number = along_finds a.s.now (names_in l) (nexts_in l) (firsts_in l) a.lo a.count c.requires (name_at a.s.now a.c) loop.i (omega arith) loop.invariant found }

pub overflow_add-i : goal.overflow_add-i
overflow_add-i c =
    let few = names_few c.args.s.now c.args.declared.now (c.args.lo + c.args.count) c.requires in
    omega arith

pub offset_bounds-declared-i : goal.offset_bounds-declared-i
offset_bounds-declared-i c =
    let few = names_few c.args.s.now c.args.declared.now (c.args.lo + c.args.count) c.requires in
    omega arith

pub bounds-declared-i : goal.bounds-declared-i
bounds-declared-i c =
    let few = nexts_few c.args.s.now c.args.declared.now (c.args.lo + c.args.count) c.requires in
    omega arith

pub loop-i-smaller : goal.loop-i-smaller
loop-i-smaller c =
    let a = c.args in
    let l = a.declared.now in
    let loop = c.loop-i in
    let next : c.wide-i.result ≡ get_or (nexts_in l) loop.i 0 = c.wide-i.ensures.0 ∙ sym (get_or-drop max_names l loop.i 0) in
    let more = next_after a.s.now (names_in l) (nexts_in l) (firsts_in l) a.lo a.count c.requires (name_at a.s.now a.c) loop.i (omega arith) loop.invariant c.wide-i.result next in
    omega arith

pub loop-i-preserved : goal.loop-i-preserved
loop-i-preserved c =
    let a = c.args in
    let l = a.declared.now in
    let loop = c.loop-i in
    let next : c.wide-i.result ≡ get_or (nexts_in l) loop.i 0 = c.wide-i.ensures.0 ∙ sym (get_or-drop max_names l loop.i 0) in
    let found = c.found_at in
    along_goes a.s.now (names_in l) (nexts_in l) (firsts_in l) a.lo a.count c.requires (name_at a.s.now a.c) loop.i (omega arith) loop.invariant c.wide-i.result next (said_no found.result found.ensures c.if-found_at.false)

pub returns : goal.returns
returns c =
    let a = c.args in
    let l = a.declared.now in
    let loop = c.loop-i in
    record { most = omega arith; number = along_ends a.s.now (names_in l) (nexts_in l) (firsts_in l) a.lo a.count c.requires (name_at a.s.now a.c) loop.i (omega arith) loop.invariant }
