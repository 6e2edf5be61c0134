-- The key and the number of the bytes passed, and what is left of the run.
use native.Mathlib.Omega.{arith}
use mathlib.Core.Path.{sym, ◌∙◌, refl}
use lib.ListN.{length}
use Rattle.names.proofs.Runs.{shown_past}
use Rattle.names.proofs.Lengths.{length_starts, length_goes, length_ends, walked}
use Rattle.names.proofs.KeyLaws.{key_starts, key_ends, key_goes}
use Rattle.names.proofs.keys.key.Goals as goal

pub loop-e-init : goal.loop-e-init
loop-e-init c =
    let a = c.args in
    let first = c.first_byte-p in
    ((omega arith, λ h. omega arith), length_starts a.s.now a.c first.result first.ensures.0, key_starts a.s.now a.c first.result first.ensures.0)

pub returns-then-b-eq0 : goal.returns-then-b-eq0
returns-then-b-eq0 c =
    let a = c.args in
    let first = c.first_byte-p in
    let loop = c.loop-e in
    let none = sym c.letter-b.ensures ∙ c.if-b-eq0.true in
    (key_ends a.s.now a.c loop.k loop.e loop.invariant.2 none, length_ends a.s.now a.c first.result loop.e loop.invariant.1 none)

pub loop-e-preserved : goal.loop-e-preserved
loop-e-preserved c =
    let a = c.args in
    let first = c.first_byte-p in
    let loop = c.loop-e in
    let letter = c.letter-b in
    let some = c.if-b-eq0.false in
    ((omega arith, λ h. omega arith), length_goes a.s.now a.c first.result loop.e loop.invariant.1 (λ z. some (letter.ensures ∙ z)), key_goes a.s.now a.c loop.k loop.e letter.result _ _ loop.invariant.2 letter.ensures some c.mixed-k.ensures refl)

pub returns : goal.returns
returns c =
    let a = c.args in
    let first = c.first_byte-p in
    let loop = c.loop-e in
    let none = shown_past a.s.now loop.e (omega arith) in
    let size = c.saturating_sub.ensures ∙ walked (length a.s.now) first.result loop.e (omega arith) loop.invariant.0.0 loop.invariant.0.1 in
    (key_ends a.s.now a.c loop.k loop.e loop.invariant.2 none, size ∙ length_ends a.s.now a.c first.result loop.e loop.invariant.1 none)
