-- The bytes passed and what is left of the run are the whole name.
use native.Mathlib.Omega.{arith}
use mathlib.Core.Path.{sym, ◌∙◌}
use lib.ListN.{length}
use Rattle.names.proofs.Runs.{shown_past}
use Rattle.names.proofs.Lengths.{length_starts, length_goes, length_ends, walked}
use Rattle.names.proofs.find.name_length.Goals as goal

pub loop-e-init : goal.loop-e-init
loop-e-init c = ((omega arith, λ h. omega arith), length_starts c.args.s.now c.args.c c.first_byte-p.result c.first_byte-p.ensures.0)

pub returns-then-letter-eq0 : goal.returns-then-letter-eq0
returns-then-letter-eq0 c = length_ends c.args.s.now c.args.c c.first_byte-p.result c.loop-e.e c.loop-e.invariant.1 (sym c.letter.ensures ∙ c.if-letter-eq0.true)

pub loop-e-preserved : goal.loop-e-preserved
loop-e-preserved c = ((omega arith, λ h. omega arith), length_goes c.args.s.now c.args.c c.first_byte-p.result c.loop-e.e c.loop-e.invariant.1 (λ z. c.if-letter-eq0.false (c.letter.ensures ∙ z)))

pub returns : goal.returns
returns c =
    let s = c.args.s.now in
    let p = c.first_byte-p.result in
    let here = c.loop-e in
    c.saturating_sub.ensures ∙ walked (length s) p here.e (omega arith) here.invariant.0.0 here.invariant.0.1 ∙ length_ends s c.args.c p here.e here.invariant.1 (shown_past s here.e (omega arith))
