-- `lexer::token::numeral_at`: the part of the sheet is the run of digits, if it is not too long.
use Prim.Native.Nat.{◌≤◌}
use Rattle.std.proofs.lemmas.Option.{IfSome_then}
use native.Mathlib.Omega.{arith}
use Rattle.pcrl.specs.Bytes.{digit}
use Rattle.lexer.proofs.Reading.{digit_run, reads_many, reads_digits, digits_long}
use Rattle.lexer.proofs.Runs.{run_fits, run_more}
use Rattle.lexer.proofs.token.numeral_at.Goals as goal

pub returns-then-n-gt-MAX_DIGITS-clause-reads : goal.returns-then-n-gt-MAX_DIGITS-clause-reads
returns-then-n-gt-MAX_DIGITS-clause-reads c = let a = c.args in let m = c.run_within-n in let k = digit_run a.s.now a.at 4 m.result m.ensures in
    reads_many a.s.now a.at m.result (omega arith) (omega arith)

pub slice_bounds-numeral-end : goal.slice_bounds-numeral-end
slice_bounds-numeral-end c = let a = c.args in let m = c.run_within-n in let k = digit_run a.s.now a.at 4 m.result m.ensures in omega (arith, run_fits digit a.s.now a.at)

pub returns-clause-fits : goal.returns-clause-fits
returns-clause-fits c = let a = c.args in let m = c.run_within-n in let k = digit_run a.s.now a.at 4 m.result m.ensures in
    let z : 1 ≤ m.result = omega (arith, run_more digit a.s.now a.at (omega arith) c.requires.1) in
    let e = digits_long a.s.now a.at m.result (omega arith) in
    IfSome_then c.numeral.result c.numeral.ensures.long (λ x p. record { least = omega arith; most = omega (arith, run_fits digit a.s.now a.at) })

pub returns-clause-reads : goal.returns-clause-reads
returns-clause-reads c = let a = c.args in let m = c.run_within-n in let k = digit_run a.s.now a.at 4 m.result m.ensures in
    reads_digits a.s.now a.at m.result (omega arith) c.numeral.result (c.numeral.ensures.reads a.s.now)
