-- `lexer::token::name_at`: the part of the sheet is the run of name bytes, if it is not too long.
use Prim.Native.Nat.{◌+◌}
use native.Mathlib.Omega.{arith}
use lib.ListN.{get_or}
use Rattle.pcrl.specs.Bytes.{name_byte}
use Rattle.lexer.proofs.Reading.{run_fit, letter_name, letter_run, reads_long, reads_word, reads_name}
use Rattle.lexer.proofs.Runs.{run_fits}
use Rattle.lexer.proofs.token.name_at.Goals as goal

pub returns-then-n-gt-MAX_NAME-clause-reads : goal.returns-then-n-gt-MAX_NAME-clause-reads
returns-then-n-gt-MAX_NAME-clause-reads c = let a = c.args in let m = c.run_within-n in let k = letter_run a.s.now a.at m.result (omega arith) c.requires.2 m.ensures in
    reads_long a.s.now a.at (1 + m.result) (omega arith) (omega arith)

pub slice_bounds-word-end : goal.slice_bounds-word-end
slice_bounds-word-end c = let a = c.args in let m = c.run_within-n in let k = letter_run a.s.now a.at m.result (omega arith) c.requires.2 m.ensures in omega (arith, run_fits name_byte a.s.now a.at)

pub returns-in-None : goal.returns-in-None
returns-in-None c = let a = c.args in let m = c.run_within-n in let k = letter_run a.s.now a.at m.result (omega arith) c.requires.2 m.ensures in record {
  fits = run_fit name_byte a.s.now a.at (1 + m.result) _ (omega arith) (λ h. omega arith) (omega arith) (letter_name (get_or a.s.now a.at 0) c.requires.2);
  reads = reads_name a.s.now a.at (1 + m.result) (omega arith) (omega arith) c.in-None.ensures;
}

pub returns-in-Some : goal.returns-in-Some
returns-in-Some c = let a = c.args in let m = c.run_within-n in let k = letter_run a.s.now a.at m.result (omega arith) c.requires.2 m.ensures in record {
  fits = run_fit name_byte a.s.now a.at (1 + m.result) c.in-Some.cell (omega arith) (λ h. omega arith) (omega arith) (letter_name (get_or a.s.now a.at 0) c.requires.2);
  reads = reads_word a.s.now a.at (1 + m.result) (omega arith) (omega arith) c.in-Some.cell c.in-Some.ensures;
}
