-- `lexer::token::long_mark_at`: what `long_mark` found of the two bytes is the mark that the definition finds; where it found none and `=` does not stand there, no mark does.
use mathlib.Core.List.{[], ◌∷◌}
use mathlib.Core.Path.{◌∙◌, ap₂}
use Prim.Native.Nat.{ℕ}
use native.Mathlib.Omega.{arith}
use Rattle.lexer.specs.Cells.{first_long_mark, long_marks}
use Rattle.lexer.specs.Classes.{sign_cell}
use Rattle.lexer.proofs.FirstToken.{reads_no_pair, reads_pair, pair_fits}
use Rattle.lexer.proofs.token.long_mark_at.Goals as goal

pub returns-then-a-eq61 : goal.returns-then-a-eq61
returns-then-a-eq61 c = c.equals_at.ensures

pub returns-in_err-cell-clause-reads : goal.returns-in_err-cell-clause-reads
returns-in_err-cell-clause-reads c = let a = c.args in
    let e = c.in_err-cell.ensures ∙ ap₂ (λ (x y : ℕ). sign_cell first_long_mark long_marks (x ∷ y ∷ [])) c.peek-a.ensures c.peek.ensures in
    rw c.from_residual.ensures (reads_no_pair a.s.now a.at (omega arith) e c.requires.1 (λ q. c.if-a-eq61.false (c.peek-a.ensures ∙ q)))

pub returns : goal.returns
returns c = let a = c.args in
    let e = c.in_ok-cell.ensures ∙ ap₂ (λ (x y : ℕ). sign_cell first_long_mark long_marks (x ∷ y ∷ [])) c.peek-a.ensures c.peek.ensures in record {
      fits = pair_fits a.s.now a.at (omega arith) c.in_ok-cell.cell e;
      reads = reads_pair a.s.now a.at (omega arith) c.in_ok-cell.cell e;
    }
