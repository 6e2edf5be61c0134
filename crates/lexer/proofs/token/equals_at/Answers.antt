-- `lexer::token::equals_at`: the second byte decides between the two marks that begin with `=`.
use mathlib.Core.Path.{◌≡◌, refl, sym, ◌∙◌}
use mathlib.Core.List.{[], ◌∷◌}
use native.Mathlib.Decide.{ℕ_discrete}
use native.Mathlib.Omega.{arith}
use Prim.Native.Nat.{◌+◌}
use lib.ListN.{get_or}
use Rattle.std.specs.Prelude.{Some}
use Rattle.pcrl.specs.Tests.{same?}
use Rattle.lexer.specs.Cells.{first_long_mark, long_marks}
use Rattle.lexer.specs.Classes.{sign_cell}
use Rattle.lexer.proofs.FirstToken.{no_pair_from, reads_equals, reads_pair, pair_fits}
use Rattle.lexer.proofs.token.equals_at.Goals as goal

pub returns-then-peek-eq61 : goal.returns-then-peek-eq61
unfolding sign_cell long_marks same? ℕ_discrete
returns-then-peek-eq61 c = let a = c.args in
    let first = c.requires.1 in
    let second : get_or a.s.now (a.at + 1) 0 ≡ 61 = sym c.peek.ensures ∙ c.if-peek-eq61.true in
    let e : Some 131 ≡ sign_cell first_long_mark long_marks (get_or a.s.now a.at 0 ∷ get_or a.s.now (a.at + 1) 0 ∷ []) = rw (first, second) in record {
      fits = pair_fits a.s.now a.at (omega arith) 131 e;
      reads = reads_pair a.s.now a.at (omega arith) 131 e;
    }

pub returns-else-peek-eq61 : goal.returns-else-peek-eq61
unfolding long_marks
returns-else-peek-eq61 c = let a = c.args in
    let first = c.requires.1 in record {
      fits = omega arith;
      reads = reads_equals a.s.now a.at (omega arith)
          (no_pair_from (get_or a.s.now a.at 0) (get_or a.s.now (a.at + 1) 0) 61 61 refl first (λ q. c.if-peek-eq61.false (c.peek.ensures ∙ q)))
          first;
    }
