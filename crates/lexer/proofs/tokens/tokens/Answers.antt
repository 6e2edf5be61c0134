-- `lexer::tokens::tokens`: the tokens of the cells written and those behind the cursor are the sheet's.
use mathlib.Core.List.{map}
use mathlib.Core.Path.{◌≡◌, refl, subst⁻¹}
use Prim.Native.Nat.{ℕ, ◌+◌}
use native.Mathlib.Omega.{arith}
use lib.ListN.{take, set, length-set}
use Rattle.pcrl.specs.Tokens.{tokens}
use Rattle.lexer.specs.Cells.{cell_token}
use Rattle.lexer.proofs.Scan.{from, glue, glue_nil, all_written, none_written, one_more}
use Rattle.lexer.proofs.tokens.tokens.Goals as goal

pub loop-cursor-init : goal.loop-cursor-init
unfolding tokens
loop-cursor-init c = (omega arith, omega arith, refl, glue_nil (tokens c.args.sheet.now))

pub returns-then-sheet-at : goal.returns-then-sheet-at
returns-then-sheet-at c = record { count_in_bounds = omega arith; lexes = all_written c.args.sheet.now c.loop-cursor.out c.loop-cursor.cursor.at c.loop-cursor.n c.skip-cursor.result.at c.loop-cursor.invariant.3 c.skip-cursor.ensures (omega arith) (omega arith) }

pub returns-in_default-clause-lexes : goal.returns-in_default-clause-lexes
returns-in_default-clause-lexes c = none_written c.args.sheet.now c.loop-cursor.out c.loop-cursor.cursor.at c.loop-cursor.n c.skip-cursor.result.at c.loop-cursor.invariant.3 c.skip-cursor.ensures (omega arith) c.token_at.result c.token_at.ensures.reads c.in_default.is

pub loop-cursor-preserved : goal.loop-cursor-preserved
loop-cursor-preserved c = let sheet = c.args.sheet.now in let out = set c.loop-cursor.out c.loop-cursor.n c.in-Some.t.cell in let f = c.in-Some.ensures.fits in (
  omega (arith, f.least, f.most),
  omega (arith, f.least, f.most),
  simp length-set c.loop-cursor.invariant.2,
  subst⁻¹ (λ (k : ℕ). tokens sheet ≡ glue (map (cell_token sheet) (take (c.loop-cursor.n + 1) out)) (from sheet k)) c.past-cursor.ensures
      (one_more sheet c.loop-cursor.out c.loop-cursor.cursor.at c.loop-cursor.n c.skip-cursor.result.at c.loop-cursor.invariant.3 c.skip-cursor.ensures (omega arith) c.token_at.result c.token_at.ensures.reads c.in-Some.t c.in-Some.is c.in-Some.ensures.fits.least (omega arith)),
)
