-- `printer::delivery::tokens_apart`: the lexer accepts exactly what passes questions 1 to 4, and its cells are watched.
use native.Mathlib.Omega.{arith}
use lib.ListN.{length-take}
use Rattle.printer.proofs.Tokened.{lexed_no, lexed_room, lexed_apart}
use Rattle.printer.proofs.delivery.tokens_apart.Goals as goal

pub returns-in_default : goal.returns-in_default
returns-in_default c = lexed_no c.args.text.now c.lex.new.out c.in_default.field-0 c.in_default.ensures

pub slice_bounds-cells-end : goal.slice_bounds-cells-end
slice_bounds-cells-end c = lexed_room c.args.text.now c.lex.new.out c.in-Ok.n c.in-Ok.ensures

pub slice_bounds-apart-end : goal.slice_bounds-apart-end
slice_bounds-apart-end c = omega (arith, length-take c.in-Ok.n c.lex.new.out, lexed_room c.args.text.now c.lex.new.out c.in-Ok.n c.in-Ok.ensures)

pub returns : goal.returns
returns c = lexed_apart c.args.text.now c.lex.new.out c.in-Ok.n c.in-Ok.ensures c.apart.result (c.apart.ensures c.args.text.now)
