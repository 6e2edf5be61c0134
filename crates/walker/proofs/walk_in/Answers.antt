-- Refused by 12 to 14, or the walk's lines.
use borrow.Author.Rules.{rules}
use native.Mathlib.Omega.{arith}
use lib.ListN.{length-take}
use Rattle.texts.proofs.Writing.{wrote_as}
use Rattle.stepping.proofs.Loading.{load_refused, load_accepted, load_count}
use Rattle.walker.proofs.Printing.{made_refused, made_lines}
use Rattle.walker.proofs.walk_in.Goals as goal

pub returns-in-Err : goal.returns-in-Err
returns-in-Err c = wrote_as _ _ _ _ _ _ (made_refused _ _ (load_refused _ c.load.new.stream _ c.in-Err.ensures)) c.put_refused.ensures

pub slice_bounds-s-end : goal.slice_bounds-s-end
slice_bounds-s-end c = load_count _ c.load.new.stream _ c.in-Ok.ensures

pub slice_bounds-s-end-in-Ok : goal.slice_bounds-s-end-in-Ok
slice_bounds-s-end-in-Ok c = omega (arith, length-take c.in-Ok.f.count c.load.new.stream, load_count _ c.load.new.stream _ c.in-Ok.ensures)

pub put_walk-requires : goal.put_walk-requires
put_walk-requires c = (omega (arith, length-take c.in-Ok.f.count c.load.new.stream, c.load.auto.stream, c.requires.1), search rules)

pub returns-in-Ok : goal.returns-in-Ok
returns-in-Ok c =
    let (T, checked, (right, x)) = load_accepted _ c.load.new.stream c.in-Ok.f c.in-Ok.ensures in
    wrote_as _ _ _ _ _ _ (made_lines _ T checked) (c.put_walk.ensures T right x (c.start.ensures T right x))
