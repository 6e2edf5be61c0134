-- No room, refused by 1 to 10, or the walk by the file that is made.
use mathlib.Core.Path.{refl}
use native.Mathlib.Omega.{arith}
use lib.ListN.{length-take}
use Rattle.texts.proofs.Writing.{wrote_as}
use Rattle.walker.proofs.FromSheet.{sheet_refused, sheet_filed, room_short}
use Rattle.walker.proofs.walk_made.Goals as goal

pub slice_bounds-walk_table-end : goal.slice_bounds-walk_table-end
slice_bounds-walk_table-end c =
    let m = c.make_table in
    let f = sheet_filed _ _ _ _ m.new.out c.in-Ok.ensures.answer c.in-Ok.ensures.written in
    omega (arith, f.fits, m.auto.out)

pub slice_bounds-walk_table-end-in-Ok : goal.slice_bounds-walk_table-end-in-Ok
slice_bounds-walk_table-end-in-Ok c =
    let m = c.make_table in
    let f = sheet_filed _ _ _ _ m.new.out c.in-Ok.ensures.answer c.in-Ok.ensures.written in
    omega (arith, length-take c.in-Ok.n m.new.out, f.fits, m.auto.out)

pub returns-in-Ok : goal.returns-in-Ok
returns-in-Ok c =
    let m = c.make_table in
    let f = sheet_filed _ _ _ _ m.new.out c.in-Ok.ensures.answer c.in-Ok.ensures.written in
    wrote_as _ _ _ _ _ _ f.text c.walk_table.ensures

pub returns-in-NoRoom : goal.returns-in-NoRoom
returns-in-NoRoom c = (refl, room_short _ _ (rw c.in-NoRoom.is at c.in-Err.ensures.answer))

pub returns-in_default : goal.returns-in_default
returns-in_default c = wrote_as _ _ _ _ _ _ (sheet_refused _ _ _ c.in-Err.ensures.answer c.in_default.not-NoRoom) c.put_refused.ensures
