-- Each way out by the question that decides it.
use native.Mathlib.Omega.{arith}
use mathlib.Core.Path.{◌≡◌, sym, ◌∙◌}
use Prim.Native.Nat.{◌≤◌}
use denote.Enum.Bare.{same_false}
use lib.ListN.{length}
use lib.Seq.{length-take-le}
use Rattle.std.proofs.lemmas.Result.{err_from_is_err_and}
use Rattle.making.proofs.MakingLaws.{refuses, made_10, made_stream, wrote_length}
use Rattle.pcrl.specs.Limits.{max_stream}
use Rattle.refusals.specs.declared.Refusal.TheVariants.{NotWithin, NoRoom}
use Rattle.refusals.specs.contracts.Refusal.{the_type}
use Rattle.making.proofs.write.Goals as goal
use Rattle.making.proofs.write.Goals.{else-eq-via-then-eq+else-stream-lt-MAX_STREAM, else-eq-via-else-eq}

pub slice_bounds-write_file-end : goal.slice_bounds-write_file-end
slice_bounds-write_file-end c =
    let a = c.args in
    let r = c.requires in
    let t = c.write_table in
    let k = t.auto.out in
    let l = wrote_length a.sheet.now a.values.now a.cells.now (length a.out.now) a.rows.now r.reads r.rooms.0 a.stream.now t.new.out r.rooms.1 c.in-Ok.n c.in-Ok.ensures in
    omega arith

pub slice_bounds-write_file-end-in-Ok : goal.slice_bounds-write_file-end-in-Ok
slice_bounds-write_file-end-in-Ok c =
    let a = c.args in
    let r = c.requires in
    let t = c.write_table in
    let k = t.auto.out in
    let l = wrote_length a.sheet.now a.values.now a.cells.now (length a.out.now) a.rows.now r.reads r.rooms.0 a.stream.now t.new.out r.rooms.1 c.in-Ok.n c.in-Ok.ensures in
    sym (length-take-le c.in-Ok.n t.new.out (omega arith))

pub write_file-requires : goal.write_file-requires
write_file-requires c =
    let a = c.args in
    let r = c.requires in
    let t = c.write_table in
    (made_stream a.sheet.now a.values.now a.cells.now (length a.out.now) a.rows.now r.reads r.rooms.0 a.stream.now t.new.out r.rooms.1 c.in-Ok.n c.in-Ok.ensures).0

pub returns-in_err-m-in-Ok : goal.returns-in_err-m-in-Ok
returns-in_err-m-in-Ok c =
    let a = c.args in
    let r = c.requires in
    let t = c.write_table in
    let p = err_from_is_err_and c.from_residual.result c.from_residual.ensures.1 in
    let e = (made_stream a.sheet.now a.values.now a.cells.now (length a.out.now) a.rows.now r.reads r.rooms.0 a.stream.now t.new.out r.rooms.1 c.in-Ok.n c.in-Ok.ensures).1 in
    rw (p.1, p.2, e) (c.in_err-m-in-Ok.ensures.answer, c.in_err-m-in-Ok.ensures.written)

pub returns-in_ok-m-in-Ok : goal.returns-in_ok-m-in-Ok
returns-in_ok-m-in-Ok c =
    let a = c.args in
    let r = c.requires in
    let t = c.write_table in
    let e = (made_stream a.sheet.now a.values.now a.cells.now (length a.out.now) a.rows.now r.reads r.rooms.0 a.stream.now t.new.out r.rooms.1 c.in-Ok.n c.in-Ok.ensures).1 in
    rw e (c.in_ok-m-in-Ok.ensures.answer, c.in_ok-m-in-Ok.ensures.written)

pub returns-else-eq : goal.returns-else-eq
returns-else-eq c =
    let a = c.args in
    let r = c.requires in
    let t = c.write_table in
    let k = t.auto.out in
    let full : c.in-Err.e ≡ NoRoom → max_stream ≤ length a.stream.now = elim c.else-eq.branch [
      | else-eq-via-then-eq+else-stream-lt-MAX_STREAM w ↦ λ z. omega arith
      | else-eq-via-else-eq w ↦ λ z. absurd (same_false the_type _ _ (sym c.eq.ensures ∙ w.if-eq.false) z)
    ] in
    refuses _ NotWithin a.out.now (made_10 a.sheet.now a.values.now a.cells.now (length a.out.now) a.rows.now r.reads r.rooms.0 a.stream.now t.new.out r.rooms.1 c.in-Err.e c.in-Err.ensures full)
