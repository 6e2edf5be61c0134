-- Refused by 12 to 14, or the text delivered.
use native.Mathlib.Omega.{arith}
use lib.ListN.{length-take}
use Rattle.std.proofs.lemmas.Result.{err_from_is_err_and}
use Rattle.refusals.specs.declared.Refusal.TheVariants.{NoText}
use Rattle.stepping.proofs.Loading.{load_refused, load_accepted, load_count}
use Rattle.printer.proofs.Seventeen.{delivered_refused, delivered_as, printed_refused, not_free}
use Rattle.printer.proofs.delivery.print_in.Goals as goal

pub returns-in_err-f : goal.returns-in_err-f
returns-in_err-f c =
    let a = c.args in
    let p = err_from_is_err_and c.from_residual.result c.from_residual.ensures.1 in
    let d = delivered_refused _ a.out.now _ (printed_refused a.file.now _ _ (load_refused _ c.load.new.stream _ c.in_err-f.ensures)) in
    rw (p.1, p.2) record { answer = d.0; written = d.1 }

pub slice_bounds-put_sheet-end : goal.slice_bounds-put_sheet-end
slice_bounds-put_sheet-end c = load_count _ c.load.new.stream _ c.in_ok-f.ensures

pub slice_bounds-put_sheet-end-2 : goal.slice_bounds-put_sheet-end-2
slice_bounds-put_sheet-end-2 c = omega (arith, length-take c.in_ok-f.f.count c.load.new.stream, load_count _ c.load.new.stream _ c.in_ok-f.ensures)

pub put_sheet-requires : goal.put_sheet-requires
put_sheet-requires c = omega (arith, c.requires.1, length-take c.in_ok-f.f.count c.load.new.stream, c.load.auto.stream)

pub returns-in_default : goal.returns-in_default
returns-in_default c =
    let a = c.args in
    let f = c.in_ok-f.f in
    let (U, checked, (right, x)) = load_accepted _ c.load.new.stream f c.in_ok-f.ensures in
    let lacks = c.in_default.ensures.wrote U right x in
    let d = delivered_as a.file.now a.out.now U _ _ checked (delivered_refused _ a.out.now NoText (not_free U right _ lacks.0)) in
    record { answer = d.0; written = d.1 }

pub returns : goal.returns
returns c =
    let a = c.args in
    let f = c.in_ok-f.f in
    let (U, checked, (right, x)) = load_accepted _ c.load.new.stream f c.in_ok-f.ensures in
    let put = c.in-Ok.ensures.wrote U right x in
    let d = delivered_as a.file.now a.out.now U _ _ checked (c.deliver.ensures U right put.1.text x.equations_are put.0) in
    record { answer = d.0; written = d.1 }
