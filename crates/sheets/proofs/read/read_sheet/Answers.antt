-- The questions in their order: each answer's law, with what the calls before it left.
use mathlib.Core.Path.{◌≡◌, ◌∙◌, subst}
use mathlib.Core.List.{map}
use Prim.Native.Nat.{ℕ, ◌-◌}
use native.Mathlib.Omega.{arith}
use lib.ListN.{take, length-take}
use Rattle.std.specs.Prelude.{Option, Some, None}
use Rattle.std.specs.Option.{ok_or}
use Rattle.std.proofs.lemmas.Result.{err_from_is_err_and}
use Rattle.pcrl.specs.Grammar.{parse}
use Rattle.lexer.specs.Cells.{cell_token}
use Rattle.lexer.proofs.Accepted.{accepted_cells}
use Rattle.parser.specs.Parses.{Parses}
use Rattle.parser.specs.declared.Parsed.{Parsed}
use Rattle.parser.proofs.Answered.{accepted_few}
use Rattle.laws.specs.Says.{said_yes, said_no}
use Rattle.names.proofs.Kept.{yields_none, yields_some}
use Rattle.refusals.specs.declared.Refusal.{Refusal}
use Rattle.refusals.specs.declared.Refusal.TheVariants.{NoSheet, TooMany, NoName}
use Rattle.sheets.specs.declared.SheetRows.{SheetRows}
use Rattle.sheets.specs.Resolving.{Resolves}
use Rattle.sheets.proofs.ReadingLaws.{refused_early, refused_5, refused_6, refused_7, with_sheet, parsable, few_found, refused_by, judged_refused, judged_accepted, given_error}
use Rattle.sheets.proofs.read.read_sheet.Goals as goal

pub lex-requires : goal.lex-requires
lex-requires c = let room = c.requires in omega (arith, room.cells_room)

pub returns-in_err-n : goal.returns-in_err-n
returns-in_err-n c =
    let p = err_from_is_err_and c.from_residual.result c.from_residual.ensures.1 in
    rw (p.1, p.2) (refused_by c.args.sheet.now _ _ c.in_err-n.field-0.0 (refused_early c.args.sheet.now c.lex.new.out c.in_err-n.field-0.0 c.in_err-n.ensures))

pub slice_bounds-parse-end : goal.slice_bounds-parse-end
slice_bounds-parse-end c = (accepted_cells c.args.sheet.now c.lex.new.out c.in_ok-n.n c.in_ok-n.ensures).room

pub parse-requires : goal.parse-requires
parse-requires c =
    let n = c.in_ok-n.n in
    let room = c.requires in
    let few = accepted_cells c.args.sheet.now c.lex.new.out n c.in_ok-n.ensures in
    (rw (length-take (n - 0) c.lex.new.out) (omega (arith, room.tree_room, few.fits, few.short)), room.tree_few, accepted_few few (n - 0) (omega arith))

pub returns-in_err-t : goal.returns-in_err-t
returns-in_err-t c =
    let s = c.args.sheet.now in
    let n = c.in_ok-n.n in
    let parsed = c.parse in
    let whole : n - 0 ≡ n = omega arith in
    let parses = rw whole at (parsed.ensures s) in
    let none = subst (λ (r : Option Parsed). Parses (parse (map (cell_token s) (take n c.lex.new.out))) s r parsed.new.out) c.in_err-t.ensures.ok_part parses in
    let p = err_from_is_err_and c.from_residual-in_err-t.result c.from_residual-in_err-t.ensures.1 in
    rw (p.1, p.2, given_error _ _ NoSheet c.in_err-t.ensures.ok_part c.in_err-t.ensures.value) (refused_by s _ _ NoSheet (refused_5 s c.lex.new.out n c.in_ok-n.ensures parsed.new.out none))

pub returns-then-not-counted : goal.returns-then-not-counted
returns-then-not-counted c =
    let s = c.args.sheet.now in
    let n = c.in_ok-n.n in
    let parsed = c.parse in
    let asked = c.counted in
    let whole : n - 0 ≡ n = omega arith in
    let parses = rw whole at (parsed.ensures s) in
    let some = subst (λ (r : Option Parsed). Parses (parse (map (cell_token s) (take n c.lex.new.out))) s r parsed.new.out) c.in_ok-t.ensures.ok_part parses in
    let tree = parsable s c.lex.new.out n c.in_ok-n.ensures parsed.new.out c.in_ok-t.t some in
    refused_by s _ _ TooMany (refused_6 s tree.sheet tree.answer (said_no asked.result (asked.ensures s tree.sheet tree.lines) c.if-not-counted.true))

pub resolve-requires : goal.resolve-requires
resolve-requires c =
    let s = c.args.sheet.now in
    let n = c.in_ok-n.n in
    let parsed = c.parse in
    let asked = c.counted in
    let room = c.requires in
    let whole : n - 0 ≡ n = omega arith in
    let parses = rw whole at (parsed.ensures s) in
    let some = subst (λ (r : Option Parsed). Parses (parse (map (cell_token s) (take n c.lex.new.out))) s r parsed.new.out) c.in_ok-t.ensures.ok_part parses in
    let tree = parsable s c.lex.new.out n c.in_ok-n.ensures parsed.new.out c.in_ok-t.t some in
    let count = said_yes asked.result (asked.ensures s tree.sheet tree.lines) c.if-not-counted.false in
    (few_found s parsed.new.out c.in_ok-t.t.lines tree.sheet (omega (arith, room.tree_few, parsed.auto.out)) tree.inside tree.lines count, room.values_few, omega (arith, room.cells_few, c.lex.auto.out))

pub returns-in_err-rows : goal.returns-in_err-rows
returns-in_err-rows c =
    let s = c.args.sheet.now in
    let n = c.in_ok-n.n in
    let parsed = c.parse in
    let asked = c.counted in
    let held = c.resolve in
    let room = c.requires in
    let whole : n - 0 ≡ n = omega arith in
    let parses = rw whole at (parsed.ensures s) in
    let some = subst (λ (r : Option Parsed). Parses (parse (map (cell_token s) (take n c.lex.new.out))) s r parsed.new.out) c.in_ok-t.ensures.ok_part parses in
    let tree = parsable s c.lex.new.out n c.in_ok-n.ensures parsed.new.out c.in_ok-t.t some in
    let count = said_yes asked.result (asked.ensures s tree.sheet tree.lines) c.if-not-counted.false in
    let few = accepted_cells s c.lex.new.out n c.in_ok-n.ensures in
    let resolves = subst (λ (r : Option SheetRows). Resolves s tree.sheet held.new.values held.new.out r) c.in_err-rows.ensures.ok_part (held.ensures tree.sheet tree.lines tree.init) in
    let missing = yields_none _ _ (resolves n count tree.bounds (omega (arith, room.values_room, few.fits, few.short, held.auto.values)) (omega (arith, room.cells_room, c.lex.auto.out, few.fits, few.short, held.auto.out))) in
    let p = err_from_is_err_and c.from_residual-in_err-rows.result c.from_residual-in_err-rows.ensures.1 in
    rw (p.1, p.2, given_error _ _ NoName c.in_err-rows.ensures.ok_part c.in_err-rows.ensures.value) (refused_by s _ _ NoName (refused_7 s tree.sheet tree.answer count missing))

pub returns-in_err-judge : goal.returns-in_err-judge
returns-in_err-judge c =
    let s = c.args.sheet.now in
    let n = c.in_ok-n.n in
    let parsed = c.parse in
    let asked = c.counted in
    let held = c.resolve in
    let room = c.requires in
    let whole : n - 0 ≡ n = omega arith in
    let parses = rw whole at (parsed.ensures s) in
    let some = subst (λ (r : Option Parsed). Parses (parse (map (cell_token s) (take n c.lex.new.out))) s r parsed.new.out) c.in_ok-t.ensures.ok_part parses in
    let tree = parsable s c.lex.new.out n c.in_ok-n.ensures parsed.new.out c.in_ok-t.t some in
    let count = said_yes asked.result (asked.ensures s tree.sheet tree.lines) c.if-not-counted.false in
    let few = accepted_cells s c.lex.new.out n c.in_ok-n.ensures in
    let resolves = subst (λ (r : Option SheetRows). Resolves s tree.sheet held.new.values held.new.out r) c.in_ok-rows.ensures.ok_part (held.ensures tree.sheet tree.lines tree.init) in
    let (H, found, holds) = yields_some _ _ c.in_ok-rows.rows (resolves n count tree.bounds (omega (arith, room.values_room, few.fits, few.short, held.auto.values)) (omega (arith, room.cells_room, c.lex.auto.out, few.fits, few.short, held.auto.out))) in
    let p = err_from_is_err_and c.from_residual-in_err-judge.result c.from_residual-in_err-judge.ensures.1 in
    rw (p.1, p.2) (judged_refused s held.new.values held.new.out _ H (with_sheet s tree.sheet H tree.answer count found) c.in_err-judge.field-0.0 (c.in_err-judge.ensures H holds.0))

pub shape_of-cells : goal.shape_of-cells
shape_of-cells c = c.resolve.auto.out ∙ c.lex.auto.out

pub returns : goal.returns
returns c =
    let s = c.args.sheet.now in
    let n = c.in_ok-n.n in
    let parsed = c.parse in
    let asked = c.counted in
    let held = c.resolve in
    let room = c.requires in
    let whole : n - 0 ≡ n = omega arith in
    let parses = rw whole at (parsed.ensures s) in
    let some = subst (λ (r : Option Parsed). Parses (parse (map (cell_token s) (take n c.lex.new.out))) s r parsed.new.out) c.in_ok-t.ensures.ok_part parses in
    let tree = parsable s c.lex.new.out n c.in_ok-n.ensures parsed.new.out c.in_ok-t.t some in
    let count = said_yes asked.result (asked.ensures s tree.sheet tree.lines) c.if-not-counted.false in
    let few = accepted_cells s c.lex.new.out n c.in_ok-n.ensures in
    let resolves = subst (λ (r : Option SheetRows). Resolves s tree.sheet held.new.values held.new.out r) c.in_ok-rows.ensures.ok_part (held.ensures tree.sheet tree.lines tree.init) in
    let (H, found, holds) = yields_some _ _ c.in_ok-rows.rows (resolves n count tree.bounds (omega (arith, room.values_room, few.fits, few.short, held.auto.values)) (omega (arith, room.cells_room, c.lex.auto.out, few.fits, few.short, held.auto.out))) in
    judged_accepted s held.new.values held.new.out _ H (with_sheet s tree.sheet H tree.answer count found) c.in_ok-judge.field-0 c.in_ok-rows.rows (c.in_ok-judge.ensures H holds.0) holds
