-- Where blocks are refused so is the file, and else the stream's table decides.
use mathlib.Core.Path.{◌≡◌}
use Prim.Native.Nat.{◌-◌}
use native.Mathlib.Omega.{arith}
use lib.ListN.{take, length-take}
use Rattle.std.proofs.lemmas.Result.{err_from_is_err_and}
use Rattle.blocks.proofs.RoundTrip.{opens_accepted, opens_refused}
use Rattle.files.proofs.TableCheck.{no_stream, no_table, table_there}
use Rattle.files.proofs.check_table.Goals as goal

pub returns-in_err-count : goal.returns-in_err-count
returns-in_err-count c =
    let p = err_from_is_err_and c.from_residual.result c.from_residual.ensures.1 in
    rw (p.1, p.2) (no_stream _ _ (opens_refused _ _ c.read_file.new.out c.in_err-count.ensures))

pub slice_bounds-read_table-end : goal.slice_bounds-read_table-end
slice_bounds-read_table-end c = (opens_accepted _ _ c.read_file.new.out c.in_ok-count.ensures).2

pub read_table-requires : goal.read_table-requires
read_table-requires c = rw (length-take (c.in_ok-count.count - 0) c.read_file.new.out) (omega (arith, c.read_file.auto.out, c.requires.1))

pub returns-in-Some : goal.returns-in-Some
returns-in-Some c =
    let opened = opens_accepted _ _ c.read_file.new.out c.in_ok-count.ensures in
    let whole : c.in_ok-count.count - 0 ≡ c.in_ok-count.count = omega arith in
    table_there _ (take c.in_ok-count.count c.read_file.new.out) _ opened.0 (rw whole at c.in-Some.ensures)

pub returns-in-None : goal.returns-in-None
returns-in-None c =
    let opened = opens_accepted _ _ c.read_file.new.out c.in_ok-count.ensures in
    let whole : c.in_ok-count.count - 0 ≡ c.in_ok-count.count = omega arith in
    no_table _ (take c.in_ok-count.count c.read_file.new.out) opened.0 (rw whole at c.in-None.ensures)
