-- Each way out by its law.
use mathlib.Core.Path.{refl}
use Prim.Native.Nat.{◌+◌}
use native.Mathlib.Omega.{arith}
use Rattle.listing.proofs.Posing.{too_many, all_listed, past_end}
use Rattle.refusals.specs.declared.Refusal.TheVariants.{NotWithin}
use Rattle.listing.proofs.put_summands.Goals as goal

pub returns-then-w-out : goal.returns-then-w-out
returns-then-w-out c = let a = c.args in past_end a.procs.now a.cells.now a.starts.now a.n a.rows.now a.count a.w a.out.now a.out.now (omega arith)

pub returns-then-count_all-gt-MAX_SUMMANDS : goal.returns-then-count_all-gt-MAX_SUMMANDS
returns-then-count_all-gt-MAX_SUMMANDS c =
    let a = c.args in
    let tally = c.rounds in
    let first = c.first_numbers-firsts in
    let x = c.count_all in
    let i = c.if-count_all-gt-MAX_SUMMANDS in
    too_many a.procs.now a.cells.now a.starts.now a.n a.rows.now a.count c.requires.1 tally.new.t first.result (a.n.procs + 1) refl tally.ensures first.ensures (a.n.procs + a.count) refl a.w a.out.now x.result NotWithin a.out.now x.ensures (omega arith)

pub put_all-requires : goal.put_all-requires
put_all-requires c = let p = c.requires in let i = c.if-w-out in (omega arith, omega arith, omega arith, p.2)

pub returns : goal.returns
returns c =
    let a = c.args in
    let tally = c.rounds in
    let first = c.first_numbers-firsts in
    let x = c.count_all in
    let i = c.if-count_all-gt-MAX_SUMMANDS in
    let t = c.put_all in
    all_listed a.procs.now a.cells.now a.starts.now a.n a.rows.now a.count c.requires.1 tally.new.t first.result (a.n.procs + 1) refl tally.ensures first.ensures (a.n.procs + a.count) refl a.w a.out.now x.result t.result t.new.out t.auto.out x.ensures (omega arith) t.ensures
