-- The table read, and then its blocks and zeros.
use mathlib.Core.Path.{◌≡◌}
use native.Mathlib.Omega.{arith}
use lib.ListN.{length, take}
use Rattle.laws.specs.Says.{said_yes, said_no}
use Rattle.tables.proofs.Answer.{no_table, not_answered, table_answered}
use Rattle.tables.specs.declared.Index.{Index}
use Rattle.signature.specs.Reading.{names_there}
use Rattle.tables.proofs.read_table.Goals as goal

pub returns-in_err-r : goal.returns-in_err-r
returns-in_err-r c = rw c.from_residual.ensures (no_table c.args.s.now c.in_err-r.ensures)

pub returns-then-not-filled : goal.returns-then-not-filled
returns-then-not-filled c =
    let i = c.read_into in
    let r = c.in_ok-r.r in
    let decoded = c.in_ok-r.ensures in
    not_answered c.args.s.now r.end (take r.sort_count i.new.sizes) (names_there r.named c.args.s.now (take r.sort_count i.new.sorts)) (take r.functions i.new.funcs) (take r.actions i.new.acts) (take r.equations i.new.params) (take r.equations i.new.rows) r.start decoded.0 decoded.1.1.1.1.1 (said_no c.filled.result c.filled.ensures c.if-not-filled.true)

pub returns : goal.returns
returns c =
    let i = c.read_into in
    let r = c.in_ok-r.r in
    let decoded = c.in_ok-r.ensures in
    let index : Index = record { sorts = i.new.sorts; funcs = c.put_sizes.new.funcs; acts = i.new.acts; params = i.new.params; rows = i.new.rows; sort_count = r.sort_count; named = r.named; functions = r.functions; actions = r.actions; equations = r.equations; start = r.start } in
    let b = decoded.1 in
    let z : length i.new.sizes ≡ 8 = i.auto.sizes in
    let f : length i.new.funcs ≡ 24 = i.auto.funcs in
    let a : length i.new.acts ≡ 32 = i.auto.acts in
    let e : length i.new.params ≡ 64 = i.auto.params in
    table_answered c.args.s.now index r.end i.new.sizes i.new.funcs decoded.0 b.1.1.1.1 (said_yes c.filled.result c.filled.ensures c.if-not-filled.false) c.put_sizes.ensures f z b.0 b.1.0 (omega arith) (omega arith)
