-- The frames are exchanged for a stack by value, and back.
use mathlib.Core.Path.{◌≡◌, sym, ap, ◌∙◌}
use native.Mathlib.Omega.{arith}
use lib.ListN.{length}
use Rattle.frames.specs.Lists.{over}
use Rattle.wizbratel.proofs.Prepares.{few, there_and_back, same_reply}
use Rattle.wizbratel.proofs.wizbratel_ask.Goals as goal

pub exchange-old-requires : goal.exchange-old-requires
exchange-old-requires c = few (length c.args.frames.now) c.prepare-p.result c.prepare-p.ensures

pub ask_stack-told-requires : goal.ask_stack-told-requires
ask_stack-told-requires c = (few (length c.args.frames.now) c.prepare-p.result c.prepare-p.ensures).1

pub exchange-requires : goal.exchange-requires
exchange-requires c = let f = few (length c.args.frames.now) c.prepare-p.result c.prepare-p.ensures in (omega (arith, f.0), f.1)

pub returns : goal.returns
returns c =
    let xs = c.args.frames.now in
    let p = c.prepare-p in
    let old = c.exchange-old in
    let x = c.ask_stack-told in
    let ss = x.result.stack.frames in
    let (kept, same) = there_and_back xs p.result old.result.frames ss p.ensures old.ensures.0 in
    let back : c.exchange.new.fs ≡ over p.result.count ss xs = c.exchange.ensures.1 ∙ ap (over p.result.count ss) old.ensures.1 ∙ sym same in
    let told = x.ensures xs p.ensures.0 kept in
    (same_reply _ c.report.ensures.0 back c.report.ensures.1 told.0, told.1)
