-- A term behind its two counts, or only the mark that it is too long.
use native.Mathlib.Omega.{arith}
use Prim.Native.Nat.{◌+◌, ◌*◌}
use mathlib.Core.Path.{◌∙◌}
use lib.ListN.{length-set}
use lib.Seq.{take-set-le}
use Rattle.putting.specs.Slots.{slot_width}
use Rattle.putting.proofs.Bytes.{kept_front}
use Rattle.putting.proofs.Several.{slot_long, slot_whole}
use Rattle.putting.proofs.put_slot.Goals as goal

pub returns-in_default : goal.returns-in_default
returns-in_default c =
    let q = c.requires in
    let o = c.put_term.new.out in
    let l = c.put_term.auto.out in record {
      out_unchanged = take-set-le (slot_width * c.args.j) o (slot_width * c.args.j) _ (omega arith) ∙ kept_front (slot_width * c.args.j) (slot_width * c.args.j + 2) c.args.out.now o (omega arith) c.put_term.ensures.out_unchanged;
      slot_put = slot_long c.args.cells.now c.args.at c.args.slots.now c.args.n (slot_width * c.args.j) c.args.out.now o (omega arith) c.in_default.ensures.puts c.skip_data.result c.skip_data.ensures.skips_data;
    }

pub bounds-out-b-3 : goal.bounds-out-b-3
bounds-out-b-3 c =
    let q = c.requires in
    let o = c.put_term.new.out in
    let l = c.put_term.auto.out in
    omega (arith, length-set o (slot_width * c.args.j) c.in-Some.r.nodes)

pub returns : goal.returns
returns c =
    let q = c.requires in
    let o = c.put_term.new.out in
    let l = c.put_term.auto.out in
    let u = c.in-Some.ensures.w_le_w in record {
      out_unchanged = take-set-le (slot_width * c.args.j) _ (slot_width * c.args.j + 1) _ (omega arith) ∙ take-set-le (slot_width * c.args.j) o (slot_width * c.args.j) _ (omega arith) ∙ kept_front (slot_width * c.args.j) (slot_width * c.args.j + 2) c.args.out.now o (omega arith) c.put_term.ensures.out_unchanged;
      slot_put = slot_whole c.args.cells.now c.args.at c.args.slots.now c.args.n (slot_width * c.args.j) c.args.out.now o (omega arith) c.in-Some.r c.in-Some.ensures.puts (omega arith) (omega arith) (omega arith);
    }
