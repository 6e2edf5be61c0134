-- `heads::write_summands` meets its contract.
use native.Mathlib.Omega.{arith}
use Prim.Native.Nat.{◌%◌}
use mathlib.Core.Path.{◌∙◌}
use lib.ListN.{length-set}
use Rattle.std.proofs.lemmas.Result.{IfOk-weaker}
use Rattle.heads.proofs.Numbers.{list_full, list_right, list_none}
use Rattle.heads.proofs.write_summands.Goals as goal

pub returns-then-w-out : goal.returns-then-w-out
returns-then-w-out c =
    let args = c.args in record {
      w_le_w = tt;
      summands_written = list_full args.cells.now args.starts.now args.counts.now args.firsts.now args.fuel args.at args.c args.slots.now args.n args.m args.w args.out.now (omega arith) args.out.now;
    }

pub returns-then-a-eq0 : goal.returns-then-a-eq0
returns-then-a-eq0 c =
    let args = c.args in
    let counted = c.count_heads-a in record {
      w_le_w = (omega arith, omega (arith, c.if-w-out.false));
      summands_written = list_none args.cells.now args.starts.now args.counts.now args.firsts.now args.fuel args.at args.c args.slots.now args.n args.m args.w args.out.now counted.result counted.ensures (omega (arith, c.if-w-out.false)) c.if-a-eq0.true;
    }

pub write_heads-requires : goal.write_heads-requires
write_heads-requires c =
    let args = c.args in
    let q = c.requires in omega (arith, length-set args.out.now args.w (c.count_heads-a.result % 256), c.if-w-out.false)

pub shape_of-slots : goal.shape_of-slots
shape_of-slots c = c.write_heads.auto.slots

pub shape_of-out : goal.shape_of-out
shape_of-out c =
    let args = c.args in
    c.write_heads.auto.out ∙ length-set args.out.now args.w (c.count_heads-a.result % 256)

pub returns : goal.returns
returns c =
    let args = c.args in
    let q = c.requires in
    let called = c.write_heads in
    let counted = c.count_heads-a in
    record {
      w_le_w = IfOk-weaker called.result _ _ (λ v u. (omega (arith, u.0), omega (arith, u.1, length-set args.out.now args.w (counted.result % 256)))) called.ensures.w_le_w;
      summands_written = list_right args.cells.now args.starts.now args.counts.now args.firsts.now args.fuel args.at args.c args.slots.now args.n args.m args.w args.out.now counted.result counted.ensures (omega (arith, c.if-w-out.false)) called.result called.new.out c.if-a-eq0.false called.ensures.heads_written;
    }
