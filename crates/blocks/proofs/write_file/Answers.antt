-- The blocks are written where they fit; else question 11 is refused and nothing altered.
use mathlib.Core.Path.{refl}
use Prim.Native.Nat.{◌+◌, ◌*◌, ◌/◌}
use native.Mathlib.Omega.{arith}
use lib.ListN.{length}
use Rattle.pcrl.specs.Blocks.{blocks_for}
use Rattle.blocks.proofs.RoomLaws.{answer_fits, output_fits, answer_refused, output_refused}
use Rattle.blocks.proofs.write_file.Goals as goal

pub write_blocks-requires : goal.write_blocks-requires
unfolding blocks_for
write_blocks-requires c = (omega arith, refl, omega arith)

pub returns : goal.returns
unfolding blocks_for
returns c =
    let a = c.args in
    record {
      answer = answer_fits a.stream.now a.out.now ((length a.stream.now + 505) / 506 * 512) refl c.if-out-size.false;
      written = output_fits a.stream.now a.out.now ((length a.stream.now + 505) / 506 * 512) refl _ c.if-out-size.false c.write_blocks.ensures;
    }

pub returns-then-out-size : goal.returns-then-out-size
unfolding blocks_for
returns-then-out-size c =
    let a = c.args in
    record {
      answer = answer_refused a.stream.now a.out.now ((length a.stream.now + 505) / 506 * 512) refl c.if-out-size.true;
      written = output_refused a.stream.now a.out.now ((length a.stream.now + 505) / 506 * 512) refl c.if-out-size.true;
    }
