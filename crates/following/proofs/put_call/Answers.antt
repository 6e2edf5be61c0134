-- A call of a process as it stands; any other part by its marked variables.
use native.Mathlib.Omega.{arith}
use Prim.Native.Nat.{◌+◌, ◌%◌}
use mathlib.Core.Path.{refl, ◌∙◌}
use Rattle.std.specs.Prelude.{None}
use Rattle.std.proofs.lemmas.Option.{IfSome_then}
use lib.ListN.{length-set}
use lib.Seq.{take-set-le}
use Rattle.putting.proofs.Bytes.{kept_front}
use Rattle.following.proofs.CallLaws.{call_wide, call_put, part_put}
use Rattle.following.proofs.put_call.Goals as goal

pub returns-then-count-gt-FRAME_WIDTH : goal.returns-then-count-gt-FRAME_WIDTH
returns-then-count-gt-FRAME_WIDTH c =
    let q = c.requires in record {
      w_le_w = tt;
      out_unchanged = refl;
      call_put = call_wide c.args.cells.now c.args.at c.args.c c.args.slots.now c.args.n c.args.w c.args.out.now (omega arith) c.node_at-d.result c.node_at-d.ensures.views (omega arith) (omega arith) None c.args.out.now;
    }

pub put_terms-requires : goal.put_terms-requires
put_terms-requires c =
    let q = c.requires in omega (arith, length-set c.args.out.now c.args.w (c.node_at-d.result.number % 256))

pub shape_of-out-then-d-eq-CALL : goal.shape_of-out-then-d-eq-CALL
shape_of-out-then-d-eq-CALL c =
    c.put_terms.auto.out ∙ length-set c.args.out.now c.args.w (c.node_at-d.result.number % 256)

pub returns-then-d-eq-CALL : goal.returns-then-d-eq-CALL
returns-then-d-eq-CALL c =
    let q = c.requires in
    let o = c.put_terms.new.out in
    record {
      w_le_w = IfSome_then c.put_terms.result c.put_terms.ensures.w_le_w (λ v u. (omega arith, omega arith));
      out_unchanged = kept_front c.args.w (c.args.w + 1) _ o (omega arith) c.put_terms.ensures.out_unchanged ∙ take-set-le c.args.w c.args.out.now c.args.w _ (omega arith);
      call_put = call_put c.args.cells.now c.args.at c.args.c c.args.slots.now c.args.n c.args.w c.args.out.now (omega arith) c.node_at-d.result c.node_at-d.ensures.views (omega arith) c.put_terms.result o c.put_terms.ensures.puts_all;
    }

pub put_marked-requires : goal.put_marked-requires
put_marked-requires c =
    let q = c.requires in omega (arith, length-set c.args.out.now c.args.w c.args.c)

pub shape_of-out : goal.shape_of-out
shape_of-out c =
    c.put_marked.auto.out ∙ length-set c.args.out.now c.args.w c.args.c

pub returns : goal.returns
returns c =
    let q = c.requires in
    let o = c.put_marked.new.out in
    record {
      w_le_w = IfSome_then c.put_marked.result c.put_marked.ensures.w_le_w (λ v u. (omega arith, omega arith));
      out_unchanged = kept_front c.args.w (c.args.w + 1) _ o (omega arith) c.put_marked.ensures.out_unchanged ∙ take-set-le c.args.w c.args.out.now c.args.w _ (omega arith);
      call_put = part_put c.args.cells.now c.args.at c.args.c c.args.slots.now c.args.n c.args.w c.args.out.now (omega arith) c.node_at-d.result c.node_at-d.ensures.views (omega arith) (λ z. omega arith) c.marks-m.result c.marks-m.ensures.marked c.put_marked.result o c.put_marked.ensures.marked_put;
    }
