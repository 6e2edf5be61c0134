-- The rows behind the count.
use mathlib.Core.Path.{refl}
use mathlib.Core.List.{[], ◌∷◌}
use Prim.Native.Nat.{◌%◌, ◌*◌}
use Rattle.std.specs.Prelude.{Some, None}
use Rattle.pcrl.specs.Blocks.{concatenated}
use Rattle.nodes.specs.Layout.{byte_limit}
use Rattle.nodes.specs.Held.{proc_width}
use Rattle.emit.specs.Bytes.{row_bytes}
use Rattle.parts.proofs.BehindLaws.{from_then, byte_as}
use Rattle.parts.proofs.sheet_parts.put_front.Goals as goal

pub returns-in_err-v : goal.returns-in_err-v
returns-in_err-v c =
    let a = c.args in
    let p = c.put in
    rw c.from_residual.ensures
    (from_then (a.total % byte_limit ∷ []) (concatenated a.n (λ k. row_bytes a.procs.now (proc_width * k))) a.out.now p.new.out p.new.out (Some a.w) None None
    (byte_as c.low.result (a.total % byte_limit) a.w a.out.now None p.new.out c.low.ensures c.in_err-v.ensures) (refl, refl))

pub returns : goal.returns
returns c =
    let a = c.args in
    let p = c.put in
    let r = c.put_written in
    from_then (a.total % byte_limit ∷ []) (concatenated a.n (λ k. row_bytes a.procs.now (proc_width * k))) a.out.now p.new.out r.new.out (Some a.w) (Some c.in_ok-v.v) r.result
    (byte_as c.low.result (a.total % byte_limit) a.w a.out.now (Some c.in_ok-v.v) p.new.out c.low.ensures c.in_ok-v.ensures) r.ensures
