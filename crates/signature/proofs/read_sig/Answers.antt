-- The sorts, and what is declared over them.
use lib.ListN.{take}
use Rattle.signature.proofs.Sig.{no_sorts}
use Rattle.signature.specs.Reading.{names_there}
use Rattle.signature.proofs.read_sig.Goals as goal

pub returns-in_err-z : goal.returns-in_err-z
returns-in_err-z c = rw c.from_residual.ensures (no_sorts c.args.s.now c.in_err-z.ensures.0, tt)

pub returns-in_err-d : goal.returns-in_err-d
returns-in_err-d c =
    let z = c.in_ok-z in
    rw c.from_residual-in_err-d.ensures (c.in_err-d.ensures.0 (names_there z.z.named c.args.s.now (take z.z.count c.read_sorts.new.sorts)) z.ensures.0, tt)

pub returns : goal.returns
returns c =
    let z = c.in_ok-z in
    let d = c.in_ok-d in
    (d.ensures.0 (names_there z.z.named c.args.s.now (take z.z.count c.read_sorts.new.sorts)) z.ensures.0, (z.ensures.1, d.ensures.1))
