-- Five pieces, one behind another.
use native.Mathlib.Omega.{arith}
use mathlib.Core.Path.{◌≡◌}
use Rattle.texts.proofs.Writing.{wrote_as}
use Rattle.declarations.proofs.Chains.{five, size_is}
use Rattle.declarations.proofs.put_sort_line.Goals as goal

pub returns : goal.returns
returns c =
    let a = c.args in
    let w : c.wide.result ≡ a.size = c.wide.ensures.0 in
    wrote_as a.out.now a.at _ _ _ _ (size_is a.l.now a.d c.wide.result a.size w c.wide.ensures.1)
    (five _ _ _ _ _ _ _ _ _ _ _ _ _ _ _ _ _ (omega (arith, c.requires)) c.put_bytes-a.ensures c.put_sort-b.ensures c.put_byte-c.ensures c.put_decimal-e.ensures c.put_byte.ensures)
