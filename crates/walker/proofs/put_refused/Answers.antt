-- The word, the number and a line feed.
use native.Mathlib.Omega.{arith}
use mathlib.Core.Path.{ap}
use mathlib.Core.List.{◌++◌}
use Prim.Native.Nat.{ℕ}
use Rattle.pcrl.specs.Text.{bytes, decimal}
use Rattle.pcrl.specs.Walk.{text_line}
use Rattle.texts.proofs.Writing.{wrote_more, wrote_as}
use Rattle.walker.proofs.put_refused.Goals as goal

pub returns : goal.returns
unfolding text_line
returns c =
    let a = c.args in
    let n = c.from.result in
    wrote_as a.out.now 0 ((bytes "refused " ++ decimal n) ++ bytes "\n") _ _ _ (ap (λ (x : ℕ). (bytes "refused " ++ decimal x) ++ bytes "\n") c.from.ensures)
    (wrote_more a.out.now 0 (bytes "refused " ++ decimal n) c.put_value-b.new.out c.put_value-b.result (bytes "\n") _ _ (omega arith)
    (wrote_more a.out.now 0 (bytes "refused ") c.put_bytes-a.new.out c.put_bytes-a.result (decimal n) _ _ (omega arith) c.put_bytes-a.ensures c.put_value-b.ensures) c.put_byte.ensures)
