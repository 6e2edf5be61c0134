-- The length, and the name behind it.
use native.Mathlib.Omega.{arith}
use mathlib.Core.Path.{ap}
use mathlib.Core.List.{[], ◌∷◌, ◌++◌}
use Prim.Native.Nat.{ℕ}
use Rattle.texts.proofs.Writing.{wrote_more, wrote_as}
use Rattle.lettering.specs.Named.{cell_of}
use Rattle.lettering.proofs.put_cell.Goals as goal

pub returns : goal.returns
returns c =
    let a = c.args in
    wrote_as a.out.now a.at ((c.low.result ∷ []) ++ a.name.now) (cell_of a.name.now) _ _ (ap (λ (k : ℕ). k ∷ a.name.now) c.low.ensures)
    (wrote_more a.out.now a.at (c.low.result ∷ []) _ _ a.name.now _ _ (omega (arith, c.requires)) c.put_byte-p.ensures c.put_bytes.ensures)
