-- The byte of the cell behind the functions' places.
use Prim.Native.Nat.{ℕ, ◌+◌, ◌%◌}
use mathlib.Core.Path.{ap, ◌∙◌}
use lib.ListN.{get_or}
use Rattle.terms.proofs.size_of.Goals as goal

pub returns : goal.returns
returns c =
    c.low.ensures
    ∙ ap (λ (n : ℕ). n % 256) c.cell.ensures.0
    ∙ ap (λ (d : ℕ). get_or c.args.funcs.now (16 + d) 0 % 256) c.wide.ensures.0
