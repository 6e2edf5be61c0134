use mathlib.Core.List.{◌∷◌}
use lib.ListN.{get_or, take}
use Rattle.pcrl.specs.Walk.{values_text}
use Rattle.texts.specs.Wrote.{Wrote}
use Rattle.texts.proofs.put_values.Given as goal

abbrev pub invariant-loop-v : goal.invariant-loop-v
invariant-loop-v l = Wrote l.fn.out l.at (values_text (get_or l.vs 0 0 ∷ take l.v-index l.rest)) l.out l.p
