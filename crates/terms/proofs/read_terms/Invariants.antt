use mathlib.Core.Path.{◌≡◌}
use lib.ListN.{drop}
use Rattle.pcrl.specs.Decode.{read_term}
use Rattle.pcrl.specs.Reader.{each}
use Rattle.pcrl.specs.Sheet.{Sig}
use Rattle.terms.specs.Ends.{rests}
use Rattle.terms.specs.Stands.{KnownData}
use Rattle.terms.proofs.read_terms.Given as goal

abbrev pub invariant-loop-d : goal.invariant-loop-d
invariant-loop-d l = (S : Sig) → KnownData S l.s l.sizes l.funcs → rests (each (read_term S l.scope) l.sorts (drop l.at l.s)) ≡ rests (each (read_term S l.scope) (drop l.d-index l.sorts) (drop l.i l.s))
