use mathlib.Core.List.{◌++◌}
use Prim.Native.Nat.{◌≤◌}
use lib.ListN.{length, take, drop}
use Rattle.pcrl.specs.Text.{bytes}
use Rattle.texts.specs.Wrote.{Wrote}
use Rattle.lettering.specs.Named.{sort_by}
use Rattle.pcrl.specs.Reader.{all}
use Rattle.declarations.proofs.put_takes.Given as goal

abbrev pub invariant-loop-i : goal.invariant-loop-i
invariant-loop-i l = (1 ≤ l.i) × ((l.i ≤ length l.sorts) × Wrote l.initial.out l.initial.p (all (λ x. bytes "#" ++ (sort_by l.l) x) (drop 1 (take l.i l.sorts))) l.out l.p)
