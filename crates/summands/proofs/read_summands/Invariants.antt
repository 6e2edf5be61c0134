use mathlib.Core.Path.{◌≡◌}
use mathlib.Core.List.{List}
use Prim.Native.Nat.{◌-◌, ◌<◌, ◌≤◌, ℕ}
use lib.ListN.{drop, length}
use Rattle.pcrl.specs.Decode.{read_summand, read_summands}
use Rattle.pcrl.specs.Limits.{frame_width}
use Rattle.pcrl.specs.Reader.{times}
use Rattle.pcrl.specs.Sheet.{Sig}
use Rattle.terms.specs.Ends.{rests}
use Rattle.terms.specs.Stands.{KnownActs, KnownData, KnownParams}
use Rattle.summands.proofs.read_summands.Given as goal

abbrev pub invariant-loop : goal.invariant-loop
invariant-loop l = (l.at < length l.s)
    × ((S : Sig) (Ps : List (List ℕ)) → KnownData S l.s l.sizes l.funcs → KnownActs S l.s l.acts → KnownParams Ps l.s l.params → length l.own ≤ frame_width
    → rests (read_summands S Ps l.own (drop l.at l.s)) ≡ rests (times (read_summand S Ps l.own) (l.n - l.counter) (drop l.i l.s)))
