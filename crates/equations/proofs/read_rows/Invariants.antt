use mathlib.Core.Path.{◌≡◌}
use mathlib.Core.List.{List}
use Prim.Native.Nat.{◌*◌, ◌<◌, ◌≤◌, ℕ}
use lib.ListN.{drop, length, take}
use Rattle.equations.specs.Reading.{KnownRows, KnownSig, total_at}
use Rattle.pcrl.specs.Decode.{read_summands}
use Rattle.pcrl.specs.Limits.{max_equations}
use Rattle.pcrl.specs.Reader.{each}
use Rattle.pcrl.specs.Sheet.{Sig}
use Rattle.pcrl.specs.Stream.{encode_list, encode_summand}
use Rattle.terms.proofs.Laying.{Laying}
use Rattle.equations.proofs.read_rows.Given as goal

abbrev pub invariant-loop-k : goal.invariant-loop-k
invariant-loop-k l = (l.k ≤ length l.params) × (length l.rows ≡ length l.initial.rows) × (length l.params ≤ max_equations) × (max_equations ≤ length l.rows) × (length l.s < 65536) × (l.total ≡ total_at l.s (take l.k l.rows)) × (l.total ≤ 255 * l.k)
    × ((S : Sig) (Ps : List (List ℕ)) → KnownSig S l.s l.sizes l.funcs l.acts → KnownRows S Ps l.s l.params
    → Laying (each (read_summands S Ps) Ps (drop l.at l.s)) (each (read_summands S Ps) (drop l.k Ps) (drop l.i l.s)) (encode_list encode_summand) l.s (take l.k l.rows))
