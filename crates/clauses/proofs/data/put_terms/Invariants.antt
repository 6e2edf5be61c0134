use mathlib.Core.Path.{◌≡◌}
use mathlib.Core.List.{List, ◌++◌}
use Prim.Native.Nat.{ℕ, ◌≤◌, max}
use lib.ListN.{length, drop}
use Rattle.pcrl.specs.Tests.{Each}
use Rattle.pcrl.specs.Reader.{all}
use Rattle.pcrl.specs.Sheet.{Data, Sig}
use Rattle.pcrl.specs.Stream.{variable_code, encode_data}
use Rattle.pcrl.specs.Right.{RightTerm}
use Rattle.rendering.specs.Texts.{given_text}
use Rattle.evaluation.specs.Known.{KnownTerms}
use Rattle.lettering.specs.Named.{Lettered}
use Rattle.clauses.proofs.TermLists.{Listing}
use Rattle.clauses.proofs.data.put_terms.Given as goal

abbrev pub invariant-loop-i : goal.invariant-loop-i
invariant-loop-i l = (l.i ≤ l.n)
    × ((l.r.at ≤ length l.out)
    × ((length l.out ≡ length l.initial.out)
    × ((l.r.from ≤ max l.from (length l.s))
    × ((S : Sig) (Γ Ds : List ℕ) (ds : List Data) (rest : List ℕ) → KnownTerms S l.s l.funcs → length Γ ≤ variable_code → Each (RightTerm S Γ) Ds ds → length ds ≡ l.n → Lettered S l.l → drop l.from l.s ≡ all encode_data ds ++ rest
    → Listing S Γ rest l.s l.initial.out l.at (given_text S ds) l.n l.i l.r.from l.out l.r.at))))
