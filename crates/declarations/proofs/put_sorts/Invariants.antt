use mathlib.Core.Path.{◌≡◌}
use mathlib.Core.List.{List}
use Prim.Native.Nat.{ℕ, ◌-◌, ◌≤◌}
use lib.ListN.{length, take, drop}
use Rattle.pcrl.specs.Sheet.{Sig}
use Rattle.pcrl.specs.Printer.{numbered}
use Rattle.rendering.specs.Texts.{concat, sort_line_text}
use Rattle.evaluation.specs.Known.{KnownTerms}
use Rattle.texts.specs.Wrote.{Wrote}
use Rattle.lettering.specs.Named.{Lettered}
use Rattle.declarations.proofs.put_sorts.Given as goal

abbrev pub invariant-loop-i : goal.invariant-loop-i
invariant-loop-i l = ((l.p ≤ length l.out) × (length l.out ≡ length l.initial.out)) × ((S : Sig) (s : List ℕ) → KnownTerms S s l.funcs → Lettered S l.l → l.n ≡ length S.sorts → Wrote l.initial.out l.at (concat (numbered (sort_line_text S) 1 (take (l.i - 1) (drop 1 S.sorts)))) l.out l.p)
