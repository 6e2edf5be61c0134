use mathlib.Core.Path.{◌≡◌}
use Prim.Native.Nat.{◌≤◌}
use lib.ListN.{length, take}
use Rattle.texts.specs.Wrote.{Wrote}
use Rattle.pcrl.specs.Printer.{numbered}
use Rattle.rendering.specs.Texts.{concat, func_line_text}
use Rattle.evaluation.specs.Known.{KnownTerms}
use Rattle.lettering.specs.Named.{Lettered}
use Rattle.pcrl.specs.Sheet.{Sig}
use Rattle.declarations.proofs.put_funcs.Given as goal

abbrev pub invariant-loop-f : goal.invariant-loop-f
invariant-loop-f l = (l.f ≤ l.n) × (((l.p ≤ length l.out) × (length l.out ≡ length l.initial.out)) × ((S : Sig) → KnownTerms S l.s l.funcs → length S.funcs ≤ 256 → Lettered S l.l → l.n ≡ length S.funcs → Wrote l.initial.out l.at (concat (numbered (func_line_text S) 0 (take l.f S.funcs))) l.out l.p))
