use mathlib.Core.Path.{◌≡◌}
use Prim.Native.Nat.{◌≤◌}
use lib.ListN.{length, take}
use Rattle.texts.specs.Wrote.{Wrote}
use Rattle.pcrl.specs.Table.{Table}
use Rattle.pcrl.specs.Printer.{numbered}
use Rattle.rendering.specs.Texts.{concat, proc_line_text}
use Rattle.lettering.specs.Named.{Lettered}
use Rattle.firing.specs.Known.{KnownTable}
use Rattle.printer.proofs.lines.put_procs.Given as goal

abbrev pub invariant-loop-e : goal.invariant-loop-e
invariant-loop-e l = (l.e ≤ l.n) × (((l.p ≤ length l.out) × (length l.out ≡ length l.initial.out)) × ((T : Table) → KnownTable T l.s l.funcs l.acts l.params l.rows → Lettered T.sig l.l → l.n ≡ length T.equations → Wrote l.initial.out l.at (concat (numbered (proc_line_text T.sig) 0 (take l.e T.equations))) l.out l.p))
