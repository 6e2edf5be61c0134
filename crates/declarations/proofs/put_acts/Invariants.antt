use mathlib.Core.Path.{◌≡◌}
use mathlib.Core.List.{List}
use Prim.Native.Nat.{ℕ, ◌≤◌}
use lib.ListN.{length, take}
use Rattle.texts.specs.Wrote.{Wrote}
use Rattle.pcrl.specs.Tests.{Every}
use Rattle.pcrl.specs.Reader.{all}
use Rattle.rendering.specs.Texts.{act_line_text}
use Rattle.firing.specs.Known.{KnownParts}
use Rattle.lettering.specs.Named.{Lettered}
use Rattle.pcrl.specs.Sheet.{Sig}
use Rattle.pcrl.specs.Right.{RightAction}
use Rattle.declarations.proofs.put_acts.Given as goal

abbrev pub invariant-loop-i : goal.invariant-loop-i
invariant-loop-i l = (l.i ≤ l.n) × (((l.p ≤ length l.out) × (length l.out ≡ length l.initial.out)) × ((S : Sig) (Ps : List (List ℕ)) (params : List ℕ) → KnownParts S Ps l.s l.acts params → Every (RightAction S.sorts) S.acts → Lettered S l.l → l.n ≡ length S.acts → Wrote l.initial.out l.at (all (act_line_text S) (take l.i S.acts)) l.out l.p))
