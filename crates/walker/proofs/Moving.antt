-- A walk moves with a step that counts, and else only keeps the answer.
use mathlib.Core.Path.{◌≡◌, refl, sym, ap}
use mathlib.Core.Bool.{Bool}
use Prim.Native.Nat.{◌<◌, ◌≤◌}
use borrow.Author.Tests.{lt-ltb, le-ltb}
use Rattle.pcrl.specs.Walk.{walk_steps}
use Rattle.asking.specs.declared.Step.{Step}
use Rattle.asking.specs.declared.Told.{Told}
use Rattle.asking.specs.declared.Told.TheVariants.{Ended, Nothing, Stepped, TooDeep}
use Rattle.walker.specs.declared.Walk.{Walk}
use Rattle.walker.specs.Moves.{kept_by, stepped_by, stepped_if, moved_by}

pub step_moves : (w : Walk) (r : Step) → w.taken < walk_steps → stepped_by w r ≡ moved_by w (Stepped r)
unfolding moved_by
step_moves w r h = sym (ap (λ (b : Bool). stepped_if b w r) (lt-ltb w.taken walk_steps h))

pub late_keeps : (w : Walk) (r : Step) → walk_steps ≤ w.taken → kept_by w (Stepped r) ≡ moved_by w (Stepped r)
unfolding moved_by
late_keeps w r h = sym (ap (λ (b : Bool). stepped_if b w r) (le-ltb w.taken walk_steps h))

pub plain_keeps : (w : Walk) (r : Told) → ((s : Step) → r ≡ Stepped s → ⊥) → kept_by w r ≡ moved_by w r
unfolding moved_by
plain_keeps w Ended h = refl
plain_keeps w Nothing h = refl
plain_keeps w TooDeep h = refl
plain_keeps w (Stepped s) h = absurd (h s refl)
