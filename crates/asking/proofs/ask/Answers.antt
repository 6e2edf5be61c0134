-- The four answers, each by what the search of the top frame's equation found.
use native.Mathlib.Omega.{arith}
use mathlib.Core.Path.{◌≡◌, refl, ap, ◌∙◌}
use mathlib.Core.List.{List}
use Prim.Native.Nat.{ℕ, ◌+◌, ◌-◌, ◌*◌, ◌<◌}
use Rattle.std.specs.Prelude.{Result, Ok}
use lib.ListN.{length, take, drop}
use lib.Seq.{take_all, take-length}
use Rattle.firing.specs.declared.Fired.{Fired}
use Rattle.firing.specs.Told.{told}
use Rattle.firing.proofs.Telling.{told_is}
use Rattle.pcrl.specs.Limits.{frame_width}
use Rattle.stacks.specs.Lent.{frames_at}
use Rattle.stacks.proofs.Filling.{length_frames_at}
use Rattle.asking.proofs.Stepping.{told_found, told_none, ended_is, none_is, deep_is, step_is, zeros_behind, looked}
use Rattle.asking.proofs.ask.Goals as goal

pub returns-then-depth-eq0 : goal.returns-then-depth-eq0
returns-then-depth-eq0 c = (omega arith, λ T x p. let a = c.args in ended_is T a.frames.now a.depth a.k c.requires.1.0 p (omega arith))

pub fire-requires : goal.fire-requires
fire-requires c = omega (arith, c.requires)

pub returns-in_default : goal.returns-in_default
returns-in_default c = (
  omega (arith, c.requires),
  λ T x p.
      let a = c.args in
      let bytes = a.frames.now in
      let made = c.fire.new.made in
      let some-frame : 0 < a.depth = omega (arith, c.if-depth-eq0) in
      let whole : take (length bytes - 0) bytes ≡ bytes = take_all (length bytes - 0) bytes (omega arith) in
      let (number, (params, (b, sorted))) = looked T bytes a.depth a.k c.requires.1.0 p some-frame a.s.now a.funcs.now a.acts.now a.params.now a.rows.now x _ _ _ _ _ c.wide-e.ensures.0 c.cell.ensures.0 c.list_at-sorts.ensures refl (c.part.ensures ∙ ap (λ (l : List ℕ). take (length c.list_at-sorts.result.now) (drop ((a.depth - 1) * 5 + 1) l)) whole) in
      none_is T bytes a.depth a.k c.requires.1.0 p some-frame _ _ number params
      (told_is T.sig _ _ c.fire.result _ made (c.fire.ensures.1 T c.part.result.now x b sorted (take-length c.part.result.now)) ∙ ap (λ (r : Result Fired ℕ). told T.sig r made) c.in_default.is ∙ told_none T.sig c.in_default.field-0 made),
)

pub overflow_add-left : goal.overflow_add-left
overflow_add-left c = omega (arith, c.in-Ok.ensures.0.few_calls, c.requires)

pub returns-then-left-gt-LIMIT : goal.returns-then-left-gt-LIMIT
returns-then-left-gt-LIMIT c = (
  omega (arith, c.requires),
  λ T x p.
      let a = c.args in
      let bytes = a.frames.now in
      let f = c.in-Ok.f in
      let made = c.fire.new.made in
      let some-frame : 0 < a.depth = omega (arith, c.if-depth-eq0) in
      let whole : take (length bytes - 0) bytes ≡ bytes = take_all (length bytes - 0) bytes (omega arith) in
      let (number, (params, (b, sorted))) = looked T bytes a.depth a.k c.requires.1.0 p some-frame a.s.now a.funcs.now a.acts.now a.params.now a.rows.now x _ _ _ _ _ c.wide-e.ensures.0 c.cell.ensures.0 c.list_at-sorts.ensures refl (c.part.ensures ∙ ap (λ (l : List ℕ). take (length c.list_at-sorts.result.now) (drop ((a.depth - 1) * 5 + 1) l)) whole) in
      deep_is T bytes a.depth a.k c.requires.1.0 p some-frame _ _ number params _ (frames_at frame_width f.calls made) (told_is T.sig _ _ (Ok f) _ c.fire.new.made (c.in-Ok.ensures.1 T c.part.result.now x b sorted (take-length c.part.result.now)) ∙ told_found T.sig f made)
      (omega (arith, c.if-left-gt-LIMIT, length_frames_at frame_width f.calls made)),
)

pub replace-requires : goal.replace-requires
replace-requires c = omega (arith, c.requires, c.if-depth-eq0, c.if-left-gt-LIMIT, c.in-Ok.ensures.0.few_calls, c.fire.auto.made)

pub returns : goal.returns
returns c = (
  omega (arith, c.if-left-gt-LIMIT),
  λ T x p.
      let a = c.args in
      let bytes = a.frames.now in
      let f = c.in-Ok.f in
      let made = c.fire.new.made in
      let some-frame : 0 < a.depth = omega (arith, c.if-depth-eq0) in
      let whole : take (length bytes - 0) bytes ≡ bytes = take_all (length bytes - 0) bytes (omega arith) in
      let (number, (params, (b, sorted))) = looked T bytes a.depth a.k c.requires.1.0 p some-frame a.s.now a.funcs.now a.acts.now a.params.now a.rows.now x _ _ _ _ _ c.wide-e.ensures.0 c.cell.ensures.0 c.list_at-sorts.ensures refl (c.part.ensures ∙ ap (λ (l : List ℕ). take (length c.list_at-sorts.result.now) (drop ((a.depth - 1) * 5 + 1) l)) whole) in
      let n = length_frames_at frame_width f.calls made in
      step_is T bytes a.depth a.k c.requires.1.0 p some-frame _ _ number params _ (frames_at frame_width f.calls made) (told_is T.sig _ _ (Ok f) _ c.fire.new.made (c.in-Ok.ensures.1 T c.part.result.now x b sorted (take-length c.part.result.now)) ∙ told_found T.sig f made)
      _ _ (omega (arith, c.if-left-gt-LIMIT)) refl (omega arith) (c.replace.ensures (zeros_behind T bytes a.depth a.k c.requires.1.0 p some-frame)),
)
