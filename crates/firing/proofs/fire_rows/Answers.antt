-- Each summand is opened where the one before it ends; it is passed, or step k is found in it.
use native.Mathlib.Omega.{arith}
use Rattle.std.specs.Prelude.{Ok, Err}
use Prim.Native.Nat.{ℕ, ◌+◌}
use mathlib.Core.Path.{◌≡◌, refl, sym, ◌∙◌, ap, subst}
use mathlib.Core.List.{List}
use lib.ListN.{length, get_or, get_elem?}
use Rattle.pcrl.specs.Limits.{frame_width}
use Rattle.pcrl.specs.Reader.{all}
use Rattle.pcrl.specs.Steps.{fired}
use Rattle.firing.specs.Fires.{Fires}
use Rattle.firing.proofs.Rowing.{row_start, row_end, row_more, row_found}
use Rattle.firing.proofs.fire_rows.Goals as goal

pub overflow_add-row : goal.overflow_add-row
overflow_add-row c = omega (arith, c.requires.1.1.1.0)

pub loop-i-init : goal.loop-i-init
loop-i-init c = let a = c.args in (omega arith, (omega (arith, c.min-at.ensures), (refl, row_start a.s.now a.funcs.now a.acts.now a.params.now a.first.at a.p a.row a.k c.wide-n.result c.min-at.result (c.wide-n.ensures.0 ∙ c.peek.ensures) c.min-at.ensures)))

pub sizes-z-requires : goal.sizes-z-requires
sizes-z-requires c = omega (arith, c.loop-i.invariant.1.0, c.requires.0)

pub overflow_add-at : goal.overflow_add-at
overflow_add-at c = omega (arith, c.loop-i.invariant.1.0, c.requires.0)

pub overflow_add-at-in-loop-i : goal.overflow_add-at-in-loop-i
overflow_add-at-in-loop-i c = omega (arith, c.loop-i.invariant.1.0, c.requires.0, c.wide.ensures.1)

pub seek-f-requires : goal.seek-f-requires
seek-f-requires c = let q = c.requires in (q.0, (q.1.0, (q.1.1.0, (omega (arith, c.loop-i.invariant.1.0, q.0, c.wide.ensures.1), c.sizes-z.ensures.0))))

pub values-requires : goal.values-requires
values-requires c = λ i h. (c.sizes-z.ensures.0 i h).0

pub environment-e-requires : goal.environment-e-requires
environment-e-requires c = let q = c.requires in (q.1.0, q.1.1.0)

pub fire_at-requires : goal.fire_at-requires
fire_at-requires c = let q = c.requires in (q.0, (omega (arith, c.seek-f.ensures.0), omega (arith, q.1.1.1.1, ap length c.loop-i.invariant.1.1.0)))

pub shape_of-made-in-Ok : goal.shape_of-made-in-Ok
shape_of-made-in-Ok c = c.fire_at.ensures.0.as_long ∙ ap length c.loop-i.invariant.1.1.0

pub returns-in-Ok : goal.returns-in-Ok
returns-in-Ok c = (
  let b = c.fire_at.ensures.0 in record { few_calls = b.few_calls; few_values = b.few_values; as_long = b.as_long ∙ ap length c.loop-i.invariant.1.1.0 },
  λ S Ps Δ vs hs rest there e here. let a = c.args in let l = c.loop-i in let v = c.values in let f = c.fire_at in let o = c.seek-f in
      let eb : l.at + 1 + c.wide.result ≡ l.at + 1 + get_or a.s.now l.at 0 = ap (λ (x : ℕ). l.at + 1 + x) (c.wide.ensures.0 ∙ c.peek-in-loop-i.ensures) in
      subst (λ (m : List ℕ). Fires S (get_elem? (all (fired frame_width S vs) hs) a.k) (length (all (fired frame_width S vs) hs)) (Ok f.result) m f.new.made) l.invariant.1.1.0
      (row_found a.s.now a.funcs.now a.acts.now a.params.now a.first.at a.p a.row a.k c.wide-n.result l.at l.left l.i c.loop-i-test.true l.invariant.1.1.1 c.sizes-z.result.at (l.at + 1 + c.wide.result) eb c.sizes-z.ensures.1 o.result o.ensures.1 c.in-Ok.j c.environment-e.result.at v.result.at l.made f.new.made f.result c.in-Ok.is v.ensures c.environment-e.ensures f.ensures.1 S Ps Δ vs hs rest there e here),
)

pub past-at-requires : goal.past-at-requires
past-at-requires c = (c.requires.0, omega (arith, c.seek-f.ensures.0))

pub loop-i-preserved : goal.loop-i-preserved
loop-i-preserved c = let a = c.args in let l = c.loop-i in let o = c.seek-f in
    let eb : l.at + 1 + c.wide.result ≡ l.at + 1 + get_or a.s.now l.at 0 = ap (λ (x : ℕ). l.at + 1 + x) (c.wide.ensures.0 ∙ c.peek-in-loop-i.ensures) in
    (omega arith, (c.past-at.ensures.0, (l.invariant.1.1.0, row_more a.s.now a.funcs.now a.acts.now a.params.now a.first.at a.p a.row a.k c.wide-n.result l.at l.left l.i c.loop-i-test.true l.invariant.1.1.1 c.sizes-z.result.at (l.at + 1 + c.wide.result) eb c.sizes-z.ensures.1 o.result o.ensures.1 c.past-at.result c.in-Err.rest c.in-Err.is c.past-at.ensures.1)))

pub shape_of-made : goal.shape_of-made
shape_of-made c = ap length c.loop-i.invariant.1.1.0

pub returns : goal.returns
returns c = (
  record { few_calls = tt; few_values = tt; as_long = ap length c.loop-i.invariant.1.1.0 },
  λ S Ps Δ vs hs rest there e here. let a = c.args in let l = c.loop-i in
      subst (λ (m : List ℕ). Fires S (get_elem? (all (fired frame_width S vs) hs) a.k) (length (all (fired frame_width S vs) hs)) (Err c.saturating_sub.result) a.made.now m) (sym l.invariant.1.1.0)
      (row_end a.s.now a.funcs.now a.acts.now a.params.now a.first.at a.p a.row a.k c.wide-n.result l.at l.left l.i c.saturating_sub.result a.made.now (omega arith) c.saturating_sub.ensures l.invariant.1.1.1 S Ps Δ vs hs rest there e here),
)
