-- The label is that of the action read, the frames are those of the calls.
use Rattle.firing.proofs.Framing.{frames_wide}
use native.Mathlib.Omega.{arith}
use Prim.Native.Nat.{ℕ, min}
use mathlib.Core.Path.{sym, ◌∙◌, ap}
use mathlib.Core.List.{◌++◌}
use lib.ListN.{length-map}
use Rattle.pcrl.specs.Limits.{frame_width}
use Rattle.pcrl.specs.Sheet.{takes_of}
use Rattle.pcrl.specs.Stream.{encode_list, encode_call}
use Rattle.pcrl.specs.Steps.{call_frame}
use Rattle.firing.proofs.Skipping.{terms_here, arity_is, count_is, first_call, label_given}
use Rattle.firing.proofs.fire_at.Goals as goal

pub returns : goal.returns
returns c = (
  record { few_calls = omega (arith, c.min-k.ensures); few_values = c.action_arity-n.ensures.0; as_long = c.frames_at.ensures.0 },
  λ S Ps Γ vs act ts cs rest valued parts is right calls few here. let a = c.args in
      let en = arity_is S Ps a.s.now a.funcs.now a.acts.now a.params.now a.e.now Γ vs act ts cs rest valued parts is right calls few a.at here c.peek-b.result c.action_arity-n.result c.peek-b.ensures c.action_arity-n.ensures.1 in
      let t = c.terms_at-m.ensures.1.1 S Γ vs (takes_of S act) ts (encode_list encode_call cs ++ rest) valued right (en ∙ sym c.wide.ensures.0) (terms_here S Ps a.s.now a.funcs.now a.acts.now a.params.now a.e.now Γ vs act ts cs rest valued parts is right calls few a.at here) in
      let k = count_is S Ps a.s.now a.funcs.now a.acts.now a.params.now a.e.now Γ vs act ts cs rest valued parts is right calls few a.at here c.terms_at-m.result c.min-k.result t.1 (c.min-k.ensures ∙ ap (λ (x : ℕ). min x 8) (c.wide-2.ensures.0 ∙ c.peek.ensures)) in
      let f = c.frames_at.ensures.1 S Ps a.acts.now Γ vs cs rest valued parts calls k (first_call S Ps a.s.now a.funcs.now a.acts.now a.params.now a.e.now Γ vs act ts cs rest valued parts is right calls few a.at here c.terms_at-m.result t.1) in
      record { label_is = label_given S Ps a.s.now a.funcs.now a.acts.now a.params.now a.e.now Γ vs act ts cs rest valued parts is right calls few a.at here c.peek-b.result c.action_arity-n.result _ _ c.peek-b.ensures en t.0; calls_are = sym (length-map cs (call_frame frame_width S vs) ∙ k); frames_are = f; wide = frames_wide S Ps Γ vs parts.few_params cs calls },
)
