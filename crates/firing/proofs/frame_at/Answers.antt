-- The number, the values of the terms and zeros behind them.
use mathlib.Core.List.{[]}
use native.Mathlib.Omega.{arith}
use Prim.Native.Nat.{ℕ}
use mathlib.Core.Path.{◌≡◌, sym, ◌∙◌, ap}
use lib.ListN.{length, get_or, replicate}
use Rattle.firing.proofs.Framing.{room, part_room, kept_length, call_bytes, call_number, call_terms, call_there, call_sorts, call_length}
use Rattle.firing.proofs.frame_at.Goals as goal

pub slice_bounds-terms_at-end : goal.slice_bounds-terms_at-end
slice_bounds-terms_at-end c = let ec : c.fill.new.self ≡ replicate 5 0 = c.fill.ensures.after (λ y h. h) ∙ ap (λ (n : ℕ). replicate n 0) c.requires.1.1 in let r = room 4 c.peek-b.result c.fill.new.self ec in omega arith

pub shape_of-out : goal.shape_of-out
shape_of-out c = let ec : c.fill.new.self ≡ replicate 5 0 = c.fill.ensures.after (λ y h. h) ∙ ap (λ (n : ℕ). replicate n 0) c.requires.1.1 in kept_length 4 c.peek-b.result c.fill.new.self ec c.terms_at.new.out (c.terms_at.ensures.1.0 ∙ part_room 4 c.peek-b.result c.fill.new.self ec) ∙ sym c.requires.1.1

pub returns : goal.returns
returns c = (
  c.terms_at.ensures.0,
  (
    let ec : c.fill.new.self ≡ replicate 5 0 = c.fill.ensures.after (λ y h. h) ∙ ap (λ (n : ℕ). replicate n 0) c.requires.1.1 in kept_length 4 c.peek-b.result c.fill.new.self ec c.terms_at.new.out (c.terms_at.ensures.1.0 ∙ part_room 4 c.peek-b.result c.fill.new.self ec) ∙ sym c.requires.1.1,
    λ S Ps acts Γ vs q rest valued known right here. let a = c.args in let s = a.s.now in let ec : c.fill.new.self ≡ replicate 5 0 = c.fill.ensures.after (λ y h. h) ∙ ap (λ (n : ℕ). replicate n 0) c.requires.1.1 in
        let number : c.wide.result ≡ q.0 = c.wide.ensures.0 ∙ c.peek-b.ensures ∙ call_number S Ps s acts a.params.now Γ vs q rest a.at known right here in
        let there = call_there S Ps s acts a.params.now Γ vs q rest a.at known right here in
        let count : c.wide-n.result ≡ length q.1 = c.wide-n.ensures.0 ∙ c.parameters.ensures.1 S Ps acts known (omega arith) ∙ ap (λ (x : ℕ). length (get_or Ps x [])) number ∙ sym (call_length S Ps s acts a.params.now Γ vs q rest a.at known right here) in
        let t = c.terms_at.ensures.1.1 S Γ vs (get_or Ps q.0 []) q.1 rest valued (call_sorts S Ps s acts a.params.now Γ vs q rest a.at known right here) (sym count) (call_terms S Ps s acts a.params.now Γ vs q rest a.at known right here) in
        (call_bytes S Ps s acts a.params.now Γ vs q rest a.at known right here c.peek-b.result c.wide-n.result c.fill.new.self c.terms_at.new.out ec c.peek-b.ensures count t.0, t.1),
  ),
)
