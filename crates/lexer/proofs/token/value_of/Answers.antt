-- `lexer::token::value_of`: the value so far and the digits left spell the whole; a value above the most only grows.
use mathlib.Core.Path.{◌≡◌, sym, ap, ◌∙◌}
use Prim.Native.Nat.{ℕ, ◌+◌, ◌*◌}
use native.Mathlib.Omega.{arith}
use lib.ListN.{drop}
use Rattle.pcrl.specs.Tokens.{value_of}
use Rattle.lexer.specs.Classes.{capped}
use Rattle.lexer.proofs.Reading.{value_ge, value_step, value_end, capped_over, capped_within}
use Rattle.lexer.proofs.token.value_of.Goals as goal

pub returns-then-v-gt-MAX_NUMERAL : goal.returns-then-v-gt-MAX_NUMERAL
returns-then-v-gt-MAX_NUMERAL c = let t = c.args.t.now in let v = c.loop-b.v in let i = c.loop-b.b-index in
    let e : value_of (v * 10 + c.digit_value.result) (drop (i + 1) t) ≡ value_of 0 t
    = ap (λ (x : ℕ). value_of (v * 10 + x) (drop (i + 1) t)) c.digit_value.ensures ∙ sym (value_step v t i (omega arith)) ∙ c.loop-b.invariant.1 in
    capped_over (value_of 0 t) (omega (arith, value_ge (v * 10 + c.digit_value.result) (drop (i + 1) t)))

pub loop-b-preserved : goal.loop-b-preserved
loop-b-preserved c = let t = c.args.t.now in let v = c.loop-b.v in let i = c.loop-b.b-index in
    (omega arith, ap (λ (x : ℕ). value_of (v * 10 + x) (drop (i + 1) t)) c.digit_value.ensures ∙ sym (value_step v t i (omega arith)) ∙ c.loop-b.invariant.1)

pub returns : goal.returns
returns c = capped_within c.loop-b.v (omega arith) ∙ ap capped (sym (value_end c.loop-b.v c.args.t.now c.loop-b.b-index (omega arith)) ∙ c.loop-b.invariant.1)
