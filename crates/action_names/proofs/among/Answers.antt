-- The name is none of those passed: what is left to look through are the names from an index on.
use mathlib.Core.Path.{◌∙◌, ap, refl, sym}
use Prim.Native.Nat.{◌+◌}
use native.Mathlib.Omega.{arith}
use Rattle.std.specs.Cmp.Lexicographic.{same_text, other_text}
use Rattle.action_names.proofs.Alike.{found_among, none_among, passed_among}
use Rattle.terms.specs.Stands.{list_at}
use Rattle.action_names.proofs.among.Goals as goal

pub loop-p-init : goal.loop-p-init
loop-p-init c = (c.requires, refl)

pub returns-then-eq : goal.returns-then-eq
returns-then-eq c =
    let here = c.loop-p in
    let args = c.args in
    let other = c.list_at-other.result.now in
    sym (here.invariant.1 ∙ found_among (λ p. list_at args.s.now (p + args.skip)) args.places.now here.p-index args.name.now other (omega arith) (c.list_at-other.ensures ∙ ap (λ p. list_at args.s.now (p + args.skip)) c.wide.ensures.0) (same_text args.name.now other c.if-eq.ensures))

pub loop-p-preserved : goal.loop-p-preserved
loop-p-preserved c =
    let here = c.loop-p in
    let args = c.args in
    let other = c.list_at-other.result.now in
    (here.invariant.0, here.invariant.1 ∙ passed_among (λ p. list_at args.s.now (p + args.skip)) args.places.now here.p-index args.name.now other (here.p-index + 1) (omega arith) (omega arith) (c.list_at-other.ensures ∙ ap (λ p. list_at args.s.now (p + args.skip)) c.wide.ensures.0) (λ e. other_text args.name.now other c.if-eq.ensures e))

pub returns : goal.returns
returns c = let args = c.args in sym (c.loop-p.invariant.1 ∙ none_among (λ p. list_at args.s.now (p + args.skip)) args.places.now c.loop-p.p-index args.name.now (omega arith))
