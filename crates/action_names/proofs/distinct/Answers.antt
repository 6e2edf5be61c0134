-- The names passed are none of those behind them: what is left to look through are the names from k on.
use mathlib.Core.Path.{◌≡◌, ◌∙◌, ap, refl, sym}
use mathlib.Core.List.{List, map}
use Prim.Native.Nat.{ℕ, ◌+◌, ◌-◌}
use native.Mathlib.Omega.{arith}
use lib.ListN.{drop, length, length-drop, take}
use lib.Seq.{take_all}
use Rattle.pcrl.specs.Tests.{among}
use Rattle.action_names.proofs.Alike.{distinct_more, distinct_none, not_distinct}
use Rattle.terms.specs.Stands.{list_at}
use Rattle.action_names.proofs.distinct.Goals as goal

pub loop-k-init : goal.loop-k-init
loop-k-init c = (c.requires, refl)

-- the places behind k, as a slice to the end
behind : (places : List ℕ) (j : ℕ) → drop j places ≡ take (length places - j) (drop j places)
behind places j = sym (take_all (length places - j) (drop j places) (omega (arith, length-drop j places)))

pub returns-then-among : goal.returns-then-among
returns-then-among c =
    let here = c.loop-k in
    let args = c.args in
    let name : ℕ → List ℕ = λ p. list_at args.s.now (p + args.skip) in
    let found = ap (λ (ps : List ℕ). among c.list_at-name.result.now (map name ps)) (behind args.places.now (here.k + 1)) ∙ sym c.among.ensures ∙ c.if-among.true in
    sym (here.invariant.1 ∙ not_distinct name args.places.now here.k c.list_at-name.result.now (here.k + 1) (omega arith) (omega arith) (c.list_at-name.ensures ∙ ap name c.cell.ensures.0) found)

pub loop-k-preserved : goal.loop-k-preserved
loop-k-preserved c =
    let here = c.loop-k in
    let args = c.args in
    let name : ℕ → List ℕ = λ p. list_at args.s.now (p + args.skip) in
    let found = ap (λ (ps : List ℕ). among c.list_at-name.result.now (map name ps)) (behind args.places.now (here.k + 1)) ∙ sym c.among.ensures ∙ c.if-among.false in
    (here.invariant.0, here.invariant.1 ∙ distinct_more name args.places.now here.k c.list_at-name.result.now (here.k + 1) (omega arith) (omega arith) (c.list_at-name.ensures ∙ ap name c.cell.ensures.0) found)

pub returns : goal.returns
returns c = let args = c.args in sym (c.loop-k.invariant.1 ∙ distinct_none (λ p. list_at args.s.now (p + args.skip)) args.places.now c.loop-k.k (omega arith))
