-- `sheet::lines_of` meets its contract. The invariant: the reader goes on from a later place; there are no more lines than tokens before.
use Prim.Native.Nat.{◌+◌, ◌<◌}
use mathlib.Core.Path.{sym, ◌∙◌}
use native.Mathlib.Omega.{arith}
use mathlib.Core.List.{[]}
use lib.ListN.{length}
use Rattle.parser.proofs.Reaching.{past_meets, meets, reaches, some_run, no_run}
use Rattle.laws.specs.Places.{get_or_positive}
use Rattle.parser.specs.Kinds.{kind_of}
use Rattle.parser.proofs.RunLaws.{run_then, kind_sign, run_none, run_more}
use Rattle.parser.proofs.sheet.lines_of.Goals as goal

pub returns-in_err-a-clause-read : goal.returns-in_err-a-clause-read
returns-in_err-a-clause-read c =
    let q = c.requires in
    let l = get_or_positive c.args.toks.now c.loop-places.from (omega (arith, c.peek.ensures, c.loop-places-test.true)) in
    rw c.from_residual.ensures (λ i s f g m k. no_run (record { at = length c.args.toks.now + 1; w = 0; count = 0 }) {o₁ = []} {p₁ = []} (omega arith) ((c.loop-places.invariant.4 i s f m).on (omega arith)
    (λ j. run_more (kind_sign c.args.word (omega arith) (omega arith)) ((kind_of c.args.word).reader f) s c.args.toks.now c.loop-places.from c.loop-places.v c.loop-places.i c.loop-places.out c.loop-places.places (sym c.peek.ensures ∙ c.loop-places-test.true) c.short.ensures c.put.ensures (reaches (c.in_err-a.ensures.read s f m)) (omega arith) (past_meets c.args.toks.now 59 (omega arith)) (omega arith) (omega arith) (λ z. absurd (omega arith))) g k))

pub returns-in_err-from-clause-read : goal.returns-in_err-from-clause-read
returns-in_err-from-clause-read c =
    let q = c.requires in
    let l = get_or_positive c.args.toks.now c.loop-places.from (omega (arith, c.peek.ensures, c.loop-places-test.true)) in
    rw c.from_residual-in_err-from.ensures (λ i s f g m k. no_run (record { at = length c.args.toks.now + 1; w = 0; count = 0 }) {o₁ = []} {p₁ = []} (omega arith) ((c.loop-places.invariant.4 i s f m).on (omega arith)
    (λ j. run_more (kind_sign c.args.word (omega arith) (omega arith)) ((kind_of c.args.word).reader f) s c.args.toks.now c.loop-places.from c.loop-places.v c.loop-places.i c.loop-places.out c.loop-places.places (sym c.peek.ensures ∙ c.loop-places-test.true) c.short.ensures c.put.ensures (reaches (c.in_ok-a.ensures.read s f m)) (omega (arith, c.in_ok-a.ensures.ahead)) (meets c.in_err-from.ensures.read) (omega arith) (omega arith) (λ z. absurd (omega arith))) g k))

pub loop-places-preserved : goal.loop-places-preserved
loop-places-preserved c =
    let q = c.requires in
    let l = get_or_positive c.args.toks.now c.loop-places.from (omega (arith, c.peek.ensures, c.loop-places-test.true)) in
    let b : c.loop-places.from < c.in_ok-from.from = omega (arith, c.in_ok-a.ensures.ahead, c.in_ok-from.ensures.ahead) in (
      omega (arith, c.loop-places.invariant.0, b),
      omega (arith, c.loop-places.invariant.1, b),
      omega (arith, c.loop-places.invariant.2, c.line.auto.out),
      omega (arith, c.loop-places.invariant.3, c.put.auto.out),
      λ i s f m. run_then (c.loop-places.invariant.4 i s f m) (omega (arith, b)) (record { on = run_more (kind_sign c.args.word (omega arith) (omega arith)) ((kind_of c.args.word).reader f) s c.args.toks.now c.loop-places.from c.loop-places.v c.loop-places.i c.loop-places.out c.loop-places.places (sym c.peek.ensures ∙ c.loop-places-test.true) c.short.ensures c.put.ensures (reaches (c.in_ok-a.ensures.read s f m)) (omega (arith, c.in_ok-a.ensures.ahead, c.in_ok-from.ensures.ahead)) (meets c.in_ok-from.ensures.read) b }),
      λ i. omega (arith, c.in_ok-a.ensures.ahead, c.in_ok-from.ensures.ahead),
    )

pub returns-clause-read : goal.returns-clause-read
returns-clause-read c =
    let q = c.requires in λ i s f g m k. some_run _ (c.loop-places.invariant.5 i) ((c.loop-places.invariant.4 i s f m).on (omega arith)
    (λ j. run_none (kind_sign c.args.word (omega arith) (omega arith)) ((kind_of c.args.word).reader f) s c.args.toks.now c.loop-places.from c.loop-places.v c.loop-places.i c.loop-places.out c.loop-places.places j (λ e. c.loop-places-test.false (c.peek.ensures ∙ e))) g k)
