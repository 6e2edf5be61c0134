-- The questions in their order.
use native.Mathlib.Omega.{arith}
use mathlib.Core.Path.{refl, sym, ap, ◌∙◌}
use lib.ListN.{length}
use Rattle.pcrl.specs.Result.{accepted}
use Rattle.laws.specs.Says.{said_yes, said_no}
use Rattle.refusals.specs.declared.Refusal.TheVariants.{NoRoom, NoText}
use Rattle.printer.proofs.Seventeen.{delivered_refused, delivered_text, wrote_front, no_room, some_room, whole, too_long, too_many, not_apart, fit}
use Rattle.printer.proofs.delivery.deliver.Goals as goal

pub returns-then-m-gt-MAX_BYTES : goal.returns-then-m-gt-MAX_BYTES
returns-then-m-gt-MAX_BYTES c = λ U right front m free. let a = c.args in delivered_refused _ a.out.now NoText (too_long U right _ a.text.now front (omega arith))

pub returns-then-n-gt-MAX_PROCESSES : goal.returns-then-n-gt-MAX_PROCESSES
returns-then-n-gt-MAX_PROCESSES c = λ U right front m free. let a = c.args in delivered_refused _ a.out.now NoText (too_many U right _ a.text.now front (omega arith))

pub returns-then-not-tokens_apart : goal.returns-then-not-tokens_apart
returns-then-not-tokens_apart c = λ U right front m free. let a = c.args in delivered_refused _ a.out.now NoText (not_apart U right _ a.text.now front (omega arith) (said_no c.tokens_apart.result c.tokens_apart.ensures c.if-not-tokens_apart.true))

pub returns-then-out-m : goal.returns-then-out-m
returns-then-out-m c = λ U right front m free. let a = c.args in
    let same = whole U right 0 a.text.now front (omega arith) in
    let fits = fit U right 0 a.text.now front (omega arith) (said_yes c.tokens_apart.result c.tokens_apart.ensures c.if-not-tokens_apart.false) (omega arith) free in
    delivered_refused _ a.out.now NoRoom (no_room U right _ fits (let n = ap length same in omega arith))

pub returns : goal.returns
returns c = λ U right front m free. let a = c.args in
    let same = whole U right 0 a.text.now front (omega arith) in
    let fits = fit U right 0 a.text.now front (omega arith) (said_yes c.tokens_apart.result c.tokens_apart.ensures c.if-not-tokens_apart.false) (omega arith) free in
    let n = ap length same in
    delivered_text _ a.text.now a.out.now _ _ (some_room U right _ fits (omega arith) ∙ ap accepted (sym same)) refl (wrote_front a.out.now a.text.now _ _ c.put_bytes.ensures (omega arith))
