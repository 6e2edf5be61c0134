-- Two names are compared byte by byte. The runs from here on are the same exactly if the names are.
use mathlib.Core.Path.{sym, ◌∙◌}
use Prim.Native.Nat.{◌+◌}
use native.Mathlib.Omega.{arith}
use Rattle.names.proofs.Runs.{alike_start, alike_end, apart_first, apart_second, both_end, both_go, shown_past}
use Rattle.names.proofs.find.same_name.Goals as goal

pub loop-i-init : goal.loop-i-init
loop-i-init c =
    let start = c.args in
    alike_start start.s.now start.a start.b _ _ (omega (arith, c.first_byte-p.ensures)) (omega (arith, c.first_byte-q.ensures))

pub overflow_add-p : goal.overflow_add-p
overflow_add-p c = omega (arith, c.first_byte-p.ensures)

pub overflow_add-q : goal.overflow_add-q
overflow_add-q c = omega (arith, c.first_byte-q.ensures)

pub returns-then-letter-ne0 : goal.returns-then-letter-ne0
returns-then-letter-ne0 c =
    let start = c.args in
    let here = c.loop-i in
    let p = c.first_byte-p.result in
    let q = c.first_byte-q.result in
    let x = c.peek-x in
    let y = c.peek-y in
    let shows = c.letter.ensures in
    apart_first start.s.now start.a start.b (p + here.i) (q + here.i) x.result y.result here.invariant x.ensures y.ensures c.if-x-y.true (λ z. c.if-letter-ne0.true (shows ∙ z))

pub returns-then-letter-ne0-2 : goal.returns-then-letter-ne0-2
returns-then-letter-ne0-2 c =
    let start = c.args in
    let here = c.loop-i in
    let p = c.first_byte-p.result in
    let q = c.first_byte-q.result in
    let x = c.peek-x in
    let y = c.peek-y in
    apart_second start.s.now start.a start.b (p + here.i) (q + here.i) x.result y.result here.invariant x.ensures y.ensures (sym c.letter.ensures ∙ c.if-letter-ne0.false) (λ z. c.if-letter-ne0-2.true (c.letter-then-x-y.ensures ∙ z))

pub returns-then-x-y : goal.returns-then-x-y
returns-then-x-y c =
    let start = c.args in
    let here = c.loop-i in
    let p = c.first_byte-p.result in
    let q = c.first_byte-q.result in
    let x = c.peek-x in
    let y = c.peek-y in
    both_end start.s.now start.a start.b (p + here.i) (q + here.i) x.result y.result here.invariant x.ensures y.ensures (sym c.letter.ensures ∙ c.if-letter-ne0.false) (sym c.letter-then-x-y.ensures ∙ c.if-letter-ne0-2.false)

pub returns-then-letter-eq0 : goal.returns-then-letter-eq0
returns-then-letter-eq0 c =
    let start = c.args in
    let here = c.loop-i in
    let p = c.first_byte-p.result in
    let q = c.first_byte-q.result in
    let x = c.peek-x in
    let y = c.peek-y in
    let none = sym c.letter-in-loop-i.ensures ∙ c.if-letter-eq0.true in
    both_end start.s.now start.a start.b (p + here.i) (q + here.i) x.result y.result here.invariant x.ensures y.ensures none (rw c.if-x-y.false at none)

pub loop-i-preserved : goal.loop-i-preserved
loop-i-preserved c =
    let start = c.args in
    let here = c.loop-i in
    let p = c.first_byte-p.result in
    let q = c.first_byte-q.result in
    let x = c.peek-x in
    let y = c.peek-y in
    both_go start.s.now start.a start.b (p + here.i) (q + here.i) x.result y.result here.invariant x.ensures y.ensures _ _ c.if-x-y.false (λ z. c.if-letter-eq0.false (c.letter-in-loop-i.ensures ∙ z)) (omega arith) (omega arith)

pub returns : goal.returns
returns c =
    let s = c.args.s.now in
    alike_end s c.args.a c.args.b (c.first_byte-p.result + c.loop-i.i) (c.first_byte-q.result + c.loop-i.i) c.loop-i.invariant (shown_past s _ (omega arith)) (shown_past s _ (omega arith))
