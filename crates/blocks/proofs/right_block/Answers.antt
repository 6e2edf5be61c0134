-- Number, count and check are compared in turn; each that differs shows that the block is not the one that is written.
use mathlib.Core.Path.{◌≡◌, sym, ◌∙◌}
use Prim.Native.Nat.{ℕ, ◌<◌}
use native.Mathlib.Omega.{arith}
use borrow.Author.Tests.{eqb-true, eqb-false}
use lib.ListN.{take, get_or}
use Rattle.pcrl.specs.Blocks.{crc}
use Rattle.laws.specs.Says.{says}
use Rattle.blocks.proofs.RightBlock.{right_number, right_count, right_check, right_block}
use Rattle.blocks.proofs.right_block.Goals as goal

pub returns-then-pair-number : goal.returns-then-pair-number
returns-then-pair-number c =
    let a = c.args in
    λ e. c.if-pair-number.true (c.pair.ensures ∙ right_number a.block.now a.number a.count c.requires.0 e c.requires.1)

pub returns-then-pair-count : goal.returns-then-pair-count
returns-then-pair-count c =
    let a = c.args in
    λ e. c.if-pair-count.true (c.pair-2.ensures ∙ right_count a.block.now a.number a.count c.requires.0 e c.requires.2)

pub returns : goal.returns
returns c =
    let a = c.args in
    let b = a.block.now in
    let len = c.requires.0 in
    let x : c.crc16.result ≡ crc (take 510 b) = c.crc16.ensures in
    let read = c.pair-3.ensures in
    let bytes : (i : ℕ) → get_or b i 0 < 256 = λ i. omega (arith, c.type_inv.block i) in
    let number = sym c.pair.ensures ∙ c.if-pair-number.false in
    let count = sym c.pair-2.ensures ∙ c.if-pair-count.false in
    let small : crc (take 510 b) < 65536 = omega arith in
    says _
    (λ e. right_block b a.number a.count len bytes number count (sym x ∙ eqb-true _ _ e ∙ read))
    (λ e k. eqb-false _ _ e (x ∙ right_check b a.number a.count len k small ∙ sym read))
