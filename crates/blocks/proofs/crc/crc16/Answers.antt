-- `blocks::crc::crc16`: zeros are passed, first many at a time, then a few.
use Prim.Native.Nat.{ℕ, ◌+◌, ◌-◌, ◌*◌, ◌/◌, ◌%◌}
use native.Mathlib.Omega.{arith}
use mathlib.Core.Path.{◌≡◌, refl, ap₂, subst}
use lib.Bits.{bit_xor}
use lib.ListN.{length}
use Rattle.blocks.proofs.Check.{crc_ends}
use Rattle.blocks.proofs.ZeroTables as tables
use Rattle.blocks.proofs.PassingZeros.{Passing, passing_more, crc_front}
use Rattle.blocks.proofs.crc.crc16.Goals as goal

pub loop-init : goal.loop-init
loop-init c =
    let s = c.args.s.now in
    let z = c.before_zeros-start in
    let here : z.result ≡ z.result + 0 * 160 = omega arith in
    let start : Passing s z.result c.crc_bytes-x.result = (z.ensures.0, z.ensures.1, omega arith, z.ensures.2, crc_front s c.crc_bytes-x.result z.result z.result refl c.crc_bytes-x.ensures) in
    subst (λ (i : ℕ). Passing s i c.crc_bytes-x.result) here start

pub loop-preserved : goal.loop-preserved
unfolding tables.many_high tables.many_low
loop-preserved c =
    let s = c.args.s.now in
    let l = c.loop in
    let start = c.before_zeros-start.result in
    let e = ap₂ bit_xor c.entry.ensures c.entry-in-loop.ensures in
    let more = passing_more 159 tables.many_high tables.many_low tables.many_high_entry tables.many_low_entry refl s (start + l.counter * 160) l.x _ e (omega arith) l.invariant in
    let next : start + l.counter * 160 + 160 ≡ start + (l.counter + 1) * 160 = omega arith in
    subst (λ (i : ℕ). Passing s i (bit_xor c.entry.result c.entry-in-loop.result)) next more

pub loop-2-init : goal.loop-2-init
loop-2-init c =
    let s = c.args.s.now in
    let l = c.loop in
    let start = c.before_zeros-start.result in
    let here : start + l.counter * 160 ≡ start + (length s - start) / 160 * 160 + 0 * 32 = omega arith in
    subst (λ (i : ℕ). Passing s i l.x) here l.invariant

pub loop-2-preserved : goal.loop-2-preserved
unfolding tables.few_high tables.few_low
loop-2-preserved c =
    let s = c.args.s.now in
    let l = c.loop-2 in
    let start = c.before_zeros-start.result in
    let at = start + (length s - start) / 160 * 160 in
    let e = ap₂ bit_xor c.entry-in-loop-2.ensures c.entry-in-loop-2-2.ensures in
    let more = passing_more 31 tables.few_high tables.few_low tables.few_high_entry tables.few_low_entry refl s (at + l.counter * 32) l.x _ e (omega arith) l.invariant in
    let next : at + l.counter * 32 + 32 ≡ at + (l.counter + 1) * 32 = omega arith in
    subst (λ (i : ℕ). Passing s i (bit_xor c.entry-in-loop-2.result c.entry-in-loop-2-2.result)) next more

pub returns : goal.returns
returns c =
    let s = c.args.s.now in
    let l = c.loop-2 in
    let start = c.before_zeros-start.result in
    let even : (length s - start) % 32 ≡ 0 = c.before_zeros-start.ensures.1 in
    let end : start + (length s - start) / 160 * 160 + l.counter * 32 ≡ length s = omega (arith, even) in
    crc_ends s l.x _ end l.invariant.4
