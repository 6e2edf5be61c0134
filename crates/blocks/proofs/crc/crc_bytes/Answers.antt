-- The bytes before i have gone into the register: what is left of them makes the check of all. Eight bytes, or one, go in by the tables.
use mathlib.Core.Path.{◌≡◌, ap, ap₂, subst, subst⁻¹}
use Prim.Native.Nat.{ℕ, ◌+◌, ◌*◌, ◌/◌, ◌%◌, ◌<◌}
use native.Mathlib.Omega.{arith}
use lib.Bits.{bit_xor}
use lib.ListN.{length, drop, get_or}
use Rattle.pcrl.specs.Blocks.{crc_from, crc}
use Rattle.blocks.proofs.Register.{top_small, below_small}
use Rattle.blocks.proofs.Shifted as tables
use Rattle.blocks.proofs.Check.{one_byte_below, eight_bytes, eight_bytes_below, crc_starts, crc_eight, crc_one, crc_ends}
use Rattle.blocks.proofs.crc.crc_bytes.Goals as goal

pub loop-k-init : goal.loop-k-init
loop-k-init c = (omega arith, crc_starts c.args.s.now)

pub overflow_cast-top : goal.overflow_cast-top
overflow_cast-top c = let l = c.loop-k in let s = c.args.s.now in let b : (j : ℕ) → get_or s j 0 < 256 = λ j. omega (arith, c.type_inv.s j) in omega (arith, b (l.k * 8))

pub overflow_cast-low : goal.overflow_cast-low
overflow_cast-low c = let l = c.loop-k in let s = c.args.s.now in let b : (j : ℕ) → get_or s j 0 < 256 = λ j. omega (arith, c.type_inv.s j) in omega (arith, b (l.k * 8 + 1))

pub entry-requires : goal.entry-requires
entry-requires c = let l = c.loop-k in let s = c.args.s.now in let b : (j : ℕ) → get_or s j 0 < 256 = λ j. omega (arith, c.type_inv.s j) in top_small l.x (get_or s (l.k * 8) 0) l.invariant.0 (b (l.k * 8))

pub entry-requires-in-loop-k : goal.entry-requires-in-loop-k
entry-requires-in-loop-k c = let l = c.loop-k in let s = c.args.s.now in let b : (j : ℕ) → get_or s j 0 < 256 = λ j. omega (arith, c.type_inv.s j) in below_small l.x (get_or s (l.k * 8) 0) l.invariant.0 (b (l.k * 8)) (get_or s (l.k * 8 + 1) 0) (b (l.k * 8 + 1))

pub loop-k-preserved : goal.loop-k-preserved
unfolding tables.once tables.twice tables.thrice tables.four tables.five tables.six tables.seven tables.eight
loop-k-preserved c =
    let l = c.loop-k in let s = c.args.s.now in
    let room : l.k * 8 + 7 < length s = omega (arith, c.loop-k-test.true) in
    let b : (j : ℕ) → get_or s j 0 < 256 = λ j. omega (arith, c.type_inv.s j) in let inv = l.invariant in
    let next : l.k * 8 + 8 ≡ (l.k + 1) * 8 = omega arith in
    let last = ap₂ bit_xor c.entry_at.ensures (ap₂ bit_xor c.entry_at-in-loop-k.ensures c.entry_at-in-loop-k-2.ensures) in
    let rest = ap₂ bit_xor c.entry_at-in-loop-k-3.ensures (ap₂ bit_xor c.entry_at-in-loop-k-4.ensures (ap₂ bit_xor c.entry_at-in-loop-k-5.ensures last)) in
    let e = ap₂ bit_xor (ap₂ bit_xor c.entry.ensures c.entry-in-loop-k.ensures) rest in
    (subst⁻¹ (λ (y : ℕ). y < 65536) e (eight_bytes_below l.x inv.0 (get_or s (l.k * 8) 0) (b (l.k * 8)) (get_or s (l.k * 8 + 1) 0) (b (l.k * 8 + 1)) (get_or s (l.k * 8 + 2) 0) (b (l.k * 8 + 2)) (get_or s (l.k * 8 + 3) 0) (b (l.k * 8 + 3)) (get_or s (l.k * 8 + 4) 0) (b (l.k * 8 + 4)) (get_or s (l.k * 8 + 5) 0) (b (l.k * 8 + 5)) (get_or s (l.k * 8 + 6) 0) (b (l.k * 8 + 6)) (get_or s (l.k * 8 + 7) 0) (b (l.k * 8 + 7))), subst⁻¹ (λ (y : ℕ). crc_from y (drop ((l.k + 1) * 8) s) ≡ crc s) e (subst (λ (j : ℕ). crc_from (eight_bytes l.x (get_or s (l.k * 8) 0) (get_or s (l.k * 8 + 1) 0) (get_or s (l.k * 8 + 2) 0) (get_or s (l.k * 8 + 3) 0) (get_or s (l.k * 8 + 4) 0) (get_or s (l.k * 8 + 5) 0) (get_or s (l.k * 8 + 6) 0) (get_or s (l.k * 8 + 7) 0)) (drop j s) ≡ crc s) next (crc_eight s l.x (l.k * 8) inv.0 b inv.1 room)))

pub loop-i-init : goal.loop-i-init
loop-i-init c =
    let l = c.loop-k in let s = c.args.s.now in
    let done : l.k ≡ length s / 8 = omega arith in
    (omega arith, l.invariant.0, subst (λ (n : ℕ). crc_from l.x (drop (n * 8) s) ≡ crc s) done l.invariant.1)

pub overflow_cast-top-in-loop-i : goal.overflow_cast-top-in-loop-i
overflow_cast-top-in-loop-i c = let l = c.loop-i in let s = c.args.s.now in let b : (j : ℕ) → get_or s j 0 < 256 = λ j. omega (arith, c.type_inv.s j) in omega (arith, b l.i)

pub entry-requires-in-loop-i : goal.entry-requires-in-loop-i
entry-requires-in-loop-i c = let l = c.loop-i in let s = c.args.s.now in let b : (j : ℕ) → get_or s j 0 < 256 = λ j. omega (arith, c.type_inv.s j) in top_small l.x (get_or s l.i 0) l.invariant.1 (b l.i)

pub loop-i-preserved : goal.loop-i-preserved
unfolding tables.once
loop-i-preserved c =
    let l = c.loop-i in let s = c.args.s.now in
    let b : (j : ℕ) → get_or s j 0 < 256 = λ j. omega (arith, c.type_inv.s j) in let inv = l.invariant in
    let e = ap (bit_xor (l.x % 256 * 256)) c.entry-in-loop-i.ensures in
    (omega arith, subst⁻¹ (λ (y : ℕ). y < 65536) e (one_byte_below l.x (get_or s l.i 0) inv.1 (b l.i)), subst⁻¹ (λ (y : ℕ). crc_from y (drop (l.i + 1) s) ≡ crc s) e (crc_one s l.x l.i inv.1 b inv.2 (omega arith)))

pub returns : goal.returns
returns c = crc_ends c.args.s.now c.loop-i.x c.loop-i.i (omega arith) c.loop-i.invariant.2
