-- `heads::waiting::later_at` meets its contract.
-- Each need is a law over plain lists and numbers: `omega` then reads no record of the places.
use mathlib.Core.Path.{◌≡◌, sym, ap, ◌∙◌}
use mathlib.Core.Bool.{true}
use Prim.Native.Nat.{ℕ, ◌+◌, ◌*◌, ◌/◌, ◌%◌, ◌<◌, ◌≤◌}
use native.Mathlib.Omega.{arith}
use mathlib.Core.List.{List}
use lib.ListN.{length, get_or, drop}
use lib.Seq.{get_or-take, get_or-drop}
use mir.Syntax.{w64}
use mir.Val.{Fits}
use Rattle.heads.specs.declared.waiting.Later.{Later}
use Rattle.heads.specs.Stack.{later_cells, unpacked, slab, entry}
use Rattle.heads.proofs.waiting.later_at.Goals as goal

abbrev most : ℕ
most = 4611686018427387904

at-slab : (l : List ℕ) (q k : ℕ) → k < later_cells → get_or l (later_cells * q + k) 0 ≡ get_or (slab l q) k 0
unfolding slab
at-slab l q k h = sym (get_or-take later_cells (drop (later_cells * q) l) k 0 h ∙ get_or-drop (later_cells * q) l k 0)

at_first : (l : List ℕ) (q : ℕ) → get_or l (later_cells * q) 0 ≡ get_or (slab l q) 0 0
at_first l q = let z : later_cells * q + 0 ≡ later_cells * q = omega arith in ap (λ (i : ℕ). get_or l i 0) (sym z) ∙ at-slab l q 0 (omega arith)

first : (q n : ℕ) → later_cells * q + later_cells ≤ n → n ≤ most → Fits w64 (later_cells * q)
first q n h g = record { fits = omega arith }

fit : (q n k : ℕ) → k < later_cells → later_cells * q + later_cells ≤ n → n ≤ most → Fits w64 (later_cells * q + k)
fit q n k f h g = record { fits = omega arith }

at_1 : 1 < later_cells
at_1 = omega arith

at-2 : 2 < later_cells
at-2 = omega arith

at-3 : 3 < later_cells
at-3 = omega arith

at-4 : 4 < later_cells
at-4 = omega arith

at_5 : 5 < later_cells
at_5 = omega arith

at-6 : 6 < later_cells
at-6 = omega arith

read : (l : List ℕ) (q fuel a x y d t n z : ℕ)
    → a ≡ get_or l (later_cells * q) 0
    → x ≡ get_or l (later_cells * q + 1) 0
    → y ≡ get_or l (later_cells * q + 2) 0
    → d ≡ get_or l (later_cells * q + 3) 0
    → t ≡ get_or l (later_cells * q + 4) 0
    → n ≡ get_or l (later_cells * q + 5) 0
    → z ≡ get_or l (later_cells * q + 6) 0
    → ◌≡◌ {A = Later} (record {
      s = record { at = a; fuel = fuel; n = x / 64; m = x % 64; c = z / 256; nv = y / 256; nc = y / 16 % 16; lc = d; nk = y % 16; top = t };
      e = record { second = true; at = n; c = z / 256 };
      heads = z % 256;
    }) (entry l q fuel)
unfolding entry unpacked
read l q fuel a x y d t n z e₁ e₂ e₃ e₄ e₅ e₆ e₇ =
    let f₁ = e₁ ∙ at_first l q in
    let f₂ = e₂ ∙ at-slab l q 1 at_1 in
    let f₃ = e₃ ∙ at-slab l q 2 at-2 in
    let f₄ = e₄ ∙ at-slab l q 3 at-3 in
    let f₅ = e₅ ∙ at-slab l q 4 at-4 in
    let f₆ = e₆ ∙ at-slab l q 5 at_5 in
    let f₇ = e₇ ∙ at-slab l q 6 at-6 in
    cc

pub overflow_mul-i : goal.overflow_mul-i
overflow_mul-i c = first c.args.q (length c.args.later.now) c.requires (omega arith)

pub overflow_add-i : goal.overflow_add-i
overflow_add-i c = fit c.args.q (length c.args.later.now) 1 at_1 c.requires (omega arith)

pub overflow_add-i-2 : goal.overflow_add-i-2
overflow_add-i-2 c = fit c.args.q (length c.args.later.now) 2 at-2 c.requires (omega arith)

pub overflow_add-i-3 : goal.overflow_add-i-3
overflow_add-i-3 c = fit c.args.q (length c.args.later.now) 3 at-3 c.requires (omega arith)

pub overflow_add-i-4 : goal.overflow_add-i-4
overflow_add-i-4 c = fit c.args.q (length c.args.later.now) 4 at-4 c.requires (omega arith)

pub overflow_add-i-5 : goal.overflow_add-i-5
overflow_add-i-5 c = fit c.args.q (length c.args.later.now) 5 at_5 c.requires (omega arith)

pub overflow_add-i-6 : goal.overflow_add-i-6
overflow_add-i-6 c = fit c.args.q (length c.args.later.now) 6 at-6 c.requires (omega arith)

pub returns : goal.returns
returns c =
    read c.args.later.now c.args.q c.args.fuel c.cell-at.result c.cell-x.result c.cell-y.result c.cell-lc.result c.cell-top.result c.cell-next.result c.cell-z.result c.cell-at.ensures.0 c.cell-x.ensures.0 c.cell-y.ensures.0 c.cell-lc.ensures.0 c.cell-top.ensures.0 c.cell-next.ensures.0 c.cell-z.ensures.0
