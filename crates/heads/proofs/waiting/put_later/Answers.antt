-- `heads::waiting::put_later` meets its contract.
-- Each need is a law over plain lists and numbers: `omega` then reads no record of the places.
use native.Mathlib.Omega.{arith}
use Prim.Native.Nat.{◌+◌, ◌*◌, ◌%◌, ◌<◌, ◌≤◌, ℕ}
use mathlib.Core.Path.{◌≡◌, ◌∙◌}
use mathlib.Core.List.{List, ◌∷◌, []}
use lib.ListN.{length, set, length-set}
use mir.Syntax.{w64}
use mir.Val.{Fits}
use Rattle.nodes.specs.Layout.{byte_limit, cell_limit}
use Rattle.contexts.specs.declared.Spot.{Spot}
use Rattle.contexts.specs.declared.Side.{Side}
use Rattle.heads.specs.Stack.{later_cells, packed}
use Rattle.heads.proofs.Stacking.{put_right}
use Rattle.heads.proofs.waiting.put_later.Goals as goal

abbrev most : ℕ
most = 4611686018427387904

first : (q n : ℕ) → later_cells * q + later_cells ≤ n → n ≤ most → Fits w64 (later_cells * q)
first q n h g = record { fits = omega arith }

first-double : (q n : ℕ) → later_cells * q + later_cells ≤ n → n ≤ most → Fits w64 (later_cells * q * 2)
first-double q n h g = record { fits = omega arith }

fit : (q n k : ℕ) → k < later_cells → later_cells * q + later_cells ≤ n → n ≤ most → Fits w64 (later_cells * q + k)
fit q n k f h g = record { fits = omega arith }

double : (q n k : ℕ) → k < later_cells → later_cells * q + later_cells ≤ n → n ≤ most → Fits w64 ((later_cells * q + k) * 2)
double q n k f h g = record { fits = omega arith }

by-64 : (x : ℕ) → x ≤ 64 → Fits w64 (x * 64)
by-64 x h = record { fits = omega arith }

by-64-and : (x y : ℕ) → x ≤ 64 → y ≤ 64 → Fits w64 (x * 64 + y)
by-64-and x y h g = record { fits = omega arith }

by-256 : (x : ℕ) → x < byte_limit → Fits w64 (x * 256)
by-256 x h = record { fits = omega arith }

by-256-and : (x y : ℕ) → x < byte_limit → Fits w64 (x * 256 + y % 256)
by-256-and x y h = record { fits = omega arith }

by-16 : (x : ℕ) → x ≤ 64 → Fits w64 (x * 16)
by-16 x h = record { fits = omega arith }

by_both : (x y : ℕ) → x ≤ 64 → y ≤ 64 → Fits w64 (x * 256 + y * 16)
by_both x y h g = record { fits = omega arith }

by_three : (x y z : ℕ) → x ≤ 64 → y ≤ 64 → z ≤ 64 → Fits w64 (x * 256 + y * 16 + z)
by_three x y z h g k = record { fits = omega arith }

byte : (x : ℕ) → x ≤ 64 → x < byte_limit
byte x h = omega arith

at_1 : 1 < later_cells
at_1 = omega arith

at-2 : 2 < later_cells
at-2 = omega arith

at-3 : 3 < later_cells
at-3 = omega arith

at-4 : 4 < later_cells
at-4 = omega arith

at_5 : 5 < later_cells
at_5 = omega arith

at-6 : 6 < later_cells
at-6 = omega arith

length-1 : (l : List ℕ) (q a : ℕ) → length (set l (later_cells * q) a) ≡ length l
length-1 l q a = length-set l (later_cells * q) a

length-2 : (l : List ℕ) (q a b : ℕ) → length (set (set l (later_cells * q) a) (later_cells * q + 1) b) ≡ length l
length-2 l q a b = length-set (set l (later_cells * q) a) (later_cells * q + 1) b ∙ length-1 l q a

length-3 : (l : List ℕ) (q a b c : ℕ) → length (set (set (set l (later_cells * q) a) (later_cells * q + 1) b) (later_cells * q + 2) c) ≡ length l
length-3 l q a b c = length-set (set (set l (later_cells * q) a) (later_cells * q + 1) b) (later_cells * q + 2) c ∙ length-2 l q a b

length-4 : (l : List ℕ) (q a b c d : ℕ) → length (set (set (set (set l (later_cells * q) a) (later_cells * q + 1) b) (later_cells * q + 2) c) (later_cells * q + 3) d) ≡ length l
length-4 l q a b c d = length-set (set (set (set l (later_cells * q) a) (later_cells * q + 1) b) (later_cells * q + 2) c) (later_cells * q + 3) d ∙ length-3 l q a b c

length-5 : (l : List ℕ) (q a b c d e : ℕ) → length (set (set (set (set (set l (later_cells * q) a) (later_cells * q + 1) b) (later_cells * q + 2) c) (later_cells * q + 3) d) (later_cells * q + 4) e) ≡ length l
length-5 l q a b c d e = length-set (set (set (set (set l (later_cells * q) a) (later_cells * q + 1) b) (later_cells * q + 2) c) (later_cells * q + 3) d) (later_cells * q + 4) e ∙ length-4 l q a b c d

length-6 : (l : List ℕ) (q a b c d e f : ℕ) → length (set (set (set (set (set (set l (later_cells * q) a) (later_cells * q + 1) b) (later_cells * q + 2) c) (later_cells * q + 3) d) (later_cells * q + 4) e) (later_cells * q + 5) f) ≡ length l
length-6 l q a b c d e f = length-set (set (set (set (set (set l (later_cells * q) a) (later_cells * q + 1) b) (later_cells * q + 2) c) (later_cells * q + 3) d) (later_cells * q + 4) e) (later_cells * q + 5) f ∙ length-5 l q a b c d e

length-7 : (l : List ℕ) (q a b c d e f g : ℕ) → length (set (set (set (set (set (set (set l (later_cells * q) a) (later_cells * q + 1) b) (later_cells * q + 2) c) (later_cells * q + 3) d) (later_cells * q + 4) e) (later_cells * q + 5) f) (later_cells * q + 6) g) ≡ length l
length-7 l q a b c d e f g = length-set (set (set (set (set (set (set l (later_cells * q) a) (later_cells * q + 1) b) (later_cells * q + 2) c) (later_cells * q + 3) d) (later_cells * q + 4) e) (later_cells * q + 5) f) (later_cells * q + 6) g ∙ length-6 l q a b c d e f

inside-1 : (l : List ℕ) (q a : ℕ) → later_cells * q + later_cells ≤ length l → later_cells * q + 1 < length (set l (later_cells * q) a)
inside-1 l q a h = let z = length-1 l q a in omega arith

inside-2 : (l : List ℕ) (q a b : ℕ) → later_cells * q + later_cells ≤ length l → later_cells * q + 2 < length (set (set l (later_cells * q) a) (later_cells * q + 1) b)
inside-2 l q a b h = let z = length-2 l q a b in omega arith

inside-3 : (l : List ℕ) (q a b c : ℕ) → later_cells * q + later_cells ≤ length l → later_cells * q + 3 < length (set (set (set l (later_cells * q) a) (later_cells * q + 1) b) (later_cells * q + 2) c)
inside-3 l q a b c h = let z = length-3 l q a b c in omega arith

inside-4 : (l : List ℕ) (q a b c d : ℕ) → later_cells * q + later_cells ≤ length l → later_cells * q + 4 < length (set (set (set (set l (later_cells * q) a) (later_cells * q + 1) b) (later_cells * q + 2) c) (later_cells * q + 3) d)
inside-4 l q a b c d h = let z = length-4 l q a b c d in omega arith

inside-5 : (l : List ℕ) (q a b c d e : ℕ) → later_cells * q + later_cells ≤ length l → later_cells * q + 5 < length (set (set (set (set (set l (later_cells * q) a) (later_cells * q + 1) b) (later_cells * q + 2) c) (later_cells * q + 3) d) (later_cells * q + 4) e)
inside-5 l q a b c d e h = let z = length-5 l q a b c d e in omega arith

inside-6 : (l : List ℕ) (q a b c d e f : ℕ) → later_cells * q + later_cells ≤ length l → later_cells * q + 6 < length (set (set (set (set (set (set l (later_cells * q) a) (later_cells * q + 1) b) (later_cells * q + 2) c) (later_cells * q + 3) d) (later_cells * q + 4) e) (later_cells * q + 5) f)
inside-6 l q a b c d e f h = let z = length-6 l q a b c d e f in omega arith

inside-0 : (q n : ℕ) → later_cells * q + later_cells ≤ n → later_cells * q < n
inside-0 q n h = omega arith

seven : (s : Spot) (e : Side) (heads : ℕ) (a b c d f g h : ℕ)
    → a ≡ s.at % cell_limit
    → b ≡ (s.n * 64 + s.m) % cell_limit
    → c ≡ (s.nv * 256 + s.nc * 16 + s.nk) % cell_limit
    → d ≡ s.lc % cell_limit
    → f ≡ s.top % cell_limit
    → g ≡ e.at % cell_limit
    → h ≡ (e.c * 256 + heads % 256) % cell_limit
    → a ∷ b ∷ c ∷ d ∷ f ∷ g ∷ h ∷ [] ≡ packed s e heads
unfolding packed
seven s e heads a b c d f g h e₁ e₂ e₃ e₄ e₅ e₆ e₇ = cc

pub overflow_mul-i : goal.overflow_mul-i
overflow_mul-i c = first c.args.q (length c.args.later.now) c.requires.0 (omega arith)

pub offset_bounds-later-i : goal.offset_bounds-later-i
offset_bounds-later-i c = first-double c.args.q (length c.args.later.now) c.requires.0 (omega arith)

pub bounds-later-i : goal.bounds-later-i
bounds-later-i c = inside-0 c.args.q (length c.args.later.now) c.requires.0

pub overflow_add-later : goal.overflow_add-later
overflow_add-later c = fit c.args.q (length c.args.later.now) 1 at_1 c.requires.0 (omega arith)

pub offset_bounds-later-i-2 : goal.offset_bounds-later-i-2
offset_bounds-later-i-2 c = double c.args.q (length c.args.later.now) 1 at_1 c.requires.0 (omega arith)

pub bounds-later-i-2 : goal.bounds-later-i-2
bounds-later-i-2 c = inside-1 c.args.later.now c.args.q c.narrow.result c.requires.0

pub overflow_add-later-2 : goal.overflow_add-later-2
overflow_add-later-2 c = fit c.args.q (length c.args.later.now) 2 at-2 c.requires.0 (omega arith)

pub offset_bounds-later-i-3 : goal.offset_bounds-later-i-3
offset_bounds-later-i-3 c = double c.args.q (length c.args.later.now) 2 at-2 c.requires.0 (omega arith)

pub bounds-later-i-3 : goal.bounds-later-i-3
bounds-later-i-3 c = inside-2 c.args.later.now c.args.q c.narrow.result c.narrow-2.result c.requires.0

pub overflow_add-later-3 : goal.overflow_add-later-3
overflow_add-later-3 c = fit c.args.q (length c.args.later.now) 3 at-3 c.requires.0 (omega arith)

pub offset_bounds-later-i-4 : goal.offset_bounds-later-i-4
offset_bounds-later-i-4 c = double c.args.q (length c.args.later.now) 3 at-3 c.requires.0 (omega arith)

pub bounds-later-i-4 : goal.bounds-later-i-4
bounds-later-i-4 c = inside-3 c.args.later.now c.args.q c.narrow.result c.narrow-2.result c.narrow-3.result c.requires.0

pub overflow_add-later-4 : goal.overflow_add-later-4
overflow_add-later-4 c = fit c.args.q (length c.args.later.now) 4 at-4 c.requires.0 (omega arith)

pub offset_bounds-later-i-5 : goal.offset_bounds-later-i-5
offset_bounds-later-i-5 c = double c.args.q (length c.args.later.now) 4 at-4 c.requires.0 (omega arith)

pub bounds-later-i-5 : goal.bounds-later-i-5
bounds-later-i-5 c = inside-4 c.args.later.now c.args.q c.narrow.result c.narrow-2.result c.narrow-3.result c.narrow-4.result c.requires.0

pub overflow_add-later-5 : goal.overflow_add-later-5
overflow_add-later-5 c = fit c.args.q (length c.args.later.now) 5 at_5 c.requires.0 (omega arith)

pub offset_bounds-later-i-6 : goal.offset_bounds-later-i-6
offset_bounds-later-i-6 c = double c.args.q (length c.args.later.now) 5 at_5 c.requires.0 (omega arith)

pub bounds-later-i-6 : goal.bounds-later-i-6
bounds-later-i-6 c = inside-5 c.args.later.now c.args.q c.narrow.result c.narrow-2.result c.narrow-3.result c.narrow-4.result c.narrow-5.result c.requires.0

pub overflow_add-later-6 : goal.overflow_add-later-6
overflow_add-later-6 c = fit c.args.q (length c.args.later.now) 6 at-6 c.requires.0 (omega arith)

pub offset_bounds-later-i-7 : goal.offset_bounds-later-i-7
offset_bounds-later-i-7 c = double c.args.q (length c.args.later.now) 6 at-6 c.requires.0 (omega arith)

pub bounds-later-i-7 : goal.bounds-later-i-7
bounds-later-i-7 c = inside-6 c.args.later.now c.args.q c.narrow.result c.narrow-2.result c.narrow-3.result c.narrow-4.result c.narrow-5.result c.narrow-6.result c.requires.0

pub overflow_mul-s : goal.overflow_mul-s
overflow_mul-s c = by-64 c.args.s.n c.requires.1

pub overflow_add-s : goal.overflow_add-s
overflow_add-s c = by-64-and c.args.s.n c.args.s.m c.requires.1 c.requires.2

pub overflow_mul-s-2 : goal.overflow_mul-s-2
overflow_mul-s-2 c = by-256 c.args.s.nv (byte c.args.s.nv c.requires.3)

pub overflow_mul-s-3 : goal.overflow_mul-s-3
overflow_mul-s-3 c = by-16 c.args.s.nc c.requires.4

pub overflow_add-s-2 : goal.overflow_add-s-2
overflow_add-s-2 c = by_both c.args.s.nv c.args.s.nc c.requires.3 c.requires.4

pub overflow_add-s-3 : goal.overflow_add-s-3
overflow_add-s-3 c = by_three c.args.s.nv c.args.s.nc c.args.s.nk c.requires.3 c.requires.4 c.requires.5

pub overflow_mul-e : goal.overflow_mul-e
overflow_mul-e c = by-256 c.args.e.c c.requires.6

pub overflow_add-e : goal.overflow_add-e
overflow_add-e c = by-256-and c.args.e.c c.args.heads c.requires.6

pub shape_of-later : goal.shape_of-later
shape_of-later c = length-7 c.args.later.now c.args.q c.narrow.result c.narrow-2.result c.narrow-3.result c.narrow-4.result c.narrow-5.result c.narrow-6.result c.narrow-7.result

pub returns : goal.returns
returns c =
    let k = put_right c.args.later.now c.args.q c.narrow.result c.narrow-2.result c.narrow-3.result c.narrow-4.result c.narrow-5.result c.narrow-6.result c.narrow-7.result c.requires.0 in
    (k.0, k.1 ∙ seven c.args.s c.args.e c.args.heads c.narrow.result c.narrow-2.result c.narrow-3.result c.narrow-4.result c.narrow-5.result c.narrow-6.result c.narrow-7.result c.narrow.ensures c.narrow-2.ensures c.narrow-3.ensures c.narrow-4.ensures c.narrow-5.ensures c.narrow-6.ensures c.narrow-7.ensures)
