-- The stack of what is walked later: second sides of choices, each in some cells.
use Rattle.std.specs.Prelude.{◌≡◌, List, [], ◌∷◌, ◌++◌, true, ℕ, zero, suc, ◌+◌, ◌*◌, ◌/◌, ◌%◌, ◌≤◌, ◌<◌, length, take, drop, get_or}
use Rattle.pcrl.specs.Sheet.{Sheet}
use Rattle.pcrl.specs.Table.{Summand}
use Rattle.nodes.specs.declared.Node.{Node}
use Rattle.nodes.specs.Layout.{cell_limit}
use Rattle.nodes.specs.Views.{On, Views}
use Rattle.contexts.specs.declared.Spot.{Spot}
use Rattle.contexts.specs.declared.Side.{Side}
use Rattle.contexts.specs.Spots.{Arrays, Bound, Deeper, OnSide}
use Rattle.heads.specs.declared.waiting.Later.{Later}

-- the cells of an entry
abbrev pub later_cells : ℕ
later_cells = 7

-- an entry in its cells: numbers that are small stand together in one
unfoldable pub packed : Spot → Side → ℕ → List ℕ
packed s e heads =
    s.at % cell_limit ∷ (s.n * 64 + s.m) % cell_limit ∷ (s.nv * 256 + s.nc * 16 + s.nk) % cell_limit ∷ s.lc % cell_limit ∷ s.top % cell_limit ∷ e.at % cell_limit
    ∷ (e.c * 256 + heads % 256) % cell_limit ∷ []

unfoldable pub unpacked : ℕ → List ℕ → Later
unpacked fuel l = record {
  s = record {
    at = get_or l 0 0;
    fuel = fuel;
    n = get_or l 1 0 / 64;
    m = get_or l 1 0 % 64;
    c = get_or l 6 0 / 256;
    nv = get_or l 2 0 / 256;
    nc = get_or l 2 0 / 16 % 16;
    lc = get_or l 3 0;
    nk = get_or l 2 0 % 16;
    top = get_or l 4 0;
  };
  e = record { second = true; at = get_or l 5 0; c = get_or l 6 0 / 256 };
  heads = get_or l 6 0 % 256;
}

unfoldable pub slab : List ℕ → ℕ → List ℕ
slab l q = take later_cells (drop (later_cells * q) l)

-- the entry q of the stack, for a walk that may follow `fuel` calls
unfoldable pub entry : List ℕ → ℕ → ℕ → Later
entry l q fuel = unpacked fuel (slab l q)

-- an entry is put in place q
abbrev pub LaterPut : List ℕ → ℕ → Spot → Side → ℕ → List ℕ → Type 0
LaterPut l q s e heads l' = (take (later_cells * q) l' ≡ take (later_cells * q) l) × (slab l' q ≡ packed s e heads)

-- From a start place q₀ on, whatever stands in the cells: the bounds of the spot and of each entry.
pub record Steady (lk ls fuel q₀ : ℕ) (s : Spot) (q : ℕ) (l : List ℕ) : Type 0 where
  pub bound : Bound lk ls s
  pub fuel_is : s.fuel ≡ fuel
  pub low : q₀ ≤ q
  pub high : later_cells * q ≤ length l
  pub stocked : (j : ℕ) → q₀ ≤ j → j < q → Bound lk ls (entry l j fuel).s

module _ (H : Sheet) (F : ℕ) (cells : List ℕ) where
  -- what an entry says: a second side, with its heads, around r
  pub record Waits (r : Spot) (B : Arrays) (x : Later) (hs : List Summand) : Type 0 where
    pub around_it : Deeper x.s r
    pub inside : x.s.at < length cells
    pub side : (d : Node) → On x.s.at d → Views cells x.s.at d → OnSide H F cells x.s B d x.e hs
    pub many : length hs ≡ x.heads
    pub some : 0 < x.heads

  -- n entries from q₀ on, the last one first, and the heads of them all
  unfoldable pub Queue : Spot → List ℕ → ℕ → ℕ → ℕ → Spot → Arrays → List Summand → Type 0
  Queue s₀ l fuel q₀ zero r B ws = Deeper s₀ r × (ws ≡ [])
  Queue s₀ l fuel q₀ (suc n) r B ws = (hs : List Summand) × (rest : List Summand) × (ws ≡ hs ++ rest) × Waits r B (entry l (q₀ + n) fuel) hs × Queue s₀ l fuel q₀ n (entry l (q₀ + n) fuel).s B rest
