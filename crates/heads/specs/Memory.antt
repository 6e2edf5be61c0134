-- What is remembered: where the walk comes to from a place on, and the count of the first part there.
use Rattle.std.specs.Prelude.{◌≡◌, List, [], ◌∷◌, true, ◌⊎◌, ℕ, ◌+◌, ◌*◌, ◌%◌, ◌≤◌, ◌<◌, length, get_or}
use Rattle.nodes.specs.declared.Node.{Node}
use Rattle.nodes.specs.Layout.{byte_limit, cell_limit, alt_kind}
use Rattle.counting.specs.declared.Counted.{Counted}
use Rattle.counting.specs.Limits.{row_width, row}
use Rattle.counting.specs.Counting.{Counts}
use Rattle.contexts.specs.declared.Spot.{Spot}
use Rattle.heads.specs.declared.remembered.Arrival.{Arrival}
use Rattle.heads.specs.Progress.{side_spot, Past}

-- the cells of an entry, how many entries there are, and the cells of all
abbrev pub entry_cells : ℕ
entry_cells = 9

abbrev pub entries : ℕ
entries = 64

abbrev pub memory_room : ℕ
memory_room = 576

-- from so many cells on it is not told apart how many were looked at
abbrev pub work_limit : ℕ
work_limit = 64

-- s at another place, behind n new equations
abbrev pub spot_on : Spot → ℕ → ℕ → Spot
spot_on s q n = side_spot s (record { second = true; at = q; c = (s.c + n) % byte_limit })

-- From p on to q a walk keeps all heads, and n new equations are passed; `base` is where the row of counts begins.
abbrev pub Reaches : List ℕ → List ℕ → ℕ → ℕ → ℕ → ℕ → ℕ → Type 0
Reaches cells counts base heads p q n = (s : Spot) → s.at ≡ p → row_width * s.fuel ≡ base → s.c < byte_limit → Past cells counts heads s (spot_on s q n)

-- what is found from p on, for a term of so many heads
pub record Finds (cells counts : List ℕ) (base heads p : ℕ) (f : Arrival) : Type 0 where
  pub inside : f.at < length cells
  pub reaches : Reaches cells counts base heads p f.at f.own
  pub counted : f.next ≤ f.a.next → Counts cells (row base counts) f.next f.a

-- the one side of `+` that has all heads stands at r
abbrev pub OnlySide : Node → Counted → ℕ → ℕ → Type 0
OnlySide d a heads r = (d.kind ≡ alt_kind) × (((a.heads ≡ 0) × (r ≡ a.next)) ⊎ ((0 < a.heads) × (heads ≤ a.heads) × (r ≡ d.next)))

-- the new equations passed, with those of a first side without heads
abbrev pub Passed : Counted → ℕ → ℕ → Type 0
Passed a n r = (r < byte_limit) × (a.heads ≡ 0 → r ≡ (n + a.own) % byte_limit) × (0 < a.heads → r ≡ n)

-- an entry: the place, the row of counts, the heads; what is found
abbrev pub entry_at : List ℕ → ℕ → List ℕ
entry_at l i =
    get_or l (entry_cells * i) 0 ∷ get_or l (entry_cells * i + 1) 0 ∷ get_or l (entry_cells * i + 2) 0 ∷ get_or l (entry_cells * i + 3) 0 ∷ get_or l (entry_cells * i + 4) 0 ∷ get_or l (entry_cells * i + 5) 0
    ∷ get_or l (entry_cells * i + 6) 0 ∷ get_or l (entry_cells * i + 7) 0 ∷ get_or l (entry_cells * i + 8) 0 ∷ []

abbrev pub found : List ℕ → Arrival
found e = record { at = get_or e 3 0; own = get_or e 4 0; next = get_or e 5 0; a = record { next = get_or e 6 0; heads = get_or e 7 0; own = get_or e 8 0 }; work = 0 }

-- an entry for a term without heads is empty
abbrev pub EntryRight : List ℕ → List ℕ → List ℕ → Type 0
EntryRight cells counts e = 0 < get_or e 2 0 → Finds cells counts (get_or e 1 0) (get_or e 2 0) (get_or e 0 0) (found e)

pub record Remembers (cells counts l : List ℕ) : Type 0 where
  pub long : length l ≡ memory_room
  pub right : (i : ℕ) → i < entries → EntryRight cells counts (entry_at l i)

-- an entry is put in place i
abbrev pub EntryPut : List ℕ → ℕ → List ℕ → List ℕ → Type 0
EntryPut l i e l' = ((j : ℕ) → j < entry_cells → get_or l' (entry_cells * i + j) 0 ≡ get_or e j 0) × ((j : ℕ) → (j < entry_cells * i) ⊎ (entry_cells * i + entry_cells ≤ j) → get_or l' j 0 ≡ get_or l j 0)

-- all numbers of an entry fit cells
pub record Fitting (p base heads : ℕ) (f : Arrival) : Type 0 where
  pub p_fits : p < cell_limit
  pub base_fits : base < cell_limit
  pub heads_fit : heads < cell_limit
  pub at_fits : f.at < cell_limit
  pub own_fits : f.own < cell_limit
  pub next_fits : f.next < cell_limit
  pub after_fits : f.a.next < cell_limit
  pub counted_fit : f.a.heads < cell_limit
  pub new_fit : f.a.own < cell_limit

-- what is read at the entry found
abbrev pub FoundFor : List ℕ → ℕ → ℕ → ℕ → ℕ → Type 0
FoundFor l r p base heads = (0 < get_or l (entry_cells * r + 2) 0) × (get_or l (entry_cells * r) 0 ≡ p) × (get_or l (entry_cells * r + 1) 0 ≡ base) × (get_or l (entry_cells * r + 2) 0 ≡ heads)
