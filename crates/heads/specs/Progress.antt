-- What the pieces of the walk over heads say.
use Rattle.std.specs.Prelude.{◌≡◌, List, ◌++◌, ◌⊎◌, Bool, true, false, Result, Ok, Err, IfOk, OnOk, ℕ, ◌+◌, ◌*◌, ◌≤◌, ◌<◌, length, take}
use Rattle.pcrl.specs.Limits.{max_variables}
use Rattle.pcrl.specs.Tests.{Every}
use Rattle.pcrl.specs.Reader.{all}
use Rattle.pcrl.specs.Sheet.{Sheet}
use Rattle.pcrl.specs.Table.{Summand}
use Rattle.pcrl.specs.Stream.{encode_summand}
use Rattle.nodes.specs.declared.Node.{Node}
use Rattle.nodes.specs.Layout.{byte_limit, alt_kind, atom_kind, cond_kind, call_kind, seq_kind}
use Rattle.nodes.specs.Views.{On, Views}
use Rattle.counting.specs.Limits.{row_width, row}
use Rattle.counting.specs.Counting.{leaf_of, Counts, Tallied}
use Rattle.refusals.specs.declared.Refusal.{Refusal}
use Rattle.putting.specs.Slots.{Adds}
use Rattle.following.specs.Follows.{calls_room}
use Rattle.contexts.specs.declared.Spot.{Spot}
use Rattle.contexts.specs.declared.Side.{Side}
use Rattle.contexts.specs.Spots.{conds_room, Ready, SummandFits, Arrays, Bound, Spotted, Deeper, Kept, OnSide}
use Rattle.contexts.specs.Steps.{Stays, SummandsOut}
use Rattle.heads.specs.declared.alternatives.Ahead.{Ahead}
use Rattle.heads.specs.declared.walk.Turn.{Turn}
use Rattle.heads.specs.declared.walk.Next.{Next}
use Rattle.heads.specs.declared.walk.Next.TheVariants.{Over, Into}
use Rattle.heads.specs.Stack.{later_cells, Steady, Queue}

-- rooms of the arrays of a walk: sum variables, conditions, calls after a first part, calls
pub record Rooms (lv lc la lk : ℕ) : Type 0 where
  pub vars_room : max_variables ≤ lv
  pub conds_fit : conds_room ≤ lc
  pub after_fit : calls_room ≤ la
  pub calls_fit : lk ≤ calls_room

-- is it one of two kinds?
abbrev pub Either : ℕ → ℕ → ℕ → Bool → Type 0
Either a b kind r = (r ≡ true → (kind ≡ a) ⊎ (kind ≡ b)) × (r ≡ false → (kind ≡ a → ⊥) × (kind ≡ b → ⊥))

abbrev pub Choice : ℕ → Bool → Type 0
Choice = Either alt_kind cond_kind

-- an action or a call; or a choice
abbrev pub Leaf : ℕ → Type 0
Leaf kind = (kind ≡ atom_kind) ⊎ (kind ≡ call_kind)

abbrev pub Parting : ℕ → Type 0
Parting kind = (kind ≡ alt_kind) ⊎ (kind ≡ cond_kind)

-- a node with a first part: a choice or a sequence
abbrev pub Parted : ℕ → Type 0
Parted kind = Parting kind ⊎ (kind ≡ seq_kind)

-- is it neither?
abbrev pub Inner : ℕ → Bool → Type 0
Inner kind r = (r ≡ true → (kind ≡ atom_kind → ⊥) × (kind ≡ call_kind → ⊥) × (kind ≡ alt_kind → ⊥) × (kind ≡ cond_kind → ⊥)) × (r ≡ false → Leaf kind ⊎ Parting kind)

-- the node at a spot, and the count of the first part of a choice or a sequence
pub record Looked (cells counts : List ℕ) (g : Ahead) : Type 0 where
  pub inside : g.s.at < length cells
  pub on : On g.s.at g.d
  pub views : Views cells g.s.at g.d
  pub counts_first : Parted g.d.kind → (g.d.next ≤ g.a.next) × Counts cells (row (row_width * g.s.fuel) counts) g.d.next g.a

abbrev pub SecondSide : Ahead → Side → Type 0
SecondSide g e = (e ≡ record { second = true; at = g.a.next; c = e.c }) × (e.c < byte_limit) × (g.s.c + g.a.own < byte_limit → e.c ≡ g.s.c + g.a.own)

-- a side of `+`, in the context of s
abbrev pub side_spot : Spot → Side → Spot
side_spot s e = record { at = e.at; fuel = s.fuel; n = s.n; m = s.m; c = e.c; nv = s.nv; nc = s.nc; lc = s.lc; nk = s.nk; top = s.top }

-- a node that has no subterm, no head and no new equation
abbrev pub Idle : List ℕ → Node → Type 0
Idle K d = (d.kids ≡ 0) × (leaf_of K d.kind d.number ≡ 0) × (d.own ≡ 0)

-- the first side of `+` at p has no heads and no new equations, and ends at r
pub record Behind (cells K : List ℕ) (p r : ℕ) : Type 0 where
  pub d : Node
  pub on : On p d
  pub views : Views cells p d
  pub is : d.kind ≡ alt_kind
  pub further : d.next ≤ r
  pub counted : Counts cells K d.next (record { next = r; heads = 0; own = 0 })

-- From s on to r, where the term at s has so many heads: what is passed has none of them.
pub record Past (cells counts : List ℕ) (heads : ℕ) (s r : Spot) : Type 0 where
  pub fuel_same : r.fuel ≡ s.fuel
  pub further : s.at ≤ r.at
  pub deeper : Deeper s r
  pub small : s.c < byte_limit → r.c < byte_limit
  pub stays : Stays s r
  pub spotted : (H : Sheet) (F : ℕ) (A : Arrays) (hs : List Summand) → length H.procs ≤ row_width → Tallied H F counts → length hs ≡ heads → Spotted H F cells s A hs → Spotted H F cells r A hs

-- What a walk begins with: where, the arrays, the place and the bytes of the output, how many heads the term has, the first free place
-- of the stack, and the stack's cells.
pub record Start : Type 0 where
  pub s : Spot
  pub A : Arrays
  pub w : ℕ
  pub o : List ℕ
  pub heads : ℕ
  pub q : ℕ
  pub room : ℕ

abbrev pub start : Spot → Arrays → ℕ → List ℕ → ℕ → ℕ → ℕ → Start
start s A w o heads q room = record { s = s; A = A; w = w; o = o; heads = heads; q = q; room = room }

-- few heads, and room for each of them on the stack
pub record Roomy (S : Start) (hs : List Summand) : Type 0 where
  pub many : length hs ≡ S.heads
  pub some : 0 < S.heads
  pub few : S.heads < byte_limit
  pub room_for : later_cells * (S.q + S.heads) ≤ S.room

module _ (cells starts counts firsts : List ℕ) where
  -- From the start to s: some heads are written, others are those at s, and the others those of the second sides on the stack l.
  pub record Moved (H : Sheet) (F : ℕ) (S : Start) (s : Spot) (heads left q v : ℕ) (B : Arrays) (l o' : List ℕ) (hs : List Summand) : Type 0 where
    pub done : List Summand
    pub here : List Summand
    pub waiting : List Summand
    pub n : ℕ
    pub split : hs ≡ done ++ (here ++ waiting)
    pub within : Every SummandFits done
    pub bytes : Adds (all encode_summand done) S.w S.o v o'
    pub spotted : Spotted H F cells s B here
    pub many : length here ≡ heads
    pub some : 0 < heads
    pub both : heads + length waiting ≡ left
    pub deep : q ≡ S.q + n
    pub queue : Queue H F cells S.s l S.s.fuel S.q n s B waiting
    pub kept : Kept S.s S.A B
    pub fuel_is : s.fuel ≡ S.s.fuel
    pub start_in : S.w ≤ length S.o
    pub inside : v ≤ length o'
    pub same : length o' ≡ length S.o
    pub long : S.room ≤ length l

  abbrev pub Onward : Start → Spot → ℕ → ℕ → ℕ → ℕ → Arrays → List ℕ → List ℕ → Type 0
  Onward S s heads left q v B l o' = (H : Sheet) (F : ℕ) (hs : List Summand) → Ready H F cells starts counts firsts → Spotted H F cells S.s S.A hs → Roomy S hs → Moved H F S s heads left q v B l o' hs

  -- all heads are written, and the context is kept
  abbrev pub WrittenBy : Start → Result ℕ Refusal → Arrays → List ℕ → Type 0
  WrittenBy S x B o' = (H : Sheet) (F : ℕ) (hs : List Summand) → Ready H F cells starts counts firsts → Spotted H F cells S.s S.A hs → Roomy S hs
      → SummandsOut hs S.w S.o x o' × OnOk x (Kept S.s S.A B)

  -- The same before the step down: others are those of the side e of the choice d at t.
  pub record Aside (H : Sheet) (F : ℕ) (S : Start) (t : Spot) (d : Node) (e : Side) (heads left q v : ℕ) (B : Arrays) (l o' : List ℕ) (hs : List Summand) : Type 0 where
    pub done : List Summand
    pub here : List Summand
    pub waiting : List Summand
    pub n : ℕ
    pub split : hs ≡ done ++ (here ++ waiting)
    pub within : Every SummandFits done
    pub bytes : Adds (all encode_summand done) S.w S.o v o'
    pub side : OnSide H F cells t B d e here
    pub many : length here ≡ heads
    pub some : 0 < heads
    pub both : heads + length waiting ≡ left
    pub deep : q ≡ S.q + n
    pub queue : Queue H F cells S.s l S.s.fuel S.q n t B waiting
    pub kept : Kept S.s S.A B
    pub fuel_is : t.fuel ≡ S.s.fuel
    pub start_in : S.w ≤ length S.o
    pub inside : v ≤ length o'
    pub same : length o' ≡ length S.o
    pub long : S.room ≤ length l

  -- on into a side, or the walk is over
  abbrev pub Toward : Start → Result Next Refusal → Arrays → List ℕ → List ℕ → Type 0
  Toward S (Ok (Into k)) B l o' = (H : Sheet) (F : ℕ) (hs : List Summand) → Ready H F cells starts counts firsts → Spotted H F cells S.s S.A hs → Roomy S hs → Aside H F S k.t k.d k.e k.heads k.left k.q k.w B l o' hs
  Toward S (Ok (Over v)) B l o' = WrittenBy S (Ok v) B o'
  Toward S (Err e) B l o' = WrittenBy S (Err e) B o'

  -- the heads at s were written, up to n
  pub record AfterLeaf (S : Start) (s : Spot) (heads left q n : ℕ) (B : Arrays) (l o' : List ℕ) : Type 0 where
    pub before : Arrays
    pub v : ℕ
    pub o : List ℕ
    pub onward : Onward S s heads left q v before l o
    pub written : WrittenBy (start s before v o heads q (length l)) (Ok n) B o'
    pub inside : n ≤ length o'
    pub same : length o' ≡ length o

  -- from s, into a choice or past a leaf
  abbrev pub Turned : ℕ → Spot → ℕ → ℕ → ℕ → ℕ → Arrays → List ℕ → List ℕ → Result Next Refusal → Arrays → List ℕ → List ℕ → Type 0
  Turned q₀ s heads left q w B l o r C l' o' = (S : Start) → S.q ≡ q₀ → Onward S s heads left q w B l o → Toward S r C l' o'

-- less is left, or the side stands further on
abbrev pub Nearer : Spot → ℕ → Turn → Type 0
Nearer s left r = (r.e.c < byte_limit) × ((r.left < left) ⊎ ((r.left ≡ left) × (s.at < r.e.at)))

-- bounds, for calls that have room
abbrev pub Bounded : Spot → Type 0
Bounded s = (lk : ℕ) × (ls : ℕ) × (lk ≤ calls_room) × Bound lk ls s

-- into a side of the choice at g
abbrev pub aside_turn : Ahead → Side → ℕ → ℕ → ℕ → ℕ → Turn
aside_turn g e heads left q w = record { t = g.s; d = g.d; e = e; heads = heads; left = left; q = q; w = w }

-- how far is written
abbrev pub place : Next → ℕ
place (Over v) = v
place (Into k) = k.w

-- what holds of a turn, where the walk goes on
abbrev pub IfInto : Result Next Refusal → (Turn → Type 0) → Type 0
IfInto (Ok (Into k)) P = P k
IfInto (Ok (Over v)) P = Unit {0}
IfInto (Err e) P = Unit {0}

abbrev pub Chosen : Ahead → ℕ → ℕ → ℕ → ℕ → List ℕ → Result Next Refusal → List ℕ → Type 0
Chosen g heads left q w l r l' = (IfOk r (λ n. place n ≡ w) × (take (later_cells * q) l' ≡ take (later_cells * q) l)) × ((cells counts : List ℕ) → Looked cells counts g → Parting g.d.kind →
    IfInto r (Nearer g.s left) × ((lk ls fuel q₀ : ℕ) → lk ≤ calls_room → Steady lk ls fuel q₀ g.s q l → IfInto r (λ k. Steady lk ls fuel q₀ k.t k.q l'))
    × ((starts firsts : List ℕ) (B : Arrays) (o : List ℕ) (S : Start) → Onward cells starts counts firsts S g.s heads left q w B l o → Toward cells starts counts firsts S r B l' o))

-- on after a leaf at s, written up to v
abbrev pub Resumed : List ℕ → Spot → ℕ → ℕ → ℕ → ℕ → ℕ → List ℕ → Result Next Refusal → Type 0
Resumed cells s heads left q₀ q v l r =
    ((lk ls fuel : ℕ) → Steady lk ls fuel q₀ s q l → IfInto r (λ k. Steady lk ls fuel q₀ k.t k.q l × Nearer s left k))
    × ((starts counts firsts : List ℕ) (B : Arrays) (o : List ℕ) (S : Start) → S.q ≡ q₀ → AfterLeaf cells starts counts firsts S s heads left q v B l o → Toward cells starts counts firsts S r B l o)
