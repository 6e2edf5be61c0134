-- Where the walk over heads stands: at a term, in a context of sum variables, conditions and calls.
use Rattle.std.specs.Prelude.{◌≡◌, List, [], ◌∷◌, ◌++◌, map, Bool, true, false, Option, MatchOption, IfSome, ℕ, ◌+◌, ◌*◌, ◌≤◌, ◌<◌, length, drop, take}
use Rattle.pcrl.specs.Limits.{max_variables, max_conditions, max_calls, max_processes, frame_width}
use Rattle.pcrl.specs.Tests.{Every}
use Rattle.pcrl.specs.Reader.{all}
use Rattle.pcrl.specs.Sheet.{Data, Proc, Sheet, params, right}
use Rattle.pcrl.specs.Values.{put_data}
use Rattle.pcrl.specs.Parts.{new_count, first_new}
use Rattle.pcrl.specs.Table.{Summand}
use Rattle.pcrl.specs.Stream.{encode_cond, encode_call}
use Rattle.pcrl.specs.Right.{Small, SummandWithin}
use Rattle.pcrl.specs.Heads.{look, heads}
use Rattle.nodes.specs.declared.Node.{Node}
use Rattle.nodes.specs.Layout.{byte_limit, cell_limit, cond_kind, seq_kind, enc, enc_data}
use Rattle.nodes.specs.Nodes.{kind_of}
use Rattle.nodes.specs.Scoped.{max_scope}
use Rattle.counting.specs.Limits.{max_fuel}
use Rattle.counting.specs.Counting.{Placed, Tallied, FirstNew}
use Rattle.laws.specs.TermLength.{max_term}
use Rattle.putting.specs.Slots.{slot_width, Slots, Writable}
use Rattle.following.specs.Fine.{Fine, Few}
use Rattle.following.specs.Follows.{call_bytes, calls_room, CallSmall}
use Rattle.contexts.specs.declared.Spot.{Spot}
use Rattle.contexts.specs.declared.Side.{Side}

-- the most bytes of a condition
abbrev pub cond_bytes : ℕ
cond_bytes = 1 + max_term

abbrev pub conds_room : ℕ
conds_room = max_conditions * cond_bytes

-- numbers of variables before any sum stay below this
abbrev pub variable_limit : ℕ
variable_limit = 32

-- What holds of a sheet that is written: its right sides stand in the cells, their heads are counted where up to F calls are followed,
-- their numbers fit bytes. An accepted sheet with at most 64 equations has it.
pub record Ready (H : Sheet) (F : ℕ) (cells starts counts firsts : List ℕ) : Type 0 where
  pub placed : Placed H cells starts
  pub procs_few : length H.procs ≤ max_processes
  pub few : Few H
  pub params_four : (k : ℕ) → k < length H.procs → length (params H k) ≤ frame_width
  pub tallied : Tallied H F counts
  pub first_new_are : FirstNew H firsts
  pub rights_fine : (k : ℕ) → k < length H.procs → Fine H (length (params H k)) (right H k)
  pub equations_few : (k : ℕ) → k < length H.procs → first_new (length H.procs) H.procs k + new_count false (right H k) < byte_limit
  pub cells_few : length cells < cell_limit

-- within its limits, and no call has more terms than an equation may have parameters: in a table that is within its limits all have it
pub record SummandFits (h : Summand) : Type 0 where
  pub within : SummandWithin h
  pub narrow : Every (λ (c : ℕ × List Data). length c.1 ≤ frame_width) h.calls

abbrev pub CondSmall : ℕ × Data → Type 0
CondSmall c = Small c.1

-- the yes part stands first
unfoldable pub wanted_of : Bool → ℕ
wanted_of false = 1
wanted_of true = 0

-- a head, with what stands around its term
unfoldable pub around : List ℕ → List (ℕ × Data) → List (ℕ × List Data) → Summand → Summand
around vs cs ks h = record { vars = vs ++ h.vars; conds = cs ++ h.conds; act = h.act; terms = h.terms; calls = h.calls ++ ks }

-- the arrays of a context
pub record Arrays : Type 0 where
  pub slots : List ℕ
  pub vars : List ℕ
  pub conds : List ℕ
  pub calls : List ℕ

abbrev pub arrays : List ℕ → List ℕ → List ℕ → List ℕ → Arrays
arrays slots vars conds calls = record { slots = slots; vars = vars; conds = conds; calls = calls }

-- bounds, whatever stands there; lk and ls are the lengths of the calls and of the slots
pub record Bound (lk ls : ℕ) (s : Spot) : Type 0 where
  pub fuel_small : s.fuel ≤ max_fuel
  pub n_small : s.n ≤ max_scope
  pub n_room : slot_width * (s.n + max_variables) ≤ ls + slot_width * s.nv
  pub m_small : s.m ≤ variable_limit + s.nv
  pub c_small : s.c < byte_limit
  pub nv_few : s.nv ≤ max_variables
  pub nc_few : s.nc ≤ max_conditions
  pub lc_few : s.lc ≤ cond_bytes * s.nc
  pub nk_few : s.nk ≤ max_calls
  pub top_in : s.top ≤ lk
  pub top_room : calls_room ≤ s.top + call_bytes * s.nk

-- What stands in the arrays up to the marks of s: terms for variables, sum variables, conditions and calls.
pub record Context (s : Spot) (A : Arrays) : Type 0 where
  pub σ : List Data
  pub vs : List ℕ
  pub cs : List (ℕ × Data)
  pub ks : List (ℕ × List Data)
  pub held : Slots σ A.slots s.n
  pub vars_are : take s.nv A.vars ≡ vs
  pub vars_many : length vs ≡ s.nv
  pub conds_are : take s.lc A.conds ≡ all encode_cond cs
  pub conds_many : length cs ≡ s.nc
  pub conds_small : Every CondSmall cs
  pub calls_are : drop s.top A.calls ≡ all encode_call ks
  pub calls_many : length ks ≡ s.nk
  pub calls_small : Every CallSmall ks

-- The heads of the term p at s, in their context, are hs.
pub record SpottedAt (H : Sheet) (F : ℕ) (cells : List ℕ) (s : Spot) (A : Arrays) (hs : List Summand) (p : Proc) : Type 0 where
  pub ctx : Context s A
  pub b : Bool
  pub rest : List ℕ
  pub place : drop s.at cells ≡ enc b p ++ rest
  pub first : kind_of p ≡ seq_kind → b ≡ false
  pub fine : Fine H s.n p
  pub fuel_left : s.fuel ≤ F
  pub equations_left : s.c + new_count false p < byte_limit
  pub are : map (around ctx.vs ctx.cs ctx.ks) (heads H s.fuel ctx.σ s.m s.c p) ≡ hs

abbrev pub Spotted : Sheet → ℕ → List ℕ → Spot → Arrays → List Summand → Type 0
Spotted H F cells s A hs = (p : Proc) × SpottedAt H F cells s A hs p

-- r is inside what is around s
pub record Deeper (s r : Spot) : Type 0 where
  pub n_on : s.n ≤ r.n
  pub nv_on : s.nv ≤ r.nv
  pub lc_on : s.lc ≤ r.lc
  pub top_on : r.top ≤ s.top

-- up to the marks of s nothing is changed
pub record Kept (s : Spot) (A B : Arrays) : Type 0 where
  pub slots_kept : take (slot_width * s.n) B.slots ≡ take (slot_width * s.n) A.slots
  pub vars_kept : take s.nv B.vars ≡ take s.nv A.vars
  pub conds_kept : take s.lc B.conds ≡ take s.lc A.conds
  pub calls_kept : drop s.top B.calls ≡ drop s.top A.calls

-- heads that have not the limits: none of them can be, if all have
abbrev pub Beyond : List Summand → Type 0
Beyond hs = Every SummandFits hs → hs ≡ []

-- A step down: the heads are the same; or they have not the limits.
abbrev pub Leads : List ℕ → List ℕ → List ℕ → List ℕ → Spot → Arrays → Option Spot → Arrays → Type 0
Leads cells starts counts firsts s A r B = IfSome r (Deeper s) × Kept s A B
    × ((H : Sheet) (F : ℕ) (hs : List Summand) → Ready H F cells starts counts firsts → Spotted H F cells s A hs → MatchOption r (Beyond hs) (λ t. Spotted H F cells t B hs))

-- the condition that a side of a conditional puts first
pub record CondOf (cells : List ℕ) (s : Spot) (d : Node) (second : Bool) (σ : List Data) (es : List (ℕ × Data)) : Type 0 where
  pub z : Data
  pub rest : List ℕ
  pub terms : drop d.terms cells ≡ enc_data z ++ rest
  pub writable : Writable s.n z
  pub is : es ≡ (wanted_of second, put_data (look σ) z) ∷ []

-- The heads of one side of the choice d at s, in their context, are hs.
pub record OnSide (H : Sheet) (F : ℕ) (cells : List ℕ) (s : Spot) (A : Arrays) (d : Node) (e : Side) (hs : List Summand) : Type 0 where
  pub ctx : Context s A
  pub t : Proc
  pub rest : List ℕ
  pub es : List (ℕ × Data)
  pub place : drop e.at cells ≡ enc false t ++ rest
  pub fine : Fine H s.n t
  pub fuel_left : s.fuel ≤ F
  pub equations_left : e.c + new_count false t < byte_limit
  pub none : (d.kind ≡ cond_kind → ⊥) → es ≡ []
  pub one : d.kind ≡ cond_kind → CondOf cells s d e.second ctx.σ es
  pub are : map (around ctx.vs (ctx.cs ++ es) ctx.ks) (heads H s.fuel ctx.σ s.m e.c t) ≡ hs
