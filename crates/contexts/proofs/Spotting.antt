-- Laws of contexts: what is kept, and heads that have not the limits.
use mathlib.Core.Path.{◌≡◌, refl, sym, ap, ◌∙◌, subst}
use mathlib.Core.List.{List, [], ◌∷◌, map}
use Prim.Native.Nat.{ℕ, ◌+◌, ◌-◌, ◌*◌, ◌≤◌}
use native.Mathlib.Omega.{arith}
use lib.ListN.{length, drop}
use lib.Seq.{drop-drop}
use Rattle.pcrl.specs.Tests.{Every}
use Rattle.pcrl.specs.Sheet.{Data, Proc, delta, atom, alt, cond, sum, seq, call, Act, Sheet}
use Rattle.pcrl.specs.Table.{Summand}
use Rattle.pcrl.specs.Heads.{look}
use Rattle.nodes.specs.declared.Node.{Node}
use Rattle.nodes.specs.Layout.{atom_kind, sum_kind, alt_kind, cond_kind, call_kind, seq_kind}
use Rattle.nodes.specs.Nodes.{kind_of}
use Rattle.nodes.specs.Views.{Opened, Views}
use Rattle.nodes.proofs.Nodes.{one_item, items_end}
use Rattle.putting.specs.Slots.{slot_width}
use Rattle.putting.proofs.Bytes.{kept_front}
use Rattle.putting.proofs.Several.{slot_kept}
use Rattle.contexts.specs.declared.Spot.{Spot}
use Rattle.contexts.specs.declared.Side.{Side}
use Rattle.contexts.specs.Spots.{SummandFits, Arrays, Context, SpottedAt, Spotted, Deeper, Kept, Beyond, OnSide}

-- BY KIND

module _ (P : Proc → Type 0) (G : Type 0) where
  pub case_atom : (p : Proc) → P p → kind_of p ≡ atom_kind → ((a : Act) (ds : List Data) → P (atom a ds) → G) → G
  unfolding kind_of
  case_atom delta sp e k = absurd (omega arith)
  case_atom (atom a ds) sp e k = k a ds sp
  case_atom (alt x y) sp e k = absurd (omega arith)
  case_atom (cond z x y) sp e k = absurd (omega arith)
  case_atom (sum z D x) sp e k = absurd (omega arith)
  case_atom (seq x y) sp e k = absurd (omega arith)
  case_atom (call z ds) sp e k = absurd (omega arith)

  pub case_alt : (p : Proc) → P p → kind_of p ≡ alt_kind → ((x y : Proc) → P (alt x y) → G) → G
  unfolding kind_of
  case_alt delta sp e k = absurd (omega arith)
  case_alt (atom a ds) sp e k = absurd (omega arith)
  case_alt (alt x y) sp e k = k x y sp
  case_alt (cond z x y) sp e k = absurd (omega arith)
  case_alt (sum z D x) sp e k = absurd (omega arith)
  case_alt (seq x y) sp e k = absurd (omega arith)
  case_alt (call z ds) sp e k = absurd (omega arith)

  pub case_cond : (p : Proc) → P p → kind_of p ≡ cond_kind → ((z : Data) (x y : Proc) → P (cond z x y) → G) → G
  unfolding kind_of
  case_cond delta sp e k = absurd (omega arith)
  case_cond (atom a ds) sp e k = absurd (omega arith)
  case_cond (alt x y) sp e k = absurd (omega arith)
  case_cond (cond z x y) sp e k = k z x y sp
  case_cond (sum z D x) sp e k = absurd (omega arith)
  case_cond (seq x y) sp e k = absurd (omega arith)
  case_cond (call z ds) sp e k = absurd (omega arith)

  pub case_sum : (p : Proc) → P p → kind_of p ≡ sum_kind → ((z D : ℕ) (x : Proc) → P (sum z D x) → G) → G
  unfolding kind_of
  case_sum delta sp e k = absurd (omega arith)
  case_sum (atom a ds) sp e k = absurd (omega arith)
  case_sum (alt x y) sp e k = absurd (omega arith)
  case_sum (cond z x y) sp e k = absurd (omega arith)
  case_sum (sum z D x) sp e k = k z D x sp
  case_sum (seq x y) sp e k = absurd (omega arith)
  case_sum (call z ds) sp e k = absurd (omega arith)

  pub case_seq : (p : Proc) → P p → kind_of p ≡ seq_kind → ((x y : Proc) → P (seq x y) → G) → G
  unfolding kind_of
  case_seq delta sp e k = absurd (omega arith)
  case_seq (atom a ds) sp e k = absurd (omega arith)
  case_seq (alt x y) sp e k = absurd (omega arith)
  case_seq (cond z x y) sp e k = absurd (omega arith)
  case_seq (sum z D x) sp e k = absurd (omega arith)
  case_seq (seq x y) sp e k = k x y sp
  case_seq (call z ds) sp e k = absurd (omega arith)

  pub case_call : (p : Proc) → P p → kind_of p ≡ call_kind → ((z : ℕ) (ds : List Data) → P (call z ds) → G) → G
  unfolding kind_of
  case_call delta sp e k = absurd (omega arith)
  case_call (atom a ds) sp e k = absurd (omega arith)
  case_call (alt x y) sp e k = absurd (omega arith)
  case_call (cond z x y) sp e k = absurd (omega arith)
  case_call (sum z D x) sp e k = absurd (omega arith)
  case_call (seq x y) sp e k = absurd (omega arith)
  case_call (call z ds) sp e k = k z ds sp

-- HEADS BEYOND THE LIMITS

-- if no head in this context has the limits
pub no_head : (f : Summand → Summand) (xs hs : List Summand) → map f xs ≡ hs → ((x : Summand) → ¬ (SummandFits (f x))) → Beyond hs
unfolding Every
no_head f [] hs e n w = sym e
no_head f (x ∷ xs) hs e n w = let u : Every SummandFits (map f (x ∷ xs)) = subst (λ (l : List Summand). Every SummandFits l) (sym e) w in absurd (n x u.0)

pub map_none : (f : Summand → Summand) (xs hs : List Summand) → map f xs ≡ hs → xs ≡ [] → hs ≡ []
map_none f xs hs e n = sym e ∙ ap (map f) n

pub none_map : (f : Summand → Summand) (xs hs : List Summand) → map f xs ≡ hs → hs ≡ [] → xs ≡ []
none_map f [] hs e n = refl
none_map f (x ∷ xs) hs e n = let z : ◌≡◌ {A = ℕ} 0 1 = (let y : ◌≡◌ {A = List Summand} (f x ∷ map f xs) [] = e ∙ n in cc) in absurd (omega arith)

-- WHAT IS KEPT

kept_back : (w v : ℕ) (o o' : List ℕ) → v ≤ w → drop v o' ≡ drop v o → drop w o' ≡ drop w o
kept_back w v o o' h e =
    let z : w ≡ v + (w - v) = omega arith in
    ap (λ (i : ℕ). drop i o') z ∙ sym (drop-drop (w - v) v o') ∙ ap (drop (w - v)) e ∙ drop-drop (w - v) v o ∙ ap (λ (i : ℕ). drop i o) (sym z)

pub kept_same : (s : Spot) (A : Arrays) → Kept s A A
kept_same s A = record { slots_kept = refl; vars_kept = refl; conds_kept = refl; calls_kept = refl }

pub kept_then : (s : Spot) (A B C : Arrays) → Kept s A B → Kept s B C → Kept s A C
kept_then s A B C k l = record {
  slots_kept = l.slots_kept ∙ k.slots_kept;
  vars_kept = l.vars_kept ∙ k.vars_kept;
  conds_kept = l.conds_kept ∙ k.conds_kept;
  calls_kept = l.calls_kept ∙ k.calls_kept;
}

pub kept_up : (s r : Spot) (A B : Arrays) → Deeper s r → Kept r A B → Kept s A B
kept_up s r A B d k = record {
  slots_kept = kept_front (slot_width * s.n) (slot_width * r.n) A.slots B.slots (let z = d.n_on in omega arith) k.slots_kept;
  vars_kept = kept_front s.nv r.nv A.vars B.vars d.nv_on k.vars_kept;
  conds_kept = kept_front s.lc r.lc A.conds B.conds d.lc_on k.conds_kept;
  calls_kept = kept_back s.top r.top A.calls B.calls d.top_on k.calls_kept;
}

pub deeper_same : (s : Spot) → Deeper s s
deeper_same s = record { n_on = omega arith; nv_on = omega arith; lc_on = omega arith; top_on = omega arith }

pub deeper_then : (s r t : Spot) → Deeper s r → Deeper r t → Deeper s t
deeper_then s r t d e = record { n_on = omega arith; nv_on = omega arith; lc_on = omega arith; top_on = omega arith }

pub context_kept : (s : Spot) (A B : Arrays) → Kept s A B → Context s A → Context s B
context_kept s A B k c = record {
  σ = c.σ;
  vs = c.vs;
  cs = c.cs;
  ks = c.ks;
  held = record { many = c.held.many; each = λ i l. slot_kept (slot_width * s.n) A.slots B.slots k.slots_kept (look c.σ i) (slot_width * i) (omega arith) (c.held.each i l) };
  vars_are = k.vars_kept ∙ c.vars_are;
  vars_many = c.vars_many;
  conds_are = k.conds_kept ∙ c.conds_are;
  conds_many = c.conds_many;
  conds_small = c.conds_small;
  calls_are = k.calls_kept ∙ c.calls_are;
  calls_many = c.calls_many;
  calls_small = c.calls_small;
}

pub side_kept : (H : Sheet) (F : ℕ) (cells : List ℕ) (s : Spot) (A B : Arrays) (d : Node) (e : Side) (hs : List Summand) → Kept s A B → OnSide H F cells s A d e hs → OnSide H F cells s B d e hs
unfolding context_kept
side_kept H F cells s A B d e hs k o = record {
  ctx = context_kept s A B k o.ctx;
  t = o.t;
  rest = o.rest;
  es = o.es;
  place = o.place;
  fine = o.fine;
  fuel_left = o.fuel_left;
  equations_left = o.equations_left;
  none = o.none;
  one = o.one;
  are = o.are;
}

-- AT A NODE

module _ (H : Sheet) (F : ℕ) (cells : List ℕ) (s : Spot) (A : Arrays) (hs : List Summand) where
  pub opened : (d : Node) → Views cells s.at d → (p : Proc) (sp : SpottedAt H F cells s A hs p) → Opened cells sp.b p [] sp.rest d
  opened d vw p sp = vw sp.b p [] sp.rest (sp.place ∙ one_item sp.b p sp.rest)

  pub kind : (d : Node) → Views cells s.at d → (k : ℕ) → d.kind ≡ k → (sp : Spotted H F cells s A hs) → kind_of sp.0 ≡ k
  kind d vw k e sp = sym (opened d vw sp.0 sp.1).kind_is ∙ e

  pub stuck : length cells ≤ s.at → Spotted H F cells s A hs → ⊥
  stuck l sp = items_end cells s.at l ((sp.1.b, sp.0) ∷ []) sp.1.rest (omega arith) (sp.1.place ∙ one_item sp.1.b sp.0 sp.1.rest)
