-- The stack of what is walked later: entries are read as they were put, and outlast what is written above them.
use mathlib.Core.Path.{◌≡◌, refl, sym, ap, ◌∙◌, subst}
use mathlib.Core.List.{List, [], ◌∷◌, ◌++◌, append_assoc}
use mathlib.Core.Bool.{true}
use Prim.Native.Nat.{ℕ, zero, suc, ◌+◌, ◌-◌, ◌*◌, ◌/◌, ◌%◌, ◌<◌, ◌≤◌}
use native.Mathlib.Omega.{arith}
use native.Mathlib.Decide.{ℕ_discrete}
use mathlib.Core.Logic.{◌≢◌}
use lib.ListN.{length, drop, take, set, length-append}
use lib.Seq.{take-add, take_at, drop_at, sets, sets-eq, length-take-le}
use Rattle.pcrl.specs.Sheet.{Sheet}
use Rattle.pcrl.specs.Table.{Summand}
use Rattle.nodes.specs.declared.Node.{Node}
use Rattle.nodes.specs.Layout.{byte_limit, cell_limit}
use Rattle.nodes.specs.Views.{On, Views}
use Rattle.putting.proofs.Bytes.{kept_front}
use Rattle.following.specs.Follows.{calls_room}
use Rattle.contexts.specs.declared.Spot.{Spot}
use Rattle.contexts.specs.declared.Side.{Side}
use Rattle.contexts.specs.Spots.{Arrays, Bound, Spotted, Deeper, Kept, OnSide}
use Rattle.contexts.proofs.Spotting.{kept_up, deeper_then, side_kept, opened}
use Rattle.heads.specs.declared.waiting.Later.{Later}
use Rattle.heads.specs.Stack.{later_cells, packed, unpacked, slab, entry, LaterPut, Steady, Waits, Queue}

-- ENTRIES

-- what stands at a place is that of the front
slab_same : (l l' : List ℕ) (q n : ℕ) → later_cells * q + later_cells ≤ n → take n l' ≡ take n l → n ≤ length l → n ≤ length l' → slab l' q ≡ slab l q
unfolding slab
slab_same l l' q n h e f f' =
    let i = later_cells * q in
    let z : take (i + later_cells) l' ≡ take (i + later_cells) l = kept_front (i + later_cells) n l l' h e in
    let u = sym (take-add i later_cells l') ∙ z ∙ take-add i later_cells l in
    let v : take i l' ≡ take i l = kept_front i n l l' (omega arith) e in
    sym (drop_at (take i l') (take later_cells (drop i l')) i (length-take-le i l' (omega arith))) ∙ ap (drop i) u ∙ drop_at (take i l) (take later_cells (drop i l)) i (length-take-le i l (omega arith))

-- what an entry becomes
abbrev pub later_spot : ℕ → Spot → ℕ → Spot
later_spot fuel s c = record { at = s.at; fuel = fuel; n = s.n; m = s.m; c = c; nv = s.nv; nc = s.nc; lc = s.lc; nk = s.nk; top = s.top }

module _ (fuel lk ls : ℕ) (s : Spot) (e : Side) (heads : ℕ) (b : Bound lk ls s) (few : lk ≤ calls_room) (small : e.c < byte_limit) where
  pub unpacks : s.at < cell_limit → e.at < cell_limit → heads < byte_limit → unpacked fuel (packed s e heads) ≡ record { s = later_spot fuel s e.c; e = record { second = true; at = e.at; c = e.c }; heads = heads }
  unfolding unpacked packed
  unpacks la le lh =
      let z₁ : s.at % cell_limit ≡ s.at = omega arith in
      let z₂ : (s.n * 64 + s.m) % cell_limit / 64 ≡ s.n = omega arith in
      let z₃ : (s.n * 64 + s.m) % cell_limit % 64 ≡ s.m = omega arith in
      let z₄ : (s.nv * 256 + s.nc * 16 + s.nk) % cell_limit / 256 ≡ s.nv = omega arith in
      let z₅ : (s.nv * 256 + s.nc * 16 + s.nk) % cell_limit / 16 % 16 ≡ s.nc = omega arith in
      let z₆ : (s.nv * 256 + s.nc * 16 + s.nk) % cell_limit % 16 ≡ s.nk = omega arith in
      let z₇ : s.lc % cell_limit ≡ s.lc = omega arith in
      let z₈ : s.top % cell_limit ≡ s.top = omega arith in
      let z₉ : e.at % cell_limit ≡ e.at = omega arith in
      let y₁ : (e.c * 256 + heads % 256) % cell_limit / 256 ≡ e.c = omega arith in
      let y₂ : (e.c * 256 + heads % 256) % cell_limit % 256 ≡ heads = omega arith in
      cc

  pub unpacks_bound : s.fuel ≡ fuel → Bound lk ls (unpacked fuel (packed s e heads)).s
  unfolding unpacked packed
  unpacks_bound ef = record {
    fuel_small = omega (arith, b.fuel_small);
    n_small = omega (arith, b.n_small, b.m_small, b.nv_few);
    n_room = omega (arith, b.n_room, b.m_small, b.nv_few, b.n_small, b.nc_few, b.nk_few);
    m_small = omega (arith, b.n_room, b.m_small, b.nv_few, b.n_small, b.nc_few, b.nk_few);
    c_small = omega arith;
    nv_few = omega (arith, b.nv_few, b.nc_few, b.nk_few);
    nc_few = omega (arith, b.nv_few, b.nc_few, b.nk_few);
    lc_few = omega (arith, b.nv_few, b.nc_few, b.nk_few, b.lc_few);
    nk_few = omega (arith, b.nv_few, b.nc_few, b.nk_few);
    top_in = omega (arith, b.top_in);
    top_room = omega (arith, b.top_in, b.top_room, b.nv_few, b.nc_few, b.nk_few);
  }

pub entry_c : (l : List ℕ) (q fuel : ℕ) (y : Later) → y ≡ entry l q fuel → (y.e.c ≡ y.s.c) × (y.s.fuel ≡ fuel)
unfolding entry unpacked
entry_c l q fuel y e = (ap (λ (z : Later). z.e.c) e ∙ sym (ap (λ (z : Later). z.s.c) e), ap (λ (z : Later). z.s.fuel) e)

-- seven cells one after another
pub put_right : (l : List ℕ) (q a b c d e f g : ℕ) → later_cells * q + later_cells ≤ length l
    → let i = later_cells * q in let n = set (set (set (set (set (set (set l i a) (i + 1) b) (i + 2) c) (i + 3) d) (i + 4) e) (i + 5) f) (i + 6) g in
    (take i n ≡ take i l) × (slab n q ≡ a ∷ b ∷ c ∷ d ∷ e ∷ f ∷ g ∷ [])
unfolding slab
put_right l q a b c d e f g h =
    let i = later_cells * q in
    let vs : List ℕ = a ∷ b ∷ c ∷ d ∷ e ∷ f ∷ g ∷ [] in
    let z₁ : suc i ≡ i + 1 = omega arith in
    let z₂ : suc (suc i) ≡ i + 2 = omega arith in
    let z₃ : suc (suc (suc i)) ≡ i + 3 = omega arith in
    let z₄ : suc (suc (suc (suc i))) ≡ i + 4 = omega arith in
    let z₅ : suc (suc (suc (suc (suc i)))) ≡ i + 5 = omega arith in
    let z₆ : suc (suc (suc (suc (suc (suc i))))) ≡ i + 6 = omega arith in
    let u : set (set (set (set (set (set (set l i a) (i + 1) b) (i + 2) c) (i + 3) d) (i + 4) e) (i + 5) f) (i + 6) g ≡ sets l i vs = cc in
    let w = u ∙ sets-eq vs l i h ∙ append_assoc (take i l) vs (drop (i + length vs) l) in
    let k = length-take-le i l (omega arith) in
    (ap (take i) w ∙ take_at (take i l) (vs ++ drop (i + length vs) l) i k, ap (λ (x : List ℕ). take later_cells (drop i x)) w ∙ ap (take later_cells) (drop_at (take i l) (vs ++ drop (i + length vs) l) i k) ∙ take_at vs (drop (i + length vs) l) later_cells refl)

-- THE SPOT AND ITS ENTRIES, WHATEVER THEY ARE

module _ (lk ls fuel q₀ : ℕ) where
  pub steady_start : (s : Spot) (q : ℕ) (l : List ℕ) → Bound lk ls s → s.fuel ≡ fuel → later_cells * q₀ ≤ length l → Steady lk ls fuel q₀ s q₀ l
  steady_start s q l b e h = record { bound = b; fuel_is = e; low = omega arith; high = h; stocked = λ j g k. absurd (omega arith) }

  module _ (s : Spot) (q : ℕ) (l : List ℕ) (y : Steady lk ls fuel q₀ s q l) where
    pub steady_to : (t : Spot) → Bound lk ls t → t.fuel ≡ s.fuel → Steady lk ls fuel q₀ t q l
    steady_to t b e = record { bound = b; fuel_is = e ∙ y.fuel_is; low = y.low; high = y.high; stocked = y.stocked }

    pub steady_later : (l' : List ℕ) → length l' ≡ length l → take (later_cells * q) l' ≡ take (later_cells * q) l → Steady lk ls fuel q₀ s q l'
    unfolding entry
    steady_later l' el same = record {
      bound = y.bound;
      fuel_is = y.fuel_is;
      low = y.low;
      high = omega (arith, y.high);
      stocked = λ j g k. subst (λ (x : List ℕ). Bound lk ls (unpacked fuel x).s) (sym (slab_same l l' j (later_cells * q) (omega arith) same y.high (omega (arith, y.high)))) (y.stocked j g k);
    }

    -- the last entry is taken
    pub steady_pop : q₀ < q → (p : ℕ) → p ≡ q - 1 → (t : Spot) → Bound lk ls t → t.fuel ≡ fuel → Steady lk ls fuel q₀ t p l
    steady_pop h p e t b ef = record { bound = b; fuel_is = ef; low = omega arith; high = omega (arith, y.high); stocked = λ j g k. y.stocked j g (omega arith) }

    pub steady_last : q₀ < q → Bound lk ls (entry l (q - 1) s.fuel).s
    steady_last h = subst (λ (f : ℕ). Bound lk ls (entry l (q - 1) f).s) (sym y.fuel_is) (y.stocked (q - 1) (omega arith) (omega arith))

    pub steady_own : Steady lk ls s.fuel q₀ s q l
    steady_own = subst (λ (f : ℕ). Steady lk ls f q₀ s q l) (sym y.fuel_is) y

    -- one more
    pub steady_push : lk ≤ calls_room → (e : Side) (heads : ℕ) (l' : List ℕ) → e.c < byte_limit → later_cells * q + later_cells ≤ length l → length l' ≡ length l → LaterPut l q s e heads l' → (t : Spot) → Bound lk ls t → t.fuel ≡ s.fuel → Steady lk ls fuel q₀ t (q + 1) l'
    unfolding entry
    steady_push few e heads l' small room el (same, new) t b ef = record {
      bound = b;
      fuel_is = ef ∙ y.fuel_is;
      low = omega (arith, y.low);
      high = omega arith;
      stocked = λ j g k. go j g k (ℕ_discrete j q);
    }
      where
        go : (j : ℕ) → q₀ ≤ j → j < q + 1 → Dec (j ≡ q) → Bound lk ls (unpacked fuel (slab l' j)).s
        go j g k (yes z) = subst (λ (x : List ℕ). Bound lk ls (unpacked fuel x).s) (sym (ap (slab l') z ∙ new)) (unpacks_bound fuel lk ls s e heads y.bound few small y.fuel_is)
        go j g k (no z) = let u : j ≢ q = z in (steady_later l' el same).stocked j g (omega arith)

pub steady_back : (lk ls f g q₀ : ℕ) (s : Spot) (q : ℕ) (l : List ℕ) → g ≡ f → Steady lk ls g q₀ s q l → Steady lk ls f q₀ s q l
steady_back lk ls f g q₀ s q l e y = subst (λ (h : ℕ). Steady lk ls h q₀ s q l) e y

pub steady_lengths : (lk lk' ls ls' f q₀ : ℕ) (s : Spot) (q : ℕ) (l : List ℕ) → lk ≡ lk' → ls ≡ ls' → Steady lk ls f q₀ s q l → Steady lk' ls' f q₀ s q l
steady_lengths lk lk' ls ls' f q₀ s q l e g y = subst (λ (i : ℕ). Steady i ls' f q₀ s q l) e (subst (λ (i : ℕ). Steady lk i f q₀ s q l) g y)

-- THE HEADS THAT WAIT

-- the node is determined by its place
side_node : (H : Sheet) (F : ℕ) (cells : List ℕ) (s : Spot) (A : Arrays) (d e : Node) (x : Side) (hs : List Summand) → e.kind ≡ d.kind → e.terms ≡ d.terms → OnSide H F cells s A d x hs → OnSide H F cells s A e x hs
side_node H F cells s A d e x hs k t o = record {
  ctx = o.ctx;
  t = o.t;
  rest = o.rest;
  es = o.es;
  place = o.place;
  fine = o.fine;
  fuel_left = o.fuel_left;
  equations_left = o.equations_left;
  none = λ n. o.none (λ y. n (k ∙ y));
  one = λ y. let c = o.one (sym k ∙ y) in record { z = c.z; rest = c.rest; terms = ap (λ (i : ℕ). drop i cells) t ∙ c.terms; writable = c.writable; is = c.is };
  are = o.are;
}

-- and does not ask for the spot's own equations
side_at : (H : Sheet) (F : ℕ) (cells : List ℕ) (fuel : ℕ) (s : Spot) (A : Arrays) (d : Node) (x : Side) (c : ℕ) (hs : List Summand) → s.fuel ≡ fuel → OnSide H F cells s A d x hs → OnSide H F cells (later_spot fuel s c) A d x hs
side_at H F cells fuel s A d x c hs ef o = subst (λ (f : ℕ). OnSide H F cells (later_spot f s c) A d x hs) ef (record {
  ctx = record {
    σ = o.ctx.σ;
    vs = o.ctx.vs;
    cs = o.ctx.cs;
    ks = o.ctx.ks;
    held = o.ctx.held;
    vars_are = o.ctx.vars_are;
    vars_many = o.ctx.vars_many;
    conds_are = o.ctx.conds_are;
    conds_many = o.ctx.conds_many;
    conds_small = o.ctx.conds_small;
    calls_are = o.ctx.calls_are;
    calls_many = o.ctx.calls_many;
    calls_small = o.ctx.calls_small;
  };
  t = o.t;
  rest = o.rest;
  es = o.es;
  place = o.place;
  fine = o.fine;
  fuel_left = o.fuel_left;
  equations_left = o.equations_left;
  none = o.none;
  one = λ y. let k = o.one y in record { z = k.z; rest = k.rest; terms = k.terms; writable = k.writable; is = k.is };
  are = o.are;
})

module _ (H : Sheet) (F : ℕ) (cells : List ℕ) (s₀ : Spot) where
  waits_kept : (r : Spot) (B C : Arrays) (x : Later) (hs : List Summand) → Kept r B C → Waits H F cells r B x hs → Waits H F cells r C x hs
  waits_kept r B C x hs k w = record {
    around_it = w.around_it;
    inside = w.inside;
    side = λ d on vw. side_kept H F cells x.s B C d x.e hs (kept_up x.s r B C w.around_it k) (w.side d on vw);
    many = w.many;
    some = w.some;
  }

  pub queue_kept : (l : List ℕ) (fuel q₀ n : ℕ) (r : Spot) (B C : Arrays) (ws : List Summand) → Kept r B C → Queue H F cells s₀ l fuel q₀ n r B ws → Queue H F cells s₀ l fuel q₀ n r C ws
  unfolding Queue
  queue_kept l fuel q₀ zero r B C ws k q = q
  queue_kept l fuel q₀ (suc n) r B C ws k (hs, rest, e, w, q) =
      let x = entry l (q₀ + n) fuel in
      (hs, rest, e, waits_kept r B C x hs k w, queue_kept l fuel q₀ n x.s B C rest (kept_up x.s r B C w.around_it k) q)

  pub queue_base : (l : List ℕ) (fuel q₀ n : ℕ) (r : Spot) (B : Arrays) (ws : List Summand) → Queue H F cells s₀ l fuel q₀ n r B ws → Deeper s₀ r
  unfolding Queue
  queue_base l fuel q₀ zero r B ws q = q.0
  queue_base l fuel q₀ (suc n) r B ws (hs, rest, e, w, q) = let x = entry l (q₀ + n) fuel in deeper_then s₀ x.s r (queue_base l fuel q₀ n x.s B rest q) w.around_it

  pub queue_many : (l : List ℕ) (fuel q₀ n : ℕ) (r : Spot) (B : Arrays) (ws : List Summand) → Queue H F cells s₀ l fuel q₀ n r B ws → n ≤ length ws
  unfolding Queue
  queue_many l fuel q₀ zero r B ws q = omega arith
  queue_many l fuel q₀ (suc n) r B ws (hs, rest, e, w, q) = let x = entry l (q₀ + n) fuel in omega (arith, queue_many l fuel q₀ n x.s B rest q, ap length e, length-append hs rest, w.many, w.some)

  pub queue_in : (l : List ℕ) (fuel q₀ n : ℕ) (r t : Spot) (B : Arrays) (ws : List Summand) → Deeper r t → Queue H F cells s₀ l fuel q₀ n r B ws → Queue H F cells s₀ l fuel q₀ n t B ws
  unfolding Queue
  queue_in l fuel q₀ zero r t B ws d q = (deeper_then s₀ r t q.0 d, q.1)
  queue_in l fuel q₀ (suc n) r t B ws d (hs, rest, e, w, q) =
      let x = entry l (q₀ + n) fuel in
      (hs, rest, e, record { around_it = deeper_then x.s r t w.around_it d; inside = w.inside; side = w.side; many = w.many; some = w.some }, q)

  entry_same : (l l' : List ℕ) (q n fuel : ℕ) → later_cells * q + later_cells ≤ n → take n l' ≡ take n l → n ≤ length l → n ≤ length l' → entry l q fuel ≡ entry l' q fuel
  unfolding entry
  entry_same l l' q n fuel h e f f' = ap (unpacked fuel) (sym (slab_same l l' q n h e f f'))

  pub queue_same : (l l' : List ℕ) (fuel q₀ n : ℕ) (r : Spot) (B : Arrays) (ws : List Summand) → later_cells * (q₀ + n) ≤ length l → length l' ≡ length l → take (later_cells * (q₀ + n)) l' ≡ take (later_cells * (q₀ + n)) l → Queue H F cells s₀ l fuel q₀ n r B ws → Queue H F cells s₀ l' fuel q₀ n r B ws
  unfolding Queue
  queue_same l l' fuel q₀ zero r B ws h el e q = q
  queue_same l l' fuel q₀ (suc n) r B ws h el e (hs, rest, es, w, q) =
      let z : entry l (q₀ + n) fuel ≡ entry l' (q₀ + n) fuel = entry_same l l' (q₀ + n) (later_cells * (q₀ + suc n)) fuel (omega arith) e (omega arith) (omega arith) in
      let k = queue_same l l' fuel q₀ n (entry l (q₀ + n) fuel).s B rest (omega arith) el (kept_front (later_cells * (q₀ + n)) (later_cells * (q₀ + suc n)) l l' (omega arith) e) q in
      subst (λ (x : Later). (hs : List Summand) × (rest : List Summand) × (ws ≡ hs ++ rest) × Waits H F cells r B x hs × Queue H F cells s₀ l' fuel q₀ n x.s B rest) z (hs, rest, es, w, k)

  -- one more
  pub queue_push : (l l' : List ℕ) (fuel q₀ n : ℕ) (s r : Spot) (A B : Arrays) (d : Node) (e : Side) (hs ws : List Summand) (here : List Summand) (heads : ℕ) (lk ls : ℕ) → Bound lk ls s → lk ≤ calls_room → e.c < byte_limit → length cells < cell_limit → e.at < cell_limit
      → s.at < length cells → On s.at d → Views cells s.at d → e ≡ record { second = true; at = e.at; c = e.c } → s.fuel ≡ fuel → Spotted H F cells s A here → OnSide H F cells s B d e hs → length hs ≡ heads → 0 < heads → heads < byte_limit → Deeper s r
      → later_cells * (q₀ + n) + later_cells ≤ length l → length l' ≡ length l → LaterPut l (q₀ + n) s e heads l'
      → Queue H F cells s₀ l fuel q₀ n s B ws → Queue H F cells s₀ l' fuel q₀ (suc n) r B (hs ++ ws)
  unfolding Queue entry
  queue_push l l' fuel q₀ n s r A B d e hs ws here heads lk ls b few small short near inside on vw ee ef sp side many some less dp room el (same, new) q =
      let x : Later = record { s = later_spot fuel s e.c; e = record { second = true; at = e.at; c = e.c }; heads = heads } in
      let z : x ≡ unpacked fuel (slab l' (q₀ + n)) = sym (ap (unpacked fuel) new ∙ unpacks fuel lk ls s e heads b few small (omega arith) near less) in
      let k = queue_in l' fuel q₀ n s (later_spot fuel s e.c) B ws (record { n_on = omega arith; nv_on = omega arith; lc_on = omega arith; top_on = omega arith }) (queue_same l l' fuel q₀ n s B ws (omega arith) el same q) in
      let w : Waits H F cells r B x hs = record {
        around_it = record { n_on = dp.n_on; nv_on = dp.nv_on; lc_on = dp.lc_on; top_on = dp.top_on };
        inside = inside;
        side = λ d' on' vw'.
            subst (λ (y : Side). OnSide H F cells (later_spot fuel s e.c) B d' y hs) ee
            (side_at H F cells fuel s B d' e e.c hs ef (side_node H F cells s B d d' e hs ((opened H F cells s A here d' vw' sp.0 sp.1).kind_is ∙ sym (opened H F cells s A here d vw sp.0 sp.1).kind_is) (on'.terms_at ∙ sym on.terms_at) side));
        many = many;
        some = some;
      } in
      subst (λ (y : Later). (bs : List Summand) × (rest : List Summand) × (hs ++ ws ≡ bs ++ rest) × Waits H F cells r B y bs × Queue H F cells s₀ l' fuel q₀ n y.s B rest) z (hs, ws, refl, w, k)

  -- none, or the last one
  pub queue_none : (l : List ℕ) (fuel q₀ n : ℕ) (r : Spot) (B : Arrays) (ws : List Summand) → n ≡ 0 → Queue H F cells s₀ l fuel q₀ n r B ws → ws ≡ []
  unfolding Queue
  queue_none l fuel q₀ zero r B ws e q = q.1
  queue_none l fuel q₀ (suc n) r B ws e q = absurd (omega arith)

  pub queue_pop : (l : List ℕ) (fuel q₀ n k : ℕ) (r : Spot) (B : Arrays) (ws : List Summand) (y : Later) → n ≡ suc k → entry l (q₀ + k) fuel ≡ y → Queue H F cells s₀ l fuel q₀ n r B ws
      → (hs : List Summand) × (rest : List Summand) × (ws ≡ hs ++ rest) × Waits H F cells r B y hs × Queue H F cells s₀ l fuel q₀ k y.s B rest
  unfolding Queue
  queue_pop l fuel q₀ n k r B ws y e ey q =
      let z : Queue H F cells s₀ l fuel q₀ (suc k) r B ws = subst (λ (i : ℕ). Queue H F cells s₀ l fuel q₀ i r B ws) e q in
      subst (λ (x : Later). (hs : List Summand) × (rest : List Summand) × (ws ≡ hs ++ rest) × Waits H F cells r B x hs × Queue H F cells s₀ l fuel q₀ k x.s B rest) ey z
