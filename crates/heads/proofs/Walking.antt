-- The walk over the heads of a term: what is written so far, and what is still to be written.
use mathlib.Core.Path.{◌≡◌, refl, sym, ap, ◌∙◌, subst}
use mathlib.Core.List.{List, [], ◌∷◌, ◌++◌, map, append-nil}
use mathlib.Core.Bool.{Bool, false}
use Rattle.std.specs.Prelude.{Some, None, Result, Ok, Err}
use Rattle.refusals.specs.declared.Refusal.{Refusal}
use Prim.Native.Nat.{ℕ, ◌+◌, ◌*◌, ◌<◌, ◌≤◌}
use native.Mathlib.Omega.{arith}
use lib.ListN.{length, drop, take, length-append, length-map}
use lib.Seq.{drop-length, length-take-le}
use Rattle.pcrl.specs.Tests.{Every}
use Rattle.pcrl.specs.Reader.{all}
use Rattle.pcrl.specs.Sheet.{Data, Proc, Sheet}
use Rattle.pcrl.specs.Table.{Summand}
use Rattle.pcrl.specs.Stream.{encode_summand}
use Rattle.pcrl.specs.Heads.{look, heads}
use Rattle.laws.specs.Every.{every_append, every_left, every_right}
use Rattle.nodes.specs.declared.Node.{Node}
use Rattle.nodes.specs.Layout.{byte_limit, enc}
use Rattle.counting.specs.declared.Counted.{Counted}
use Rattle.counting.specs.Limits.{row_width, cut, row}
use Rattle.counting.specs.Counting.{Counts, Tallied}
use Rattle.counting.specs.Heads.{count_of, count_heads}
use Rattle.counting.proofs.Rows.{row_counts}
use Rattle.putting.specs.Slots.{slot_width, Adds}
use Rattle.putting.proofs.Bytes.{adds_then}
use Rattle.putting.proofs.Several.{slot_kept}
use Rattle.following.proofs.Parts.{all_append}
use Rattle.contexts.specs.declared.Spot.{Spot}
use Rattle.contexts.specs.declared.Side.{Side}
use Rattle.contexts.specs.Spots.{SummandFits, Arrays, arrays, around, Spotted, Deeper, Kept, Beyond, Leads, OnSide}
use Rattle.contexts.specs.Steps.{SideDown, SummandsOut}
use Rattle.contexts.proofs.Spotting.{kept_same, kept_then, kept_up, deeper_same, stuck}
use Rattle.contexts.proofs.Sides.{Passed}
use Rattle.heads.specs.Writing.{HeadsWritten}
use Rattle.heads.specs.declared.walk.Turn.{Turn}
use Rattle.heads.specs.declared.walk.Next.TheVariants.{Into}
use Rattle.heads.specs.Stack.{later_cells, Queue}
use Rattle.heads.specs.Progress.{Past, Start, start, Roomy, Moved, Onward, WrittenBy, Toward}
use Rattle.heads.proofs.Stacking.{queue_many, queue_in, queue_kept, queue_same, queue_base}

-- COUNTS

-- a count by a row is that of the heads
pub counted : (cells counts : List ℕ) (at fuel : ℕ) (a : Counted) → Counts cells (row (row_width * fuel) counts) at a
    → (H : Sheet) (F : ℕ) (b : Bool) (p : Proc) (rest : List ℕ) (σ : List Data) (m c : ℕ) → length H.procs ≤ row_width → Tallied H F counts → fuel ≤ F → drop at cells ≡ enc b p ++ rest
    → a.heads ≡ cut (length (heads H fuel σ m c p))
unfolding count_of
counted cells counts at fuel a h H F b p rest σ m c few t l e = (h b p rest e).0 ∙ row_counts H few F counts t fuel l p ∙ ap cut (sym (count_heads H fuel σ m c p))

-- and passes the term
pub passed : (cells K : List ℕ) (at : ℕ) (a : Counted) → Counts cells K at a → Passed cells at a.next a.own
unfolding cut
passed cells K at a h p rest e = let q = h false p rest e in (λ few. let z = q.2 in omega arith, q.1)

pub length_none : (hs : List Summand) → length hs ≡ 0 → hs ≡ []
length_none [] e = refl
length_none (h ∷ hs) e = absurd (omega arith)

-- of one side of a choice
pub counted_side : (cells counts : List ℕ) (s : Spot) (A : Arrays) (d : Node) (e : Side) (a : Counted) → Counts cells (row (row_width * s.fuel) counts) e.at a
    → (H : Sheet) (F : ℕ) (hs : List Summand) → length H.procs ≤ row_width → Tallied H F counts → OnSide H F cells s A d e hs → a.heads ≡ cut (length hs)
counted_side cells counts s A d e a ct H F hs few t q =
    let f = around q.ctx.vs (q.ctx.cs ++ q.es) q.ctx.ks in
    let xs = heads H s.fuel q.ctx.σ s.m e.c q.t in
    counted cells counts e.at s.fuel a ct H F false q.t q.rest q.ctx.σ s.m e.c few t q.fuel_left q.place ∙ ap cut (sym (length-map xs f) ∙ ap length q.are)

-- SUMMANDS WRITTEN

module _ (w v : ℕ) (o o' o'' : List ℕ) where
  out_then : (r : Result ℕ Refusal) (xs ys : List Summand) → Every SummandFits xs → Adds (all encode_summand xs) w o v o' → w ≤ length o → v ≤ length o' → length o' ≡ length o → SummandsOut ys v o' r o'' → SummandsOut (xs ++ ys) w o r o''
  out_then (Ok n) xs ys within e lw lv same k =
      (every_append SummandFits xs ys within k.0, adds_then (all encode_summand xs) (all encode_summand ys) w v n o o' o'' e k.1 ∙ ap (λ (l : List ℕ). take w o ++ l) (sym (all_append encode_summand xs ys)))
  out_then (Err x) xs ys within e lw lv same k = λ h.
      let q = k (every_right SummandFits xs ys h) in
      (q.0, omega (arith, ap length (all_append encode_summand xs ys), length-append (all encode_summand xs) (all encode_summand ys), length-take-le v o' lv, length-take-le w o lw, ap length e, length-append (take w o) (all encode_summand xs)))

out_short : (w : ℕ) (o o' : List ℕ) (x : Refusal) (xs ys : List Summand) → SummandsOut xs w o (Err x) o' → SummandsOut (xs ++ ys) w o (Err x) o'
out_short w o o' x xs ys k h =
    let q = k (every_left SummandFits xs ys h) in
    (q.0, omega (arith, ap length (all_append encode_summand xs ys), length-append (all encode_summand xs) (all encode_summand ys)))

module _ (cells starts counts firsts : List ℕ) where
  -- AT A SPOT

  pub goes_start : (s : Spot) (A : Arrays) (w : ℕ) (o : List ℕ) (heads q : ℕ) (l : List ℕ) → w ≤ length o → Onward cells starts counts firsts (start s A w o heads q (length l)) s heads heads q w A l o
  unfolding Every all Queue
  goes_start s A w o heads q l lw H F hs rd sp ro = record {
    done = [];
    here = hs;
    waiting = [];
    n = 0;
    split = sym (append-nil hs);
    within = tt;
    bytes = sym (append-nil (take w o));
    spotted = sp;
    many = ro.many;
    some = ro.some;
    both = omega arith;
    deep = omega arith;
    queue = (deeper_same s, refl);
    kept = kept_same s A;
    fuel_is = refl;
    start_in = lw;
    inside = lw;
    same = refl;
    long = omega arith;
  }

  -- heads that have not the limits
  pub beyond_these : (S : Start) (o : List ℕ) (hs xs here ys : List Summand) → hs ≡ xs ++ (here ++ ys) → Beyond here → 0 < length here → (x : Refusal) → SummandsOut hs S.w S.o (Err x) o
  beyond_these S o hs xs here ys e far some x fit =
      let u : Every SummandFits (xs ++ (here ++ ys)) = subst (λ (x : List Summand). Every SummandFits x) e fit in
      let z = far (every_left SummandFits here ys (every_right SummandFits xs (here ++ ys) u)) in
      absurd (omega (arith, ap length z))

  module _ (H : Sheet) (F : ℕ) (S : Start) (s : Spot) (heads left q v : ℕ) (B : Arrays) (l o : List ℕ) (hs : List Summand) (m : Moved cells starts counts firsts H F S s heads left q v B l o hs) where
    -- how many are left
    pub moved_left : length m.done + left ≡ length hs
    moved_left = omega (arith, ap length m.split, length-append m.done (m.here ++ m.waiting), length-append m.here m.waiting, m.many, m.both)

    pub moved_roomy : Roomy S hs → Roomy (start s B v o heads q (length l)) m.here
    moved_roomy ro =
        let k = queue_many H F cells S.s l S.s.fuel S.q m.n s B m.waiting m.queue in
        record { many = m.many; some = m.some; few = omega (arith, moved_left, m.both, ro.many, ro.few); room_for = omega (arith, moved_left, m.both, m.deep, m.long, k, ro.many, ro.room_for) }

    -- deeper, with the same heads
    pub moved_to : (t : Spot) (C : Arrays) → Spotted H F cells t C m.here → Deeper s t → Kept s B C → t.fuel ≡ s.fuel → Moved cells starts counts firsts H F S t heads left q v C l o hs
    moved_to t C sp dp kp ef = record {
      done = m.done;
      here = m.here;
      waiting = m.waiting;
      n = m.n;
      split = m.split;
      within = m.within;
      bytes = m.bytes;
      spotted = sp;
      many = m.many;
      some = m.some;
      both = m.both;
      deep = m.deep;
      queue = queue_in H F cells S.s l S.s.fuel S.q m.n s t C m.waiting dp (queue_kept H F cells S.s l S.s.fuel S.q m.n s B C m.waiting kp m.queue);
      kept = kept_then S.s S.A B C m.kept (kept_up S.s s B C (queue_base H F cells S.s l S.s.fuel S.q m.n s B m.waiting m.queue) kp);
      fuel_is = ef ∙ m.fuel_is;
      start_in = m.start_in;
      inside = m.inside;
      same = m.same;
      long = m.long;
    }

    -- the heads here have not the limits
    pub beyond_out : Beyond m.here → (x : Refusal) → SummandsOut hs S.w S.o (Err x) o
    beyond_out far x = beyond_these S o hs m.done m.here m.waiting m.split far (omega (arith, m.many, m.some)) x

    -- a leaf's heads are written, or they are not
    pub leaf_fails : (x : Refusal) (o' : List ℕ) → SummandsOut m.here v o (Err x) o' → SummandsOut hs S.w S.o (Err x) o'
    leaf_fails x o' k =
        subst (λ (y : List Summand). SummandsOut y S.w S.o (Err x) o') (sym m.split) (out_then S.w v S.o o o' (Err x) m.done (m.here ++ m.waiting) m.within m.bytes m.start_in m.inside m.same (out_short v o o' x m.here m.waiting k))

    pub leaf_last : (n : ℕ) (o' : List ℕ) → SummandsOut m.here v o (Ok n) o' → left ≤ heads → SummandsOut hs S.w S.o (Ok n) o'
    leaf_last n o' k last =
        let z : m.waiting ≡ [] = length_none m.waiting (omega (arith, m.both)) in
        let e : m.here ≡ m.here ++ m.waiting = sym (append-nil m.here) ∙ ap (λ (y : List Summand). m.here ++ y) (sym z) in
        subst (λ (y : List Summand). SummandsOut y S.w S.o (Ok n) o') (sym m.split) (out_then S.w v S.o o o' (Ok n) m.done (m.here ++ m.waiting) m.within m.bytes m.start_in m.inside m.same (subst (λ (y : List Summand). SummandsOut y v o (Ok n) o') e k))

  -- ON

  module _ (S : Start) (s : Spot) (heads left q v : ℕ) (B : Arrays) (l o : List ℕ) (on : Onward cells starts counts firsts S s heads left q v B l o) where
    pub goes_past : (t : Spot) → Past cells counts heads s t → Onward cells starts counts firsts S t heads left q v B l o
    goes_past t pt H F hs rd sp ro =
        let m = on H F hs rd sp ro in
        moved_to H F S s heads left q v B l o hs m t B (pt.spotted H F B m.here rd.procs_few rd.tallied m.many m.spotted) pt.deeper (kept_same s B) pt.fuel_same

    -- a term that ends outside the cells: there is none
    pub goes_stuck : length cells ≤ s.at → (x : Result ℕ Refusal) (C : Arrays) (o' : List ℕ) → WrittenBy cells starts counts firsts S x C o'
    goes_stuck out x C o' H F hs rd sp ro = let m = on H F hs rd sp ro in absurd (stuck H F cells s B m.here out m.spotted)

    pub goes_step : (t : Spot) (C : Arrays) → Leads cells starts counts firsts s B (Some t) C → t.fuel ≡ s.fuel → Onward cells starts counts firsts S t heads left q v C l o
    goes_step t C ld ef H F hs rd sp ro = let m = on H F hs rd sp ro in moved_to H F S s heads left q v B l o hs m t C (ld.2 H F m.here rd m.spotted) ld.0 ld.1 ef

    -- a step that fails
    pub goes_nowhere : (C : Arrays) → Leads cells starts counts firsts s B None C → (x : Refusal) → WrittenBy cells starts counts firsts S (Err x) C o
    goes_nowhere C ld x H F hs rd sp ro = let m = on H F hs rd sp ro in (beyond_out H F S s heads left q v B l o hs m (ld.2 H F m.here rd m.spotted) x, tt)

    -- a stack that is the same so far
    pub goes_later : (l' : List ℕ) → later_cells * q ≤ length l → length l' ≡ length l → take (later_cells * q) l' ≡ take (later_cells * q) l → Onward cells starts counts firsts S s heads left q v B l' o
    goes_later l' high el same H F hs rd sp ro =
        let m = on H F hs rd sp ro in
        let e : take (later_cells * (S.q + m.n)) l' ≡ take (later_cells * (S.q + m.n)) l = subst (λ (j : ℕ). take (later_cells * j) l' ≡ take (later_cells * j) l) m.deep same in
        record {
          done = m.done;
          here = m.here;
          waiting = m.waiting;
          n = m.n;
          split = m.split;
          within = m.within;
          bytes = m.bytes;
          spotted = m.spotted;
          many = m.many;
          some = m.some;
          both = m.both;
          deep = m.deep;
          queue = queue_same H F cells S.s l l' S.s.fuel S.q m.n s B m.waiting (subst (λ (j : ℕ). later_cells * j ≤ length l) m.deep high) el e m.queue;
          kept = m.kept;
          fuel_is = m.fuel_is;
          start_in = m.start_in;
          inside = m.inside;
          same = m.same;
          long = omega (arith, m.long, el);
        }

  -- down into the side
  module _ (S : Start) (k : Turn) (slots vars conds calls l o : List ℕ) (tw : Toward cells starts counts firsts S (Ok (Into k)) (arrays slots vars conds calls) l o) (conds' : List ℕ) where
    pub toward_down : (r : Spot) → SideDown cells k.d k.t k.e slots conds (Some r) conds' → r.fuel ≡ k.t.fuel
        → Onward cells starts counts firsts S r k.heads k.left k.q k.w (arrays slots vars conds' calls) l o
    toward_down r sd ef H F hs rd sp ro =
        let B = arrays slots vars conds calls in
        let C = arrays slots vars conds' calls in
        let z = sd vars calls in
        let a = tw H F hs rd sp ro in
        record {
          done = a.done;
          here = a.here;
          waiting = a.waiting;
          n = a.n;
          split = a.split;
          within = a.within;
          bytes = a.bytes;
          spotted = z.2 H F a.here a.side;
          many = a.many;
          some = a.some;
          both = a.both;
          deep = a.deep;
          queue = queue_in H F cells S.s l S.s.fuel S.q a.n k.t r C a.waiting z.0 (queue_kept H F cells S.s l S.s.fuel S.q a.n k.t B C a.waiting z.1 a.queue);
          kept = kept_then S.s S.A B C a.kept (kept_up S.s k.t B C (queue_base H F cells S.s l S.s.fuel S.q a.n k.t B a.waiting a.queue) z.1);
          fuel_is = ef ∙ a.fuel_is;
          start_in = a.start_in;
          inside = a.inside;
          same = a.same;
          long = a.long;
        }

    pub toward_nowhere : SideDown cells k.d k.t k.e slots conds None conds' → (x : Refusal) → WrittenBy cells starts counts firsts S (Err x) (arrays slots vars conds' calls) o
    toward_nowhere sd x H F hs rd sp ro =
        let a = tw H F hs rd sp ro in
        (beyond_these S o hs a.done a.here a.waiting a.split ((sd vars calls).2 H F a.here a.side) (omega (arith, a.many, a.some)) x, tt)

  -- THE WHOLE TERM

  abbrev pub spot : ℕ → ℕ → ℕ → ℕ → ℕ → ℕ → Spot
  spot at fuel n m c top = record { at = at; fuel = fuel; n = n; m = m; c = c; nv = 0; nc = 0; lc = 0; nk = 0; top = top }

  around_none : (x : Summand) → around [] [] [] x ≡ x
  unfolding around
  around_none x = ap (λ (l : List (ℕ × List Data)). record { vars = x.vars; conds = x.conds; act = x.act; terms = x.terms; calls = l }) (append-nil x.calls)

  map_around : (hs : List Summand) → map (around [] [] []) hs ≡ hs
  map_around [] = refl
  map_around (h ∷ hs) = ap (λ (x : Summand). x ∷ map (around [] [] []) hs) (around_none h) ∙ ap (λ (l : List Summand). h ∷ l) (map_around hs)

  pub heads_out : (fuel at c : ℕ) (base : List ℕ) (n m many w : ℕ) (o work vars conds calls : List ℕ) (top room : ℕ) → top ≡ length calls → take (slot_width * n) work ≡ take (slot_width * n) base → (x : Result ℕ Refusal) (B : Arrays) (o' : List ℕ)
      → WrittenBy cells starts counts firsts (start (spot at fuel n m c top) (arrays work vars conds calls) w o many 0 room) x B o' → later_cells * byte_limit ≤ room + later_cells → HeadsWritten cells starts counts firsts fuel at c base n m many w o x o'
  unfolding all Every
  heads_out fuel at c base n m many w o work vars conds calls top room et kept x B o' wr big H σ b p rest rd e f s fn nw em some few = (wr H fuel (heads H fuel σ m c p) rd (
    p,
    record {
      ctx = record {
        σ = σ;
        vs = [];
        cs = [];
        ks = [];
        held = record { many = s.many; each = λ j k. slot_kept (slot_width * n) base work kept (look σ j) (slot_width * j) (omega arith) (s.each j k) };
        vars_are = refl;
        vars_many = refl;
        conds_are = refl;
        conds_many = refl;
        conds_small = tt;
        calls_are = ap (λ (i : ℕ). drop i calls) et ∙ drop-length calls;
        calls_many = refl;
        calls_small = tt;
      };
      b = b;
      rest = rest;
      place = e;
      first = f;
      fine = fn;
      fuel_left = omega arith;
      equations_left = nw;
      are = map_around (heads H fuel σ m c p);
    },
  ) (record { many = em; some = some; few = few; room_for = omega arith })).0
