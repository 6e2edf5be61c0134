-- Into a choice: one side, or the first one while the second one waits.
use mathlib.Core.Path.{◌≡◌, sym, ap, ◌∙◌, subst}
use mathlib.Core.List.{List, [], ◌∷◌, ◌++◌, append_assoc, append-nil}
use mathlib.Core.Logic.{◌⊎◌, inl}
use mathlib.Core.Bool.{true, false}
use Rattle.std.specs.Prelude.{Result, Ok}
use Rattle.refusals.specs.declared.Refusal.{Refusal}
use Rattle.heads.specs.declared.walk.Next.TheVariants.{Into}
use Prim.Native.Nat.{ℕ, suc, ◌+◌, ◌-◌, ◌*◌, ◌<◌, ◌≤◌}
use native.Mathlib.Omega.{arith}
use lib.ListN.{length, drop, length-append}
use Rattle.pcrl.specs.Sheet.{Proc, Sheet}
use Rattle.pcrl.specs.Table.{Summand}
use Rattle.nodes.specs.Layout.{cell_limit, alt_kind, cond_kind, enc}
use Rattle.counting.specs.Limits.{row_width, cut, row}
use Rattle.following.specs.Follows.{calls_room}
use Rattle.contexts.specs.declared.Side.{Side}
use Rattle.contexts.specs.Spots.{Ready, Arrays, Bound, Spotted, OnSide}
use Rattle.contexts.proofs.Spotting.{deeper_same}
use Rattle.contexts.proofs.Sides.{Sides, sides}
use Rattle.nodes.proofs.Nodes.{one_item, items_end}
use Rattle.heads.specs.declared.alternatives.Ahead.{Ahead}
use Rattle.heads.specs.Stack.{later_cells, LaterPut}
use Rattle.heads.specs.Progress.{Looked, SecondSide, Start, Roomy, Moved, Onward, WrittenBy, Toward, aside_turn}
use Rattle.heads.proofs.Stacking.{queue_push}
use Rattle.heads.proofs.Walking.{passed, counted_side, length_none, moved_roomy}

-- a term stands inside the cells
placed_inside : (cells : List ℕ) (at : ℕ) (p : Proc) (rest : List ℕ) → drop at cells ≡ enc false p ++ rest → at < length cells
placed_inside cells at p rest e = let n : ¬ (length cells ≤ at) = λ h. items_end cells at h ((false, p) ∷ []) rest (omega arith) (e ∙ one_item false p rest) in omega arith

module _ (cells starts counts firsts : List ℕ) (g : Ahead) (lo : Looked cells counts g) (is : (g.d.kind ≡ alt_kind) ⊎ (g.d.kind ≡ cond_kind)) (e : Side) (se : SecondSide g e)
    (S : Start) (heads left q v : ℕ) (B : Arrays) (l o : List ℕ) (on : Onward cells starts counts firsts S g.s heads left q v B l o) where
  abbrev one : Side
  one = record { second = false; at = g.d.next; c = g.s.c }

  abbrev other : Side
  other = record { second = true; at = g.a.next; c = e.c }

  module _ (H : Sheet) (F : ℕ) (hs : List Summand) (rd : Ready H F cells starts counts firsts) (sp : Spotted H F cells S.s S.A hs) (ro : Roomy S hs) where
    abbrev moved : Moved cells starts counts firsts H F S g.s heads left q v B l o hs
    moved = on H F hs rd sp ro

    both : Sides H F cells g.s B g.d one other moved.here
    both = sides H F cells g.s B moved.here g.d lo.views g.a.next g.a.own (passed cells (row (row_width * g.s.fuel) counts) g.d.next g.a (lo.counts_first (inl is)).1) e.c se.2 is moved.spotted

    number : g.a.heads ≡ cut (length both.hs₁)
    number = counted_side cells counts g.s B g.d one g.a (lo.counts_first (inl is)).1 H F both.hs₁ rd.procs_few rd.tallied both.on₁

    sum : length both.hs₁ + length both.hs₂ ≡ heads
    sum = sym (length-append both.hs₁ both.hs₂) ∙ sym (ap length both.split) ∙ moved.many

    only_second : g.a.heads ≡ 0 → OnSide H F cells g.s B g.d e moved.here
    unfolding cut
    only_second none =
        let z : both.hs₁ ≡ [] = length_none both.hs₁ (omega (arith, number)) in
        let u : both.hs₂ ≡ moved.here = ap (λ (x : List Summand). x ++ both.hs₂) (sym z) ∙ sym both.split in
        subst (λ (x : Side). OnSide H F cells g.s B g.d x moved.here) (sym se.0) (subst (λ (x : List Summand). OnSide H F cells g.s B g.d other x) u both.on₂)

    only_first : heads ≤ g.a.heads → OnSide H F cells g.s B g.d one moved.here
    unfolding cut
    only_first All_first =
        let z : both.hs₂ ≡ [] = length_none both.hs₂ (omega (arith, number, sum)) in
        let u : both.hs₁ ≡ moved.here = sym (append-nil both.hs₁) ∙ ap (λ (x : List Summand). both.hs₁ ++ x) (sym z) ∙ sym both.split in
        subst (λ (x : List Summand). OnSide H F cells g.s B g.d one x) u both.on₁

    first_number : g.a.heads < heads → length both.hs₁ ≡ g.a.heads
    unfolding cut
    first_number less = omega (arith, number, (moved_roomy cells starts counts firsts H F S g.s heads left q v B l o hs moved ro).few)

  -- into one side, that has all heads
  toward_one : (x : Side) → ((H : Sheet) (F : ℕ) (hs : List Summand) (rd : Ready H F cells starts counts firsts) (sp : Spotted H F cells S.s S.A hs) (ro : Roomy S hs) → OnSide H F cells g.s B g.d x (moved H F hs rd sp ro).here)
      → Toward cells starts counts firsts S (Ok (Into (aside_turn g x heads left q v))) B l o
  toward_one x on_it H F hs rd sp ro =
      let m = moved H F hs rd sp ro in
      record {
        done = m.done;
        here = m.here;
        waiting = m.waiting;
        n = m.n;
        split = m.split;
        within = m.within;
        bytes = m.bytes;
        side = on_it H F hs rd sp ro;
        many = m.many;
        some = m.some;
        both = m.both;
        deep = m.deep;
        queue = m.queue;
        kept = m.kept;
        fuel_is = m.fuel_is;
        start_in = m.start_in;
        inside = m.inside;
        same = m.same;
        long = m.long;
      }

  pub second_goes : g.a.heads ≡ 0 → Toward cells starts counts firsts S (Ok (Into (aside_turn g e heads left q v))) B l o
  second_goes none = toward_one e (λ H F hs rd sp ro. only_second H F hs rd sp ro none)

  pub first_goes : heads ≤ g.a.heads → Toward cells starts counts firsts S (Ok (Into (aside_turn g one heads left q v))) B l o
  first_goes All_first = toward_one one (λ H F hs rd sp ro. only_first H F hs rd sp ro All_first)

  -- there is room for the second side
  pub has_room : (g.a.heads ≡ 0 → ⊥) → g.a.heads < heads → length l < later_cells * q + later_cells → (x : Result ℕ Refusal) (C : Arrays) (o' : List ℕ) → WrittenBy cells starts counts firsts S x C o'
  has_room some less full x C o' H F hs rd sp ro =
      let k = moved_roomy cells starts counts firsts H F S g.s heads left q v B l o hs (moved H F hs rd sp ro) ro in
      absurd (omega (arith, k.room_for))

  -- the second side waits
  pub both_go : (g.a.heads ≡ 0 → ⊥) → g.a.heads < heads → (lk ls : ℕ) → Bound lk ls g.s → lk ≤ calls_room
      → (l' : List ℕ) → later_cells * q + later_cells ≤ length l → length l' ≡ length l → LaterPut l q g.s e (heads - g.a.heads) l'
      → Toward cells starts counts firsts S (Ok (Into (aside_turn g one g.a.heads left (q + 1) v))) B l' o
  both_go some less lk ls bound few l' room el put H F hs rd sp ro =
      let m = moved H F hs rd sp ro in
      let b = both H F hs rd sp ro in
      let many = first_number H F hs rd sp ro less in
      let all_many = sum H F hs rd sp ro in
      let rm = moved_roomy cells starts counts firsts H F S g.s heads left q v B l o hs m ro in
      let on₂ : OnSide H F cells g.s B g.d e b.hs₂ = subst (λ (x : Side). OnSide H F cells g.s B g.d x b.hs₂) (sym se.0) b.on₂ in
      let near : e.at < cell_limit = omega (arith, rd.cells_few, placed_inside cells e.at on₂.t on₂.rest on₂.place) in
      record {
        done = m.done;
        here = b.hs₁;
        waiting = b.hs₂ ++ m.waiting;
        n = suc m.n;
        split = m.split ∙ ap (λ (x : List Summand). m.done ++ (x ++ m.waiting)) b.split ∙ ap (λ (x : List Summand). m.done ++ x) (append_assoc b.hs₁ b.hs₂ m.waiting);
        within = m.within;
        bytes = m.bytes;
        side = b.on₁;
        many = many;
        some = omega arith;
        both = omega (arith, length-append b.hs₂ m.waiting, m.both, many, all_many);
        deep = omega (arith, m.deep);
        queue =
            queue_push H F cells S.s l l' S.s.fuel S.q m.n g.s g.s B B g.d e b.hs₂ m.waiting m.here (heads - g.a.heads) lk ls bound few se.1 rd.cells_few near lo.inside lo.on lo.views (se.0 ∙ ap (λ (i : ℕ). record { second = true; at = i; c = e.c }) (sym (ap (λ (y : Side). y.at) se.0))) m.fuel_is m.spotted on₂
            (omega (arith, many, all_many)) (omega arith) (omega (arith, rm.few)) (deeper_same g.s)
            (subst (λ (j : ℕ). later_cells * j + later_cells ≤ length l) m.deep room) el (subst (λ (j : ℕ). LaterPut l j g.s e (heads - g.a.heads) l') m.deep put) m.queue;
        kept = m.kept;
        fuel_is = m.fuel_is;
        start_in = m.start_in;
        inside = m.inside;
        same = m.same;
        long = omega (arith, m.long, el);
      }
