-- Alternatives without heads are passed: what is left has the same heads, in the same context.
use mathlib.Core.Path.{◌≡◌, refl, sym, ap, ap₂, ◌∙◌, subst}
use mathlib.Core.List.{List, [], ◌∷◌, ◌++◌, append-nil}
use mathlib.Core.Bool.{true, false}
use mathlib.Core.Logic.{inl}
use Prim.Native.Nat.{ℕ, ◌+◌, ◌*◌, ◌%◌, ◌<◌, ◌≤◌}
use native.Mathlib.Omega.{arith}
use lib.ListN.{length, length-append}
use Rattle.pcrl.specs.Sheet.{Sheet}
use Rattle.pcrl.specs.Parts.{new_count}
use Rattle.pcrl.specs.Table.{Summand}
use Rattle.nodes.specs.declared.Node.{Node}
use Rattle.nodes.specs.Layout.{byte_limit, alt_kind, seq_kind, Item, encs}
use Rattle.nodes.specs.Nodes.{kind_of, node_own, node_kids, node_arity}
use Rattle.nodes.specs.Views.{Views}
use Rattle.nodes.proofs.Nodes.{one_item}
use Rattle.nodes.proofs.NewParts.{new_all, new_open}
use Rattle.counting.specs.Limits.{row_width, cut, row}
use Rattle.counting.specs.Count.{count_by, count_all, count_own, count_open}
use Rattle.counting.specs.Counting.{leaf_of, Counts, Tallied}
use Rattle.counting.proofs.Laws.{look_count, leaf_right}
use Rattle.contexts.specs.declared.Spot.{Spot}
use Rattle.contexts.specs.declared.Side.{Side}
use Rattle.contexts.specs.Spots.{Arrays, Spotted, OnSide}
use Rattle.contexts.proofs.Spotting.{deeper_same, deeper_then}
use Rattle.contexts.proofs.Sides.{Sides, sides, side_plain}
use Rattle.heads.specs.declared.alternatives.Ahead.{Ahead}
use Rattle.heads.specs.Progress.{Looked, side_spot, Idle, Past}
use Rattle.heads.proofs.Walking.{passed, counted_side, length_none}

nothing : (xs : List Item) → length xs ≡ 0 → xs ≡ []
nothing [] e = refl
nothing (x ∷ xs) e = absurd (omega arith)

-- the count of a term whose first node is idle: that is all of it
pub idle_counts : (cells K : List ℕ) (at : ℕ) (d : Node) → Views cells at d → Idle K d → Counts cells K at (record { next = d.next; heads = 0; own = 0 })
unfolding encs count_all new_all cut
idle_counts cells K at d vw (leaf, idle, old) b p rest e =
    let o = vw b p [] rest (e ∙ one_item b p rest) in
    let none : node_kids b p ≡ [] = nothing (node_kids b p) (sym o.kids_is ∙ leaf) in
    let no_seq : kind_of p ≡ seq_kind → ⊥ = λ z. omega (arith, z, node_arity b p, o.kids_is) in
    let own_heads : count_own (look_count K) p ≡ 0 = sym (ap₂ (leaf_of K) o.kind_is o.number_is ∙ leaf_right K p) ∙ idle in
    let heads_none : count_by (look_count K) p ≡ 0 = (let z = count_open (look_count K) b p [] no_seq ∙ ap (λ (l : List Item). count_own (look_count K) p + count_all (look_count K) (l ++ [])) none in omega (arith, z, own_heads)) in
    let new_none : new_count b p ≡ 0 = (let z = new_open b p [] ∙ ap (λ (l : List Item). node_own b p + new_all (l ++ [])) none in omega (arith, z, o.own_is)) in (
      sym (ap cut heads_none),
      o.next_is ∙ ap (λ (l : List Item). encs (l ++ []) ++ rest) none,
      sym (ap cut new_none),
    )

module _ (cells counts : List ℕ) (heads : ℕ) where
  pub past_same : (s : Spot) → Past cells counts heads s s
  past_same s = record { fuel_same = refl; further = omega arith; deeper = deeper_same s; small = λ l. l; stays = λ lk ls b. b; spotted = λ H F A hs few t many sp. sp }

  pub past_then : (s r t : Spot) → Past cells counts heads s r → Past cells counts heads r t → Past cells counts heads s t
  past_then s r t p q = record {
    fuel_same = q.fuel_same ∙ p.fuel_same;
    further = omega (arith, p.further, q.further);
    deeper = deeper_then s r t p.deeper q.deeper;
    small = λ l. q.small (p.small l);
    stays = λ lk ls b. q.stays lk ls (p.stays lk ls b);
    spotted = λ H F A hs few t many sp. q.spotted H F A hs few t many (p.spotted H F A hs few t many sp);
  }

  -- into a side of `+`
  module _ (g : Ahead) (lk : Looked cells counts g) (is : g.d.kind ≡ alt_kind) where
    abbrev part : (g.d.next ≤ g.a.next) × Counts cells (row (row_width * g.s.fuel) counts) g.d.next g.a
    part = lk.counts_first (inl (inl is))

    to_side : (e : Side) → e.c < byte_limit → g.s.at ≤ e.at
        → ((H : Sheet) (F : ℕ) (A : Arrays) (hs : List Summand) → length H.procs ≤ row_width → Tallied H F counts → length hs ≡ heads → Spotted H F cells g.s A hs → OnSide H F cells g.s A g.d e hs)
        → Past cells counts heads g.s (side_spot g.s e)
    to_side e small on side = record {
      fuel_same = refl;
      further = on;
      deeper = record { n_on = omega arith; nv_on = omega arith; lc_on = omega arith; top_on = omega arith };
      small = λ l. small;
      stays = λ lk ls b. record {
        fuel_small = b.fuel_small;
        n_small = b.n_small;
        n_room = b.n_room;
        m_small = b.m_small;
        c_small = small;
        nv_few = b.nv_few;
        nc_few = b.nc_few;
        lc_few = b.lc_few;
        nk_few = b.nk_few;
        top_in = b.top_in;
        top_room = b.top_room;
      };
      spotted = λ H F A hs few t many sp. (side_plain cells g.d g.s e A.slots A.conds (λ y. omega arith) A.vars A.calls).2 H F hs (side H F A hs few t many sp);
    }

    module _ (c : ℕ) (ec : g.s.c + g.a.own < byte_limit → c ≡ g.s.c + g.a.own) (H : Sheet) (F : ℕ) (A : Arrays) (hs : List Summand) (few : length H.procs ≤ row_width) (t : Tallied H F counts) (sp : Spotted H F cells g.s A hs) where
      abbrev one : Side
      one = record { second = false; at = g.d.next; c = g.s.c }

      both : Sides H F cells g.s A g.d one (record { second = true; at = g.a.next; c = c }) hs
      both = sides H F cells g.s A hs g.d lk.views g.a.next g.a.own (passed cells (row (row_width * g.s.fuel) counts) g.d.next g.a part.1) c ec (inl is) sp

      number : g.a.heads ≡ cut (length both.hs₁)
      number = counted_side cells counts g.s A g.d one g.a part.1 H F both.hs₁ few t both.on₁

      only_second : g.a.heads ≡ 0 → OnSide H F cells g.s A g.d (record { second = true; at = g.a.next; c = c }) hs
      unfolding cut
      only_second none =
          let n : both.hs₁ ≡ [] = length_none both.hs₁ (omega (arith, number)) in
          subst (λ (l : List Summand). OnSide H F cells g.s A g.d (record { second = true; at = g.a.next; c = c }) l) (sym (both.split ∙ ap (λ (l : List Summand). l ++ both.hs₂) n)) both.on₂

      only_first : length hs ≡ heads → heads ≤ g.a.heads → OnSide H F cells g.s A g.d one hs
      unfolding cut
      only_first many All_first =
          let n : both.hs₂ ≡ [] = length_none both.hs₂ (omega (arith, number, ap length both.split, length-append both.hs₁ both.hs₂)) in
          subst (λ (l : List Summand). OnSide H F cells g.s A g.d one l) (sym (both.split ∙ ap (λ (l : List Summand). both.hs₁ ++ l) n ∙ append-nil both.hs₁)) both.on₁

    pub past_second : g.a.heads ≡ 0 → (c : ℕ) → c < byte_limit → (g.s.c + g.a.own < byte_limit → c ≡ g.s.c + g.a.own) → Past cells counts heads g.s (side_spot g.s (record { second = true; at = g.a.next; c = c }))
    past_second none c small ec = to_side (record { second = true; at = g.a.next; c = c }) small (omega (arith, part.0, lk.on.on)) (λ H F A hs few t many sp. only_second c ec H F A hs few t sp none)

    pub past_first : heads ≤ g.a.heads → g.s.c < byte_limit → Past cells counts heads g.s (side_spot g.s (record { second = false; at = g.d.next; c = g.s.c }))
    past_first All_first small = to_side (record { second = false; at = g.d.next; c = g.s.c }) small (omega (arith, lk.on.on)) (λ H F A hs few t many sp. only_first ((g.s.c + g.a.own) % byte_limit) (λ l. omega arith) H F A hs few t sp many All_first)
