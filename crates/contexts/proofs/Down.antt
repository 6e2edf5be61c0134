-- A step down into a sum or the first part of a sequence.
use mathlib.Core.Path.{◌≡◌, refl, sym, ap, ap₂, ◌∙◌, subst}
use mathlib.Core.List.{List, [], ◌∷◌, ◌++◌, map, append_assoc, append-nil}
use mathlib.Core.Bool.{Bool, true, false}
use Rattle.std.specs.Prelude.{Option, Some, None, MatchOption}
use Rattle.std.proofs.lemmas.Option.{MatchOption-at_some, MatchOption-at_none}
use Prim.Native.Nat.{ℕ, ◌+◌, ◌%◌, ◌<◌, ◌≤◌}
use native.Mathlib.Numerals.{add-one}
use native.Mathlib.Omega.{arith}
use lib.ListN.{length, drop, set, length-append}
use lib.Seq.{take-set-le}
use Rattle.pcrl.specs.Limits.{max_variables, max_calls}
use Rattle.pcrl.specs.Heads.{calls_of, with_var, with_calls, heads}
use Rattle.pcrl.specs.Tests.{Every}
use Rattle.pcrl.specs.Reader.{all}
use Rattle.pcrl.specs.Sheet.{var, Proc, delta, atom, alt, cond, sum, seq, call, Sheet}
use Rattle.pcrl.specs.Parts.{new_count}
use Rattle.pcrl.specs.Table.{Summand}
use Rattle.pcrl.specs.Stream.{encode_call}
use Rattle.laws.specs.Every.{every_append, every_left}
use Rattle.laws.specs.Lists.{map_twice}
use Rattle.nodes.specs.declared.Node.{Node}
use Rattle.nodes.specs.Layout.{byte_limit, atom_kind, sum_kind, alt_kind, cond_kind, call_kind, seq_kind, enc, encs}
use Rattle.nodes.specs.Nodes.{kind_of, node_number, node_kids}
use Rattle.nodes.specs.Scoped.{max_scope}
use Rattle.nodes.specs.Views.{Views}
use Rattle.putting.proofs.Bytes.{cell_more}
use Rattle.following.specs.Fine.{Fine}
use Rattle.following.specs.Follows.{CallSmall, Pushes}
use Rattle.following.proofs.Parts.{all_append}
use Rattle.contexts.specs.declared.Side.{Side}
use Rattle.contexts.specs.declared.Spot.{Spot}
use Rattle.following.specs.declared.Pushed.{Pushed}
use Rattle.contexts.specs.Spots.{Ready, Arrays, arrays, around, SpottedAt, Spotted, Kept, Beyond, Leads}
use Rattle.contexts.specs.Steps.{VariablePut, RestAt}
use Rattle.contexts.proofs.Unfold.{heads_delta, heads_sum, heads_seq, new_sum, new_seq, around_var, around_calls, within_vars, within_calls, small_calls}
use Rattle.contexts.proofs.Spotting.{case_sum, case_seq, no_head, opened, kind}

-- a step that fails
pub fails : (cells starts counts firsts : List ℕ) (s : Spot) (A : Arrays) → ((H : Sheet) (F : ℕ) (hs : List Summand) → Ready H F cells starts counts firsts → Spotted H F cells s A hs → Beyond hs)
    → (B : Arrays) → Kept s A B → Leads cells starts counts firsts s A None B
fails cells starts counts firsts s A u B k = (tt, k, u)

-- A SUM

module _ (H : Sheet) (F : ℕ) (cells : List ℕ) (s : Spot) (slots vars conds calls : List ℕ) (hs : List Summand) (d : Node) (vw : Views cells s.at d) where
  module _ (z D : ℕ) (x : Proc) (sp : SpottedAt H F cells s (arrays slots vars conds calls) hs (sum z D x)) where
    sum_are : map (around (sp.ctx.vs ++ (D ∷ [])) sp.ctx.cs sp.ctx.ks) (heads H s.fuel (sp.ctx.σ ++ (var s.m ∷ [])) (s.m + 1) s.c x) ≡ hs
    sum_are =
        let c = sp.ctx in
        sym (map_twice (around c.vs c.cs c.ks) (with_var D) (around (c.vs ++ (D ∷ [])) c.cs c.ks) (around_var c.vs c.cs c.ks D) (heads H s.fuel (c.σ ++ (var s.m ∷ [])) (s.m + 1) s.c x))
        ∙ ap (map (around c.vs c.cs c.ks)) (sym (heads_sum H c.σ s.m s.c s.fuel z D x)) ∙ sp.are

    sum_on : s.nv < length vars → (slots' : List ℕ) → VariablePut slots s.n s.m slots'
        → Spotted H F cells (record { at = d.next; fuel = s.fuel; n = s.n + 1; m = s.m + 1; c = s.c; nv = s.nv + 1; nc = s.nc; lc = s.lc; nk = s.nk; top = s.top }) (arrays slots' (set vars s.nv (d.number % byte_limit)) conds calls) hs
    unfolding node_number node_kids encs Fine
    sum_on inside slots' put =
        let u = opened H F cells s (arrays slots vars conds calls) hs d vw (sum z D x) sp in
        let c = sp.ctx in
        let f = sp.fine in
        let y : d.number % byte_limit ≡ D = (let a = f.1.1.0 in omega (arith, u.number_is)) in (
          x,
          record {
            ctx = record {
              σ = c.σ ++ (var s.m ∷ []);
              vs = c.vs ++ (D ∷ []);
              cs = c.cs;
              ks = c.ks;
              held = put.0 c.σ c.held;
              vars_are = cell_more vars s.nv (d.number % byte_limit) inside ∙ ap₂ (λ (l : List ℕ) (k : ℕ). l ++ (k ∷ [])) c.vars_are y;
              vars_many = omega (arith, length-append c.vs (D ∷ []), c.vars_many);
              conds_are = c.conds_are;
              conds_many = c.conds_many;
              conds_small = c.conds_small;
              calls_are = c.calls_are;
              calls_many = c.calls_many;
              calls_small = c.calls_small;
            };
            b = false;
            rest = sp.rest;
            place = u.next_is ∙ ap (λ (l : List ℕ). l ++ sp.rest) (append-nil (enc false x));
            first = λ e. refl;
            fine = subst (λ (k : ℕ). Fine H k x) (sym (add-one s.n)) f.1.1.1;
            fuel_left = sp.fuel_left;
            equations_left = omega (arith, sp.equations_left, new_sum z D x);
            are = sum_are;
          },
        )

module _ (cells starts counts firsts : List ℕ) (s : Spot) (slots vars conds calls : List ℕ) (d : Node) (vw : Views cells s.at d) (is : d.kind ≡ sum_kind) where
  pub sum_many : max_variables ≤ s.nv → (H : Sheet) (F : ℕ) (hs : List Summand) → Ready H F cells starts counts firsts → Spotted H F cells s (arrays slots vars conds calls) hs → Beyond hs
  sum_many big H F hs rd sp = case_sum (SpottedAt H F cells s (arrays slots vars conds calls) hs) (Beyond hs) sp.0 sp.1 (kind H F cells s (arrays slots vars conds calls) hs d vw sum_kind is sp) λ z D x sp.
      no_head (around (sp.ctx.vs ++ (D ∷ [])) sp.ctx.cs sp.ctx.ks) (heads H s.fuel (sp.ctx.σ ++ (var s.m ∷ [])) (s.m + 1) s.c x) hs (sum_are H F cells s slots vars conds calls hs d vw z D x sp)
      (λ y w. let u = within_vars (sp.ctx.vs ++ (D ∷ [])) sp.ctx.cs sp.ctx.ks y w in omega (arith, length-append sp.ctx.vs (D ∷ []), sp.ctx.vars_many))

  pub sum_deep : max_scope ≤ s.n → (H : Sheet) (F : ℕ) (hs : List Summand) → Ready H F cells starts counts firsts → Spotted H F cells s (arrays slots vars conds calls) hs → Beyond hs
  unfolding Fine
  sum_deep big H F hs rd sp = case_sum (SpottedAt H F cells s (arrays slots vars conds calls) hs) (Beyond hs) sp.0 sp.1 (kind H F cells s (arrays slots vars conds calls) hs d vw sum_kind is sp) λ z D x sp w.
      let u = sp.fine.1.0 in absurd (omega arith)

  pub sum_down : s.nv < length vars → (slots' : List ℕ) → VariablePut slots s.n s.m slots'
      → Leads cells starts counts firsts s (arrays slots vars conds calls)
      (Some (record { at = d.next; fuel = s.fuel; n = s.n + 1; m = s.m + 1; c = s.c; nv = s.nv + 1; nc = s.nc; lc = s.lc; nk = s.nk; top = s.top }))
      (arrays slots' (set vars s.nv (d.number % byte_limit)) conds calls)
  sum_down inside slots' put = (
    record { n_on = omega arith; nv_on = omega arith; lc_on = omega arith; top_on = omega arith },
    record { slots_kept = put.1; vars_kept = take-set-le s.nv vars s.nv (d.number % byte_limit) (omega arith); conds_kept = refl; calls_kept = refl },
    λ H F hs rd sp.
        case_sum (SpottedAt H F cells s (arrays slots vars conds calls) hs) (Spotted H F cells (record { at = d.next; fuel = s.fuel; n = s.n + 1; m = s.m + 1; c = s.c; nv = s.nv + 1; nc = s.nc; lc = s.lc; nk = s.nk; top = s.top }) (arrays slots' (set vars s.nv (d.number % byte_limit)) conds calls) hs)
        sp.0 sp.1 (kind H F cells s (arrays slots vars conds calls) hs d vw sum_kind is sp) λ z D x sp. sum_on H F cells s slots vars conds calls hs d vw z D x sp inside slots' put,
  )

-- A SEQUENCE

module _ (cells starts counts firsts : List ℕ) (s : Spot) (slots vars conds calls : List ℕ) (d : Node) (vw : Views cells s.at d) (is : d.kind ≡ seq_kind)
    (e : Side) (ra : RestAt cells d.next s e) (r : Option Pushed) (calls' : List ℕ) (push : Pushes cells e.at e.c slots s.n s.nk calls s.top r calls') where
  module _ (H : Sheet) (F : ℕ) (hs : List Summand) (rd : Ready H F cells starts counts firsts) (x y : Proc) (sp : SpottedAt H F cells s (arrays slots vars conds calls) hs (seq x y)) where
    -- where the first part stands
    first_part : drop d.next cells ≡ enc false x ++ (enc true y ++ sp.rest)
    unfolding node_kids encs kind_of
    first_part =
        subst (λ (b : Bool). drop d.next cells ≡ enc b x ++ (enc true y ++ sp.rest)) (sp.first refl) ((opened H F cells s (arrays slots vars conds calls) hs d vw (seq x y) sp).next_is ∙ simp (append_assoc, append-nil))

    pushed : MatchOption r (length (calls_of sp.ctx.σ (s.c + new_count false x) y) + s.nk ≤ max_calls → ¬ (Every CallSmall (calls_of sp.ctx.σ (s.c + new_count false x) y)))
        (λ t. (length (calls_of sp.ctx.σ (s.c + new_count false x) y) + s.nk ≡ t.n) × Every CallSmall (calls_of sp.ctx.σ (s.c + new_count false x) y) × (drop t.top calls' ≡ all encode_call (calls_of sp.ctx.σ (s.c + new_count false x) y) ++ drop s.top calls))
    unfolding Fine
    pushed =
        let g = ra x (enc true y ++ sp.rest) first_part in
        let number : e.c ≡ s.c + new_count false x = g.0 (omega (arith, sp.equations_left, new_seq x y)) in
        subst (λ (c : ℕ). MatchOption r (length (calls_of sp.ctx.σ c y) + s.nk ≤ max_calls → ¬ (Every CallSmall (calls_of sp.ctx.σ c y))) (λ t. (length (calls_of sp.ctx.σ c y) + s.nk ≡ t.n) × Every CallSmall (calls_of sp.ctx.σ c y) × (drop t.top calls' ≡ all encode_call (calls_of sp.ctx.σ c y) ++ drop s.top calls))) number
        (push H y sp.rest sp.ctx.σ rd.few g.1 sp.ctx.held sp.fine.1 (omega (arith, number, sp.equations_left, new_seq x y)))

    -- the heads with the calls of the rest
    seq_are : map (around sp.ctx.vs sp.ctx.cs (calls_of sp.ctx.σ (s.c + new_count false x) y ++ sp.ctx.ks)) (heads H s.fuel sp.ctx.σ s.m s.c x) ≡ hs
    seq_are =
        let c = sp.ctx in
        let es = calls_of c.σ (s.c + new_count false x) y in
        sym (map_twice (around c.vs c.cs c.ks) (with_calls es) (around c.vs c.cs (es ++ c.ks)) (around_calls c.vs c.cs c.ks es) (heads H s.fuel c.σ s.m s.c x))
        ∙ ap (map (around c.vs c.cs c.ks)) (sym (heads_seq H c.σ s.m s.c s.fuel x y)) ∙ sp.are

    seq_on : (t : Pushed) → r ≡ Some t → Spotted H F cells (record { at = d.next; fuel = s.fuel; n = s.n; m = s.m; c = s.c; nv = s.nv; nc = s.nc; lc = s.lc; nk = t.n; top = t.top }) (arrays slots vars conds calls') hs
    unfolding Fine
    seq_on t ok =
        let c = sp.ctx in
        let es = calls_of c.σ (s.c + new_count false x) y in
        let u = MatchOption-at_some _ _ t ok pushed in (
          x,
          record {
            ctx = record {
              σ = c.σ;
              vs = c.vs;
              cs = c.cs;
              ks = es ++ c.ks;
              held = c.held;
              vars_are = c.vars_are;
              vars_many = c.vars_many;
              conds_are = c.conds_are;
              conds_many = c.conds_many;
              conds_small = c.conds_small;
              calls_are = u.2 ∙ ap (λ (l : List ℕ). all encode_call es ++ l) c.calls_are ∙ sym (all_append encode_call es c.ks);
              calls_many = length-append es c.ks ∙ ap (λ (n : ℕ). length es + n) c.calls_many ∙ u.0;
              calls_small = every_append CallSmall es c.ks u.1 c.calls_small;
            };
            b = false;
            rest = enc true y ++ sp.rest;
            place = first_part;
            first = λ q. refl;
            fine = sp.fine.0;
            fuel_left = sp.fuel_left;
            equations_left = omega (arith, sp.equations_left, new_seq x y);
            are = seq_are;
          },
        )

    seq_beyond : r ≡ None → Beyond hs
    seq_beyond bad =
        let c = sp.ctx in
        let es = calls_of c.σ (s.c + new_count false x) y in
        no_head (around c.vs c.cs (es ++ c.ks)) (heads H s.fuel c.σ s.m s.c x) hs seq_are (λ h w.
        let l = within_calls c.vs c.cs (es ++ c.ks) h w in
        MatchOption-at_none _ _ bad pushed (omega (arith, length-append es c.ks, c.calls_many)) (every_left CallSmall es c.ks (small_calls c.vs c.cs (es ++ c.ks) h w)))

  pub seq_long : r ≡ None → (H : Sheet) (F : ℕ) (hs : List Summand) → Ready H F cells starts counts firsts → Spotted H F cells s (arrays slots vars conds calls) hs → Beyond hs
  seq_long bad H F hs rd sp = case_seq (SpottedAt H F cells s (arrays slots vars conds calls) hs) (Beyond hs) sp.0 sp.1 (kind H F cells s (arrays slots vars conds calls) hs d vw seq_kind is sp) λ x y sp. seq_beyond H F hs rd x y sp bad

  pub seq_down : (t : Pushed) → r ≡ Some t → t.top ≤ s.top → drop s.top calls' ≡ drop s.top calls
      → Leads cells starts counts firsts s (arrays slots vars conds calls) (Some (record { at = d.next; fuel = s.fuel; n = s.n; m = s.m; c = s.c; nv = s.nv; nc = s.nc; lc = s.lc; nk = t.n; top = t.top })) (arrays slots vars conds calls')
  seq_down t ok lt same = (
    record { n_on = omega arith; nv_on = omega arith; lc_on = omega arith; top_on = lt },
    record { slots_kept = refl; vars_kept = refl; conds_kept = refl; calls_kept = same },
    λ H F hs rd sp.
        case_seq (SpottedAt H F cells s (arrays slots vars conds calls) hs)
        (Spotted H F cells (record { at = d.next; fuel = s.fuel; n = s.n; m = s.m; c = s.c; nv = s.nv; nc = s.nc; lc = s.lc; nk = t.n; top = t.top }) (arrays slots vars conds calls') hs)
        sp.0 sp.1 (kind H F cells s (arrays slots vars conds calls) hs d vw seq_kind is sp) λ x y sp. seq_on H F hs rd x y sp t ok,
  )

-- NO STEP

module _ (cells starts counts firsts : List ℕ) (s : Spot) (A : Arrays) (d : Node) (vw : Views cells s.at d) where
  pub other_none : (d.kind ≡ sum_kind → ⊥) → (d.kind ≡ seq_kind → ⊥) → (d.kind ≡ atom_kind → ⊥) → (d.kind ≡ call_kind → ⊥) → (d.kind ≡ alt_kind → ⊥) → (d.kind ≡ cond_kind → ⊥)
      → (H : Sheet) (F : ℕ) (hs : List Summand) → Ready H F cells starts counts firsts → Spotted H F cells s A hs → Beyond hs
  unfolding kind_of
  other_none n₁ n₂ n₃ n₄ n₅ n₆ H F hs rd sp = go sp.0 sp.1
    where
      go : (p : Proc) → SpottedAt H F cells s A hs p → Beyond hs
      go delta sp w = sym sp.are ∙ ap (map (around sp.ctx.vs sp.ctx.cs sp.ctx.ks)) (heads_delta H sp.ctx.σ s.m s.c s.fuel)
      go (atom a ds) sp w = absurd (n₃ (opened H F cells s A hs d vw (atom a ds) sp).kind_is)
      go (alt x y) sp w = absurd (n₅ (opened H F cells s A hs d vw (alt x y) sp).kind_is)
      go (cond z x y) sp w = absurd (n₆ (opened H F cells s A hs d vw (cond z x y) sp).kind_is)
      go (sum z D x) sp w = absurd (n₁ (opened H F cells s A hs d vw (sum z D x) sp).kind_is)
      go (seq x y) sp w = absurd (n₂ (opened H F cells s A hs d vw (seq x y) sp).kind_is)
      go (call z ds) sp w = absurd (n₄ (opened H F cells s A hs d vw (call z ds) sp).kind_is)
