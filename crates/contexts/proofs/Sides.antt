-- The two sides of a choice, and a step into one of them.
use mathlib.Core.Path.{◌≡◌, refl, sym, ap, ◌∙◌}
use mathlib.Core.List.{List, [], ◌∷◌, ◌++◌, map, append_assoc, append-nil, map-append}
use mathlib.Core.Bool.{true, false}
use Rattle.std.specs.Prelude.{Some, None}
use Prim.Native.Nat.{ℕ, ◌+◌, ◌<◌, ◌≤◌}
use native.Mathlib.Omega.{arith}
use mathlib.Core.Logic.{◌⊎◌, inl, inr}
use lib.ListN.{length, drop, take, set, length-append}
use lib.Seq.{take-set-le}
use Rattle.pcrl.specs.Limits.{max_conditions}
use Rattle.pcrl.specs.Heads.{look, with_cond, heads}
use Rattle.pcrl.specs.Tests.{Every}
use Rattle.pcrl.specs.Reader.{all}
use Rattle.pcrl.specs.Sheet.{Data, Proc, alt, cond, Sheet}
use Rattle.pcrl.specs.Values.{put_data}
use Rattle.pcrl.specs.Parts.{new_count}
use Rattle.pcrl.specs.Table.{Summand}
use Rattle.pcrl.specs.Stream.{encode_data, encode_cond}
use Rattle.laws.specs.Every.{every_append, every_right}
use Rattle.laws.specs.Lists.{map_twice}
use Rattle.nodes.specs.declared.Node.{Node}
use Rattle.nodes.specs.Layout.{byte_limit, alt_kind, cond_kind, enc, encs, enc_data, enc_datas}
use Rattle.nodes.specs.Nodes.{node_datas, node_kids}
use Rattle.nodes.specs.Views.{Views}
use Rattle.putting.proofs.Bytes.{cell_more}
use Rattle.following.specs.Fine.{Fine}
use Rattle.following.proofs.Parts.{all_append}
use Rattle.contexts.specs.declared.Spot.{Spot}
use Rattle.contexts.specs.declared.Side.{Side}
use Rattle.putting.specs.declared.TermPut.{TermPut}
use Rattle.putting.specs.Puts.{Puts}
use Rattle.putting.proofs.Bytes.{kept_front}
use Rattle.contexts.specs.Spots.{Arrays, arrays, wanted_of, CondSmall, around, SpottedAt, Spotted, Kept, OnSide}
use Rattle.contexts.specs.Steps.{SideDown}
use Rattle.contexts.proofs.Unfold.{heads_alt, heads_cond, new_alt, new_cond, around_cond, within_conds, small_conds}
use Rattle.contexts.proofs.Spotting.{case_alt, case_cond, no_head, kept_same, opened, kind}

-- the place after a term, and how many new equations it has, if they are few
abbrev pub Passed : List ℕ → ℕ → ℕ → ℕ → Type 0
Passed cells at next own = (p : Proc) (rest : List ℕ) → drop at cells ≡ enc false p ++ rest → (new_count false p < byte_limit → own ≡ new_count false p) × (drop next cells ≡ rest)

-- both sides, and their heads together
pub record Sides (H : Sheet) (F : ℕ) (cells : List ℕ) (s : Spot) (A : Arrays) (d : Node) (e₁ e₂ : Side) (hs : List Summand) : Type 0 where
  pub hs₁ : List Summand
  pub hs₂ : List Summand
  pub split : hs ≡ hs₁ ++ hs₂
  pub on₁ : OnSide H F cells s A d e₁ hs₁
  pub on₂ : OnSide H F cells s A d e₂ hs₂

module _ (H : Sheet) (F : ℕ) (cells : List ℕ) (s : Spot) (A : Arrays) (hs : List Summand) (d : Node) (vw : Views cells s.at d)
    (next own : ℕ) (sk : Passed cells d.next next own) (c' : ℕ) (ec : s.c + own < byte_limit → c' ≡ s.c + own) where
  abbrev pub one_side : Side
  one_side = record { second = false; at = d.next; c = s.c }

  abbrev pub other_side : Side
  other_side = record { second = true; at = next; c = c' }

  alt_sides : d.kind ≡ alt_kind → (x y : Proc) (sp : SpottedAt H F cells s A hs (alt x y)) → Sides H F cells s A d one_side other_side hs
  unfolding node_kids encs Fine
  alt_sides is x y sp =
      let c = sp.ctx in
      let g = around c.vs c.cs c.ks in
      let u : drop d.next cells ≡ enc false x ++ (enc false y ++ sp.rest) = (opened H F cells s A hs d vw (alt x y) sp).next_is ∙ simp (append_assoc, append-nil) in
      let j = sk x (enc false y ++ sp.rest) u in
      let h = j.0 (omega (arith, sp.equations_left, new_alt x y)) in
      let e : c' ≡ s.c + new_count false x = ec (omega (arith, h, sp.equations_left, new_alt x y)) ∙ ap (λ (w : ℕ). s.c + w) h in
      let hx = heads H s.fuel c.σ s.m s.c x in
      let hy = heads H s.fuel c.σ s.m c' y in
      let ea : heads H s.fuel c.σ s.m s.c (alt x y) ≡ hx ++ hy = heads_alt H c.σ s.m s.c s.fuel x y ∙ ap (λ (q : ℕ). hx ++ heads H s.fuel c.σ s.m q y) (sym e) in
      let n : (xs : List Summand) → map (around c.vs (c.cs ++ []) c.ks) xs ≡ map g xs = λ xs. ap (λ (l : List (ℕ × Data)). map (around c.vs l c.ks) xs) (append-nil c.cs) in
      record {
        hs₁ = map g hx;
        hs₂ = map g hy;
        split = sym sp.are ∙ ap (map g) ea ∙ map-append g hx hy;
        on₁ = record {
          ctx = c;
          t = x;
          rest = enc false y ++ sp.rest;
          es = [];
          place = u;
          fine = sp.fine.0;
          fuel_left = sp.fuel_left;
          equations_left = omega (arith, sp.equations_left, new_alt x y);
          none = λ q. refl;
          one = λ q. absurd (omega arith);
          are = n hx;
        };
        on₂ = record {
          ctx = c;
          t = y;
          rest = sp.rest;
          es = [];
          place = j.1;
          fine = sp.fine.1;
          fuel_left = sp.fuel_left;
          equations_left = omega (arith, sp.equations_left, new_alt x y, e);
          none = λ q. refl;
          one = λ q. absurd (omega arith);
          are = n hy;
        };
      }

  cond_sides : d.kind ≡ cond_kind → (z : Data) (x y : Proc) (sp : SpottedAt H F cells s A hs (cond z x y)) → Sides H F cells s A d one_side other_side hs
  unfolding node_kids node_datas encs enc_datas Fine wanted_of
  cond_sides is z x y sp =
      let c = sp.ctx in
      let g = around c.vs c.cs c.ks in
      let D = put_data (look c.σ) z in
      let o = opened H F cells s A hs d vw (cond z x y) sp in
      let u : drop d.next cells ≡ enc false x ++ (enc false y ++ sp.rest) = o.next_is ∙ simp (append_assoc, append-nil) in
      let v : drop d.terms cells ≡ enc_data z ++ (encs (node_kids sp.b (cond z x y) ++ []) ++ sp.rest) = o.terms_are ∙ ap (λ (l : List ℕ). l ++ (encs (node_kids sp.b (cond z x y) ++ []) ++ sp.rest)) (append-nil (enc_data z)) in
      let j = sk x (enc false y ++ sp.rest) u in
      let h = j.0 (omega (arith, sp.equations_left, new_cond z x y)) in
      let e : c' ≡ s.c + new_count false x = ec (omega (arith, h, sp.equations_left, new_cond z x y)) ∙ ap (λ (w : ℕ). s.c + w) h in
      let hx = heads H s.fuel c.σ s.m s.c x in
      let hy = heads H s.fuel c.σ s.m c' y in
      let ea : heads H s.fuel c.σ s.m s.c (cond z x y) ≡ map (with_cond 1 D) hx ++ map (with_cond 0 D) hy =
      heads_cond H c.σ s.m s.c s.fuel z x y ∙ ap (λ (q : ℕ). map (with_cond 1 D) hx ++ map (with_cond 0 D) (heads H s.fuel c.σ s.m q y)) (sym e) in
      record {
        hs₁ = map g (map (with_cond 1 D) hx);
        hs₂ = map g (map (with_cond 0 D) hy);
        split = sym sp.are ∙ ap (map g) ea ∙ map-append g (map (with_cond 1 D) hx) (map (with_cond 0 D) hy);
        on₁ = record {
          ctx = c;
          t = x;
          rest = enc false y ++ sp.rest;
          es = (1, D) ∷ [];
          place = u;
          fine = sp.fine.1.0;
          fuel_left = sp.fuel_left;
          equations_left = omega (arith, sp.equations_left, new_cond z x y);
          none = λ q. absurd (q is);
          one = λ q. record { z = z; rest = encs (node_kids sp.b (cond z x y) ++ []) ++ sp.rest; terms = v; writable = sp.fine.0; is = refl };
          are = sym (map_twice g (with_cond 1 D) (around c.vs (c.cs ++ ((1, D) ∷ [])) c.ks) (around_cond c.vs c.cs c.ks 1 D) hx);
        };
        on₂ = record {
          ctx = c;
          t = y;
          rest = sp.rest;
          es = (0, D) ∷ [];
          place = j.1;
          fine = sp.fine.1.1;
          fuel_left = sp.fuel_left;
          equations_left = omega (arith, sp.equations_left, new_cond z x y, e);
          none = λ q. absurd (q is);
          one = λ q. record { z = z; rest = encs (node_kids sp.b (cond z x y) ++ []) ++ sp.rest; terms = v; writable = sp.fine.0; is = refl };
          are = sym (map_twice g (with_cond 0 D) (around c.vs (c.cs ++ ((0, D) ∷ [])) c.ks) (around_cond c.vs c.cs c.ks 0 D) hy);
        };
      }

  pub sides : (d.kind ≡ alt_kind) ⊎ (d.kind ≡ cond_kind) → Spotted H F cells s A hs → Sides H F cells s A d one_side other_side hs
  sides (inl is) sp = case_alt (SpottedAt H F cells s A hs) (Sides H F cells s A d one_side other_side hs) sp.0 sp.1 (kind H F cells s A hs d vw alt_kind is sp) λ x y q. alt_sides is x y q
  sides (inr is) sp = case_cond (SpottedAt H F cells s A hs) (Sides H F cells s A d one_side other_side hs) sp.0 sp.1 (kind H F cells s A hs d vw cond_kind is sp) λ z x y q. cond_sides is z x y q

-- INTO A SIDE

module _ (cells : List ℕ) (d : Node) (s : Spot) (e : Side) (slots conds : List ℕ) where
  pub side_plain : (d.kind ≡ cond_kind → ⊥) → SideDown cells d s e slots conds (Some (record { at = e.at; fuel = s.fuel; n = s.n; m = s.m; c = e.c; nv = s.nv; nc = s.nc; lc = s.lc; nk = s.nk; top = s.top })) conds
  side_plain is vars calls = (
    record { n_on = omega arith; nv_on = omega arith; lc_on = omega arith; top_on = omega arith },
    record { slots_kept = refl; vars_kept = refl; conds_kept = refl; calls_kept = refl },
    λ H F hs o. (
      o.t,
      record {
        ctx = record {
          σ = o.ctx.σ;
          vs = o.ctx.vs;
          cs = o.ctx.cs;
          ks = o.ctx.ks;
          held = o.ctx.held;
          vars_are = o.ctx.vars_are;
          vars_many = o.ctx.vars_many;
          conds_are = o.ctx.conds_are;
          conds_many = o.ctx.conds_many;
          conds_small = o.ctx.conds_small;
          calls_are = o.ctx.calls_are;
          calls_many = o.ctx.calls_many;
          calls_small = o.ctx.calls_small;
        };
        b = false;
        rest = o.rest;
        place = o.place;
        first = λ q. refl;
        fine = o.fine;
        fuel_left = o.fuel_left;
        equations_left = o.equations_left;
        are = ap (λ (l : List (ℕ × Data)). map (around o.ctx.vs l o.ctx.ks) (heads H s.fuel o.ctx.σ s.m e.c o.t)) (sym (append-nil o.ctx.cs) ∙ ap (λ (l : List (ℕ × Data)). o.ctx.cs ++ l) (sym (o.none is))) ∙ o.are;
      },
    ),
  )

  module _ (is : d.kind ≡ cond_kind) where
    -- the heads with the condition
    module _ (vars calls : List ℕ) (H : Sheet) (F : ℕ) (hs : List Summand) (o : OnSide H F cells s (arrays slots vars conds calls) d e hs) where
      cond_are : map (around o.ctx.vs (o.ctx.cs ++ ((wanted_of e.second, put_data (look o.ctx.σ) (o.one is).z) ∷ [])) o.ctx.ks) (heads H s.fuel o.ctx.σ s.m e.c o.t) ≡ hs
      cond_are = ap (λ (l : List (ℕ × Data)). map (around o.ctx.vs (o.ctx.cs ++ l) o.ctx.ks) (heads H s.fuel o.ctx.σ s.m e.c o.t)) (sym (o.one is).is) ∙ o.are

    pub side_many : max_conditions ≤ s.nc → SideDown cells d s e slots conds None conds
    side_many big vars calls = (
      tt,
      kept_same s (arrays slots vars conds calls),
      λ H F hs o.
          let c = o.ctx in
          let es : List (ℕ × Data) = (wanted_of e.second, put_data (look c.σ) (o.one is).z) ∷ [] in
          no_head (around c.vs (c.cs ++ es) c.ks) (heads H s.fuel c.σ s.m e.c o.t) hs (cond_are vars calls H F hs o) (λ h w.
          let u = within_conds c.vs (c.cs ++ es) c.ks h w in
          omega (arith, length-append c.cs es, c.conds_many)),
    )

    module _ (o' : List ℕ)
        (same : take (s.lc + 1) o' ≡ take (s.lc + 1) (set conds s.lc (wanted_of e.second))) where
      cond_kept : (vars calls : List ℕ) → Kept s (arrays slots vars conds calls) (arrays slots vars o' calls)
      cond_kept vars calls = record {
        slots_kept = refl;
        vars_kept = refl;
        conds_kept = kept_front s.lc (s.lc + 1) (set conds s.lc (wanted_of e.second)) o' (omega arith) same ∙ take-set-le s.lc conds s.lc (wanted_of e.second) (omega arith);
        calls_kept = refl;
      }

      pub side_long : Puts cells d.terms slots s.n (s.lc + 1) (set conds s.lc (wanted_of e.second)) None o' → SideDown cells d s e slots conds None o'
      unfolding Every
      side_long put vars calls = (
        tt,
        cond_kept vars calls,
        λ H F hs o.
            let c = o.ctx in
            let z = o.one is in
            let es : List (ℕ × Data) = (wanted_of e.second, put_data (look c.σ) z.z) ∷ [] in
            no_head (around c.vs (c.cs ++ es) c.ks) (heads H s.fuel c.σ s.m e.c o.t) hs (cond_are vars calls H F hs o) (λ h w.
            let v = (every_right CondSmall c.cs es (small_conds c.vs (c.cs ++ es) c.ks h w)).0 in
            omega (arith, put z.z z.rest c.σ z.terms c.held z.writable)),
      )

      pub side_cond : (r : TermPut) → Puts cells d.terms slots s.n (s.lc + 1) (set conds s.lc (wanted_of e.second)) (Some r) o' → s.lc < length conds → s.lc + 1 ≤ r.w
          → SideDown cells d s e slots conds (Some (record { at = e.at; fuel = s.fuel; n = s.n; m = s.m; c = e.c; nv = s.nv; nc = s.nc + 1; lc = r.w; nk = s.nk; top = s.top })) o'
      unfolding Every all encode_cond
      side_cond r put inside on vars calls = (
        record { n_on = omega arith; nv_on = omega arith; lc_on = omega arith; top_on = omega arith },
        cond_kept vars calls,
        λ H F hs o.
            let c = o.ctx in
            let z = o.one is in
            let D = put_data (look c.σ) z.z in
            let w = wanted_of e.second in
            let es : List (ℕ × Data) = (w, D) ∷ [] in
            let k = put z.z z.rest c.σ z.terms c.held z.writable in (
              o.t,
              record {
                ctx = record {
                  σ = c.σ;
                  vs = c.vs;
                  cs = c.cs ++ es;
                  ks = c.ks;
                  held = c.held;
                  vars_are = c.vars_are;
                  vars_many = c.vars_many;
                  conds_are =
                      k.2 ∙ ap (λ (l : List ℕ). l ++ encode_data D) (cell_more conds s.lc w inside ∙ ap (λ (l : List ℕ). l ++ (w ∷ [])) c.conds_are)
                      ∙ append_assoc (all encode_cond c.cs) (w ∷ []) (encode_data D)
                      ∙ ap (λ (l : List ℕ). all encode_cond c.cs ++ l) (sym (append-nil ((w ∷ []) ++ encode_data D)))
                      ∙ sym (all_append encode_cond c.cs es);
                  conds_many = omega (arith, length-append c.cs es, c.conds_many);
                  conds_small = every_append CondSmall c.cs es c.conds_small (k.1, tt);
                  calls_are = c.calls_are;
                  calls_many = c.calls_many;
                  calls_small = c.calls_small;
                };
                b = false;
                rest = o.rest;
                place = o.place;
                first = λ q. refl;
                fine = o.fine;
                fuel_left = o.fuel_left;
                equations_left = o.equations_left;
                are = cond_are vars calls H F hs o;
              },
            ),
      )
