-- Into the right side of a process.
use mathlib.Core.Path.{◌≡◌, refl, sym, ap, ◌∙◌, subst}
use mathlib.Core.List.{List, map}
use mathlib.Core.Bool.{false}
use Prim.Native.Nat.{ℕ, suc, ◌<◌}
use native.Mathlib.Omega.{arith}
use lib.ListN.{length, drop, get_or}
use Rattle.pcrl.specs.Limits.{frame_width}
use Rattle.pcrl.specs.Heads.{look, heads}
use Rattle.pcrl.specs.Sheet.{call, Sheet, params, right}
use Rattle.pcrl.specs.Values.{put_data}
use Rattle.pcrl.specs.Parts.{first_new}
use Rattle.pcrl.specs.Table.{Summand}
use Rattle.nodes.specs.declared.Node.{Node}
use Rattle.nodes.specs.Layout.{call_kind}
use Rattle.nodes.specs.Nodes.{node_number, node_datas}
use Rattle.nodes.specs.Views.{Views}
use Rattle.following.specs.Fine.{Fine}
use Rattle.contexts.specs.declared.Spot.{Spot}
use Rattle.putting.specs.Puts.{Fills}
use Rattle.contexts.specs.Spots.{Ready, arrays, around, SpottedAt, Spotted, Beyond}
use Rattle.contexts.proofs.Unfold.{heads_call, heads_call_none}
use Rattle.contexts.proofs.Spotting.{case_call, map_none, opened, kind}

module _ (cells starts counts firsts : List ℕ) (s : Spot) (slots vars conds calls : List ℕ) (d : Node) (vw : Views cells s.at d) (is : d.kind ≡ call_kind)
    (H : Sheet) (F : ℕ) (hs : List Summand) (rd : Ready H F cells starts counts firsts) (sp : Spotted H F cells s (arrays slots vars conds calls) hs) where
  pub call_none : s.fuel ≡ 0 → Beyond hs
  call_none zero_fuel = case_call (SpottedAt H F cells s (arrays slots vars conds calls) hs) (Beyond hs) sp.0 sp.1 (kind H F cells s (arrays slots vars conds calls) hs d vw call_kind is sp) λ z ds sp w.
      map_none (around sp.ctx.vs sp.ctx.cs sp.ctx.ks) (heads H s.fuel sp.ctx.σ s.m s.c (call z ds)) hs sp.are
      (ap (λ (f : ℕ). heads H f sp.ctx.σ s.m s.c (call z ds)) zero_fuel ∙ heads_call_none H sp.ctx.σ s.m s.c z ds)

  pub call_wide : frame_width < d.datas → Beyond hs
  unfolding node_datas Fine
  call_wide big = case_call (SpottedAt H F cells s (arrays slots vars conds calls) hs) (Beyond hs) sp.0 sp.1 (kind H F cells s (arrays slots vars conds calls) hs d vw call_kind is sp) λ z ds sp w.
      absurd (omega (arith, (opened H F cells s (arrays slots vars conds calls) hs d vw (call z ds) sp).datas_is, sp.fine.1.0, rd.params_four z sp.fine.0))

  pub call_down : (g : ℕ) → s.fuel ≡ suc g → (mine : List ℕ) → Fills cells d.terms d.datas slots s.n mine
      → (at' c' : ℕ) → at' ≡ get_or starts d.number 0 → c' ≡ get_or firsts d.number 0
      → Spotted H F cells (record { at = at'; fuel = g; n = d.datas; m = s.m; c = c'; nv = s.nv; nc = s.nc; lc = s.lc; nk = s.nk; top = s.top }) (arrays mine vars conds calls) hs
  unfolding node_datas node_number Fine
  call_down g eg mine fill at' c' ea ec = case_call (SpottedAt H F cells s (arrays slots vars conds calls) hs)
      (Spotted H F cells (record { at = at'; fuel = g; n = d.datas; m = s.m; c = c'; nv = s.nv; nc = s.nc; lc = s.lc; nk = s.nk; top = s.top }) (arrays mine vars conds calls) hs)
      sp.0 sp.1 (kind H F cells s (arrays slots vars conds calls) hs d vw call_kind is sp) λ z ds sp.
      let u = opened H F cells s (arrays slots vars conds calls) hs d vw (call z ds) sp in
      let c = sp.ctx in
      let f = sp.fine in
      let σ' = map (put_data (look c.σ)) ds in
      let w = rd.placed z f.0 in
      let e₁ : c' ≡ first_new (length H.procs) H.procs z = ec ∙ ap (λ (j : ℕ). get_or firsts j 0) u.number_is ∙ rd.first_new_are z f.0 in
      let e₂ : heads H s.fuel c.σ s.m s.c (call z ds) ≡ heads H g σ' s.m c' (right H z) =
      ap (λ (j : ℕ). heads H j c.σ s.m s.c (call z ds)) eg ∙ heads_call H c.σ s.m s.c g z ds ∙ ap (λ (j : ℕ). heads H g σ' s.m j (right H z)) (sym e₁) in
      let e₃ : d.datas ≡ length (params H z) = u.datas_is ∙ f.1.0 in (
        right H z,
        record {
          ctx = record {
            σ = σ';
            vs = c.vs;
            cs = c.cs;
            ks = c.ks;
            held = fill ds _ c.σ (sym u.datas_is) u.terms_are c.held f.1.1;
            vars_are = c.vars_are;
            vars_many = c.vars_many;
            conds_are = c.conds_are;
            conds_many = c.conds_many;
            conds_small = c.conds_small;
            calls_are = c.calls_are;
            calls_many = c.calls_many;
            calls_small = c.calls_small;
          };
          b = false;
          rest = w.0;
          place = ap (λ (j : ℕ). drop j cells) (ea ∙ ap (λ (j : ℕ). get_or starts j 0) u.number_is) ∙ w.1;
          first = λ q. refl;
          fine = subst (λ (j : ℕ). Fine H j (right H z)) (sym e₃) (rd.rights_fine z f.0);
          fuel_left = omega (arith, sp.fuel_left);
          equations_left = omega (arith, e₁, rd.equations_few z f.0);
          are = ap (map (around c.vs c.cs c.ks)) (sym e₂) ∙ sp.are;
        },
      )
