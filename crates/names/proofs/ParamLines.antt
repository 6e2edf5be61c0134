-- A process's parameters: each name is new and comes into scope, each sort gets its number in the row.
use mathlib.Core.Path.{◌≡◌, refl, sym, ◌∙◌, ap}
use mathlib.Core.List.{List, [], ◌∷◌, ◌++◌, append-nil, append_assoc, map-append}
use mathlib.Core.Bool.{Bool, true, false}
use Rattle.std.specs.Prelude.{Some, None}
use mathlib.Core.Option.{Option, none, some}
use mathlib.Core.Logic.{⊎_elim}
use Prim.Native.Nat.{ℕ, zero, suc, ◌+◌, ◌*◌, ◌≤◌, ◌<◌}
use native.Mathlib.Nat.{eq-or-lt_of_le}
use native.Mathlib.Numerals.{add-one}
use native.Mathlib.Omega.{arith}
use lib.ListN.{length, take, drop, get_or, set, length-append, drop_of_length-le, get_or-append}
use lib.Seq.{drop-cons, get_or_at, get_or-set_same, get_or-set_other, take-suc-set}
use Rattle.pcrl.specs.Text.{bytes}
use Rattle.pcrl.specs.Limits.{frame_width}
use Rattle.pcrl.specs.Tests.{and, negated, among}
use Rattle.pcrl.specs.Tree.{Name}
use Rattle.pcrl.specs.Tokens.{name}
use Rattle.pcrl.specs.Maybe.{◌>>=◌}
use Rattle.pcrl.specs.Names.{Names, declared, number_of, new_variable, resolve_params}
use Rattle.parser.specs.Cells.{Symbol, token, enc_items, enc_param}
use Rattle.names.specs.declared.Kinds.{Kinds}
use Rattle.names.specs.declared.Params.{Params}
use Rattle.names.specs.NameCells.{name_at, scope_at}
use Rattle.names.specs.Standing.{symbols}
use Rattle.names.specs.Items.{item_count}
use Rattle.names.specs.NameKinds.{total_of, sorts_in}
use Rattle.names.specs.Rows.{ParamsRead}
use Rattle.names.proofs.Symbols.{name_is, symbols_behind}
use Rattle.names.proofs.Items.{count_is, item_first, items_later, items_behind}
use Rattle.names.proofs.SortRow.{Numbered}

-- the sorts before those of the parameters left
abbrev before : List ℕ → Option (List Name × List ℕ) → Option (List Name × List ℕ)
before d none = none
before d (some x) = some (x.0, d ++ x.1)

-- one more cell of a scope
scope_more : (s scope : List ℕ) (k v : ℕ) → k < length scope → scope_at s (set scope k v) (k + 1) ≡ scope_at s scope k ++ (name_at s v ∷ [])
unfolding scope_at
scope_more s scope k v h = rw (add-one k, take-suc-set scope k v h) (map-append (name_at s) (take k scope) (v ∷ []))

module _ (N : Names) where
  -- a parameter's name is not new, its sort is none, or it is as it must be
  old_name : (scope : List Name) (b : Name × Name) (ps : List (Name × Name)) → new_variable N scope b.0 ≡ false → resolve_params N scope (b ∷ ps) ≡ none
  unfolding resolve_params
  old_name scope b ps e = rw e

  no_sort : (scope : List Name) (b : Name × Name) (ps : List (Name × Name)) → new_variable N scope b.0 ≡ true → number_of b.1 N.sorts ≡ none → resolve_params N scope (b ∷ ps) ≡ none
  unfolding resolve_params
  no_sort scope b ps e f = rw (e, f)

  param_known : (d : List ℕ) (scope : List Name) (b : Name × Name) (ps : List (Name × Name)) (D : ℕ) → new_variable N scope b.0 ≡ true → number_of b.1 N.sorts ≡ some D
      → before d (resolve_params N scope (b ∷ ps)) ≡ before (d ++ (D ∷ [])) (resolve_params N (scope ++ (b.0 ∷ [])) ps)
  unfolding resolve_params
  param_known d scope b ps D e f = rw (e, f) (go (resolve_params N (scope ++ (b.0 ∷ [])) ps))
    where
      go : (o : Option (List Name × List ℕ)) → before d (◌>>=◌ o (λ r. some (r.0, D ∷ r.1))) ≡ before (d ++ (D ∷ [])) o
      go none = refl
      go (some x) = let z : d ++ (D ∷ x.1) ≡ (d ++ (D ∷ [])) ++ x.1 = sym (append_assoc d (D ∷ []) x.1) in ap (λ (l : List ℕ). some (x.0, l)) z

module _ (s cells names : List ℕ) (kinds : Kinds) (at : ℕ) where
  -- the first k parameters are in scope and in the row
  pub record ParamsOf (N : Names) (ps : List (Name × Name)) (rows scope : List ℕ) (k : ℕ) : Type 0 where
    pub done : List ℕ
    pub many : length done ≡ k
    pub whole : resolve_params N [] ps ≡ before done (resolve_params N (scope_at s scope k) (drop k ps))
    pub held : (j : ℕ) → j < k → Numbered rows 0 (get_or done j 0) j

  abbrev pub ParamsGone : (rows scope : List ℕ) (k : ℕ) → Type 0
  ParamsGone rows scope k = (N : Names) (ps : List (Name × Name)) (rest : List Symbol) → N.sorts ≡ sorts_in s names kinds → declared N ≡ bytes "Bool" ∷ scope_at s names (total_of kinds)
      → drop at (symbols s cells) ≡ enc_items enc_param ps ++ rest → length ps ≤ frame_width → ParamsOf N ps rows scope k

  pub params_start : (rows scope : List ℕ) → ParamsGone rows scope 0
  unfolding scope_at
  params_start rows scope N ps rest e d a h = record { done = []; many = refl; whole = go (resolve_params N [] ps); held = λ j l. absurd (omega arith) }
    where
      go : (o : Option (List Name × List ℕ)) → o ≡ before [] o
      go none = refl
      go (some x) = refl

  -- the k-th parameter
  params_from : (ps : List (Name × Name)) (b k q : ℕ) (rest : List Symbol) → k ≤ length ps → q ≡ b + 3 * k → drop b (symbols s cells) ≡ enc_items enc_param ps ++ rest
      → drop q (symbols s cells) ≡ enc_items enc_param (drop k ps) ++ rest
  params_from ps b zero q rest l h e = let z : q ≡ b = omega arith in rw z e
  params_from [] b (suc k) q rest l h e = absurd (omega arith)
  params_from (x ∷ ps) b (suc k) q rest l h e = params_from ps (b + 3) k q rest (omega arith) (omega arith) (items_later s cells enc_param 2 (λ x. refl) b (b + 3) x ps rest refl e)

  pub record ParamAt (ps : List (Name × Name)) (k : ℕ) : Type 0 where
    pub param : Name × Name
    pub next : drop k ps ≡ param ∷ drop (k + 1) ps
    pub name_there : name_at s (get_or cells (at + 3 * k + 1) 0) ≡ param.0
    pub sort_there : name_at s (get_or cells (at + 3 * k + 2) 0) ≡ param.1

  param_at : (ps : List (Name × Name)) (k : ℕ) (rest : List Symbol) → k < length ps → drop at (symbols s cells) ≡ enc_items enc_param ps ++ rest → ParamAt ps k
  param_at ps k rest h e =
      let b : Name × Name = get_or ps k ([], []) in
      let d : drop k ps ≡ b ∷ drop (k + 1) ps = drop-cons ps k ([], []) h ∙ ap (λ (m : ℕ). b ∷ drop m ps) (sym (add-one k)) in
      let f = params_from ps at k (at + 3 * k) rest (omega arith) refl e ∙ ap (λ (l : List (Name × Name)). enc_items enc_param l ++ rest) d in
      let g = item_first s cells enc_param (at + 3 * k) (at + 3 * k + 1) b (drop (k + 1) ps) rest refl f in
      record {
        param = b;
        next = d;
        name_there = name_is s cells (at + 3 * k + 1) b.0 (token (name b.1) ∷ (enc_items enc_param (drop (k + 1) ps) ++ rest)) g;
        sort_there = name_is s cells (at + 3 * k + 2) b.1 (enc_items enc_param (drop (k + 1) ps) ++ rest)
            (symbols_behind s cells (at + 3 * k + 1) (at + 3 * k + 2) (token (name b.0)) (token (name b.1) ∷ (enc_items enc_param (drop (k + 1) ps) ++ rest)) (omega arith) g);
      }

  -- as many items as parameters
  params_many : (ps : List (Name × Name)) (m : ℕ) (rest : List Symbol) → m ≡ item_count cells 3 at frame_width → length ps ≤ frame_width → drop at (symbols s cells) ≡ enc_items enc_param ps ++ rest → m ≡ length ps
  params_many ps m rest h l e = let c = count_is s cells enc_param 2 (λ x. refl) ps at frame_width rest e in omega arith

  is_new : (N : Names) (scope : List Name) (v : ℕ) (x : Name) (t : Bool) → declared N ≡ bytes "Bool" ∷ scope_at s names (total_of kinds) → name_at s v ≡ x
      → t ≡ and (negated (among (name_at s v) (bytes "Bool" ∷ scope_at s names (total_of kinds)))) (negated (among (name_at s v) scope)) → new_variable N scope x ≡ t
  unfolding new_variable
  is_new N scope v x t d e h = rw (d, ← e) (sym h)

  module _ (rows scope : List ℕ) (m k v : ℕ) (t : Bool) (g : ParamsGone rows scope k) (many : m ≡ item_count cells 3 at frame_width) (less : k < m) (there : v ≡ get_or cells (at + 3 * k + 1) 0)
      (new : t ≡ and (negated (among (name_at s v) (bytes "Bool" ∷ scope_at s names (total_of kinds)))) (negated (among (name_at s v) (scope_at s scope k)))) where
    -- the name is not new
    pub params_old : (rows' scope' : List ℕ) → t ≡ false → ParamsRead s cells names kinds at rows' scope' None
    params_old rows' scope' f N ps rest e d a h =
        let l = params_many ps m rest many h a in
        let b = param_at ps k rest (omega arith) a in
        let G = g N ps rest e d a h in
        let w = is_new N (scope_at s scope k) v b.param.0 t d (ap (name_at s) there ∙ b.name_there) new ∙ f in
        let z : resolve_params N [] ps ≡ none = G.whole ∙ ap (before G.done) (ap (resolve_params N (scope_at s scope k)) b.next ∙ old_name N (scope_at s scope k) b.param (drop (k + 1) ps) w) in
        rw z tt

    module _ (f : t ≡ true) where
      -- its sort is none
      pub params_no_sort : (rows' scope' : List ℕ) → number_of (name_at s (get_or cells (at + 3 * k + 2) 0)) (sorts_in s names kinds) ≡ none → ParamsRead s cells names kinds at rows' scope' None
      params_no_sort rows' scope' number N ps rest e d a h =
          let l = params_many ps m rest many h a in
          let b = param_at ps k rest (omega arith) a in
          let G = g N ps rest e d a h in
          let w = is_new N (scope_at s scope k) v b.param.0 t d (ap (name_at s) there ∙ b.name_there) new ∙ f in
          let x : number_of b.param.1 N.sorts ≡ none = rw (e, ← b.sort_there) number in
          let z : resolve_params N [] ps ≡ none = G.whole ∙ ap (before G.done) (ap (resolve_params N (scope_at s scope k)) b.next ∙ no_sort N (scope_at s scope k) b.param (drop (k + 1) ps) w x) in
          rw z tt

      -- one more
      pub params_go : (j D : ℕ) → number_of (name_at s (get_or cells (at + 3 * k + 2) 0)) (sorts_in s names kinds) ≡ some D → k < length scope → j ≡ 1 + k → j < length rows → ParamsGone (set rows j D) (set scope k v) (k + 1)
      params_go j D number c hj room N ps rest e d a h =
          let l = params_many ps m rest many h a in
          let b = param_at ps k rest (omega arith) a in
          let G = g N ps rest e d a h in
          let vx = ap (name_at s) there ∙ b.name_there in
          let w = is_new N (scope_at s scope k) v b.param.0 t d vx new ∙ f in
          let x : number_of b.param.1 N.sorts ≡ some D = rw (e, ← b.sort_there) number in
          let sc : scope_at s scope k ++ (b.param.0 ∷ []) ≡ scope_at s (set scope k v) (k + 1) = ap (λ (y : Name). scope_at s scope k ++ (y ∷ [])) (sym vx) ∙ sym (scope_more s scope k v c) in
          record {
            done = G.done ++ (D ∷ []);
            many = simp length-append (omega (arith, G.many));
            whole = G.whole ∙ (ap (λ (y : List (Name × Name)). before G.done (resolve_params N (scope_at s scope k) y)) b.next
                ∙ (param_known N G.done (scope_at s scope k) b.param (drop (k + 1) ps) D w x
                ∙ ap (λ (y : List Name). before (G.done ++ (D ∷ [])) (resolve_params N y (drop (k + 1) ps))) sc));
            held = λ i o. row_more G.done G.many G.held i o;
          }
        where
          row_more : (done : List ℕ) → length done ≡ k → ((i : ℕ) → i < k → Numbered rows 0 (get_or done i 0) i) → (i : ℕ) → i < k + 1 → Numbered (set rows j D) 0 (get_or (done ++ (D ∷ [])) i 0) i
          row_more done dk held i o = ⊎_elim
              (λ z. let y : 1 + i ≡ j = omega arith in rw (get_or_at done D [] 0 i (dk ∙ sym z), y) (get_or-set_same rows j D 0 room))
              (λ z. let y : i < k = z in rw (get_or-append done (D ∷ []) 0 i (omega arith)) (get_or-set_other rows j (1 + i) D 0 (λ x. omega arith) ∙ held i y))
              (eq-or-lt_of_le {n = i} {m = k} (omega arith))

  -- all of them
  pub params_end : (rows scope : List ℕ) (k m : ℕ) (r : Params) → m ≡ item_count cells 3 at frame_width → k ≡ m → 0 < length rows → ParamsGone rows scope k → r.count ≡ m → r.at ≡ at + 3 * m + 1
      → ParamsRead s cells names kinds at (set rows 0 m) scope (Some r)
  unfolding resolve_params
  params_end rows scope k m r many km room g c i N ps rest e d a h =
      let l = params_many ps m rest many h a in
      let G = g N ps rest e d a h in
      let z : drop k ps ≡ [] = drop_of_length-le ps {i = k} (omega arith) in
      let w : resolve_params N [] ps ≡ some (scope_at s scope k, G.done ++ []) = G.whole ∙ ap (λ (y : List (Name × Name)). before G.done (resolve_params N (scope_at s scope k) y)) z in
      let dn = append-nil G.done in
      let gm = G.many in
      let u : resolve_params N [] ps ≡ some (scope_at s scope k, G.done) = w ∙ ap (λ (y : List ℕ). some (scope_at s scope k, y)) dn in
      rw u (record {
        many = c ∙ (sym km ∙ sym gm);
        scoped = ap (scope_at s scope) (c ∙ sym km);
        sorts = record {
          many = get_or-set_same rows 0 m 0 room ∙ (sym km ∙ sym gm);
          each = λ i t. get_or-set_other rows 0 (1 + i) m 0 (λ x. omega arith) ∙ G.held i (omega arith);
        };
        next = items_behind s cells enc_param 2 (λ x. refl) ps at r.at rest (omega arith) a;
      })
