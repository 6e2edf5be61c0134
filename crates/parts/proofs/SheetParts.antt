-- The parts of all right sides, one right side after another.
use mathlib.Core.Path.{◌≡◌, refl, sym, ap, subst, ◌∙◌}
use mathlib.Core.List.{List, [], ◌∷◌, ◌++◌, append_assoc, append-nil}
use mathlib.Core.Bool.{Bool, true, false}
use Prim.Native.Nat.{ℕ, zero, suc, ◌+◌, ◌*◌, ◌≤◌, ◌<◌, min}
use native.Mathlib.Numerals.{add-one}
use native.Mathlib.Decide.{ℕ_discrete, dec_lt}
use native.Mathlib.Omega.{arith}
use lib.ListN.{length, take, drop, get_or, set, length-append}
use lib.Seq.{take-suc, take_all, get_or-set_same, get_or-set_other, ext_get_or, get_or-take, length-take-le}
use Rattle.pcrl.specs.Reader.{all}
use Rattle.pcrl.specs.Sheet.{Proc, delta, atom, alt, cond, sum, seq, call, Process, Sheet, no_process}
use Rattle.pcrl.specs.Parts.{NewPart, if_after, new_parts, new_count, all_new_parts}
use Rattle.laws.specs.Written.{all_append}
use Rattle.laws.specs.Every.{every_at}
use Rattle.theory.specs.Standing.{RightProcess}
use Rattle.nodes.specs.declared.Outline.{Outline}
use Rattle.nodes.specs.declared.Skipped.{Skipped}
use Rattle.nodes.specs.Layout.{cell_limit}
use Rattle.nodes.specs.Held.{proc_width}
use Rattle.nodes.specs.Scoped.{max_scope, Scoped}
use Rattle.nodes.specs.Views.{Skips}
use Rattle.std.specs.Prelude.{Option}
use Rattle.parts.proofs.BehindLaws.{from_none, from_then, from_as}
use Rattle.parts.specs.declared.PartWalk.{PartWalk}
use Rattle.parts.specs.Rows.{row_width, params_bytes, RowsKept}
use Rattle.parts.specs.Walking.{Fit, PartsPut, PutsParts}
use Rattle.parts.specs.Sheets.{count_cut, Loads, Placed, CountsParts, AllPut, PutsAll}
use Rattle.parts.proofs.WalkLaws.{rows_append}

-- ---- how many
if_after_length : (b : Bool) (Γ Δ : List ℕ) (p : Proc) → length (if_after b Γ p) ≡ length (if_after b Δ p)
unfolding if_after
if_after_length true Γ Δ p = refl
if_after_length false Γ Δ p = refl

-- it does not depend on what is in scope
scope_free : (b : Bool) (Γ Δ : List ℕ) (p : Proc) → length (new_parts b Γ p) ≡ length (new_parts b Δ p)
unfolding new_parts
scope_free b Γ Δ delta = if_after_length b Γ Δ delta
scope_free b Γ Δ (atom a ds) = if_after_length b Γ Δ (atom a ds)
scope_free b Γ Δ (alt p q) = simp length-append (omega (arith, if_after_length b Γ Δ (alt p q), scope_free false Γ Δ p, scope_free false Γ Δ q))
scope_free b Γ Δ (cond c p q) = simp length-append (omega (arith, if_after_length b Γ Δ (cond c p q), scope_free false Γ Δ p, scope_free false Γ Δ q))
scope_free b Γ Δ (sum x D p) = simp length-append (omega (arith, if_after_length b Γ Δ (sum x D p), scope_free false (Γ ++ (D ∷ [])) (Δ ++ (D ∷ [])) p))
scope_free b Γ Δ (seq p q) = simp length-append (omega (arith, scope_free b Γ Δ p, scope_free true Γ Δ q))
scope_free b Γ Δ (call k ds) = refl

parts_append : (ps qs : List Process) → all_new_parts (ps ++ qs) ≡ all_new_parts ps ++ all_new_parts qs
unfolding all_new_parts
parts_append [] qs = refl
parts_append (p ∷ ps) qs = ap (λ (l : List NewPart). new_parts false p.params p.right ++ l) (parts_append ps qs) ∙ sym (append_assoc (new_parts false p.params p.right) (all_new_parts ps) (all_new_parts qs))

-- the parts of process k
abbrev pub parts_in : List Process → ℕ → List NewPart
parts_in ps k = new_parts false (get_or ps k no_process).params (get_or ps k no_process).right

pub parts_more : (ps : List Process) (k : ℕ) → k < length ps → all_new_parts (take (k + 1) ps) ≡ all_new_parts (take k ps) ++ parts_in ps k
unfolding all_new_parts
parts_more ps k h =
    ap (λ (n : ℕ). all_new_parts (take n ps)) (add-one k) ∙ ap all_new_parts (take-suc ps k no_process h) ∙ parts_append (take k ps) (get_or ps k no_process ∷ [])
    ∙ ap (λ (l : List NewPart). all_new_parts (take k ps) ++ l) (append-nil (parts_in ps k))

parts_whole : (ps : List Process) (k : ℕ) → length ps ≤ k → all_new_parts (take k ps) ≡ all_new_parts ps
parts_whole ps k h = ap all_new_parts (take_all k ps h)

module _ (procs cells starts : List ℕ) (n : Outline) where
  abbrev pub CountLeft : ℕ → ℕ → Type 0
  CountLeft k total = (H : Sheet) → Placed H procs cells starts n → total ≡ min count_cut (length H.procs + length (all_new_parts (take k H.procs)))

  pub count_start : (t : ℕ) → t ≡ min n.procs count_cut → CountLeft 0 t
  unfolding all_new_parts
  count_start t e H p = let c = p.held.proc_count in omega arith

  pub count_more : (k t u at : ℕ) (r : Skipped) → k < n.procs → at ≡ get_or starts k 0 → Skips cells at r → u ≡ min (t + r.own) count_cut → CountLeft k t → CountLeft (k + 1) u
  unfolding new_count
  count_more k t u at r h ea sk e left H p =
      let c = p.held.proc_count in
      let proc = p.held.proc_at k h in
      let (rest, stand) = proc.right in
      let own = (sk false (get_or H.procs k no_process).right rest (ap (λ (j : ℕ). drop j cells) ea ∙ stand)).0 in
      let same = scope_free false [] (get_or H.procs k no_process).params (get_or H.procs k no_process).right in
      let more = ap length (parts_more H.procs k (omega arith)) ∙ length-append (all_new_parts (take k H.procs)) (parts_in H.procs k) in
      let before = left H p in
      omega arith

  pub count_done : (k t : ℕ) → n.procs ≤ k → CountLeft k t → CountsParts procs cells starts n t
  count_done k t h left H p = let c = p.held.proc_count in left H p ∙ ap (λ (l : List NewPart). min count_cut (length H.procs + length l)) (parts_whole H.procs k (omega arith))

-- ---- the sorts of a row
abbrev pub LoadedTo : (procs : List ℕ) (p : ℕ) (sorts : List ℕ) → ℕ → Type 0
LoadedTo procs p sorts i = (j : ℕ) → j < i → get_or sorts j 0 ≡ get_or procs (p + 1 + j) 0

pub loaded_more : (procs : List ℕ) (p : ℕ) (sorts : List ℕ) (i b : ℕ) → i < length sorts → b ≡ get_or procs (p + 1 + i) 0 → LoadedTo procs p sorts i → LoadedTo procs p (set sorts i b) (i + 1)
loaded_more procs p sorts i b h e left j k = elim (ℕ_discrete j i) [
  | yes z ↦ ap (λ (x : ℕ). get_or (set sorts i b) x 0) z ∙ get_or-set_same sorts i b 0 h ∙ e ∙ ap (λ (x : ℕ). get_or procs (p + 1 + x) 0) (sym z)
  | no z ↦ get_or-set_other sorts i j b 0 z ∙ left j (strictly j i k z)
]
  where
    strictly : (j i : ℕ) → j < i + 1 → (j ≡ i → ⊥) → j < i
    strictly j i k z = elim (dec_lt j i) [ yes a ↦ a | no a ↦ absurd (z (omega arith)) ]

pub load_done : (procs : List ℕ) (p : ℕ) (sorts : List ℕ) (i n : ℕ) → n ≡ get_or procs p 0 → i ≡ n → n ≤ length sorts → LoadedTo procs p sorts i → Loads procs p sorts n
load_done procs p sorts i n en ei room left Ds at few =
    let many : n ≡ length Ds = en ∙ at.many in
    let size : length (take n sorts) ≡ n = length-take-le n sorts room in
    (many, ext_get_or 0 (take n sorts) Ds (size ∙ many) (λ j h. get_or-take n sorts j 0 (omega arith) ∙ left j (omega arith) ∙ at.each j (omega arith)))

pub load_far : (procs : List ℕ) (p : ℕ) (sorts : List ℕ) (n : ℕ) → n ≡ get_or procs p 0 → max_scope < n → Loads procs p sorts 0
load_far procs p sorts n e h Ds at few = absurd (omega (arith, at.many))

-- ---- all right sides
module _ (procs cells starts : List ℕ) (n : Outline) (rows : List ℕ) (w : Option ℕ) (o : List ℕ) where
  abbrev pub AllLeft : ℕ → ℕ → Option ℕ → List ℕ → List ℕ → Type 0
  AllLeft k count v rows₁ o₁ =
      (H : Sheet) → Placed H procs cells starts n → row_width * length (all_new_parts H.procs) ≤ length rows → AllPut cells w o (all_new_parts (take k H.procs)) (record { count = count; w = v }) rows₁ o₁

  pub all_start : AllLeft 0 0 w rows o
  unfolding all_new_parts all
  all_start H p room = record { count_is = refl; rows_of = record { each = λ j h. absurd (omega arith) }; puts = from_none w o }

  -- so many as were passed are no more than all
  parts_few : (ps : List Process) (k : ℕ) → length (all_new_parts (take k ps)) ≤ length (all_new_parts ps)
  unfolding all_new_parts
  parts_few [] zero = omega arith
  parts_few [] (suc k) = omega arith
  parts_few (p ∷ ps) zero = omega arith
  parts_few (p ∷ ps) (suc k) = simp length-append (omega (arith, parts_few ps k))

  pub all_far : (k count : ℕ) (v : Option ℕ) (rows₁ o₁ : List ℕ) → length rows < cell_limit → cell_limit ≤ count → AllLeft k count v rows₁ o₁ → PutsAll procs cells starts n rows w o (record { count = count; w = v }) rows₁ o₁
  all_far k count v rows₁ o₁ few far left H p room = absurd (omega (arith, (left H p room).count_is, parts_few H.procs k))

  pub all_more : (k count : ℕ) (v : Option ℕ) (rows₁ o₁ : List ℕ) (sorts : List ℕ) (base at : ℕ) (s : PartWalk) (rows₂ o₂ : List ℕ) → k < n.procs → length rows₁ ≡ length rows → Loads procs (proc_width * k) sorts base → at ≡ get_or starts k 0
      → RowsKept rows₁ count rows₂ → PutsParts cells sorts rows₁ at base count v o₁ s rows₂ o₂ → AllLeft k count v rows₁ o₁ → AllLeft (k + 1) s.count s.w rows₂ o₂
  all_more k count v rows₁ o₁ sorts base at s rows₂ o₂ h size load ea kept put left H p room =
      let before = left H p room in
      let c = p.held.proc_count in
      let proc = p.held.proc_at k h in
      let q = get_or H.procs k no_process in
      let right = every_at (RightProcess H) H.procs no_process k p.right (omega arith) in
      let (rest, stand) = proc.right in
      let loaded = load q.params proc.params proc.few in
      let fit : Fit H n.procs base q.right = record { scoped = subst (λ (j : ℕ). Scoped n.procs j q.right) (sym loaded.0) proc.scoped; scope = _; sorted = right.sorted } in
      let done = put H n.procs q.right rest p.few (ap (λ (j : ℕ). drop j cells) ea ∙ stand) fit in
      let same : new_parts false (take base sorts) q.right ≡ parts_in H.procs k = ap (λ (Γ : List ℕ). new_parts false Γ q.right) loaded.1 in
      let mine : PartsPut cells rows₁ count v o₁ (parts_in H.procs k) s.count s.w rows₂ o₂ = subst (λ (l : List NewPart). PartsPut cells rows₁ count v o₁ l s.count s.w rows₂ o₂) same done in
      let xs = all_new_parts (take k H.procs) in
      let ys = parts_in H.procs k in
      let whole : all_new_parts (take (k + 1) H.procs) ≡ xs ++ ys = parts_more H.procs k (omega arith) in
      let many = length-append xs ys in
      let all_many = parts_few H.procs (k + 1) in
      let whole_many = ap length whole in
      let bc = before.count_is in
      let mc = mine.count_is in
      let bz : count ≡ 0 + length xs = omega arith in
      subst (λ (l : List NewPart). AllPut cells w o l (record { count = s.count; w = s.w }) rows₂ o₂) (sym whole)
      (record {
        count_is = omega arith;
        rows_of = rows_append cells rows₁ rows₂ 0 count xs ys bz kept before.rows_of (mine.rows_of (omega arith));
        puts = from_as w o s.w o₂ (sym (all_append params_bytes xs ys)) (from_then (all params_bytes xs) (all params_bytes ys) o o₁ o₂ w v s.w before.puts mine.puts);
      })

  pub all_done : (k count : ℕ) (v : Option ℕ) (rows₁ o₁ : List ℕ) → n.procs ≤ k → AllLeft k count v rows₁ o₁ → PutsAll procs cells starts n rows w o (record { count = count; w = v }) rows₁ o₁
  all_done k count v rows₁ o₁ h left H p room =
      let c = p.held.proc_count in
      subst (λ (l : List NewPart). AllPut cells w o l (record { count = count; w = v }) rows₁ o₁) (parts_whole H.procs k (omega arith)) (left H p room)
