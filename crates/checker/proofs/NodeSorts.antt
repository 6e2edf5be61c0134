-- One node of a process term: its data against the sorts of its action, its process or Bool; and the variable that a sum binds.
use mathlib.Core.Path.{◌≡◌, refl, sym, ap, ◌∙◌, subst}
use mathlib.Core.List.{List, [], ◌∷◌, ◌++◌}
use mathlib.Core.Bool.{Bool, true, false}
use Prim.Native.Nat.{ℕ, ◌+◌, ◌-◌, ◌*◌, ◌/◌, ◌<◌, ◌≤◌}
use native.Mathlib.Omega.{arith}
use lib.Dec.{ltb, eqb, eqb-suc-zero}
use lib.ListN.{length, get_or, set}
use Rattle.pcrl.specs.Tests.{Each, Every}
use Rattle.pcrl.specs.Sheet.{Data, tau, action, Proc, delta, atom, alt, cond, sum, seq, call, Sheet, takes_of, params, no_action, no_process}
use Rattle.pcrl.specs.Sorts.{Scope, Bool_sort, HasSort, Arguments, IsAct}
use Rattle.laws.specs.Says.{Says, said_yes, said_no, says_as, says_both, says_lt}
use Rattle.nodes.specs.declared.Outline.{Outline}
use Rattle.nodes.specs.declared.Node.{Node}
use Rattle.nodes.specs.Layout.{sum_kind, atom_kind, cond_kind, call_kind, act_number, enc_data, enc_datas, encs, Item}
use Rattle.nodes.specs.Nodes.{kind_of, node_number, node_datas, node_kids}
use Rattle.nodes.specs.Scoped.{max_scope, Scoped}
use Rattle.nodes.specs.Held.{SortsAt, act_width, proc_width}
use Rattle.nodes.specs.Views.{Opened}
use Rattle.nodes.proofs.Cells.{read_cell}
use Rattle.checker.specs.Known.{KnownSheet, InScope, Around}
use Rattle.checker.specs.Sorts.{FitsAt, AllFitAt, ArgumentsAt, NodeSorted, AtomSays, CallSays, CondSays, NodeSays, Bound, Binds}
use Rattle.checker.proofs.DataSorts.{sort_fits, fits_sort}

abbrev around : (H : Sheet) (scope sizes funcs acts procs : List ℕ) (n : Outline) → KnownSheet H sizes funcs acts procs n → (Γ : Scope) (m : ℕ) → InScope Γ m scope → Around scope sizes funcs n
around H scope sizes funcs acts procs n k Γ m i = record { sig = H.sig; known = k.data_known; vars = Γ; level = m; in_scope = i }

no_arguments : (R : Data → ℕ → Type 0) (ds : List Data) → Says (eqb (length ds) 0) (Each R ds [])
unfolding Each
no_arguments R [] = tt
no_arguments R (d ∷ ds) = subst (λ (t : Bool). Says t (Each R (d ∷ ds) [])) (sym (eqb-suc-zero (length ds))) (λ x. x)

module _ (cells scope sizes funcs acts procs : List ℕ) (n : Outline) (d : Node) where
  -- ---- actions
  pub tau_right : d.number ≡ 0 → AtomSays cells scope sizes funcs acts procs n d (eqb d.datas 0)
  unfolding IsAct takes_of node_number act_number node_datas
  tau_right z H k Γ m i b tau ds xs rest sc o =
      subst (λ (l : ℕ). Says (eqb l 0) (Unit {0} × Arguments H.sig Γ ds [])) (sym o.datas_is)
      (says_both (eqb (length ds) 0) (Arguments H.sig Γ ds []) tt (no_arguments (HasSort H.sig Γ) ds))
  tau_right z H k Γ m i b (action a) ds xs rest sc o = absurd (omega (arith, o.number_is))

  pub no_such_action : (d.number ≡ 0 → ⊥) → n.acts ≤ d.number - 1 → AtomSays cells scope sizes funcs acts procs n d false
  unfolding IsAct takes_of node_number act_number
  no_such_action z h H k Γ m i b tau ds xs rest sc o = absurd (z o.number_is)
  no_such_action z h H k Γ m i b (action a) ds xs rest sc o = λ x. let y = x.0 in omega (arith, o.number_is, k.act_count)

  pub action_right : (d.number ≡ 0 → ⊥) → d.number - 1 < n.acts → (r : Bool) → ArgumentsAt cells scope sizes funcs n d.terms d.datas acts (act_width * (d.number - 1)) r
      → AtomSays cells scope sizes funcs acts procs n d r
  unfolding IsAct takes_of node_number act_number node_datas
  action_right z h r args H k Γ m i b tau ds xs rest sc o = absurd (z o.number_is)
  action_right z h r args H k Γ m i b (action a) ds xs rest sc o =
      let e : d.number - 1 ≡ a = omega (arith, o.number_is) in
      let c = k.act_count in
      let row : SortsAt (get_or H.sig.acts a no_action).takes acts (act_width * (d.number - 1)) =
      subst (λ (x : ℕ). SortsAt (get_or H.sig.acts x no_action).takes acts (act_width * (d.number - 1))) e (k.acts_at (d.number - 1) h) in
      says_both r (Arguments H.sig Γ ds (get_or H.sig.acts a no_action).takes) (omega arith)
      (args (around H scope sizes funcs acts procs n k Γ m i) ds (get_or H.sig.acts a no_action).takes _ sc (sym o.datas_is) row o.terms_are)

  -- ---- calls
  pub no_such_process : n.procs ≤ d.number → CallSays cells scope sizes funcs acts procs n d false
  unfolding node_number
  no_such_process h H k Γ m i b j ds xs rest sc o = λ x. let y = x.0 in omega (arith, o.number_is, k.proc_count)

  pub process_right : d.number < n.procs → (r : Bool) → ArgumentsAt cells scope sizes funcs n d.terms d.datas procs (proc_width * d.number) r
      → CallSays cells scope sizes funcs acts procs n d r
  unfolding node_number node_datas params
  process_right h r args H k Γ m i b j ds xs rest sc o =
      let c = k.proc_count in
      let row : SortsAt (get_or H.procs j no_process).params procs (proc_width * d.number) =
      subst (λ (x : ℕ). SortsAt (get_or H.procs x no_process).params procs (proc_width * d.number)) o.number_is (k.params_at d.number h) in
      says_both r (Arguments H.sig Γ ds (get_or H.procs j no_process).params) (omega (arith, o.number_is))
      (args (around H scope sizes funcs acts procs n k Γ m i) ds (get_or H.procs j no_process).params _ sc (sym o.datas_is) row o.terms_are)

  -- ---- conditions
  module _ (r : Bool) (fit : FitsAt cells scope sizes funcs n d.terms Bool_sort r) where
    pub no_condition : r ≡ false → CondSays cells scope sizes funcs acts procs n d false
    unfolding node_datas
    no_condition z H k Γ m i b c p q xs rest sc o =
        λ x. said_no r (fit (around H scope sizes funcs acts procs n k Γ m i) c [] _ sc o.terms_are) z (sort_fits H.sig Γ c Bool_sort x).0

    pub condition_right : r ≡ true → (s : Bool) → AllFitAt cells scope sizes funcs n d.terms d.datas s → CondSays cells scope sizes funcs acts procs n d s
    unfolding node_datas Every
    condition_right z s all H k Γ m i b c p q xs rest sc o =
        let w = around H scope sizes funcs acts procs n k Γ m i in
        let f = said_yes r (fit w c [] _ sc o.terms_are) z in
        says_as s (λ x. fits_sort H.sig Γ c Bool_sort f x.0) (λ x. ((sort_fits H.sig Γ c Bool_sort x).1, tt)) (all w (c ∷ []) _ (sc, tt) (sym o.datas_is) o.terms_are)

  -- ---- any node
  pub atom_node : d.kind ≡ atom_kind → (r : Bool) → AtomSays cells scope sizes funcs acts procs n d r → NodeSays cells scope sizes funcs acts procs n d r
  unfolding NodeSorted kind_of Scoped
  atom_node z r s H k Γ m i b delta xs rest sc o = absurd (omega (arith, o.kind_is))
  atom_node z r s H k Γ m i b (atom a ds) xs rest sc o = s H k Γ m i b a ds xs rest sc o
  atom_node z r s H k Γ m i b (alt p q) xs rest sc o = absurd (omega (arith, o.kind_is))
  atom_node z r s H k Γ m i b (cond c p q) xs rest sc o = absurd (omega (arith, o.kind_is))
  atom_node z r s H k Γ m i b (sum x D p) xs rest sc o = absurd (omega (arith, o.kind_is))
  atom_node z r s H k Γ m i b (seq p q) xs rest sc o = absurd (omega (arith, o.kind_is))
  atom_node z r s H k Γ m i b (call j ds) xs rest sc o = absurd (omega (arith, o.kind_is))

  pub call_node : d.kind ≡ call_kind → (r : Bool) → CallSays cells scope sizes funcs acts procs n d r → NodeSays cells scope sizes funcs acts procs n d r
  unfolding NodeSorted kind_of Scoped
  call_node z r s H k Γ m i b delta xs rest sc o = absurd (omega (arith, o.kind_is))
  call_node z r s H k Γ m i b (atom a ds) xs rest sc o = absurd (omega (arith, o.kind_is))
  call_node z r s H k Γ m i b (alt p q) xs rest sc o = absurd (omega (arith, o.kind_is))
  call_node z r s H k Γ m i b (cond c p q) xs rest sc o = absurd (omega (arith, o.kind_is))
  call_node z r s H k Γ m i b (sum x D p) xs rest sc o = absurd (omega (arith, o.kind_is))
  call_node z r s H k Γ m i b (seq p q) xs rest sc o = absurd (omega (arith, o.kind_is))
  call_node z r s H k Γ m i b (call j ds) xs rest sc o = s H k Γ m i b j ds xs rest sc.1 o

  pub cond_node : d.kind ≡ cond_kind → (r : Bool) → CondSays cells scope sizes funcs acts procs n d r → NodeSays cells scope sizes funcs acts procs n d r
  unfolding NodeSorted kind_of Scoped
  cond_node z r s H k Γ m i b delta xs rest sc o = absurd (omega (arith, o.kind_is))
  cond_node z r s H k Γ m i b (atom a ds) xs rest sc o = absurd (omega (arith, o.kind_is))
  cond_node z r s H k Γ m i b (alt p q) xs rest sc o = absurd (omega (arith, o.kind_is))
  cond_node z r s H k Γ m i b (cond c p q) xs rest sc o = s H k Γ m i b c p q xs rest sc.0 o
  cond_node z r s H k Γ m i b (sum x D p) xs rest sc o = absurd (omega (arith, o.kind_is))
  cond_node z r s H k Γ m i b (seq p q) xs rest sc o = absurd (omega (arith, o.kind_is))
  cond_node z r s H k Γ m i b (call j ds) xs rest sc o = absurd (omega (arith, o.kind_is))

  pub sum_node : d.kind ≡ sum_kind → NodeSays cells scope sizes funcs acts procs n d (ltb d.number n.sorts)
  unfolding NodeSorted kind_of node_number
  sum_node z H k Γ m i b delta xs rest sc o = absurd (omega (arith, o.kind_is))
  sum_node z H k Γ m i b (atom a ds) xs rest sc o = absurd (omega (arith, o.kind_is))
  sum_node z H k Γ m i b (alt p q) xs rest sc o = absurd (omega (arith, o.kind_is))
  sum_node z H k Γ m i b (cond c p q) xs rest sc o = absurd (omega (arith, o.kind_is))
  sum_node z H k Γ m i b (sum x D p) xs rest sc o =
      let c = k.data_known.sizes_are.sort_count in
      says_as (ltb d.number n.sorts) (λ h. omega (arith, o.number_is)) (λ h. omega (arith, o.number_is)) (says_lt d.number n.sorts)
  sum_node z H k Γ m i b (seq p q) xs rest sc o = absurd (omega (arith, o.kind_is))
  sum_node z H k Γ m i b (call j ds) xs rest sc o = absurd (omega (arith, o.kind_is))

  pub other_node : (d.kind ≡ atom_kind → ⊥) → (d.kind ≡ call_kind → ⊥) → (d.kind ≡ cond_kind → ⊥) → (d.kind ≡ sum_kind → ⊥) → NodeSays cells scope sizes funcs acts procs n d true
  unfolding NodeSorted kind_of
  other_node a c e f H k Γ m i b delta xs rest sc o = tt
  other_node a c e f H k Γ m i b (atom y ds) xs rest sc o = absurd (a o.kind_is)
  other_node a c e f H k Γ m i b (alt p q) xs rest sc o = tt
  other_node a c e f H k Γ m i b (cond y p q) xs rest sc o = absurd (e o.kind_is)
  other_node a c e f H k Γ m i b (sum x D p) xs rest sc o = absurd (f o.kind_is)
  other_node a c e f H k Γ m i b (seq p q) xs rest sc o = tt
  other_node a c e f H k Γ m i b (call j ds) xs rest sc o = absurd (c o.kind_is)

-- ---- the variable that a sum binds
module _ (cells : List ℕ) (d : Node) (s : List ℕ) where
  pub binds_none : (d.kind ≡ sum_kind → ⊥) → Binds cells d s s
  unfolding Bound kind_of
  binds_none h b delta xs rest o = refl
  binds_none h b (atom a ds) xs rest o = refl
  binds_none h b (alt p q) xs rest o = refl
  binds_none h b (cond c p q) xs rest o = refl
  binds_none h b (sum x D p) xs rest o = absurd (h o.kind_is)
  binds_none h b (seq p q) xs rest o = refl
  binds_none h b (call k ds) xs rest o = refl

  -- its number stands in the first data cell
  bound_number : (b : Bool) (x D : ℕ) (p : Proc) (xs : List Item) (rest : List ℕ) → Opened cells b (sum x D p) xs rest d → (k : ℕ) → k ≡ get_or cells d.terms 0 → k / 4 ≡ x
  unfolding node_datas enc_datas enc_data
  bound_number b x D p xs rest o k e = omega (arith, (read_cell cells d.terms (4 * x + 1) (encs (node_kids b (sum x D p) ++ xs) ++ rest) o.terms_are).0)

  pub binds_far : d.kind ≡ sum_kind → (k : ℕ) → k ≡ get_or cells d.terms 0 → max_scope ≤ k / 4 → Binds cells d s s
  unfolding Bound kind_of
  binds_far z k e h b delta xs rest o = refl
  binds_far z k e h b (atom a ds) xs rest o = refl
  binds_far z k e h b (alt p q) xs rest o = refl
  binds_far z k e h b (cond c p q) xs rest o = refl
  binds_far z k e h b (sum x D p) xs rest o = λ l. absurd (omega (arith, bound_number b x D p xs rest o k e))
  binds_far z k e h b (seq p q) xs rest o = refl
  binds_far z k e h b (call j ds) xs rest o = refl

  pub binds_one : d.kind ≡ sum_kind → (k : ℕ) → k ≡ get_or cells d.terms 0 → Binds cells d s (set s (k / 4) d.number)
  unfolding Bound kind_of node_number
  binds_one z k e b delta xs rest o = absurd (omega (arith, o.kind_is))
  binds_one z k e b (atom a ds) xs rest o = absurd (omega (arith, o.kind_is))
  binds_one z k e b (alt p q) xs rest o = absurd (omega (arith, o.kind_is))
  binds_one z k e b (cond c p q) xs rest o = absurd (omega (arith, o.kind_is))
  binds_one z k e b (sum x D p) xs rest o = λ l. ap (λ (y : ℕ). set s y d.number) (bound_number b x D p xs rest o k e) ∙ ap (set s x) o.number_is
  binds_one z k e b (seq p q) xs rest o = absurd (omega (arith, o.kind_is))
  binds_one z k e b (call j ds) xs rest o = absurd (omega (arith, o.kind_is))
