-- The summands of a sheet's table are rightly sorted: by induction on the term, each head keeps the sorts of the term's data
-- and calls, where data of the right sorts are put for the variables in scope.
use Rattle.std.specs.Prelude.{◌≡◌, length}
use Rattle.std.proofs.Math.Path.{subst}
use mathlib.Core.List.{List, [], ◌∷◌, ◌++◌, map, append_assoc, append-nil}
use Rattle.std.proofs.Math.Bool.{true, false}
use Prim.Native.Nat.{ℕ, zero, suc, ◌+◌, ◌<◌}
use Rattle.std.proofs.Common.{arith}
use Rattle.std.proofs.Math.ListN.{get_elem?}
use Rattle.pcrl.specs.Tests.{Every}
use Rattle.pcrl.specs.Sheet.{Data, var, Act, Proc, delta, atom, alt, cond, sum, seq, call, Sig, Sheet, takes_of, params, right}
use Rattle.pcrl.specs.Sorts.{Bool_sort, HasSort, Arguments, IsAct, Sorted}
use Rattle.pcrl.specs.Values.{put_data}
use Rattle.pcrl.specs.Parts.{marks, marked, NewPart, if_after, new_parts, new_count, part, kind}
use Rattle.pcrl.specs.Table.{Summand}
use Rattle.pcrl.specs.Heads.{with_var, with_cond, with_calls, look, new_call, calls_of, heads_by, heads}
use Rattle.pcrl.specs.Right.{AreSorts}
use Rattle.laws.specs.Lists.{length_snoc, some_append}
use Rattle.laws.specs.Every.{every_weaken, every_map, every_append}
use Rattle.laws.specs.Each.{each_length}
use Rattle.theory.specs.Segments.{next_new, Seg, seg_left, seg_right, seg_right_side}
use Rattle.theory.specs.SortLaws.{put_sort, put_arguments, wider_sort, wider_arguments, Fitting, fitting_look, fitting_next, fitting_marked}
use Rattle.theory.specs.Scopes.{SortedIn}
use Rattle.theory.proofs.Scopes.{sorted_in_parts}

-- In a table of which only the signature S and the parameters of each equation are known: n equations, Ps e those of equation e.
module _ (S : Sig) (n : ℕ) (Ps : ℕ → List ℕ) where
  -- a condition: a term of Bool, wanted 0 or 1
  abbrev pub SortedCond : List ℕ → ℕ × Data → Type 0
  SortedCond Γ c = (c.0 < 2) × HasSort S (get_elem? Γ) c.1 Bool_sort

  abbrev pub SortedCall : List ℕ → ℕ × List Data → Type 0
  SortedCall Γ c = (c.0 < n) × Arguments S (get_elem? Γ) c.1 (Ps c.0)

  -- a summand of an equation with the parameters Δ
  pub record SortedSummand (Δ : List ℕ) (h : Summand) : Type 0 where
    pub vars : AreSorts S.sorts h.vars
    pub conds : Every (SortedCond (Δ ++ h.vars)) h.conds
    pub act : IsAct S h.act
    pub terms : Arguments S (get_elem? (Δ ++ h.vars)) h.terms (takes_of S h.act)
    pub calls : Every (SortedCall (Δ ++ h.vars)) h.calls

  -- "d put before their variables"
  sorted_with_var : (Δ : List ℕ) (D : ℕ) (h : Summand) → D < length S.sorts → SortedSummand (Δ ++ (D ∷ [])) h → SortedSummand Δ (with_var D h)
  unfolding with_var Every
  sorted_with_var Δ D h w k =
      let e = append_assoc Δ (D ∷ []) h.vars in
      record {
        vars = (w, k.vars);
        conds = subst (λ (Γ : List ℕ). Every (SortedCond Γ) h.conds) e k.conds;
        act = k.act;
        terms = subst (λ (Γ : List ℕ). Arguments S (get_elem? Γ) h.terms (takes_of S h.act)) e k.terms;
        calls = subst (λ (Γ : List ℕ). Every (SortedCall Γ) h.calls) e k.calls;
      }

  -- "with `c is 1` put first"
  sorted_with_cond : (Δ : List ℕ) (w : ℕ) (c : Data) (h : Summand) → w < 2 → HasSort S (get_elem? Δ) c Bool_sort → SortedSummand Δ h → SortedSummand Δ (with_cond w c h)
  unfolding with_cond Every
  sorted_with_cond Δ w c h b z k = record {
    vars = k.vars;
    conds = ((b, wider_sort S (get_elem? Δ) (get_elem? (Δ ++ h.vars)) (some_append Δ h.vars) c Bool_sort z), k.conds);
    act = k.act;
    terms = k.terms;
    calls = k.calls;
  }

  calls_behind : (Γ Δ : List ℕ) (cs : List (ℕ × List Data)) → Every (SortedCall Γ) cs → Every (SortedCall (Γ ++ Δ)) cs
  calls_behind Γ Δ cs h = every_weaken _ _ (λ c k. (k.0, wider_arguments S (get_elem? Γ) (get_elem? (Γ ++ Δ)) (some_append Γ Δ) c.1 (Ps c.0) k.1)) cs h

  -- "each followed by the calls of the rest"
  sorted_with_calls : (Δ : List ℕ) (cs : List (ℕ × List Data)) (h : Summand) → Every (SortedCall Δ) cs → SortedSummand Δ h → SortedSummand Δ (with_calls cs h)
  unfolding with_calls
  sorted_with_calls Δ cs h z k = record {
    vars = k.vars;
    conds = k.conds;
    act = k.act;
    terms = k.terms;
    calls = every_append _ h.calls cs k.calls (calls_behind Δ h.vars cs z);
  }

  -- the one summand of an action
  sorted_atom : (Δ : List ℕ) (σ : List Data) (Γ : List ℕ) (a : Act) (ds : List Data) → Fitting S Δ σ Γ → IsAct S a → Arguments S (get_elem? Γ) ds (takes_of S a)
      → SortedSummand Δ (record { vars = []; conds = []; act = a; terms = map (put_data (look σ)) ds; calls = [] })
  unfolding Every
  sorted_atom Δ σ Γ a ds h i k = record {
    vars = tt;
    conds = tt;
    act = i;
    terms = rw (append-nil Δ) (put_arguments S (get_elem? Γ) (get_elem? Δ) (look σ) (fitting_look S Δ σ Γ h) ds (takes_of S a) k);
    calls = tt;
  }

-- H's signature and processes, in a table of which n and Ps are the equations and their parameters
module _ (H : Sheet) (n : ℕ) (Ps : ℕ → List ℕ)
    (of_process : (k : ℕ) → k < length H.procs → (k < n) × (Ps k ≡ params H k))
    (of_part : (e : ℕ) (x : NewPart) → kind H e ≡ part x → (e < n) × (Ps e ≡ marked (marks (length x.scope) x.term) x.scope)) where
  abbrev CallsSorted : List ℕ → List (ℕ × List Data) → Type 0
  CallsSorted Δ cs = Every (SortedCall H.sig n Ps Δ) cs

  abbrev HeadsSorted : List ℕ → List Summand → Type 0
  HeadsSorted Δ hs = Every (SortedSummand H.sig n Ps Δ) hs

  new_call_sorted : (Δ : List ℕ) (σ : List Data) (Γ : List ℕ) (c : ℕ) (q : Proc) → Fitting H.sig Δ σ Γ → kind H c ≡ part (record { scope = Γ; term = q }) → CallsSorted Δ (new_call σ c q)
  unfolding new_call Every
  new_call_sorted Δ σ Γ c q h e =
      let (i, r) = of_part c (record { scope = Γ; term = q }) e in
      ((i, rw (r, each_length _ σ Γ h) (fitting_marked H.sig Δ (marks (length Γ) q) σ Γ h)), tt)

  -- the calls of what stands after a first part
  calls_sorted : (q : Proc) (Δ : List ℕ) (σ : List Data) (Γ : List ℕ) (c : ℕ) → Fitting H.sig Δ σ Γ → SortedIn H Γ q → Seg H c (new_parts true Γ q) → CallsSorted Δ (calls_of σ c q)
  unfolding calls_of Seg new_parts if_after Every Sorted
  calls_sorted delta Δ σ Γ c h f e = new_call_sorted Δ σ Γ c delta h e.0
  calls_sorted (atom a ds) Δ σ Γ c h f e = new_call_sorted Δ σ Γ c (atom a ds) h e.0
  calls_sorted (alt p q) Δ σ Γ c h f e = new_call_sorted Δ σ Γ c (alt p q) h e.0
  calls_sorted (cond d p q) Δ σ Γ c h f e = new_call_sorted Δ σ Γ c (cond d p q) h e.0
  calls_sorted (sum x D p) Δ σ Γ c h f e = new_call_sorted Δ σ Γ c (sum x D p) h e.0
  calls_sorted (seq p q) Δ σ Γ c h f e =
      let g = (sorted_in_parts H).of_seq Γ p q f in
      every_append _ (calls_of σ c p) (calls_of σ (c + new_count true p) q) (calls_sorted p Δ σ Γ c h g.0 (seg_left H c (new_parts true Γ p) (new_parts true Γ q) e))
      (calls_sorted q Δ σ Γ (c + new_count true p) h g.1 (seg_right H c (c + new_count true p) (new_parts true Γ p) (new_parts true Γ q) (next_new c true Γ p) e))
  calls_sorted (call k ds) Δ σ Γ c h f e =
      let (i, r) = of_process k f.sorted.0 in
      ((i, rw r (put_arguments H.sig (get_elem? Γ) (get_elem? Δ) (look σ) (fitting_look H.sig Δ σ Γ h) ds (params H k) f.sorted.1)), tt)

  module _ (known : List Data → ℕ → ℕ → List Summand)
      (known_sorted : (k : ℕ) (Δ : List ℕ) (σ : List Data) → k < length H.procs → Fitting H.sig Δ σ (params H k) → HeadsSorted Δ (known σ (length Δ) k)) where
    heads_by_sorted : (p : Proc) (Δ : List ℕ) (σ : List Data) (Γ : List ℕ) (c : ℕ) → Fitting H.sig Δ σ Γ → SortedIn H Γ p → Seg H c (new_parts false Γ p)
        → HeadsSorted Δ (heads_by known σ (length Δ) c p)
    unfolding heads_by Sorted new_parts if_after Every
    heads_by_sorted delta Δ σ Γ c h f e = tt
    heads_by_sorted (atom a ds) Δ σ Γ c h f e = (sorted_atom H.sig n Ps Δ σ Γ a ds h f.sorted.0 f.sorted.1, tt)
    heads_by_sorted (alt p q) Δ σ Γ c h f e =
        let g = (sorted_in_parts H).of_alt Γ p q f in
        every_append _ (heads_by known σ (length Δ) c p) (heads_by known σ (length Δ) (c + new_count false p) q)
        (heads_by_sorted p Δ σ Γ c h g.0 (seg_left H c _ (new_parts false Γ q) e))
        (heads_by_sorted q Δ σ Γ (c + new_count false p) h g.1 (seg_right H c _ (new_parts false Γ p) (new_parts false Γ q) (next_new c false Γ p) e))
    heads_by_sorted (cond d p q) Δ σ Γ c h f e =
        let g = (sorted_in_parts H).of_cond Γ d p q f in
        let b = put_data (look σ) d in
        let s = put_sort H.sig (get_elem? Γ) (get_elem? Δ) (look σ) (fitting_look H.sig Δ σ Γ h) d Bool_sort f.sorted.0 in
        every_append _ (map (with_cond 1 b) (heads_by known σ (length Δ) c p)) (map (with_cond 0 b) (heads_by known σ (length Δ) (c + new_count false p) q))
        (every_map _ _ (with_cond 1 b) (λ x. sorted_with_cond H.sig n Ps Δ 1 b x (omega arith) s) (heads_by known σ (length Δ) c p) (heads_by_sorted p Δ σ Γ c h g.0 (seg_left H c _ (new_parts false Γ q) e)))
        (every_map _ _ (with_cond 0 b) (λ x. sorted_with_cond H.sig n Ps Δ 0 b x (omega arith) s) (heads_by known σ (length Δ) (c + new_count false p) q)
        (heads_by_sorted q Δ σ Γ (c + new_count false p) h g.1 (seg_right H c _ (new_parts false Γ p) (new_parts false Γ q) (next_new c false Γ p) e)))
    heads_by_sorted (sum x D p) Δ σ Γ c h f e =
        every_map _ _ (with_var D) (λ y. sorted_with_var H.sig n Ps Δ D y f.sorted.0) (heads_by known (σ ++ (var (length Δ) ∷ [])) (suc (length Δ)) c p)
        (rw (length_snoc Δ D) at (heads_by_sorted p (Δ ++ (D ∷ [])) (σ ++ (var (length Δ) ∷ [])) (Γ ++ (D ∷ [])) c (fitting_next H.sig Δ D σ Γ h) ((sorted_in_parts H).of_sum Γ x D p f) e))
    heads_by_sorted (seq p q) Δ σ Γ c h f e =
        let g = (sorted_in_parts H).of_seq Γ p q f in
        let cs = calls_of σ (c + new_count false p) q in
        every_map _ _ (with_calls cs) (λ x. sorted_with_calls H.sig n Ps Δ cs x
        (calls_sorted q Δ σ Γ (c + new_count false p) h g.1 (seg_right H c _ (new_parts false Γ p) (new_parts true Γ q) (next_new c false Γ p) e)))
        (heads_by known σ (length Δ) c p) (heads_by_sorted p Δ σ Γ c h g.0 (seg_left H c _ (new_parts true Γ q) e))
    heads_by_sorted (call k ds) Δ σ Γ c h f e =
        known_sorted k Δ (map (put_data (look σ)) ds) f.sorted.0
        (put_arguments H.sig (get_elem? Γ) (get_elem? Δ) (look σ) (fitting_look H.sig Δ σ Γ h) ds (params H k) f.sorted.1)

  module _ (ok : (k : ℕ) → k < length H.procs → SortedIn H (params H k) (right H k)) where
    -- THE HEADS OF A RIGHTLY SORTED TERM ARE RIGHTLY SORTED, however far calls are followed.
    pub heads_sorted : (f : ℕ) (p : Proc) (Δ : List ℕ) (σ : List Data) (Γ : List ℕ) (c : ℕ) → Fitting H.sig Δ σ Γ → SortedIn H Γ p → Seg H c (new_parts false Γ p)
        → Every (SortedSummand H.sig n Ps Δ) (heads H f σ (length Δ) c p)
    unfolding heads Every
    heads_sorted zero p Δ σ Γ c h s e = heads_by_sorted _ (λ k Δ σ w g. tt) p Δ σ Γ c h s e
    heads_sorted (suc f) p Δ σ Γ c h s e =
        heads_by_sorted _ (λ k Δ σ w g. heads_sorted f (right H k) Δ σ (params H k) _ g (ok k w) (seg_right_side H k w)) p Δ σ Γ c h s e
