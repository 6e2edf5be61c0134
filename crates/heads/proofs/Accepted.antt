-- An accepted sheet can be written: what the questions and the arrays say of it gives `Fine` and `Ready`.
use mathlib.Core.Path.{◌≡◌, refl, ap, ◌∙◌, subst}
use mathlib.Core.List.{List, [], ◌∷◌, ◌++◌}
use mathlib.Core.Bool.{Bool, true, false}
use Prim.Native.Nat.{ℕ, zero, suc, ◌+◌, ◌-◌, ◌<◌, ◌≤◌}
use native.Mathlib.Omega.{arith}
use lib.ListN.{length, get_or, get_elem?, length-append}
use Rattle.pcrl.specs.Limits.{max_arity, max_actions}
use Rattle.pcrl.specs.Tests.{Every, Each}
use Rattle.pcrl.specs.Sheet.{Data, val, var, app, Datas, nil, cons, Act, tau, action, Proc, delta, atom, alt, cond, sum, seq, call, Process, Sig, Sheet, no_action, no_process, Operation, first_equal, operation, size, function, function_at, takes_of, params, right}
use Rattle.pcrl.specs.Sorts.{Scope, binding, IsOperation, IsFunc, HasSort, HaveSorts, IsAct, Sorted}
use Rattle.pcrl.specs.Parts.{new_count, if_after, new_parts, all_new_parts, first_new}
use Rattle.laws.specs.Every.{every_at}
use Rattle.laws.specs.Each.{each_length}
use Rattle.laws.specs.Operations.{Seen, seen, equal_number}
use Rattle.laws.specs.DataSorts.{have_sorts_many}
use Rattle.nodes.specs.declared.Outline.{Outline}
use Rattle.nodes.specs.Layout.{byte_limit, cell_limit, act_number}
use Rattle.nodes.specs.Scoped.{ScopedData, ScopedArguments, Scoped}
use Rattle.nodes.specs.Held.{HeldProcs, ProcAt}
use Rattle.counting.specs.Counting.{Tallied, FirstNew}
use Rattle.putting.specs.Slots.{Writable, WritableArguments}
use Rattle.following.specs.Fine.{Fine}
use Rattle.contexts.specs.Spots.{Ready}

-- sizes of sorts, sorts and actions are few
pub record Small (S : Sig) : Type 0 where
  pub sizes : (D : ℕ) → size S D ≤ byte_limit
  pub sorts : length S.sorts ≤ byte_limit
  pub acts : length S.acts ≤ max_actions
  pub takes : (a : ℕ) → length (get_or S.acts a no_action).takes ≤ max_arity

-- a function that is there has a code, and its sort, if it is `==`, fits a byte
is_coded : (S : Sig) (f : ℕ) → IsFunc S f → operation f ≡ Operation.unsorted → ⊥
unfolding IsOperation
is_coded S f h e = subst (λ (o : Operation). IsOperation S o) e h

number_small : (S : Sig) → Small S → (f : ℕ) → IsFunc S f → f < first_equal + byte_limit
unfolding IsOperation
number_small S few f h = go (operation f) (seen f) h
  where
    go : (o : Operation) → Seen f o → IsOperation S o → f < first_equal + byte_limit
    go (Operation.written g) (Seen.as_written k) h = omega arith
    go Operation.not (Seen.as_not e) h = omega arith
    go Operation.and (Seen.as_and e) h = omega arith
    go Operation.or (Seen.as_or e) h = omega arith
    go (Operation.equal D) (Seen.as_equal E e) h = omega (arith, few.sorts)
    go Operation.unsorted (Seen.as_unsorted e) h = absurd h
    go Operation.unsorted (Seen.as_none k l) h = absurd h

-- "`==` takes two data"
equal_takes : (S : Sig) (f : ℕ) → first_equal ≤ f → length (function_at S f).takes ≡ 2
unfolding function_at function
equal_takes S f h =
    let z : f ≡ first_equal + (f - first_equal) = omega arith in
    ap (λ (o : Operation). length (function S o).takes) (ap operation z ∙ equal_number (f - first_equal))

module _ (S : Sig) (few : Small S) (Γ : Scope) (n : ℕ) where
  mutual
    unfolding ScopedData HasSort Writable

    pub writable : (d : Data) (D : ℕ) → ScopedData n d → HasSort S Γ d D → Writable n d
    writable (val v) D s h = omega (arith, few.sizes D)
    writable (var i) D s h = s
    writable (app f ds) D s h =
        (is_coded S f h.0, number_small S few f h.0, λ k. have_sorts_many S Γ ds (function_at S f).takes h.1.1 ∙ equal_takes S f k, writable_all ds (function_at S f).takes s h.1.1)

    writable_all : (ds : Datas) (Ds : List ℕ) → ScopedArguments n ds → HaveSorts S Γ ds Ds → WritableArguments n ds
    writable_all nil Ds s h = tt
    writable_all (cons d ds) [] s h = absurd h
    writable_all (cons d ds) (D ∷ Ds) s h = (writable d D s.0 h.0, writable_all ds Ds s.1 h.1)

  pub all_writable : (ds : List Data) (Ds : List ℕ) → Every (ScopedData n) ds → Each (HasSort S Γ) ds Ds → Every (Writable n) ds
  unfolding Every Each
  all_writable [] Ds s h = tt
  all_writable (d ∷ ds) [] s h = absurd h
  all_writable (d ∷ ds) (D ∷ Ds) s h = (writable d D s.0 h.0, all_writable ds Ds s.1 h.1)

module _ (H : Sheet) (few : Small H.sig) where
  act_small : (a : Act) → IsAct H.sig a → act_number a < byte_limit
  unfolding IsAct act_number
  act_small tau h = omega arith
  act_small (action a) h = omega (arith, few.acts)

  takes_few : (a : Act) → length (takes_of H.sig a) ≤ max_arity
  unfolding takes_of
  takes_few tau = omega arith
  takes_few (action a) = few.takes a

  -- in scope and rightly sorted
  pub fine : (m n : ℕ) (Γ : Scope) (p : Proc) → Scoped m n p → Sorted H Γ p → Fine H n p
  unfolding Scoped Sorted Fine
  fine m n Γ delta s h = tt
  fine m n Γ (atom a ds) s h =
      (act_small a h.0, (omega (arith, each_length (HasSort H.sig Γ) ds (takes_of H.sig a) h.1, takes_few a), all_writable H.sig few Γ n ds (takes_of H.sig a) s h.1))
  fine m n Γ (alt p q) s h = (fine m n Γ p s.0 h.0, fine m n Γ q s.1 h.1)
  fine m n Γ (cond c p q) s h = (writable H.sig few Γ n c _ s.0 h.0, (fine m n Γ p s.1.0 h.1.0, fine m n Γ q s.1.1 h.1.1))
  fine m n Γ (sum x D p) s h = (s.0, (s.1.0, (omega (arith, h.0, few.sorts), fine m (suc n) (binding x D Γ) p s.1.1 h.1)))
  fine m n Γ (seq p q) s h = (fine m n Γ p s.0 h.0, fine m n Γ q s.1 h.1)
  fine m n Γ (call k ds) s h = (h.0, (each_length (HasSort H.sig Γ) ds (params H k) h.1, all_writable H.sig few Γ n ds (params H k) s.1 h.1))

if_after_length : (r : Bool) (Γ Δ : List ℕ) (p : Proc) → length (if_after r Γ p) ≡ length (if_after r Δ p)
unfolding if_after
if_after_length true Γ Δ p = refl
if_after_length false Γ Δ p = refl

-- how many new equations there are does not depend on what is in scope
scope_free : (r : Bool) (Γ Δ : List ℕ) (p : Proc) → length (new_parts r Γ p) ≡ length (new_parts r Δ p)
unfolding new_parts
scope_free r Γ Δ delta = if_after_length r Γ Δ delta
scope_free r Γ Δ (atom a ds) = if_after_length r Γ Δ (atom a ds)
scope_free r Γ Δ (alt p q) = simp length-append (omega (arith, if_after_length r Γ Δ (alt p q), scope_free false Γ Δ p, scope_free false Γ Δ q))
scope_free r Γ Δ (cond c p q) = simp length-append (omega (arith, if_after_length r Γ Δ (cond c p q), scope_free false Γ Δ p, scope_free false Γ Δ q))
scope_free r Γ Δ (sum x D p) = simp length-append (omega (arith, if_after_length r Γ Δ (sum x D p), scope_free false (Γ ++ (D ∷ [])) (Δ ++ (D ∷ [])) p))
scope_free r Γ Δ (seq p q) = simp length-append (omega (arith, scope_free r Γ Δ p, scope_free true Γ Δ q))
scope_free r Γ Δ (call k ds) = refl

new_scope : (r : Bool) (Γ : List ℕ) (p : Proc) → length (new_parts r Γ p) ≡ new_count r p
unfolding new_count
new_scope r Γ p = scope_free r Γ [] p

-- the numbers of new equations stay below that of all equations
pub first_below : (c : ℕ) (ps : List Process) (k : ℕ) → k < length ps → first_new c ps k + new_count false (get_or ps k no_process).right ≤ c + length (all_new_parts ps)
unfolding first_new all_new_parts
first_below c [] k h = absurd (omega arith)
first_below c (p ∷ ps) zero h = omega (arith, length-append (new_parts false p.params p.right) (all_new_parts ps), new_scope false p.params p.right)
first_below c (p ∷ ps) (suc k) h =
    omega (arith, first_below (c + new_count false p.right) ps k (omega arith), length-append (new_parts false p.params p.right) (all_new_parts ps), new_scope false p.params p.right)

-- what the arrays of an accepted sheet give
pub ready : (H : Sheet) (procs cells starts : List ℕ) (n : Outline) (F : ℕ) (counts firsts : List ℕ) → HeldProcs H procs cells starts n → Every (λ (p : Process). Sorted H (get_elem? p.params) p.right) H.procs → Small H.sig
    → length H.procs + length (all_new_parts H.procs) < byte_limit → Tallied H F counts → FirstNew H firsts → length cells < cell_limit → Ready H F cells starts counts firsts
unfolding right params
ready H procs cells starts n F counts firsts held sorted few equations tl fn short = record {
  placed = λ k h. (at k h).right;
  procs_few = omega (arith, held.proc_count, held.few_procs);
  params_four = λ k h. (at k h).few;
  few = record { procs_few = omega (arith, held.proc_count, held.few_procs); params_few = λ k h. omega (arith, (at k h).few) };
  tallied = tl;
  first_new_are = fn;
  rights_fine = λ k h. fine H few n.procs _ _ (get_or H.procs k no_process).right (at k h).scoped (every_at (λ (p : Process). Sorted H (get_elem? p.params) p.right) H.procs no_process k sorted h);
  equations_few = λ k h. omega (arith, first_below (length H.procs) H.procs k h);
  cells_few = short;
}
  where
    at : (k : ℕ) → k < length H.procs → ProcAt n.procs (get_or H.procs k no_process) procs cells starts k
    at k h = held.proc_at k (omega (arith, held.proc_count))
