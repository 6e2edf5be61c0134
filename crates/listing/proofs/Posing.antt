-- A sheet that passes questions 1 to 9 can be written.
use mathlib.Core.Path.{◌≡◌, refl, sym, ap, subst, ◌∙◌}
use mathlib.Core.List.{List}
use mathlib.Core.Bool.{true, false}
use Prim.Native.Nat.{ℕ, zero, suc, ◌+◌, ◌≤◌, ◌<◌, min}
use native.Mathlib.Decide.{dec_le}
use native.Mathlib.Omega.{arith}
use lib.ListN.{length, take, get_or, get_elem?}
use Rattle.pcrl.specs.Limits.{max_sorts, max_size, max_functions, max_actions, max_arity, max_equations, max_processes, max_summands}
use Rattle.pcrl.specs.Tests.{Every, Between}
use Rattle.pcrl.specs.Sheet.{Action, Process, Sig, Sheet, no_action, no_process, params, right, size}
use Rattle.pcrl.specs.Sorts.{Sorted}
use Rattle.pcrl.specs.Parts.{all_new_parts}
use Rattle.pcrl.specs.Table.{summand_count}
use Rattle.pcrl.specs.Right.{RightSizes, RightSig, RightAction}
use Rattle.pcrl.specs.Heads.{fuel, table_of}
use Rattle.laws.specs.Every.{every_at, every_get_or, every_weaken}
use Rattle.theory.specs.Standing.{Standing, RightProcess}
use Rattle.nodes.specs.declared.Outline.{Outline}
use Rattle.nodes.specs.Layout.{byte_limit}
use Rattle.nodes.specs.Held.{HeldProcs, ProcAt}
use Rattle.counting.specs.Counting.{Tallied, FirstNew}
use Rattle.counting.specs.Counting as C
use Rattle.std.specs.Prelude.{Result, Ok, Err}
use Rattle.refusals.specs.declared.Refusal.{Refusal}
use Rattle.refusals.specs.declared.Refusal.TheVariants.{NoRoom}
use Rattle.contexts.specs.Spots.{Ready}
use Rattle.heads.specs.Writing.{NumbersFirst}
use Rattle.heads.proofs.Accepted.{Small, ready}
use Rattle.parts.specs.Rows.{RowsOf}
use Rattle.parts.specs.Sheets.{Placed}
use Rattle.listing.specs.Summands.{SummandsWithin, summands_bytes, Listed, PutsSummands}
use Rattle.listing.specs.Listing.{count_cut, Posed, CountsAll, AllPut, PutsAll}

-- a right signature is small
small : (S : Sig) → RightSig S → Small S
unfolding RightSig RightSizes RightAction size
small S r = record {
  sizes = λ D. sizes_few D;
  sorts = let m = r.0.0.0 in omega arith;
  acts = r.1.1.0.0;
  takes = λ a. every_get_or (λ (x : Action). length x.takes ≤ max_arity) S.acts no_action a (every_weaken (RightAction S.sorts) (λ (x : Action). length x.takes ≤ max_arity) (λ x h. h.1.0) S.acts r.1.1.0.1) (omega arith);
}
  where
    sizes_few : (D : ℕ) → get_or S.sorts D 0 ≤ byte_limit
    sizes_few D = every_get_or (λ (x : ℕ). x ≤ byte_limit) S.sorts 0 D (every_weaken (Between 1 max_size) (λ (x : ℕ). x ≤ byte_limit) (λ x h. omega arith) S.sorts r.0.0.1) (omega arith)

module _ (procs cells starts : List ℕ) (n : Outline) (rows : List ℕ) (count : ℕ) (few : count ≤ max_equations) (counts firsts : List ℕ) (f : ℕ) (ef : f ≡ n.procs + 1)
    (tally : (H : Sheet) → length H.procs ≡ n.procs → C.Placed H cells starts → Tallied H f counts) (numbers : NumbersFirst cells starts n.procs firsts) (total : ℕ) (et : total ≡ n.procs + count) (w : ℕ) (o : List ℕ) where
  posed : (H : Sheet) → Standing H → Placed H procs cells starts n → count ≡ length (all_new_parts H.procs) → RowsOf cells rows 0 (all_new_parts H.procs) → Posed procs cells starts counts firsts n rows total f H
  unfolding fuel right
  posed H ok placed ec rs =
      let held = placed.held in
      let many = held.proc_count in
      let least = held.few_procs in
      let all_few : length H.procs + length (all_new_parts H.procs) < byte_limit = omega arith in
      let sorted = every_weaken (RightProcess H) (λ (p : Process). Sorted H (get_elem? p.params) p.right) (λ p h. h.sorted) H.procs ok.processes in
      let stand : C.Placed H cells starts = λ k h. (held.proc_at k (omega arith)).right in
      record {
        placed = placed;
        rows_of = rs;
        ready = ready H procs cells starts n f counts firsts held sorted (small H.sig ok.signature) all_few (tally H (sym many) stand) (numbers H (sym many) stand all_few) placed.few.cells_few;
        fuel_is = omega arith;
        total_is = omega arith;
        few = omega arith;
      }

  pub too_many : (t : ℕ) (e : Refusal) (o' : List ℕ) → CountsAll procs cells starts counts firsts n rows total f t → max_summands < t → PutsSummands procs cells starts n rows count w o (Err e) o'
  too_many t e o' c h H ok placed ec rs sw = absurd (omega (arith, c H (posed H ok placed ec rs), sw.few))

  pub all_listed : (t : ℕ) (r : Result ℕ Refusal) (o' : List ℕ) → length o' ≡ length o → CountsAll procs cells starts counts firsts n rows total f t → t ≤ max_summands → PutsAll procs cells starts counts firsts n rows total f w o r o'
      → PutsSummands procs cells starts n rows count w o r o'
  all_listed t r o' same c h put H ok placed ec rs =
      let g = posed H ok placed ec rs in
      go r (put H g (omega (arith, c H g)))
    where
      go : (r : Result ℕ Refusal) → AllPut H w o r o' → Listed H w o r o'
      go (Ok v) b = (b.0, record { same = same; fits = λ k. (b.1, b.2); over = λ k. absurd (omega (arith, b.1, b.3)); inside = λ k. b.3 })
      go (Err e) b = b

-- there was no room for anything
pub past_end : (procs cells starts : List ℕ) (n : Outline) (rows : List ℕ) (count w : ℕ) (o : List ℕ) (o' : List ℕ) → length o < w → PutsSummands procs cells starts n rows count w o (Err NoRoom) o'
past_end procs cells starts n rows count w o o' h H ok placed ec rs sw = (refl, omega arith)
