-- Every equation of the table of a sheet in good standing is rightly sorted: its parameters are sorts, and so are its summands.
use Rattle.std.specs.Prelude.{◌≡◌, refl, true, ℕ, suc, ◌<◌, replicate}
use Rattle.std.proofs.Math.Path.{ap, sym}
use Rattle.std.proofs.Common.{subst}
use mathlib.Core.List.{List, [], ◌∷◌}
use native.Mathlib.Omega.{arith}
use Rattle.std.proofs.Math.ListN.{length}
use Rattle.std.proofs.lemmas.List.{length-replicate}
use Rattle.pcrl.specs.Limits.{max_size}
use Rattle.pcrl.specs.Tests.{Between, Every}
use Rattle.pcrl.specs.Sheet.{Sig, Sheet, size, params, right}
use Rattle.pcrl.specs.Parts.{marks, marked, as_params, NewPart, Kind, absent, written, part, kind}
use Rattle.pcrl.specs.Table.{Equation, equation}
use Rattle.pcrl.specs.Heads.{fuel, equation_of, table_of}
use Rattle.pcrl.specs.Right.{RightSizes, AreSorts, RightSig}
use Rattle.laws.specs.Every.{every_weaken, every_at}
use Rattle.theory.specs.Standing.{Standing}
use Rattle.theory.specs.Segments.{written_kind, part_below, seg_right_side, part_of}
use Rattle.theory.specs.Marks.{marks_length, marked_length, marked_every}
use Rattle.theory.specs.SortLaws.{Inhabited, fitting_params}
use Rattle.theory.specs.Scopes.{SortedIn, right_sorted_in}
use Rattle.theory.proofs.Scopes.{sorted_in_parts}
use Rattle.theory.proofs.TableSorts.{SortedSummand, heads_sorted}
use Rattle.theory.specs.Equations.{equation_count, equation_at, equation_part, params_written}

-- "sizes 1 to 16": a sort that is there has a value
pub sorts_inhabited : (S : Sig) → RightSizes S.sorts → (Γ : List ℕ) → AreSorts S.sorts Γ → Inhabited S Γ
unfolding RightSizes size
sorts_inhabited S r Γ h = every_weaken _ _ (λ D w. (every_at (Between 1 max_size) S.sorts 0 D r.0.1 w).0) Γ h

marked_all : {A : Type 0} (xs : List A) → marked (replicate (length xs) true) xs ≡ xs
unfolding marked
marked_all [] = refl
marked_all (x ∷ xs) = ap (λ zs. x ∷ zs) (marked_all xs)

module _ (H : Sheet) where
  -- how many equations H's table has, and the parameters of each
  abbrev pub table_size : ℕ
  table_size = length (table_of H).equations

  abbrev pub table_params : ℕ → List ℕ
  table_params e = (equation (table_of H) e).params

  -- the equation of a process has the process's parameters
  pub process_equation : (k : ℕ) → k < length H.procs → (k < table_size) × (table_params k ≡ params H k)
  process_equation k w = let n = equation_count H in (omega arith, params_written H k w)

  -- "The new equation has as many parameters as are marked, in that order."
  pub part_equation : (e : ℕ) (x : NewPart) → kind H e ≡ part x → (e < table_size) × (table_params e ≡ marked (marks (length x.scope) x.term) x.scope)
  unfolding equation_of
  part_equation e x h =
      let n = equation_count H in
      let w = part_below H e x h in
      (omega arith, ap (λ (q : Equation). q.params) (equation_part H e x h))

  pub record SortedEquation (x : Equation) : Type 0 where
    pub sorts : AreSorts H.sig.sorts x.params
    pub summands : Every (SortedSummand H.sig table_size table_params x.params) x.summands

  module _ (ok : Standing H) where
    inhabited : (Γ : List ℕ) → AreSorts H.sig.sorts Γ → Inhabited H.sig Γ
    unfolding RightSig
    inhabited Γ h = sorts_inhabited H.sig ok.signature.0 Γ h

    sorted_by_kind : (K : Kind) (e : ℕ) → kind H e ≡ K → SortedEquation (equation_of H K e)
    unfolding equation_of Every
    sorted_by_kind absent e w = record { sorts = tt; summands = tt }
    sorted_by_kind written e w =
        let k = written_kind H e w in
        let s = right_sorted_in H ok e k in
        let Γ = params H e in
        record {
          sorts = s.sorts;
          summands =
              heads_sorted H table_size table_params process_equation part_equation (right_sorted_in H ok) (fuel H) (right H e) Γ (as_params (replicate (length Γ) true) 0) Γ _
              (rw (marked_all Γ) at (fitting_params H.sig [] (replicate (length Γ) true) Γ (sym (length-replicate (length Γ) true)) (inhabited Γ s.sorts)))
              s (seg_right_side H e k);
        }
    sorted_by_kind (part x) e w =
        let (s, g) = part_of H (SortedIn H) (sorted_in_parts H) (right_sorted_in H ok) e x w in
        let Γ = x.scope in
        let bs = marks (length Γ) x.term in
        let l : length Γ ≡ length bs = sym (marks_length (length Γ) x.term) in
        record {
          sorts = marked_every _ bs Γ s.sorts;
          summands =
              rw (marked_length bs Γ l) at
              (heads_sorted H table_size table_params process_equation part_equation (right_sorted_in H ok) (fuel H) x.term (marked bs Γ) (as_params bs 0) Γ (suc e)
              (fitting_params H.sig [] bs Γ l (inhabited Γ s.sorts)) s g);
        }

    -- EVERY EQUATION OF THE TABLE IS RIGHTLY SORTED.
    pub equation_sorted : (e : ℕ) → e < table_size → SortedEquation (equation (table_of H) e)
    equation_sorted e w = let n = equation_count H in subst SortedEquation (sym (equation_at H e (omega arith))) (sorted_by_kind (kind H e) e refl)
