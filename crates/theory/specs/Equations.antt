-- The equations of a sheet's table by their numbers, and the values that a frame of one holds.
use Rattle.std.specs.Prelude.{◌≡◌, List, ℕ, ◌+◌, ◌<◌}
use Rattle.std.proofs.Math.Path.{ap}
use Rattle.std.proofs.Common.{sym, ◌∙◌, arith}
use Rattle.std.proofs.Math.ListN.{length}
use Rattle.std.proofs.Math.Seq.{take-append_seam}
use Rattle.pcrl.specs.Sheet.{Sheet, params}
use Rattle.pcrl.specs.Parts.{marks, count, all_new_parts, NewPart, Kind, written, part, kind}
use Rattle.pcrl.specs.Table.{Equation, Table, equation}
use Rattle.pcrl.specs.Heads.{equation_of, table_of}
use Rattle.pcrl.specs.Stack.{used, padded}
use Rattle.laws.specs.Lists.{length_tabulate, get_d_tabulate}
use Rattle.theory.specs.Marks.{marks_length, marked_length}
use Rattle.theory.specs.Segments.{kind_written, part_below}
use Rattle.theory.specs.Like.{frame_with}

-- the values of a frame that are not spare
pub used_padded : (width : ℕ) (T : Table) (e : ℕ) (vs : List ℕ) → length (equation T e).params ≡ length vs → used T (frame_with width e vs) ≡ vs
unfolding used padded
used_padded width T e vs h = rw h (take-append_seam vs _)

module _ (H : Sheet) where
  pub equation_count : length (table_of H).equations ≡ length H.procs + length (all_new_parts H.procs)
  unfolding table_of
  equation_count = length_tabulate _ _

  pub equation_at : (e : ℕ) → e < length H.procs + length (all_new_parts H.procs) → equation (table_of H) e ≡ equation_of H (kind H e) e
  unfolding equation table_of
  equation_at e h = get_d_tabulate _ _ e _ h

  pub equation_written : (k : ℕ) → k < length H.procs → equation (table_of H) k ≡ equation_of H written k
  equation_written k h = equation_at k (omega arith) ∙ ap (λ (K : Kind). equation_of H K k) (kind_written H k h)

  pub equation_part : (e : ℕ) (x : NewPart) → kind H e ≡ part x → equation (table_of H) e ≡ equation_of H (part x) e
  equation_part e x h = equation_at e (part_below H e x h) ∙ ap (λ (K : Kind). equation_of H K e) h

  pub params_written : (k : ℕ) → k < length H.procs → (equation (table_of H) k).params ≡ params H k
  unfolding equation_of
  params_written k h = ap (λ (q : Equation). q.params) (equation_written k h)

  pub params_part : (e : ℕ) (x : NewPart) → kind H e ≡ part x → length (equation (table_of H) e).params ≡ count (marks (length x.scope) x.term)
  unfolding equation_of
  params_part e x h =
      ap (λ (q : Equation). length q.params) (equation_part e x h)
      ∙ marked_length (marks (length x.scope) x.term) x.scope (sym (marks_length (length x.scope) x.term))
