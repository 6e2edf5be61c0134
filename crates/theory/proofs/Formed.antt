-- The right sides of a sheet in good standing are formed, and so are the terms of its new equations.
use Rattle.std.specs.Prelude.{◌≡◌, ℕ, suc, ◌<◌, length}
use Rattle.std.proofs.Math.Bool.{false}
use Rattle.std.proofs.Math.ListN.{get_elem?}
use Rattle.pcrl.specs.Sheet.{Sheet, params, right}
use Rattle.pcrl.specs.Sorts.{Scope, binding, Sorted}
use Rattle.pcrl.specs.Parts.{new_parts, NewPart, part, kind}
use Rattle.laws.specs.Lists.{length_snoc}
use Rattle.theory.specs.Standing.{Numbered, Standing}
use Rattle.theory.specs.AtHead.{AtHead, sorted_heads}
use Rattle.theory.specs.StandingLaws.{process_numbered, process_sorted}
use Rattle.theory.specs.Segments.{Seg, part_of}
use Rattle.theory.specs.Formed.{Formed, sorted_formed}

module _ (H : Sheet) where
  pub right_formed : Standing H → (k : ℕ) → k < length H.procs → Formed H (params H k) (right H k)
  right_formed ok k w = sorted_formed H (params H k) (get_elem? (params H k)) (right H k) (process_numbered H ok k w) (process_sorted H ok k w)

  pub part_formed : Standing H → (e : ℕ) (x : NewPart) → kind H e ≡ part x
      → Formed H x.scope x.term × AtHead (λ k. k < length H.procs) x.term × Seg H (suc e) (new_parts false x.scope x.term)
  unfolding Numbered Sorted
  part_formed ok e x h =
      let (g, seg) = part_of H (λ Γ p. Numbered (length Γ) p × ((S : Scope) × Sorted H S p))
      (record {
        of_alt = λ Γ p q f. ((f.0.0, (f.1.0, f.1.1.0)), (f.0.1, (f.1.0, f.1.1.1)));
        of_cond = λ Γ c p q f. ((f.0.0, (f.1.0, f.1.1.1.0)), (f.0.1, (f.1.0, f.1.1.1.1)));
        of_sum = λ Γ y D p f. (rw (length_snoc Γ D) f.0.1, (binding y D f.1.0, f.1.1.1));
        of_seq = λ Γ p q f. ((f.0.0, (f.1.0, f.1.1.0)), (f.0.1, (f.1.0, f.1.1.1)));
      })
      (λ k w. (process_numbered H ok k w, (get_elem? (params H k), process_sorted H ok k w))) e x h in
      (sorted_formed H x.scope g.1.0 x.term g.0 g.1.1, sorted_heads H g.1.0 x.term g.1.1, seg)
