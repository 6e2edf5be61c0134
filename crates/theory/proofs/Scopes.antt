-- The parts of a rightly sorted, numbered term are so too.
use Rattle.pcrl.specs.Sheet.{Sheet}
use Rattle.pcrl.specs.Sorts.{Sorted}
use Rattle.theory.specs.Standing.{Numbered}
use Rattle.theory.specs.Segments.{Hereditary}
use Rattle.theory.specs.Scopes.{sorted_in_sum, SortedIn}

module _ (H : Sheet) where
  pub sorted_in_parts : Hereditary (SortedIn H)
  unfolding Numbered Sorted
  sorted_in_parts = record {
    of_alt = λ Γ p q h. (
      record { sorts = h.sorts; numbered = h.numbered.0; sorted = h.sorted.0 },
      record { sorts = h.sorts; numbered = h.numbered.1; sorted = h.sorted.1 },
    );
    of_cond = λ Γ c p q h. (
      record { sorts = h.sorts; numbered = h.numbered.0; sorted = h.sorted.1.0 },
      record { sorts = h.sorts; numbered = h.numbered.1; sorted = h.sorted.1.1 },
    );
    of_sum = sorted_in_sum H;
    of_seq = λ Γ p q h. (
      record { sorts = h.sorts; numbered = h.numbered.0; sorted = h.sorted.0 },
      record { sorts = h.sorts; numbered = h.numbered.1; sorted = h.sorted.1 },
    );
  }
