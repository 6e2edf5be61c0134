-- Its row, its place, and every variable a parameter.
use mathlib.Core.Path.{refl, ◌∙◌}
use native.Mathlib.Omega.{arith}
use Rattle.listing.proofs.written_source.Goals as goal

pub returns : goal.returns
returns c =
    let a = c.args in
    let m = c.in_scope-m in
    let b = c.cell in
    let few = m.ensures.0 in
    let last = c.cell-3 in record {
      bounded = record { scope_few = few; next_few = few; first_few = last.ensures.1 };
      written_source = record {
        at_is = c.cell-2.ensures.0;
        scope_is = λ h. m.ensures.1 (omega (arith, b.ensures.0)) ∙ b.ensures.0;
        marks_are = refl;
        next_is = refl;
        first_is = last.ensures.0;
      };
    }
