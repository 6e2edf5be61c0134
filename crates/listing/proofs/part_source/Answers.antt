-- Its row.
use mathlib.Core.Path.{refl, ◌∙◌}
use native.Mathlib.Omega.{arith}
use Rattle.listing.proofs.part_source.Goals as goal

pub returns : goal.returns
returns c =
    let a = c.args in
    let pre = c.requires in
    let m = c.in_scope in
    let m2 = c.in_scope-2 in
    let many = c.many in
    let n = c.peek-n in record {
      bounded = record { scope_few = m.ensures.0; next_few = m2.ensures.0; first_few = omega arith };
      part_source = record {
        at_is = c.peek-at.ensures;
        scope_is = λ h. m.ensures.1 (omega (arith, n.ensures)) ∙ n.ensures;
        marks_are = c.peek-marks.ensures;
        next_is = λ h. m2.ensures.1 (omega (arith, many.ensures)) ∙ many.ensures;
        first_is = refl;
      };
    }
