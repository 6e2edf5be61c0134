-- A condition that is not asked, or not of the row, leaves all lanes; the others are evaluated.
use native.Mathlib.Omega.{arith}
use mathlib.Core.Path.{◌∙◌, ap}
use mathlib.Core.Bool.{Bool}
use lib.ListN.{get_or}
use Rattle.evaluation.specs.Run.{pick}
use Rattle.std.proofs.lemmas.Option.{IfSome_then}
use Rattle.assignments.proofs.InRows.{sift_none, sift_all, not_asked, not_inner, is_inner}
use Rattle.assignments.proofs.strips.row_tried.Goals as goal

pub returns-then-not-some : goal.returns-then-not-some
returns-then-not-some c = λ x y h k w z. (w, (z, λ o. sift_none _ _ _ _ (o c.if-not-some.true)))

pub returns-then-block-eq0 : goal.returns-then-block-eq0
returns-then-block-eq0 c = λ x y h k w z. (w, (z, λ o. sift_all _ _ _ _ (λ i. not_asked _ c.args.block c.args.w c.if-block-eq0.true) o))

pub returns-then-w-block : goal.returns-then-w-block
returns-then-w-block c = λ x y h k w z. (w, (z, λ o. sift_all _ _ _ _ (λ i. not_inner _ c.args.block c.args.w (omega arith)) o))

pub returns : goal.returns
returns c = λ x y h k w z. let a = c.args in let r = c.row_holds.ensures x y h k w z in (
  r.0,
  (
    r.1.0,
    IfSome_then c.row_holds.result r.1.1 (λ left t o.
        record {
          sifted = λ i m. t.kept_lanes i m ∙ ap (λ (b : Bool). pick b (get_or a.met.now i 0) 0) (is_inner _ a.block a.w (omega arith) (omega arith));
          none = t.none_left;
        }),
  ),
)
