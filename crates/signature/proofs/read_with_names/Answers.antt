-- The sorts laid one after another, and the tests of what was laid: each answer is one law.
use mathlib.Core.Path.{◌∙◌, ◌≡◌, subst, sym}
use Prim.Native.Nat.{◌≤◌}
use native.Mathlib.Omega.{arith}
use lib.ListN.{get_or, length, take}
use lib.Seq.{length-take-le}
use Rattle.std.specs.Prelude.{Some}
use Rattle.pcrl.specs.Limits.{max_sorts}
use Rattle.laws.specs.Says.{said_yes, said_no}
use Rattle.signature.proofs.Sorts.{named_laid, named_missing, not_Bool, not_distinct, sorts_right}
use Rattle.signature.specs.Reading.{BoolAt}
use Rattle.signature.proofs.read_with_names.Goals as goal

pub returns-in_err-at : goal.returns-in_err-at
returns-in_err-at c =
    let s = c.args.s.now in
    rw c.from_residual.ensures (λ mark. named_missing s (take (get_or s 1 0) c.read_named.new.sorts) mark c.in_err-at.ensures.0, tt)

pub returns-then-not-bool_at : goal.returns-then-not-bool_at
returns-then-not-bool_at c =
    let s = c.args.s.now in
    let sorts = c.read_named.new.sorts in
    let few = c.in_ok-at.ensures.1 in
    let kept : length sorts ≡ length c.args.sorts.now = c.read_named.auto.sorts in
    let room : max_sorts ≤ length c.args.sorts.now = c.requires.1.0 in
    (λ mark. not_Bool s mark sorts (get_or s 1 0) c.in_ok-at.at few.0 (omega arith) c.in_ok-at.ensures.0 (λ h. said_no c.bool_at.result c.bool_at.ensures c.if-not-bool_at.true (subst (BoolAt s) (sym c.cell.ensures.0) h)), tt)

pub slice_bounds-distinct-end : goal.slice_bounds-distinct-end
slice_bounds-distinct-end c =
    let few = c.in_ok-at.ensures.1 in
    let kept : length c.read_named.new.sorts ≡ length c.args.sorts.now = c.read_named.auto.sorts in
    let room : max_sorts ≤ length c.args.sorts.now = c.requires.1.0 in
    let n : c.wide-count.result ≡ get_or c.args.s.now 1 0 = c.wide-count.ensures.0 ∙ c.peek.ensures in
    let fits : c.wide-count.result ≤ length c.read_named.new.sorts = omega arith in
    fits

pub returns-then-not-distinct : goal.returns-then-not-distinct
returns-then-not-distinct c =
    let s = c.args.s.now in
    let sorts = c.read_named.new.sorts in
    let few = c.in_ok-at.ensures.1 in
    let kept : length sorts ≡ length c.args.sorts.now = c.read_named.auto.sorts in
    let room : max_sorts ≤ length c.args.sorts.now = c.requires.1.0 in
    let n : c.wide-count.result ≡ get_or s 1 0 = c.wide-count.ensures.0 ∙ c.peek.ensures in
    (λ mark. not_distinct s mark sorts c.wide-count.result c.in_ok-at.at (omega arith) (omega arith) (named_laid s sorts c.wide-count.result (Some c.in_ok-at.at) n c.in_ok-at.ensures.0) (sym c.distinct.ensures ∙ c.if-not-distinct.true), tt)

pub slice_bounds-copy_sizes-end : goal.slice_bounds-copy_sizes-end
slice_bounds-copy_sizes-end c =
    let few = c.in_ok-at.ensures.1 in
    let kept : length c.read_named.new.sorts ≡ length c.args.sorts.now = c.read_named.auto.sorts in
    let room : max_sorts ≤ length c.args.sorts.now = c.requires.1.0 in
    let n : c.wide-count.result ≡ get_or c.args.s.now 1 0 = c.wide-count.ensures.0 ∙ c.peek.ensures in
    let fits : c.wide-count.result ≤ length c.read_named.new.sorts = omega arith in
    fits

pub copy_sizes-requires : goal.copy_sizes-requires
copy_sizes-requires c =
    let sorts = c.read_named.new.sorts in
    let few = c.in_ok-at.ensures.1 in
    let kept : length sorts ≡ length c.args.sorts.now = c.read_named.auto.sorts in
    let room : max_sorts ≤ length c.args.sorts.now = c.requires.1.0 in
    let n : c.wide-count.result ≡ get_or c.args.s.now 1 0 = c.wide-count.ensures.0 ∙ c.peek.ensures in
    let l = length-take-le c.wide-count.result sorts (omega arith) in
    let space : max_sorts ≤ length c.args.sizes.now = c.requires.0 in
    omega arith

pub returns : goal.returns
returns c =
    let s = c.args.s.now in
    let sorts = c.read_named.new.sorts in
    let few = c.in_ok-at.ensures.1 in
    let kept : length sorts ≡ length c.args.sorts.now = c.read_named.auto.sorts in
    let room : max_sorts ≤ length c.args.sorts.now = c.requires.1.0 in
    let n : c.wide-count.result ≡ get_or s 1 0 = c.wide-count.ensures.0 ∙ c.peek.ensures in (
      λ mark. sorts_right s mark sorts c.wide-count.result c.in_ok-at.at (omega arith) (omega arith) (named_laid s sorts c.wide-count.result (Some c.in_ok-at.at) n c.in_ok-at.ensures.0) c.copy_sizes.new.sizes (subst (BoolAt s) c.cell.ensures.0 (said_yes c.bool_at.result c.bool_at.ensures c.if-not-bool_at.false)) (sym c.distinct.ensures ∙ c.if-not-distinct.false) c.copy_sizes.ensures,
      omega arith,
    )
