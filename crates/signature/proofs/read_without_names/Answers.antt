-- The sizes read, and copied.
use mathlib.Core.Path.{◌≡◌, ◌∙◌, ap, sym}
use Prim.Native.Nat.{◌≤◌}
use native.Mathlib.Omega.{arith}
use lib.ListN.{drop, length, take}
use lib.Seq.{length-take-le, take_at}
use Rattle.pcrl.specs.Limits.{max_sorts}
use Rattle.signature.proofs.Sorts.{few_sizes, sizes_missing, sizes_right}
use Rattle.signature.proofs.read_without_names.Goals as goal

pub returns-in_err-at : goal.returns-in_err-at
returns-in_err-at c = rw c.from_residual.ensures (λ mark places. sizes_missing c.args.s.now mark c.in_err-at.ensures, tt)

pub slice_bounds-copy_from_slice-end : goal.slice_bounds-copy_from_slice-end
slice_bounds-copy_from_slice-end c =
    let few = few_sizes c.args.s.now _ c.in_ok-at.ensures in
    let l = ap length c.list_at-list.ensures in
    let room : max_sorts ≤ length c.args.sizes.now = c.requires in
    omega arith

pub slice_bounds-copy_from_slice-end-2 : goal.slice_bounds-copy_from_slice-end-2
slice_bounds-copy_from_slice-end-2 c =
    let few = few_sizes c.args.s.now _ c.in_ok-at.ensures in
    let l = ap length c.list_at-list.ensures in
    let room : max_sorts ≤ length c.args.sizes.now = c.requires in
    sym (length-take-le (length c.list_at-list.result.now) c.args.sizes.now (omega arith))

pub copy_from_slice-requires : goal.copy_from_slice-requires
copy_from_slice-requires c =
    let few = few_sizes c.args.s.now _ c.in_ok-at.ensures in
    let l = ap length c.list_at-list.ensures in
    let room : max_sorts ≤ length c.args.sizes.now = c.requires in
    length-take-le (length c.list_at-list.result.now) c.args.sizes.now (omega arith)

pub returns : goal.returns
returns c =
    let s = c.args.s.now in
    let list = c.list_at-list in
    let few = few_sizes s _ c.in_ok-at.ensures in
    let l = ap length list.ensures in
    let copied : c.copy_from_slice.new.self ≡ list.result.now = c.copy_from_slice.ensures.after in
    let front = take_at c.copy_from_slice.new.self (drop (length list.result.now) c.args.sizes.now) (length list.result.now) (ap length copied) ∙ copied in
    (λ mark places. sizes_right s mark c.in_ok-at.at list.result.now _ (take (length list.result.now) places) c.in_ok-at.ensures list.ensures front, omega arith)
