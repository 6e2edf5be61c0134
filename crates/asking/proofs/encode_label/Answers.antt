-- Tau, and a step with a name.
use mathlib.Core.Path.{◌≡◌, sym, subst, ◌∙◌}
use native.Mathlib.Omega.{arith}
use mathlib.Core.List.{[], List, map}
use Prim.Native.Nat.{ℕ}
use lib.ListN.{get_or}
use Rattle.pcrl.specs.Sheet.{no_action, sort_name}
use Rattle.pcrl.specs.Right.{AreSorts}
use Rattle.laws.specs.Places.{two_elements}
use Rattle.asking.proofs.EncodingLaws.{encode_tau, encode_named, encode_action, takes_sorts, encode_sort}
use Rattle.asking.proofs.encode_label.Goals as goal

pub returns-then-step : goal.returns-then-step
returns-then-step c = λ T right x there deep. c.encode_step.ensures (omega arith) (omega arith) (omega arith) ∙ encode_tau T.sig c.args.step deep (omega (arith, c.if-step))

pub returns : goal.returns
returns c = λ T right x there deep.
    let r = c.args.step in
    let Ds = (get_or T.sig.acts r.action no_action).takes in
    let are : AreSorts T.sig.sorts Ds = takes_sorts T right r.action in
    let those : c.sorts_of-sorts.result.now ≡ Ds = c.sorts_of-sorts.ensures T.sig x in
    let sorted : AreSorts T.sig.sorts c.sorts_of-sorts.result.now = subst (AreSorts T.sig.sorts) (sym those) are in
    let first : c.sort_name.result.now ≡ get_or (map (sort_name T.sig) Ds) 0 [] = subst (λ (l : List ℕ). c.sort_name.result.now ≡ get_or (map (sort_name T.sig) l) 0 []) those (c.sort_name.ensures T.sig there sorted) in
    let second : c.sort_name-2.result.now ≡ get_or (map (sort_name T.sig) Ds) 1 [] = subst (λ (l : List ℕ). c.sort_name-2.result.now ≡ get_or (map (sort_name T.sig) l) 1 []) those (c.sort_name-2.ensures T.sig there sorted) in
    let is = c.name.ensures T.sig x in
    c.encode_step-2.ensures (encode_action T right r.action c.name.result.now is) (encode_sort T right Ds are 0 c.sort_name.result.now first) (encode_sort T right Ds are 1 c.sort_name-2.result.now second)
    ∙ encode_named T.sig r deep (λ e. omega (arith, c.if-step)) c.name.result.now c.sort_name.result.now c.sort_name-2.result.now is first second c.min.result c.value-v.result c.value-w.result (get_or r.values 0 0) (get_or r.values 1 0)
    (two_elements r.values (omega arith)) c.min.ensures c.value-v.ensures c.value-w.ensures
