-- Five pieces; the action's parts stand in the stream.
use native.Mathlib.Omega.{arith}
use mathlib.Core.Path.{◌≡◌, sym, ap, ◌∙◌}
use Prim.Native.Nat.{ℕ, ◌+◌}
use lib.ListN.{length, get_or}
use Rattle.texts.proofs.Writing.{wrote_fits, wrote_as}
use Rattle.pcrl.specs.Right.{RightAction}
use Rattle.terms.specs.Stands.{list_at}
use Rattle.terms.proofs.Places.{name_stands, sorts_stand, list_is, count_at}
use Rattle.declarations.proofs.Chains.{five}
use Rattle.declarations.proofs.Declared.{act_line}
use Rattle.declarations.proofs.put_act.Goals as goal

pub returns : goal.returns
unfolding RightAction
returns c =
    let a = c.args in
    let pre = c.requires in
    let all = five _ _ _ _ _ _ _ _ _ _ _ _ _ _ _ _ _ (omega (arith, pre)) c.put_bytes-a.ensures c.put_bytes-b.ensures c.put_colon-c.ensures c.put_takes-d.ensures c.put_byte.ensures in
    let fits = wrote_fits _ _ _ _ _ all in record {
      upper_bound = (omega (arith, fits, all.same), all.same);
      wrote = λ S x r k h.
          let s = a.s.now in
          let p = a.from in
          let name-there = name_stands s p x h in
          let name : c.list_at-name.result.now ≡ x.name = c.list_at-name.ensures ∙ list_is s p x.name name-there in
          let long : p + 1 + length c.list_at-name.result.now ≡ p + 1 + get_or s p 0 = ap (λ (n : ℕ). p + 1 + n) (ap length name ∙ sym (count_at s p x.name name-there)) in
          let takes = c.list_at-takes.ensures ∙ ap (list_at s) long ∙ list_is s (p + 1 + get_or s p 0) x.takes (sorts_stand s p x h) in
          wrote_as _ _ _ _ _ _ (act_line S a.l.now k x _ _ r.1.1 name takes) all;
    }
