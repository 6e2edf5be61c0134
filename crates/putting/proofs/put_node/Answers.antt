-- A value or a function is one byte, `==` two, a variable the bytes of its slot.
use native.Mathlib.Omega.{arith}
use Prim.Native.Nat.{ℕ, ◌+◌, ◌*◌}
use mathlib.Core.Path.{refl, sym, ap, ◌∙◌, subst}
use mathlib.Core.List.{List}
use lib.ListN.{take, drop, set, length-set}
use lib.Seq.{take-set-le}
use Rattle.putting.specs.Slots.{slot_width}
use Rattle.putting.specs.Puts.{NodePut}
use Rattle.putting.proofs.Bytes.{paste_kept}
use Rattle.putting.proofs.PutLaws.{node_none, node_value, node_function, node_equal, node_slot, node_byte, node_past}
use Rattle.putting.proofs.put_node.Goals as goal

pub returns-then-l-eq0 : goal.returns-then-l-eq0
returns-then-l-eq0 c = let a = c.args in record {
  out_unchanged = refl;
  node_put = node_none a.slots.now a.n a.tag a.number a.l a.v a.out.now (omega arith);
}

pub returns-then-tag-eq-VALUE : goal.returns-then-tag-eq-VALUE
returns-then-tag-eq-VALUE c = let a = c.args in record {
  out_unchanged = take-set-le a.v a.out.now a.v _ (omega arith);
  node_put = node_value a.slots.now a.n a.tag a.number a.l a.v a.out.now (omega arith) (omega arith);
}

pub bounds-out-v-then-l-gt1-2 : goal.bounds-out-v-then-l-gt1-2
bounds-out-v-then-l-gt1-2 c = let a = c.args in omega (arith, length-set a.out.now a.v 0x61)

pub returns-then-l-gt1 : goal.returns-then-l-gt1
returns-then-l-gt1 c = let a = c.args in record {
  out_unchanged = take-set-le a.v (set a.out.now a.v 0x61) (a.v + 1) _ (omega arith) ∙ take-set-le a.v a.out.now a.v 0x61 (omega arith);
  node_put = node_equal a.slots.now a.n a.tag a.number a.l a.v a.out.now (omega arith) (omega arith) (omega arith);
}

pub returns-then-tag-eq-FUNCTION : goal.returns-then-tag-eq-FUNCTION
returns-then-tag-eq-FUNCTION c = let a = c.args in record {
  out_unchanged = take-set-le a.v a.out.now a.v _ (omega arith);
  node_put = node_function a.slots.now a.n a.tag a.number a.l a.v a.out.now (omega arith) (omega arith) (omega arith);
}

pub returns-then-from-l : goal.returns-then-from-l
returns-then-from-l c = let a = c.args in record {
  out_unchanged = refl;
  node_put = node_past a.slots.now a.n a.tag a.number a.l a.v a.out.now (λ z. omega arith) (λ z. omega arith) (omega arith) (omega arith) _;
}

pub returns-then-l-eq1 : goal.returns-then-l-eq1
returns-then-l-eq1 c = let a = c.args in record {
  out_unchanged = take-set-le a.v a.out.now a.v _ (omega arith);
  node_put = node_byte a.slots.now a.n a.tag a.number a.l a.v a.out.now (λ z. omega arith) (λ z. omega arith) (omega arith) (omega arith) (omega arith);
}

pub returns : goal.returns
returns c = let a = c.args in
    let e = c.copy.ensures in record {
      out_unchanged = ap (take a.v) e ∙ paste_kept a.v a.v a.out.now (drop (slot_width * a.number + 2) a.slots.now) a.l (omega arith) (omega arith);
      node_put = subst (λ (x : List ℕ). NodePut a.slots.now a.n a.tag a.number a.l a.v a.out.now x) (sym e)
          (node_slot a.slots.now a.n a.tag a.number a.l a.v a.out.now (λ z. omega arith) (λ z. omega arith) (omega arith) (omega arith));
    }
