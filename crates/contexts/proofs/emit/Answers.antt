-- `contexts::emit` meets its contract: the four pieces, `emit-right`.
use native.Mathlib.Omega.{arith}
use Prim.Native.Nat.{ℕ, ◌-◌}
use mathlib.Core.Path.{refl, ap, ◌∙◌}
use mathlib.Core.List.{List, ◌∷◌, ◌++◌}
use Rattle.std.specs.Prelude.{Some, None}
use Rattle.refusals.specs.declared.Refusal.TheVariants.{NotWithin}
use lib.ListN.{length, take, drop, length-drop}
use lib.Seq.{take_all}
use Rattle.contexts.proofs.Pieces.{atom_wide, emit_full, emit_right, emit_long}
use Rattle.contexts.proofs.emit.Goals as goal

pub returns-then-count-gt-MAX_ARITY : goal.returns-then-count-gt-MAX_ARITY
returns-then-count-gt-MAX_ARITY c = let z = c.requires.rooms in record {
  w_le_w = tt;
  emits = λ starts counts firsts H F hs rd sp. absurd (atom_wide c.args.cells.now starts counts firsts c.args.s c.args.slots.now c.args.vars.now c.args.conds.now c.args.calls.now c.args.d c.requires.bound.2 c.requires.bound.1 (omega arith) H F hs rd sp);
}

pub put_terms-requires : goal.put_terms-requires
put_terms-requires c = let b = c.requires.bound.0 in
    let z = c.requires.rooms in omega (arith, b.n_room, b.nv_few)

pub returns-in_default : goal.returns-in_default
returns-in_default c = let z = c.requires.rooms in record {
  w_le_w = tt;
  emits = λ starts counts firsts. emit_long c.args.cells.now starts counts firsts c.args.s c.args.slots.now c.args.vars.now c.args.conds.now c.args.calls.now c.args.d c.requires.bound.2 c.requires.bound.1 c.args.terms.now c.put_terms.new.out None c.in_default.ensures.puts_all c.args.w c.args.out.now refl NotWithin c.args.out.now;
}

pub returns-then-out-w : goal.returns-then-out-w
returns-then-out-w c = let b = c.requires.bound.0 in let z = c.requires.rooms in let u = c.in-Some.ensures.w_le_w in let kt = c.put_terms.auto.out in record {
  w_le_w = tt;
  emits = λ starts counts firsts. emit_full c.args.cells.now starts counts firsts c.args.s c.args.slots.now c.args.vars.now c.args.conds.now c.args.calls.now c.args.d c.requires.bound.2 c.requires.bound.1 c.args.terms.now c.put_terms.new.out (Some c.in-Some.la) c.in-Some.ensures.puts_all c.args.w c.args.out.now c.in-Some.la refl (omega (arith, b.nv_few)) (omega (arith, b.lc_few, b.nc_few)) (omega arith) (omega arith) c.args.out.now;
}

pub overflow_cast-s : goal.overflow_cast-s
overflow_cast-s c = let b = c.requires.bound.0 in omega (arith, b.nc_few)

pub piece-w2-requires : goal.piece-w2-requires
piece-w2-requires c = let b = c.requires.bound.0 in let z = c.requires.rooms in let u = c.in-Some.ensures.w_le_w in let kt = c.put_terms.auto.out in let k1 = c.piece-w1.auto.out in let e1 = c.piece-w1.ensures.value in let y = c.if-out-w.false in (omega (arith, b.lc_few, b.nc_few), omega (arith, b.top_in))

pub piece-w3-requires : goal.piece-w3-requires
piece-w3-requires c = let b = c.requires.bound.0 in let z = c.requires.rooms in let u = c.in-Some.ensures.w_le_w in let kt = c.put_terms.auto.out in let k1 = c.piece-w1.auto.out in let e1 = c.piece-w1.ensures.value in let y = c.if-out-w.false in let k2 = c.piece-w2.auto.out in let e2 = c.piece-w2.ensures.value in (omega arith, omega (arith, b.top_in))

pub overflow_cast-s-2 : goal.overflow_cast-s-2
overflow_cast-s-2 c = let b = c.requires.bound.0 in omega (arith, b.nk_few)

pub piece-w4-requires : goal.piece-w4-requires
piece-w4-requires c = let b = c.requires.bound.0 in let z = c.requires.rooms in let u = c.in-Some.ensures.w_le_w in let kt = c.put_terms.auto.out in let k1 = c.piece-w1.auto.out in let e1 = c.piece-w1.ensures.value in let y = c.if-out-w.false in let k2 = c.piece-w2.auto.out in let e2 = c.piece-w2.ensures.value in let k3 = c.piece-w3.auto.out in let e3 = c.piece-w3.ensures.value in (omega (arith, b.top_in), omega (arith, b.top_in))

pub shape_of-terms : goal.shape_of-terms
shape_of-terms c = c.put_terms.auto.out

pub returns : goal.returns
returns c = let b = c.requires.bound.0 in let z = c.requires.rooms in let u = c.in-Some.ensures.w_le_w in let kt = c.put_terms.auto.out in let k1 = c.piece-w1.auto.out in let e1 = c.piece-w1.ensures.value in let y = c.if-out-w.false in let k2 = c.piece-w2.auto.out in let e2 = c.piece-w2.ensures.value in let k3 = c.piece-w3.auto.out in let e3 = c.piece-w3.ensures.value in
    let e4 = c.piece-w4.ensures.value in
    let p4 = c.piece-w4.ensures.adds ∙ ap (λ (x : List ℕ). take c.piece-w3.result c.piece-w3.new.out ++ (c.args.s.nk ∷ x)) (take_all (length c.args.calls.now - c.args.s.top) (drop c.args.s.top c.args.calls.now) (omega (arith, length-drop c.args.s.top c.args.calls.now))) in
    let p3 = c.piece-w3.ensures.adds ∙ ap (λ (x : ℕ). take c.piece-w2.result c.piece-w2.new.out ++ (x ∷ take c.in-Some.la c.put_terms.new.out)) c.code_of.ensures in record {
      w_le_w = (omega (arith, b.top_in), omega (arith, b.top_in));
      emits = λ starts counts firsts. emit_right c.args.cells.now starts counts firsts c.args.s c.args.slots.now c.args.vars.now c.args.conds.now c.args.calls.now c.args.d c.requires.bound.2 c.requires.bound.1 c.args.terms.now c.put_terms.new.out (Some c.in-Some.la) c.in-Some.ensures.puts_all c.args.w c.piece-w1.result c.piece-w2.result c.piece-w3.result c.piece-w4.result c.args.out.now c.piece-w1.new.out c.piece-w2.new.out c.piece-w3.new.out c.piece-w4.new.out
          c.in-Some.la refl b.nv_few b.nc_few b.nk_few c.piece-w1.ensures.adds c.piece-w2.ensures.adds p3 p4;
    }
