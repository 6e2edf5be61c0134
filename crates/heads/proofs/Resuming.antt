-- After a leaf: all is written, or the last of the second sides that wait is walked.
use mathlib.Core.Path.{◌≡◌, sym, ap, ◌∙◌}
use mathlib.Core.List.{List, ◌++◌, append_assoc}
use Rattle.std.specs.Prelude.{Result, Ok, Err}
use Rattle.refusals.specs.declared.Refusal.{Refusal}
use Rattle.heads.specs.declared.walk.Next.TheVariants.{Into}
use Prim.Native.Nat.{ℕ, ◌+◌, ◌-◌, ◌<◌, ◌≤◌}
use native.Mathlib.Omega.{arith}
use lib.ListN.{length, take, length-append}
use Rattle.pcrl.specs.Reader.{all}
use Rattle.pcrl.specs.Sheet.{Sheet}
use Rattle.pcrl.specs.Table.{Summand}
use Rattle.pcrl.specs.Stream.{encode_summand}
use Rattle.laws.specs.Every.{every_append}
use Rattle.nodes.specs.declared.Node.{Node}
use Rattle.nodes.specs.Views.{On, Views}
use Rattle.putting.proofs.Bytes.{adds_then}
use Rattle.following.proofs.Parts.{all_append}
use Rattle.contexts.specs.declared.Spot.{Spot}
use Rattle.contexts.specs.Spots.{Ready, SummandFits, Arrays, Spotted, Kept}
use Rattle.contexts.specs.Steps.{SummandsOut}
use Rattle.contexts.proofs.Spotting.{kept_then, kept_up, side_kept}
use Rattle.heads.specs.declared.waiting.Later.{Later}
use Rattle.heads.specs.Stack.{entry, unpacked, Waits, Queue}
use Rattle.heads.specs.Progress.{Start, start, Roomy, Moved, Onward, WrittenBy, Toward, AfterLeaf}
use Rattle.heads.proofs.Stacking.{queue_base, queue_kept, queue_none, queue_pop}
use Rattle.heads.proofs.Walking.{moved_roomy, leaf_fails, leaf_last}

-- A leaf's heads are not written, so the walk's are not; n is the length of the stack.
pub resume_fails : (cells starts counts firsts : List ℕ) (S : Start) (s : Spot) (heads left q v : ℕ) (A B : Arrays) (l o₀ o : List ℕ) (n : ℕ) → length l ≡ n → Onward cells starts counts firsts S s heads left q v A l o₀
    → (x : Refusal) → WrittenBy cells starts counts firsts (start s A v o₀ heads q n) (Err x) B o → WrittenBy cells starts counts firsts S (Err x) B o
resume_fails cells starts counts firsts S s heads left q v A B l o₀ o n e on x wr H F hs rd sp ro =
    let m = on H F hs rd sp ro in
    let y = moved_roomy cells starts counts firsts H F S s heads left q v A l o₀ hs m ro in
    (leaf_fails cells starts counts firsts H F S s heads left q v A l o₀ hs m x o (wr H F m.here rd m.spotted (record { many = y.many; some = y.some; few = y.few; room_for = omega (arith, y.room_for) })).0, tt)

module _ (cells starts counts firsts : List ℕ) (S : Start) (s : Spot) (heads left q v : ℕ) (B : Arrays) (l o : List ℕ) (a : AfterLeaf cells starts counts firsts S s heads left q v B l o) where
  module _ (H : Sheet) (F : ℕ) (hs : List Summand) (rd : Ready H F cells starts counts firsts) (sp : Spotted H F cells S.s S.A hs) (ro : Roomy S hs) where
    abbrev moved : Moved cells starts counts firsts H F S s heads left q a.v a.before l a.o hs
    moved = a.onward H F hs rd sp ro

    leaf : SummandsOut moved.here a.v a.o (Ok v) o × Kept s a.before B
    leaf = a.written H F moved.here rd moved.spotted (moved_roomy cells starts counts firsts H F S s heads left q a.v a.before l a.o hs moved ro)

    kept_so_far : Kept S.s S.A B
    kept_so_far =
        kept_then S.s S.A a.before B moved.kept (kept_up S.s s a.before B (queue_base H F cells S.s l S.s.fuel S.q moved.n s a.before moved.waiting moved.queue) leaf.1)

    -- the last one that waits
    popped : S.q < q → (y : Later) → y ≡ entry l (q - 1) s.fuel
        → (bs : List Summand) × (rest : List Summand) × (moved.waiting ≡ bs ++ rest) × Waits H F cells s a.before y bs × Queue H F cells S.s l S.s.fuel S.q (q - 1 - S.q) y.s a.before rest
    popped some y ey =
        let k = q - 1 - S.q in
        let z : q - 1 ≡ S.q + k = omega arith in
        queue_pop H F cells S.s l S.s.fuel S.q moved.n k s a.before moved.waiting y (omega (arith, moved.deep)) (sym (ey ∙ ap (λ (i : ℕ). entry l i s.fuel) z ∙ ap (entry l (S.q + k)) moved.fuel_is)) moved.queue

  pub resume_done : left ≤ heads → WrittenBy cells starts counts firsts S (Ok v) B o
  resume_done last H F hs rd sp ro = (
    leaf_last cells starts counts firsts H F S s heads left q a.v a.before l a.o hs (moved H F hs rd sp ro) v o (leaf H F hs rd sp ro).0 last,
    kept_so_far H F hs rd sp ro,
  )

  -- what cannot be
  pub resume_none : heads < left → q ≤ S.q → (z : Result ℕ Refusal) → WrittenBy cells starts counts firsts S z B o
  resume_none more low z H F hs rd sp ro =
      let m = moved H F hs rd sp ro in
      let e = queue_none H F cells S.s l S.s.fuel S.q m.n s a.before m.waiting (omega (arith, m.deep)) m.queue in
      absurd (omega (arith, ap length e, m.both))

  pub resume_empty : heads ≡ 0 → (z : Result ℕ Refusal) → WrittenBy cells starts counts firsts S z B o
  resume_empty none z H F hs rd sp ro = let m = moved H F hs rd sp ro in absurd (omega (arith, m.some))

  pub resume_out : S.q < q → (y : Later) → y ≡ entry l (q - 1) s.fuel → length cells ≤ y.s.at → (z : Result ℕ Refusal) → WrittenBy cells starts counts firsts S z B o
  resume_out some y ey out z H F hs rd sp ro = let k = popped H F hs rd sp ro some y ey in absurd (omega (arith, k.3.inside))

  -- into the second side
  pub resume_goes : heads < left → S.q < q → (y : Later) → y ≡ entry l (q - 1) s.fuel → (d : Node) → On y.s.at d → Views cells y.s.at d
      → Toward cells starts counts firsts S (Ok (Into (record { t = y.s; d = d; e = y.e; heads = y.heads; left = left - heads; q = q - 1; w = v }))) B l o
  unfolding entry unpacked
  resume_goes more some y ey d on vw H F hs rd sp ro =
      let m = moved H F hs rd sp ro in
      let lf = leaf H F hs rd sp ro in
      let (bs, rest, e, w, z) = popped H F hs rd sp ro some y ey in
      let n = q - 1 - S.q in
      let kp : Kept y.s a.before B = kept_up y.s s a.before B w.around_it lf.1 in
      record {
        done = m.done ++ m.here;
        here = bs;
        waiting = rest;
        n = n;
        split = m.split ∙ ap (λ (u : List Summand). m.done ++ (m.here ++ u)) e ∙ sym (append_assoc m.done m.here (bs ++ rest));
        within = every_append SummandFits m.done m.here m.within lf.0.0;
        bytes = adds_then (all encode_summand m.done) (all encode_summand m.here) S.w a.v v S.o a.o o m.bytes lf.0.1 ∙ ap (λ (u : List ℕ). take S.w S.o ++ u) (sym (all_append encode_summand m.done m.here));
        side = side_kept H F cells y.s a.before B d y.e bs kp (w.side d on vw);
        many = w.many;
        some = w.some;
        both = omega (arith, ap length e, length-append bs rest, w.many, m.both);
        deep = omega arith;
        queue = queue_kept H F cells S.s l S.s.fuel S.q n y.s a.before B rest kp z;
        kept = kept_so_far H F hs rd sp ro;
        fuel_is = ap (λ (u : Later). u.s.fuel) ey ∙ m.fuel_is;
        start_in = m.start_in;
        inside = a.inside;
        same = a.same ∙ m.same;
        long = m.long;
      }
