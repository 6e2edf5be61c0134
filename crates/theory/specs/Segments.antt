-- The new equations by their numbers: those of a term's parts stand one after another, a part's own parts right behind it.
-- So whatever holds of every right side, and of the terms inside a term of which it holds, holds of every new equation's part.
use Rattle.std.proofs.Math.Path.{◌≡◌}
use Rattle.std.specs.Prelude.{refl, Bool, length, get_or}
use Rattle.std.proofs.Common.{ap, sym, add-zero, suc-add, length-append}
use mathlib.Core.List.{List, [], ◌∷◌, ◌++◌}
use Rattle.std.proofs.Math.Bool.{true, false}
use Prim.Native.Nat.{ℕ, zero, suc, ◌+◌, ◌<◌}
use native.Mathlib.Omega.{arith}
use Rattle.pcrl.specs.Sheet.{Data, Proc, delta, atom, alt, cond, sum, seq, call, Process, no_process, Sheet, params, right}
use Rattle.pcrl.specs.Parts.{NewPart, if_after, new_parts, new_count, all_new_parts, first_new, absent, written, part, kind_new, kind_in, kind}

-- HOW MANY

if_after_length : (after : Bool) (Γ Δ : List ℕ) (p : Proc) → length (if_after after Γ p) ≡ length (if_after after Δ p)
unfolding if_after
if_after_length false Γ Δ p = refl
if_after_length true Γ Δ p = refl

-- how many parts there are does not depend on what is in scope
same_length : (after : Bool) (Γ Δ : List ℕ) (p : Proc) → length (new_parts after Γ p) ≡ length (new_parts after Δ p)
unfolding new_parts
same_length after Γ Δ delta = if_after_length after Γ Δ delta
same_length after Γ Δ (atom a ds) = if_after_length after Γ Δ (atom a ds)
same_length after Γ Δ (alt p q) = simp (length-append, if_after_length after Γ Δ (alt p q), same_length false Γ Δ p, same_length false Γ Δ q)
same_length after Γ Δ (cond c p q) = simp (length-append, if_after_length after Γ Δ (cond c p q), same_length false Γ Δ p, same_length false Γ Δ q)
same_length after Γ Δ (sum x D p) = simp (length-append, if_after_length after Γ Δ (sum x D p), same_length false (Γ ++ (D ∷ [])) (Δ ++ (D ∷ [])) p)
same_length after Γ Δ (seq p q) = simp (length-append, same_length after Γ Δ p, same_length true Γ Δ q)
same_length after Γ Δ (call k ds) = refl

pub new_parts_length : (after : Bool) (Γ : List ℕ) (p : Proc) → length (new_parts after Γ p) ≡ new_count after p
unfolding new_count
new_parts_length after Γ p = same_length after Γ [] p

-- where the parts of what stands behind p begin
pub next_new : (c : ℕ) (after : Bool) (Γ : List ℕ) (p : Proc) → c + new_count after p ≡ c + length (new_parts after Γ p)
next_new c after Γ p = ap (λ (n : ℕ). c + n) (sym (new_parts_length after Γ p))

-- WHAT A NUMBER STANDS FOR

kind_new_place : (xs : List NewPart) (i : ℕ) (x : NewPart) → kind_new xs i ≡ part x → i < length xs
unfolding kind_new
kind_new_place [] i x e = absurd (let z : ◌≡◌ {A = ℕ} 0 1 = cc in omega arith)
kind_new_place (y ∷ xs) zero x e = omega arith
kind_new_place (y ∷ xs) (suc i) x e = let h : i < length xs = kind_new_place xs i x e in omega arith

-- where the equation of a part stands: behind the written ones
pub part_place : (ps : List Process) (xs : List NewPart) (e : ℕ) (x : NewPart) → kind_in ps xs e ≡ part x
    → (i : ℕ) × (e ≡ length ps + i) × (kind_new xs i ≡ part x) × (i < length xs)
unfolding kind_in
part_place [] xs e x h = (e, omega arith, h, kind_new_place xs e x h)
part_place (q ∷ ps) xs zero x h = absurd (let z : ◌≡◌ {A = ℕ} 0 1 = cc in omega arith)
part_place (q ∷ ps) xs (suc e) x h = let (i, a, b, c) = part_place ps xs e x h in (i, omega arith, b, c)

kind_in_written : (ps : List Process) (xs : List NewPart) (e : ℕ) → e < length ps → kind_in ps xs e ≡ written
unfolding kind_in
kind_in_written [] xs e h = absurd (omega arith)
kind_in_written (q ∷ ps) xs zero h = refl
kind_in_written (q ∷ ps) xs (suc e) h = kind_in_written ps xs e (omega arith)

written_in : (ps : List Process) (xs : List NewPart) (e : ℕ) → kind_in ps xs e ≡ written → e < length ps
unfolding kind_in kind_new
written_in [] [] e h = absurd (let z : ◌≡◌ {A = ℕ} 0 1 = cc in omega arith)
written_in [] (x ∷ xs) zero h = absurd (let z : ◌≡◌ {A = ℕ} 0 1 = cc in omega arith)
written_in [] (x ∷ xs) (suc e) h = let k : e < 0 = written_in [] xs e h in omega arith
written_in (q ∷ ps) xs zero h = omega arith
written_in (q ∷ ps) xs (suc e) h = let k : e < length ps = written_in ps xs e h in omega arith

present_in : (ps : List Process) (xs : List NewPart) (e : ℕ) → e < length ps + length xs → kind_in ps xs e ≡ absent → ⊥
unfolding kind_in kind_new
present_in [] [] e k h = omega arith
present_in [] (x ∷ xs) zero k h = let z : ◌≡◌ {A = ℕ} 0 1 = cc in omega arith
present_in [] (x ∷ xs) (suc e) k h = present_in [] xs e (omega arith) h
present_in (q ∷ ps) xs zero k h = let z : ◌≡◌ {A = ℕ} 0 1 = cc in omega arith
present_in (q ∷ ps) xs (suc e) k h = present_in ps xs e (omega arith) h

kind_behind : (ps : List Process) (xs : List NewPart) (i : ℕ) → kind_in ps xs (length ps + i) ≡ kind_new xs i
unfolding kind_in
kind_behind [] xs i = let z : 0 + i ≡ i = omega arith in rw z
kind_behind (p ∷ ps) xs i = rw (suc-add (length ps) i) (kind_behind ps xs i)

module _ (H : Sheet) where
  -- the written equations are those of the processes
  pub kind_written : (k : ℕ) → k < length H.procs → kind H k ≡ written
  unfolding kind
  kind_written k h = kind_in_written H.procs (all_new_parts H.procs) k h

  pub written_kind : (k : ℕ) → kind H k ≡ written → k < length H.procs
  unfolding kind
  written_kind k h = written_in H.procs (all_new_parts H.procs) k h

  pub kind_present : (e : ℕ) → e < length H.procs + length (all_new_parts H.procs) → kind H e ≡ absent → ⊥
  unfolding kind
  kind_present e h k = present_in H.procs (all_new_parts H.procs) e h k

  pub part_below : (e : ℕ) (x : NewPart) → kind H e ≡ part x → e < length H.procs + length (all_new_parts H.procs)
  unfolding kind
  part_below e x h = let (i, a, b, c) = part_place H.procs (all_new_parts H.procs) e x h in omega arith

  -- SEGMENTS: the equations from number c on are those of the parts xs
  unfoldable pub Seg : ℕ → List NewPart → Type 0
  Seg c [] = Unit {0}
  Seg c (x ∷ xs) = (kind H c ≡ part x) × Seg (suc c) xs

  pub seg_left : (c : ℕ) (xs ys : List NewPart) → Seg c (xs ++ ys) → Seg c xs
  unfolding Seg
  seg_left c [] ys h = tt
  seg_left c (x ∷ xs) ys h = (h.0, seg_left (suc c) xs ys h.1)

  pub seg_right : (c d : ℕ) (xs ys : List NewPart) → d ≡ c + length xs → Seg c (xs ++ ys) → Seg d ys
  unfolding Seg
  seg_right c d [] ys e h = let z : d ≡ c = omega arith in rw z h
  seg_right c d (x ∷ xs) ys e h = seg_right (suc c) d xs ys (omega arith) h.1

  seg_new : (c : ℕ) (xs : List NewPart) → ((i : ℕ) → kind H (c + i) ≡ kind_new xs i) → Seg c xs
  unfolding Seg kind_new
  seg_new c [] h = tt
  seg_new c (x ∷ xs) h = (rw (add-zero c) at (h 0), seg_new (suc c) xs (λ i. let z : suc c + i ≡ c + suc i = omega arith in rw z (h (suc i))))

  -- "New equations are numbered after the written ones"
  pub seg_all : Seg (length H.procs) (all_new_parts H.procs)
  unfolding kind
  seg_all = seg_new (length H.procs) (all_new_parts H.procs) (kind_behind H.procs (all_new_parts H.procs))

  seg_first : (ps : List Process) (c k : ℕ) → k < length ps → Seg c (all_new_parts ps)
      → Seg (first_new c ps k) (new_parts false (get_or ps k no_process).params (get_or ps k no_process).right)
  unfolding first_new all_new_parts
  seg_first [] c k h s = absurd (omega arith)
  seg_first (p ∷ ps) c zero h s = seg_left c _ (all_new_parts ps) s
  seg_first (p ∷ ps) c (suc k) h s =
      seg_first ps (c + new_count false p.right) k (omega arith)
      (seg_right c _ (new_parts false p.params p.right) (all_new_parts ps) (next_new c false p.params p.right) s)

  -- those of the right side of process k begin at `first-new`
  pub seg_right_side : (k : ℕ) → k < length H.procs → Seg (first_new (length H.procs) H.procs k) (new_parts false (params H k) (right H k))
  unfolding params right
  seg_right_side k h = seg_first H.procs (length H.procs) k h seg_all

-- INSIDE A PART

-- what holds of a term, with the sorts in scope, holds of the terms in it
pub record Hereditary (Q : List ℕ → Proc → Type 0) : Type 0 where
  pub of_alt : (Γ : List ℕ) (p q : Proc) → Q Γ (alt p q) → Q Γ p × Q Γ q
  pub of_cond : (Γ : List ℕ) (c : Data) (p q : Proc) → Q Γ (cond c p q) → Q Γ p × Q Γ q
  pub of_sum : (Γ : List ℕ) (x D : ℕ) (p : Proc) → Q Γ (sum x D p) → Q (Γ ++ (D ∷ [])) p
  pub of_seq : (Γ : List ℕ) (p q : Proc) → Q Γ (seq p q) → Q Γ p × Q Γ q

module _ (H : Sheet) (Q : List ℕ → Proc → Type 0) (her : Hereditary Q) where
  -- the part x at the number c has Q, and its own parts stand right behind it
  unfoldable Good : ℕ → NewPart → Type 0
  Good c x = Q x.scope x.term × Seg H (suc c) (new_parts false x.scope x.term)

  -- so have the parts xs at the numbers from c on
  unfoldable AllGood : ℕ → List NewPart → Type 0
  AllGood c [] = Unit {0}
  AllGood c (x ∷ xs) = Good c x × AllGood (suc c) xs

  good_append : (c d : ℕ) (xs ys : List NewPart) → d ≡ c + length xs → AllGood c xs → AllGood d ys → AllGood c (xs ++ ys)
  unfolding AllGood
  good_append c d [] ys e h k = let z : c ≡ d = omega arith in rw z k
  good_append c d (x ∷ xs) ys e h k = (h.0, good_append (suc c) d xs ys (omega arith) h.1 k)

  good_both : (c : ℕ) (xs ys : List NewPart) → ((d : ℕ) → Seg H d xs → AllGood d xs) → ((d : ℕ) → Seg H d ys → AllGood d ys) → Seg H c (xs ++ ys) → AllGood c (xs ++ ys)
  good_both c xs ys f g s = good_append c (c + length xs) xs ys refl (f c (seg_left H c xs ys s)) (g (c + length xs) (seg_right H c (c + length xs) xs ys refl s))

  -- a term that may be a part itself, before the parts in it
  good_self : (after : Bool) (Γ : List ℕ) (p : Proc) (c : ℕ) → Q Γ p → ((d : ℕ) → Seg H d (new_parts false Γ p) → AllGood d (new_parts false Γ p))
      → Seg H c (if_after after Γ p ++ new_parts false Γ p) → AllGood c (if_after after Γ p ++ new_parts false Γ p)
  unfolding if_after AllGood Good Seg
  good_self false Γ p c f g s = g c s
  good_self true Γ p c f g s = ((f, s.1), g (suc c) s.1)

  new_parts_good : (after : Bool) (Γ : List ℕ) (p : Proc) → Q Γ p → (c : ℕ) → Seg H c (new_parts after Γ p) → AllGood c (new_parts after Γ p)
  unfolding new_parts if_after AllGood Good Seg
  new_parts_good false Γ delta f c s = tt
  new_parts_good true Γ delta f c s = ((f, tt), tt)
  new_parts_good false Γ (atom a ds) f c s = tt
  new_parts_good true Γ (atom a ds) f c s = ((f, tt), tt)
  new_parts_good after Γ (alt p q) f c s =
      let g = her.of_alt Γ p q f in
      good_self after Γ (alt p q) c f (λ d. good_both d (new_parts false Γ p) (new_parts false Γ q) (new_parts_good false Γ p g.0) (new_parts_good false Γ q g.1)) s
  new_parts_good after Γ (cond b p q) f c s =
      let g = her.of_cond Γ b p q f in
      good_self after Γ (cond b p q) c f (λ d. good_both d (new_parts false Γ p) (new_parts false Γ q) (new_parts_good false Γ p g.0) (new_parts_good false Γ q g.1)) s
  new_parts_good after Γ (sum x D p) f c s = good_self after Γ (sum x D p) c f (new_parts_good false (Γ ++ (D ∷ [])) p (her.of_sum Γ x D p f)) s
  new_parts_good after Γ (seq p q) f c s =
      let g = her.of_seq Γ p q f in
      good_both c (new_parts after Γ p) (new_parts true Γ q) (new_parts_good after Γ p g.0) (new_parts_good true Γ q g.1) s
  new_parts_good after Γ (call k ds) f c s = tt

  all_new_parts_good : (ps : List Process) → ((k : ℕ) → k < length ps → Q (get_or ps k no_process).params (get_or ps k no_process).right)
      → (c : ℕ) → Seg H c (all_new_parts ps) → AllGood c (all_new_parts ps)
  unfolding all_new_parts AllGood
  all_new_parts_good [] f c s = tt
  all_new_parts_good (p ∷ ps) f c s =
      good_both c (new_parts false p.params p.right) (all_new_parts ps)
      (new_parts_good false p.params p.right (f 0 (omega arith))) (all_new_parts_good ps (λ k h. f (suc k) (omega arith))) s

  good_at : (xs : List NewPart) (c i : ℕ) (x : NewPart) → AllGood c xs → kind_new xs i ≡ part x → Good (c + i) x
  unfolding AllGood kind_new
  good_at [] c i x h e = absurd (let z : ◌≡◌ {A = ℕ} 0 1 = cc in omega arith)
  good_at (y ∷ xs) c zero x h e = let a : y ≡ x = cc in rw (add-zero c) (rw a at h.0)
  good_at (y ∷ xs) c (suc i) x h e = let z : c + suc i ≡ suc c + i = omega arith in rw z (good_at xs (suc c) i x h.1 e)

  -- What holds of every right side holds of every part, and its own parts stand right behind it.
  pub part_of : ((k : ℕ) → k < length H.procs → Q (params H k) (right H k)) → (e : ℕ) (x : NewPart) → kind H e ≡ part x
      → Q x.scope x.term × Seg H (suc e) (new_parts false x.scope x.term)
  unfolding kind params right Good
  part_of ok e x h =
      let (i, a, b, c) = part_place H.procs (all_new_parts H.procs) e x h in
      rw a (good_at (all_new_parts H.procs) (length H.procs) i x (all_new_parts_good H.procs ok (length H.procs) (seg_all H)) b)
