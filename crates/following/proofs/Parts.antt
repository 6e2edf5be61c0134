-- The calls of all parts of a term that stands after a first part: a loop over the parts that are left.
use mathlib.Core.Path.{◌≡◌, refl, sym, ap, ap₂, ◌∙◌, subst}
use mathlib.Core.List.{List, [], ◌∷◌, ◌++◌, append_assoc, append-nil}
use mathlib.Core.Bool.{true}
use Rattle.std.specs.Prelude.{Option, Some, None, MatchOption}
use Prim.Native.Nat.{ℕ, ◌+◌, ◌-◌, ◌<◌, ◌≤◌}
use native.Mathlib.Omega.{arith}
use lib.ListN.{length, drop, take, length-append}
use lib.Seq.{length-take-le, paste, drop_at}
use Rattle.pcrl.specs.Limits.{max_calls}
use Rattle.pcrl.specs.Tests.{Every}
use Rattle.pcrl.specs.Reader.{all}
use Rattle.pcrl.specs.Sheet.{Data, Proc, delta, atom, alt, cond, sum, seq, call, Sheet}
use Rattle.pcrl.specs.Parts.{new_count}
use Rattle.pcrl.specs.Stream.{encode_call}
use Rattle.pcrl.specs.Heads.{new_call, calls_of}
use Rattle.laws.specs.Every.{every_append, every_left, every_right}
use Rattle.nodes.specs.declared.Node.{Node}
use Rattle.nodes.specs.declared.Skipped.{Skipped}
use Rattle.nodes.specs.Layout.{byte_limit, seq_kind, enc, encs}
use Rattle.nodes.specs.Nodes.{kind_of, node_kids, node_own}
use Rattle.nodes.specs.Views.{Opened, Views, Skips}
use Rattle.nodes.proofs.Nodes.{one_item, items_end}
use Rattle.nodes.proofs.NewParts.{new_all, new_open}
use Rattle.putting.specs.Slots.{Slots, Adds}
use Rattle.following.specs.declared.Calls.{Calls}
use Rattle.following.specs.Fine.{Fine, Few}
use Rattle.following.specs.Follows.{CallSmall, CallPut, CallsPut, Pushes}

pub all_append : {S A : Type 0} (w : A → List S) (l m : List A) → all w (l ++ m) ≡ all w l ++ all w m
unfolding all
all_append w [] m = refl
all_append w (a ∷ l) m = ap (λ (x : List _). w a ++ x) (all_append w l m) ∙ sym (append_assoc (w a) (all w l) (all w m))

-- parts, one after another, and their calls
unfoldable pub parts_cells : List Proc → List ℕ
parts_cells [] = []
parts_cells (p ∷ ps) = enc true p ++ parts_cells ps

unfoldable pub calls_all : List Data → ℕ → List Proc → List (ℕ × List Data)
calls_all σ c [] = []
calls_all σ c (p ∷ ps) = calls_of σ c p ++ calls_all σ (c + new_count true p) ps

unfoldable pub news : List Proc → ℕ
news [] = 0
news (p ∷ ps) = new_count true p + news ps

new_seq : (p q : Proc) → new_count true (seq p q) ≡ new_count true p + new_count true q
unfolding new_all node_own node_kids
new_seq p q = let z = new_open true (seq p q) [] in omega arith

is_seq : (p : Proc) → kind_of p ≡ seq_kind → (q : Proc) × (s : Proc) × (p ≡ seq q s)
unfolding kind_of
is_seq delta e = absurd (omega arith)
is_seq (atom a ds) e = absurd (omega arith)
is_seq (alt p q) e = absurd (omega arith)
is_seq (cond c p q) e = absurd (omega arith)
is_seq (sum x D p) e = absurd (omega arith)
is_seq (seq p q) e = (p, q, refl)
is_seq (call k ds) e = absurd (omega arith)

-- a sequence's calls are those of its parts
calls_seq : (σ : List Data) (c : ℕ) (p q : Proc) (ps : List Proc) → calls_all σ c (seq p q ∷ ps) ≡ calls_all σ c (p ∷ q ∷ ps)
unfolding calls_all calls_of
calls_seq σ c p q ps =
    let z : c + new_count true (seq p q) ≡ c + new_count true p + new_count true q = omega (arith, new_seq p q) in
    append_assoc (calls_of σ c p) (calls_of σ (c + new_count true p) q) (calls_all σ (c + new_count true (seq p q)) ps)
    ∙ ap (λ (k : ℕ). calls_of σ c p ++ (calls_of σ (c + new_count true p) q ++ calls_all σ k ps)) z

-- a part that is no sequence has one call
one_part : (σ : List Data) (c : ℕ) (p : Proc) → (kind_of p ≡ seq_kind → ⊥) → length (calls_of σ c p) ≡ 1
unfolding kind_of calls_of new_call
one_part σ c delta h = refl
one_part σ c (atom a ds) h = refl
one_part σ c (alt p q) h = refl
one_part σ c (cond d p q) h = refl
one_part σ c (sum x D p) h = refl
one_part σ c (seq p q) h = absurd (h refl)
one_part σ c (call k ds) h = refl

some_part : (σ : List Data) (c : ℕ) (p : Proc) → 1 ≤ length (calls_of σ c p)
unfolding calls_of new_call
some_part σ c delta = omega arith
some_part σ c (atom a ds) = omega arith
some_part σ c (alt p q) = omega arith
some_part σ c (cond d p q) = omega arith
some_part σ c (sum x D p) = omega arith
some_part σ c (seq p q) = omega (arith, length-append (calls_of σ c p) (calls_of σ (c + new_count true p) q), some_part σ c p)
some_part σ c (call k ds) = omega arith

module _ (cells : List ℕ) (at c₀ : ℕ) (slots : List ℕ) (n most : ℕ) (o : List ℕ) where
  pub record PartsLeft (H : Sheet) (q : Proc) (rest : List ℕ) (σ : List Data) (p need k c v : ℕ) (out : List ℕ) : Type 0 where
    pub parts : List Proc
    pub many : length parts ≡ need
    pub place : drop p cells ≡ parts_cells parts ++ rest
    pub fine : Every (Fine H n) parts
    pub few_left : c + news parts < byte_limit
    pub bytes : take v out ++ all encode_call (calls_all σ c parts) ≡ take 0 o ++ all encode_call (calls_of σ c₀ q)
    pub number : k + length (calls_all σ c parts) ≡ length (calls_of σ c₀ q)
    pub small : Every CallSmall (calls_all σ c parts) → Every CallSmall (calls_of σ c₀ q)
    pub small_left : Every CallSmall (calls_of σ c₀ q) → Every CallSmall (calls_all σ c parts)

  abbrev pub Left : ℕ → ℕ → ℕ → ℕ → ℕ → List ℕ → Type 0
  Left p need k c v out = (H : Sheet) (q : Proc) (rest : List ℕ) (σ : List Data) → Few H → drop at cells ≡ enc true q ++ rest → Slots σ slots n → Fine H n q → c₀ + new_count true q < byte_limit
      → PartsLeft H q rest σ p need k c v out

  pub parts_start : Left at 1 0 c₀ 0 o
  unfolding parts_cells calls_all news Every
  parts_start H q rest σ few e s f l =
      let y : calls_of σ c₀ q ++ [] ≡ calls_of σ c₀ q = append-nil (calls_of σ c₀ q) in
      record {
        parts = q ∷ [];
        many = refl;
        place = e ∙ ap (λ (x : List ℕ). x ++ rest) (sym (append-nil (enc true q)));
        fine = (f, tt);
        few_left = omega arith;
        bytes = ap (λ (x : List (ℕ × List Data)). take 0 o ++ all encode_call x) y;
        number = omega (arith, ap length y);
        small = λ h. subst (λ (x : List (ℕ × List Data)). Every CallSmall x) y h;
        small_left = λ h. subst (λ (x : List (ℕ × List Data)). Every CallSmall x) (sym y) h;
      }

  module _ (p need k c v : ℕ) (out : List ℕ) (left : Left p need k c v out) where
    pub parts_stuck : length cells ≤ p → 0 < need → (r : Option Calls) (o' : List ℕ) → CallsPut cells at c₀ slots n most 0 o r o'
    unfolding parts_cells
    parts_stuck h pos r o' H q rest σ few e s f l = go (left H q rest σ few e s f l).parts (left H q rest σ few e s f l).many (left H q rest σ few e s f l).place
      where
        go : (ps : List Proc) → length ps ≡ need → drop p cells ≡ parts_cells ps ++ rest
            → MatchOption r (length (calls_of σ c₀ q) ≤ most → ¬ (Every CallSmall (calls_of σ c₀ q)))
            (λ t. (length (calls_of σ c₀ q) ≡ t.n) × Every CallSmall (calls_of σ c₀ q) × Adds (all encode_call (calls_of σ c₀ q)) 0 o t.w o')
        go [] a b = absurd (omega arith)
        go (x ∷ ps) a b = absurd (items_end cells p h ((true, x) ∷ []) (parts_cells ps ++ rest) (omega arith) (b ∙ append_assoc (enc true x) (parts_cells ps) rest ∙ one_item true x (parts_cells ps ++ rest)))

    pub parts_done : need ≡ 0 → CallsPut cells at c₀ slots n most 0 o (Some (record { w = v; n = k })) out
    unfolding calls_all all Every
    parts_done z H q rest σ few e s f l = go (left H q rest σ few e s f l).parts (left H q rest σ few e s f l).many (left H q rest σ few e s f l).bytes (left H q rest σ few e s f l).number (left H q rest σ few e s f l).small
      where
        go : (ps : List Proc) → length ps ≡ need → take v out ++ all encode_call (calls_all σ c ps) ≡ take 0 o ++ all encode_call (calls_of σ c₀ q)
            → k + length (calls_all σ c ps) ≡ length (calls_of σ c₀ q) → (Every CallSmall (calls_all σ c ps) → Every CallSmall (calls_of σ c₀ q))
            → (length (calls_of σ c₀ q) ≡ k) × Every CallSmall (calls_of σ c₀ q) × Adds (all encode_call (calls_of σ c₀ q)) 0 o v out
        go [] a b g h = (omega arith, h tt, sym (append-nil (take v out)) ∙ b)
        go (x ∷ ps) a b g h = absurd (omega arith)

    module _ (pos : 0 < need) (d : Node) (vw : Views cells p d) where
      -- the first part's node
      opened : (x : Proc) (ps : List Proc) (rest : List ℕ) → drop p cells ≡ parts_cells (x ∷ ps) ++ rest → Opened cells true x [] (parts_cells ps ++ rest) d
      unfolding parts_cells
      opened x ps rest b = vw true x [] (parts_cells ps ++ rest) (b ∙ append_assoc (enc true x) (parts_cells ps) rest ∙ one_item true x (parts_cells ps ++ rest))

      -- a sequence is its two parts
      pub parts_seq : d.kind ≡ seq_kind → Left d.next (need + 1) k c v out
      unfolding parts_cells news Every kind_of node_kids encs Fine
      parts_seq is H q rest σ few e s f l = go (left H q rest σ few e s f l).parts (left H q rest σ few e s f l).many (left H q rest σ few e s f l).place (left H q rest σ few e s f l).fine (left H q rest σ few e s f l).few_left (left H q rest σ few e s f l).bytes (left H q rest σ few e s f l).number (left H q rest σ few e s f l).small (left H q rest σ few e s f l).small_left
        where
          go : (ps : List Proc) → length ps ≡ need → drop p cells ≡ parts_cells ps ++ rest → Every (Fine H n) ps → c + news ps < byte_limit
              → take v out ++ all encode_call (calls_all σ c ps) ≡ take 0 o ++ all encode_call (calls_of σ c₀ q) → k + length (calls_all σ c ps) ≡ length (calls_of σ c₀ q)
              → (Every CallSmall (calls_all σ c ps) → Every CallSmall (calls_of σ c₀ q)) → (Every CallSmall (calls_of σ c₀ q) → Every CallSmall (calls_all σ c ps))
              → PartsLeft H q rest σ d.next (need + 1) k c v out
          go [] a b g h t m i j = absurd (omega arith)
          go (delta ∷ ps) a b g h t m i j = absurd (omega (arith, (opened delta ps rest b).kind_is))
          go (atom x ds ∷ ps) a b g h t m i j = absurd (omega (arith, (opened (atom x ds) ps rest b).kind_is))
          go (alt x y ∷ ps) a b g h t m i j = absurd (omega (arith, (opened (alt x y) ps rest b).kind_is))
          go (cond z x y ∷ ps) a b g h t m i j = absurd (omega (arith, (opened (cond z x y) ps rest b).kind_is))
          go (sum z D x ∷ ps) a b g h t m i j = absurd (omega (arith, (opened (sum z D x) ps rest b).kind_is))
          go (call z ds ∷ ps) a b g h t m i j = absurd (omega (arith, (opened (call z ds) ps rest b).kind_is))
          go (seq x y ∷ ps) a b g h t m i j =
              let z = calls_seq σ c x y ps in
              record {
                parts = x ∷ y ∷ ps;
                many = omega arith;
                place = (opened (seq x y) ps rest b).next_is ∙ simp (append_assoc, append-nil);
                fine = (g.0.0, (g.0.1, g.1));
                few_left = omega (arith, new_seq x y);
                bytes = ap (λ (w : List (ℕ × List Data)). take v out ++ all encode_call w) (sym z) ∙ t;
                number = omega (arith, ap length z);
                small = λ w. i (subst (λ (u : List (ℕ × List Data)). Every CallSmall u) (sym z) w);
                small_left = λ w. subst (λ (u : List (ℕ × List Data)). Every CallSmall u) z (j w);
              }

      module _ (other : d.kind ≡ seq_kind → ⊥) where
        -- a part more than may be
        pub parts_many : most ≤ k → (o' : List ℕ) → CallsPut cells at c₀ slots n most 0 o None o'
        unfolding calls_all
        parts_many big o' H q rest σ few e s f l = λ fits small. go (left H q rest σ few e s f l).parts (left H q rest σ few e s f l).many (left H q rest σ few e s f l).number fits
          where
            go : (ps : List Proc) → length ps ≡ need → k + length (calls_all σ c ps) ≡ length (calls_of σ c₀ q) → length (calls_of σ c₀ q) ≤ most → ⊥
            go [] a b h = omega arith
            go (x ∷ ps) a b h = omega (arith, length-append (calls_of σ c x) (calls_all σ (c + new_count true x) ps), some_part σ c x)

        -- a part written, up to v'
        module _ (v' : ℕ) (out' : List ℕ) (put : CallPut cells p c slots n v out (Some v') out') where
          pub parts_on : (t : Skipped) → Skips cells p t → (c' : ℕ) → (c + t.own < byte_limit → c' ≡ c + t.own) → Left t.next (need - 1) (k + 1) c' v' out'
          unfolding parts_cells news Every calls_all
          parts_on t' sk c' ec H q rest σ few e s f l = go (left H q rest σ few e s f l).parts (left H q rest σ few e s f l).many (left H q rest σ few e s f l).place (left H q rest σ few e s f l).fine (left H q rest σ few e s f l).few_left (left H q rest σ few e s f l).bytes (left H q rest σ few e s f l).number (left H q rest σ few e s f l).small (left H q rest σ few e s f l).small_left
            where
              go : (ps : List Proc) → length ps ≡ need → drop p cells ≡ parts_cells ps ++ rest → Every (Fine H n) ps → c + news ps < byte_limit
                  → take v out ++ all encode_call (calls_all σ c ps) ≡ take 0 o ++ all encode_call (calls_of σ c₀ q) → k + length (calls_all σ c ps) ≡ length (calls_of σ c₀ q)
                  → (Every CallSmall (calls_all σ c ps) → Every CallSmall (calls_of σ c₀ q)) → (Every CallSmall (calls_of σ c₀ q) → Every CallSmall (calls_all σ c ps))
                  → PartsLeft H q rest σ t'.next (need - 1) (k + 1) c' v' out'
              go [] a b g h t m i j = absurd (omega arith)
              go (x ∷ ps) a b g h t m i j =
                  let nq : kind_of x ≡ seq_kind → ⊥ = λ z. other ((opened x ps rest b).kind_is ∙ z) in
                  let b' : drop p cells ≡ enc true x ++ (parts_cells ps ++ rest) = b ∙ append_assoc (enc true x) (parts_cells ps) rest in
                  let y = sk true x (parts_cells ps ++ rest) b' in
                  let z : c' ≡ c + new_count true x = ec (omega (arith, y.0)) ∙ ap (λ (w : ℕ). c + w) y.0 in
                  let u = put H true x (parts_cells ps ++ rest) σ few b' nq s g.0 in
                  let C = calls_of σ c x in
                  let M = calls_all σ (c + new_count true x) ps in
                  record {
                    parts = ps;
                    many = omega arith;
                    place = y.1;
                    fine = g.1;
                    few_left = omega arith;
                    bytes =
                        ap (λ (w : ℕ). take v' out' ++ all encode_call (calls_all σ w ps)) z ∙ ap (λ (w : List ℕ). w ++ all encode_call M) u.1 ∙ append_assoc (take v out) (all encode_call C) (all encode_call M)
                        ∙ ap (λ (w : List ℕ). take v out ++ w) (sym (all_append encode_call C M)) ∙ t;
                    number = omega (arith, ap (λ (w : ℕ). length (calls_all σ w ps)) z, length-append C M, one_part σ c x nq);
                    small = λ w. i (every_append CallSmall C M u.0 (subst (λ (w : ℕ). Every CallSmall (calls_all σ w ps)) z w));
                    small_left = λ w. subst (λ (w : ℕ). Every CallSmall (calls_all σ w ps)) (sym z) (every_right CallSmall C M (j w));
                  }

          -- the last part written
          pub parts_last : need ≡ 1 → CallsPut cells at c₀ slots n most 0 o (Some (record { w = v'; n = k + 1 })) out'
          unfolding parts_cells Every calls_all all
          parts_last one H q rest σ few e s f l = go (left H q rest σ few e s f l).parts (left H q rest σ few e s f l).many (left H q rest σ few e s f l).place (left H q rest σ few e s f l).fine (left H q rest σ few e s f l).bytes (left H q rest σ few e s f l).number (left H q rest σ few e s f l).small
            where
              go : (ps : List Proc) → length ps ≡ need → drop p cells ≡ parts_cells ps ++ rest → Every (Fine H n) ps
                  → take v out ++ all encode_call (calls_all σ c ps) ≡ take 0 o ++ all encode_call (calls_of σ c₀ q) → k + length (calls_all σ c ps) ≡ length (calls_of σ c₀ q)
                  → (Every CallSmall (calls_all σ c ps) → Every CallSmall (calls_of σ c₀ q))
                  → (length (calls_of σ c₀ q) ≡ k + 1) × Every CallSmall (calls_of σ c₀ q) × Adds (all encode_call (calls_of σ c₀ q)) 0 o v' out'
              go [] a b g t m i = absurd (omega arith)
              go (x ∷ y ∷ ps) a b g t m i = absurd (omega arith)
              go (x ∷ []) a b g t m i =
                  let nq : kind_of x ≡ seq_kind → ⊥ = λ z. other ((opened x [] rest b).kind_is ∙ z) in
                  let u = put H true x rest σ few (b ∙ append_assoc (enc true x) [] rest) nq s g.0 in
                  let C = calls_of σ c x in
                  let y : C ++ [] ≡ C = append-nil C in
                  (omega (arith, ap length y, one_part σ c x nq), i (every_append CallSmall C [] u.0 tt), u.1 ∙ ap (λ (w : List (ℕ × List Data)). take v out ++ all encode_call w) (sym y) ∙ t)

        -- a part with a term that is too long
        pub parts_long : (out' : List ℕ) → CallPut cells p c slots n v out None out' → (o' : List ℕ) → CallsPut cells at c₀ slots n most 0 o None o'
        unfolding parts_cells news Every calls_all
        parts_long out' put o' H q rest σ few e s f l = λ fits. go (left H q rest σ few e s f l).parts (left H q rest σ few e s f l).many (left H q rest σ few e s f l).place (left H q rest σ few e s f l).fine (left H q rest σ few e s f l).small_left
          where
            go : (ps : List Proc) → length ps ≡ need → drop p cells ≡ parts_cells ps ++ rest → Every (Fine H n) ps → (Every CallSmall (calls_of σ c₀ q) → Every CallSmall (calls_all σ c ps)) → ¬ (Every CallSmall (calls_of σ c₀ q))
            go [] a b g j h = absurd (omega arith)
            go (x ∷ ps) a b g j h =
                put H true x (parts_cells ps ++ rest) σ few (b ∙ append_assoc (enc true x) (parts_cells ps) rest) (λ z. other ((opened x ps rest b).kind_is ∙ z)) s g.0
                (every_left CallSmall (calls_of σ c x) (calls_all σ (c + new_count true x) ps) (j h))

-- PUSHED IN FRONT

module _ (cells : List ℕ) (at c : ℕ) (slots : List ℕ) (n nk : ℕ) (o : List ℕ) (top : ℕ) (a a' : List ℕ) (few : nk ≤ max_calls) where
  pub push_fail : CallsPut cells at c slots n (max_calls - nk) 0 a None a' → (o' : List ℕ) → Pushes cells at c slots n nk o top None o'
  push_fail put o' H q rest σ fw e s f l h = put H q rest σ fw e s f l (omega arith)

  pub push_right : (r : Calls) → CallsPut cells at c slots n (max_calls - nk) 0 a (Some r) a' → r.w ≤ top → top ≤ length o → r.w ≤ length a'
      → Pushes cells at c slots n nk o top (Some (record { top = top - r.w; n = nk + r.n })) (paste o (top - r.w) (drop 0 a') r.w)
  push_right r put h k j H q rest σ fw e s f l =
      let u = put H q rest σ fw e s f l in
      let z : top - r.w + r.w ≡ top = omega arith in
      let y : take r.w a' ≡ all encode_call (calls_of σ c q) = u.2 in (
        omega (arith, u.0),
        u.1,
        ap (drop (top - r.w)) (append_assoc (take (top - r.w) o) (take r.w a') (drop (top - r.w + r.w) o)) ∙ drop_at (take (top - r.w) o) (take r.w a' ++ drop (top - r.w + r.w) o) (top - r.w) (length-take-le (top - r.w) o (omega arith))
            ∙ ap₂ (λ (x : List ℕ) (i : ℕ). x ++ drop i o) y z,
      )
