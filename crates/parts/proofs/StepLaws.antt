-- One node of the walk: its own part, if it gets an equation, and then its subterms.
use mathlib.Core.Path.{◌≡◌, refl, sym, ap, ap₂, subst, ◌∙◌}
use mathlib.Core.List.{List, [], ◌∷◌, ◌++◌, append_assoc, append-nil}
use mathlib.Core.Bool.{Bool, true, false}
use Prim.Native.Nat.{ℕ, zero, suc, ◌+◌, ◌-◌, ◌*◌, ◌%◌, ◌≤◌, ◌<◌}
use native.Mathlib.Nat.{mod-eq_of_lt}
use native.Mathlib.Numerals.{add-one}
use native.Mathlib.Omega.{arith}
use lib.ListN.{length, take, drop, get_or, set, length-append}
use lib.Seq.{take-suc-set, take-set-le, get_or-set_same, get_or-set_other}
use Rattle.pcrl.specs.Tests.{Every}
use Rattle.pcrl.specs.Reader.{all}
use Rattle.pcrl.specs.Sheet.{Proc, delta, atom, alt, cond, sum, seq, call, Sheet}
use Rattle.pcrl.specs.Sorts.{Sorted, binding}
use Rattle.pcrl.specs.Parts.{NewPart, if_after, new_parts}
use Rattle.laws.specs.Every.{every_append}
use Rattle.nodes.specs.declared.Node.{Node}
use Rattle.nodes.specs.Layout.{cell_limit, byte_limit, sum_kind, one_if, Item, enc, encs}
use Rattle.nodes.specs.Nodes.{kind_of, node_own, node_number, node_kids, own_small}
use Rattle.nodes.specs.Scoped.{max_scope, Scoped}
use Rattle.nodes.specs.Views.{Opened, Views}
use Rattle.parts.specs.Behind.{PutsFrom}
use Rattle.parts.proofs.BehindLaws.{from_as}
use Rattle.parts.specs.declared.PartWalk.{PartWalk}
use Rattle.parts.specs.declared.Noted.{Noted}
use Rattle.parts.specs.Rows.{row_width, no_part, params_bytes, RowOf, RowsOf}
use Rattle.parts.specs.Walking.{Fit, parts_of, Below, FitBelow, parts_below, Onward, Steps, part_at, Noting, Enters}

-- a part, or none
unfoldable own_list : ℕ → NewPart → List NewPart
own_list zero x = []
own_list (suc n) x = x ∷ []

after_list : (b : Bool) (Γ : List ℕ) (p : Proc) → if_after b Γ p ≡ own_list (one_if b) (record { scope = Γ; term = p })
unfolding if_after one_if own_list
after_list true Γ p = refl
after_list false Γ p = refl

-- a term's parts: its own, and those of its subterms
parts_open : (sorts : List ℕ) (n : ℕ) (b : Bool) (p : Proc) (xs : List Item) → (kind_of p ≡ sum_kind → ⊥)
    → parts_of sorts n ((b, p) ∷ xs) ≡ own_list (node_own b p) (part_at sorts n p) ++ parts_of sorts n (node_kids b p ++ xs)
unfolding parts_of all new_parts node_own node_kids kind_of own_list
parts_open sorts n b delta xs h = ap (λ (l : List NewPart). l ++ parts_of sorts n xs) (after_list b (take n sorts) delta)
parts_open sorts n b (atom a ds) xs h = ap (λ (l : List NewPart). l ++ parts_of sorts n xs) (after_list b (take n sorts) (atom a ds))
parts_open sorts n b (alt p q) xs h = rw (after_list b (take n sorts) (alt p q)) (simp append_assoc)
parts_open sorts n b (cond c p q) xs h = rw (after_list b (take n sorts) (cond c p q)) (simp append_assoc)
parts_open sorts n b (sum x D p) xs h = absurd (h refl)
parts_open sorts n b (seq p q) xs h = simp append_assoc
parts_open sorts n b (call k ds) xs h = refl

-- subterms fit where the term does
kids_fit : (H : Sheet) (m n : ℕ) (b : Bool) (p : Proc) → (kind_of p ≡ sum_kind → ⊥) → Fit H m n p → Every (λ (x : Item). Fit H m n x.1) (node_kids b p)
unfolding node_kids kind_of Scoped Sorted Every
kids_fit H m n b delta h f = tt
kids_fit H m n b (atom a ds) h f = tt
kids_fit H m n b (alt p q) h f = (record { scoped = f.scoped.0; scope = f.scope; sorted = f.sorted.0 }, (record { scoped = f.scoped.1; scope = f.scope; sorted = f.sorted.1 }, tt))
kids_fit H m n b (cond c p q) h f = (record { scoped = f.scoped.1.0; scope = f.scope; sorted = f.sorted.1.0 }, (record { scoped = f.scoped.1.1; scope = f.scope; sorted = f.sorted.1.1 }, tt))
kids_fit H m n b (sum x D p) h f = absurd (h refl)
kids_fit H m n b (seq p q) h f = (record { scoped = f.scoped.0; scope = f.scope; sorted = f.sorted.0 }, (record { scoped = f.scoped.1; scope = f.scope; sorted = f.sorted.1 }, tt))
kids_fit H m n b (call k ds) h f = tt

-- only a term after a first part has its own
own_after : (b : Bool) (p : Proc) → node_own b p ≡ 1 → b ≡ true
unfolding node_own one_if
own_after true p e = refl
own_after false delta e = absurd (omega arith)
own_after false (atom a ds) e = absurd (omega arith)
own_after false (alt p q) e = absurd (omega arith)
own_after false (cond c p q) e = absurd (omega arith)
own_after false (sum x D p) e = absurd (omega arith)
own_after false (seq p q) e = absurd (omega arith)
own_after false (call k ds) e = absurd (omega arith)

-- sorts that agree up to a level give the same parts below it
below_same : (sorts sorts' : List ℕ) (n : ℕ) (fs : List (List Item)) → ((j : ℕ) → j ≤ n → take j sorts' ≡ take j sorts) → parts_below sorts' n fs ≡ parts_below sorts n fs
unfolding parts_below parts_of
below_same sorts sorts' n [] h = refl
below_same sorts sorts' n (ys ∷ fs) h =
    ap₂ (λ (a b : List NewPart). a ++ b) (ap (λ (Γ : List ℕ). all (λ (x : Item). new_parts x.0 Γ x.1) ys) (h (n - 1) (omega arith))) (below_same sorts sorts' (n - 1) fs (λ j k. h j (omega arith)))

below_kept : (left : List ℕ) (base n v k : ℕ) (fs : List (List Item)) → n ≤ k → Below left base n fs → Below (set left k v) base n fs
unfolding Below
below_kept left base n v k [] h b = b
below_kept left base n v k (ys ∷ fs) h b = let one = b.0 in (b.0, (get_or-set_other left k (n - 1) v 0 (λ z. omega arith) ∙ b.1.0, below_kept left base (n - 1) v k fs (omega arith) b.1.1))

-- the first of some terms
first_item : (b : Bool) (p : Proc) (xs : List Item) (R : List ℕ) → encs ((b, p) ∷ xs) ++ R ≡ enc b p ++ (encs xs ++ R)
unfolding encs
first_item b p xs R = append_assoc (enc b p) (encs xs) R

every_first : (H : Sheet) (m n : ℕ) (b : Bool) (p : Proc) (xs : List Item) → Every (λ (x : Item). Fit H m n x.1) ((b, p) ∷ xs) → Fit H m n p × Every (λ (x : Item). Fit H m n x.1) xs
unfolding Every
every_first H m n b p xs f = f

-- ---- a sum
sum_fit : (H : Sheet) (m n x D : ℕ) (p : Proc) → Fit H m n (sum x D p) → (D < length H.sig.sorts) × Fit H m (n + 1) p
unfolding Scoped Sorted
sum_fit H m n x D p f = (f.sorted.0, record { scoped = subst (λ (k : ℕ). Scoped m k p) (sym (add-one n)) f.scoped.1.1; scope = binding x D f.scope; sorted = f.sorted.1 })

sum_is : (cells : List ℕ) (b : Bool) (x D : ℕ) (p : Proc) (xs : List Item) (R : List ℕ) (d : Node) → Opened cells b (sum x D p) xs R d → d.number ≡ D
unfolding node_number
sum_is cells b x D p xs R d o = o.number_is

sum_here : (H : Sheet) (m n : ℕ) (p : Proc) → Fit H m (n + 1) p → Every (λ (y : Item). Fit H m (n + 1) y.1) ((false, p) ∷ [])
unfolding Every
sum_here H m n p f = (f, tt)

sum_fit_below : (H : Sheet) (m n : ℕ) (xs : List Item) (fs : List (List Item)) → Every (λ (y : Item). Fit H m n y.1) xs → FitBelow H m n fs → FitBelow H m (n + 1) (xs ∷ fs)
unfolding FitBelow
sum_fit_below H m n xs fs a b =
    let z : n ≡ n + 1 - 1 = omega arith in
    (subst (λ (k : ℕ). Every (λ (y : Item). Fit H m k y.1) xs) z a, subst (λ (k : ℕ). FitBelow H m k fs) z b)

sum_below : (left left' : List ℕ) (base n need : ℕ) (xs : List Item) (fs : List (List Item)) → n < length left → need ≡ suc (length xs) → left' ≡ set left n (need - 1) → Below left base n fs
    → Below left' base (n + 1) (xs ∷ fs)
unfolding Below
sum_below left left' base n need xs fs room many is below =
    let z : n + 1 - 1 ≡ n = omega arith in
    let one : need - 1 ≡ length xs = omega arith in
    let at : get_or left' (n + 1 - 1) 0 ≡ length xs = ap (λ (k : ℕ). get_or left' k 0) z ∙ ap (λ (l : List ℕ). get_or l n 0) is ∙ get_or-set_same left n (need - 1) 0 room ∙ one in
    (omega arith, (at, subst (λ (k : ℕ). Below left' base k fs) (sym z) (subst (λ (l : List ℕ). Below l base n fs) (sym is) (below_kept left base n (need - 1) n fs (omega arith) below))))

sum_stand : (cells : List ℕ) (next : ℕ) (b : Bool) (x D : ℕ) (p : Proc) (xs : List Item) (fs : List (List Item)) (rest : List ℕ) → drop next cells ≡ encs (node_kids b (sum x D p) ++ xs) ++ (all encs fs ++ rest)
    → drop next cells ≡ encs ((false, p) ∷ []) ++ (all encs (xs ∷ fs) ++ rest)
unfolding encs node_kids all
sum_stand cells next b x D p xs fs rest e = e ∙ simp (append_assoc, append-nil)

sum_parts : (sorts sorts' : List ℕ) (n : ℕ) (b : Bool) (x D : ℕ) (p : Proc) (xs : List Item) (fs : List (List Item)) → n < length sorts → sorts' ≡ set sorts n D
    → parts_of sorts n ((b, sum x D p) ∷ xs) ++ parts_below sorts n fs
    ≡ own_list (node_own b (sum x D p)) (part_at sorts n (sum x D p)) ++ (parts_of sorts' (n + 1) ((false, p) ∷ []) ++ parts_below sorts' (n + 1) (xs ∷ fs))
unfolding parts_of parts_below all new_parts node_own
sum_parts sorts sorts' n b x D p xs fs room is =
    let z : n ≡ n + 1 - 1 = omega arith in
    let same : (j : ℕ) → j ≤ n → take j sorts ≡ take j sorts' = λ j h. sym (ap (take j) is ∙ take-set-le j sorts n D h) in
    let scope : take n sorts ++ (D ∷ []) ≡ take (n + 1) sorts' = sym (ap₂ take (add-one n) is ∙ take-suc-set sorts n D room) in
    let A = if_after b (take n sorts) (sum x D p) in
    let B = new_parts false (take n sorts ++ (D ∷ [])) p in
    let C = all (λ (y : Item). new_parts y.0 (take n sorts) y.1) xs in
    let E = parts_below sorts n fs in
    let left : ((A ++ B) ++ C) ++ E ≡ A ++ ((B ++ []) ++ (C ++ E)) = simp (append_assoc, append-nil) in
    left
    ∙ ap₂ (λ (k l : List NewPart). k ++ l) (after_list b (take n sorts) (sum x D p))
    (ap₂ (λ (k l : List NewPart). k ++ l) (ap (λ (Γ : List ℕ). new_parts false Γ p ++ []) scope)
    (ap₂ (λ (k l : List NewPart). k ++ l) (ap (λ (Γ : List ℕ). all (λ (y : Item). new_parts y.0 Γ y.1) xs) (same n (omega arith) ∙ ap (λ (k : ℕ). take k sorts') z))
    (sym (below_same sorts sorts' n fs (λ j h. sym (same j h))) ∙ ap (λ (k : ℕ). parts_below sorts' k fs) z)))

-- a sum binds a number that is there
sum_small : (m n : ℕ) (p : Proc) → kind_of p ≡ sum_kind → Scoped m n p → n < max_scope
unfolding kind_of Scoped
sum_small m n delta e s = absurd (omega arith)
sum_small m n (atom a ds) e s = absurd (omega arith)
sum_small m n (alt p q) e s = absurd (omega arith)
sum_small m n (cond c p q) e s = absurd (omega arith)
sum_small m n (sum x D p) e s = s.1.0
sum_small m n (seq p q) e s = absurd (omega arith)
sum_small m n (call k ds) e s = absurd (omega arith)

module _ (cells sorts rows o : List ℕ) (s : PartWalk) (rows' o' : List ℕ) (r : Noted) (own : ℕ) (noting : Noting cells sorts rows o own s rows' o' r) where
  -- what a node's own part left
  pub record OwnPart (xs : List NewPart) : Type 0 where
    pub count_is : r.count ≡ s.count + length xs
    pub rows_of : row_width * (s.count + length xs) ≤ length rows → RowsOf cells rows' s.count xs
    pub puts : PutsFrom (all params_bytes xs) s.w o r.w o'

  own_noted : (m : ℕ) (b : Bool) (p : Proc) (rest : List ℕ) → drop s.at cells ≡ enc b p ++ rest → own ≡ node_own b p → Scoped m s.level p → s.at < cell_limit
      → OwnPart (own_list (node_own b p) (part_at sorts s.level p))
  unfolding own_list all
  own_noted m b p rest e is scoped near = go (node_own b p) refl
    where
      x : NewPart
      x = part_at sorts s.level p

      go : (k : ℕ) → node_own b p ≡ k → OwnPart (own_list k x)
      go zero z =
          let none : own ≡ 1 → ⊥ = λ y. omega arith in
          record { count_is = let c = noting.count_same none in omega arith; rows_of = λ room. record { each = λ j h. absurd (omega arith) }; puts = noting.nothing none }
      go (suc zero) z =
          let one : own ≡ 1 = is ∙ z in
          let at : drop s.at cells ≡ enc true p ++ rest = subst (λ (t : Bool). drop s.at cells ≡ enc t p ++ rest) (own_after b p z) e in
          let n = noting.notes one m p rest at scoped near in
          record {
            count_is = noting.count_is one;
            rows_of = λ room. record { each = each (n.0 room) };
            puts = from_as s.w o r.w o' (sym (append-nil (params_bytes x))) n.1;
          }
        where
          each : RowOf cells rows' s.count x → (j : ℕ) → j < 1 → RowOf cells rows' (s.count + j) (get_or (x ∷ []) j no_part)
          each h zero l = let y : s.count ≡ s.count + 0 = omega arith in subst (λ (k : ℕ). RowOf cells rows' k x) y h
          each h (suc j) l = absurd (omega arith)
      go (suc (suc k)) z = absurd (omega (arith, own_small b p))

module _ (cells left sorts rows o : List ℕ) (s : PartWalk) (rows' o' : List ℕ) (r : Noted) (d : Node) (views : Views cells s.at d) (inside : s.at < length cells) (some : 0 < s.need)
    (noting : Noting cells sorts rows o d.own s rows' o' r) where
  -- A NODE THAT IS NO SUM
  pub step_other : (d.kind ≡ sum_kind → max_scope ≤ s.level)
      → Steps cells left sorts rows o s left sorts rows' o' (record { at = d.next; level = s.level; need = s.need - 1 + d.kids; count = r.count; w = r.w })
  step_other other H m base rest parts few a = go a.here a.many a.stand a.fit a.come
    where
      R : List ℕ
      R = all encs a.below ++ rest

      t : PartWalk
      t = record { at = d.next; level = s.level; need = s.need - 1 + d.kids; count = r.count; w = r.w }

      go : (xs : List Item) → s.need ≡ length xs → drop s.at cells ≡ encs xs ++ R → Every (λ (x : Item). Fit H m s.level x.1) xs
          → parts ≡ parts_of sorts s.level xs ++ parts_below sorts s.level a.below → Onward cells left sorts rows o s H m base rest parts left sorts rows' o' t
      go [] many st f e = absurd (omega arith)
      go ((b, q) ∷ xs) many st f e =
          let o'' = views b q xs R st in
          let fits = every_first H m s.level b q xs f in
          let no_sum : kind_of q ≡ sum_kind → ⊥ = λ z. omega (arith, other (o''.kind_is ∙ z), sum_small m s.level q z fits.0.scoped) in
          let mine = own_noted cells sorts rows o s rows' o' r d.own noting m b q (encs xs ++ R) (st ∙ first_item b q xs R) o''.own_is fits.0.scoped (omega (arith, few.cells_few)) in
          let ys = own_list (node_own b q) (part_at sorts s.level q) in
          let more = parts_of sorts s.level (node_kids b q ++ xs) in
          let lower = parts_below sorts s.level a.below in
          record {
            own = ys;
            come = more ++ lower;
            whole = e ∙ ap (λ (l : List NewPart). l ++ lower) (parts_open sorts s.level b q xs no_sum) ∙ append_assoc ys more lower;
            ahead = record {
              here = node_kids b q ++ xs;
              below = a.below;
              many = let z = length-append (node_kids b q) xs in let k = o''.kids_is in omega arith;
              counts = a.counts;
              stand = o''.next_is;
              fit = every_append (λ (x : Item). Fit H m s.level x.1) (node_kids b q) xs (kids_fit H m s.level b q no_sum fits.0) fits.1;
              fit_below = a.fit_below;
              come = refl;
            };
            count_is = mine.count_is;
            rows_of = mine.rows_of;
            puts = mine.puts;
          }

  -- A SUM
  pub step_sum : (left' sorts' : List ℕ) → d.kind ≡ sum_kind → s.level < length left → s.level < length sorts → s.need ≤ length cells → Enters left sorts s.level s.need d.number left' sorts'
      → Steps cells left sorts rows o s left' sorts' rows' o' (record { at = d.next; level = s.level + 1; need = 1; count = r.count; w = r.w })
  unfolding kind_of
  step_sum left' sorts' is room_left room_sorts most enters H m base rest parts few a = go a.here a.many a.stand a.fit a.come
    where
      n : ℕ
      n = s.level

      R : List ℕ
      R = all encs a.below ++ rest

      t : PartWalk
      t = record { at = d.next; level = n + 1; need = 1; count = r.count; w = r.w }

      go : (xs : List Item) → s.need ≡ length xs → drop s.at cells ≡ encs xs ++ R → Every (λ (x : Item). Fit H m n x.1) xs
          → parts ≡ parts_of sorts n xs ++ parts_below sorts n a.below → Onward cells left sorts rows o s H m base rest parts left' sorts' rows' o' t
      go [] many st f e = absurd (omega arith)
      go ((b, delta) ∷ xs) many st f e = absurd (omega (arith, (views b delta xs R st).kind_is))
      go ((b, atom c ds) ∷ xs) many st f e = absurd (omega (arith, (views b (atom c ds) xs R st).kind_is))
      go ((b, alt p q) ∷ xs) many st f e = absurd (omega (arith, (views b (alt p q) xs R st).kind_is))
      go ((b, cond c p q) ∷ xs) many st f e = absurd (omega (arith, (views b (cond c p q) xs R st).kind_is))
      go ((b, seq p q) ∷ xs) many st f e = absurd (omega (arith, (views b (seq p q) xs R st).kind_is))
      go ((b, call k ds) ∷ xs) many st f e = absurd (omega (arith, (views b (call k ds) xs R st).kind_is))
      go ((b, sum x D p) ∷ xs) many st f e =
          let q = sum x D p in
          let o'' = views b q xs R st in
          let fits = every_first H m n b q xs f in
          let mine = own_noted cells sorts rows o s rows' o' r d.own noting m b q (encs xs ++ R) (st ∙ first_item b q xs R) o''.own_is fits.0.scoped (omega (arith, few.cells_few)) in
          let ys = own_list (node_own b q) (part_at sorts n q) in
          let body = sum_fit H m n x D p fits.0 in
          let number = sum_is cells b x D p xs R d o'' in
          let sorts_are : sorts' ≡ set sorts n D = enters.sorts_is ∙ ap (set sorts n) (ap (λ (y : ℕ). y % byte_limit) number ∙ mod-eq_of_lt (omega (arith, body.0, few.sorts_few))) in
          let left_is : left' ≡ set left n (s.need - 1) = enters.left_is (omega (arith, few.cells_few)) in
          let z : n + 1 - 1 ≡ n = omega arith in
          let here : List Item = (false, p) ∷ [] in
          let come = parts_of sorts' (n + 1) here ++ parts_below sorts' (n + 1) (xs ∷ a.below) in
          record {
            own = ys;
            come = come;
            whole = e ∙ sum_parts sorts sorts' n b x D p xs a.below room_sorts sorts_are;
            ahead = record {
              here = here;
              below = xs ∷ a.below;
              many = refl;
              counts = sum_below left left' base n s.need xs a.below room_left many left_is a.counts;
              stand = sum_stand cells d.next b x D p xs a.below rest o''.next_is;
              fit = sum_here H m n p body.1;
              fit_below = sum_fit_below H m n xs a.below fits.1 a.fit_below;
              come = refl;
            };
            count_is = mine.count_is;
            rows_of = mine.rows_of;
            puts = mine.puts;
          }
