-- The walk that counts heads: what is counted and what is left is the whole, once cut.
use mathlib.Core.Path.{◌≡◌, refl, sym, ap, ap₂, subst, ◌∙◌}
use mathlib.Core.List.{List, [], ◌∷◌, ◌++◌, append_assoc}
use mathlib.Core.Bool.{Bool, true}
use Prim.Native.Nat.{ℕ, ◌+◌, ◌-◌, ◌<◌, ◌≤◌}
use native.Mathlib.Omega.{arith}
use lib.ListN.{length, drop, get_or, length-append}
use Rattle.pcrl.specs.Sheet.{Proc, delta, atom, alt, cond, sum, seq, call}
use Rattle.pcrl.specs.Parts.{new_count}
use Rattle.nodes.specs.declared.Node.{Node}
use Rattle.nodes.specs.declared.Skipped.{Skipped}
use Rattle.nodes.specs.Layout.{Item, enc_datas, enc, encs, alt_kind, seq_kind, first_cell}
use Rattle.nodes.specs.Nodes.{kind_of, node_own, node_number, node_datas, node_kids, open_node, node_arity, kind_small, own_small}
use Rattle.nodes.specs.Views.{Views, Skips}
use Rattle.nodes.proofs.Cells.{read_cell}
use Rattle.nodes.proofs.Nodes.{one_item, items_end}
use Rattle.nodes.proofs.NewParts.{new_all, new_open}
use Rattle.counting.specs.declared.Counted.{Counted}
use Rattle.counting.specs.Limits.{most_heads, cut}
use Rattle.counting.specs.Count.{count_by, count_all, count_own, count_open, is_seq, cut_sum, cut_cut}
use Rattle.counting.specs.Counting.{Counts, leaf_of, pick}

alt_plain : (p : Proc) → kind_of p ≡ alt_kind → (node_number p ≡ 0) × (node_datas p ≡ [])
unfolding kind_of node_number node_datas
alt_plain delta e = absurd (omega arith)
alt_plain (atom a ds) e = absurd (omega arith)
alt_plain (alt p q) e = (refl, refl)
alt_plain (cond c p q) e = absurd (omega arith)
alt_plain (sum x D p) e = absurd (omega arith)
alt_plain (seq p q) e = absurd (omega arith)
alt_plain (call k ds) e = absurd (omega arith)

-- a choice that gets no new equation is known by its first cell
view_alt : (s : List ℕ) (at : ℕ) → get_or s at 0 ≡ alt_kind → Views s at (record { kind = alt_kind; own = 0; number = 0; terms = at + 3; datas = 0; kids = 2; next = at + 3 })
unfolding enc_datas
view_alt s at two b p xs rest e =
    let tl = encs (node_kids b p ++ xs) in
    let e₀ = read_cell s at (first_cell (node_number p) (node_own b p) (kind_of p)) (length (enc_datas (node_datas p)) ∷ length (node_datas p) ∷ ((enc_datas (node_datas p) ++ tl) ++ rest)) (e ∙ ap (λ (l : List ℕ). l ++ rest) (open_node b p xs)) in
    let k : kind_of p ≡ alt_kind = omega (arith, e₀.0, kind_small p) in
    let (number, datas) = alt_plain p k in
    let e₁ = read_cell s (at + 1) (length (enc_datas (node_datas p))) (length (node_datas p) ∷ ((enc_datas (node_datas p) ++ tl) ++ rest)) e₀.1 in
    let e₂ = read_cell s (at + 1 + 1) (length (node_datas p)) ((enc_datas (node_datas p) ++ tl) ++ rest) e₁.1 in
    let y : at + 1 + 1 + 1 ≡ at + 3 = omega arith in
    let e₃ : drop (at + 3) s ≡ tl ++ rest = rw (y, datas) at e₂.1 in
    record {
      kind_is = sym k;
      own_is = omega (arith, e₀.0, kind_small p, own_small b p);
      number_is = sym number;
      datas_is = rw datas refl;
      terms_are = rw datas e₃;
      kids_is = omega (arith, node_arity b p);
      next_is = e₃;
    }

-- the walk that counts heads
module _ (K : List ℕ) where
  abbrev pub look_count : ℕ → ℕ
  look_count k = get_or K k 0

  pub leaf_right : (p : Proc) → leaf_of K (kind_of p) (node_number p) ≡ count_own look_count p
  unfolding leaf_of pick kind_of node_number count_own
  leaf_right delta = refl
  leaf_right (atom a ds) = refl
  leaf_right (alt p q) = refl
  leaf_right (cond c p q) = refl
  leaf_right (sum x D p) = refl
  leaf_right (seq p q) = refl
  leaf_right (call k ds) = refl

  abbrev pub CountLeft : List ℕ → ℕ → ℕ → ℕ → ℕ → ℕ → Type 0
  CountLeft s at p need n m =
      (b : Bool) (q : Proc) (rest : List ℕ) → drop at s ≡ enc b q ++ rest
      → (xs : List Item) × (length xs ≡ need) × (drop p s ≡ encs xs ++ rest) × (cut (n + count_all look_count xs) ≡ cut (count_by look_count q)) × (cut (m + new_all xs) ≡ cut (new_count b q))

  pub count_start : (s : List ℕ) (at : ℕ) → CountLeft s at at 1 0 0
  unfolding count_all new_all
  count_start s at b q rest e = let z : 0 + (count_by look_count q + 0) ≡ count_by look_count q = omega arith in
      let y : 0 + (new_count b q + 0) ≡ new_count b q = omega arith in ((b, q) ∷ [], refl, e ∙ one_item b q rest, ap cut z, ap cut y)

  module _ (s : List ℕ) (at p need n m : ℕ) (left : CountLeft s at p need n m) where
    pub count_stuck : length s ≤ p → 0 < need → (r : Counted) → Counts s K at r
    count_stuck h k r b q rest e = let v = left b q rest e in absurd (items_end s p h v.0 rest (omega (arith, v.1)) v.2)

    pub count_done : need ≡ 0 → n ≤ most_heads → m ≤ most_heads → Counts s K at (record { next = p; heads = n; own = m })
    unfolding encs count_all new_all cut
    count_done z small low b q rest e = go (left b q rest e).0 (left b q rest e).1 (left b q rest e).2 (left b q rest e).3 (left b q rest e).4
      where
        go : (xs : List Item) → length xs ≡ need → drop p s ≡ encs xs ++ rest → cut (n + count_all look_count xs) ≡ cut (count_by look_count q) → cut (m + new_all xs) ≡ cut (new_count b q)
            → (n ≡ cut (count_by look_count q)) × (drop p s ≡ rest) × (m ≡ cut (new_count b q))
        go [] a f g h = let y : n ≡ cut (n + 0) = omega arith in
            let w : m ≡ cut (m + 0) = omega arith in (y ∙ g, f, w ∙ h)
        go (x ∷ xs) a f g h = absurd (omega arith)

    pub count_step : 0 < need → (d : Node) → Views s p d → (d.kind ≡ seq_kind → ⊥) → CountLeft s at d.next (need - 1 + d.kids) (cut (n + leaf_of K d.kind d.number)) (cut (m + d.own))
    count_step k d vw other b q rest e = go (left b q rest e).0 (left b q rest e).1 (left b q rest e).2 (left b q rest e).3 (left b q rest e).4
      where
        go : (xs : List Item) → length xs ≡ need → drop p s ≡ encs xs ++ rest → cut (n + count_all look_count xs) ≡ cut (count_by look_count q) → cut (m + new_all xs) ≡ cut (new_count b q)
            → (xs : List Item) × (length xs ≡ need - 1 + d.kids) × (drop d.next s ≡ encs xs ++ rest)
            × (cut (cut (n + leaf_of K d.kind d.number) + count_all look_count xs) ≡ cut (count_by look_count q))
            × (cut (cut (m + d.own) + new_all xs) ≡ cut (new_count b q))
        go [] a f g h = absurd (omega arith)
        go ((b', x) ∷ xs) a f g h =
            let o = vw b' x xs rest f in
            let l : leaf_of K d.kind d.number ≡ count_own look_count x = ap₂ (leaf_of K) o.kind_is o.number_is ∙ leaf_right x in
            let u : count_all look_count ((b', x) ∷ xs) ≡ count_own look_count x + count_all look_count (node_kids b' x ++ xs) = count_open look_count b' x xs (λ z. other (o.kind_is ∙ z)) in
            let w : n + leaf_of K d.kind d.number + count_all look_count (node_kids b' x ++ xs) ≡ n + count_all look_count ((b', x) ∷ xs) = omega arith in (
              node_kids b' x ++ xs,
              rw (length-append (node_kids b' x) xs, ← o.kids_is) (omega arith),
              o.next_is,
              cut_sum _ (count_all look_count (node_kids b' x ++ xs)) _ _ (cut_cut (n + leaf_of K d.kind d.number)) refl ∙ ap cut w ∙ g,
              (let v : m + d.own + new_all (node_kids b' x ++ xs) ≡ m + new_all ((b', x) ∷ xs) = omega (arith, o.own_is, new_open b' x xs) in
                  cut_sum _ (new_all (node_kids b' x ++ xs)) _ _ (cut_cut (m + d.own)) refl ∙ ap cut v ∙ h),
            )

    pub count_alt : 0 < need → get_or s p 0 ≡ alt_kind → n ≤ most_heads → m ≤ most_heads → CountLeft s at (p + 3) (need + 1) n m
    unfolding leaf_of pick cut
    count_alt k two small low =
        let x : need - 1 + 2 ≡ need + 1 = omega arith in
        let y : cut (n + 0) ≡ n = omega arith in
        let z : cut (m + 0) ≡ m = omega arith in
        subst (λ (i : ℕ). CountLeft s at (p + 3) i n m) x
        (subst (λ (i : ℕ). CountLeft s at (p + 3) (need - 1 + 2) i m) y
        (subst (λ (i : ℕ). CountLeft s at (p + 3) (need - 1 + 2) (cut (n + 0)) i) z
        (count_step k _ (view_alt s p two) (λ z. omega arith))))

    pub count_seq : 0 < need → (d : Node) → Views s p d → d.kind ≡ seq_kind → (a : Counted) (k : Skipped) → Counts s K d.next a → Skips s a.next k
        → CountLeft s at k.next (need - 1) (cut (n + a.heads)) (cut (m + cut (a.own + k.own)))
    unfolding encs node_kids node_own count_all count_by new_all
    count_seq pos d vw ten a k ha hk b q rest e = go (left b q rest e).0 (left b q rest e).1 (left b q rest e).2 (left b q rest e).3 (left b q rest e).4
      where
        shape : (b' : Bool) (xs : List Item) (y z : Proc) → drop d.next s ≡ encs ((b', y) ∷ (true, z) ∷ xs) ++ rest
            → (a.heads ≡ cut (count_by look_count y)) × (drop k.next s ≡ encs xs ++ rest) × (cut (a.own + k.own) ≡ cut (new_count b' (seq y z)))
        shape b' xs y z f =
            let f₁ : drop d.next s ≡ enc b' y ++ (enc true z ++ (encs xs ++ rest)) = f ∙ simp append_assoc in
            let h₁ = ha b' y (enc true z ++ (encs xs ++ rest)) f₁ in
            let h₂ = hk true z (encs xs ++ rest) h₁.1 in
            let w : new_count b' (seq y z) ≡ new_count b' y + new_count true z = (let v = new_open b' (seq y z) [] in omega arith) in
            (h₁.0, h₂.1, cut_sum a.own k.own (new_count b' y) (new_count true z) (ap cut h₁.2 ∙ cut_cut (new_count b' y)) (ap cut h₂.0) ∙ ap cut (sym w))

        go : (xs : List Item) → length xs ≡ need → drop p s ≡ encs xs ++ rest → cut (n + count_all look_count xs) ≡ cut (count_by look_count q) → cut (m + new_all xs) ≡ cut (new_count b q)
            → (xs : List Item) × (length xs ≡ need - 1) × (drop k.next s ≡ encs xs ++ rest) × (cut (cut (n + a.heads) + count_all look_count xs) ≡ cut (count_by look_count q))
            × (cut (cut (m + cut (a.own + k.own)) + new_all xs) ≡ cut (new_count b q))
        go [] c f g j = absurd (omega arith)
        go ((b', x) ∷ xs) c f g j =
            let o = vw b' x xs rest f in
            let i = is_seq x (sym o.kind_is ∙ ten) in
            let h = shape b' xs i.0 i.1 (o.next_is ∙ ap (λ (w : Proc). encs (node_kids b' w ++ xs) ++ rest) i.2) in
            let u : cut a.heads ≡ cut (count_by look_count x) = ap cut h.0 ∙ cut_cut (count_by look_count i.0) ∙ ap (λ (w : Proc). cut (count_by look_count w)) (sym i.2) in
            let w : cut (cut (n + a.heads)) ≡ cut (n + count_by look_count x) = cut_cut (n + a.heads) ∙ cut_sum n a.heads n (count_by look_count x) refl u in
            let z : n + count_by look_count x + count_all look_count xs ≡ n + (count_by look_count x + count_all look_count xs) = omega arith in
            let y : cut (cut (a.own + k.own)) ≡ cut (new_count b' x) = cut_cut (a.own + k.own) ∙ h.2 ∙ ap (λ (q : Proc). cut (new_count b' q)) (sym i.2) in
            let v : cut (cut (m + cut (a.own + k.own))) ≡ cut (m + new_count b' x) = cut_cut (m + cut (a.own + k.own)) ∙ cut_sum m (cut (a.own + k.own)) m (new_count b' x) refl y in
            let r : m + new_count b' x + new_all xs ≡ m + (new_count b' x + new_all xs) = omega arith in (
              xs,
              omega arith,
              h.1,
              cut_sum (cut (n + a.heads)) (count_all look_count xs) (n + count_by look_count x) (count_all look_count xs) w refl ∙ ap cut z ∙ g,
              cut_sum (cut (m + cut (a.own + k.own))) (new_all xs) (m + new_count b' x) (new_all xs) v refl ∙ ap cut r ∙ j,
            )
