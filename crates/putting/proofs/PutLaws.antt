-- A node's share, a node written, and a term written node by node.
use mathlib.Core.Path.{◌≡◌, refl, sym, ap, ap₂, ◌∙◌, subst}
use mathlib.Core.List.{List, [], ◌∷◌, ◌++◌, append_assoc, append-nil}
use Rattle.std.specs.Prelude.{Option, Some, None}
use Prim.Native.Nat.{ℕ, ◌+◌, ◌-◌, ◌*◌, ◌%◌, ◌<◌, ◌≤◌}
use native.Mathlib.Omega.{arith}
use native.Mathlib.Decide.{dec_le}
use lib.ListN.{length, drop, take, get_or, set, length-append, length-drop, length-set}
use lib.Seq.{length-take-le, drop-cons, paste, take-paste}
use Rattle.pcrl.specs.Limits.{max_nodes}
use Rattle.pcrl.specs.Tests.{Every}
use Rattle.pcrl.specs.Sheet.{Data, val, var, app, first_equal}
use Rattle.pcrl.specs.Values.{put_data}
use Rattle.pcrl.specs.Table.{nodes}
use Rattle.pcrl.specs.Stream.{function_code, encode_data}
use Rattle.pcrl.specs.Heads.{look}
use Rattle.laws.specs.TermLength.{narrow_length, max_term}
use Rattle.nodes.specs.declared.Datum.{Datum}
use Rattle.nodes.specs.Layout.{byte_limit, value_tag, variable_tag, function_tag, enc_data, enc_datas}
use Rattle.nodes.specs.Nodes.{data_tag, data_number, data_kids}
use Rattle.nodes.specs.Views.{DataViews}
use Rattle.nodes.proofs.Data.{datas_inside}
use Rattle.putting.specs.declared.Share.{Share}
use Rattle.putting.specs.declared.TermPut.{TermPut}
use Rattle.putting.specs.Slots.{slot_width, Slot, Slots, Writable, Adds}
use Rattle.putting.specs.Puts.{node_nodes, node_bytes, Shares, NodePut, Puts}
use Rattle.putting.proofs.Bytes.{cell_more, adds_then}
use Rattle.putting.proofs.Opening.{put_bytes, put_nodes, bytes_open, nodes_open, nodes_left, by_code, put_narrow, kids_writable}

-- what is marked as too long is
pub short : (k m : ℕ) → (max_nodes < k → max_nodes < m) → m ≤ max_nodes → k ≤ max_nodes
short k m f h = go (dec_le k max_nodes)
  where
    go : Dec (k ≤ max_nodes) → k ≤ max_nodes
    go (yes a) = a
    go (no a) = let z : max_nodes < m = f (let y : k ≤ max_nodes → ⊥ = a in omega arith) in absurd (omega arith)

-- A NODE

pub share_one : (slots : List ℕ) (n tag number : ℕ) → (tag ≡ variable_tag → ⊥) → number < first_equal → Shares slots n tag number (record { nodes = 1; bytes = 1 })
unfolding data_tag data_number node_nodes node_bytes Writable
share_one slots n tag number other few (val v) σ e f s w = (λ h. (refl, refl), λ h. h)
share_one slots n tag number other few (var i) σ e f s w = absurd (other e)
share_one slots n tag number other few (app g ds) σ e f s w = (λ h. (refl, by_code g (λ (c : List ℕ). 1 ≡ length c) w.0 (λ k. refl) (λ k. absurd (omega arith))), λ h. h)

-- `==` and its sort
pub share_two : (slots : List ℕ) (n tag number : ℕ) → (tag ≡ variable_tag → ⊥) → first_equal ≤ number → Shares slots n tag number (record { nodes = 1; bytes = 2 })
unfolding data_tag data_number node_nodes node_bytes Writable
share_two slots n tag number other many (val v) σ e f s w = absurd (omega arith)
share_two slots n tag number other many (var i) σ e f s w = absurd (other e)
share_two slots n tag number other many (app g ds) σ e f s w = (λ h. (refl, by_code g (λ (c : List ℕ). 2 ≡ length c) w.0 (λ k. absurd (omega arith)) (λ k. refl)), λ h. h)

pub share_slot : (slots : List ℕ) (n tag number k l : ℕ) → tag ≡ variable_tag → k ≡ get_or slots (slot_width * number) 0 → l ≡ get_or slots (slot_width * number + 1) 0
    → Shares slots n tag number (record { nodes = k; bytes = l })
unfolding data_tag data_number node_nodes node_bytes Writable
share_slot slots n tag number k l is ek el (val v) σ e f s w = absurd (omega arith)
share_slot slots n tag number k l is ek el (var i) σ e f s w =
    let z : Slot (look σ i) slots (slot_width * number) = subst (λ (j : ℕ). Slot (look σ i) slots (slot_width * j)) (sym f) (s.each i w) in
    (λ h. let y = z.whole (omega arith) in (ek ∙ y.0, el ∙ y.1), λ h. z.long (omega arith))
share_slot slots n tag number k l is ek el (app g ds) σ e f s w = absurd (omega arith)

module _ (slots : List ℕ) (n tag number l v : ℕ) (o : List ℕ) where
  no_bytes : (e : List ℕ) → 0 ≡ length e → take v o ≡ take v o ++ e
  no_bytes [] z = sym (append-nil (take v o))
  no_bytes (x ∷ e) z = absurd (omega arith)

  -- no bytes at all
  pub node_none : l ≡ 0 → NodePut slots n tag number l v o o
  node_none z d σ e f s w h q =
      let y : v + l ≡ v = omega arith in
      ap (λ (i : ℕ). take i o) y ∙ no_bytes (node_bytes σ d) (sym z ∙ q)

  -- a value
  pub node_value : v < length o → tag ≡ value_tag → NodePut slots n tag number l v o (set o v (number % byte_limit))
  unfolding data_tag data_number node_bytes Writable
  node_value i is (val x) σ e f s w h q =
      let z : number % byte_limit ≡ x = omega arith in
      let y : v + l ≡ v + 1 = omega arith in
      ap₂ (λ (j b : ℕ). take j (set o v b)) y z ∙ cell_more o v x i
  node_value i is (var x) σ e f s w h q = absurd (omega arith)
  node_value i is (app g ds) σ e f s w h q = absurd (omega arith)

  -- a function
  pub node_function : v < length o → tag ≡ function_tag → l ≤ 1 → NodePut slots n tag number l v o (set o v ((function_code + number) % byte_limit))
  unfolding data_tag data_number node_bytes Writable
  node_function i is one (val x) σ e f s w h q = absurd (omega arith)
  node_function i is one (var x) σ e f s w h q = absurd (omega arith)
  node_function i is one (app g ds) σ e f s w h q =
      by_code g (λ (c : List ℕ). l ≡ length c → Adds c v o (v + l) (set o v ((function_code + number) % byte_limit))) w.0
      (λ k m.
      let z : (function_code + number) % byte_limit ≡ function_code + g = omega arith in
      let y : v + l ≡ v + 1 = omega arith in
      ap₂ (λ (j b : ℕ). take j (set o v b)) y z ∙ cell_more o v (function_code + g) i)
      (λ k m. absurd (omega arith))
      q

  -- `==`
  pub node_equal : v + 1 < length o → tag ≡ function_tag → 1 < l → NodePut slots n tag number l v o (set (set o v 0x61) (v + 1) (number % byte_limit))
  unfolding data_tag data_number node_bytes Writable
  node_equal i is two (val x) σ e f s w h q = absurd (omega arith)
  node_equal i is two (var x) σ e f s w h q = absurd (omega arith)
  node_equal i is two (app g ds) σ e f s w h q =
      by_code g (λ (c : List ℕ). l ≡ length c → Adds c v o (v + l) (set (set o v 0x61) (v + 1) (number % byte_limit))) w.0
      (λ k m. absurd (omega arith))
      (λ k m.
      let a : g < first_equal + byte_limit = w.1 in
      let z : number % byte_limit ≡ g - first_equal = omega arith in
      let y : v + l ≡ v + 1 + 1 = omega arith in
      ap₂ (λ (j b : ℕ). take j (set (set o v 0x61) (v + 1) b)) y z
      ∙ adds_then (0x61 ∷ []) ((g - first_equal) ∷ []) v (v + 1) (v + 1 + 1) o (set o v 0x61) (set (set o v 0x61) (v + 1) (g - first_equal)) (cell_more o v 0x61 (omega arith))
      (cell_more (set o v 0x61) (v + 1) (g - first_equal) (omega (arith, length-set o v 0x61))))
      q

  -- the bytes of a slot
  held : (d : Data) → Slot d slots (slot_width * number) → nodes d ≤ max_nodes → l ≡ length (encode_data d) → take l (drop (slot_width * number + 2) slots) ≡ encode_data d
  held d z h q =
      let y = z.whole (short (get_or slots (slot_width * number) 0) (nodes d) z.long h) in
      ap (λ (k : ℕ). take k (drop (slot_width * number + 2) slots)) (q ∙ sym y.1) ∙ y.2

  -- a variable
  pub node_slot : (tag ≡ value_tag → ⊥) → (tag ≡ function_tag → ⊥) → slot_width * number + 2 + l ≤ length slots → v + l ≤ length o
      → NodePut slots n tag number l v o (paste o v (drop (slot_width * number + 2) slots) l)
  unfolding data_tag data_number node_bytes node_nodes Writable
  node_slot a b room fits (val x) σ e f s w h q = absurd (a e)
  node_slot a b room fits (var i) σ e f s w h q =
      let z : Slot (look σ i) slots (slot_width * number) = subst (λ (j : ℕ). Slot (look σ i) slots (slot_width * j)) (sym f) (s.each i w) in
      take-paste o v (drop (slot_width * number + 2) slots) l (omega arith) (omega (arith, length-drop (slot_width * number + 2) slots))
      ∙ ap (λ (x : List ℕ). take v o ++ x) (held (look σ i) z h q)
  node_slot a b room fits (app g ds) σ e f s w h q = absurd (b e)

  -- a variable whose term is one byte
  pub node_byte : (tag ≡ value_tag → ⊥) → (tag ≡ function_tag → ⊥) → slot_width * number + 2 + l ≤ length slots → v + l ≤ length o → l ≡ 1
      → NodePut slots n tag number l v o (set o v (get_or slots (slot_width * number + 2) 0))
  unfolding data_tag data_number node_bytes node_nodes Writable
  node_byte a b room fits one (val x) σ e f s w h q = absurd (a e)
  node_byte a b room fits one (var i) σ e f s w h q =
      let z : Slot (look σ i) slots (slot_width * number) = subst (λ (j : ℕ). Slot (look σ i) slots (slot_width * j)) (sym f) (s.each i w) in
      let x : ℕ = get_or slots (slot_width * number + 2) 0 in
      let g : take 1 (drop (slot_width * number + 2) slots) ≡ x ∷ [] = ap (take 1) (drop-cons slots (slot_width * number + 2) 0 (omega arith)) in
      ap (λ (j : ℕ). take (v + j) (set o v x)) one ∙ cell_more o v x (omega arith)
      ∙ ap (λ (y : List ℕ). take v o ++ y) (sym g ∙ ap (λ (j : ℕ). take j (drop (slot_width * number + 2) slots)) (sym one) ∙ held (look σ i) z h q)
  node_byte a b room fits one (app g ds) σ e f s w h q = absurd (b e)

  -- a slot that runs past the end is none
  pub node_past : (tag ≡ value_tag → ⊥) → (tag ≡ function_tag → ⊥) → slot_width * n ≤ length slots → length slots < slot_width * number + 2 + l
      → (o' : List ℕ) → NodePut slots n tag number l v o o'
  unfolding data_tag data_number node_bytes node_nodes Writable
  node_past a b room past o' (val x) σ e f s w h q = absurd (a e)
  node_past a b room past o' (var i) σ e f s w h q = absurd (omega (arith, (s.each i w).narrow))
  node_past a b room past o' (app g ds) σ e f s w h q = absurd (b e)

-- A TERM

module _ (cells : List ℕ) (at : ℕ) (slots : List ℕ) (n w : ℕ) (o : List ℕ) where
  -- What is left of a term: what is written, with the bytes of what is left, is what stood there and the whole; the nodes are all.
  pub record Left (d : Data) (rest : List ℕ) (σ : List Data) (p need k v : ℕ) (out : List ℕ) : Type 0 where
    pub terms : List Data
    pub many : length terms ≡ need
    pub place : drop p cells ≡ enc_datas terms ++ rest
    pub writable : Every (Writable n) terms
    pub bytes : take v out ++ put_bytes σ terms ≡ take w o ++ encode_data (put_data (look σ) d)
    pub nodes_are : k + put_nodes σ terms ≡ nodes (put_data (look σ) d)

  abbrev pub PutLeft : ℕ → ℕ → ℕ → ℕ → List ℕ → Type 0
  PutLeft p need k v out = (d : Data) (rest : List ℕ) (σ : List Data) → drop at cells ≡ enc_data d ++ rest → Slots σ slots n → Writable n d → Left d rest σ p need k v out

  pub put_start : PutLeft at 1 0 w o
  unfolding enc_datas put_bytes put_nodes Every
  put_start d rest σ e s a = record {
    terms = d ∷ [];
    many = refl;
    place = e ∙ rw (append-nil (enc_data d));
    writable = (a, tt);
    bytes = rw (append-nil (encode_data (put_data (look σ) d)));
    nodes_are = omega arith;
  }

  module _ (p need k v : ℕ) (out : List ℕ) (left : PutLeft p need k v out) where
    pub put_stuck : length cells ≤ p → 0 < need → (r : Option TermPut) (o' : List ℕ) → Puts cells at slots n w o r o'
    put_stuck h j r o' d rest σ e s a =
        let u = left d rest σ e s a in
        absurd (omega (arith, u.many, datas_inside cells p u.terms rest u.place))

    pub put_done : need ≡ 0 → k ≤ max_nodes → Puts cells at slots n w o (Some (record { nodes = k; w = v; next = p })) out
    unfolding enc_datas put_bytes put_nodes
    put_done z few d rest σ e s a = go (left d rest σ e s a).terms (left d rest σ e s a).many (left d rest σ e s a).place (left d rest σ e s a).bytes (left d rest σ e s a).nodes_are
      where
        go : (es : List Data) → length es ≡ need → drop p cells ≡ enc_datas es ++ rest → take v out ++ put_bytes σ es ≡ take w o ++ encode_data (put_data (look σ) d) → k + put_nodes σ es ≡ nodes (put_data (look σ) d)
            → (k ≡ nodes (put_data (look σ) d)) × (nodes (put_data (look σ) d) ≤ max_nodes) × Adds (encode_data (put_data (look σ) d)) w o v out × (drop p cells ≡ rest)
        go [] a f b g = (omega arith, omega arith, sym (append-nil (take v out)) ∙ b, f)
        go (x ∷ es) a f b g = absurd (omega arith)

    module _ (pos : 0 < need) (d' : Datum) (vw : DataViews cells p d') (r : Share) (sh : Shares slots n d'.tag d'.number r) where
      -- a node is read, and its bytes written
      pub put_on : r.nodes ≤ max_nodes → (out' : List ℕ) → NodePut slots n d'.tag d'.number r.bytes v out out'
          → PutLeft d'.next (need - 1 + d'.kids) (k + r.nodes) (v + r.bytes) out'
      unfolding Every
      put_on small out' np d rest σ e s a = go (left d rest σ e s a).terms (left d rest σ e s a).many (left d rest σ e s a).place (left d rest σ e s a).writable (left d rest σ e s a).bytes (left d rest σ e s a).nodes_are
        where
          go : (es : List Data) → length es ≡ need → drop p cells ≡ enc_datas es ++ rest → Every (Writable n) es
              → take v out ++ put_bytes σ es ≡ take w o ++ encode_data (put_data (look σ) d) → k + put_nodes σ es ≡ nodes (put_data (look σ) d)
              → Left d rest σ d'.next (need - 1 + d'.kids) (k + r.nodes) (v + r.bytes) out'
          go [] c f wr b g = absurd (omega arith)
          go (x ∷ es) c f wr b g =
              let u = vw x es rest f in
              let h = (sh x σ u.tag_is u.number_is s wr.0).0 small in
              let y : Adds (node_bytes σ x) v out (v + r.bytes) out' = np x σ u.tag_is u.number_is s wr.0 (omega (arith, h.0)) h.1 in
              record {
                terms = data_kids x ++ es;
                many = rw (length-append (data_kids x) es, ← u.kids_is) (omega arith);
                place = u.next_is;
                writable = kids_writable n x es wr.0 wr.1;
                bytes =
                    ap (λ (l : List ℕ). l ++ put_bytes σ (data_kids x ++ es)) y
                    ∙ append_assoc (take v out) (node_bytes σ x) (put_bytes σ (data_kids x ++ es))
                    ∙ ap (λ (l : List ℕ). take v out ++ l) (sym (bytes_open σ x es)) ∙ b;
                nodes_are = omega (arith, nodes_open σ x es, h.0);
              }

      -- too many nodes
      pub put_long : max_nodes + 1 < k + r.nodes + need → (o' : List ℕ) → Puts cells at slots n w o None o'
      unfolding Every
      put_long big o' d rest σ e s a = go (left d rest σ e s a).terms (left d rest σ e s a).many (left d rest σ e s a).place (left d rest σ e s a).writable (left d rest σ e s a).nodes_are
        where
          go : (es : List Data) → length es ≡ need → drop p cells ≡ enc_datas es ++ rest → Every (Writable n) es → k + put_nodes σ es ≡ nodes (put_data (look σ) d) → max_nodes < nodes (put_data (look σ) d)
          go [] c f wr g = absurd (omega arith)
          go (x ∷ es) c f wr g =
              let u = vw x es rest f in
              let h = sh x σ u.tag_is u.number_is s wr.0 in
              pick (dec_le r.nodes max_nodes) h
            where
              pick : Dec (r.nodes ≤ max_nodes) → (r.nodes ≤ max_nodes → (r.nodes ≡ node_nodes σ x) × (r.bytes ≡ length (node_bytes σ x))) × (max_nodes < r.nodes → max_nodes < node_nodes σ x)
                  → max_nodes < nodes (put_data (look σ) d)
              pick (yes small) h = omega (arith, (h.0 small).0, nodes_open σ x es, nodes_left σ (data_kids x ++ es), length-append (data_kids x) es)
              pick (no large) h = let z : max_nodes < node_nodes σ x = h.1 (let y : r.nodes ≤ max_nodes → ⊥ = large in omega arith) in omega (arith, nodes_open σ x es)

      -- too many bytes, so too many nodes
      pub put_wide : w ≤ length o → v ≤ length out → w + max_term < v + r.bytes → r.nodes ≤ max_nodes → (o' : List ℕ) → Puts cells at slots n w o None o'
      unfolding Every
      put_wide wo vo big small o' d rest σ e s a = go (left d rest σ e s a).terms (left d rest σ e s a).many (left d rest σ e s a).place (left d rest σ e s a).writable (left d rest σ e s a).bytes
        where
          go : (es : List Data) → length es ≡ need → drop p cells ≡ enc_datas es ++ rest → Every (Writable n) es → take v out ++ put_bytes σ es ≡ take w o ++ encode_data (put_data (look σ) d) → max_nodes < nodes (put_data (look σ) d)
          go [] c f wr b = absurd (omega arith)
          go (x ∷ es) c f wr b =
              let u = vw x es rest f in
              let h = ((sh x σ u.tag_is u.number_is s wr.0).0 small).1 in
              let m : length (take v out) + length (put_bytes σ (x ∷ es)) ≡ length (take w o) + length (encode_data (put_data (look σ) d)) = simp length-append at (ap length b) in
              let y : length (put_bytes σ (x ∷ es)) ≡ length (node_bytes σ x) + length (put_bytes σ (data_kids x ++ es)) = ap length (bytes_open σ x es) ∙ length-append (node_bytes σ x) (put_bytes σ (data_kids x ++ es)) in
              let l : max_term < length (encode_data (put_data (look σ) d)) = omega (arith, length-take-le v out vo, length-take-le w o wo) in
              pick (dec_le (nodes (put_data (look σ) d)) max_nodes) l
            where
              pick : Dec (nodes (put_data (look σ) d) ≤ max_nodes) → max_term < length (encode_data (put_data (look σ) d)) → max_nodes < nodes (put_data (look σ) d)
              pick (yes few) l = absurd (omega (arith, narrow_length (put_data (look σ) d) (put_narrow σ slots n s d a) few))
              pick (no many) l = let y : nodes (put_data (look σ) d) ≤ max_nodes → ⊥ = many in omega arith
