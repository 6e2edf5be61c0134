-- Several terms: one behind another, and in slots.
use mathlib.Core.Path.{◌≡◌, refl, sym, ap, ap₂, ◌∙◌, subst}
use mathlib.Core.List.{List, [], ◌∷◌, ◌++◌, map, append_assoc, append-nil}
use Rattle.std.specs.Prelude.{Some, None}
use Prim.Native.Nat.{ℕ, zero, suc, ◌+◌, ◌-◌, ◌*◌, ◌<◌, ◌≤◌}
use native.Mathlib.Omega.{arith}
use native.Mathlib.Decide.{ℕ_discrete}
use lib.ListN.{length, drop, take, get_or, set, length-append, length-map, length-set}
use lib.Seq.{take-take, length-take-le, get_or-take, get_or-drop, get_or-set_same, get_or-set_other, take-set-le, drop-set-lt, take-append-le, ext_get_or, drop_at}
use Rattle.pcrl.specs.Limits.{max_nodes}
use Rattle.pcrl.specs.Tests.{Every}
use Rattle.pcrl.specs.Reader.{all}
use Rattle.pcrl.specs.Sheet.{Data, val}
use Rattle.pcrl.specs.Values.{put_data}
use Rattle.pcrl.specs.Table.{nodes}
use Rattle.pcrl.specs.Stream.{encode_data}
use Rattle.pcrl.specs.Right.{Small}
use Rattle.pcrl.specs.Heads.{look}
use Rattle.laws.specs.Lists.{get_d_map}
use Rattle.nodes.specs.Layout.{enc_data, enc_datas}
use Rattle.nodes.specs.Views.{SkipsData}
use Rattle.putting.specs.declared.TermPut.{TermPut}
use Rattle.laws.specs.TermLength.{max_term}
use Rattle.putting.specs.Slots.{slot_width, Slot, Slots, Writable, Adds}
use Rattle.putting.specs.Puts.{Puts, PutsAll, SlotPut, Fills}
use Rattle.putting.proofs.Bytes.{kept_front}
use Rattle.putting.proofs.Opening.{put_narrow}

one_data : (d : Data) (rest : List ℕ) → enc_data d ++ rest ≡ enc_datas (d ∷ []) ++ rest
unfolding enc_datas
one_data d rest = ap (λ (l : List ℕ). l ++ rest) (sym (append-nil (enc_data d)))

one_first : {cells : List ℕ} (x : Data) (es : List Data) (rest : List ℕ) → cells ≡ enc_datas (x ∷ es) ++ rest → cells ≡ enc_data x ++ (enc_datas es ++ rest)
unfolding enc_datas
one_first x es rest e = e ∙ append_assoc (enc_data x) (enc_datas es) rest

-- ONE BEHIND ANOTHER

module _ (cells : List ℕ) (at count : ℕ) (slots : List ℕ) (n w : ℕ) (o : List ℕ) where
  pub record TermsLeft (ds : List Data) (rest : List ℕ) (σ : List Data) (p j v : ℕ) (out : List ℕ) : Type 0 where
    pub terms : List Data
    pub many : length terms + j ≡ count
    pub place : drop p cells ≡ enc_datas terms ++ rest
    pub writable : Every (Writable n) terms
    pub bytes : take v out ++ all encode_data (map (put_data (look σ)) terms) ≡ take w o ++ all encode_data (map (put_data (look σ)) ds)
    pub small : Every Small (map (put_data (look σ)) terms) → Every Small (map (put_data (look σ)) ds)
    pub small_left : Every Small (map (put_data (look σ)) ds) → Every Small (map (put_data (look σ)) terms)

  abbrev pub AllLeft : ℕ → ℕ → ℕ → List ℕ → Type 0
  AllLeft p j v out = (ds : List Data) (rest : List ℕ) (σ : List Data) → length ds ≡ count → drop at cells ≡ enc_datas ds ++ rest → Slots σ slots n → Every (Writable n) ds → TermsLeft ds rest σ p j v out

  pub terms_start : AllLeft at 0 w o
  terms_start ds rest σ l e s a = record { terms = ds; many = omega arith; place = e; writable = a; bytes = refl; small = λ h. h; small_left = λ h. h }

  module _ (p j v : ℕ) (out : List ℕ) (left : AllLeft p j v out) where
    pub terms_done : count ≤ j → PutsAll cells at count slots n w o (Some v) out
    unfolding all Every
    terms_done h ds rest σ l e s a = go (left ds rest σ l e s a).terms (left ds rest σ l e s a).many (left ds rest σ l e s a).bytes (left ds rest σ l e s a).small
      where
        go : (es : List Data) → length es + j ≡ count → take v out ++ all encode_data (map (put_data (look σ)) es) ≡ take w o ++ all encode_data (map (put_data (look σ)) ds)
            → (Every Small (map (put_data (look σ)) es) → Every Small (map (put_data (look σ)) ds))
            → Every Small (map (put_data (look σ)) ds) × Adds (all encode_data (map (put_data (look σ)) ds)) w o v out
        go [] a g f = (f tt, sym (append-nil (take v out)) ∙ g)
        go (x ∷ es) a g f = absurd (omega arith)

    module _ (k : j < count) (out' : List ℕ) where
      pub terms_on : (r : TermPut) → Puts cells p slots n v out (Some r) out' → AllLeft r.next (j + 1) r.w out'
      unfolding all Every
      terms_on r h ds rest σ l e s a = go (left ds rest σ l e s a).terms (left ds rest σ l e s a).many (left ds rest σ l e s a).place (left ds rest σ l e s a).writable (left ds rest σ l e s a).bytes (left ds rest σ l e s a).small (left ds rest σ l e s a).small_left
        where
          go : (es : List Data) → length es + j ≡ count → drop p cells ≡ enc_datas es ++ rest → Every (Writable n) es
              → take v out ++ all encode_data (map (put_data (look σ)) es) ≡ take w o ++ all encode_data (map (put_data (look σ)) ds)
              → (Every Small (map (put_data (look σ)) es) → Every Small (map (put_data (look σ)) ds)) → (Every Small (map (put_data (look σ)) ds) → Every Small (map (put_data (look σ)) es))
              → TermsLeft ds rest σ r.next (j + 1) r.w out'
          go [] a f wr g i m = absurd (omega arith)
          go (x ∷ es) a f wr g i m =
              let u = h x (enc_datas es ++ rest) σ (one_first x es rest f) s wr.0 in
              record {
                terms = es;
                many = omega arith;
                place = u.3;
                writable = wr.1;
                bytes = ap (λ (z : List ℕ). z ++ all encode_data (map (put_data (look σ)) es)) u.2 ∙ append_assoc (take v out) (encode_data (put_data (look σ) x)) (all encode_data (map (put_data (look σ)) es)) ∙ g;
                small = λ z. i (u.1, z);
                small_left = λ z. (m z).1;
              }

      pub terms_long : Puts cells p slots n v out None out' → (o' : List ℕ) → PutsAll cells at count slots n w o None o'
      unfolding all Every
      terms_long h o' ds rest σ l e s a = go (left ds rest σ l e s a).terms (left ds rest σ l e s a).many (left ds rest σ l e s a).place (left ds rest σ l e s a).writable (left ds rest σ l e s a).small_left
        where
          go : (es : List Data) → length es + j ≡ count → drop p cells ≡ enc_datas es ++ rest → Every (Writable n) es → (Every Small (map (put_data (look σ)) ds) → Every Small (map (put_data (look σ)) es)) → ¬ (Every Small (map (put_data (look σ)) ds))
          go [] a f wr m z = absurd (omega arith)
          go (x ∷ es) a f wr m z =
              let y = one_first x es rest f in
              let u = h x (enc_datas es ++ rest) σ y s wr.0 in
              let v = (m z).0 in omega arith

-- IN SLOTS

take_of_drop : (k b : ℕ) (l : List ℕ) → take k (drop b l) ≡ drop b (take (b + k) l)
take_of_drop k zero l = let z : 0 + k ≡ k = omega arith in ap (λ (i : ℕ). take i l) (sym z)
take_of_drop k (suc b) [] = lib.Seq.take-nil k ∙ sym (ap (drop (suc b)) (lib.Seq.take-nil (suc b + k)))
take_of_drop k (suc b) (x ∷ l) = take_of_drop k b l ∙ (let z : suc b + k ≡ suc (b + k) = omega arith in ap (λ (i : ℕ). drop (suc b) (take i (x ∷ l))) (sym z))

-- where the front is as it was
module _ (w : ℕ) (o o' : List ℕ) (e : take w o' ≡ take w o) where
  pub same_at : (i : ℕ) → i < w → get_or o' i 0 ≡ get_or o i 0
  same_at i l = sym (get_or-take w o' i 0 l) ∙ ap (λ (x : List ℕ). get_or x i 0) e ∙ get_or-take w o i 0 l

  pub same_part : (b k : ℕ) → b + k ≤ w → take k (drop b o') ≡ take k (drop b o)
  same_part b k l = take_of_drop k b o' ∙ ap (drop b) (kept_front (b + k) w o o' l e) ∙ sym (take_of_drop k b o)

  -- so is a slot in it
  pub slot_kept : (d : Data) (b : ℕ) → b + slot_width ≤ w → Slot d o b → Slot d o' b
  slot_kept d b h s = record { whole = whole; long = λ k. s.long (omega (arith, same_at b (omega arith))); narrow = s.narrow }
    where
      whole : get_or o' b 0 ≤ max_nodes → (get_or o' b 0 ≡ nodes d) × (get_or o' (b + 1) 0 ≡ length (encode_data d)) × (take (get_or o' (b + 1) 0) (drop (b + 2) o') ≡ encode_data d)
      whole k =
          let y = s.whole (omega (arith, same_at b (omega arith))) in
          let z : get_or o (b + 1) 0 ≤ max_term = omega (arith, y.0, y.1, same_at b (omega arith), s.narrow) in (
            same_at b (omega arith) ∙ y.0,
            same_at (b + 1) (omega arith) ∙ y.1,
            ap (λ (i : ℕ). take i (drop (b + 2) o')) (same_at (b + 1) (omega arith)) ∙ same_part (b + 2) (get_or o (b + 1) 0) (omega arith) ∙ y.2,
          )

module _ (cells : List ℕ) (at : ℕ) (slots : List ℕ) (n b : ℕ) (o out : List ℕ) (room : b + slot_width ≤ length out) where
  pub slot_long : Puts cells at slots n (b + 2) o None out → (q : ℕ) → SkipsData cells at 1 q → SlotPut cells at slots n (set out b 255) b q
  slot_long put q sk d rest σ e s a = (marked, sk (d ∷ []) rest refl (e ∙ one_data d rest))
    where
      marked : Slot (put_data (look σ) d) (set out b 255) b
      marked = record { whole = λ k. absurd (omega (arith, get_or-set_same out b 255 0 (omega arith))); long = λ k. put d rest σ e s a; narrow = put_narrow σ slots n s d a }

  pub slot_whole : (r : TermPut) → Puts cells at slots n (b + 2) o (Some r) out → b + 2 ≤ r.w → r.w ≤ b + slot_width → b + 2 ≤ length o → SlotPut cells at slots n (set (set out b r.nodes) (b + 1) (r.w - (b + 2))) b r.next
  slot_whole r put past most inside d rest σ e s a = (held, u.3)
    where
      u : (r.nodes ≡ nodes (put_data (look σ) d)) × (nodes (put_data (look σ) d) ≤ max_nodes) × Adds (encode_data (put_data (look σ) d)) (b + 2) o r.w out × (drop r.next cells ≡ rest)
      u = put d rest σ e s a

      one : get_or (set out b r.nodes) b 0 ≡ r.nodes
      one = get_or-set_same out b r.nodes 0 (omega arith)

      first : get_or (set (set out b r.nodes) (b + 1) (r.w - (b + 2))) b 0 ≡ r.nodes
      first = get_or-set_other (set out b r.nodes) (b + 1) b (r.w - (b + 2)) 0 (λ z. omega arith) ∙ one

      second : get_or (set (set out b r.nodes) (b + 1) (r.w - (b + 2))) (b + 1) 0 ≡ r.w - (b + 2)
      second = get_or-set_same (set out b r.nodes) (b + 1) (r.w - (b + 2)) 0 (omega (arith, length-set out b r.nodes))

      E : List ℕ
      E = encode_data (put_data (look σ) d)

      long : r.w - (b + 2) ≡ length E
      long =
          let m : length (take r.w out) ≡ length (take (b + 2) o) + length E = ap length u.2 ∙ length-append (take (b + 2) o) E in
          omega (arith, length-take-le r.w out (omega arith), length-take-le (b + 2) o inside)

      bytes : take (r.w - (b + 2)) (drop (b + 2) out) ≡ E
      bytes =
          let z : b + 2 + (r.w - (b + 2)) ≡ r.w = omega arith in
          take_of_drop (r.w - (b + 2)) (b + 2) out ∙ ap (λ (i : ℕ). drop (b + 2) (take i out)) z ∙ ap (drop (b + 2)) u.2 ∙ drop_at (take (b + 2) o) E (b + 2) (length-take-le (b + 2) o inside)

      held : Slot (put_data (look σ) d) (set (set out b r.nodes) (b + 1) (r.w - (b + 2))) b
      held = record {
        whole = λ k. (first ∙ u.0, second ∙ long, ap₂ (λ (i : ℕ) (l : List ℕ). take i l) second (drop-set-lt (b + 2) (set out b r.nodes) (b + 1) (r.w - (b + 2)) (omega arith) ∙ drop-set-lt (b + 2) out b r.nodes (omega arith)) ∙ bytes);
        long = λ k. absurd (omega (arith, first, u.0, u.1));
        narrow = put_narrow σ slots n s d a;
      }

-- each term comes to stand in its slot
module _ (cells : List ℕ) (at count : ℕ) (slots : List ℕ) (n : ℕ) where
  pub record Slotted (ds : List Data) (rest : List ℕ) (σ : List Data) (p j : ℕ) (out : List ℕ) : Type 0 where
    pub terms : List Data
    pub many : length terms + j ≡ count
    pub place : drop p cells ≡ enc_datas terms ++ rest
    pub writable : Every (Writable n) terms
    pub left : (i : ℕ) → get_or ds (j + i) (val 0) ≡ get_or terms i (val 0)
    pub done : (i : ℕ) → i < j → Slot (put_data (look σ) (get_or ds i (val 0))) out (slot_width * i)

  abbrev pub SlotsLeft : ℕ → ℕ → List ℕ → Type 0
  SlotsLeft p j out = (ds : List Data) (rest : List ℕ) (σ : List Data) → length ds ≡ count → drop at cells ≡ enc_datas ds ++ rest → Slots σ slots n → Every (Writable n) ds → Slotted ds rest σ p j out

  pub slots_start : (o : List ℕ) → SlotsLeft at 0 o
  slots_start o ds rest σ l e s a = record {
    terms = ds;
    many = omega arith;
    place = e;
    writable = a;
    left = λ i. let z : 0 + i ≡ i = omega arith in ap (λ (k : ℕ). get_or ds k (val 0)) z;
    done = λ i h. absurd (omega arith);
  }

  module _ (p j : ℕ) (out : List ℕ) (left : SlotsLeft p j out) where
    pub slots_on : j < count → (out' : List ℕ) → take (slot_width * j) out' ≡ take (slot_width * j) out → (q : ℕ) → SlotPut cells p slots n out' (slot_width * j) q → SlotsLeft q (j + 1) out'
    unfolding Every
    slots_on k out' kept q h ds rest σ l e s a = go (left ds rest σ l e s a).terms (left ds rest σ l e s a).many (left ds rest σ l e s a).place (left ds rest σ l e s a).writable (left ds rest σ l e s a).left (left ds rest σ l e s a).done
      where
        go : (es : List Data) → length es + j ≡ count → drop p cells ≡ enc_datas es ++ rest → Every (Writable n) es → ((i : ℕ) → get_or ds (j + i) (val 0) ≡ get_or es i (val 0))
            → ((i : ℕ) → i < j → Slot (put_data (look σ) (get_or ds i (val 0))) out (slot_width * i)) → Slotted ds rest σ q (j + 1) out'
        go [] a f wr g d = absurd (omega arith)
        go (x ∷ es) a f wr g d =
            record {
              terms = es;
              many = omega arith;
              place = here.1;
              writable = wr.1;
              left = λ i. (let z : j + 1 + i ≡ j + suc i = omega arith in ap (λ (k : ℕ). get_or ds k (val 0)) z) ∙ g (suc i);
              done = λ i b. each i b (ℕ_discrete i j);
            }
          where
            here : Slot (put_data (look σ) x) out' (slot_width * j) × (drop q cells ≡ enc_datas es ++ rest)
            here = h x (enc_datas es ++ rest) σ (one_first x es rest f) s wr.0

            first : get_or ds j (val 0) ≡ x
            first = (let z : j ≡ j + 0 = omega arith in ap (λ (k : ℕ). get_or ds k (val 0)) z) ∙ g 0

            each : (i : ℕ) → i < j + 1 → Dec (i ≡ j) → Slot (put_data (look σ) (get_or ds i (val 0))) out' (slot_width * i)
            each i b (yes z) =
                subst (λ (k : ℕ). Slot (put_data (look σ) (get_or ds k (val 0))) out' (slot_width * k)) (sym z)
                (subst (λ (t : Data). Slot (put_data (look σ) t) out' (slot_width * j)) (sym first) here.0)
            each i b (no z) = let y : i < j = (let x : i ≡ j → ⊥ = z in omega arith) in slot_kept (slot_width * j) out out' kept (put_data (look σ) (get_or ds i (val 0))) (slot_width * i) (omega arith) (d i y)

    pub slots_done : count ≤ j → Fills cells at count slots n out
    unfolding look
    slots_done h ds rest σ l e s a = record {
      many = length-map ds (put_data (look σ)) ∙ l;
      each = λ i b.
          let z : i < j = omega (arith, (left ds rest σ l e s a).many) in
          subst (λ (t : Data). Slot t out (slot_width * i)) (sym (get_d_map (put_data (look σ)) ds i (val 0) (val 0) (omega arith))) ((left ds rest σ l e s a).done i z);
    }
