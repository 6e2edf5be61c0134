-- Values put one behind another, and the start of a table.
use mathlib.Core.Path.{◌≡◌, refl, sym, ap, ap₂, subst, ◌∙◌}
use mathlib.Core.List.{List, [], ◌∷◌, ◌++◌, append-nil, append_assoc, map}
use mathlib.Core.Bool.{false}
use Prim.Native.Nat.{ℕ, suc, ◌+◌, ◌%◌, ◌≤◌, ◌<◌, min}
use native.Mathlib.Nat.{mod-eq_of_lt}
use native.Mathlib.Numerals.{add-one}
use native.Mathlib.Omega.{arith}
use lib.ListN.{length, take, drop, get_or, length-append, length-drop, length-map}
use lib.Seq.{drop-cons, length-take-le}
use Rattle.pcrl.specs.Tests.{Between, Each}
use Rattle.pcrl.specs.Sheet.{Data, call, Sig, size, params}
use Rattle.pcrl.specs.Sorts.{closed, Arguments, Sorted}
use Rattle.pcrl.specs.Values.{eval}
use Rattle.pcrl.specs.Right.{RightSizes, RightSig}
use Rattle.pcrl.specs.Stream.{encode_start}
use Rattle.laws.specs.Every.{every_get_or, every_weaken}
use Rattle.nodes.specs.declared.Node.{Node}
use Rattle.nodes.specs.Layout.{byte_limit, enc_datas, enc, encs}
use Rattle.nodes.specs.Nodes.{node_number, node_datas, node_kids}
use Rattle.nodes.specs.Views.{On, Views}
use Rattle.std.specs.Prelude.{Option, Some, None}
use Rattle.emit.specs.Putting.{PutsTo, NoRoom}
use Rattle.emit.proofs.Putting.{puts_none, puts_then, puts_as, no_room_as, no_room_then}
use Rattle.emit.proofs.SignatureLaws.{puts_behind, puts_same}
use Rattle.initial.specs.Symbols.{cells_of, all_symbols, run}
use Rattle.initial.specs.Evaluating.{Known, Evaluates, PutsValues, PutsStart}
use Rattle.initial.proofs.Functions.{value_below}
use Rattle.initial.proofs.CellLaws.{between, cut}
use Rattle.initial.proofs.SymbolLaws.{all_cells, run_all}

abbrev low_byte : ℕ → ℕ
low_byte v = v % byte_limit

-- VALUES
module _ (c : List ℕ) (at n w : ℕ) (o : List ℕ) where
  -- after i of the values: what is put, what is left and where it stands
  pub record Left (vs rest : List ℕ) (i p v : ℕ) (q : List ℕ) : Type 0 where
    pub done : List ℕ
    pub more : List ℕ
    pub many : i + length more ≡ n
    pub stand : drop p c ≡ more ++ rest
    pub whole : map low_byte vs ≡ done ++ map low_byte more
    pub puts : PutsTo done w o v q

  abbrev pub ValuesLeft : ℕ → ℕ → ℕ → List ℕ → Type 0
  ValuesLeft i p v q = (vs rest : List ℕ) → length vs ≡ n → drop at c ≡ vs ++ rest → Left vs rest i p v q

  pub values_start : ValuesLeft 0 at w o
  values_start vs rest e s = record { done = []; more = vs; many = omega arith; stand = s; whole = refl; puts = puts_none w o }

  -- past the end no value is left
  pub values_none : (i p v : ℕ) (q : List ℕ) → i < n → length c ≤ p → ValuesLeft i p v q → PutsValues c at n w o (Some v) q
  values_none i p v q h k left vs rest e s =
      let l = left vs rest e s in
      let many = l.many in
      absurd (omega (arith, ap length l.stand, length-drop p c, length-append l.more rest))

  pub values_go : (i p v : ℕ) (q : List ℕ) (x b u : ℕ) (t : List ℕ) → i < n → p < length c → x ≡ get_or c p 0 → b ≡ x % byte_limit → PutsTo (b ∷ []) v q u t → ValuesLeft i p v q → ValuesLeft (i + 1) (p + 1) u t
  values_go i p v q x b u t h k ex eb put left vs rest e s = go l.more l.many l.stand l.whole
    where
      l : Left vs rest i p v q
      l = left vs rest e s

      go : (more : List ℕ) → i + length more ≡ n → drop p c ≡ more ++ rest → map low_byte vs ≡ l.done ++ map low_byte more → Left vs rest (i + 1) (p + 1) u t
      go [] m d z = absurd (omega arith)
      go (y ∷ more) m d z =
          let cons : get_or c p 0 ∷ drop (suc p) c ≡ y ∷ (more ++ rest) = sym (drop-cons c p 0 k) ∙ d in
          let same : get_or c p 0 ≡ y = cc in
          let others : drop (suc p) c ≡ more ++ rest = cc in
          record {
            done = l.done ++ (low_byte y ∷ []);
            more = more;
            many = omega arith;
            stand = ap (λ (j : ℕ). drop j c) (add-one p) ∙ others;
            whole = z ∙ sym (append_assoc l.done (low_byte y ∷ []) (map low_byte more));
            puts = puts_then l.puts (subst (λ (a : ℕ). PutsTo (a ∷ []) v q u t) (eb ∙ ap low_byte (ex ∙ same)) put);
          }

  -- no room for one of them
  pub values_no_room : (i p v : ℕ) (q : List ℕ) (b : ℕ) (t : List ℕ) → i < n → NoRoom (b ∷ []) v q t → ValuesLeft i p v q → PutsValues c at n w o None t
  values_no_room i p v q b t h put left vs rest e s =
      let l = left vs rest e s in
      let many = l.many in
      no_room_as (omega (arith, ap length l.whole, length-append l.done (map low_byte l.more), length-append l.done (b ∷ []), length-map l.more low_byte)) (no_room_then l.puts put)

  pub values_end : (i p v : ℕ) (q : List ℕ) → n ≤ i → ValuesLeft i p v q → PutsValues c at n w o (Some v) q
  values_end i p v q h left vs rest e s = go l.more l.many l.whole
    where
      l : Left vs rest i p v q
      l = left vs rest e s

      go : (more : List ℕ) → i + length more ≡ n → map low_byte vs ≡ l.done ++ map low_byte more → PutsTo (map low_byte vs) w o v q
      go [] m z = puts_as w o v q (sym (z ∙ append-nil l.done)) l.puts
      go (y ∷ more) m z = absurd (omega arith)

-- sizes fit a byte
size_small : (S : Sig) → RightSig S → (D : ℕ) → size S D < byte_limit
unfolding RightSig RightSizes size
size_small S right D =
    every_get_or (λ s. s < byte_limit) S.sorts 0 D (every_weaken (Between 1 16) (λ s. s < byte_limit) (λ s h. omega arith) S.sorts right.0.0.1) (omega arith)

-- and so do the values of terms
values_small : (S : Sig) (sizes funcs values places : List ℕ) → Known S sizes funcs values places → (ds : List Data) (Ds : List ℕ) → Arguments S closed ds Ds → map low_byte (map (eval S []) ds) ≡ map (eval S []) ds
unfolding Each
values_small S sizes funcs values places K [] Ds h = refl
values_small S sizes funcs values places K (d ∷ ds) [] h = absurd h
values_small S sizes funcs values places K (d ∷ ds) (D ∷ Ds) h =
    let below = value_below S sizes funcs values places K d D h.0 in
    let small : eval S [] d < byte_limit = omega (arith, size_small S K.right D) in
    ap₂ (λ (x : ℕ) (l : List ℕ). x ∷ l) (mod-eq_of_lt small) (values_small S sizes funcs values places K ds Ds h.1)

-- THE START
module _ (sizes funcs values places c : List ℕ) (at w : ℕ) (o : List ℕ) where
  -- no room for a node
  pub no_start : length c ≤ at → (r : Option ℕ) (q : List ℕ) → PutsStart sizes funcs values places c at w o r q
  unfolding enc
  no_start h r q H K few sorted (rest, e) = absurd (omega (arith, ap length e, length-drop at c, length-append (enc false (call H.start.0 H.start.1)) rest))

  -- no room for the process's number
  pub start_no_room : (b : ℕ) (p : List ℕ) → NoRoom (b ∷ []) w o p → PutsStart sizes funcs values places c at w o None p
  unfolding encode_start
  start_no_room b p h H K few sorted stand = no_room_as (omega arith) h

  pub start_put : (n : Node) (b v : ℕ) (p : List ℕ) (end t : ℕ) (c' : List ℕ) (r : Option ℕ) (q : List ℕ) → On at n → Views c at n → b ≡ n.number % byte_limit → PutsTo (b ∷ []) w o v p → end ≡ min n.next (length c)
      → Evaluates sizes funcs values places c n.terms end t c' → PutsValues c' t n.datas v p r q → PutsStart sizes funcs values places c at w o r q
  unfolding Sorted encode_start node_number node_datas node_kids encs enc cells_of run
  start_put n b v p end t c' r q on views eb put ee evaluated values_put H K few sorted (rest, e) =
      let k = H.start.0 in
      let ds = H.start.1 in
      let S = H.sig in
      let u = views false (call k ds) [] rest (e ∙ ap (λ (l : List ℕ). l ++ rest) (sym (append-nil (enc false (call k ds))))) in
      let terms_at = on.terms_at in
      let room : n.terms ≤ length c = omega (arith, ap length e, length-drop at c, length-append (enc false (call k ds)) rest) in
      let byte : b ≡ k = eb ∙ ap low_byte u.number_is ∙ mod-eq_of_lt (omega (arith, sorted.0)) in
      let behind : drop end c ≡ rest = ap (λ (j : ℕ). drop j c) ee ∙ cut c rest n.next u.next_is in
      let stand : take end c ≡ take n.terms c ++ cells_of (all_symbols ds []) =
      between c (enc_datas ds) rest n.terms end room (omega arith) u.terms_are behind ∙ ap (λ (l : List ℕ). take n.terms c ++ l) (sym (all_cells S sizes funcs values places K ds (params H k) [] sorted.1)) in
      let found : drop t c' ≡ map (eval S []) ds ++ drop end c = evaluated (take n.terms c) (all_symbols ds []) (length-take-le n.terms c room) stand ∙ run_all S sizes funcs values places K ds (params H k) [] (drop end c) sorted.1 in
      puts_behind w o r q _ _ v p (subst (λ (y : ℕ). PutsTo (y ∷ []) w o v p) byte put)
      (puts_same v p r q (values_small S sizes funcs values places K ds (params H k) sorted.1)
      (values_put (map (eval S []) ds) (drop end c) (length-map ds (eval S []) ∙ sym u.datas_is) found))
