-- A name's key, byte by byte of its run; names that are looked up by their keys; what is left of a list of names.
use Rattle.std.specs.Prelude.{Some, None}
use mathlib.Core.Path.{◌≡◌, refl, sym, ◌∙◌, ap}
use mathlib.Core.List.{List, [], ◌∷◌, map}
use mathlib.Core.Logic.{⊎_elim}
use Prim.Native.Nat.{ℕ, zero, suc, ◌+◌, ◌-◌, ◌≤◌, ◌<◌}
use native.Mathlib.Omega.{arith}
use native.Mathlib.Nat.{eq-or-lt_of_le}
use lib.ListN.{length, take, drop, get_or, length-map, length-take, length-drop}
use lib.Seq.{get_or-drop}
use Rattle.pcrl.specs.Tree.{Name}
use Rattle.pcrl.specs.Names.{number_of}
use Rattle.laws.specs.Places.{take_none}
use Rattle.lexer.specs.Cells.{first_name}
use Rattle.names.specs.NameCells.{name_at, scope_at, found, shown}
use Rattle.names.specs.NameKeys.{key_count, mix, key_on, key_of, FirstFrom, Keyed, names_from}
use Rattle.names.proofs.Runs.{run_at, run_ends, run_from}
use Rattle.names.proofs.Numbers.{Searched, search_starts, search_finds, search_goes, search_ends}

-- the key of the name of cell c, by what is left of its run at p
abbrev pub KeyLeft : List ℕ → ℕ → ℕ → ℕ → Type 0
KeyLeft s c k p = key_of (name_at s c) ≡ key_on k (run_at s p)

pub key_starts : (s : List ℕ) (c p : ℕ) → p ≡ c - first_name → KeyLeft s c 0 p
unfolding name_at key_of
key_starts s c p e = ap (λ (q : ℕ). key_on 0 (run_at s q)) (sym e)

pub key_ends : (s : List ℕ) (c k p : ℕ) → KeyLeft s c k p → shown (get_or s p 0) ≡ 0 → k ≡ key_of (name_at s c)
unfolding key_on
key_ends s c k p h z = sym (h ∙ ap (key_on k) (run_ends s p z))

pub key_goes : (s : List ℕ) (c k p b k' p' : ℕ) → KeyLeft s c k p → b ≡ shown (get_or s p 0) → (b ≡ 0 → ⊥) → k' ≡ mix k b → p' ≡ p + 1 → KeyLeft s c k' p'
unfolding key_on
key_goes s c k p b k' p' h e n m q =
    let g : run_at s p ≡ b ∷ run_at s p' = run_from s p b p' (sym e) n q in
    h ∙ (ap (key_on k) g ∙ ap (λ (j : ℕ). key_on j (run_at s p')) (sym m))

module _ (s names : List ℕ) where
  first_fewer : (m n k p q : ℕ) → m ≤ n → FirstFrom s names n k p q → FirstFrom s names m k p q
  first_fewer m n k p q h F = record { from = F.from; has = λ l. F.has (omega arith); least = λ j a l. F.least j a (omega arith) }

  module _ (lo count : ℕ) (x : Name) where
    -- the names from lo on and before the place i are others
    abbrev Others : ℕ → Type 0
    Others i = (j : ℕ) → j < count → lo + j < i → x ≡ name_at s (get_or names (lo + j) 0) → ⊥

    -- the search is at the place i: its name has the key, and those before it are others
    pub record Along (i : ℕ) : Type 0 where
      pub own : i < lo + count → key_of (name_at s (get_or names i 0)) ≡ key_of x
      pub others : Others i

  module _ (nexts firsts : List ℕ) where
    pub keyed_fewer : (m n : ℕ) → m ≤ n → Keyed s names nexts firsts n → Keyed s names nexts firsts m
    keyed_fewer m n h K = record {
      names_few = omega (arith, K.names_few);
      nexts_few = omega (arith, K.nexts_few);
      first_of = λ k l. first_fewer m n k 0 (get_or firsts k 0) h (K.first_of k l);
      next_of = λ i l. first_fewer m n (key_of (name_at s (get_or names i 0))) (i + 1) (get_or nexts i 0) h (K.next_of i (omega arith));
    }

    module _ (lo count : ℕ) (K : Keyed s names nexts firsts (lo + count)) (x : Name) where
      room_from : count ≤ length (drop lo names)
      room_from = omega (arith, length-drop lo names, K.names_few)

      abbrev Sought : ℕ → Type 0
      Sought i = Searched (name_at s) (drop lo names) count room_from x i

      others_passed : (i : ℕ) → i ≤ count → Others lo count x (lo + i) → Sought i
      others_passed zero h o = search_starts (name_at s) (drop lo names) count room_from x
      others_passed (suc i) h o =
          let z : suc i ≡ i + 1 = omega arith in
          rw z (search_goes (name_at s) (drop lo names) count room_from x i (omega arith) (others_passed i (omega arith) (λ j l b. o j l (omega arith))) (λ e. o i (omega arith) (omega arith) (e ∙ ap (name_at s) (get_or-drop lo names i 0))))

      along_from : (p q : ℕ) → FirstFrom s names (lo + count) (key_of x) p q → Others lo count x p → Along lo count x q
      along_from p q F o = record {
        own = F.has;
        others = λ j l b e.
            let behind : lo + j < p → ⊥ = λ h. o j l h e in
            let y = F.least (lo + j) (omega arith) (omega arith) (ap key_of (sym e)) in
            omega arith;
      }

      pub along_starts : (k i : ℕ) → k ≡ key_of x → k < key_count → i ≡ get_or firsts k 0 → Along lo count x i
      along_starts k i e small f = along_from 0 i (rw (f, ← e) (K.first_of k small)) (λ j l b. absurd (omega arith))

      module _ (i : ℕ) (less : i < lo + count) (A : Along lo count x i) where
        pub next_after : (j : ℕ) → j ≡ get_or nexts i 0 → i < j
        next_after j f = let a = (K.next_of i less).from in omega arith

        pub along_goes : (j : ℕ) → j ≡ get_or nexts i 0 → ((lo ≤ i) × (x ≡ name_at s (get_or names i 0)) → ⊥) → Along lo count x j
        along_goes j f d =
            along_from (i + 1) j (rw (f, ← A.own less) (K.next_of i less)) λ m l b e. ⊎_elim (λ h. d (omega arith, e ∙ ap (λ (n : ℕ). name_at s (get_or names n 0)) h)) (λ h. A.others m l h e) (eq-or-lt_of_le {n = lo + m} {m = i} (omega arith))

        pub along_finds : (lo ≤ i) × (x ≡ name_at s (get_or names i 0)) → Some (i - lo) ≡ found (number_of x (names_from s names lo count))
        unfolding scope_at
        along_finds f =
            let z : lo + (i - lo) ≡ i = let h = f.0 in omega arith in
            search_finds (name_at s) (drop lo names) count room_from x (i - lo) (let h = f.0 in omega arith) (others_passed (i - lo) (omega arith) (rw z A.others)) (f.1 ∙ ap (name_at s) (ap (λ (n : ℕ). get_or names n 0) (sym z) ∙ sym (get_or-drop lo names (i - lo) 0)))

      pub along_ends : (i : ℕ) → lo + count ≤ i → Along lo count x i → None ≡ found (number_of x (names_from s names lo count))
      unfolding scope_at
      along_ends i h A = search_ends (name_at s) (drop lo names) count room_from x count (omega arith) (omega arith) (others_passed count (omega arith) (λ j l b. A.others j l (omega arith)))

-- at most n names
pub scope_most : (s l : List ℕ) (n : ℕ) → length (scope_at s l n) ≤ n
unfolding scope_at
scope_most s l n = omega (arith, length-map (take n l) (name_at s), length-take n l)

left_from : (f : ℕ → Name) (j n : ℕ) (l : List ℕ) → drop j (map f (take n l)) ≡ map f (take (n - j) (drop j l))
left_from f zero n l = let z : n - 0 ≡ n = omega arith in rw z refl
left_from f (suc j) zero l = let z : 0 - suc j ≡ 0 = omega arith in rw z refl
left_from f (suc j) (suc n) [] = sym (ap (map f) (take_none (suc n - suc j)))
left_from f (suc j) (suc n) (a ∷ l) = let z : suc n - suc j ≡ n - j = omega arith in rw z (left_from f j n l)

-- what is left of n names
pub names_left : (s names : List ℕ) (j n left : ℕ) → left ≡ n - j → drop j (scope_at s names n) ≡ names_from s names j left
unfolding scope_at
names_left s names j n left e = left_from (name_at s) j n names ∙ ap (λ (m : ℕ). map (name_at s) (take m (drop j names))) (sym e)
