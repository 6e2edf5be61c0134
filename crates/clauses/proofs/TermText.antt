-- The text of the bytes of a term, node by node, is the text of the term.
use mathlib.Core.Path.{◌≡◌, refl, sym, ap, ◌∙◌}
use mathlib.Core.List.{List, [], ◌∷◌, ◌++◌, append_assoc, append-nil}
use mathlib.Core.Bool.{Bool, true, false}
use Prim.Native.Nat.{ℕ, zero, suc, ◌+◌, ◌*◌, ◌-◌, ◌^◌, ◌≤◌, ◌<◌}
use native.Mathlib.Nat.{pow-suc, pow-le-pow_right}
use native.Mathlib.Omega.{arith}
use lib.Dec.{eqb, ltb}
use lib.ListN.{length, get_or, get_elem?, drop, replicate}
use borrow.Author.Tests.{lt-ltb, le-ltb, eq-eqb, ne_eqb}
use Rattle.pcrl.specs.Text.{bytes, byte, decimal}
use Rattle.pcrl.specs.Tests.{Between}
use Rattle.pcrl.specs.Sheet.{Data, val, var, app, nil, cons, list_of, Sig, Operation, operation, size, func, function, function_at}
use Rattle.pcrl.specs.Sorts.{HasSort, HaveSorts, IsOperation, IsFunc}
use Rattle.pcrl.specs.Table.{nodes}
use Rattle.pcrl.specs.Stream.{variable_code, function_code, codes, encode_data}
use Rattle.pcrl.specs.Right.{RightFunc}
use Rattle.pcrl.specs.Letters.{longest_run, letters, indexed}
use Rattle.pcrl.specs.Printer.{taken}
use Rattle.rendering.specs.Texts.{joined_text, bracketed_text, placed, operand_text, operation_text, text_at}
use Rattle.laws.specs.Lists.{below_some}
use Rattle.laws.specs.Operations.{Seen, as_written, seen, right_function}
use Rattle.laws.specs.DataSorts.{have_sorts_many}
use Rattle.codec.specs.StreamLaws.{small_size}
use Rattle.terms.proofs.Places.{arity_at}
use Rattle.evaluation.specs.Run.{pick}
use Rattle.evaluation.specs.Known.{KnownTerms}
use Rattle.clauses.specs.Brackets.{Mark, mark_text, first_place, number, enclosed, Item, close, mark, Open, bit, code, closing, ended, reopened, no_place, next_place, limit, Sign, value, variable, operator_code, operator_mark, operator_sign, sign, open_bracket, node_text, tail_text, more, deeper, turned, following, passed}

-- THE NUMBER OF SOME ITEMS

pub code_some : (bs : Open) → 1 ≤ code bs
unfolding code
code_some [] = omega arith
code_some (close ∷ bs) = omega (arith, code_some bs)
code_some (mark m b ∷ bs) = omega (arith, code_some bs)

pub number_small : (m : Mark) → number m < 4
unfolding number
number_small Mark.comma = omega arith
number_small Mark.or = omega arith
number_small Mark.and = omega arith
number_small Mark.equal = omega arith

pub bit_small : (b : Bool) → bit b < 2
unfolding bit
bit_small true = omega arith
bit_small false = omega arith

-- how many bits the items take
unfoldable pub bits : Open → ℕ
bits [] = 0
bits (close ∷ bs) = suc (bits bs)
bits (mark m b ∷ bs) = suc (suc (suc (suc (bits bs))))

code_below : (bs : Open) → code bs < 2 ^ suc (bits bs)
unfolding code bits
code_below [] = omega (arith, pow-suc 2 0)
code_below (close ∷ bs) = let z : 2 * code bs < 2 ^ suc (suc (bits bs)) = omega (arith, code_below bs, pow-suc 2 (suc (bits bs))) in z
code_below (mark m b ∷ bs) =
    let n = suc (bits bs) in
    let z : 16 * code bs + (8 * bit b + (2 * number m + 1)) < 2 ^ suc (suc (suc (suc n))) =
    omega (arith, code_below bs, number_small m, bit_small b, pow-suc 2 n, pow-suc 2 (suc n), pow-suc 2 (suc (suc n)), pow-suc 2 (suc (suc (suc n)))) in
    z

pub more_put : (x : Item) (bs : Open) → bits bs < 60 → more x bs ≡ x ∷ bs
unfolding more
more_put x bs h =
    let z : 2 ^ suc (bits bs) ≤ 2 ^ 60 = pow-le-pow_right {n = 2} (omega arith) {i = suc (bits bs)} {j = 60} (omega arith) in
    let y : ◌≡◌ {A = ℕ} (2 ^ 60) limit = refl in
    rw (lt-ltb (code bs) limit (omega (arith, code_below bs))) refl

-- WHAT A BYTE SAYS

pub sign_value : (b : ℕ) → b < variable_code → sign b ≡ value b
unfolding sign
sign_value b h = rw (lt-ltb b variable_code h) refl

pub sign_variable : (b : ℕ) → variable_code ≤ b → b < function_code → sign b ≡ variable (b - variable_code)
unfolding sign
sign_variable b h k = rw (le-ltb b variable_code h, lt-ltb b function_code k) refl

pub sign_function : (b : ℕ) → function_code ≤ b → b < operator_code → sign b ≡ Sign.function (b - function_code)
unfolding sign
sign_function b h k = rw (le-ltb b variable_code (omega arith), le-ltb b function_code h, lt-ltb b operator_code k) refl

pub sign_operator : (b : ℕ) → operator_code ≤ b → sign b ≡ operator_sign (b - operator_code)
unfolding sign
sign_operator b h = rw (le-ltb b variable_code (omega arith), le-ltb b function_code (omega arith), le-ltb b operator_code h) refl

-- TEXT AND WHAT IS LEFT

-- a text, and the bytes behind what it is of
abbrev pub Shown : Type 0
Shown = List ℕ × List ℕ

abbrev pub ahead : List ℕ → Shown → Shown
ahead t z = (t ++ z.0, z.1)

-- behind a node: nothing where no operand follows
abbrev pub next : ℕ → Shown → List ℕ → Shown
next p z c = pick (eqb p no_place) ([], c) z

module _ (s funcs : List ℕ) (m n : ℕ) where
  -- the bytes behind the first k, at a place
  unfoldable pub shown : ℕ → List ℕ → Open → ℕ → Shown
  shown zero [] bs p = ([], [])
  shown (suc k) [] bs p = ([], [])
  shown (suc k) (b ∷ c) bs p = shown k c bs p
  shown zero (b ∷ c) bs p =
      ahead (node_text m n p (sign b) ++ tail_text (sign b) bs)
      (next (following (sign b) bs) (shown (passed (sign b)) c (turned s funcs p (sign b) bs) (following (sign b) bs)) (drop (passed (sign b)) c))

  pub shown_drop : (k : ℕ) (c : List ℕ) (bs : Open) (p : ℕ) → shown k c bs p ≡ shown 0 (drop k c) bs p
  unfolding shown
  shown_drop zero c bs p = refl
  shown_drop (suc k) [] bs p = refl
  shown_drop (suc k) (b ∷ c) bs p = shown_drop k c bs p

  -- what is behind an operand
  unfoldable pub behind : List ℕ → Open → Shown
  behind c bs = ahead (closing bs) (next (next_place bs) (shown 0 c (reopened bs) (next_place bs)) c)

  behind_mark : (k : Mark) (x : Bool) (c : List ℕ) (bs : Open) → behind c (mark k x ∷ bs) ≡ ahead (mark_text k) (shown 0 c (ended x bs) (number k))
  unfolding behind closing reopened next_place number
  behind_mark Mark.comma x c bs = refl
  behind_mark Mark.or x c bs = refl
  behind_mark Mark.and x c bs = refl
  behind_mark Mark.equal x c bs = refl

  close_bracket : Bool → List ℕ
  close_bracket true = bytes ")"
  close_bracket false = []

  placed_is : (form p : ℕ) (t : List ℕ) → placed form p t ≡ open_bracket (ltb form p) ++ (t ++ close_bracket (ltb form p))
  unfolding placed open_bracket close_bracket
  placed_is form p t = go (ltb form p)
    where
      go : (x : Bool) → elim x as (λ y. List ℕ) [ true ↦ bytes "(" ++ (t ++ bytes ")") | false ↦ t ] ≡ open_bracket x ++ (t ++ close_bracket x)
      go true = refl
      go false = sym (append-nil t)

  behind_ended : (x : Bool) (c : List ℕ) (bs : Open) → behind c (ended x bs) ≡ ahead (close_bracket x) (behind c bs)
  unfolding behind closing reopened next_place ended close_bracket
  behind_ended true c bs = refl
  behind_ended false c bs = refl

  some_node : (d : Data) → 1 ≤ nodes d
  unfolding nodes
  some_node (val v) = omega arith
  some_node (var i) = omega arith
  some_node (app f ds) = omega arith

  module _ (S : Sig) (known : KnownTerms S s funcs) (Γ : List ℕ) (short : length Γ ≤ variable_code)
      (for_funcs : m ≡ suc (longest_run (byte "f") (taken S))) (for_vars : n ≡ suc (longest_run (byte "v") (taken S))) where
    one_sort : (d : Data) (Ds : List ℕ) → HaveSorts S (get_elem? Γ) (cons d nil) Ds → (E : ℕ) × HasSort S (get_elem? Γ) d E × (length Ds ≡ 1)
    unfolding HaveSorts list_of
    one_sort d [] h = absurd h
    one_sort d (D ∷ Ds) h = (D, h.0, sym (have_sorts_many S (get_elem? Γ) (cons d nil) (D ∷ Ds) h))

    two_sorts : (d e : Data) (Ds : List ℕ) → HaveSorts S (get_elem? Γ) (cons d (cons e nil)) Ds
        → (E F : ℕ) × HasSort S (get_elem? Γ) d E × HasSort S (get_elem? Γ) e F × (length Ds ≡ 2)
    unfolding HaveSorts
    two_sorts d e [] h = absurd h
    two_sorts d e (D ∷ Ds) h = let (F, i, l) = one_sort e Ds h.1 in (D, F, h.0, i, ap suc l)

    few : (f : ℕ) → IsFunc S f → Between 1 2 (length (function_at S f).takes)
    unfolding RightFunc
    few f h = (right_function S known.right_sizes known.right_funcs f h).0.0

    arity : (f : ℕ) → f < length S.funcs → get_or s (get_or funcs f 0) 0 ≡ length (func S f).takes
    arity f h = arity_at s (get_or funcs f 0) (func S f) (known.func_at f h)

    variable_text : (i : ℕ) → replicate n (byte "v") ++ decimal i ≡ indexed (taken S) (byte "v") i
    unfolding indexed letters
    variable_text i = ap (λ (k : ℕ). replicate k (byte "v") ++ decimal i) for_vars

    function_text : (f : ℕ) → replicate m (byte "f") ++ decimal f ≡ indexed (taken S) (byte "f") f
    unfolding indexed letters
    function_text f = ap (λ (k : ℕ). replicate k (byte "f") ++ decimal f) for_funcs

    -- the bracket of a function
    deeper_one : (f : ℕ) (bs : Open) → f < length S.funcs → length (func S f).takes ≡ 1 → bits bs < 60 → deeper s (get_or funcs f 0) bs ≡ close ∷ bs
    unfolding deeper
    deeper_one f bs h e k = rw (more_put _ bs k, eq-eqb (get_or s (get_or funcs f 0) 0) 1 (arity f h ∙ e)) refl

    deeper_two : (f : ℕ) (bs : Open) → f < length S.funcs → length (func S f).takes ≡ 2 → bits bs < 60 → deeper s (get_or funcs f 0) bs ≡ mark Mark.comma true ∷ bs
    unfolding deeper
    deeper_two f bs h e k = rw (more_put _ bs k, ne_eqb (get_or s (get_or funcs f 0) 0) 1 (λ z. omega (arith, arity f h))) refl

    -- a term's bytes, at any place, are shown as its text there
    abbrev Told : Data → Type 0
    Told d = (c : List ℕ) (bs : Open) (p : ℕ) → bits bs + 2 * nodes d ≤ 62 → shown 0 (encode_data d ++ c) bs p ≡ ahead (text_at S d p) (behind c bs)

    -- two operands, with a mark between
    two_told : (k : Mark) (x : Bool) (d e : Data) (c : List ℕ) (bs : Open) → Told d → Told e → bits bs + 2 * suc (nodes d + nodes e) ≤ 62
        → shown 0 ((encode_data d ++ (encode_data e ++ [])) ++ c) (mark k x ∷ bs) (first_place k)
        ≡ ahead (text_at S d (first_place k) ++ (mark_text k ++ (text_at S e (number k) ++ close_bracket x))) (behind c bs)
    unfolding bits ended
    two_told k x d e c bs t u h =
        let q = t (encode_data e ++ c) (mark k x ∷ bs) (first_place k) (omega (arith, some_node e)) in
        let r = u c (ended x bs) (number k) (room x) in
        rw (append-nil (encode_data e), append_assoc (encode_data d) (encode_data e) c, q, behind_mark k x (encode_data e ++ c) bs, r, behind_ended x c bs) (simp append_assoc)
      where
        room : (x : Bool) → bits (ended x bs) + 2 * nodes e ≤ 62
        room true = omega arith
        room false = omega arith

    module _ (f : ℕ) (d : Data) (c : List ℕ) (bs : Open) (p : ℕ) (t : Told d) where
      -- a function or an operator of one operand
      one_told : (o : Operation) → Seen f o → IsOperation S o → length (function S o).takes ≡ 1 → bits bs + 2 * suc (nodes d) ≤ 62
          → shown 0 ((codes o ++ (encode_data d ++ [])) ++ c) bs p ≡ ahead (operation_text (indexed (taken S) (byte "f")) o ((λ q. text_at S d q) ∷ []) p) (behind c bs)
      unfolding shown behind closing reopened next_place codes IsOperation function node_text tail_text turned following passed bits operation_text operand_text bracketed_text joined_text operator_mark operator_sign sign
      one_told (Operation.written g) (as_written k) i l h =
          let w = sign_function (function_code + f) (omega arith) (omega arith) in
          let z : function_code + f - function_code ≡ f = omega arith in
          let r = t c (close ∷ bs) 0 (omega arith) in
          rw (w, z, deeper_one f bs i l (omega (arith, some_node d)), function_text f, append-nil (encode_data d), r) (simp (append_assoc, append-nil))
      one_told Operation.not k i l h = let r = t c bs 3 (omega arith) in rw (append-nil (encode_data d), r) refl
      one_told Operation.and k i l h = absurd (omega arith)
      one_told Operation.or k i l h = absurd (omega arith)
      one_told (Operation.equal D) k i l h = absurd (omega arith)
      one_told Operation.unsorted k i l h = absurd i

    module _ (f : ℕ) (d e : Data) (c : List ℕ) (bs : Open) (p : ℕ) (t : Told d) (u : Told e) where
      -- an operator between two operands
      joint_told : (k : Mark) (form : ℕ) → bits bs + 2 * suc (nodes d + nodes e) ≤ 62 → enclosed k p ≡ ltb form p
          → ahead (open_bracket (enclosed k p) ++ []) (shown 0 ((encode_data d ++ (encode_data e ++ [])) ++ c) (more (mark k (enclosed k p)) bs) (first_place k))
          ≡ ahead (placed form p (text_at S d (first_place k) ++ (mark_text k ++ text_at S e (number k)))) (behind c bs)
      joint_told k form h x =
          rw (append-nil (open_bracket (enclosed k p)), more_put (mark k (enclosed k p)) bs (omega (arith, some_node d)), two_told k (enclosed k p) d e c bs t u h, placed_is form p, x) (simp append_assoc)

      -- a function or an operator of two operands
      pair_told : (o : Operation) → Seen f o → IsOperation S o → length (function S o).takes ≡ 2 → bits bs + 2 * suc (nodes d + nodes e) ≤ 62
          → shown 0 ((codes o ++ (encode_data d ++ (encode_data e ++ []))) ++ c) bs p
          ≡ ahead (operation_text (indexed (taken S) (byte "f")) o ((λ q. text_at S d q) ∷ (λ q. text_at S e q) ∷ []) p) (behind c bs)
      unfolding shown codes IsOperation function node_text tail_text turned following passed operation_text operand_text bracketed_text joined_text operator_mark operator_sign sign enclosed number first_place mark_text close_bracket
      pair_told (Operation.written g) (as_written k) i l h =
          let w = sign_function (function_code + f) (omega arith) (omega arith) in
          let z : function_code + f - function_code ≡ f = omega arith in
          rw (w, z, deeper_two f bs i l (omega (arith, some_node d)), function_text f, two_told Mark.comma true d e c bs t u h) (simp (append_assoc, append-nil))
      pair_told Operation.not k i l h = absurd (omega arith)
      pair_told Operation.and k i l h = joint_told Mark.and 1 h refl
      pair_told Operation.or k i l h = joint_told Mark.or 0 h refl
      pair_told (Operation.equal D) k i l h = joint_told Mark.equal 2 h refl
      pair_told Operation.unsorted k i l h = absurd i

    -- By induction on w, more than the nodes.
    pub shown_data : (w : ℕ) (d : Data) (D : ℕ) (c : List ℕ) (bs : Open) (p : ℕ) → HasSort S (get_elem? Γ) d D → nodes d < w → bits bs + 2 * nodes d ≤ 62
        → shown 0 (encode_data d ++ c) bs p ≡ ahead (text_at S d p) (behind c bs)
    unfolding shown behind encode_data text_at node_text tail_text turned following passed HasSort list_of size nodes function_at
    shown_data zero d D c bs p h k o = absurd (omega arith)
    shown_data (suc w) (val v) D c bs p h k o = rw (sign_value v (omega (arith, small_size S.sorts D known.right_sizes))) (simp append_assoc)
    shown_data (suc w) (var i) D c bs p h k o =
        let z : variable_code + i - variable_code ≡ i = omega arith in
        rw (sign_variable (variable_code + i) (omega arith) (omega (arith, below_some Γ i D h)), z, variable_text i) (simp append_assoc)
    shown_data (suc w) (app f nil) D c bs p h k o = absurd (omega (arith, few f h.0, have_sorts_many S (get_elem? Γ) nil (function_at S f).takes h.1.1))
    shown_data (suc w) (app f (cons d nil)) D c bs p h k o =
        let (E, g, e) = one_sort d (function_at S f).takes h.1.1 in
        one_told f d c bs p (λ c' bs' p' l. shown_data w d E c' bs' p' g (omega arith) l) (operation f) (seen f) h.0 e (omega arith)
    shown_data (suc w) (app f (cons d (cons e nil))) D c bs p h k o =
        let (E, F, g, i, l) = two_sorts d e (function_at S f).takes h.1.1 in
        pair_told f d e c bs p (λ c' bs' p' l. shown_data w d E c' bs' p' g (omega arith) l) (λ c' bs' p' l. shown_data w e F c' bs' p' i (omega arith) l) (operation f) (seen f) h.0 l (omega arith)
    shown_data (suc w) (app f (cons d (cons e (cons g ds)))) D c bs p h k o = absurd (omega (arith, few f h.0, have_sorts_many S (get_elem? Γ) (cons d (cons e (cons g ds))) (function_at S f).takes h.1.1))
