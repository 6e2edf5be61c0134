-- What is written for a right table are bytes: each number is below its limit, and every limit is below 256.
use Rattle.std.proofs.Common.{ap, inl, inr, leb→le, eqb→eq}
use mathlib.Core.List.{List, [], ◌∷◌, ◌++◌}
use Prim.Native.Nat.{ℕ, ◌<◌, ◌≤◌}
use native.Mathlib.Omega.{arith}
use Rattle.std.specs.Prelude.{T, leb, eqb, get_or}
use Rattle.std.proofs.Math.ListN.{length, get_elem?, length-append}
use Rattle.std.proofs.lemmas.List.{length-map}
use Rattle.pcrl.specs.Text.{byte}
use Rattle.pcrl.specs.Limits.{max_sorts, max_size, max_functions, max_actions, max_equations, max_variables, frame_width}
use Rattle.pcrl.specs.Tests.{or, within, Between, Every, Each}
use Rattle.pcrl.specs.Bytes.{letter, digit, name_byte}
use Rattle.pcrl.specs.Reader.{all}
use Rattle.pcrl.specs.Tree.{Name}
use Rattle.pcrl.specs.Lists.{together}
use Rattle.pcrl.specs.Sheet.{Data, val, var, app, Datas, nil, cons, Act, tau, action, Func, Action, Operation, operation, Sig, size, function_at, takes_of}
use Rattle.pcrl.specs.Sorts.{Bool_sort, IsOperation, IsFunc, HasSort, HaveSorts, IsAct}
use Rattle.pcrl.specs.Table.{Summand, Equation, Layout, with_names, without_names, Table, params_of, summands_of}
use Rattle.pcrl.specs.Stream.{variable_code, codes, encode_data, encode_datas, encode_numbers, encode_list, encode_sort, encode_sorts, encode_func, encode_action, encode_sig, encode_act, encode_cond, encode_call, encode_summand, encode_equations, encode_start, encode}
use Rattle.pcrl.specs.Right.{RightSizes, AreSorts, RightFunc, RightName, RightAction, RightSig, RightSortName, RightNames, RightSorts, RightTerm, RightCond, RightCall, RightSummand, RightSummands, RightEquations, RightStart, RightTable}
use Rattle.laws.specs.Tests.{both_pass, one_passes}
use Rattle.laws.specs.Lists.{below_some}
use Rattle.laws.specs.Every.{every_of_all, every_append, every_weaken}
use Rattle.laws.specs.Each.{each_with, each_every}
use Rattle.codec.specs.Together.{firsts_together, every_pair}
use Rattle.codec.specs.StreamLaws.{small_size, apart}
use Rattle.codec.specs.StreamBytes.{Byte}

-- LISTS

pub bytes_all : {A : Type 0} {R : A → Type 0} (w : A → List ℕ) → ((a : A) → R a → Every Byte (w a)) → (l : List A) → Every R l → Every Byte (all w l)
unfolding Every all
bytes_all w f [] h = tt
bytes_all w f (a ∷ l) h = every_append Byte (w a) (all w l) (f a h.0) (bytes_all w f l h.1)

bytes_each : {A B : Type 0} {R : A → B → Type 0} (w : B → List ℕ) → ((a : A) (b : B) → R a b → Every Byte (w b)) → (l : List A) (m : List B) → Each R l m → Every Byte (all w m)
unfolding Every Each all
bytes_each w f [] [] h = tt
bytes_each w f [] (b ∷ m) h = absurd h
bytes_each w f (a ∷ l) [] h = absurd h
bytes_each w f (a ∷ l) (b ∷ m) h = every_append Byte (w b) (all w m) (f a b h.0) (bytes_each w f l m h.1)

bytes_list : {A : Type 0} {R : A → Type 0} (w : A → List ℕ) → ((a : A) → R a → Every Byte (w a)) → (l : List A) → Byte (length l) → Every R l → Every Byte (encode_list w l)
unfolding Every encode_list
bytes_list w f l h k = (h, bytes_all w f l k)

bytes_numbers : (l : List ℕ) → Byte (length l) → Every Byte l → Every Byte (encode_numbers l)
unfolding Every encode_numbers
bytes_numbers l h k = (h, k)

-- NAMES

within_at_most : (lo hi b : ℕ) → T (within lo hi b) → b ≤ hi
within_at_most lo hi b h = leb→le b hi (both_pass (leb lo b) (leb b hi) h).1

letter_is_byte : (b : ℕ) → T (letter b) → Byte b
letter_is_byte b h =
    elim (one_passes (within (byte "A") (byte "Z") b) (within (byte "a") (byte "z") b) h) [
      | inl k ↦ omega (arith, within_at_most (byte "A") (byte "Z") b k)
      | inr k ↦ omega (arith, within_at_most (byte "a") (byte "z") b k)
    ]

name_byte_is_byte : (b : ℕ) → T (name_byte b) → Byte b
name_byte_is_byte b h =
    elim (one_passes (letter b) (or (digit b) (eqb b (byte "_"))) h) [
      | inl k ↦ letter_is_byte b k
      | inr k ↦ elim (one_passes (digit b) (eqb b (byte "_")) k) [
        | inl m ↦ omega (arith, within_at_most (byte "0") (byte "9") b m)
        | inr m ↦ omega (arith, eqb→eq b (byte "_") m)
      ]
    ]

-- THE SIGNATURE

module _ (sizes : List ℕ) (ok : RightSizes sizes) where
  few_sizes : length sizes ≤ max_sorts
  unfolding RightSizes
  few_sizes = ok.0.0.1

  sorts_bytes : (l : List ℕ) → AreSorts sizes l → Every Byte l
  sorts_bytes l h = every_weaken _ Byte (λ D k. omega (arith, few_sizes)) l h

  func_bytes : (g : Func) → RightFunc sizes g → Every Byte (encode_func g)
  unfolding encode_func RightFunc Every
  func_bytes g h =
      every_append Byte (encode_numbers g.takes) (g.gives ∷ g.values) (bytes_numbers g.takes (omega arith) (sorts_bytes g.takes h.0.1))
      (omega (arith, few_sizes), every_weaken _ Byte (λ v k. omega (arith, small_size sizes g.gives ok)) g.values h.1.1.1)

  action_bytes : (a : Action) → RightAction sizes a → Every Byte (encode_action a)
  unfolding encode_action RightAction RightName
  action_bytes a h =
      every_append Byte _ _ (bytes_numbers a.name (omega arith) (every_weaken _ Byte name_byte_is_byte a.name h.0.0.1)) (bytes_numbers a.takes (omega arith) (sorts_bytes a.takes h.1.1))

-- a size and a name
sort_bytes : (x : ℕ × Name) → Between 1 max_size x.0 × RightSortName x.1 → Every Byte (encode_sort x)
unfolding encode_sort RightSortName Every
sort_bytes x h = (omega arith, bytes_numbers x.1 (omega arith) (every_weaken _ Byte name_byte_is_byte x.1 h.1.0.1))

all_sorts_bytes : (L : Layout) (S : Sig) → RightSizes S.sorts → RightNames L S → Every Byte (encode_sorts L S)
unfolding RightSizes RightNames encode_sorts Every
all_sorts_bytes with_names S h k =
    let l = together S.sorts S.sort_names in
    let n = ap length (firsts_together S.sorts S.sort_names k.0.0) in
    let m = length-map l (λ (x : ℕ × Name). x.0) in
    (omega arith, bytes_list encode_sort sort_bytes l (omega arith) (every_pair (Between 1 max_size) RightSortName S.sorts S.sort_names h.0.1 k.0.1))
all_sorts_bytes without_names S h k = bytes_numbers S.sorts (omega arith) (every_weaken (Between 1 max_size) Byte (λ n k. omega arith) S.sorts h.0.1)

sig_bytes : (L : Layout) (S : Sig) → RightSig S → RightNames L S → Every Byte (encode_sig L S)
unfolding encode_sig RightSig
sig_bytes L S h k =
    every_append Byte _ _ (all_sorts_bytes L S h.0 k)
    (every_append Byte _ _ (bytes_list encode_func (func_bytes S.sorts h.0) S.funcs (omega arith) h.1.0.1)
    (bytes_list encode_action (action_bytes S.sorts h.0) S.acts (omega arith) h.1.1.0.1))

-- SUMMANDS AND EQUATIONS

module _ (S : Sig) (ok : RightSig S) where
  few_funcs : length S.funcs ≤ max_functions
  unfolding RightSig
  few_funcs = ok.1.0.0

  few_acts : length S.acts ≤ max_actions
  unfolding RightSig
  few_acts = ok.1.1.0.0

  few_sorts : length S.sorts ≤ max_sorts
  unfolding RightSig RightSizes
  few_sorts = ok.0.0.0.1

  code_bytes : (f : ℕ) → IsFunc S f → Every Byte (codes (operation f))
  unfolding IsOperation codes Every
  code_bytes f h = go (operation f) h
    where
      go : (o : Operation) → IsOperation S o → Every Byte (codes o)
      go (Operation.written g) k = (omega (arith, few_funcs), tt)
      go Operation.not k = (omega arith, tt)
      go Operation.and k = (omega arith, tt)
      go Operation.or k = (omega arith, tt)
      go (Operation.equal D) k = (omega arith, (omega (arith, few_sorts), tt))
      go Operation.unsorted k = absurd k

  module _ (Γ : List ℕ) (l : length Γ ≤ variable_code) where
    mutual
      unfolding Every encode_data HasSort

      data_bytes : (d : Data) (D : ℕ) → HasSort S (get_elem? Γ) d D → Every Byte (encode_data d)
      data_bytes (val v) D h = (omega (arith, (apart S Γ ok l).sizes D), tt)
      data_bytes (var i) D h = (omega (arith, l, below_some Γ i D h), tt)
      data_bytes (app f ds) D h = every_append Byte (codes (operation f)) (encode_datas ds) (code_bytes f h.0) (datas_bytes ds (function_at S f).takes h.1.1)

      datas_bytes : (ds : Datas) (Ds : List ℕ) → HaveSorts S (get_elem? Γ) ds Ds → Every Byte (encode_datas ds)
      datas_bytes nil Ds h = tt
      datas_bytes (cons d ds) [] h = absurd h
      datas_bytes (cons d ds) (D ∷ Ds) h = every_append Byte (encode_data d) (encode_datas ds) (data_bytes d D h.0) (datas_bytes ds Ds h.1)

    term_bytes : (D : ℕ) (d : Data) → RightTerm S Γ D d → Every Byte (encode_data d)
    term_bytes D d h = data_bytes d D h.0

    cond_bytes : (c : ℕ × Data) → RightCond S Γ c → Every Byte (encode_cond c)
    unfolding Every encode_cond RightCond
    cond_bytes c h = (omega arith, term_bytes Bool_sort c.1 h.1)

    call_bytes : (Ps : List (List ℕ)) → length Ps ≤ max_equations → (c : ℕ × List Data) → RightCall S Ps Γ c → Every Byte (encode_call c)
    unfolding Every encode_call RightCall
    call_bytes Ps few c h = (omega arith, bytes_each encode_data term_bytes (get_or Ps c.0 []) c.1 h.1)

  act_bytes : (a : Act) → IsAct S a → Every Byte (encode_act a)
  unfolding Every encode_act IsAct
  act_bytes tau h = (omega arith, tt)
  act_bytes (action a) h = (omega (arith, few_acts), tt)

  params_bytes : (most : ℕ) → Byte most → (l : List ℕ) → RightSorts S most l → Every Byte (encode_numbers l)
  unfolding RightSorts RightSig
  params_bytes most k l h = bytes_numbers l (omega arith) (sorts_bytes S.sorts ok.0 l h.1)

  module _ (Ps : List (List ℕ)) (few : length Ps ≤ max_equations) where
    summand_bytes : (Δ : List ℕ) → RightSorts S frame_width Δ → (h : Summand) → RightSummand S Ps Δ h → Every Byte (encode_summand h)
    unfolding encode_summand RightSummand RightSorts
    summand_bytes Δ k h r =
        let Γ : List ℕ = Δ ++ h.vars in
        let l : length (Δ ++ h.vars) ≤ variable_code = simp length-append (omega arith) in
        every_append Byte _ _ (params_bytes max_variables (omega arith) h.vars r.0)
        (every_append Byte _ _ (bytes_list encode_cond (cond_bytes Γ l) h.conds (omega arith) r.1.0.1)
        (every_append Byte _ _ (act_bytes h.act r.1.1.0)
        (every_append Byte _ _ (bytes_each encode_data (term_bytes Γ l) (takes_of S h.act) h.terms r.1.1.1.0)
        (bytes_list encode_call (call_bytes Γ l Ps few) h.calls (omega arith) r.1.1.1.1.1))))

    summands_bytes : (Δ : List ℕ) (hs : List Summand) → RightSorts S frame_width Δ × RightSummands S Ps Δ hs → Every Byte (encode_list encode_summand hs)
    unfolding RightSummands
    summands_bytes Δ hs h = bytes_list encode_summand (summand_bytes Δ h.0) hs (omega arith) h.1.1

  equations_bytes : (es : List Equation) → RightEquations S es → Every Byte (encode_equations es)
  unfolding encode_equations RightEquations
  equations_bytes es h =
      every_append Byte _ _ (bytes_list encode_numbers (params_bytes frame_width (omega arith)) (params_of es) (omega arith) h.0.1)
      (bytes_each (encode_list encode_summand) (summands_bytes (params_of es) h.0.0.1) (params_of es) (summands_of es) (each_with (RightSummands S (params_of es)) (RightSorts S frame_width) (params_of es) (summands_of es) h.0.1 h.1))

  values_bytes : (Ds vs : List ℕ) → Each (λ (D v : ℕ). v < size S D) Ds vs → Every Byte vs
  unfolding size RightSig
  values_bytes Ds vs h = each_every _ (λ D. Unit {0}) Byte (λ D v k u. omega (arith, small_size S.sorts D ok.0)) Ds vs h (every_of_all _ (λ D. tt) Ds)

  start_bytes : (es : List Equation) → length es ≤ max_equations → (s : ℕ × List ℕ) → RightStart S es s → Every Byte (encode_start s)
  unfolding Every encode_start RightStart
  start_bytes es few s h = (omega arith, values_bytes (get_or (params_of es) s.0 []) s.1 h.1)

pub few_equations : (S : Sig) (es : List Equation) → RightEquations S es → length es ≤ max_equations
unfolding RightEquations params_of
few_equations S es h = omega (arith, h.0.0.1, length-map es (λ (e : Equation). e.params))

-- Every number of a right table's stream is a byte.
pub stream_bytes : (T : Table) → RightTable T → Every (λ b. b < 256) (encode T)
unfolding encode RightTable
stream_bytes T h =
    every_append Byte _ _ (sig_bytes T.layout T.sig h.0.0 h.2)
    (every_append Byte _ _ (equations_bytes T.sig h.0.0 T.equations h.0.1.0)
    (start_bytes T.sig h.0.0 T.equations (few_equations T.sig T.equations h.0.1.0) T.start h.0.1.1))
