-- The stream of a right table is read back, and what is read is the stream of a right table: part by part, each part by the law of its reader.
use Rattle.std.specs.Prelude.{◌≡◌, refl, List, [], ◌∷◌, ◌++◌, ℕ, ◌≤◌, T, get_or}
use Rattle.std.proofs.Common.{sym, ap, subst, ◌∙◌, arith}
use Rattle.std.proofs.Math.Option.{Option, none, some}
use Rattle.std.proofs.Math.Decide.{ℕ_discrete, dec_lt}
use Rattle.std.proofs.Math.ListN.{length, length-append}
use Rattle.std.proofs.lemmas.List.{length-map}
use Rattle.pcrl.specs.Text.{bytes}
use Rattle.pcrl.specs.Limits.{max_name, max_sorts, max_size, max_functions, max_actions, max_arity, frame_width, max_equations, max_summands, max_variables, max_conditions, max_calls, max_stream}
use Rattle.pcrl.specs.Tests.{Between, both?, between?, at_most?, below?, T?, same?, distinct, Every, Each}
use Rattle.pcrl.specs.Bytes.{name_byte}
use Rattle.pcrl.specs.Reader.{Got, found, Reader, bind, keep, one, view, counted, each, all}
use Rattle.pcrl.specs.Tree.{Name}
use Rattle.pcrl.specs.Lists.{together, firsts, seconds}
use Rattle.pcrl.specs.Letters.{older_names}
use Rattle.pcrl.specs.Sheet.{Act, tau, action, Func, Action, Sig, size, takes_of}
use Rattle.pcrl.specs.Sorts.{Bool_sort, IsAct, volume}
use Rattle.pcrl.specs.Table.{Summand, Equation, Layout, with_names, without_names, Table, params_of, summands_of, summand_count}
use Rattle.pcrl.specs.Stream.{variable_code, tau_code, encode_data, encode_numbers, encode_list, names_code, encode_sort, encode_sorts, encode_func, encode_action, encode_sig, encode_act, encode_cond, encode_call, encode_summand, encode_equations, encode_start, encode}
use Rattle.pcrl.specs.Right.{RightSizes, RightFunc, free_name, RightName, RightAction, action_names, RightSig, token_name, RightSortName, RightNames, RightSorts, RightTerm, RightCond, RightCall, RightSummand, RightSummands, RightEquations, RightStart, RightTable}
use Rattle.pcrl.specs.Decode.{read_term, read_sorts, read_sizes, to_func, read_func, to_action, read_name, read_action, read_sort_name, read_sort, read_named_sorts, SortsRead, named_sorts, unnamed_sorts, read_all_sorts, layout_by, names_by, to_sig, read_sig, to_summand, zip, to_equations, read_act, read_cond, read_call, read_summand, read_summands, read_equations, read_start, to_table, decode}
use Rattle.laws.specs.Every.{every_of_all, every_get_or, every_weaken}
use Rattle.laws.specs.Readers.{never, bound, kept, keeps}
use Rattle.codec.specs.Together.{firsts_together, seconds_together, together_parts, length_parts, every_pair, every_first, every_second}
use Rattle.codec.specs.Lawful.{Lawful, one_law, test_law, pair_law, view_law, view_law_where, right_law, alike_law, times_law, counted_law, each_law}
use Rattle.codec.specs.TermLaws.{Apart, term_law}

-- LISTS

all_numbers : (l : List ℕ) → all (λ (x : ℕ). x ∷ []) l ≡ l
unfolding all
all_numbers [] = refl
all_numbers (x ∷ l) = ap (λ (m : List ℕ). x ∷ m) (all_numbers l)

-- a counted list of numbers
pub numbers_law : {P Q : ℕ → Type 0} (p : (n : ℕ) → Dec (P n)) (q : (n : ℕ) → Dec (Q n)) → Lawful encode_numbers (λ l. P (length l) × Every Q l) (counted p (one q))
unfolding encode_numbers
numbers_law p q = alike_law encode_numbers (λ l. ap (λ (m : List ℕ). length l ∷ m) (all_numbers l)) (counted_law p (one_law q))

-- a counted list of anything
pub list_law : {A : Type 0} {w : A → List ℕ} {R : A → Type 0} {r : Reader ℕ A} {P : ℕ → Type 0} (p : (n : ℕ) → Dec (P n)) → Lawful w R r
    → Lawful (encode_list w) (λ l. P (length l) × Every R l) (counted p r)
unfolding encode_list
list_law p l = counted_law p l

-- THE SIGNATURE

pub sizes_law : Lawful encode_numbers RightSizes read_sizes
unfolding RightSizes read_sizes
sizes_law = test_law (λ l. ℕ_discrete (get_or l 0 0) 2) (numbers_law (between? 1 max_sorts) (between? 1 max_size))

pub func_law : (sizes : List ℕ) → Lawful encode_func (RightFunc sizes) (read_func sizes)
unfolding encode_func RightFunc read_func to_func
func_law sizes =
    view_law to_func (λ g. (g.takes, (g.gives, g.values))) (λ b. refl) (λ a h. refl)
    (pair_law (numbers_law (between? 1 max_arity) (below? (length sizes))) (λ Ds h.
    pair_law (one_law (below? (length sizes))) (λ D k.
    alike_law (λ l. l) all_numbers (times_law (volume sizes Ds) (one_law (below? (get_or sizes D 0)))))))

pub name_law : Lawful encode_numbers RightName read_name
unfolding RightName read_name
name_law = test_law (λ n. T? (free_name n)) (numbers_law (between? 1 max_name) (λ b. T? (name_byte b)))

pub action_law : (sizes : List ℕ) → Lawful encode_action (RightAction sizes) (read_action sizes)
unfolding encode_action RightAction read_action to_action read_sorts
action_law sizes =
    view_law to_action (λ a. (a.name, a.takes)) (λ b. refl) (λ a h. refl)
    (pair_law name_law (λ n h. numbers_law (at_most? max_arity) (below? (length sizes))))

-- #104: a size and a name
pub sort_law : Lawful encode_sort (λ x. Between 1 max_size x.0 × RightSortName x.1) read_sort
unfolding encode_sort RightSortName read_sort read_sort_name
sort_law = pair_law (one_law (between? 1 max_size)) (λ n h. test_law (λ n. T? (token_name n)) (numbers_law (between? 1 max_name) (λ b. T? (name_byte b))))

-- sizes and names in pairs: they are right by themselves
abbrev NamedSorts : List (ℕ × Name) → Type 0
NamedSorts l =
    (Between 1 max_sorts (length l) × Every (λ (x : ℕ × Name). Between 1 max_size x.0 × RightSortName x.1) l)
    × ((get_or (firsts l) 0 0 ≡ 2) × (T (distinct (seconds l)) × (get_or (seconds l) 0 [] ≡ bytes "Bool")))

pub named_sorts_law : Lawful (encode_list encode_sort) NamedSorts read_named_sorts
unfolding read_named_sorts
named_sorts_law = test_law (λ l. both? (ℕ_discrete (get_or (firsts l) 0 0) 2) (both? (T? (distinct (seconds l))) (same? (get_or (seconds l) 0 []) (bytes "Bool")))) (list_law (between? 1 max_sorts) sort_law)

-- what stands in the stream of the sorts, by their names where these are given, and what is asked of the names
unfoldable pub written_sorts : List ℕ → Option (List Name) → List ℕ
written_sorts sizes none = encode_numbers sizes
written_sorts sizes (some names) = names_code ∷ encode_list encode_sort (together sizes names)

unfoldable pub GivenNames : List ℕ → Option (List Name) → Type 0
GivenNames sizes none = Unit {0}
GivenNames sizes (some names) = ((length names ≡ length sizes) × Every RightSortName names) × (T (distinct names) × (get_or names 0 [] ≡ bytes "Bool"))

in_pairs : (sizes : List ℕ) (names : List Name) → RightSizes sizes → GivenNames sizes (some names) → NamedSorts (together sizes names)
unfolding RightSizes GivenNames
in_pairs sizes names h k =
    let e = k.0.0 in
    let f = firsts_together sizes names e in
    let g = seconds_together sizes names e in
    let n = length-map (together sizes names) (λ (x : ℕ × Name). x.0) in
    let m = ap length f in (
      ((omega arith, omega arith), every_pair (Between 1 max_size) RightSortName sizes names h.0.1 k.0.1),
      (ap (λ (l : List ℕ). get_or l 0 0) f ∙ h.1, (subst (λ (l : List Name). T (distinct l)) (sym g) k.1.0, ap (λ (l : List Name). get_or l 0 []) g ∙ k.1.1)),
    )

from_pairs : (l : List (ℕ × Name)) → NamedSorts l → RightSizes (firsts l) × GivenNames (firsts l) (some (seconds l))
unfolding RightSizes GivenNames
from_pairs l h =
    let n = length-map l (λ (x : ℕ × Name). x.0) in (
      (((omega arith, omega arith), every_first (Between 1 max_size) RightSortName l h.0.1), h.1.0),
      ((length_parts l, every_second (Between 1 max_size) RightSortName l h.0.1), h.1.1),
    )

few_sorts : (sizes : List ℕ) → RightSizes sizes → length sizes ≤ max_sorts
unfolding RightSizes
few_sorts sizes h = h.0.0.1

-- The first byte tells the layouts apart: there are at most 8 sorts.
pub all_sorts_law : Lawful (λ (x : SortsRead). written_sorts x.0 x.1) (λ x. RightSizes x.0 × GivenNames x.0 x.1) read_all_sorts
unfolding read_all_sorts written_sorts GivenNames named_sorts unnamed_sorts view bind encode_numbers ℕ_discrete
all_sorts_law = record { there = λ x rest h. to x.0 x.1 rest h; back = from }
  where
    to : (sizes : List ℕ) (o : Option (List Name)) (rest : List ℕ) → RightSizes sizes × GivenNames sizes o → read_all_sorts (written_sorts sizes o ++ rest) ≡ found (sizes, o) rest
    to sizes none rest h = go (ℕ_discrete (length sizes) names_code)
      where
        go : (d : Dec (length sizes ≡ names_code))
            → ◌≡◌ {A = Got ℕ SortsRead} (elim d [ yes e ↦ view named_sorts read_named_sorts (sizes ++ rest) | no h ↦ view unnamed_sorts read_sizes (length sizes ∷ (sizes ++ rest)) ]) (found (sizes, none) rest)
        go (yes e) = absurd (omega (arith, few_sorts sizes h.0))
        go (no k) = rw (sizes_law.there sizes rest h.0)
    to sizes (some names) rest h =
        rw (named_sorts_law.there (together sizes names) rest (in_pairs sizes names h.0 h.1), firsts_together sizes names h.1.0.0, seconds_together sizes names h.1.0.0)

    from : (xs : List ℕ) (x : SortsRead) (rest : List ℕ) → read_all_sorts xs ≡ found x rest → (xs ≡ written_sorts x.0 x.1 ++ rest) × (RightSizes x.0 × GivenNames x.0 x.1)
    from [] x rest e = never x rest e
    from (b ∷ xs) x rest e = go (ℕ_discrete b names_code) e
      where
        go : (d : Dec (b ≡ names_code))
            → ◌≡◌ {A = Got ℕ SortsRead} (elim d [ yes e ↦ view named_sorts read_named_sorts xs | no h ↦ view unnamed_sorts read_sizes (b ∷ xs) ]) (found x rest)
            → (b ∷ xs ≡ written_sorts x.0 x.1 ++ rest) × (RightSizes x.0 × GivenNames x.0 x.1)
        go (yes k) e =
            let (l, ys, e₁, e₂) = bound (read_named_sorts xs) _ x rest e in
            let (f, g) = named_sorts_law.back xs l ys e₁ in
            let q : named_sorts l ≡ x = cc in
            let z : ys ≡ rest = cc in
            let t : b ∷ xs ≡ names_code ∷ (encode_list encode_sort (together (firsts l) (seconds l)) ++ rest) = rw (together_parts l) (cc) in
            subst (λ (y : SortsRead). (b ∷ xs ≡ written_sorts y.0 y.1 ++ rest) × (RightSizes y.0 × GivenNames y.0 y.1)) q (t, from_pairs l g)
        go (no k) e =
            let (l, ys, e₁, e₂) = bound (read_sizes (b ∷ xs)) _ x rest e in
            let (f, g) = sizes_law.back (b ∷ xs) l ys e₁ in
            let q : unnamed_sorts l ≡ x = cc in
            let z : ys ≡ rest = cc in
            let t : b ∷ xs ≡ encode_numbers l ++ rest = cc in
            subst (λ (y : SortsRead). (b ∷ xs ≡ written_sorts y.0 y.1 ++ rest) × (RightSizes y.0 × GivenNames y.0 y.1)) q (t, (g, tt))

-- the names that stand in the stream
names_in : Layout → Sig → Option (List Name)
names_in with_names S = some S.sort_names
names_in without_names S = none

-- those that do not stand there are the printer's
NamesKnown : Layout → Sig → Type 0
NamesKnown with_names S = Unit {0}
NamesKnown without_names S = S.sort_names ≡ older_names (action_names S.acts) (length S.sorts)

-- functions and actions
DeclaredRight : Sig → Type 0
DeclaredRight S =
    ((length S.funcs ≤ max_functions) × Every (RightFunc S.sorts) S.funcs)
    × (((length S.acts ≤ max_actions) × Every (RightAction S.sorts) S.acts) × T (distinct (action_names S.acts)))

writes : (L : Layout) (S : Sig) → written_sorts S.sorts (names_in L S) ≡ encode_sorts L S
unfolding written_sorts names_in encode_sorts
writes with_names S = refl
writes without_names S = refl

right_to : (L : Layout) (S : Sig) → ((RightSizes S.sorts × GivenNames S.sorts (names_in L S)) × DeclaredRight S) × NamesKnown L S → RightSig S × RightNames L S
unfolding RightSig RightNames DeclaredRight GivenNames names_in NamesKnown
right_to with_names S h = ((h.0.0.0, h.0.1), h.0.0.1)
right_to without_names S h = ((h.0.0.0, h.0.1), h.1)

right_from : (L : Layout) (S : Sig) → RightSig S × RightNames L S → ((RightSizes S.sorts × GivenNames S.sorts (names_in L S)) × DeclaredRight S) × NamesKnown L S
unfolding RightSig RightNames DeclaredRight GivenNames names_in NamesKnown
right_from with_names S h = (((h.0.0, h.1), h.0.1), tt)
right_from without_names S h = (((h.0.0, tt), h.0.1), h.1)

-- what is read of a signature, taken apart
abbrev parts_in : Layout × Sig → SortsRead × (List Func × List Action)
parts_in x = ((x.1.sorts, names_in x.0 x.1), (x.1.funcs, x.1.acts))

sig_again : (L : Layout) (S : Sig) → NamesKnown L S → to_sig (parts_in (L, S)) ≡ (L, S)
unfolding to_sig layout_by names_by names_in NamesKnown
sig_again with_names S h = refl
sig_again without_names S h = ap (λ (l : List Name). (without_names, record { sorts = S.sorts; sort_names = l; funcs = S.funcs; acts = S.acts })) (sym h)

parts_again : (sizes : List ℕ) (o : Option (List Name)) (fs : List Func) (acts : List Action)
    → (parts_in (to_sig ((sizes, o), (fs, acts))) ≡ ((sizes, o), (fs, acts))) × NamesKnown (to_sig ((sizes, o), (fs, acts))).0 (to_sig ((sizes, o), (fs, acts))).1
unfolding to_sig layout_by names_by names_in NamesKnown
parts_again sizes none fs acts = (refl, refl)
parts_again sizes (some names) fs acts = (refl, tt)

pub sig_law : Lawful (λ x. encode_sig x.0 x.1) (λ x. RightSig x.1 × RightNames x.0 x.1) read_sig
unfolding encode_sig read_sig DeclaredRight
sig_law =
    alike_law _ (λ x. ap (λ (l : List ℕ). l ++ (encode_list encode_func x.1.funcs ++ encode_list encode_action x.1.acts)) (writes x.0 x.1))
    (right_law (λ x h. right_to x.0 x.1 h) (λ x h. right_from x.0 x.1 h)
    (view_law_where to_sig parts_in (λ x. NamesKnown x.0 x.1) (λ x h. sig_again x.0 x.1 h) (λ a h. parts_again a.0.0 a.0.1 a.1.0 a.1.1)
    (pair_law all_sorts_law (λ x h.
    pair_law (list_law (at_most? max_functions) (func_law x.0)) (λ fs k.
    test_law (λ acts. T? (distinct (action_names acts))) (list_law (at_most? max_actions) (action_law x.0)))))))

-- WHAT A RIGHT SIGNATURE HAS

pub small_size : (sizes : List ℕ) (D : ℕ) → RightSizes sizes → get_or sizes D 0 ≤ max_size
unfolding RightSizes
small_size sizes D h = every_get_or (λ (n : ℕ). n ≤ max_size) sizes 0 D (every_weaken (Between 1 max_size) _ (λ a k. k.1) sizes h.0.1) (omega arith)

pub apart : (S : Sig) (Γ : List ℕ) → RightSig S → length Γ ≤ variable_code → Apart S Γ
unfolding RightSig size
apart S Γ h l = record { sizes = λ D. let k = small_size S.sorts D h.0 in omega arith; scope = l }

-- SUMMANDS AND EQUATIONS

pub act_law : (S : Sig) → RightSig S → Lawful encode_act (IsAct S) (read_act S)
unfolding encode_act IsAct read_act RightSig ℕ_discrete
act_law S ok = record { there = to; back = from }
  where
    few : length S.acts ≤ max_actions
    few = ok.1.1.0.0

    to : (a : Act) (rest : List ℕ) → IsAct S a → read_act S (encode_act a ++ rest) ≡ found a rest
    to tau rest h = refl
    to (action a) rest h = go (ℕ_discrete a tau_code)
      where
        go : (d : Dec (a ≡ tau_code)) → elim d [ yes e ↦ found tau rest | no h ↦ keep (dec_lt a (length S.acts)) (action a) rest ] ≡ found (action a) rest
        go (yes e) = absurd (omega arith)
        go (no k) = keeps (dec_lt a (length S.acts)) (action a) rest h

    from : (xs : List ℕ) (a : Act) (rest : List ℕ) → read_act S xs ≡ found a rest → (xs ≡ encode_act a ++ rest) × IsAct S a
    from [] a rest e = never a rest e
    from (b ∷ xs) a rest e = go (ℕ_discrete b tau_code) e
      where
        go : (d : Dec (b ≡ tau_code)) → elim d [ yes e ↦ found tau xs | no h ↦ keep (dec_lt b (length S.acts)) (action b) xs ] ≡ found a rest → (b ∷ xs ≡ encode_act a ++ rest) × IsAct S a
        go (yes k) e =
            let q : tau ≡ a = cc in
            let z : b ∷ xs ≡ tau_code ∷ rest = cc in
            subst (λ (y : Act). (b ∷ xs ≡ encode_act y ++ rest) × IsAct S y) q (z, tt)
        go (no k) e =
            let (h, (u, v)) = kept (dec_lt b (length S.acts)) (action b) a xs rest e in
            let z : b ∷ xs ≡ b ∷ rest = cc in
            subst (λ (y : Act). (b ∷ xs ≡ encode_act y ++ rest) × IsAct S y) u (z, h)

zipped : (es : List Equation) → zip (params_of es) (summands_of es) ≡ es
unfolding params_of summands_of zip
zipped [] = refl
zipped (e ∷ es) = ap (λ (l : List Equation). e ∷ l) (zipped es)

unzipped : (Q : List ℕ → List Summand → Type 0) (ps : List (List ℕ)) (hs : List (List Summand)) → Each Q ps hs
    → ◌≡◌ {A = List (List ℕ) × List (List Summand)} (params_of (zip ps hs), summands_of (zip ps hs)) (ps, hs)
unfolding params_of summands_of zip Each
unzipped Q [] [] h = refl
unzipped Q [] (y ∷ hs) h = absurd h
unzipped Q (p ∷ ps) [] h = absurd h
unzipped Q (p ∷ ps) (y ∷ hs) h = ap (λ (x : List (List ℕ) × List (List Summand)). (p ∷ x.0, y ∷ x.1)) (unzipped Q ps hs h.1)

module _ (S : Sig) (ok : RightSig S) where
  pub sorts_law : (most : ℕ) → Lawful encode_numbers (RightSorts S most) (read_sorts S.sorts most)
  unfolding RightSorts read_sorts
  sorts_law most = numbers_law (at_most? most) (below? (length S.sorts))

  pub terms_law : (Γ : List ℕ) → length Γ ≤ variable_code → (Ds : List ℕ) → Lawful (all encode_data) (Each (RightTerm S Γ) Ds) (each (read_term S Γ) Ds)
  terms_law Γ l Ds = each_law (λ D (k : Unit {0}). term_law S Γ (apart S Γ ok l) D) Ds (every_of_all _ (λ D. tt) Ds)

  pub cond_law : (Γ : List ℕ) → length Γ ≤ variable_code → Lawful encode_cond (RightCond S Γ) (read_cond S Γ)
  unfolding encode_cond RightCond read_cond
  cond_law Γ l = pair_law (one_law (below? 2)) (λ w h. term_law S Γ (apart S Γ ok l) Bool_sort)

  module _ (Ps : List (List ℕ)) where
    pub call_law : (Γ : List ℕ) → length Γ ≤ variable_code → Lawful encode_call (RightCall S Ps Γ) (read_call S Ps Γ)
    unfolding encode_call RightCall read_call
    call_law Γ l = pair_law (one_law (below? (length Ps))) (λ e h. terms_law Γ l (get_or Ps e []))

    pub summand_law : (Δ : List ℕ) → RightSorts S frame_width Δ → Lawful encode_summand (RightSummand S Ps Δ) (read_summand S Ps Δ)
    unfolding encode_summand RightSummand read_summand to_summand RightSorts
    summand_law Δ k =
        view_law to_summand (λ h. (h.vars, (h.conds, (h.act, (h.terms, h.calls))))) (λ b. refl) (λ a h. refl)
        (pair_law (sorts_law max_variables) (λ vs h.
        let l : length (Δ ++ vs) ≤ variable_code = simp length-append (omega arith) in
        pair_law (list_law (at_most? max_conditions) (cond_law (Δ ++ vs) l)) (λ cs h₁.
        pair_law (act_law S ok) (λ a h₂.
        pair_law (terms_law (Δ ++ vs) l (takes_of S a)) (λ ts h₃.
        list_law (at_most? max_calls) (call_law (Δ ++ vs) l))))))

    pub summands_law : (Δ : List ℕ) → RightSorts S frame_width Δ → Lawful (encode_list encode_summand) (RightSummands S Ps Δ) (read_summands S Ps Δ)
    unfolding RightSummands read_summands
    summands_law Δ k = list_law (at_most? max_summands) (summand_law Δ k)

  pub equations_law : Lawful encode_equations (RightEquations S) (read_equations S)
  unfolding encode_equations RightEquations read_equations to_equations
  equations_law =
      view_law to_equations (λ es. (params_of es, summands_of es)) zipped (λ x h. unzipped (RightSummands S x.0) x.0 x.1 h.1)
      (pair_law (list_law (between? 1 max_equations) (sorts_law frame_width)) (λ Ps h. each_law (summands_law Ps) Ps h.1))

  pub start_law : (es : List Equation) → Lawful encode_start (RightStart S es) (read_start S es)
  unfolding encode_start RightStart read_start
  start_law es =
      pair_law (one_law (below? (length es))) (λ e h.
      alike_law (λ l. l) all_numbers (each_law (λ D (k : Unit {0}). one_law (below? (size S D))) (get_or (params_of es) e []) (every_of_all _ (λ D. tt) (get_or (params_of es) e []))))

-- THE TABLE

pub table_law : Lawful encode RightTable decode
unfolding encode RightTable decode to_table
table_law =
    right_law (λ T h. ((h.0.0.0, h.0.1), h.1, h.0.0.1)) (λ T h. (((h.0.0, h.2), h.0.1), h.1))
    (test_law (λ T. both? (at_most? max_summands (summand_count T.equations)) (at_most? max_stream (length (encode T))))
    (view_law to_table (λ T. ((T.layout, T.sig), (T.equations, T.start))) (λ b. refl) (λ a h. refl)
    (pair_law sig_law (λ x h. pair_law (equations_law x.1 h.0) (λ es k. start_law x.1 h.0 es)))))

-- A right table's stream is read as that table, whatever stands behind it.
pub decode_encode : (T : Table) (rest : List ℕ) → RightTable T → decode (encode T ++ rest) ≡ found T rest
decode_encode T rest h = table_law.there T rest h

-- Where a table is read, its stream stands there, and the table is right.
pub encode_decode : (xs : List ℕ) (T : Table) (rest : List ℕ) → decode xs ≡ found T rest → (xs ≡ encode T ++ rest) × RightTable T
encode_decode xs T rest e = table_law.back xs T rest e
