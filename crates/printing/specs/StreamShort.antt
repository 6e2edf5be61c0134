-- A table with a text of at most 4,096 bytes has a stream that is far below its limit, also with the names of its sorts: the stream of the summands has at
-- most four bytes for each token, and what stands before them is bounded by the limits of a right table.
use Rattle.std.specs.Prelude.{◌≡◌, get_or}
use Rattle.std.proofs.Math.Path.{refl, ap}
use mathlib.Core.List.{List, [], ◌∷◌, ◌++◌, map}
use Prim.Native.Nat.{ℕ, zero, suc, ◌+◌, ◌*◌, ◌≤◌}
use native.Mathlib.Omega.{arith}
use Rattle.std.proofs.Math.ListN.{length, length-append}
use Rattle.pcrl.specs.Limits.{max_bytes, frame_width, max_stream}
use Rattle.pcrl.specs.Tests.{Every, Each}
use Rattle.pcrl.specs.Reader.{all}
use Rattle.pcrl.specs.Tokens.{Token, name, numeral, the}
use Rattle.pcrl.specs.Tree.{Name, RawData, Comparison, Negation, Conditional, Sequence, Part}
use Rattle.pcrl.specs.Lists.{together}
use Rattle.pcrl.specs.Sheet.{Data, val, var, app, Datas, nil, cons, list_of, Act, tau, action, Func, Action, Sig, Operation, operation, sort_name, takes_of}
use Rattle.pcrl.specs.Sorts.{Bool_sort}
use Rattle.pcrl.specs.Table.{Summand, Equation, Table, with_names, renewed, params_of, summands_of, nodes, nodes_all}
use Rattle.pcrl.specs.Stream.{encode_data, encode_numbers, encode_list, encode_sort, encode_sorts, encode_func, encode_action, encode_sig, encode_act, encode_cond, encode_call, encode_summand, encode_equations, encode_start, encode}
use Rattle.pcrl.specs.Right.{RightSizes, RightFunc, RightName, RightAction, RightSig, RightSortName, RightNames, RightSorts, RightTerm, RightCond, RightCall, RightSummand, RightSummands, RightEquations, RightStart, RightTable}
use Rattle.pcrl.specs.Print.{bracketed, joined, print_data, print_conjunction, print_comparison, print_negation, print_atom, print_datas, print_given, print_choice, print_conditional, print_sequence, print_part, line, print_lines, print_sorts, print_values, print_params, print_func, print_proc, print_sheet}
use Rattle.pcrl.specs.Printer.{Shown, as_data, as_conjunction, as_comparison, as_negation, or_behind, and_behind, listed, in_brackets, applied, operand, shown_by, func_name, var_name, shown, all_shown, raw_data, raw_act, raw_call, raw_sequence, raw_conditional, raw_sums, raw_summand, side, wanting, choice_of, right_of, numbered, func_line_of, param_of, proc_line_of, printed}
use Rattle.laws.specs.Every.{every_weaken, every_get_or}
use Rattle.laws.specs.Each.{each_length}
use Rattle.laws.specs.TermLength.{data_length}
use Rattle.grammar.specs.PrintLaws.{or_behind_prints, and_behind_prints, joined_length, sheet_length}
use Rattle.printing.specs.Plain.{PlainUse, Plain, PlainAll, plain_data}
use Rattle.printing.specs.ShownLaws.{Property, HandsOn, Has, Everywhere, everywhere}

-- DATA: AS MANY TOKENS AS NODES

-- a form with at least so many tokens
abbrev AtLeast : ℕ → Property
AtLeast n = record {
  data_has = λ d. n ≤ length (print_data d);
  conjunction_has = λ c. n ≤ length (print_conjunction c);
  comparison_has = λ c. n ≤ length (print_comparison c);
  negation_has = λ a. n ≤ length (print_negation a);
  atom_has = λ a. n ≤ length (print_atom a);
}

length_bracketed : (ts : List Token) → length (bracketed ts) ≡ length ts + 2
unfolding bracketed
length_bracketed ts = simp length-append (omega arith)

handed : (n : ℕ) → HandsOn (AtLeast n)
unfolding print_data
handed n = record { to_data = λ c h. h; to_conjunction = λ c h. h; to_comparison = λ a h. h; to_negation = λ a h. h; to_brackets = λ d h. omega (arith, length_bracketed (print_data d)) }

abbrev LongAs : Shown → Data → Type 0
LongAs s d = Everywhere (AtLeast (nodes d)) s

-- one datum or two, as they are shown
one_shown : (Q : List Shown → Datas → Type 0) → ((s : Shown) (d : Data) → LongAs s d → Q (s ∷ []) (cons d nil)) → (ss : List Shown) (ds : Datas) → length (list_of ds) ≡ 1 → Each LongAs ss (list_of ds) → Q ss ds
unfolding Each list_of
one_shown Q q ss nil n h = absurd (omega arith)
one_shown Q q [] (cons d nil) n h = absurd h
one_shown Q q (s ∷ []) (cons d nil) n h = q s d h.0
one_shown Q q (s ∷ t ∷ ss) (cons d nil) n h = absurd h.1
one_shown Q q ss (cons d (cons e ds)) n h = absurd (omega arith)

two_shown : (Q : List Shown → Datas → Type 0) → ((s t : Shown) (d e : Data) → LongAs s d → LongAs t e → Q (s ∷ t ∷ []) (cons d (cons e nil))) → (ss : List Shown) (ds : Datas) → length (list_of ds) ≡ 2 → Each LongAs ss (list_of ds) → Q ss ds
unfolding Each list_of
two_shown Q q ss nil n h = absurd (omega arith)
two_shown Q q ss (cons d nil) n h = absurd (omega arith)
two_shown Q q [] (cons d (cons e nil)) n h = absurd h
two_shown Q q (s ∷ []) (cons d (cons e nil)) n h = absurd h.1
two_shown Q q (s ∷ t ∷ []) (cons d (cons e nil)) n h = q s t d e h.0 h.1.0
two_shown Q q (s ∷ t ∷ u ∷ ss) (cons d (cons e nil)) n h = absurd h.1.1
two_shown Q q ss (cons d (cons e (cons x ds))) n h = absurd (omega arith)

module _ (S : Sig) (Γ : List ℕ) where
  -- listed data, with commas
  listed_long : (s : Shown) (d : Data) (ss : List Shown) (ds : Datas) → LongAs s d → Each LongAs ss (list_of ds) → nodes d + nodes_all ds ≤ length (print_datas (listed (as_data s) (map as_data ss)))
  unfolding Each list_of listed print_data nodes
  listed_long s d [] nil h k = let a = h.anywhere in omega arith
  listed_long s d [] (cons e ds) h k = absurd k
  listed_long s d (t ∷ ss) nil h k = absurd k
  listed_long s d (t ∷ ss) (cons e ds) h k =
      let n = length-append (print_data (as_data s)) (the "," ∷ print_datas (listed (as_data t) (map as_data ss))) in
      omega (arith, h.anywhere, listed_long t e ss ds k.0 k.1)

  written_long : (x : Name) (ss : List Shown) (ds : Datas) → 1 ≤ length (list_of ds) → Each LongAs ss (list_of ds) → suc (nodes_all ds) ≤ length (print_atom (applied x (in_brackets (map as_data ss))))
  unfolding Each list_of applied in_brackets print_data nodes
  written_long x ss nil n h = absurd (omega arith)
  written_long x [] (cons d ds) n h = absurd h
  written_long x (s ∷ ss) (cons d ds) n h = omega (arith, listed_long s d ss ds h.0 h.1, length_bracketed (print_datas (listed (as_data s) (map as_data ss))))

  operation_long : (f : ℕ → Name) (o : Operation) (ss : List Shown) (ds : Datas) → PlainUse S Γ o (list_of ds) → Each LongAs ss (list_of ds) → Has (AtLeast (suc (nodes_all ds))) (shown_by f o ss)
  unfolding PlainUse shown_by Has nodes operand print_data
  operation_long f (Operation.written g) ss ds p h = written_long (f g) ss ds p.1 h
  operation_long f Operation.not ss ds p h =
      one_shown (λ ss ds. suc (nodes_all ds) ≤ length (print_negation (Negation.not (as_negation (operand 0 ss))))) (λ s d k. let a = k.in_negation in omega arith) ss ds p h
  operation_long f Operation.and ss ds p h =
      two_shown (λ ss ds. suc (nodes_all ds) ≤ length (print_conjunction (and_behind (as_conjunction (operand 0 ss)) (as_comparison (operand 1 ss)))))
      (λ s t d e k l. let n = ap length (and_behind_prints (as_conjunction s) (as_comparison t)) in
      let m = length-append (print_conjunction (as_conjunction s)) (the "/\\" ∷ print_comparison (as_comparison t)) in
      omega (arith, k.in_conjunction, l.in_comparison)) ss ds p h
  operation_long f Operation.or ss ds p h =
      two_shown (λ ss ds. suc (nodes_all ds) ≤ length (print_data (or_behind (as_data (operand 0 ss)) (as_conjunction (operand 1 ss)))))
      (λ s t d e k l. let n = ap length (or_behind_prints (as_data s) (as_conjunction t)) in
      let m = length-append (print_data (as_data s)) (the "\\/" ∷ print_conjunction (as_conjunction t)) in
      omega (arith, k.anywhere, l.in_conjunction)) ss ds p h
  operation_long f (Operation.equal D) ss ds p h =
      two_shown (λ ss ds. suc (nodes_all ds) ≤ length (print_comparison (Comparison.equal (as_negation (operand 0 ss)) (as_negation (operand 1 ss)))))
      (λ s t d e k l. let m = length-append (print_negation (as_negation s)) (the "==" ∷ print_negation (as_negation t)) in omega (arith, k.in_negation, l.in_negation)) ss ds p.0 h
  operation_long f Operation.unsorted ss ds p h = absurd p

  mutual
    unfolding Plain shown Each list_of nodes Has print_data

    data_long : (d : Data) → Plain S Γ d → LongAs (shown S d) d
    data_long (val v) h = everywhere (AtLeast 1) (handed 1) _ (omega arith)
    data_long (var i) h = everywhere (AtLeast 1) (handed 1) _ (omega arith)
    data_long (app f ds) h = everywhere (AtLeast (suc (nodes_all ds))) (handed (suc (nodes_all ds))) _ (operation_long (func_name S) (operation f) (all_shown S ds) ds h.0 (datas_long ds h.1))

    datas_long : (ds : Datas) → PlainAll S Γ ds → Each LongAs (all_shown S ds) (list_of ds)
    datas_long nil h = tt
    datas_long (cons d ds) h = (data_long d h.0, datas_long ds h.1)

-- SUMMANDS: AT MOST FOUR BYTES FOR EACH TOKEN

module _ (S : Sig) (ok : RightSig S) where
  -- the tokens of data, brackets and commas around them apart
  abbrev spoken : List Data → ℕ
  spoken ds = length (all (λ d. print_data (raw_data S d)) ds)

  listed_spoken : (d : Data) (ds : List Data) → length (print_data (raw_data S d)) + spoken ds ≤ length (print_datas (listed (raw_data S d) (map (raw_data S) ds)))
  unfolding listed print_data all
  listed_spoken d [] = omega arith
  listed_spoken d (e ∷ ds) =
      let n = length-append (print_data (raw_data S d)) (the "," ∷ print_datas (listed (raw_data S e) (map (raw_data S) ds))) in
      let m = length-append (print_data (raw_data S e)) (all (λ d. print_data (raw_data S d)) ds) in
      omega (arith, listed_spoken e ds)

  given_spoken : (ds : List Data) → spoken ds ≤ length (print_given (in_brackets (map (raw_data S) ds)))
  unfolding in_brackets print_given all
  given_spoken [] = omega arith
  given_spoken (d ∷ ds) =
      let m = length-append (print_data (raw_data S d)) (all (λ d. print_data (raw_data S d)) ds) in
      omega (arith, listed_spoken d ds, length_bracketed (print_datas (listed (raw_data S d) (map (raw_data S) ds))))

  side_long : (c : Conditional) → length (print_conditional c) ≤ length (print_sequence (side c))
  unfolding side print_choice
  side_long (Conditional.plain p) = omega arith
  side_long (Conditional.cond p d q) = omega (arith, length_bracketed (print_conditional (Conditional.cond p d q)))

  wanting_long : (w : ℕ) (d : RawData) (q : Sequence) → length (print_conditional (wanting w d q)) ≡ length (print_data d) + length (print_sequence q) + 3
  unfolding wanting print_choice
  wanting_long zero d q = simp length-append (omega arith)
  wanting_long (suc w) d q = simp length-append (omega arith)

  module _ (Γ : List ℕ) where
    term_short : (D : ℕ) (d : Data) → RightTerm S Γ D d → length (encode_data d) ≤ 2 * length (print_data (raw_data S d))
    unfolding raw_data
    term_short D d h = let n = data_length S Γ d D h.0 in let t = (data_long S Γ d (plain_data S ok Γ d D h.0)).anywhere in omega arith

    terms_short : (Ds : List ℕ) (ds : List Data) → Each (RightTerm S Γ) Ds ds → length (all encode_data ds) ≤ 2 * spoken ds
    unfolding Each all
    terms_short [] [] h = omega arith
    terms_short [] (d ∷ ds) h = absurd h
    terms_short (D ∷ Ds) [] h = absurd h
    terms_short (D ∷ Ds) (d ∷ ds) h =
        let n = length-append (encode_data d) (all encode_data ds) in
        let m = length-append (print_data (raw_data S d)) (all (λ d. print_data (raw_data S d)) ds) in
        omega (arith, term_short D d h.0, terms_short Ds ds h.1)

    act_spoken : (a : Act) (ds : List Data) → Each (RightTerm S Γ) (takes_of S a) ds → suc (spoken ds) ≤ length (print_part (raw_act S a ds))
    unfolding raw_act print_choice takes_of Each all
    act_spoken tau [] h = omega arith
    act_spoken tau (d ∷ ds) h = absurd h
    act_spoken (action a) ds h = omega (arith, given_spoken ds)

    sequence_short : (Ps : List (List ℕ)) (p : Part) (cs : List (ℕ × List Data)) → Every (RightCall S Ps Γ) cs → 4 * length (print_part p) + length (all encode_call cs) ≤ 4 * length (print_sequence (raw_sequence S p cs))
    unfolding raw_sequence raw_call print_choice Every RightCall encode_call all
    sequence_short Ps p [] h = omega arith
    sequence_short Ps p (c ∷ cs) h =
        let q = raw_sequence S (raw_call S c) cs in
        let n = length-append (print_part p) (the "." ∷ print_sequence q) in
        let m = length-append (encode_call c) (all encode_call cs) in
        omega (arith, sequence_short Ps (raw_call S c) cs h.1, given_spoken c.1, terms_short (get_or Ps c.0 []) c.1 h.0.1)

    conditional_short : (cs : List (ℕ × Data)) (p : Sequence) → Every (RightCond S Γ) cs → 4 * length (print_sequence p) + length (all encode_cond cs) ≤ 4 * length (print_conditional (raw_conditional S cs p))
    unfolding raw_conditional print_choice Every RightCond encode_cond all
    conditional_short [] p h = omega arith
    conditional_short (c ∷ cs) p h =
        let q = raw_conditional S cs p in
        let m = length-append (encode_cond c) (all encode_cond cs) in
        omega (arith, conditional_short cs p h.1, side_long q, wanting_long c.0 (raw_data S c.1) (side q), term_short Bool_sort c.1 h.0.1)

  sums_short : (n : ℕ) (Ds : List ℕ) (c : Conditional) → 4 * length (print_conditional c) + length Ds ≤ 4 * length (print_conditional (raw_sums S n Ds c))
  unfolding raw_sums print_choice
  sums_short n [] c = omega arith
  sums_short n (D ∷ Ds) c =
      let q = raw_sums S (suc n) Ds c in
      omega (arith, sums_short (suc n) Ds c, length_bracketed (name (var_name S n) ∷ the ":" ∷ name (sort_name S D) ∷ the "," ∷ print_conditional q))

  length_act : (a : Act) → length (encode_act a) ≡ 1
  unfolding encode_act
  length_act tau = refl
  length_act (action a) = refl

  summand_short : (Ps : List (List ℕ)) (Δ : List ℕ) (n : ℕ) (h : Summand) → RightSummand S Ps Δ h → length (encode_summand h) ≤ 4 * length (print_conditional (raw_summand S n h))
  unfolding RightSummand encode_summand raw_summand encode_numbers encode_list
  summand_short Ps Δ n h r =
      let Γ = Δ ++ h.vars in
      let p = raw_act S h.act h.terms in
      let q = raw_sequence S p h.calls in
      let c = raw_conditional S h.conds q in
      let a₃ = length-append (all encode_data h.terms) (length h.calls ∷ all encode_call h.calls) in
      let a₂ = length-append (encode_act h.act) (all encode_data h.terms ++ (length h.calls ∷ all encode_call h.calls)) in
      let a₁ = length-append (all encode_cond h.conds) (encode_act h.act ++ (all encode_data h.terms ++ (length h.calls ∷ all encode_call h.calls))) in
      let a₀ = length-append h.vars (length h.conds ∷ (all encode_cond h.conds ++ (encode_act h.act ++ (all encode_data h.terms ++ (length h.calls ∷ all encode_call h.calls))))) in
      omega (
        arith,
        length_act h.act,
        sums_short n h.vars c,
        conditional_short Γ h.conds q r.1.0.1,
        sequence_short Γ Ps p h.calls r.1.1.1.1.1,
        act_spoken Γ h.act h.terms r.1.1.1.0,
        terms_short Γ (takes_of S h.act) h.terms r.1.1.1.0,
      )

  choice_short : (Ps : List (List ℕ)) (Δ : List ℕ) (n : ℕ) (h : Summand) (hs : List Summand) → RightSummand S Ps Δ h → Every (RightSummand S Ps Δ) hs
      → length (all encode_summand (h ∷ hs)) ≤ 4 * length (print_choice (choice_of (raw_summand S n h) (map (raw_summand S n) hs)))
  unfolding choice_of print_choice Every all
  choice_short Ps Δ n h [] r k = let a = length-append (encode_summand h) [] in omega (arith, summand_short Ps Δ n h r)
  choice_short Ps Δ n h (g ∷ hs) r k =
      let a = length-append (encode_summand h) (all encode_summand (g ∷ hs)) in
      let b = length-append (print_conditional (raw_summand S n h)) (the "+" ∷ print_choice (choice_of (raw_summand S n g) (map (raw_summand S n) hs))) in
      omega (arith, summand_short Ps Δ n h r, choice_short Ps Δ n g hs k.0 k.1)

  right_short : (Ps : List (List ℕ)) (Δ : List ℕ) (n : ℕ) (hs : List Summand) → Every (RightSummand S Ps Δ) hs
      → length (encode_list encode_summand hs) ≤ 1 + 4 * length (print_choice (right_of (map (raw_summand S n) hs)))
  unfolding right_of print_choice encode_list Every all
  right_short Ps Δ n [] k = omega arith
  right_short Ps Δ n (h ∷ hs) k = omega (arith, choice_short Ps Δ n h hs k.0 k.1)

  line_short : (Ps : List (List ℕ)) (e : ℕ) (q : Equation) → RightSummands S Ps q.params q.summands → length (encode_list encode_summand q.summands) ≤ 4 * length (line "proc" (print_proc (proc_line_of S e q)))
  unfolding RightSummands line print_proc proc_line_of
  line_short Ps e q h =
      let c = print_choice (right_of (map (raw_summand S (length q.params)) q.summands)) in
      let ps = print_params (numbered (param_of S) 0 q.params) in
      let a = length-append ps (the "=" ∷ c) in
      let b = length-append (ps ++ (the "=" ∷ c)) (the ";" ∷ []) in
      omega (arith, right_short Ps q.params (length q.params) q.summands h.1)

  lines_short : (Ps : List (List ℕ)) (i : ℕ) (es : List Equation) → Each (RightSummands S Ps) (params_of es) (summands_of es)
      → length (all (encode_list encode_summand) (summands_of es)) ≤ 4 * length (print_lines "proc" print_proc (numbered (proc_line_of S) i es))
  unfolding params_of summands_of Each all numbered
  lines_short Ps i [] h = omega arith
  lines_short Ps i (q ∷ es) h =
      let a = length-append (encode_list encode_summand q.summands) (all (encode_list encode_summand) (summands_of es)) in
      let b = length-append (line "proc" (print_proc (proc_line_of S i q))) (print_lines "proc" print_proc (numbered (proc_line_of S) (suc i) es)) in
      omega (arith, line_short Ps i q h.0, lines_short Ps (suc i) es h.1)

  -- WHAT STANDS BEFORE THE SUMMANDS

  func_short : (f : ℕ) (g : Func) → RightFunc S.sorts g → length (encode_func g) ≤ length (line "func" (print_func (func_line_of S f g)))
  unfolding RightFunc encode_func encode_numbers line print_func func_line_of print_values
  func_short f g r =
      let Ds = print_sorts (map (sort_name S) g.takes) in
      let vs = joined "," (λ v. numeral v ∷ []) g.values in
      let a = length-append g.takes (g.gives ∷ g.values) in
      let b = length-append Ds (the "->" ∷ name (sort_name S g.gives) ∷ the "=" ∷ vs) in
      let c = length-append (Ds ++ (the "->" ∷ name (sort_name S g.gives) ∷ the "=" ∷ vs)) (the ";" ∷ []) in
      omega (arith, joined_length "," (λ v. numeral v ∷ []) (λ v. omega arith) g.values)

  funcs_short : (i : ℕ) (fs : List Func) → Every (RightFunc S.sorts) fs → length (all encode_func fs) ≤ length (print_lines "func" print_func (numbered (func_line_of S) i fs))
  unfolding Every all numbered
  funcs_short i [] h = omega arith
  funcs_short i (g ∷ fs) h =
      let a = length-append (encode_func g) (all encode_func fs) in
      let b = length-append (line "func" (print_func (func_line_of S i g))) (print_lines "func" print_func (numbered (func_line_of S) (suc i) fs)) in
      omega (arith, func_short i g h.0, funcs_short (suc i) fs h.1)

acts_short : (sizes : List ℕ) (as' : List Action) → Every (RightAction sizes) as' → length (all encode_action as') ≤ 20 * length as'
unfolding Every all RightAction RightName encode_action encode_numbers
acts_short sizes [] h = omega arith
acts_short sizes (a ∷ as') h =
    let n = length-append (length a.name ∷ a.name) (length a.takes ∷ a.takes) in
    let m = length-append (encode_action a) (all encode_action as') in
    omega (arith, acts_short sizes as' h.1)

sorts_short : (sizes : List ℕ) (names : List Name) → Every RightSortName names → length (all encode_sort (together sizes names)) ≤ 18 * length sizes
unfolding Every all together RightSortName encode_sort encode_numbers
sorts_short [] names h = omega arith
sorts_short (n ∷ sizes) [] h = omega arith
sorts_short (n ∷ sizes) (x ∷ names) h =
    let m = length-append (encode_sort (n, x)) (all encode_sort (together sizes names)) in
    omega (arith, sorts_short sizes names h.1)

params_short : (S : Sig) (Ps : List (List ℕ)) → Every (RightSorts S frame_width) Ps → length (all encode_numbers Ps) ≤ 5 * length Ps
unfolding Every all RightSorts encode_numbers
params_short S [] h = omega arith
params_short S (Ds ∷ Ps) h = let m = length-append (encode_numbers Ds) (all encode_numbers Ps) in omega (arith, params_short S Ps h.1)

start_short : (S : Sig) (es : List Equation) (s : ℕ × List ℕ) → RightEquations S es → RightStart S es s → length s.1 ≤ frame_width
unfolding RightEquations RightStart RightSorts
start_short S es s h k =
    let n = each_length _ (get_or (params_of es) s.0 []) s.1 k.1 in
    let m = every_get_or (λ (Ds : List ℕ). length Ds ≤ frame_width) (params_of es) [] s.0 (every_weaken _ _ (λ Ds r. r.0) (params_of es) h.0.1) (omega arith) in
    omega arith

-- THE STREAM OF A TABLE WITH A SHORT TEXT IS SHORT, ALSO WITH THE NAMES OF ITS SORTS.
pub renewed_short : (U : Table) → RightTable U → RightNames with_names U.sig → length (print_sheet (printed U)) ≤ max_bytes → length (encode (renewed U)) ≤ max_stream
unfolding RightTable RightSig RightSizes RightNames RightEquations RightStart renewed encode encode_sig encode_sorts encode_list encode_equations encode_start printed
renewed_short U right named few =
    let S = U.sig in
    let es = U.equations in
    let ok = right.0.0 in
    let rows = right.0.1.0 in
    let k : length U.start.1 ≤ frame_width = start_short S es U.start rows right.0.1.1 in
    let many_sorts = ok.0.0.0 in
    let many_acts = ok.1.1.0.0 in
    let many = rows.0.0 in
    simp length-append (omega (
      arith,
      sorts_short S.sorts S.sort_names named.0.1,
      funcs_short S ok 0 S.funcs ok.1.0.1,
      acts_short S.sorts S.acts ok.1.1.0.1,
      params_short S (params_of es) rows.0.1,
      lines_short S ok (params_of es) 0 es rows.1,
      sheet_length (printed U),
    ))
