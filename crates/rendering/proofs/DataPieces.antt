-- Data is rendered as its text: in brackets exactly where its form is looser than its place.
use Rattle.std.specs.Prelude.{◌≡◌, refl, ℕ, zero, suc}
use Rattle.std.proofs.Common.{sym, subst}
use mathlib.Core.List.{List, [], ◌∷◌, ◌++◌, map}
use Rattle.std.proofs.Math.Decide.{ℕ_discrete}
use Rattle.pcrl.specs.Text.{bytes, decimal}
use Rattle.pcrl.specs.Tests.{same?, among, Each}
use Rattle.pcrl.specs.Tokens.{Token, name, numeral, words}
use Rattle.pcrl.specs.Tree.{RawData, Atom}
use Rattle.pcrl.specs.Sheet.{Data, val, var, app, Datas, nil, cons, Sig, Operation, operation}
use Rattle.pcrl.specs.Print.{bracketed, print_data, print_conjunction, print_comparison, print_negation, print_atom, print_datas, print_given}
use Rattle.pcrl.specs.Render.{write}
use Rattle.pcrl.specs.Printer.{Shown, atom_shown, as_data, as_negation, as_comparison, as_conjunction, or_behind, and_behind, listed, in_brackets, applied, operand, shown_by, func_name, var_name, shown, all_shown, raw_data}
use Rattle.grammar.specs.PrintLaws.{or_behind_prints, and_behind_prints, applied_given}
use Rattle.rendering.specs.Rendering.{Avoids, Marked}
use Rattle.rendering.specs.Pieces.{Renders, nothing, token, joins, mark, closed, before_mark_too}
use Rattle.rendering.specs.Texts.{joined_text, bracketed_text, any_data, a_conjunction, a_comparison, a_negation, placed, operand_text, operation_text, text_at, texts_at, data_text}

-- another name of the same bytes
pub as_bytes : {ts : List Token} {t u : List ℕ} → t ≡ u → Renders ts t → Renders ts u
as_bytes {ts} e f = subst (Renders ts) e f

-- each datum is rendered as its text
abbrev pub AsTexts : List RawData → List (List ℕ) → Type 0
AsTexts ds ts = Each (λ d t. Renders (print_data d) t) ds ts

-- data with commas between
pub listed_renders : (d : RawData) (ds : List RawData) (t : List ℕ) (ts : List (List ℕ)) → Renders (print_data d) t → AsTexts ds ts → Renders (print_datas (listed d ds)) (joined_text (bytes ",") (t ∷ ts))
unfolding Each listed print_datas joined_text among words same? ℕ_discrete Avoids write
listed_renders d [] t [] f g = f
listed_renders d [] t (u ∷ ts) f g = absurd g
listed_renders d (e ∷ ds) t [] f g = absurd g
listed_renders d (e ∷ ds) t (u ∷ ts) f g = joins f refl (mark _ refl (listed_renders e ds u ts g.0 g.1))

-- in brackets
pub bracketed_renders : {ts : List Token} {t : List ℕ} → Renders ts t → Renders (bracketed ts) (bytes "(" ++ (t ++ bytes ")"))
unfolding bracketed among words same? ℕ_discrete
bracketed_renders f = mark _ refl (before_mark_too (closed f _ refl refl))

pub given_renders : (ds : List RawData) (ts : List (List ℕ)) → AsTexts ds ts → Renders (print_given (in_brackets ds)) (bracketed_text ts)
unfolding Each in_brackets print_given bracketed_text
given_renders [] [] g = nothing
given_renders [] (t ∷ ts) g = absurd g
given_renders (d ∷ ds) [] g = absurd g
given_renders (d ∷ ds) (t ∷ ts) g = bracketed_renders (listed_renders d ds t ts g.0 g.1)

-- a name with or without bracketed data
pub given_marked : (ds : List RawData) → Marked (print_given (in_brackets ds))
unfolding in_brackets print_given bracketed Avoids write
given_marked [] = tt
given_marked (d ∷ ds) = refl

pub named_renders : (x : List ℕ) (ds : List RawData) (ts : List (List ℕ)) → AsTexts ds ts → Renders (name x ∷ print_given (in_brackets ds)) (x ++ bracketed_text ts)
unfolding write
named_renders x ds ts g = joins (token (name x) tt) (given_marked ds) (given_renders ds ts g)

-- data is rendered as its text at each place
pub record ShownAs (s : Shown) (t : ℕ → List ℕ) : Type 0 where
  pub anywhere : Renders (print_data (as_data s)) (t any_data)
  pub in_conjunction : Renders (print_conjunction (as_conjunction s)) (t a_conjunction)
  pub in_comparison : Renders (print_comparison (as_comparison s)) (t a_comparison)
  pub in_negation : Renders (print_negation (as_negation s)) (t a_negation)

pub atom_shown_as : (a : Atom) (t : List ℕ) → Renders (print_atom a) t → ShownAs (atom_shown a) (λ place. t)
unfolding as_data as_conjunction as_comparison as_negation print_data
atom_shown_as a t f = record { anywhere = f; in_conjunction = f; in_comparison = f; in_negation = f }

pub operand_renders : (i : ℕ) (ss : List Shown) (ts : List (ℕ → List ℕ)) → Each ShownAs ss ts → ShownAs (operand i ss) (operand_text i ts)
unfolding Each operand operand_text print_data write
operand_renders i [] [] g = atom_shown_as (Atom.value 0) (decimal 0) (token (numeral 0) tt)
operand_renders i [] (t ∷ ts) g = absurd g
operand_renders i (s ∷ ss) [] g = absurd g
operand_renders zero (s ∷ ss) (t ∷ ts) g = g.0
operand_renders (suc i) (s ∷ ss) (t ∷ ts) g = operand_renders i ss ts g.1

pub anywhere_all : (ss : List Shown) (ts : List (ℕ → List ℕ)) → Each ShownAs ss ts → AsTexts (map as_data ss) (map (λ t. t any_data) ts)
unfolding Each
anywhere_all [] [] g = tt
anywhere_all [] (t ∷ ts) g = absurd g
anywhere_all (s ∷ ss) [] g = absurd g
anywhere_all (s ∷ ss) (t ∷ ts) g = (g.0.anywhere, anywhere_all ss ts g.1)

pub operation_renders : (f : ℕ → List ℕ) (o : Operation) (ss : List Shown) (ts : List (ℕ → List ℕ)) → Each ShownAs ss ts → ShownAs (shown_by f o ss) (operation_text f o ts)
unfolding shown_by operation_text placed as_data as_conjunction as_comparison as_negation print_data among words same? ℕ_discrete Avoids write
operation_renders f (Operation.written g) ss ts h =
    atom_shown_as (applied (f g) (in_brackets (map as_data ss))) (f g ++ bracketed_text (map (λ t. t any_data) ts))
    (subst (λ (l : List Token). Renders l (f g ++ bracketed_text (map (λ t. t any_data) ts))) (sym (applied_given (f g) (in_brackets (map as_data ss)))) (named_renders (f g) (map as_data ss) (map (λ t. t any_data) ts) (anywhere_all ss ts h)))
operation_renders f Operation.not ss ts h =
    let r = mark (bytes "!") refl (operand_renders 0 ss ts h).in_negation in
    record { anywhere = r; in_conjunction = r; in_comparison = r; in_negation = r }
operation_renders f (Operation.equal D) ss ts h =
    let r = joins (operand_renders 0 ss ts h).in_negation refl (mark (bytes "==") refl (operand_renders 1 ss ts h).in_negation) in
    record { anywhere = r; in_conjunction = r; in_comparison = r; in_negation = bracketed_renders r }
operation_renders f Operation.and ss ts h =
    let c = as_conjunction (operand 0 ss) in
    let e = as_comparison (operand 1 ss) in
    let t = operand_text 0 ts a_conjunction ++ (bytes "/\\" ++ operand_text 1 ts a_comparison) in
    let r : Renders (print_conjunction (and_behind c e)) t = rw (and_behind_prints c e) (joins (operand_renders 0 ss ts h).in_conjunction refl (mark (bytes "/\\") refl (operand_renders 1 ss ts h).in_comparison)) in
    record { anywhere = r; in_conjunction = r; in_comparison = bracketed_renders r; in_negation = bracketed_renders r }
operation_renders f Operation.or ss ts h =
    let d = as_data (operand 0 ss) in
    let e = as_conjunction (operand 1 ss) in
    let t = operand_text 0 ts any_data ++ (bytes "\\/" ++ operand_text 1 ts a_conjunction) in
    let r : Renders (print_data (or_behind d e)) t = rw (or_behind_prints d e) (joins (operand_renders 0 ss ts h).anywhere refl (mark (bytes "\\/") refl (operand_renders 1 ss ts h).in_conjunction)) in
    record { anywhere = r; in_conjunction = bracketed_renders r; in_comparison = bracketed_renders r; in_negation = bracketed_renders r }
operation_renders f Operation.unsorted ss ts h = operand_renders 0 ss ts h

module _ (S : Sig) where
  mutual
    unfolding shown text_at print_data write Each

    pub shown_renders : (d : Data) → ShownAs (shown S d) (text_at S d)
    shown_renders (val v) = atom_shown_as (Atom.value v) (decimal v) (token (numeral v) tt)
    shown_renders (var i) = atom_shown_as (Atom.variable (var_name S i)) (var_name S i) (token (name (var_name S i)) tt)
    shown_renders (app f ds) = operation_renders (func_name S) (operation f) (all_shown S ds) (texts_at S ds) (all_render ds)

    pub all_render : (ds : Datas) → Each ShownAs (all_shown S ds) (texts_at S ds)
    all_render nil = tt
    all_render (cons d ds) = (shown_renders d, all_render ds)

  pub data_renders : (d : Data) → Renders (print_data (raw_data S d)) (data_text S d)
  unfolding raw_data data_text
  data_renders d = (shown_renders d).anywhere

  pub list_renders : (ds : List Data) → AsTexts (map (raw_data S) ds) (map (data_text S) ds)
  unfolding Each
  list_renders [] = tt
  list_renders (d ∷ ds) = (data_renders d, list_renders ds)
