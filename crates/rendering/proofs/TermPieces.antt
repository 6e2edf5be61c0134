-- Conditions, summands and right sides are rendered as their texts.
use Rattle.std.specs.Prelude.{◌≡◌, false, eqb, length, get_or}
use Rattle.std.proofs.Math.Path.{refl, subst}
use Rattle.std.proofs.Common.{sym, ap}
use mathlib.Core.List.{List, [], ◌∷◌, ◌++◌, map, append_assoc, append-nil}
use Prim.Native.Nat.{ℕ, zero, suc}
use Rattle.std.proofs.Math.Decide.{ℕ_discrete}
use Rattle.std.proofs.Math.ListN.{replicate}
use Rattle.pcrl.specs.Text.{bytes, byte}
use Rattle.pcrl.specs.Tests.{same?, among, Every}
use Rattle.pcrl.specs.Tokens.{name, the, words}
use Rattle.pcrl.specs.Reader.{all}
use Rattle.pcrl.specs.Tree.{RawData, Choice, Conditional, Sequence, Part}
use Rattle.pcrl.specs.Sheet.{Data, Act, tau, action, Action, Sig, no_action, sort_name}
use Rattle.pcrl.specs.Table.{Summand}
use Rattle.pcrl.specs.Print.{bracketed, print_choice, print_conditional, print_sequence, print_part}
use Rattle.pcrl.specs.Render.{write}
use Rattle.pcrl.specs.Printer.{side, wanting, choice_of, right_of, proc_name, var_name, raw_data, raw_act, raw_call, raw_sequence, raw_conditional, raw_sums, raw_summand}
use Rattle.laws.specs.Every.{every_get_or}
use Rattle.rendering.specs.Rendering.{Avoids, avoids_append, Unequal}
use Rattle.rendering.specs.Pieces.{Renders, token, joins, mark}
use Rattle.rendering.proofs.DataPieces.{as_bytes, bracketed_renders, named_renders, data_renders, list_renders}
use Rattle.rendering.specs.Texts.{joined_text, open_text, close_text, data_text, given_text, act_text, call_text, first_text, second_text, before_text, behind_text, sum_text, sums_text, summand_text, right_text}

-- one closing bracket before some is one behind them
pub closing_more : (n b : ℕ) → replicate n b ++ (b ∷ []) ≡ b ∷ replicate n b
closing_more zero b = refl
closing_more (suc n) b = ap (λ (l : List ℕ). b ∷ l) (closing_more n b)

-- a conditional that wants something is bracketed as a side
pub side_wanting : (w : ℕ) (c : RawData) (p : Sequence) → side (wanting w c p) ≡ Sequence.last (Part.group (Choice.only (wanting w c p)))
unfolding side wanting
side_wanting zero c p = refl
side_wanting (suc w) c p = refl

module _ (S : Sig) where
  pub act_renders : (a : Act) (ds : List Data) → Renders (print_part (raw_act S a ds)) (act_text S a ds)
  unfolding raw_act act_text print_choice write among same? ℕ_discrete
  act_renders tau ds = token (the "tau") refl
  act_renders (action a) ds = named_renders (get_or S.acts a no_action).name (map (raw_data S) ds) (map (data_text S) ds) (list_renders S ds)

  pub sequence_renders : (p : Part) (t : List ℕ) → Renders (print_part p) t → (cs : List (ℕ × List Data)) → Renders (print_sequence (raw_sequence S p cs)) (t ++ all (call_text S) cs)
  unfolding raw_sequence raw_call call_text all print_choice among words same? ℕ_discrete Avoids write
  sequence_renders p t f [] = as_bytes (sym (append-nil t)) f
  sequence_renders p t f (c ∷ cs) =
      joins f refl (mark (bytes ".") refl (sequence_renders (raw_call S c) (proc_name S c.0 ++ given_text S c.1) (named_renders (proc_name S c.0) (map (raw_data S) c.1) (map (data_text S) c.1) (list_renders S c.1)) cs))

  -- a condition that wants w, around the side q
  wanting_renders : (w : ℕ) (d : Data) (q : Sequence) (u : List ℕ) → Renders (print_sequence q) u → Renders (print_conditional (wanting w (raw_data S d) q)) (first_text S (w, d) ++ (u ++ second_text S (w, d)))
  unfolding wanting first_text second_text print_choice among words same? ℕ_discrete Avoids write
  wanting_renders zero d q u f =
      as_bytes (simp (append_assoc, append-nil)) (joins (token (the "delta") refl) refl (mark (bytes "<|") refl (joins (data_renders S d) refl (mark (bytes "|>") refl f))))
  wanting_renders (suc w) d q u f =
      as_bytes (simp append_assoc) (joins f refl (mark (bytes "<|") refl (joins (data_renders S d) refl (mark (bytes "|>") refl (token (the "delta") refl)))))

  -- what the conditions cs make of a piece
  abbrev guarded_text : List (ℕ × Data) → List ℕ → List ℕ
  guarded_text cs t = before_text S cs ++ (t ++ behind_text S cs)

  side_renders : (cs : List (ℕ × Data)) (p : Sequence) (t : List ℕ) → Renders (print_conditional (raw_conditional S cs p)) (guarded_text cs t) → Renders (print_sequence (side (raw_conditional S cs p))) (open_text cs ++ (guarded_text cs t ++ close_text cs))
  unfolding raw_conditional before_text behind_text open_text close_text print_choice side
  side_renders [] p t f = as_bytes (sym (append-nil (t ++ []))) f
  side_renders (c ∷ cs) p t f =
      subst (λ (q : Sequence). Renders (print_sequence q) (bytes "(" ++ (guarded_text (c ∷ cs) t ++ bytes ")"))) (sym (side_wanting c.0 (raw_data S c.1) (side (raw_conditional S cs p))))
      (bracketed_renders f)

  pub conditional_renders : (cs : List (ℕ × Data)) (p : Sequence) (t : List ℕ) → Renders (print_sequence p) t → Renders (print_conditional (raw_conditional S cs p)) (guarded_text cs t)
  unfolding raw_conditional before_text behind_text print_choice
  conditional_renders [] p t f = as_bytes (sym (append-nil t)) f
  conditional_renders (c ∷ cs) p t f =
      as_bytes (simp append_assoc) (wanting_renders c.0 c.1 (side (raw_conditional S cs p)) (open_text cs ++ (guarded_text cs t ++ close_text cs)) (side_renders cs p t (conditional_renders cs p t f)))

  pub sums_render : (n : ℕ) (Ds : List ℕ) (c : Conditional) (t : List ℕ) → Renders (print_conditional c) t → Renders (print_conditional (raw_sums S n Ds c)) (sums_text S n Ds ++ (t ++ replicate (length Ds) (byte ")")))
  unfolding raw_sums sums_text sum_text print_choice among words same? ℕ_discrete Avoids write bracketed
  sums_render n [] c t f = as_bytes (sym (append-nil t)) f
  sums_render n (D ∷ Ds) c t f =
      let inner = sums_render (suc n) Ds c t f in
      let more : replicate (length Ds) (byte ")") ++ bytes ")" ≡ byte ")" ∷ replicate (length Ds) (byte ")") = closing_more (length Ds) (byte ")") in
      as_bytes (simp (append_assoc, more))
      (joins (token (the "sum") refl) refl (bracketed_renders (joins (token (name (var_name S n)) tt) refl (mark (bytes ":") refl (joins (token (name (sort_name S D)) tt) refl (mark (bytes ",") refl inner))))))

  pub summand_renders : (n : ℕ) (h : Summand) → Renders (print_conditional (raw_summand S n h)) (summand_text S n h)
  unfolding raw_summand summand_text
  summand_renders n h =
      as_bytes (simp append_assoc)
      (sums_render n h.vars _ _ (conditional_renders h.conds _ _ (sequence_renders (raw_act S h.act h.terms) (act_text S h.act h.terms) (act_renders h.act h.terms) h.calls)))

  choice_renders : (n : ℕ) (h : Summand) (hs : List Summand) → Renders (print_choice (choice_of (raw_summand S n h) (map (raw_summand S n) hs))) (joined_text (bytes "+") (map (summand_text S n) (h ∷ hs)))
  unfolding choice_of print_choice joined_text among words same? ℕ_discrete Avoids write
  choice_renders n h [] = summand_renders n h
  choice_renders n h (g ∷ hs) = joins (summand_renders n h) refl (mark (bytes "+") refl (choice_renders n g hs))

  pub right_renders : (n : ℕ) (hs : List Summand) → Renders (print_choice (right_of (map (raw_summand S n) hs))) (right_text S n hs)
  unfolding right_of right_text print_choice write among same? ℕ_discrete
  right_renders n [] = token (the "delta") refl
  right_renders n (h ∷ hs) = choice_renders n h hs

  -- A RIGHT SIDE DOES NOT BEGIN WITH `=`, where no action's name does.

  module _ (named : Every (λ (a : Action). eqb (get_or a.name 0 0) (byte "=") ≡ false) S.acts) where
    act_unequal : (a : Act) (ds : List Data) → Unequal (print_part (raw_act S a ds))
    unfolding raw_act print_choice Avoids write
    act_unequal tau ds = refl
    act_unequal (action a) ds = every_get_or _ S.acts no_action a named refl

    sequence_unequal : (p : Part) → Unequal (print_part p) → (cs : List (ℕ × List Data)) → Unequal (print_sequence (raw_sequence S p cs))
    unfolding raw_sequence print_choice Avoids write
    sequence_unequal p h [] = h
    sequence_unequal p h (c ∷ cs) = avoids_append (λ b. eqb b (byte "=")) (print_part p) _ h refl

    conditional_unequal : (cs : List (ℕ × Data)) (p : Sequence) → Unequal (print_sequence p) → Unequal (print_conditional (raw_conditional S cs p))
    unfolding raw_conditional wanting side print_choice bracketed Avoids write
    conditional_unequal [] p h = h
    conditional_unequal ((zero, d) ∷ cs) p h = refl
    conditional_unequal ((suc w, d) ∷ []) p h = avoids_append (λ b. eqb b (byte "=")) (print_sequence p) _ h refl
    conditional_unequal ((suc w, d) ∷ (zero, e) ∷ cs) p h = refl
    conditional_unequal ((suc w, d) ∷ (suc v, e) ∷ cs) p h = refl

    summand_unequal : (n : ℕ) (h : Summand) → Unequal (print_conditional (raw_summand S n h))
    unfolding raw_summand raw_sums print_choice bracketed Avoids write
    summand_unequal n h = by h.vars (raw_conditional S h.conds _) (conditional_unequal h.conds _ (sequence_unequal _ (act_unequal h.act h.terms) h.calls))
      where
        by : (Ds : List ℕ) (c : Conditional) → Unequal (print_conditional c) → Unequal (print_conditional (raw_sums S n Ds c))
        by [] c h = h
        by (D ∷ Ds) c h = refl

    pub right_unequal : (n : ℕ) (hs : List Summand) → Unequal (print_choice (right_of (map (raw_summand S n) hs)))
    unfolding right_of choice_of print_choice Avoids write
    right_unequal n [] = refl
    right_unequal n (h ∷ []) = summand_unequal n h
    right_unequal n (h ∷ g ∷ hs) = avoids_append (λ b. eqb b (byte "=")) (print_conditional (raw_summand S n h)) _ (summand_unequal n h) refl
