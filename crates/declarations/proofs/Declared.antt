-- The lines of a function and of an action from their pieces.
use mathlib.Core.Path.{◌≡◌, refl, sym, ap, ap₂, ◌∙◌}
use mathlib.Core.List.{List, [], ◌∷◌, ◌++◌, map, append_assoc}
use Prim.Native.Nat.{ℕ, suc, ◌+◌, ◌%◌, ◌<◌}
use native.Mathlib.Omega.{arith}
use lib.ListN.{length, get_or, drop}
use lib.Seq.{get_or-drop}
use Rattle.pcrl.specs.Text.{bytes, byte, decimal}
use Rattle.pcrl.specs.Tests.{Every}
use Rattle.pcrl.specs.Sheet.{Func, Action, Sig, size, sort_name}
use Rattle.rendering.specs.Texts.{joined_text, takes_text, sort_line_text, func_line_text, taken_text, act_line_text}
use Rattle.pcrl.specs.Right.{RightSizes}
use Rattle.terms.specs.Stands.{size_in}
use Rattle.evaluation.specs.Known.{KnownTerms}
use Rattle.lettering.specs.Named.{funcs_place, lettered_by, sort_by, Lettered}
use Rattle.lettering.proofs.Laws.{func_is, sort_is}
use Rattle.declarations.specs.Lines.{sort_line_by, takes_by, func_head_by, colon_before}

module _ (S : Sig) (l : List ℕ) (known : Lettered S l) where
  -- the line of sort i + 1, with its size as it stands
  pub sort_line : (s funcs : List ℕ) → KnownTerms S s funcs → (i d v : ℕ) → suc i < length S.sorts → d ≡ (i + 1) % 256 → v ≡ size_in funcs d → sort_line_by l d v ≡ sort_line_text S (1 + i) (get_or (drop 1 S.sorts) i 0)
  unfolding sort_line_text size RightSizes
  sort_line s funcs k i d v h e f =
      let few = k.right_sizes.0.0.1 in
      let same : d ≡ 1 + i = omega arith in
      let name = ap (sort_by l) same ∙ sort_is S l known (1 + i) (omega arith) in
      let there = f ∙ ap (size_in funcs) same ∙ k.size_at (1 + i) (omega arith) ∙ sym (get_or-drop 1 S.sorts i 0) in
      ap₂ (λ (n : List ℕ) (w : ℕ). bytes "sort " ++ (n ++ (bytes " " ++ (decimal w ++ bytes ";")))) name there

  names_are : (Ds : List ℕ) → Every (λ D. D < length S.sorts) Ds → map (sort_by l) Ds ≡ map (sort_name S) Ds
  unfolding Every
  names_are [] e = refl
  names_are (D ∷ Ds) e = ap₂ (λ (n : List ℕ) (ns : List (List ℕ)). n ∷ ns) (sort_is S l known D e.0) (names_are Ds e.1)

  pub takes_are : (Ds : List ℕ) → Every (λ D. D < length S.sorts) Ds → takes_by l Ds ≡ takes_text S Ds
  unfolding takes_by takes_text
  takes_are Ds e = ap (joined_text (bytes "#")) (names_are Ds e)

  pub func_line : (f : ℕ) (g : Func) (takes values : List ℕ) (gives : ℕ) → f < 256 → Every (λ D. D < length S.sorts) g.takes → g.gives < length S.sorts → takes ≡ g.takes → gives ≡ g.gives → values ≡ g.values →
      func_head_by l f takes ++ (sort_by l gives ++ (bytes "=" ++ (joined_text (bytes ",") (map decimal values) ++ bytes ";"))) ≡ func_line_text S f g
  unfolding func_line_text
  func_line f g takes values gives h ks k a b c =
      ap₂ (λ (T G : List ℕ). (bytes "func " ++ (lettered_by l (byte "f") funcs_place f ++ (bytes ":" ++ (T ++ bytes "->")))) ++ (G ++ (bytes "=" ++ (joined_text (bytes ",") (map decimal values) ++ bytes ";"))))
      (ap (takes_by l) a ∙ takes_are g.takes ks) (ap (sort_by l) b ∙ sort_is S l known g.gives k)
      ∙ ap₂ (λ (F W : List ℕ). (bytes "func " ++ (F ++ (bytes ":" ++ (takes_text S g.takes ++ bytes "->")))) ++ (sort_name S g.gives ++ (bytes "=" ++ (W ++ bytes ";"))))
      (func_is S l known f h) (ap (λ (vs : List ℕ). joined_text (bytes ",") (map decimal vs)) c)
      ∙ simp append_assoc

  taken_is : (Ds : List ℕ) → Every (λ D. D < length S.sorts) Ds → colon_before (length Ds) ++ takes_by l Ds ≡ taken_text S Ds
  unfolding colon_before taken_text takes_by joined_text
  taken_is [] e = refl
  taken_is (D ∷ Ds) e = ap (λ (t : List ℕ). bytes ":" ++ t) (takes_are (D ∷ Ds) e)

  pub act_line : (a : Action) (name takes : List ℕ) → Every (λ D. D < length S.sorts) a.takes → name ≡ a.name → takes ≡ a.takes →
      bytes "act " ++ (name ++ (colon_before (length takes) ++ (takes_by l takes ++ bytes ";"))) ≡ act_line_text S a
  unfolding act_line_text
  act_line a name takes ks e f =
      ap₂ (λ (n Ds : List ℕ). bytes "act " ++ (n ++ (colon_before (length Ds) ++ (takes_by l Ds ++ bytes ";")))) e f
      ∙ ap (λ (t : List ℕ). bytes "act " ++ (a.name ++ t)) (sym (append_assoc (colon_before (length a.takes)) (takes_by l a.takes) (bytes ";")) ∙ ap (λ (t : List ℕ). t ++ bytes ";") (taken_is a.takes ks))
