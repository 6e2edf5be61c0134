-- Parameters in brackets, one more at a time; lines of processes and the start from their pieces.
use mathlib.Core.Path.{◌≡◌, refl, sym, ap, ap₂, ◌∙◌}
use mathlib.Core.List.{List, [], ◌∷◌, ◌++◌, map, append_assoc, append-nil}
use Prim.Native.Nat.{ℕ, suc, ◌+◌, ◌-◌, ◌≤◌, ◌<◌}
use native.Mathlib.Omega.{arith}
use lib.ListN.{length, get_or, take, drop, length-drop}
use lib.Seq.{take_all, get_or-drop}
use Rattle.pcrl.specs.Text.{bytes, byte, decimal}
use Rattle.pcrl.specs.Tests.{Every}
use Rattle.pcrl.specs.Reader.{all}
use Rattle.pcrl.specs.Sheet.{Sig}
use Rattle.pcrl.specs.Table.{Equation}
use Rattle.pcrl.specs.Printer.{numbered}
use Rattle.rendering.specs.Texts.{joined_text, bracketed_text, concat, right_text, param_text, proc_line_text, init_line_text}
use Rattle.rendering.specs.TextLaws.{numbered_more}
use Rattle.lettering.specs.Named.{procs_place, lettered_by, Lettered}
use Rattle.lettering.proofs.Laws.{proc_is, var_is, sort_is}
use Rattle.printer.specs.Lines.{param_by, proc_head_by}

-- texts by number with a mark between any two: the first, and each of the others behind a mark
joined_numbered : {A : Type 0} (m : List ℕ) (f : ℕ → A → List ℕ) (n : ℕ) (a : A) (l : List A) → joined_text m (numbered f n (a ∷ l)) ≡ f n a ++ concat (numbered (λ i x. m ++ f i x) (suc n) l)
unfolding joined_text numbered concat all
joined_numbered m f n a [] = sym (append-nil (f n a))
joined_numbered m f n a (b ∷ l) = ap (λ (t : List ℕ). f n a ++ (m ++ t)) (joined_numbered m f (suc n) b l) ∙ ap (λ (t : List ℕ). f n a ++ t) (sym (append_assoc m (f (suc n) b) (concat (numbered (λ i x. m ++ f i x) (suc (suc n)) l))))

-- in brackets, where there is at least one
pub bracketed_numbered : (f : ℕ → ℕ → List ℕ) (l : List ℕ) (i : ℕ) → 1 ≤ length l → length l ≤ i + 1 →
    bytes "(" ++ (f 0 (get_or l 0 0) ++ (concat (numbered (λ k x. bytes "," ++ f k x) 1 (take i (drop 1 l))) ++ bytes ")")) ≡ bracketed_text (numbered f 0 l)
unfolding bracketed_text numbered
bracketed_numbered f [] i h k = absurd (omega arith)
bracketed_numbered f (a ∷ l) i h k =
    ap (λ (x : List ℕ). bytes "(" ++ (f 0 a ++ (concat (numbered (λ k x. bytes "," ++ f k x) 1 x) ++ bytes ")"))) (take_all i l (omega arith))
    ∙ ap (λ (t : List ℕ). bytes "(" ++ t) (sym (append_assoc (f 0 a) (concat (numbered (λ k x. bytes "," ++ f k x) 1 l)) (bytes ")")) ∙ ap (λ (t : List ℕ). t ++ bytes ")") (sym (joined_numbered (bytes ",") f 0 a l)))

pub bracketed_none : (l : List ℕ) (f : ℕ → ℕ → List ℕ) → length l ≡ 0 → [] ≡ bracketed_text (numbered f 0 l)
unfolding bracketed_text numbered
bracketed_none [] f e = refl
bracketed_none (a ∷ l) f e = absurd (omega arith)

-- one more behind the first
pub numbered_next : (f : ℕ → ℕ → List ℕ) (l : List ℕ) (i : ℕ) → 1 ≤ i → i < length l → concat (numbered f 1 (take (i + 1 - 1) (drop 1 l))) ≡ concat (numbered f 1 (take (i - 1) (drop 1 l))) ++ f i (get_or l i 0)
numbered_next f l i k h =
    let n = length-drop 1 l in
    let j = i - 1 in
    let z : 1 + j ≡ i = omega arith in
    let y : i + 1 - 1 ≡ j + 1 = omega arith in
    ap (λ (m : ℕ). concat (numbered f 1 (take m (drop 1 l)))) y
    ∙ numbered_more f 1 (drop 1 l) 0 j (omega arith) ∙ ap₂ (λ (k v : ℕ). concat (numbered f 1 (take j (drop 1 l))) ++ f k v) z (get_or-drop 1 l j 0 ∙ ap (λ (k : ℕ). get_or l k 0) z)

pub start_none : (f : ℕ → ℕ → List ℕ) (l : List ℕ) → [] ≡ concat (numbered f 1 (take 0 l))
unfolding concat numbered all
start_none f l = refl

module _ (S : Sig) (l : List ℕ) (known : Lettered S l) where
  param_is : (i D : ℕ) → i < 256 → D < length S.sorts → param_by l i D ≡ param_text S i D
  unfolding param_text
  param_is i D h k = ap₂ (λ (v d : List ℕ). v ++ (bytes ":" ++ d)) (var_is S l known i h) (sort_is S l known D k)

  params_are : (n : ℕ) (Ds : List ℕ) → n + length Ds ≤ 256 → Every (λ D. D < length S.sorts) Ds → numbered (param_by l) n Ds ≡ numbered (param_text S) n Ds
  unfolding numbered Every
  params_are n [] h e = refl
  params_are n (D ∷ Ds) h e = ap₂ (λ (t : List ℕ) (ts : List (List ℕ)). t ∷ ts) (param_is n D (omega arith) e.0) (params_are (suc n) Ds (omega arith) e.1)

  -- the line of a process
  pub proc_line : (e : ℕ) (q : Equation) (sorts : List ℕ) (n : ℕ) → e < 256 → sorts ≡ q.params → n ≡ length q.params → length q.params ≤ 4 → Every (λ D. D < length S.sorts) q.params →
      proc_head_by l e sorts ++ (right_text S n q.summands ++ bytes ";") ≡ proc_line_text S e q
  unfolding proc_line_text
  proc_line e q sorts n h a b few ks =
      ap₂ (λ (Ds : List ℕ) (m : ℕ). proc_head_by l e Ds ++ (right_text S m q.summands ++ bytes ";")) a b
      ∙ ap₂ (λ (p : List ℕ) (ts : List (List ℕ)). (bytes "proc " ++ (p ++ (bracketed_text ts ++ bytes "="))) ++ (right_text S (length q.params) q.summands ++ bytes ";")) (proc_is S l known e h) (params_are 0 q.params (omega arith) ks)
      ∙ simp append_assoc

  -- the line of init
  pub init_line : (s : ℕ × List ℕ) (e : ℕ) (vs : List ℕ) → s.0 < 256 → e ≡ s.0 → vs ≡ s.1 →
      bytes "init " ++ (lettered_by l (byte "p") procs_place e ++ (bracketed_text (map decimal vs) ++ bytes ";")) ≡ init_line_text S s
  unfolding init_line_text
  init_line s e vs h a b =
      ap₂ (λ (n : ℕ) (ws : List ℕ). bytes "init " ++ (lettered_by l (byte "p") procs_place n ++ (bracketed_text (map decimal ws) ++ bytes ";"))) a b
      ∙ ap (λ (n : List ℕ). bytes "init " ++ (n ++ (bracketed_text (map decimal s.1) ++ bytes ";"))) (proc_is S l known s.0 h)
