-- "The walk": a program reads a sheet and takes step 0 up to 8 times. Its text, byte for byte.
use Rattle.std.specs.Prelude.{List, [], ◌∷◌, ◌++◌, ℕ, zero, suc}
use Rattle.pcrl.specs.Text.{bytes, decimal}
use Rattle.pcrl.specs.Limits.{frame_width, stack_limit}
use Rattle.pcrl.specs.Result.{Result, refused, accepted}
use Rattle.pcrl.specs.Label.{Label, silent, named}
use Rattle.pcrl.specs.Table.{Table}
use Rattle.pcrl.specs.Stack.{Stack}
use Rattle.pcrl.specs.Ask.{Answer, Asked, ask}
use Rattle.pcrl.specs.Answers.{table_made, start_stack}

-- "takes step 0 up to 8 times"
abbrev pub walk_steps : ℕ
walk_steps = 8

-- "values by commas, no blanks"
unfoldable pub values_text : List ℕ → List ℕ
values_text [] = []
values_text (v ∷ []) = decimal v
values_text (v ∷ (w ∷ vs)) = decimal v ++ (bytes "," ++ values_text (w ∷ vs))

-- "label (name, bracketed values by commas, no blanks; tau as `tau`)"
unfoldable pub label_text : Label → List ℕ
label_text silent = bytes "tau"
label_text (named n Ds []) = n
label_text (named n Ds (v ∷ vs)) = n ++ (bytes "(" ++ (values_text (v ∷ vs) ++ bytes ")"))

-- "a line feed ends each line"
unfoldable pub text_line : List ℕ → List ℕ
text_line text = text ++ bytes "\n"

-- "Each line is step number (from 1), label, depth after." "One blank stands between fields."
unfoldable pub step_line : ℕ → Label → ℕ → List ℕ
step_line i l depth = text_line (decimal i ++ (bytes " " ++ (label_text l ++ (bytes " " ++ decimal depth))))

-- after 8 steps: "`ended`, else `more`"
unfoldable pub closing : Stack → List ℕ
closing [] = text_line (bytes "ended")
closing (f ∷ s) = text_line (bytes "more")

-- what is printed for an answer, where `next` are the lines from its stack on
unfoldable pub answer_lines : ℕ → (Stack → List ℕ) → Asked → List ℕ
answer_lines i next a = elim a.answer [
  | Answer.ended ↦ text_line (bytes "ended")
  | Answer.nothing ↦ text_line (bytes "stuck")
  | Answer.stepped l depth ↦ step_line i l depth ++ next a.stack
  -- a walk of 8 steps does not come to 64 frames
  | Answer.refused n ↦ text_line (bytes "stuck")
]

-- The lines of a walk from its i-th step on, where n steps may be taken: "It closes with `ended`, else `more` after 8, else `stuck`."
unfoldable pub walk_lines : Table → ℕ → ℕ → Stack → List ℕ
walk_lines T zero i s = closing s
walk_lines T (suc n) i s = answer_lines i (walk_lines T n (suc i)) (ask frame_width stack_limit T 0 s)

unfoldable pub walk_made : Result Table → List ℕ
walk_made (refused n) = text_line (bytes "refused " ++ decimal n)
walk_made (accepted T) = walk_lines T walk_steps 1 (start_stack frame_width T)

-- Walk a sheet.
unfoldable pub walk_text : List ℕ → List ℕ
walk_text s = walk_made (table_made s)
