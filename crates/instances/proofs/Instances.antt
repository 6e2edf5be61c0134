-- The theorems of demand 3 are not empty: consequences of them are computed.
use Rattle.std.specs.Prelude.{◌≡◌, refl, List, [], ◌∷◌, ℕ, replicate}
use Rattle.std.proofs.Common.{sym, ap, ◌∙◌, arith}
use Rattle.std.proofs.Math.Path.{subst₃}
use Rattle.pcrl.specs.Text.{bytes}
use Rattle.pcrl.specs.Limits.{frame_width, stack_limit}
use Rattle.pcrl.specs.Result.{accepted}
use Rattle.pcrl.specs.Label.{Label, named}
use Rattle.pcrl.specs.Sheet.{delta, call}
use Rattle.pcrl.specs.Blocks.{file_of}
use Rattle.pcrl.specs.Stack.{Frame, RightFrames, right_frames?}
use Rattle.pcrl.specs.Terms.{Rest, still, TermStep}
use Rattle.pcrl.specs.Ask.{Answer, labels}
use Rattle.pcrl.specs.Equality.{Equal}
use Rattle.pcrl.specs.Steps.{here, there}
use Rattle.pcrl.specs.States.{State, of_term, of_stack, system}
use Rattle.pcrl.specs.Answers.{table_checked, asked_all, Reply}
use Rattle.laws.specs.Computing.{definitions}
use Rattle.theory.specs.EqualityLaws.{equal_refl}
use Rattle.theory.specs.Demand.{states, Answered}
use Rattle.theory.proofs.Demand.{first_sentence_holds, at_once_holds}
use Rattle.instances.specs.Instances.{choice_sheet, growing_sheet, choice_accepted, growing_accepted, X_frame, deep_frames, deep_answers, full_frames, Bool_sheet, coil_sheet, Bool_accepted, coil_accepted, set_of, first_byte, earlier_table}

-- From the first sentence: the start of the one sheet and the call `X` are equal to every number of steps.
pub start_equals_call : (n : ℕ) → Equal (states choice_accepted) (states choice_accepted) n (of_stack (X_frame ∷ [])) (of_term (still (call 0 [])))
unfolding X_frame choice_sheet choice_accepted definitions
start_equals_call n =
    (first_sentence_holds choice_accepted choice_accepted (of_stack (X_frame ∷ [])) (of_term (still (call 0 []))) ((omega arith, (tt, refl)), tt) (omega arith, tt) n).1
    (equal_refl (states choice_accepted) n (of_term (still (call 0 []))))

deep_asked : asked_all growing_accepted.file deep_frames 63 (0 ∷ (0 ∷ (5 ∷ []))) ≡ record { answer = accepted deep_answers; frames = full_frames; depth = 64 }
unfolding deep_frames deep_answers full_frames X_frame growing_accepted growing_sheet definitions
deep_asked = refl

from_yes : {P : Type 0} (d : Dec P) → (elim d as (λ x. Type 0) [ yes h ↦ Unit {0} | no h ↦ ⊥ ]) → P
from_yes (yes h) t = h
from_yes (no h) t = absurd t

deep_right : RightFrames frame_width stack_limit growing_accepted.table deep_frames 63
unfolding deep_frames X_frame growing_accepted growing_sheet definitions
deep_right = from_yes (right_frames? frame_width stack_limit growing_accepted.table deep_frames 63) tt

-- From the last sentence: of the three questions the first bears the label a, and 64 frames are left, to which a run of the term comes.
pub deep_run : Answered growing_accepted deep_frames 63 (0 ∷ (0 ∷ (5 ∷ []))) deep_answers full_frames 64
deep_run =
    let (answers, fs, d, e, h) = at_once_holds growing_accepted (0 ∷ (0 ∷ (5 ∷ []))) deep_frames 63 deep_right in
    let q = sym e ∙ deep_asked in
    let a : accepted answers ≡ accepted deep_answers = ap (λ (r : Reply (List Answer)). r.answer) q in
    let x : answers ≡ deep_answers = cc in
    let y : fs ≡ full_frames = ap (λ (r : Reply (List Answer)). r.frames) q in
    let z : d ≡ 64 = ap (λ (r : Reply (List Answer)). r.depth) q in
    subst₃ (Answered growing_accepted deep_frames 63 (0 ∷ (0 ∷ (5 ∷ [])))) x y z h

pub deep_label : labels deep_answers ≡ named (bytes "a") [] [] ∷ []
unfolding deep_answers definitions
deep_label = refl

-- A STACK OF MORE THAN 64 FRAMES is a state like others: it steps, so it is not equal to delta to 1 step.
past_limit_step : (states growing_accepted).Step (of_stack (replicate 65 X_frame)) (named (bytes "a") [] []) (of_stack (replicate 66 X_frame))
unfolding X_frame growing_sheet growing_accepted definitions
past_limit_step = (X_frame ∷ (X_frame ∷ []), here (record { values = []; in_sorts = tt; meets = tt; gives = refl }), refl)

delta_steps : (l : Label) (u : State) → (states growing_accepted).Step (of_term (still delta)) l u → ⊥
unfolding definitions
delta_steps l (of_term r) h = no_step h
  where
    no_step : {l : Label} {r : Rest} → TermStep growing_accepted.sheet delta l r → ⊥
    no_step h = elim h [ ]
delta_steps l (of_stack s) h = h

pub past_limit_not_delta : Equal (states growing_accepted) (states growing_accepted) 1 (of_stack (replicate 65 X_frame)) (of_term (still delta)) → ⊥
unfolding Equal
past_limit_not_delta e = let (u, step, rest) = e.1 (named (bytes "a") [] []) (of_stack (replicate 66 X_frame)) past_limit_step in delta_steps (named (bytes "a") [] []) u step

-- the one step of each: to the start again
Bool_step : (states Bool_accepted).Step (of_stack (X_frame ∷ [])) (set_of "Bool") (of_stack (X_frame ∷ []))
unfolding X_frame Bool_sheet Bool_accepted definitions
Bool_step = (X_frame ∷ [], here (record { values = []; in_sorts = tt; meets = tt; gives = refl }), refl)

coil_steps : (u : State) → (states coil_accepted).Step (of_stack (X_frame ∷ [])) (set_of "Bool") u → ⊥
unfolding X_frame coil_sheet coil_accepted definitions
coil_steps (of_term r) h = h
coil_steps (of_stack t) (fs, here f, e) =
    let z : set_of "Bool" ≡ set_of "Coil" = ap (λ (x : Label × List Frame). x.0) f.gives in
    let y = ap first_byte z in
    omega arith
coil_steps (of_stack t) (fs, there x, e) = elim x [ ]

-- THEY ARE NOT EQUAL TO 1 STEP.
pub houses_differ : Equal (states Bool_accepted) (states coil_accepted) 1 (of_stack (X_frame ∷ [])) (of_stack (X_frame ∷ [])) → ⊥
unfolding Equal
houses_differ e = let (u, step, rest) = e.1 (set_of "Bool") (of_stack (X_frame ∷ [])) Bool_step in coil_steps u step

-- "Tables without hex F2 are still read"
pub earlier_read : table_checked (file_of earlier_table) ≡ accepted earlier_table
unfolding earlier_table coil_sheet definitions
earlier_read = refl

earlier_step : (system frame_width coil_sheet earlier_table).Step (of_stack (X_frame ∷ [])) (set_of "ss1") (of_stack (X_frame ∷ []))
unfolding X_frame coil_sheet earlier_table definitions
earlier_step = (X_frame ∷ [], here (record { values = []; in_sorts = tt; meets = tt; gives = refl }), refl)

no_earlier_step : (u : State) → (states coil_accepted).Step (of_stack (X_frame ∷ [])) (set_of "ss1") u → ⊥
unfolding X_frame coil_sheet coil_accepted definitions
no_earlier_step (of_term r) h = h
no_earlier_step (of_stack t) (fs, here f, e) =
    let z : set_of "ss1" ≡ set_of "Coil" = ap (λ (x : Label × List Frame). x.0) f.gives in
    let y = ap first_byte z in
    omega arith
no_earlier_step (of_stack t) (fs, there x, e) = elim x [ ]

-- THE EARLIER TABLE OF A SHEET AND TODAY'S ARE NOT EQUAL TO 1 STEP where a label bears a sort other than Bool: its name is not the sheet's.
pub layouts_differ : Equal (system frame_width coil_sheet earlier_table) (states coil_accepted) 1 (of_stack (X_frame ∷ [])) (of_stack (X_frame ∷ [])) → ⊥
unfolding Equal
layouts_differ e = let (u, step, rest) = e.1 (set_of "ss1") (of_stack (X_frame ∷ [])) earlier_step in no_earlier_step u step
