-- A file of one block by its own array; any other is right where a start is refused by 15 alone.
use borrow.Author.Rules.{rules}
use denote.Enum.Bare.{same_true, same_false}
use mathlib.Core.List.{[], ◌∷◌}
use mathlib.Core.Path.{◌≡◌, refl, sym, ap, ◌∙◌}
use Prim.Native.Nat.{◌<◌}
use native.Mathlib.Omega.{arith}
use lib.ListN.{length}
use Rattle.pcrl.specs.Limits.{frame_width, stack_limit}
use Rattle.refusals.specs.contracts.Refusal.{the_type}
use Rattle.refusals.specs.declared.Refusal.{Refusal}
use Rattle.refusals.specs.declared.Refusal.TheVariants.{WrongStack}
use Rattle.refusals.specs.Numbers.{number_of}
use Rattle.stacks.specs.Lent.{frames_in}
use Rattle.stacks.proofs.Views.{length_frames_in}
use Rattle.files.proofs.TableCheck.{by_start, stack_number}
use Rattle.files.proofs.check_file.Goals as goal

few : length (frames_in frame_width (0 ∷ [])) < stack_limit
few = let z = length_frames_in frame_width (0 ∷ []) in omega arith

pub returns-in-Ok : goal.returns-in-Ok
returns-in-Ok c = absurd ((by_start c.args.file.now (frames_in frame_width (0 ∷ [])) 0 0 few (c.in-Ok.ensures 0).answer).2 refl)

pub returns-then-eq : goal.returns-then-eq
returns-then-eq c =
    let is : c.in-Err.refusal ≡ WrongStack = same_true the_type (search rules) _ _ (sym c.if-eq.ensures) in
    (by_start c.args.file.now (frames_in frame_width (0 ∷ [])) 0 _ few (c.in-Err.ensures 0).answer).0 (ap number_of is)

pub returns-else-eq : goal.returns-else-eq
returns-else-eq c = (by_start c.args.file.now (frames_in frame_width (0 ∷ [])) 0 _ few (c.in-Err.ensures 0).answer).1 (λ e. same_false the_type _ _ (sym c.if-eq.ensures) (stack_number c.in-Err.refusal e))
