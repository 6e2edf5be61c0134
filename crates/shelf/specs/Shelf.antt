-- "Sheets on the shelf (* to be proved)": the starred ones as one table, with one theorem.
use Rattle.std.specs.Prelude.{refl, List, [], ◌∷◌, map, ℕ}
use Prim.Native.String.{String}
use Rattle.pcrl.specs.Text.{bytes}
use Rattle.pcrl.specs.Result.{refused, accepted}
use Rattle.pcrl.specs.Tests.{Every}
use Rattle.pcrl.specs.Label.{Label, named}
use Rattle.pcrl.specs.Sheet.{action}
use Rattle.pcrl.specs.Ask.{stepped}
use Rattle.laws.specs.Computing.{definitions}
use Rattle.shelf.specs.Claims.{Claim, is_refused, has_summands, has_steps, answers_at, has_stream, walks, Holds, stack_at, answer_at}

-- #104: "the starred cases use the new label": the action's name, the names of its sorts, its values
abbrev a_label : String → List String → List ℕ → Label
a_label s Ds vs = named (bytes s) (map bytes Ds) vs

unfoldable pub shelf : List (String × Claim)
shelf =
    ("", is_refused 5)
    ∷ ("proc X=X;init X;", is_refused 9)
    ∷ ("act a;proc X=X.a;init X;", is_refused 9)
    ∷ ("act a;proc X=X<|0|>a;init X;", is_refused 9)
    ∷ ("proc X=delta;init X;", has_summands 0 [])
    ∷ ("proc X=delta;init X;", walks "stuck\n")
    ∷ ("act a;act b;proc X=a.b+a;init X;", has_steps ((a_label "a" [] [], 1) ∷ (a_label "a" [] [], 0) ∷ []))
    ∷ ("act a;proc X=Y.X;proc Y=a;init X;", has_summands 0 (record { vars = []; conds = []; act = action 0; terms = []; calls = (0, []) ∷ [] } ∷ []))
    ∷ ("sort D 3;act a:D;proc X=sum(d:D,a(d));init X;", has_steps ((a_label "a" ("D" ∷ []) (0 ∷ []), 0) ∷ (a_label "a" ("D" ∷ []) (1 ∷ []), 0) ∷ (a_label "a" ("D" ∷ []) (2 ∷ []), 0) ∷ []))
    ∷ ("sort D 3;act a:D;proc X=sum(d:D,a(3));init X;", is_refused 8)
    ∷ ("act a;proc X=a.X.X;init X;", answers_at 63 (accepted (stepped (a_label "a" [] []) 64)))
    ∷ ("act a;proc X=a.X.X;init X;", answers_at 64 (refused 16))
    ∷ ("act a;proc X=a.X;init X;", has_stream (0xF2 ∷ 0x01 ∷ 0x02 ∷ 0x04 ∷ 0x42 ∷ 0x6F ∷ 0x6F ∷ 0x6C ∷ 0x00 ∷ 0x01 ∷ 0x01 ∷ 0x61 ∷ 0x00 ∷ 0x01 ∷ 0x00 ∷ 0x01 ∷ 0x00 ∷ 0x00 ∷ 0x00 ∷ 0x01 ∷ 0x00 ∷ 0x00 ∷ []))
    ∷ ("act a;act b;proc X=a.b;init X;", walks "1 a 1\n2 b 0\nended\n")
    ∷ []

-- Every line of the table holds, by computation.
pub shelf_holds : Every Holds shelf
unfolding shelf Holds stack_at answer_at definitions
shelf_holds = (refl, (refl, (refl, (refl, (refl, (refl, (refl, (refl, (refl, (refl, (refl, (refl, (refl, (refl, tt))))))))))))))
