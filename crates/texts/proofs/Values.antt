-- None, one or two values in brackets.
use mathlib.Core.Path.{◌≡◌, refl, sym, ◌∙◌, ap}
use mathlib.Core.List.{List, [], ◌∷◌, ◌++◌, append_assoc, append-nil, map}
use Prim.Native.Nat.{ℕ, zero, suc, ◌<◌, ◌≤◌}
use native.Mathlib.Omega.{arith}
use lib.ListN.{length, get_or, take, get_or-eq_default}
use Rattle.pcrl.specs.Text.{bytes, decimal}
use Rattle.pcrl.specs.Tree.{Name}
use Rattle.pcrl.specs.Sheet.{Sig, Act, tau, action, no_action, sort_name, takes_of}
use Rattle.pcrl.specs.Label.{Label, named, label}
use Rattle.pcrl.specs.Stream.{tau_code}
use Rattle.terms.specs.Stands.{list_at}
use Rattle.terms.proofs.Places.{name_stands, list_is}
use Rattle.laws.specs.Tests.{where_yes, where_no}
use native.Mathlib.Decide.{ℕ_discrete}
use Rattle.firing.specs.Fires.{act_of}
use Rattle.firing.specs.Known.{ActsAt}
use Rattle.labels.specs.Labels.{label_of}
use Rattle.pcrl.specs.Walk.{values_text, label_text, text_line, step_line}
use Rattle.texts.specs.Pieces.{bracketed}

pub no_value : (vs : List ℕ) → length vs ≡ 0 → [] ≡ values_text vs
unfolding values_text
no_value [] e = refl
no_value (v ∷ vs) e = absurd (omega arith)

pub first_value : (vs : List ℕ) (v : ℕ) → decimal v ≡ values_text (v ∷ [])
unfolding values_text
first_value vs v = refl

-- one value more behind the others
pub values_more : (v : ℕ) (ws : List ℕ) (k : ℕ) → k < length ws → (values_text (v ∷ take k ws) ++ bytes ",") ++ decimal (get_or ws k 0) ≡ values_text (v ∷ take (suc k) ws)
unfolding values_text
values_more v [] k h = absurd (omega arith)
values_more v (w ∷ ws) zero h = append_assoc (decimal v) (bytes ",") (decimal w)
values_more v (w ∷ ws) (suc k) h =
    let e = values_more w ws k (omega arith) in
    rw (← e) (simp append_assoc)

pub no_brackets : (vs : List ℕ) → length vs ≡ 0 → [] ≡ bracketed vs
unfolding bracketed
no_brackets [] e = refl
no_brackets (v ∷ vs) e = absurd (omega arith)

pub in_brackets : (vs : List ℕ) → ¬ (length vs ≡ 0) → (bytes "(" ++ values_text vs) ++ bytes ")" ≡ bracketed vs
unfolding bracketed
in_brackets [] h = absurd (h refl)
in_brackets (v ∷ vs) h = append_assoc (bytes "(") (values_text (v ∷ vs)) (bytes ")")

-- LABELS

-- the name of an action, where it stands
module _ (S : Sig) (s acts : List ℕ) (actions : ℕ) (known : ActsAt S s acts actions) (a : ℕ) where
  pub name_is : a < actions → list_at s (get_or acts a 0) ≡ (get_or S.acts a no_action).name
  name_is h = let n = known.count in list_is s (get_or acts a 0) _ (name_stands s (get_or acts a 0) (get_or S.acts a no_action) (known.act_at a (omega arith)))

  pub no_name : actions ≤ a → [] ≡ (get_or S.acts a no_action).name
  no_name h = let n = known.count in sym (ap (λ y. y.name) (get_or-eq_default S.acts no_action {n = a} (omega arith)))

pub tau_text : (S : Sig) (a : ℕ) (vs : List ℕ) → a ≡ tau_code → bytes "tau" ≡ label_text (label_of S a vs)
unfolding label_of act_of label label_text
tau_text S a vs e = sym (ap (λ (x : Act). label_text (label S x vs)) (where_yes {A = Act} (ℕ_discrete a tau_code) e tau (action a)))

named_text : (n : Name) (Ds : List Name) (vs : List ℕ) → n ++ bracketed vs ≡ label_text (named n Ds vs)
unfolding bracketed label_text
named_text n Ds [] = append-nil n
named_text n Ds (v ∷ vs) = refl

act_is : (a : ℕ) → ¬ (a ≡ tau_code) → act_of a ≡ action a
unfolding act_of
act_is a h = where_no {A = Act} (ℕ_discrete a tau_code) h tau (action a)

pub action_text : (S : Sig) (a : ℕ) (vs : List ℕ) → ¬ (a ≡ tau_code) → (get_or S.acts a no_action).name ++ bracketed vs ≡ label_text (label_of S a vs)
unfolding label_of label
action_text S a vs h = named_text (get_or S.acts a no_action).name (map (sort_name S) (takes_of S (action a))) vs ∙ sym (ap (λ (x : Act). label_text (label S x vs)) (act_is a h))

-- a line from its pieces
pub line_is : (i : ℕ) (l : Label) (d : ℕ) → ((((decimal i ++ bytes " ") ++ label_text l) ++ bytes " ") ++ decimal d) ++ bytes "\n" ≡ step_line i l d
unfolding step_line text_line
line_is i l d = simp append_assoc
