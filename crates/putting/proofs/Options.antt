-- What holds of an `Option` in both cases, by what held.
use Rattle.std.specs.Prelude.{Option, Some, None, MatchOption}

pub on_option : {A : Type 0} (r : Option A) {P P' : Type 0} {Q Q' : A → Type 0} → MatchOption r P Q → (P → P') → ((x : A) → Q x → Q' x) → MatchOption r P' Q'
on_option None m f g = f m
on_option (Some x) m f g = g x m
