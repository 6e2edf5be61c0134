-- A cell's kind and the next state of the watch, and the cells watched one after another.
use mathlib.Core.Path.{◌≡◌, refl, sym, ap, ap₂, ◌∙◌}
use mathlib.Core.Bool.{Bool, true, false}
use mathlib.Core.List.{List, [], ◌∷◌, map}
use Prim.Native.Nat.{ℕ, ◌+◌, ◌≤◌, ◌<◌}
use native.Mathlib.Decide.{ℕ_discrete}
use native.Mathlib.Omega.{arith}
use lib.ListN.{length, drop, get_or, drop_of_length-le}
use Rattle.pcrl.specs.Text.{byte, bytes}
use Rattle.pcrl.specs.Tests.{same?, among}
use Rattle.pcrl.specs.Tokens.{Token, sign}
use Rattle.laws.specs.Tests.{where_no}
use Rattle.printing.specs.Watched as W
use Rattle.printing.specs.Watched.{equals, not, other, kind, Watch, nothing, watched, unmet, apart, met_stays}
use Rattle.lexer.specs.Cells.{first_numeral, first_name, long_marks, spelling, cell_token}
use Rattle.lexer.proofs.Runs.{drop_at}
use Rattle.lexer.proofs.Cells.{cell_sign, cell_mark, numeral_cell, name_cell, sign_once}
use Rattle.printer.specs.declared.watch.Kind.{Kind}
use Rattle.printer.specs.declared.watch.Kind.TheVariants.{Other, Value, Equals, Not}
use Rattle.printer.specs.declared.watch.State.{State}
use Rattle.printer.specs.declared.watch.State.TheVariants.{Nothing, BehindNot, BehindValue, BehindEquals, Met}
use Rattle.printer.specs.Watching.{kind_of, state_of, Unmet}

-- the cell of `==`
abbrev equals_cell : ℕ
equals_cell = 131

-- ---- a cell's kind
not_the_one : (w m : List ℕ) → (w ≡ m → ⊥) → among w (m ∷ []) ≡ false
unfolding among
not_the_one w m h = where_no (same? w m) h true false

no_mark : (w : List ℕ) → (w ≡ bytes "==" → ⊥) → (w ≡ bytes "!" → ⊥) → kind (sign w) ≡ other
unfolding kind
no_mark w a b = ap₂ (λ (x y : Bool). elim x as (λ _. W.Kind) [ true ↦ equals | false ↦ elim y as (λ _. W.Kind) [ true ↦ not | false ↦ other ] ]) (not_the_one w (bytes "==") a) (not_the_one w (bytes "!") b)

module _ (s : List ℕ) where
  pub name_kind : (c : ℕ) → first_name ≤ c → W.other ≡ kind (cell_token s c)
  unfolding kind
  name_kind c h = sym (ap kind (name_cell s c h))

  pub value_kind : (c : ℕ) → first_numeral ≤ c → c < first_name → W.value ≡ kind (cell_token s c)
  unfolding kind
  value_kind c over under = sym (ap kind (numeral_cell s c over under))

  equals_written : cell_token s equals_cell ≡ sign (bytes "==")
  unfolding spelling long_marks
  equals_written = cell_sign s equals_cell (omega arith)

  pub equals_kind : (c : ℕ) → c ≡ equals_cell → W.equals ≡ kind (cell_token s c)
  unfolding kind among same? ℕ_discrete
  equals_kind c e = sym (ap (λ (x : ℕ). kind (cell_token s x)) e ∙ ap kind equals_written)

  pub not_kind : (c : ℕ) → c ≡ byte "!" → W.not ≡ kind (cell_token s c)
  unfolding kind among same? ℕ_discrete
  not_kind c e = sym (ap (λ (x : ℕ). kind (cell_token s x)) e ∙ ap kind (cell_mark s (byte "!") (omega arith)))

  pub other_kind : (c : ℕ) → c < first_numeral → (c ≡ equals_cell → ⊥) → (c ≡ byte "!" → ⊥) → W.other ≡ kind (cell_token s c)
  other_kind c low a b =
      let is = cell_sign s c low in
      sym (ap kind is ∙ no_mark (spelling c)
      (λ e. a (sign_once s c equals_cell tt (is ∙ ap sign e ∙ sym equals_written)))
      (λ e. b (sign_once s c (byte "!") tt (is ∙ ap sign e ∙ sym (cell_mark s (byte "!") (omega arith))))))

-- ---- the next state
value_none : (x : State) → Unmet x → ¬ (x ≡ BehindNot) → ¬ (x ≡ BehindEquals) → W.behind_value ≡ W.next (state_of x) W.value
unfolding W.next W.unmet
value_none Nothing u a b = refl
value_none BehindNot u a b = absurd (a refl)
value_none BehindValue u a b = refl
value_none BehindEquals u a b = absurd (b refl)
value_none Met u a b = cc

equals_none : (x : State) → Unmet x → ¬ (x ≡ BehindValue) → W.nothing ≡ W.next (state_of x) W.equals
unfolding W.next W.unmet
equals_none Nothing u a = refl
equals_none BehindNot u a = refl
equals_none BehindValue u a = absurd (a refl)
equals_none BehindEquals u a = refl
equals_none Met u a = cc

not_none : (x : State) → Unmet x → W.behind_not ≡ W.next (state_of x) W.not
unfolding W.next W.unmet
not_none Nothing u = refl
not_none BehindNot u = refl
not_none BehindValue u = refl
not_none BehindEquals u = refl
not_none Met u = cc

other_none : (x : State) → Unmet x → W.nothing ≡ W.next (state_of x) W.other
unfolding W.next W.unmet
other_none Nothing u = refl
other_none BehindNot u = refl
other_none BehindValue u = refl
other_none BehindEquals u = refl
other_none Met u = cc

module _ (x : State) (k : Kind) (u : Unmet x) where
  pub value_behind_not : k ≡ Value → x ≡ BehindNot → W.nothing ≡ W.next (state_of x) (kind_of k)
  unfolding W.next
  value_behind_not e f = rw (e, f) refl

  pub value_behind_equals : k ≡ Value → x ≡ BehindEquals → W.met ≡ W.next (state_of x) (kind_of k)
  unfolding W.next
  value_behind_equals e f = rw (e, f) refl

  pub value_behind : k ≡ Value → ¬ (x ≡ BehindNot) → ¬ (x ≡ BehindEquals) → W.behind_value ≡ W.next (state_of x) (kind_of k)
  value_behind e a b = rw e (value_none x u a b)

  pub equals_behind_value : k ≡ Equals → x ≡ BehindValue → W.behind_equals ≡ W.next (state_of x) (kind_of k)
  unfolding W.next
  equals_behind_value e f = rw (e, f) refl

  pub equals_behind : k ≡ Equals → ¬ (x ≡ BehindValue) → W.nothing ≡ W.next (state_of x) (kind_of k)
  equals_behind e a = rw e (equals_none x u a)

  pub not_behind : k ≡ Not → W.behind_not ≡ W.next (state_of x) (kind_of k)
  not_behind e = rw e (not_none x u)

  pub other_behind : k ≡ Other → W.nothing ≡ W.next (state_of x) (kind_of k)
  other_behind e = rw e (other_none x u)

-- a state that is not that of what was met
pub unmet_state : (x : State) → ¬ (x ≡ Met) → Unmet x
unfolding W.unmet
unmet_state Nothing h = refl
unmet_state BehindNot h = refl
unmet_state BehindValue h = refl
unmet_state BehindEquals h = refl
unmet_state Met h = absurd (h refl)

-- ---- the cells one after another
module _ (f : ℕ → Token) (cells : List ℕ) where
  -- watched from the i-th cell on in the state x, they end as they do watched from the first on
  abbrev pub Watches : ℕ → State → Type 0
  Watches i x = watched (state_of x) (map f (drop i cells)) ≡ watched nothing (map f cells)

  pub watches_first : Watches 0 Nothing
  watches_first = refl

  pub watches_next : (i : ℕ) (x y : State) → i < length cells → state_of y ≡ W.next (state_of x) (kind (f (get_or cells i 0))) → Watches i x → Watches (i + 1) y
  unfolding watched
  watches_next i x y h e a =
      let here : drop i cells ≡ get_or cells i 0 ∷ drop (i + 1) cells = drop_at cells i h in
      ap (λ (w : Watch). watched w (map f (drop (i + 1) cells))) e ∙ (sym (ap (λ (l : List ℕ). watched (state_of x) (map f l)) here) ∙ a)

  pub was_met : (i : ℕ) (x : State) → x ≡ Met → Watches i x → false ≡ apart (map f cells)
  unfolding apart unmet
  was_met i x e a = sym (ap unmet (sym a ∙ (ap (λ (y : State). watched (state_of y) (map f (drop i cells))) e ∙ met_stays (map f (drop i cells)))))

  pub never_met : (i : ℕ) (x : State) → length cells ≤ i → Unmet x → Watches i x → true ≡ apart (map f cells)
  unfolding apart watched
  never_met i x h u a =
      let end : drop i cells ≡ [] = drop_of_length-le cells {i = i} h in
      sym (ap unmet (sym a ∙ ap (λ (l : List ℕ). watched (state_of x) (map f l)) end) ∙ u)
