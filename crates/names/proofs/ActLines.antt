-- The actions' rows: each line's sorts become numbers, behind the rows of the lines before.
use mathlib.Core.Path.{◌≡◌, refl, sym, ◌∙◌}
use mathlib.Core.List.{List, [], ◌∷◌, ◌++◌}
use mathlib.Core.Bool.{Bool, true, false}
use Rattle.std.specs.Prelude.{Some, None}
use mathlib.Core.Option.{Option, none, some}
use Prim.Native.Nat.{ℕ, ◌+◌, ◌*◌, ◌≤◌, ◌<◌}
use native.Mathlib.Omega.{arith}
use lib.ListN.{length, drop, get_or}
use Rattle.pcrl.specs.Limits.{max_arity}
use Rattle.pcrl.specs.Tests.{Every}
use Rattle.pcrl.specs.Tree.{Name, ActLine}
use Rattle.pcrl.specs.Tokens.{name}
use Rattle.pcrl.specs.Sheet.{Action, no_action}
use Rattle.pcrl.specs.Maybe.{for_each}
use Rattle.pcrl.specs.Names.{Names, sorts_of, resolve_act}
use Rattle.grammar.specs.Formed.{FormedAct}
use Rattle.laws.specs.Each.{each_length}
use Rattle.laws.specs.Numbers.{sorts_declared}
use Rattle.parser.specs.Cells.{Symbol, tag, token, act_tag, enc_act, enc_items, enc_name}
use Rattle.nodes.specs.Held.{act_width, SortsAt, ActAt}
use Rattle.names.specs.Standing.{symbols, At, LinesAt}
use Rattle.names.specs.Items.{item_count, item_names}
use Rattle.names.specs.Rows.{Kept, Answers, Yields, InRows, sorts_at, numbered}
use Rattle.names.proofs.Items.{behind, count_is, names_are}
use Rattle.names.proofs.Kept.{sorts_kept, yields_none, yields_some, each_next, every_at}
use Rattle.names.proofs.Filled.{Gone, gone_none, gone_stops, gone_goes, gone_ends}

-- the sorts of the names that stand there
pub sorts_read : (s cells : List ℕ) (S : List Name) (N : Names) (xs : List Name) (at : ℕ) (rest : List Symbol) → N.sorts ≡ S
    → drop at (symbols s cells) ≡ enc_items enc_name xs ++ rest → length xs ≤ max_arity → numbered S (item_names s cells at (item_count cells 2 at 2)) ≡ sorts_of N xs
unfolding sorts_of
sorts_read s cells S N xs at rest n e h =
    let c = count_is s cells enc_name 1 (λ x. refl) xs at 2 rest e in
    let m : item_count cells 2 at 2 ≡ length xs = omega arith in
    rw (m, names_are s cells xs at rest e, n)

module _ (s cells sorts acts : List ℕ) where
  -- the first i lines have their rows
  abbrev pub ActsGone : List ℕ → ℕ → Type 0
  ActsGone rows i = (N : Names) (ls : List ActLine) → N.sorts ≡ sorts_at s cells sorts → LinesAt enc_act s cells acts ls → Every FormedAct ls
      → Gone (resolve_act N) no_action (λ a j. ActAt a rows j) ls i

  pub acts_start : (rows : List ℕ) → ActsGone rows 0
  acts_start rows N ls n l f = gone_none (resolve_act N) no_action (λ a j. ActAt a rows j) ls

  takes_at : (l : ActLine) (p : ℕ) (a : At s cells (enc_act l) p) → drop (p + 2) (symbols s cells) ≡ enc_items enc_name l.takes ++ a.0
  unfolding enc_act
  takes_at l p a = behind s cells p (p + 2) (tag act_tag ∷ token (name l.name) ∷ []) (enc_items enc_name l.takes ++ a.0) refl a.1

  unresolved : (N : Names) (l : ActLine) → sorts_of N l.takes ≡ none → resolve_act N l ≡ none
  unfolding resolve_act
  unresolved N l e = rw e

  resolved : (N : Names) (l : ActLine) (Ds : List ℕ) → sorts_of N l.takes ≡ some Ds → resolve_act N l ≡ some (record { name = l.name; takes = Ds })
  unfolding resolve_act
  resolved N l Ds e = rw e

  abbrev Read : ℕ → Option (List ℕ)
  Read p = numbered (sorts_at s cells sorts) (item_names s cells (p + 2) (item_count cells 2 (p + 2) 2))

  -- a name is no sort
  pub acts_stop : (rows : List ℕ) (i : ℕ) (X : List ℕ → ℕ → Type 0) (Y : (N : Names) → List Action → Type 0) → i < length acts → ActsGone rows i
      → Yields X (Read (get_or acts i 0)) None
      → (N : Names) (ls : List ActLine) → N.sorts ≡ sorts_at s cells sorts → LinesAt enc_act s cells acts ls → Every FormedAct ls → Answers (Y N) (for_each (resolve_act N) ls) false
  unfolding FormedAct
  acts_stop rows i X Y h g a N ls n l f =
      let (b, d, at) = each_next (λ p l. At s cells (enc_act l) p) acts ls i l h in
      let few = every_at FormedAct ls i b (drop (i + 1) ls) f d in
      let e = sorts_read s cells (sorts_at s cells sorts) N b.takes (get_or acts i 0 + 2) at.0 n (takes_at b (get_or acts i 0) at) few in
      rw (gone_stops (resolve_act N) no_action (λ a j. ActAt a rows j) ls (drop (i + 1) ls) i b (g N ls n l f) d (unresolved N b (sym e ∙ yields_none X (Read (get_or acts i 0)) a))) refl

  -- one more row
  pub acts_go : (rows rows' : List ℕ) (i : ℕ) (W : List ℕ → ℕ → Type 0) (q : ℕ) → i < length acts → ActsGone rows i → Kept (3 * i) rows rows'
      → Yields (λ Ds q. W Ds q × SortsAt Ds rows' (3 * i)) (Read (get_or acts i 0)) (Some q) → ActsGone rows' (i + 1)
  unfolding FormedAct
  acts_go rows rows' i W q h g k a N ls n l f =
      let (b, d, at) = each_next (λ p l. At s cells (enc_act l) p) acts ls i l h in
      let few = every_at FormedAct ls i b (drop (i + 1) ls) f d in
      let e = sorts_read s cells (sorts_at s cells sorts) N b.takes (get_or acts i 0 + 2) at.0 n (takes_at b (get_or acts i 0) at) few in
      let (Ds, r, w) = yields_some (λ Ds q. W Ds q × SortsAt Ds rows' (3 * i)) (Read (get_or acts i 0)) q a in
      let m = sorts_declared N b.takes Ds (sym e ∙ r) in
      gone_goes (resolve_act N) no_action (λ a j. ActAt a rows j) (λ a j. ActAt a rows' j) ls i b (record { name = b.name; takes = Ds }) (g N ls n l f) d (resolved N b Ds (sym e ∙ r))
      (λ x j o r. record { few = r.few; takes = sorts_kept (3 * i) rows rows' x.takes (act_width * j) k (omega (arith, r.few)) r.takes })
      (record { few = omega (arith, m.0); takes = w.1 })

  pub acts_end : (rows : List ℕ) (i : ℕ) → length acts ≤ i → ActsGone rows i
      → (N : Names) (ls : List ActLine) → N.sorts ≡ sorts_at s cells sorts → LinesAt enc_act s cells acts ls → Every FormedAct ls
      → Answers (InRows no_action (λ a i. ActAt a rows i)) (for_each (resolve_act N) ls) true
  acts_end rows i h g N ls n l f =
      gone_ends (resolve_act N) no_action (λ a j. ActAt a rows j) (InRows no_action (λ a i. ActAt a rows i)) ls i true (g N ls n l f)
      (omega (arith, each_length (λ p l. At s cells (enc_act l) p) acts ls l)) refl (λ bs m x j o. x j (omega arith))
