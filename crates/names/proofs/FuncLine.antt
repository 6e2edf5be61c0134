-- A function's row: the sorts that it takes, then the one that it gives; its values stand behind.
use mathlib.Core.Path.{◌≡◌, refl, sym, ◌∙◌, ap}
use mathlib.Core.List.{List, [], ◌∷◌, ◌++◌, append_assoc}
use Rattle.std.specs.Prelude.{Option, Some, None}
use mathlib.Core.Option.{none, some}
use Prim.Native.Nat.{ℕ, ◌+◌, ◌*◌, ◌≤◌, ◌<◌}
use native.Mathlib.Omega.{arith}
use lib.ListN.{length, drop, get_or, set}
use lib.Seq.{get_or-set_same, get_or-set_other}
use Rattle.pcrl.specs.Tree.{FuncLine}
use Rattle.pcrl.specs.Tokens.{name}
use Rattle.pcrl.specs.Names.{Names, number_of, sorts_of, resolve_func}
use Rattle.grammar.specs.Formed.{FormedFunc}
use Rattle.laws.specs.Numbers.{sorts_declared}
use Rattle.parser.specs.Cells.{Symbol, tag, token, func_tag, enc_func, enc_items, enc_name, enc_numeral}
use Rattle.nodes.specs.Held.{SortsAt}
use Rattle.names.specs.NameCells.{name_at}
use Rattle.names.specs.Standing.{symbols}
use Rattle.names.specs.Items.{item_count, item_names}
use Rattle.names.specs.Rows.{Yields, sorts_at, numbered, FuncRead}
use Rattle.names.proofs.Symbols.{name_is, symbols_behind}
use Rattle.names.proofs.Items.{behind, items_behind}
use Rattle.names.proofs.Kept.{yields_none, yields_some}
use Rattle.names.proofs.ActLines.{sorts_read}

module _ (s cells sorts : List ℕ) (at p : ℕ) where
  -- what the row of the sorts that it takes answers
  abbrev pub TakesRead : (List ℕ → ℕ → Type 0) → Option ℕ → Type 0
  TakesRead X r = Yields X (numbered (sorts_at s cells sorts) (item_names s cells (at + 2) (item_count cells 2 (at + 2) 2))) r

  module _ (N : Names) (l : FuncLine) (rest : List Symbol) (n : N.sorts ≡ sorts_at s cells sorts) (e : drop at (symbols s cells) ≡ enc_func l ++ rest) (f : FormedFunc l) where
    gives_rest : List Symbol
    gives_rest = enc_items enc_numeral l.values ++ rest

    takes_stand : drop (at + 2) (symbols s cells) ≡ enc_items enc_name l.takes ++ (token (name l.gives) ∷ gives_rest)
    unfolding enc_func gives_rest
    takes_stand =
        behind s cells at (at + 2) (tag func_tag ∷ token (name l.name) ∷ []) (enc_items enc_name l.takes ++ (token (name l.gives) ∷ gives_rest)) refl
        (e ∙ ap (λ (x : List Symbol). tag func_tag ∷ token (name l.name) ∷ x) (append_assoc (enc_items enc_name l.takes) (token (name l.gives) ∷ enc_items enc_numeral l.values) rest))

    takes_are : numbered (sorts_at s cells sorts) (item_names s cells (at + 2) (item_count cells 2 (at + 2) 2)) ≡ sorts_of N l.takes
    unfolding FormedFunc
    takes_are = sorts_read s cells (sorts_at s cells sorts) N l.takes (at + 2) (token (name l.gives) ∷ gives_rest) n takes_stand f.0.1

    gives_stands : (Ds : List ℕ) (q : ℕ) → sorts_of N l.takes ≡ some Ds → q ≡ at + 2 + 2 * length Ds + 1 → drop q (symbols s cells) ≡ token (name l.gives) ∷ gives_rest
    gives_stands Ds q k h = items_behind s cells enc_name 1 (λ x. refl) l.takes (at + 2) q (token (name l.gives) ∷ gives_rest) (omega (arith, (sorts_declared N l.takes Ds k).0)) takes_stand

  no_takes : (N : Names) (l : FuncLine) → sorts_of N l.takes ≡ none → resolve_func N l ≡ none
  unfolding resolve_func
  no_takes N l e = rw e

  no_gives : (N : Names) (l : FuncLine) (Ds : List ℕ) → sorts_of N l.takes ≡ some Ds → number_of l.gives N.sorts ≡ none → resolve_func N l ≡ none
  unfolding resolve_func
  no_gives N l Ds e k = rw (e, k)

  both_known : (N : Names) (l : FuncLine) (Ds : List ℕ) (D : ℕ) → sorts_of N l.takes ≡ some Ds → number_of l.gives N.sorts ≡ some D
      → resolve_func N l ≡ some (record { takes = Ds; gives = D; values = l.values })
  unfolding resolve_func
  both_known N l Ds D e k = rw (e, k)

  -- a name that it takes is no sort
  pub takes_unknown : (X : List ℕ → ℕ → Type 0) (rows : List ℕ) → TakesRead X None → FuncRead s cells sorts at rows p None
  takes_unknown X rows a N l rest n e f =
      rw (no_takes N l (sym (takes_are N l rest n e f) ∙ yields_none X (numbered (sorts_at s cells sorts) (item_names s cells (at + 2) (item_count cells 2 (at + 2) 2))) a)) tt

  module _ (rows : List ℕ) (q : ℕ) (a : TakesRead (λ Ds q. (q ≡ at + 2 + 2 * length Ds + 1) × SortsAt Ds rows p) (Some q)) where
    -- the one that it gives is none
    pub gives_unknown : (rows' : List ℕ) → number_of (name_at s (get_or cells q 0)) (sorts_at s cells sorts) ≡ none → FuncRead s cells sorts at rows' p None
    gives_unknown rows' h N l rest n e f =
        let (Ds, k, w) = yields_some (λ Ds q. (q ≡ at + 2 + 2 * length Ds + 1) × SortsAt Ds rows p) (numbered (sorts_at s cells sorts) (item_names s cells (at + 2) (item_count cells 2 (at + 2) 2))) q a in
        let t = sym (takes_are N l rest n e f) ∙ k in
        let g = name_is s cells q l.gives (gives_rest N l rest n e f) (gives_stands N l rest n e f Ds q t w.0) in
        rw (no_gives N l Ds t (rw (n, ← g) h)) tt

    -- all are known
    pub func_known : (D : ℕ) → number_of (name_at s (get_or cells q 0)) (sorts_at s cells sorts) ≡ some D → p + 3 < length rows
        → FuncRead s cells sorts at (set rows (p + 3) D) p (Some (q + 1))
    unfolding FormedFunc gives_rest
    func_known D h room N l rest n e f =
        let (Ds, k, w) = yields_some (λ Ds q. (q ≡ at + 2 + 2 * length Ds + 1) × SortsAt Ds rows p) (numbered (sorts_at s cells sorts) (item_names s cells (at + 2) (item_count cells 2 (at + 2) 2))) q a in
        let t = sym (takes_are N l rest n e f) ∙ k in
        let st = gives_stands N l rest n e f Ds q t w.0 in
        let g = name_is s cells q l.gives (gives_rest N l rest n e f) st in
        let c = (sorts_declared N l.takes Ds t).0 in
        let r = w.1 in
        let v = f.0.1 in
        rw (both_known N l Ds D t (rw (n, ← g) h)) (record {
          takes = record {
            many = get_or-set_other rows (p + 3) p D 0 (λ z. omega arith) ∙ r.many;
            each = λ i u. get_or-set_other rows (p + 3) (p + 1 + i) D 0 (λ z. omega arith) ∙ r.each i u;
          };
          gives = get_or-set_same rows (p + 3) D 0 room;
          values = refl;
          arity = sym c;
          next = symbols_behind s cells q (q + 1) (token (name l.gives)) (gives_rest N l rest n e f) refl st;
        })
