-- Rows that hold the sizes, the functions and the actions of a sheet's lines hold its signature.
use mathlib.Core.Path.{◌≡◌, refl, ◌∙◌, ap}
use mathlib.Core.List.{List, [], ◌∷◌, map}
use Rattle.std.specs.Prelude.{Some, None}
use mathlib.Core.Bool.{true, false}
use Prim.Native.Nat.{ℕ, ◌+◌, ◌≤◌, ◌<◌}
use native.Mathlib.Omega.{arith}
use lib.ListN.{length, take}
use Rattle.pcrl.specs.Limits.{max_sorts, max_functions, max_actions}
use Rattle.pcrl.specs.Tests.{Each}
use Rattle.pcrl.specs.Maybe.{for_each}
use Rattle.pcrl.specs.Tree.{RawSheet, SortLine, FuncLine, ActLine}
use Rattle.pcrl.specs.Sheet.{no_func, no_action}
use Rattle.pcrl.specs.Counts.{Counted}
use Rattle.pcrl.specs.Names.{names_of, resolve_func, resolve_act}
use Rattle.laws.specs.Each.{each_length}
use Rattle.parser.specs.Cells.{enc_sort, enc_func, enc_act}
use Rattle.nodes.specs.Held.{FuncAt, ActAt}
use Rattle.names.specs.NameCells.{byte_of}
use Rattle.names.specs.Items.{numeral_at}
use Rattle.names.specs.Standing.{At, LinesAt}
use Rattle.names.specs.Rows.{InRows, ActRows, FuncRows, sorts_at}
use Rattle.names.proofs.Kept.{answered_no, answered_yes}
use Rattle.names.proofs.NamesOf.{sorts_are, sizes_are, signature_held}
use Rattle.sheets.specs.Resolving.{SignatureRead, resolve_signature}

-- the names of the sorts alone
sorts_named : (s raw sorts : List ℕ) (R : RawSheet) → LinesAt enc_sort s raw sorts R.sorts → (names_of R).sorts ≡ sorts_at s raw sorts
unfolding names_of Each
sorts_named s raw sorts R e = sorts_are s raw (record { sorts = R.sorts; funcs = []; acts = []; procs = []; start = R.start }) sorts [] [] [] e tt tt tt

module _ (s raw sorts funcs acts values sizes rows places act_rows : List ℕ) where
  -- a name in a function's line, or in an action's, is no sort
  pub no_functions : FuncRows s raw sorts funcs rows values places false → SignatureRead s raw sorts funcs acts values None
  unfolding resolve_signature
  no_functions fr R n at_sorts at_funcs at_acts counted bounded room =
      let f = fr (names_of R) R.funcs (sorts_named s raw sorts R at_sorts) at_funcs bounded.funcs_formed bounded.values_small (omega (arith, bounded.values_few)) in
      rw (answered_no _ (for_each (resolve_func (names_of R)) R.funcs) false f refl) tt

  pub no_actions : FuncRows s raw sorts funcs rows values places true → ActRows s raw sorts acts act_rows false → SignatureRead s raw sorts funcs acts values None
  unfolding resolve_signature
  no_actions fr ar R n at_sorts at_funcs at_acts counted bounded room =
      let named = sorts_named s raw sorts R at_sorts in
      let (fs, e, held) = answered_yes _ (for_each (resolve_func (names_of R)) R.funcs) true (fr (names_of R) R.funcs named at_funcs bounded.funcs_formed bounded.values_small (omega (arith, bounded.values_few))) refl in
      rw (e, answered_no _ (for_each (resolve_act (names_of R)) R.acts) false (ar (names_of R) R.acts named at_acts bounded.acts_formed) refl) tt

  -- all are known
  pub signature_read : length sorts < max_sorts → length funcs ≤ max_functions → length acts ≤ max_actions
      → take (length sorts + 1) sizes ≡ 2 ∷ map (λ p. byte_of (numeral_at raw (p + 2))) sorts
      → FuncRows s raw sorts funcs rows values places true → ActRows s raw sorts acts act_rows true
      → SignatureRead s raw sorts funcs acts values (Some (record { sizes = sizes; funcs = rows; places = places; acts = act_rows }))
  unfolding resolve_signature Counted
  signature_read sl fl al front fr ar R n at_sorts at_funcs at_acts counted bounded room =
      let named = sorts_named s raw sorts R at_sorts in
      let (fs, fe, held) = answered_yes (InRows no_func (λ g i. FuncAt g rows values places i)) (for_each (resolve_func (names_of R)) R.funcs) true (fr (names_of R) R.funcs named at_funcs bounded.funcs_formed bounded.values_small (omega (arith, bounded.values_few))) refl in
      let (as', ae, held') = answered_yes (InRows no_action (λ a i. ActAt a act_rows i)) (for_each (resolve_act (names_of R)) R.acts) true (ar (names_of R) R.acts named at_acts bounded.acts_formed) refl in
      let sm = each_length (λ p (l : SortLine). At s raw (enc_sort l) p) sorts R.sorts at_sorts in
      let fm = each_length (λ p (l : FuncLine). At s raw (enc_func l) p) funcs R.funcs at_funcs in
      let am = each_length (λ p (l : ActLine). At s raw (enc_act l) p) acts R.acts at_acts in
      let is = front ∙ sizes_are s raw R sorts at_sorts counted.1.0 in
      rw (fe, ae) (λ o so fo ao.
      signature_held R fs as' sizes rows values places act_rows o (omega arith) (omega arith) (omega arith) (omega arith) (omega arith) (omega arith)
      (ap (λ (k : ℕ). take k sizes) so ∙ is) fe ae held held')
