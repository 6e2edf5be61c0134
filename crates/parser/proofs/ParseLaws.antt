-- All the tokens and nothing behind: the answer of the parser, with the room that three cells a token give.
use mathlib.Core.Path.{◌≡◌, refl, sym, ap, ◌∙◌, subst}
use mathlib.Core.List.{List, [], map}
use Prim.Native.Nat.{ℕ, ◌+◌, ◌*◌, ◌≤◌, ◌<◌}
use native.Mathlib.Omega.{arith}
use lib.ListN.{length, length-map}
use Rattle.std.specs.Prelude.{None, Some}
use Rattle.pcrl.specs.Tokens.{Token}
use Rattle.pcrl.specs.Reader.{Got, found}
use Rattle.pcrl.specs.Tree.{RawSheet}
use Rattle.pcrl.specs.Grammar.{sheet, whole, parse}
use Rattle.pcrl.specs.Print.{print_sheet}
use Rattle.grammar.specs.Parsed.{print_sheet_of}
use Rattle.lexer.specs.Cells.{cell_token}
use Rattle.parser.specs.Cells.{enc_sheet}
use Rattle.parser.specs.Reading.{rest, Few, Writes}
use Rattle.parser.specs.Parses.{Tree, Parses}
use Rattle.parser.specs.declared.Lines.{Lines}
use Rattle.parser.specs.declared.Parsed.{Parsed}
use Rattle.parser.proofs.Reading.{rest_next, rest_past}
use Rattle.parser.proofs.Room.{sheet_room}
use Rattle.parser.proofs.SheetLaws.{Settled, Sheeted, gone, full}

-- the tokens of cells
abbrev tokens_of : List ℕ → List ℕ → List Token
tokens_of s toks = map (cell_token s) toks

module _ (s toks : List ℕ) (o : List ℕ) (L : Lines) (end w' : ℕ) (o' : List ℕ) (room : 3 * length toks ≤ length o) (big : length o < 65536) (few : Few toks) where
  abbrev answer : Parsed
  answer = record { used = w'; lines = L }

  tree : (n : ℕ) (R : RawSheet) → end ≡ length toks → Writes s toks (enc_sheet R) 0 o w' o' → (Few toks → length (enc_sheet R) ≤ length o → length o < 65536 → Settled R L) → sheet n (tokens_of s toks) ≡ found R [] → Tree s R answer o'
  tree n R e u st q =
      let l = length-map toks (cell_token s) in
      let p : length (print_sheet R) ≡ length (tokens_of s toks) = ap length (print_sheet_of n (tokens_of s toks) R q).0 in
      let m = sheet_room R in
      let y = u.with_room few (omega arith) in
      let z = st few (omega arith) big in
      let k = y.next in
      let v = y.same in
      record {
        used = omega arith;
        room = omega arith;
        tree = y.cells;
        sorts = z.sorts;
        funcs = z.funcs;
        acts = z.acts;
        procs = z.procs;
        init = z.init;
      }

  -- the definition's reader at its bound
  abbrev bound : ℕ
  bound = 5 * length (tokens_of s toks) + 5

  -- THE PARSER ANSWERS AS `parse` DOES: a tree where the line behind the last one ends the tokens.
  pub parses : end ≡ length toks → Sheeted s toks o L end w' o' (sheet bound (rest s toks 0)) → Parses (parse (tokens_of s toks)) s (Some answer) o'
  unfolding parse Parses rest whole
  parses e h = by (sheet bound (tokens_of s toks)) refl h
    where
      by : (g : Got Token RawSheet) → sheet bound (tokens_of s toks) ≡ g → Sheeted s toks o L end w' o' g → Parses (whole g) s (Some answer) o'
      by g q (gone l) = absurd (omega arith)
      by g q (full {R} i u st) =
          let z = rest_past s toks end (omega arith) in
          subst (λ ts. Parses (whole (found R ts)) s (Some answer) o') (sym z) (tree bound R e u st (q ∙ ap (found R) z))

  -- and none where it does not, whatever is left in the cells
  pub parses_none : (out : List ℕ) → (end ≡ length toks → ⊥) → Sheeted s toks o L end w' o' (sheet bound (rest s toks 0)) → Parses (parse (tokens_of s toks)) s None out
  unfolding parse Parses rest whole
  parses_none out n h = by (sheet bound (tokens_of s toks)) h
    where
      by : (g : Got Token RawSheet) → Sheeted s toks o L end w' o' g → Parses (whole g) s None out
      by g (gone l) = tt
      by g (full {R} i u st) = subst (λ ts. Parses (whole (found R ts)) s None out) (sym (rest_next s toks end (omega arith))) tt
