-- What the lexer's answer, and that of the watch over its cells, say of a text.
use mathlib.Core.Path.{◌≡◌, sym, ap, subst, ◌∙◌}
use mathlib.Core.Bool.{Bool, false}
use mathlib.Core.List.{List, map}
use Prim.Native.Nat.{ℕ, ◌≤◌}
use lib.Dec.{T}
use lib.ListN.{length, take}
use Rattle.pcrl.specs.Result.{accepted}
use Rattle.pcrl.specs.Tokens.{Token}
use Rattle.pcrl.specs.Answers.{tokens_read}
use Rattle.laws.specs.Says.{Says, says}
use Rattle.laws.specs.Tests.{of_true}
use Rattle.printing.specs.Watched.{apart}
use Rattle.lexer.specs.Cells.{cell_token, Lexes}
use Rattle.lexer.proofs.Accepted.{Accepted, accepted_cells, refused_number}
use Rattle.std.specs.Prelude.{Ok, Err}
use Rattle.refusals.specs.declared.Refusal.{Refusal}
use Rattle.printer.specs.Printing.{TokensApart}

module _ (s out : List ℕ) where
  pub lexed_no : (r : Refusal) → Lexes (tokens_read s) s (Err r) out → ¬ (TokensApart s)
  lexed_no r l (ts, both) = let e = refused_number s out r l in let f = both.0 in cc

module _ (s out : List ℕ) (n : ℕ) (l : Lexes (tokens_read s) s (Ok n) out) where
  pub lexed_room : n ≤ length out
  lexed_room = (accepted_cells s out n l).room

  pub lexed_apart : (b : Bool) → b ≡ apart (map (cell_token s) (take n out)) → Says b (TokensApart s)
  lexed_apart b e = says b (λ t. (ts, (a.read, of_true (apart ts) (sym same ∙ t)))) (λ t x. wrong t x.0 x.1.0 x.1.1)
    where
      a : Accepted s n out
      a = accepted_cells s out n l

      ts : List Token
      ts = a.tokens

      same : b ≡ apart ts
      same = e ∙ ap apart a.cells

      wrong : b ≡ false → (us : List Token) → tokens_read s ≡ accepted us → T (apart us) → ⊥
      wrong t us q h =
          let given : us ≡ ts = cc (q, a.read) in
          subst T (ap apart given ∙ (sym same ∙ t)) h
