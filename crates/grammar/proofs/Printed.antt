-- Every formed tree is read back from its tokens. So the bound that `parse` sets is above any need.
-- The parser takes all of the form, its bound is above any need, and the form has one reading.
use Rattle.std.specs.Prelude.{◌≡◌, List, [], ◌∷◌, ◌++◌, ℕ, ◌*◌, ◌≤◌, T, length, ◌↔◌, ◌+◌}
use Rattle.std.proofs.Common.{arith, sym, ap, subst, ◌∙◌, append-nil}
use Prim.Native.String.{String}
use Rattle.std.proofs.Math.Decide.{ℕ_discrete, dec_lt}
use Rattle.pcrl.specs.Tests.{same?}
use Rattle.pcrl.specs.Tokens.{Token, the, is?}
use Rattle.pcrl.specs.Reader.{found, bind, all}
use Rattle.pcrl.specs.Tree.{RawSheet}
use Rattle.pcrl.specs.Grammar.{sort_line, func_line, act_line, proc_line, lines, sheet, whole, parse}
use Rattle.laws.specs.Every.{every_of_all}
use Rattle.laws.specs.Readers.{test_read}
use Rattle.pcrl.specs.Print.{line, print_lines, print_sort, print_func, print_act, print_proc, print_init, print_sheet}
use Rattle.grammar.specs.Formed.{FormedFunc, FormedAct, Formed}
use Rattle.grammar.specs.PrintLaws.{sheet_before, sheet_length}
use Rattle.grammar.specs.Ahead.{absent, expect_sign}
use Rattle.grammar.proofs.PrintedLines.{sort_read, func_read, act_read, proc_read, init_read, lines_read}
use Rattle.std.proofs.Math.Option.{some, some-injective}
use Rattle.grammar.specs.Parsed.{print_sheet_of, print_parse}

-- a word does not stand next where lines of another kind do, nor behind them
pub absent_lines : {A : Type 0} (s t : String) (w : A → List Token) (ls : List A) (r : List Token) → T (absent s (the t ∷ [])) → T (absent s r) → T (absent s (print_lines t w ls ++ r))
unfolding absent all line
absent_lines s t w [] r h k = k
absent_lines s t w (l ∷ ls) r h k = h

-- whatever follows
pub sheet_read : (n : ℕ) (R : RawSheet) (r : List Token) → Formed R → 4 * length (print_sheet R) ≤ n → sheet n (print_sheet R ++ r) ≡ found R r
unfolding sheet bind absent is? same? ℕ_discrete
sheet_read n R r f h =
    let total = sheet_length R in
    let from_init = the "init" ∷ (print_init R.start ++ (the ";" ∷ r)) in
    let from_procs = print_lines "proc" print_proc R.procs ++ from_init in
    let from_acts = print_lines "act" print_act R.acts ++ from_procs in
    let from_funcs = print_lines "func" print_func R.funcs ++ from_acts in
    let no_act : T (absent "act" from_procs) = absent_lines "act" "proc" print_proc R.procs from_init tt tt in
    let no_func : T (absent "func" from_acts) = absent_lines "func" "act" print_act R.acts from_procs tt (absent_lines "func" "proc" print_proc R.procs from_init tt tt) in
    let no_sort : T (absent "sort" from_funcs) = absent_lines "sort" "func" print_func R.funcs from_acts tt (absent_lines "sort" "act" print_act R.acts from_procs tt (absent_lines "sort" "proc" print_proc R.procs from_init tt tt)) in
    rw (
      sheet_before R r,
      lines_read "sort" print_sort sort_line (λ l. Unit {0}) n (λ l u k. sort_read l) n R.sorts from_funcs (every_of_all _ (λ l. tt) R.sorts) (omega arith) (omega arith) no_sort,
      lines_read "func" print_func (func_line n) FormedFunc n (func_read n) n R.funcs from_acts f.funcs (omega arith) (omega arith) no_func,
      lines_read "act" print_act act_line FormedAct n (λ l g k. act_read l g) n R.acts from_procs f.acts (omega arith) (omega arith) no_act,
      test_read (λ ps. dec_lt 0 (length ps)) (lines "proc" (proc_line n) n) from_procs from_init R.procs (lines_read "proc" print_proc (proc_line n) (λ l. Unit {0}) n (λ l u k. proc_read n l k) n R.procs from_init (every_of_all _ (λ l. tt) R.procs) (omega arith) (omega arith) tt) f.procs,
      expect_sign,
      init_read n R.start f.start (omega arith) r,
      expect_sign,
    )

-- THE PARSER TAKES ALL OF THE FORM: from the tokens of a formed tree it gives the tree.
pub parse_print : (R : RawSheet) → Formed R → parse (print_sheet R) ≡ some R
unfolding parse whole
parse_print R f =
    let e = sheet_read (5 * length (print_sheet R) + 5) R [] f (omega arith) in
    rw (rw append-nil at e)

-- THE BOUND IS ABOVE ANY NEED: what is read whole at some bound is what `parse` gives.
pub parse_complete : (n : ℕ) (ts : List Token) (R : RawSheet) → sheet n ts ≡ found R [] → parse ts ≡ some R
parse_complete n ts R e = let (p, f) = print_sheet_of n ts R e in subst (λ us. parse us ≡ some R) p (parse_print R f)

-- THE PARSER IS THE GRAMMAR.
pub parse_iff : (ts : List Token) (R : RawSheet) → (parse ts ≡ some R) ↔ ((print_sheet R ≡ ts) × Formed R)
parse_iff ts R = (print_parse ts R, λ h. subst (λ us. parse us ≡ some R) h.0 (parse_print R h.1))

-- The form has one reading: two formed trees with the same tokens are the same.
pub one_reading : (R S : RawSheet) → Formed R → Formed S → print_sheet R ≡ print_sheet S → R ≡ S
one_reading R S f g e = some-injective R S (sym (parse_print R f) ∙ (ap parse e ∙ parse_print S g))
