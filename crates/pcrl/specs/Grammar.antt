-- The form of a sheet, question 5: readers of tokens, each named after what it reads.
-- n bounds how deep the readers call each other; `parse` gives more than any sheet can take.
use Rattle.std.specs.Prelude.{List, [], ◌∷◌, Bool, true, false, ℕ, zero, suc, ◌+◌, ◌*◌, length}
use Rattle.std.proofs.Math.Option.{Option, none, some}
use Prim.Native.String.{String}
use Rattle.std.proofs.Math.Decide.{dec_lt}
use Rattle.pcrl.specs.Tests.{and, T?}
use Rattle.pcrl.specs.Tokens.{Token, is?}
use Rattle.pcrl.specs.Reader.{Got, missing, found, Reader, ◌>>=◌, ◌>>◌, return, test}
use Rattle.pcrl.specs.Tree.{Name, RawData, Conjunction, Comparison, Negation, Atom, RawDatas, Choice, Conditional, Sequence, Part, SortLine, FuncLine, ActLine, ProcLine, InitLine, RawSheet}

abbrev pub Reads : Type 0 → Type 0
Reads A = Reader Token A

-- one way if the sign stands next, behind it, and else the other
unfoldable pub on : {A : Type 0} → String → Reads A → Reads A → Reads A
on s behind other [] = other []
on s behind other (t ∷ ts) = elim (is? s t) [ yes e ↦ behind ts | no h ↦ other (t ∷ ts) ]

unfoldable pub fail : {A : Type 0} → Reads A
fail ts = missing

-- the sign stands next
unfoldable pub expect : String → Reads (Unit {0})
expect s = on s (return tt) fail

unfoldable pub a_name : Reads Name
a_name [] = missing
a_name (Token.name w ∷ ts) = found w ts
a_name (Token.numeral v ∷ ts) = missing
a_name (Token.sign w ∷ ts) = missing

unfoldable pub a_numeral : Reads ℕ
a_numeral [] = missing
a_numeral (Token.name w ∷ ts) = missing
a_numeral (Token.numeral v ∷ ts) = found v ts
a_numeral (Token.sign w ∷ ts) = missing

-- either, by whether a numeral stands next
unfoldable pub on_numeral : {A : Type 0} → (ℕ → Reads A) → Reads A → Reads A
on_numeral y other [] = other []
on_numeral y other (Token.name w ∷ ts) = other (Token.name w ∷ ts)
on_numeral y other (Token.numeral v ∷ ts) = y v ts
on_numeral y other (Token.sign w ∷ ts) = other (Token.sign w ∷ ts)

unfoldable mutual
  -- conjunctions joined by `\/`
  pub data_term : ℕ → Reads RawData
  data_term zero = fail
  data_term (suc n) = do
    c ← conjunction n
    on "\\/"
        (do
          d ← data_term n
          return (RawData.or c d))
        (return (RawData.only c))

  -- comparisons joined by `/\`
  pub conjunction : ℕ → Reads Conjunction
  conjunction zero = fail
  conjunction (suc n) = do
    c ← comparison n
    on "/\\"
        (do
          d ← conjunction n
          return (Conjunction.and c d))
        (return (Conjunction.single c))

  -- "`==` takes two data .., doesn't chain"
  pub comparison : ℕ → Reads Comparison
  comparison zero = fail
  comparison (suc n) = do
    a ← negation n
    on "=="
        (do
          b ← negation n
          return (Comparison.equal a b))
        (return (Comparison.plain a))

  pub negation : ℕ → Reads Negation
  negation zero = fail
  negation (suc n) =
      on "!"
      (do
        a ← negation n
        return (Negation.not a))
      (do
        a ← atom n
        return (Negation.atom a))

  -- "Data is a numeral, a variable, or a function name with bracketed data." "Brackets in data are allowed"
  pub atom : ℕ → Reads Atom
  atom zero = fail
  atom (suc n) =
      on_numeral (λ v. return (Atom.value v))
      (on "("
      (do
        d ← data_term n
        expect ")"
        return (Atom.group d))
      (do
        x ← a_name
        on "("
            (do
              ds ← data_list n
              return (Atom.apply x ds))
            (return (Atom.variable x))))

  -- bracketed data, behind the opening bracket
  pub data_list : ℕ → Reads RawDatas
  data_list zero = fail
  data_list (suc n) = do
    d ← data_term n
    on ","
        (do
          ds ← data_list n
          return (RawDatas.more d ds))
        (do
          expect ")"
          return (RawDatas.one d))

-- with or without bracketed data
unfoldable pub data_given : ℕ → Reads (Option RawDatas)
data_given n =
    on "("
    (do
      ds ← data_list n
      return (some ds))
    (return none)

unfoldable mutual
  -- "A choice is conditionals joined by `+`."
  pub choice : ℕ → Reads Choice
  choice zero = fail
  choice (suc n) = do
    c ← conditional n
    on "+"
        (do
          d ← choice n
          return (Choice.plus c d))
        (return (Choice.only c))

  -- "A conditional is a sequence, or sequence `<|` data `|>` sequence (yes part first)."
  pub conditional : ℕ → Reads Conditional
  conditional zero = fail
  conditional (suc n) = do
    p ← sequence n
    on "<|"
        (do
          c ← data_term n
          expect "|>"
          q ← sequence n
          return (Conditional.cond p c q))
        (return (Conditional.plain p))

  -- "A sequence is parts joined by `.`."
  pub sequence : ℕ → Reads Sequence
  sequence zero = fail
  sequence (suc n) = do
    p ← part n
    on "."
        (do
          q ← sequence n
          return (Sequence.then p q))
        (return (Sequence.last p))

  -- "A part is delta, tau, a name with or without bracketed data, `sum(v:sort, choice)`, or a bracketed choice."
  pub part : ℕ → Reads Part
  part zero = fail
  part (suc n) =
      on "delta" (return Part.delta)
      (on "tau" (return Part.tau)
      (on "sum"
      (do
        expect "("
        v ← a_name
        expect ":"
        D ← a_name
        expect ","
        p ← choice n
        expect ")"
        return (Part.sum v D p))
      (on "("
      (do
        p ← choice n
        expect ")"
        return (Part.group p))
      (do
        x ← a_name
        ds ← data_given n
        return (Part.named x ds)))))

-- "`sort` name size"
unfoldable pub sort_line : Reads SortLine
sort_line = do
  x ← a_name
  n ← a_numeral
  return (record { name = x; size = n })

-- "values by commas"
unfoldable pub numerals : ℕ → Reads (List ℕ)
numerals zero = fail
numerals (suc n) = do
  v ← a_numeral
  on ","
      (do
        vs ← numerals n
        return (v ∷ vs))
      (return (v ∷ []))

-- "sort, or sort `#` sort"
unfoldable pub one_or_two : Reads (List Name)
one_or_two = do
  D ← a_name
  on "#"
      (do
        E ← a_name
        return (D ∷ E ∷ []))
      (return (D ∷ []))

-- "`func` name `:` sort, or sort `#` sort, `->` sort `=` values by commas, last argument fastest"
unfoldable pub func_line : ℕ → Reads FuncLine
func_line n = do
  x ← a_name
  expect ":"
  Ds ← one_or_two
  expect "->"
  D ← a_name
  expect "="
  vs ← numerals n
  return (record { name = x; takes = Ds; gives = D; values = vs })

-- "`act` name, or name `:` sort, or name `:` sort `#` sort"
unfoldable pub act_line : Reads ActLine
act_line = do
  x ← a_name
  on ":"
      (do
        Ds ← one_or_two
        return (record { name = x; takes = Ds }))
      (return (record { name = x; takes = [] }))

-- "bracketed `v:sort` by commas", behind the opening bracket
unfoldable pub parameters : ℕ → Reads (List (Name × Name))
parameters zero = fail
parameters (suc n) = do
  v ← a_name
  expect ":"
  D ← a_name
  on ","
      (do
        ps ← parameters n
        return ((v, D) ∷ ps))
      (do
        expect ")"
        return ((v, D) ∷ []))

-- "`proc` name, or name with bracketed `v:sort` by commas, `=` a choice"
unfoldable pub proc_line : ℕ → Reads ProcLine
proc_line n = do
  x ← a_name
  ps ← on "(" (parameters n) (return [])
  expect "="
  p ← choice n
  return (record { name = x; params = ps; right = p })

-- "no name in its data that lacks brackets"
unfoldable mutual
  pub no_variable : RawData → Bool
  no_variable (RawData.only c) = none_in_conjunction c
  no_variable (RawData.or c d) = and (none_in_conjunction c) (no_variable d)

  pub none_in_conjunction : Conjunction → Bool
  none_in_conjunction (Conjunction.single c) = none_in_comparison c
  none_in_conjunction (Conjunction.and c d) = and (none_in_comparison c) (none_in_conjunction d)

  pub none_in_comparison : Comparison → Bool
  none_in_comparison (Comparison.plain a) = none_in_negation a
  none_in_comparison (Comparison.equal a b) = and (none_in_negation a) (none_in_negation b)

  pub none_in_negation : Negation → Bool
  none_in_negation (Negation.atom a) = none_in_atom a
  none_in_negation (Negation.not a) = none_in_negation a

  pub none_in_atom : Atom → Bool
  none_in_atom (Atom.value v) = true
  none_in_atom (Atom.variable x) = false
  none_in_atom (Atom.apply x ds) = no_variables ds
  none_in_atom (Atom.group d) = no_variable d

  pub no_variables : RawDatas → Bool
  no_variables (RawDatas.one d) = no_variable d
  no_variables (RawDatas.more d ds) = and (no_variable d) (no_variables ds)

unfoldable pub none_in : Option RawDatas → Bool
none_in none = true
none_in (some ds) = no_variables ds

-- "`init` a call, with no name in its data that lacks brackets"
unfoldable pub init_line : ℕ → Reads InitLine
init_line n = do
  x ← a_name
  ds ← test (λ ds. T? (none_in ds)) (data_given n)
  return (record { name = x; data_given = ds })

-- lines that begin with a word, "each closed by `;`"
unfoldable pub lines : {A : Type 0} → String → Reads A → ℕ → Reads (List A)
lines s line zero = fail
lines s line (suc n) =
    on s
    (do
      l ← line
      expect ";"
      ls ← lines s line n
      return (l ∷ ls))
    (return [])

-- "A sheet has its lines in this order, each closed by `;`, any of the first three kinds absent, at least one proc, one init"
unfoldable pub sheet : ℕ → Reads RawSheet
sheet n = do
  sorts ← lines "sort" sort_line n
  funcs ← lines "func" (func_line n) n
  acts ← lines "act" act_line n
  procs ← test (λ ps. dec_lt 0 (length ps)) (lines "proc" (proc_line n) n)
  expect "init"
  start ← init_line n
  expect ";"
  return (record { sorts = sorts; funcs = funcs; acts = acts; procs = procs; start = start })

-- all the tokens, and nothing behind
unfoldable pub whole : {A : Type 0} → Got Token A → Option A
whole missing = none
whole (found a []) = some a
whole (found a (t ∷ ts)) = none

-- 5: "The form above?"
unfoldable pub parse : List Token → Option RawSheet
parse ts = whole (sheet (5 * length ts + 5) ts)
