-- The printed text of a table, piece by piece: what each function of the printer writes. (That they make `table-text`: proofs, Rendering.)
use Rattle.std.specs.Prelude.{List, [], ◌∷◌, ◌++◌, map, true, false, ℕ, zero, suc, ltb, length, drop, get_or, replicate}
use Rattle.pcrl.specs.Text.{bytes, byte, decimal}
use Rattle.pcrl.specs.Reader.{all}
use Rattle.pcrl.specs.Sheet.{Data, val, var, app, Datas, nil, cons, Act, tau, action, Func, Action, Sig, no_action, sort_name, Operation, operation}
use Rattle.pcrl.specs.Table.{Summand, Equation, Table}
use Rattle.pcrl.specs.Printer.{numbered, func_name, proc_name, var_name}

-- texts with a mark between any two
unfoldable pub joined_text : List ℕ → List (List ℕ) → List ℕ
joined_text m [] = []
joined_text m (t ∷ []) = t
joined_text m (t ∷ u ∷ ts) = t ++ (m ++ joined_text m (u ∷ ts))

-- texts in brackets, with commas between; nothing for none
unfoldable pub bracketed_text : List (List ℕ) → List ℕ
bracketed_text [] = []
bracketed_text (t ∷ ts) = bytes "(" ++ (joined_text (bytes ",") (t ∷ ts) ++ bytes ")")

-- a bracket before and behind a condition that stands inside another
unfoldable pub open_text : {A : Type 0} → List A → List ℕ
open_text [] = []
open_text (c ∷ cs) = bytes "("

unfoldable pub close_text : {A : Type 0} → List A → List ℕ
close_text [] = []
close_text (c ∷ cs) = bytes ")"

-- Forms of data and the places where they stand, from loosest to tightest; a negation's place takes an atom too.
abbrev pub any_data : ℕ
any_data = 0

abbrev pub a_conjunction : ℕ
a_conjunction = 1

abbrev pub a_comparison : ℕ
a_comparison = 2

abbrev pub a_negation : ℕ
a_negation = 3

-- in brackets where the form is looser than its place
unfoldable pub placed : ℕ → ℕ → List ℕ → List ℕ
placed form place t = elim (ltb form place) [ true ↦ bytes "(" ++ (t ++ bytes ")") | false ↦ t ]

-- the text of an operand, by its number, at a place
unfoldable pub operand_text : ℕ → List (ℕ → List ℕ) → ℕ → List ℕ
operand_text i ts = get_or ts i (λ place. decimal 0)

-- a function with operands of these texts, at a place: f names it if it is a written one
unfoldable pub operation_text : (ℕ → List ℕ) → Operation → List (ℕ → List ℕ) → ℕ → List ℕ
operation_text f (Operation.written g) ts place = f g ++ bracketed_text (map (λ t. t any_data) ts)
operation_text f Operation.not ts place = bytes "!" ++ operand_text 0 ts a_negation
operation_text f (Operation.equal D) ts place = placed a_comparison place (operand_text 0 ts a_negation ++ (bytes "==" ++ operand_text 1 ts a_negation))
operation_text f Operation.and ts place = placed a_conjunction place (operand_text 0 ts a_conjunction ++ (bytes "/\\" ++ operand_text 1 ts a_comparison))
operation_text f Operation.or ts place = placed any_data place (operand_text 0 ts any_data ++ (bytes "\\/" ++ operand_text 1 ts a_conjunction))
operation_text f Operation.unsorted ts place = operand_text 0 ts place

module _ (S : Sig) where
  -- data at a place
  unfoldable mutual
    pub text_at : Data → ℕ → List ℕ
    text_at (val v) place = decimal v
    text_at (var i) place = var_name S i
    text_at (app f ds) place = operation_text (func_name S) (operation f) (texts_at ds) place

    pub texts_at : Datas → List (ℕ → List ℕ)
    texts_at nil = []
    texts_at (cons d ds) = (λ place. text_at d place) ∷ texts_at ds

  unfoldable pub data_text : Data → List ℕ
  data_text d = text_at d any_data

  abbrev pub given_text : List Data → List ℕ
  given_text ds = bracketed_text (map data_text ds)

  unfoldable pub act_text : Act → List Data → List ℕ
  act_text tau ds = bytes "tau"
  act_text (action a) ds = (get_or S.acts a no_action).name ++ given_text ds

  -- a call behind its point
  unfoldable pub call_text : ℕ × List Data → List ℕ
  call_text c = bytes "." ++ (proc_name S c.0 ++ given_text c.1)

  abbrev pub condition_text : Data → List ℕ
  condition_text d = bytes "<|" ++ (data_text d ++ bytes "|>")

  -- what stands of a condition before what it guards, and behind it
  unfoldable pub first_text : ℕ × Data → List ℕ
  first_text (zero, d) = bytes "delta" ++ condition_text d
  first_text (suc w, d) = []

  unfoldable pub second_text : ℕ × Data → List ℕ
  second_text (zero, d) = []
  second_text (suc w, d) = condition_text d ++ bytes "delta"

  unfoldable pub before_text : List (ℕ × Data) → List ℕ
  before_text [] = []
  before_text (c ∷ cs) = first_text c ++ (open_text cs ++ before_text cs)

  unfoldable pub behind_text : List (ℕ × Data) → List ℕ
  behind_text [] = []
  behind_text (c ∷ cs) = behind_text cs ++ (close_text cs ++ second_text c)

  -- the sum of variable i, of sort D, up to its comma
  unfoldable pub sum_text : ℕ → ℕ → List ℕ
  sum_text i D = bytes "sum(" ++ (var_name S i ++ (bytes ":" ++ (sort_name S D ++ bytes ",")))

  -- the sums of variables numbered from n on
  unfoldable pub sums_text : ℕ → List ℕ → List ℕ
  sums_text n [] = []
  sums_text n (D ∷ Ds) = sum_text n D ++ sums_text (suc n) Ds

  -- a summand behind n parameters
  unfoldable pub summand_text : ℕ → Summand → List ℕ
  summand_text n h =
      sums_text n h.vars
      ++ (before_text h.conds
      ++ (act_text h.act h.terms
      ++ (all call_text h.calls
      ++ (behind_text h.conds ++ replicate (length h.vars) (byte ")")))))

  unfoldable pub right_text : ℕ → List Summand → List ℕ
  right_text n [] = bytes "delta"
  right_text n (h ∷ hs) = joined_text (bytes "+") (map (summand_text n) (h ∷ hs))

  unfoldable pub takes_text : List ℕ → List ℕ
  takes_text Ds = joined_text (bytes "#") (map (sort_name S) Ds)

  unfoldable pub sort_line_text : ℕ → ℕ → List ℕ
  sort_line_text D n = bytes "sort " ++ (sort_name S D ++ (bytes " " ++ (decimal n ++ bytes ";")))

  unfoldable pub func_line_text : ℕ → Func → List ℕ
  func_line_text f g =
      bytes "func "
      ++ (func_name S f
      ++ (bytes ":"
      ++ (takes_text g.takes
      ++ (bytes "->" ++ (sort_name S g.gives ++ (bytes "=" ++ (joined_text (bytes ",") (map decimal g.values) ++ bytes ";")))))))

  -- nothing, or `:` and sorts
  unfoldable pub taken_text : List ℕ → List ℕ
  taken_text [] = []
  taken_text (D ∷ Ds) = bytes ":" ++ takes_text (D ∷ Ds)

  unfoldable pub act_line_text : Action → List ℕ
  act_line_text a = bytes "act " ++ (a.name ++ (taken_text a.takes ++ bytes ";"))

  unfoldable pub param_text : ℕ → ℕ → List ℕ
  param_text i D = var_name S i ++ (bytes ":" ++ sort_name S D)

  unfoldable pub proc_line_text : ℕ → Equation → List ℕ
  proc_line_text e q =
      bytes "proc "
      ++ (proc_name S e
      ++ (bracketed_text (numbered param_text 0 q.params) ++ (bytes "=" ++ (right_text (length q.params) q.summands ++ bytes ";"))))

  unfoldable pub init_line_text : ℕ × List ℕ → List ℕ
  init_line_text s = bytes "init " ++ (proc_name S s.0 ++ (bracketed_text (map decimal s.1) ++ bytes ";"))

-- texts one behind another
unfoldable pub concat : List (List ℕ) → List ℕ
concat ts = all (λ t. t) ts

unfoldable pub sheet_text : Table → List ℕ
sheet_text T =
    let S = T.sig in
    concat (numbered (sort_line_text S) 1 (drop 1 T.sig.sorts))
    ++ (concat (numbered (func_line_text S) 0 T.sig.funcs)
    ++ (all (act_line_text S) S.acts
    ++ (concat (numbered (proc_line_text S) 0 T.equations) ++ init_line_text S T.start)))
