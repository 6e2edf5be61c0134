-- Why the parameters of all equations stand first: written equation by equation, a stream does not say which table it is of.
-- Two tables are written down and read by computation; that what is read is right is the law of the reader.
use Rattle.std.specs.Prelude.{◌≡◌, refl, List, [], ◌∷◌, ◌++◌, ℕ, length, get_or}
use Rattle.std.proofs.Common.{sym, ap, ◌∙◌, arith}
use Rattle.pcrl.specs.Text.{bytes}
use Rattle.pcrl.specs.Result.{accepted}
use Rattle.pcrl.specs.Reader.{found}
use Rattle.pcrl.specs.Sheet.{Data, val, action, Sig}
use Rattle.pcrl.specs.Table.{Summand, Equation, with_names, Table, params_of}
use Rattle.pcrl.specs.Stream.{encode_numbers, encode_list, encode_sig, encode_summand, encode_start, encode}
use Rattle.pcrl.specs.Right.{RightTable}
use Rattle.pcrl.specs.Decode.{decode}
use Rattle.pcrl.specs.Answers.{table_made}
use Rattle.laws.specs.Computing.{definitions}
use Rattle.codec.specs.StreamLaws.{decode_encode, encode_decode}

-- parameters and summands of one equation together
unfoldable pub encode_equation : Equation → List ℕ
encode_equation e = encode_numbers e.params ++ encode_list encode_summand e.summands

unfoldable pub encode_by_equations : Table → List ℕ
encode_by_equations T = encode_sig T.layout T.sig ++ (encode_list encode_equation T.equations ++ encode_start T.start)

abbrev pub one_action : Sig
one_action = record { sorts = 2 ∷ []; sort_names = bytes "Bool" ∷ []; funcs = []; acts = record { name = bytes "a"; takes = [] } ∷ [] }

-- a summand of the action a
abbrev pub says_a : List (ℕ × Data) → List (ℕ × List Data) → Summand
says_a conds calls = record { vars = []; conds = conds; act = action 0; terms = []; calls = calls }

-- act a; proc X=a.Y; proc Y=delta<|0|>a; init X;
unfoldable pub with_condition : Table
with_condition =
    record {
      layout = with_names;
      sig = one_action;
      equations = record { params = []; summands = says_a [] ((1, []) ∷ []) ∷ [] } ∷ record { params = []; summands = says_a ((0, val 0) ∷ []) [] ∷ [] } ∷ [];
      start = (0, []);
    }

-- act a; proc X=a.Y(0); proc Y(b:Bool)=a; init X;
unfoldable pub with_parameter : Table
with_parameter =
    record {
      layout = with_names;
      sig = one_action;
      equations = record { params = []; summands = says_a [] ((1, val 0 ∷ []) ∷ []) ∷ [] } ∷ record { params = 0 ∷ []; summands = says_a [] [] ∷ [] } ∷ [];
      start = (0, []);
    }

-- a table whose stream is read as it is right
pub right_if_read : (T : Table) → decode (encode T) ≡ found T [] → RightTable T
right_if_read T e = (encode_decode (encode T) T [] e).1

pub with_condition_right : RightTable with_condition
unfolding with_condition definitions
with_condition_right = right_if_read with_condition refl

pub with_parameter_right : RightTable with_parameter
unfolding with_parameter definitions
with_parameter_right = right_if_read with_parameter refl

-- how many parameters the second equation has
second_width : Table → ℕ
second_width T = length (get_or (params_of T.equations) 1 [])

different : with_condition ≡ with_parameter → ⊥
unfolding with_condition with_parameter second_width params_of
different e = let z : second_width with_condition ≡ second_width with_parameter = ap second_width e in omega arith

-- The two tables are made from sheets, which are accepted.
pub of_sheets : (table_made (bytes "act a;proc X=a.Y;proc Y=delta<|0|>a;init X;") ≡ accepted with_condition)
    × (table_made (bytes "act a;proc X=a.Y(0);proc Y(b:Bool)=a;init X;") ≡ accepted with_parameter)
unfolding with_condition with_parameter definitions
of_sheets = (refl, refl)

-- Two different right tables, one stream.
pub ambiguous : (T : Table) × (U : Table) × RightTable T × RightTable U × (encode_by_equations T ≡ encode_by_equations U) × (T ≡ U → ⊥)
unfolding encode_by_equations encode_equation with_condition with_parameter definitions
ambiguous = (with_condition, with_parameter, with_condition_right, with_parameter_right, refl, different)

-- With the parameters first it does say so: no right table's stream begins another's.
pub unambiguous : (T U : Table) (rest rest' : List ℕ) → RightTable T → RightTable U → encode T ++ rest ≡ encode U ++ rest' → (T ≡ U) × (rest ≡ rest')
unambiguous T U rest rest' h k e =
    let q : found T rest ≡ found U rest' = sym (decode_encode T rest h) ∙ ap decode e ∙ decode_encode U rest' k in
    (cc, cc)
