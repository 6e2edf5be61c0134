-- Tables worked to the end, one of them with operators: the text, byte for byte, and that the table is right and its text passes. So the theorems'
-- premises can be met. And one whose text is refused.
use Rattle.std.specs.Prelude.{◌≡◌, refl, [], ◌∷◌, ℕ, ◌+◌}
use Rattle.pcrl.specs.Text.{bytes}
use Rattle.pcrl.specs.Result.{accepted, after, refusal}
use Rattle.pcrl.specs.Reader.{found}
use Rattle.pcrl.specs.Sheet.{Data, val, var, app, nil, cons, tau, action, not_number, and_number, or_number, first_equal}
use Rattle.pcrl.specs.Table.{with_names, without_names, Table, renewed}
use Rattle.pcrl.specs.Stream.{encode}
use Rattle.pcrl.specs.Right.{RightTable}
use Rattle.pcrl.specs.Decode.{decode}
use Rattle.pcrl.specs.Printer.{table_text}
use Rattle.pcrl.specs.Answers.{sorted_read, table_made}
use Rattle.laws.specs.Computing.{definitions}
use Rattle.codec.specs.StreamLaws.{encode_decode}

-- Without hex F2: two action names that begin as made names would, a condition of each kind, a sum, calls, tau, and an equation without summands
abbrev worked : Table
worked = record {
  layout = without_names;
  sig = record {
    sorts = 2 ∷ 3 ∷ [];
    sort_names = bytes "Bool" ∷ bytes "ss1" ∷ [];
    funcs = record { takes = 1 ∷ []; gives = 0; values = 0 ∷ 1 ∷ 1 ∷ [] } ∷ [];
    acts = record { name = bytes "s"; takes = 1 ∷ [] } ∷ record { name = bytes "ff"; takes = [] } ∷ [];
  };
  equations =
      record {
        params = 1 ∷ [];
        summands =
            record {
              vars = 1 ∷ [];
              conds = (1, app 0 (cons (var 0) nil)) ∷ (0, app 0 (cons (var 1) nil)) ∷ [];
              act = action 0;
              terms = var 1 ∷ [];
              calls = (1, []) ∷ (0, val 2 ∷ []) ∷ [];
            }
            ∷ record { vars = []; conds = []; act = tau; terms = []; calls = [] }
            ∷ [];
      }
      ∷ record { params = []; summands = [] }
      ∷ [];
  start = (0, 2 ∷ []);
}

pub worked_text : table_text worked ≡ bytes "sort ss1 3;func fff0:ss1->Bool=0,1,1;act s:ss1;act ff;proc p0(v0:ss1)=sum(v1:ss1,(delta<|fff0(v1)|>s(v1).p1.p0(2))<|fff0(v0)|>delta)+tau;proc p1=delta;init p0(2);"
unfolding definitions
worked_text = refl

worked_decoded : decode (encode worked) ≡ found worked []
unfolding definitions
worked_decoded = refl

pub worked_right : RightTable worked
worked_right = (encode_decode (encode worked) worked [] worked_decoded).1

pub worked_passes : refusal (sorted_read (table_text worked)) ≡ 0
unfolding definitions
worked_passes = refl

-- "printing and reading one gives its hex F2 bytes"
pub worked_again : after (table_made (table_text worked)) (λ T. accepted (encode T)) ≡ accepted (encode (renewed worked))
unfolding definitions
worked_again = refl

-- THE NAMES OF SORTS

-- "the other letters avoid them too"
abbrev lettered : Table
lettered = record {
  layout = with_names;
  sig = record { sorts = 2 ∷ 2 ∷ []; sort_names = bytes "Bool" ∷ bytes "v" ∷ []; funcs = []; acts = record { name = bytes "a"; takes = [] } ∷ [] };
  equations = record { params = 0 ∷ []; summands = record { vars = []; conds = []; act = action 0; terms = []; calls = (0, var 0 ∷ []) ∷ [] } ∷ [] } ∷ [];
  start = (0, 0 ∷ []);
}

pub lettered_text : table_text lettered ≡ bytes "sort v 2;act a;proc p0(vv0:Bool)=a.p0(vv0);init p0(0);"
unfolding definitions
lettered_text = refl

-- a sort named like an action: the table is right, and its text is refused
abbrev alike : Table
alike = record {
  layout = with_names;
  sig = record { sorts = 2 ∷ 2 ∷ []; sort_names = bytes "Bool" ∷ bytes "a" ∷ []; funcs = []; acts = record { name = bytes "a"; takes = [] } ∷ [] };
  equations = record { params = []; summands = [] } ∷ [];
  start = (0, []);
}

alike_decoded : decode (encode alike) ≡ found alike []
unfolding definitions
alike_decoded = refl

pub alike_right : RightTable alike
alike_right = (encode_decode (encode alike) alike [] alike_decoded).1

pub alike_refused : refusal (sorted_read (table_text alike)) ≡ 7
unfolding definitions
alike_refused = refl

-- without hex F2, beside an action of 16 letters s: a sort's name has 18 characters. The table is right, and its text is refused.
abbrev long : Table
long = record {
  layout = without_names;
  sig = record { sorts = 2 ∷ 2 ∷ []; sort_names = bytes "Bool" ∷ bytes "sssssssssssssssss1" ∷ []; funcs = []; acts = record { name = bytes "ssssssssssssssss"; takes = 1 ∷ [] } ∷ [] };
  equations = record { params = []; summands = [] } ∷ [];
  start = (0, []);
}

long_decoded : decode (encode long) ≡ found long []
unfolding definitions
long_decoded = refl

pub long_right : RightTable long
long_right = (encode_decode (encode long) long [] long_decoded).1

pub long_refused : refusal (sorted_read (table_text long)) ≡ 3
unfolding definitions
long_refused = refl

-- OPERATORS: "the printer writes the fewest brackets that read back the same"

abbrev two : ℕ → Data → Data → Data
two f x y = app f (cons x (cons y nil))

-- Bool is sort 0
abbrev equal : ℕ → Data → Data → Data
equal D x y = two (first_equal + D) x y

abbrev not : Data → Data
not x = app not_number (cons x nil)

-- `\/` below `/\`, `==` below `!` and below `==`, and both that group to the left on either side
abbrev operators : Table
operators = record {
  layout = with_names;
  sig = record { sorts = 2 ∷ 3 ∷ []; sort_names = bytes "Bool" ∷ bytes "D" ∷ []; funcs = []; acts = record { name = bytes "a"; takes = 0 ∷ [] } ∷ [] };
  equations =
      record {
        params = 1 ∷ 0 ∷ [];
        summands =
            record {
              vars = [];
              conds = (1, two and_number (two or_number (not (equal 1 (var 0) (val 2))) (var 1)) (equal 0 (equal 0 (var 1) (val 0)) (not (not (var 1))))) ∷ [];
              act = action 0;
              terms = two or_number (two or_number (var 1) (two and_number (var 1) (val 1))) (two or_number (var 1) (val 0)) ∷ [];
              calls = (0, val 2 ∷ two and_number (two and_number (var 1) (equal 1 (val 0) (var 0))) (two and_number (var 1) (val 1)) ∷ []) ∷ [];
            }
            ∷ [];
      }
      ∷ [];
  start = (0, 2 ∷ 1 ∷ []);
}

pub operators_text : table_text operators ≡ bytes "sort D 3;act a:Bool;proc p0(v0:D,v1:Bool)=a(v1\\/v1/\\1\\/(v1\\/0)).p0(2,v1/\\0==v0/\\(v1/\\1))<|(!(v0==2)\\/v1)/\\(v1==0)==!!v1|>delta;init p0(2,1);"
unfolding definitions
operators_text = refl

operators_decoded : decode (encode operators) ≡ found operators []
unfolding definitions
operators_decoded = refl

pub operators_right : RightTable operators
operators_right = (encode_decode (encode operators) operators [] operators_decoded).1

pub operators_pass : refusal (sorted_read (table_text operators)) ≡ 0
unfolding definitions
operators_pass = refl

-- "`==` .. refuses two numerals"
abbrev compared : Table
compared = record {
  layout = with_names;
  sig = record { sorts = 2 ∷ []; sort_names = bytes "Bool" ∷ []; funcs = []; acts = [] };
  equations = record { params = []; summands = record { vars = []; conds = (1, equal 0 (val 1) (val 1)) ∷ []; act = tau; terms = []; calls = [] } ∷ [] } ∷ [];
  start = (0, []);
}

compared_decoded : decode (encode compared) ≡ found compared []
unfolding definitions
compared_decoded = refl

pub compared_right : RightTable compared
compared_right = (encode_decode (encode compared) compared [] compared_decoded).1

pub compared_text : table_text compared ≡ bytes "proc p0=tau<|1==1|>delta;init p0;"
unfolding definitions
compared_text = refl

pub compared_refused : refusal (sorted_read (table_text compared)) ≡ 8
unfolding definitions
compared_refused = refl
