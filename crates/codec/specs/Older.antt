-- The reader that stood before #104: it "refuses it by 14" where a stream starts with hex F2, and what it read is read as before.
use Rattle.std.specs.Prelude.{◌≡◌, refl, List, ◌∷◌, ◌++◌, ℕ, length}
use Rattle.std.proofs.Common.{◌∙◌}
use Rattle.std.proofs.Math.Decide.{ℕ_discrete}
use Rattle.pcrl.specs.Limits.{max_functions, max_actions, max_summands, max_stream}
use Rattle.pcrl.specs.Tests.{both?, at_most?, T?, distinct}
use Rattle.pcrl.specs.Reader.{missing, Reader, test, pair, view, counted}
use Rattle.pcrl.specs.Sheet.{Sig}
use Rattle.pcrl.specs.Table.{Layout, with_names, Table, summand_count}
use Rattle.pcrl.specs.Stream.{names_code, encode_sorts, encode_sig, encode}
use Rattle.pcrl.specs.Right.{action_names}
use Rattle.pcrl.specs.Decode.{read_sizes, read_func, read_action, SortsRead, unnamed_sorts, read_all_sorts, to_sig, read_sig, read_equations, read_start, to_table, decode}
use Rattle.laws.specs.Tests.{where_no}
use Rattle.laws.specs.Computing.{definitions}

-- the reader of tables, where sorts are read so
unfoldable pub sig_by : Reader ℕ SortsRead → Reader ℕ (Layout × Sig)
sig_by sorts =
    view to_sig (pair sorts (λ x.
    pair (counted (at_most? max_functions) (read_func x.0)) (λ fs.
    test (λ acts. T? (distinct (action_names acts))) (counted (at_most? max_actions) (read_action x.0)))))

unfoldable pub decode_by : Reader ℕ SortsRead → Reader ℕ Table
decode_by sorts =
    test (λ T. both? (at_most? max_summands (summand_count T.equations)) (at_most? max_stream (length (encode T))))
    (view to_table (pair (sig_by sorts) (λ x. pair (read_equations x.1) (λ es. read_start x.1 es))))

-- "count and sizes of sorts"
unfoldable pub older_sorts : Reader ℕ SortsRead
older_sorts = view unnamed_sorts read_sizes

abbrev pub older_decode : Reader ℕ Table
older_decode = decode_by older_sorts

pub decode_is : (xs : List ℕ) → decode xs ≡ decode_by read_all_sorts xs
unfolding decode decode_by sig_by read_sig
decode_is xs = refl

-- what the readers of sorts find alike, the readers of tables do
decode_alike : (r s : Reader ℕ SortsRead) (xs : List ℕ) → r xs ≡ s xs → decode_by r xs ≡ decode_by s xs
unfolding decode_by sig_by test view pair
decode_alike r s xs e = rw e refl

-- "starts with hex F2 so that the older reader refuses it by 14": there are not 242 sorts.
pub older_refuses : (xs : List ℕ) → older_decode (names_code ∷ xs) ≡ missing
unfolding decode_by sig_by older_sorts definitions
older_refuses xs = refl

-- A stream with the sorts' names is no table to it, whatever stands behind the stream.
pub older_finds_none : (T : Table) (rest : List ℕ) → T.layout ≡ with_names → older_decode (encode T ++ rest) ≡ missing
unfolding encode encode_sig encode_sorts
older_finds_none T rest e = rw e (older_refuses _)

-- "Tables without hex F2 are still read": as they were.
pub still_read : (b : ℕ) (xs : List ℕ) → ¬ (b ≡ names_code) → decode (b ∷ xs) ≡ older_decode (b ∷ xs)
unfolding read_all_sorts older_sorts
still_read b xs h = decode_is (b ∷ xs) ∙ decode_alike read_all_sorts older_sorts (b ∷ xs) (where_no (ℕ_discrete b names_code) h _ _)
