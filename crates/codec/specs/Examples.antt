-- The worked sheet of document 01, "`act a;proc X=a.X;init X;` gives one block, stream hex 01 02 00 01 01 61 00 01 00 01 00 00 00 01 00 00": that stream
-- without hex F2, and by #104 with it. By computation.
use Rattle.std.specs.Prelude.{◌≡◌, refl, List, [], ◌∷◌, ◌++◌, ℕ}
use Rattle.pcrl.specs.Text.{bytes}
use Rattle.pcrl.specs.Result.{accepted}
use Rattle.pcrl.specs.Reader.{found}
use Rattle.pcrl.specs.Sheet.{action}
use Rattle.pcrl.specs.Table.{Layout, with_names, without_names, Table}
use Rattle.pcrl.specs.Stream.{encode}
use Rattle.pcrl.specs.Decode.{decode}
use Rattle.pcrl.specs.Blocks.{file_of}
use Rattle.pcrl.specs.Answers.{table_made}
use Rattle.laws.specs.Computing.{definitions}
use Rattle.codec.specs.Padding.{zeros}

-- behind the sorts
unfoldable pub worked_rest : List ℕ
worked_rest = 0x00 ∷ 0x01 ∷ 0x01 ∷ 0x61 ∷ 0x00 ∷ 0x01 ∷ 0x00 ∷ 0x01 ∷ 0x00 ∷ 0x00 ∷ 0x00 ∷ 0x01 ∷ 0x00 ∷ 0x00 ∷ []

unfoldable pub worked : List ℕ
worked = 0xF2 ∷ 0x01 ∷ 0x02 ∷ 0x04 ∷ 0x42 ∷ 0x6F ∷ 0x6F ∷ 0x6C ∷ worked_rest

unfoldable pub worked_older : List ℕ
worked_older = 0x01 ∷ 0x02 ∷ worked_rest

unfoldable pub worked_in : Layout → Table
worked_in layout =
    record {
      layout = layout;
      sig = record { sorts = 2 ∷ []; sort_names = bytes "Bool" ∷ []; funcs = []; acts = record { name = bytes "a"; takes = [] } ∷ [] };
      equations = record { params = []; summands = record { vars = []; conds = []; act = action 0; terms = []; calls = (0, []) ∷ [] } ∷ [] } ∷ [];
      start = (0, []);
    }

abbrev pub worked_table : Table
worked_table = worked_in with_names

pub worked_made : table_made (bytes "act a;proc X=a.X;init X;") ≡ accepted worked_table
unfolding worked_in definitions
worked_made = refl

pub worked_written : encode worked_table ≡ worked
unfolding worked worked_rest worked_in definitions
worked_written = refl

pub worked_read : decode worked ≡ found worked_table []
unfolding worked worked_rest worked_in definitions
worked_read = refl

-- "Tables without hex F2 are still read"
pub older_written : encode (worked_in without_names) ≡ worked_older
unfolding worked_older worked_rest worked_in definitions
older_written = refl

pub older_read : decode worked_older ≡ found (worked_in without_names) []
unfolding worked_older worked_rest worked_in definitions
older_read = refl

-- number 0, count 1, stream, zeros, check
pub worked_block : file_of worked_table ≡ (0x00 ∷ 0x00 ∷ 0x01 ∷ 0x00 ∷ []) ++ (worked ++ (zeros 484 ++ (0x73 ∷ 0x9F ∷ [])))
unfolding worked worked_rest worked_in definitions
worked_block = refl
