-- The names that printed sheets give: change request #101, "the letters s, f, p, v and their index, the letter repeated as few times as
-- leave no action name beginning with that run".
use Rattle.std.specs.Prelude.{List, [], ◌∷◌, ◌++◌, ℕ, zero, suc, max, eqb, replicate}
use Rattle.pcrl.specs.Text.{bytes, byte, decimal}
use Rattle.pcrl.specs.Tokens.{run}
use Rattle.pcrl.specs.Tree.{Name}
use Rattle.pcrl.specs.Lists.{tabulate}

-- the longest run of a letter with which one of the names begins
unfoldable pub longest_run : ℕ → List Name → ℕ
longest_run b [] = 0
longest_run b (n ∷ ns) = max (run (eqb b) n) (longest_run b ns)

-- the letter, repeated as few times as leave none of the names beginning with that run
unfoldable pub letters : List Name → ℕ → Name
letters names b = replicate (suc (longest_run b names)) b

unfoldable pub indexed : List Name → ℕ → ℕ → Name
indexed names b i = letters names b ++ decimal i

-- "Sorts but Bool .. get the letters s, .. and their index": beside actions of these names
unfoldable pub older_name : List Name → ℕ → Name
older_name acts zero = bytes "Bool"
older_name acts (suc D) = indexed acts (byte "s") (suc D)

-- #104: "Tables without hex F2 are still read; their sorts are taken as named as the printer named them".
unfoldable pub older_names : List Name → ℕ → List Name
older_names acts n = tabulate n (older_name acts)
