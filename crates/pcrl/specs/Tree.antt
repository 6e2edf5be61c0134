-- The tree of a sheet as it is written: names are bytes, lists of data have any length, brackets are kept.
use Rattle.std.specs.Prelude.{List, ℕ}
use Rattle.std.proofs.Math.Option.{Option}

abbrev pub Name : Type 0
Name = List ℕ

-- #102: "Data gains `!`, `==`, `/\` and `\/`, binding in that order from tightest".
mutual
  -- data: conjunctions joined by `\/`
  pub data RawData : Type 0 where
    only : Conjunction → RawData
    or : Conjunction → RawData → RawData

  -- comparisons joined by `/\`
  pub data Conjunction : Type 0 where
    single : Comparison → Conjunction
    and : Comparison → Conjunction → Conjunction

  -- "`==` takes two data .., doesn't chain"
  pub data Comparison : Type 0 where
    plain : Negation → Comparison
    equal : Negation → Negation → Comparison

  pub data Negation : Type 0 where
    atom : Atom → Negation
    not : Negation → Negation

  -- "Data is a numeral, a variable, or a function name with bracketed data." "Brackets in data are allowed"
  pub data Atom : Type 0 where
    value : ℕ → Atom
    variable : Name → Atom
    apply : Name → RawDatas → Atom
    group : RawData → Atom

  -- "Bracketed data .. hold at least one, with commas between."
  pub data RawDatas : Type 0 where
    one : RawData → RawDatas
    more : RawData → RawDatas → RawDatas

mutual
  -- "A choice is conditionals joined by `+`."
  pub data Choice : Type 0 where
    only : Conditional → Choice
    plus : Conditional → Choice → Choice

  -- "A conditional is a sequence, or sequence `<|` data `|>` sequence (yes part first)."
  pub data Conditional : Type 0 where
    plain : Sequence → Conditional
    cond : Sequence → RawData → Sequence → Conditional

  -- "A sequence is parts joined by `.`."
  pub data Sequence : Type 0 where
    last : Part → Sequence
    then : Part → Sequence → Sequence

  -- "A part is delta, tau, a name with or without bracketed data, `sum(v:sort, choice)`, or a bracketed choice."
  pub data Part : Type 0 where
    delta tau : Part
    named : Name → Option RawDatas → Part
    sum : Name → Name → Choice → Part
    group : Choice → Part

-- "`sort` name size"
pub record SortLine : Type 0 where
  pub name : Name
  pub size : ℕ

-- "`func` name `:` sort, or sort `#` sort, `->` sort `=` values by commas"
pub record FuncLine : Type 0 where
  pub name : Name
  pub takes : List Name
  pub gives : Name
  pub values : List ℕ

-- "`act` name, or name `:` sort, or name `:` sort `#` sort"
pub record ActLine : Type 0 where
  pub name : Name
  pub takes : List Name

-- "`proc` name, or name with bracketed `v:sort` by commas, `=` a choice": a parameter is its name and its sort's
pub record ProcLine : Type 0 where
  pub name : Name
  pub params : List (Name × Name)
  pub right : Choice

-- "`init` a call"
pub record InitLine : Type 0 where
  pub name : Name
  pub data_given : Option RawDatas

pub record RawSheet : Type 0 where
  pub sorts : List SortLine
  pub funcs : List FuncLine
  pub acts : List ActLine
  pub procs : List ProcLine
  pub start : InitLine
