-- The theorems of demand 3 are not empty: two sheets of the shelf are accepted, from their bytes, and consequences are computed.
use Rattle.std.specs.Prelude.{refl, List, [], ◌∷◌, ℕ, get_or, replicate}
use Prim.Native.String.{String}
use Rattle.pcrl.specs.Text.{bytes}
use Rattle.pcrl.specs.Limits.{frame_width, stack_limit}
use Rattle.pcrl.specs.Label.{Label, silent, named}
use Rattle.pcrl.specs.Sheet.{val, action, alt, seq, atom, call, Sheet}
use Rattle.pcrl.specs.Table.{Table, without_names}
use Rattle.pcrl.specs.Heads.{table_of}
use Rattle.pcrl.specs.Blocks.{file_of}
use Rattle.pcrl.specs.Stack.{Frame, frames_of}
use Rattle.pcrl.specs.Ask.{Answer, nothing, stepped, refused}
use Rattle.laws.specs.Computing.{definitions}
use Rattle.theory.specs.Demand.{AcceptedSheet}

-- act a;act b;proc X=a.b+a;init X;
unfoldable pub choice_sheet : Sheet
choice_sheet = record {
  sig = record { sorts = 2 ∷ []; sort_names = bytes "Bool" ∷ []; funcs = []; acts = record { name = bytes "a"; takes = [] } ∷ (record { name = bytes "b"; takes = [] } ∷ []) };
  procs = record { params = []; right = alt (seq (atom (action 0) []) (atom (action 1) [])) (atom (action 0) []) } ∷ [];
  start = (0, []);
}

-- act a;proc X=a.X.X;init X;
unfoldable pub growing_sheet : Sheet
growing_sheet = record {
  sig = record { sorts = 2 ∷ []; sort_names = bytes "Bool" ∷ []; funcs = []; acts = record { name = bytes "a"; takes = [] } ∷ [] };
  procs = record { params = []; right = seq (atom (action 0) []) (seq (call 0 []) (call 0 [])) } ∷ [];
  start = (0, []);
}

unfoldable pub choice_accepted : AcceptedSheet
unfolding choice_sheet definitions
choice_accepted = record {
  bytes = bytes "act a;act b;proc X=a.b+a;init X;";
  room = 512;
  file = file_of (table_of choice_sheet);
  sheet = choice_sheet;
  table = table_of choice_sheet;
  read = refl;
  made = refl;
  checked = refl;
}

unfoldable pub growing_accepted : AcceptedSheet
unfolding growing_sheet definitions
growing_accepted = record {
  bytes = bytes "act a;proc X=a.X.X;init X;";
  room = 512;
  file = file_of (table_of growing_sheet);
  sheet = growing_sheet;
  table = table_of growing_sheet;
  read = refl;
  made = refl;
  checked = refl;
}

-- a frame of equation 0, which has no parameter
unfoldable pub X_frame : Frame
X_frame = record { number = 0; values = 0 ∷ 0 ∷ 0 ∷ 0 ∷ [] }

-- 63 frames of the other sheet
unfoldable pub deep_frames : List Frame
unfolding X_frame definitions
deep_frames = frames_of frame_width stack_limit (replicate 63 X_frame)

-- "depth 63 steps to 64; depth 64 gets 16", and there is no step 5
unfoldable pub deep_answers : List Answer
deep_answers = stepped (named (bytes "a") [] []) 64 ∷ (refused 16 ∷ (nothing ∷ []))

-- and 64 in the end
unfoldable pub full_frames : List Frame
unfolding X_frame definitions
full_frames = frames_of frame_width stack_limit (replicate 64 X_frame)

-- "Two houses' sheets had an action `set`, one over Bool, one over coil channels, and states with set(1) passed as equal."

unfoldable pub Bool_sheet : Sheet
Bool_sheet = record {
  sig = record { sorts = 2 ∷ []; sort_names = bytes "Bool" ∷ []; funcs = []; acts = record { name = bytes "set"; takes = 0 ∷ [] } ∷ [] };
  procs = record { params = []; right = seq (atom (action 0) (val 1 ∷ [])) (call 0 []) } ∷ [];
  start = (0, []);
}

unfoldable pub coil_sheet : Sheet
coil_sheet = record {
  sig = record { sorts = 2 ∷ (2 ∷ []); sort_names = bytes "Bool" ∷ (bytes "Coil" ∷ []); funcs = []; acts = record { name = bytes "set"; takes = 1 ∷ [] } ∷ [] };
  procs = record { params = []; right = seq (atom (action 0) (val 1 ∷ [])) (call 0 []) } ∷ [];
  start = (0, []);
}

unfoldable pub Bool_accepted : AcceptedSheet
unfolding Bool_sheet definitions
Bool_accepted = record {
  bytes = bytes "act set:Bool;proc X=set(1).X;init X;";
  room = 512;
  file = file_of (table_of Bool_sheet);
  sheet = Bool_sheet;
  table = table_of Bool_sheet;
  read = refl;
  made = refl;
  checked = refl;
}

unfoldable pub coil_accepted : AcceptedSheet
unfolding coil_sheet definitions
coil_accepted = record {
  bytes = bytes "sort Coil 2;act set:Coil;proc X=set(1).X;init X;";
  room = 512;
  file = file_of (table_of coil_sheet);
  sheet = coil_sheet;
  table = table_of coil_sheet;
  read = refl;
  made = refl;
  checked = refl;
}

-- set(1), over Bool and over Coil
abbrev pub set_of : String → Label
set_of D = named (bytes "set") (bytes D ∷ []) (1 ∷ [])

-- the first byte of a label's first sort name
abbrev pub first_byte : Label → ℕ
first_byte silent = 0
first_byte (named n Ds vs) = get_or (get_or Ds 0 []) 0 0

-- The coil sheet's table as it was filed before: its sorts are named as the printer named them, ss1 since `set` begins with s.
unfoldable pub earlier_table : Table
unfolding coil_sheet definitions
earlier_table = record {
  layout = without_names;
  sig = record { sorts = 2 ∷ (2 ∷ []); sort_names = bytes "Bool" ∷ (bytes "ss1" ∷ []); funcs = []; acts = record { name = bytes "set"; takes = 1 ∷ [] } ∷ [] };
  equations = (table_of coil_sheet).equations;
  start = (0, []);
}
