-- What is put for rows, sorts, functions, names and actions, part by part.
use mathlib.Core.Path.{◌≡◌, sym, ap, ap₂, subst, ◌∙◌}
use mathlib.Core.List.{List, [], ◌∷◌, ◌++◌}
use Rattle.std.specs.Prelude.{Option, Some, None}
use Prim.Native.Nat.{ℕ, zero, suc, ◌+◌, ◌-◌, ◌*◌, ◌%◌, ◌<◌}
use native.Mathlib.Omega.{arith}
use lib.ListN.{length, take, drop, get_or}
use Rattle.pcrl.specs.Text.{bytes}
use Rattle.pcrl.specs.Bytes.{name_byte}
use Rattle.pcrl.specs.Tokens.{run, front}
use Rattle.pcrl.specs.Lists.{tabulate}
use Rattle.lexer.specs.Cells.{first_name}
use Rattle.lexer.specs.Classes.{in_classes}
use Rattle.lexer.proofs.Runs.{run_le, run_same, length_front, is_name_byte}
use Rattle.nodes.specs.Layout.{byte_limit}
use Rattle.nodes.specs.Held.{func_width, act_width}
use Rattle.names.specs.NameCells.{name_at}
use Rattle.emit.specs.Putting.{PutsTo, NoRoom, Puts}
use Rattle.emit.specs.Bytes.{part, row_bytes, sort_name_at, sort_bytes, func_bytes, name_bytes, action_bytes, counted_bytes, sorts_bytes}
use Rattle.pcrl.specs.Stream.{names_code}
use Rattle.emit.proofs.Putting.{puts_then, no_room_as, no_room_first, no_room_then}
use Rattle.emit.proofs.Copied.{part_taken}

module _ (w : ℕ) (o : List ℕ) (r : Option ℕ) (q : List ℕ) where
  -- behind one another, if there is a place behind the first
  pub puts_behind : (e d : List ℕ) (v : ℕ) (p : List ℕ) → PutsTo e w o v p → Puts d v p r q → Puts (e ++ d) w o r q
  puts_behind e d v p f g = go r g
    where
      go : (r : Option ℕ) → Puts d v p r q → Puts (e ++ d) w o r q
      go None g = no_room_then f g
      go (Some x) g = puts_then f g

  pub puts_same : {e d : List ℕ} → e ≡ d → Puts e w o r q → Puts d w o r q
  puts_same z h = subst (λ (l : List ℕ). Puts l w o r q) z h

module _ (w : ℕ) (o : List ℕ) (r : Option ℕ) (q : List ℕ) where
  pub row_put : (row : List ℕ) (p n : ℕ) → n ≡ get_or row p 0 → Puts (part row p (n + 1)) w o r q → Puts (row_bytes row p) w o r q
  unfolding row_bytes
  row_put row p n e h = puts_same w o r q (ap (λ (k : ℕ). part row p (k + 1)) e) h

  module _ (v : ℕ) (p : List ℕ) where
    -- a sort's size, and behind it the name
    sort_put : (s sizes names : List ℕ) (D b : ℕ) → b ≡ get_or sizes D 0 → PutsTo (b ∷ []) w o v p → Puts (name_bytes (sort_name_at s names D)) v p r q → Puts (sort_bytes s sizes names D) w o r q
    unfolding sort_bytes
    sort_put s sizes names D b e h k = puts_same w o r q (ap (λ (x : ℕ). (x ∷ []) ++ name_bytes (sort_name_at s names D)) e) (puts_behind w o r q _ _ v p h k)

    pub bool_put : (s sizes names : List ℕ) (D b : ℕ) → D ≡ 0 → b ≡ get_or sizes D 0 → PutsTo (b ∷ []) w o v p → Puts (row_bytes (4 ∷ bytes "Bool") 0) v p r q → Puts (sort_bytes s sizes names D) w o r q
    unfolding sort_name_at name_bytes row_bytes part tabulate
    bool_put s sizes names D b z e h k = sort_put s sizes names D b e h (subst (λ (x : ℕ). Puts (name_bytes (sort_name_at s names x)) v p r q) (sym z) k)

    pub other_put : (s sizes names : List ℕ) (D b c : ℕ) → 0 < D → b ≡ get_or sizes D 0 → c ≡ get_or names (D - 1) 0 → PutsTo (b ∷ []) w o v p → Puts (name_bytes (name_at s c)) v p r q → Puts (sort_bytes s sizes names D) w o r q
    unfolding sort_name_at
    other_put s sizes names zero b c l e f h k = absurd (omega arith)
    other_put s sizes names (suc D) b c l e f h k =
        let z : suc D - 1 ≡ D = omega arith in
        sort_put s sizes names (suc D) b e h (subst (λ (x : ℕ). Puts (name_bytes (name_at s x)) v p r q) (f ∙ ap (λ (x : ℕ). get_or names x 0) z) k)

    pub func_put : (funcs values places : List ℕ) (i b a m : ℕ) (u : ℕ) (t : List ℕ) → b ≡ get_or funcs (func_width * i + 3) 0 → a ≡ get_or places i 0 → m ≡ get_or places (i + 1) 0 - get_or places i 0
        → PutsTo (row_bytes funcs (func_width * i)) w o v p → PutsTo (b ∷ []) v p u t → Puts (part values a m) u t r q → Puts (func_bytes funcs values places i) w o r q
    unfolding func_bytes
    func_put funcs values places i b a m u t eb ea em f g h =
        puts_same w o r q (ap₂ (λ (x : ℕ) (l : List ℕ). row_bytes funcs (func_width * i) ++ ((x ∷ []) ++ l)) eb (ap₂ (λ (x y : ℕ). part values x y) ea em)) (puts_behind w o r q _ _ v p f (puts_behind v p r q _ _ u t g h))

    pub name_put : (s : List ℕ) (c a n b : ℕ) → a ≡ c - first_name → n ≡ run (in_classes 2 4) (drop a s) → b ≡ n % byte_limit → PutsTo (b ∷ []) w o v p → Puts (part s a n) v p r q
        → Puts (name_bytes (name_at s c)) w o r q
    unfolding name_bytes name_at
    name_put s c a n b ea en eb f g =
        let run_is : n ≡ run name_byte (drop a s) = en ∙ run_same (in_classes 2 4) name_byte is_name_byte (drop a s) in
        let bytes : part s a n ≡ front name_byte (drop a s) = part_taken s a n (omega (arith, run_le name_byte (drop a s))) ∙ ap (λ (k : ℕ). take k (drop a s)) run_is in
        let size : n ≡ length (front name_byte (drop a s)) = run_is ∙ sym (length_front name_byte (drop a s)) in
        puts_same w o r q
        (ap₂ (λ (x : ℕ) (l : List ℕ). (x ∷ []) ++ l) (eb ∙ ap (λ (k : ℕ). k % byte_limit) size) bytes ∙ ap (λ (x : ℕ). name_bytes (front name_byte (drop x s))) ea)
        (puts_behind w o r q _ _ v p f g)

    pub action_put : (s acts names : List ℕ) (b i c : ℕ) → c ≡ get_or names (b + i) 0 → PutsTo (name_bytes (name_at s c)) w o v p → Puts (row_bytes acts (act_width * i)) v p r q
        → Puts (action_bytes s acts names b i) w o r q
    unfolding action_bytes
    action_put s acts names b i c e f g = puts_same w o r q (ap (λ (x : ℕ). name_bytes (name_at s x) ++ row_bytes acts (act_width * i)) e) (puts_behind w o r q _ _ v p f g)

-- ---- no room
module _ {b w : ℕ} {o q : List ℕ} (h : NoRoom (b ∷ []) w o q) where
  pub name_no_room : (s : List ℕ) (c : ℕ) → NoRoom (name_bytes (name_at s c)) w o q
  unfolding name_bytes
  name_no_room s c = no_room_as (omega arith) h

  pub sort_no_room : (s sizes names : List ℕ) (D : ℕ) → NoRoom (sort_bytes s sizes names D) w o q
  unfolding sort_bytes
  sort_no_room s sizes names D = no_room_as (omega arith) h

  pub counted_none : (f : ℕ → List ℕ) (n : ℕ) → NoRoom (counted_bytes n f) w o q
  unfolding counted_bytes
  counted_none f n = no_room_as (omega arith) h

  pub sorts_none : (s sizes names : List ℕ) (n : ℕ) → NoRoom (sorts_bytes s sizes names n) w o q
  unfolding sorts_bytes
  sorts_none s sizes names n = no_room_as (omega arith) h

pub func_none : (funcs values places : List ℕ) (i w : ℕ) (o q : List ℕ) → NoRoom (row_bytes funcs (func_width * i)) w o q → NoRoom (func_bytes funcs values places i) w o q
unfolding func_bytes
func_none funcs values places i w o q h = no_room_first _ h

pub func_no_room : (funcs values places : List ℕ) (i b w : ℕ) (o : List ℕ) (v : ℕ) (p q : List ℕ) → PutsTo (row_bytes funcs (func_width * i)) w o v p → NoRoom (b ∷ []) v p q → NoRoom (func_bytes funcs values places i) w o q
unfolding func_bytes
func_no_room funcs values places i b w o v p q f g = no_room_then f (no_room_as (omega arith) g)

pub action_none : (s acts names : List ℕ) (b i c w : ℕ) (o q : List ℕ) → c ≡ get_or names (b + i) 0 → NoRoom (name_bytes (name_at s c)) w o q → NoRoom (action_bytes s acts names b i) w o q
unfolding action_bytes
action_none s acts names b i c w o q e h = no_room_first _ (subst (λ (x : ℕ). NoRoom (name_bytes (name_at s x)) w o q) e h)

-- the count of the sorts, or one of them, behind the code
pub sorts_behind : (s sizes names : List ℕ) (n w : ℕ) (o : List ℕ) (v : ℕ) (p : List ℕ) (r : Option ℕ) (q : List ℕ) → PutsTo (names_code ∷ []) w o v p → Puts (counted_bytes n (sort_bytes s sizes names)) v p r q → Puts (sorts_bytes s sizes names n) w o r q
unfolding sorts_bytes
sorts_behind s sizes names n w o v p r q f g = puts_behind w o r q _ _ v p f g
