-- The bytes that the arrays show are those of the signature that they hold.
use mathlib.Core.Path.{◌≡◌, refl, sym, ap, ap₂, ◌∙◌}
use mathlib.Core.List.{List, [], ◌∷◌, ◌++◌}
use Rattle.std.specs.Prelude.{Option}
use Prim.Native.Nat.{ℕ, zero, suc, ◌+◌, ◌-◌, ◌*◌, ◌≤◌, ◌<◌}
use native.Mathlib.Nat.{mod-eq_of_lt}
use native.Mathlib.Omega.{arith}
use lib.ListN.{length, get_or, length-map, get_or-append}
use lib.Seq.{get_or-drop}
use Rattle.pcrl.specs.Limits.{max_name}
use Rattle.pcrl.specs.Reader.{all}
use Rattle.pcrl.specs.Tree.{Name}
use Rattle.pcrl.specs.Lists.{together}
use Rattle.pcrl.specs.Blocks.{concatenated}
use Rattle.pcrl.specs.Sheet.{Func, Action, Sig, no_func, no_action, func}
use Rattle.pcrl.specs.Table.{with_names}
use Rattle.pcrl.specs.Stream.{names_code, encode_numbers, encode_list, encode_sort, encode_sorts, encode_func, encode_action, encode_sig}
use Rattle.pcrl.specs.Right.{RightSortName, RightNames}
use Rattle.laws.specs.Every.{every_at}
use Rattle.codec.specs.Cut.{concatenated_zero, concatenated_suc, concatenated_alike}
use Rattle.codec.specs.Together.{firsts_together}
use Rattle.nodes.specs.declared.Outline.{Outline}
use Rattle.nodes.specs.Layout.{byte_limit}
use Rattle.nodes.specs.Held.{func_width, act_width, SortsAt, FuncAt, ActAt, HeldSig}
use Rattle.names.specs.NameCells.{name_at}
use Rattle.emit.specs.Putting.{Puts}
use Rattle.emit.specs.Bytes.{part, row_bytes, sort_name_at, sort_bytes, sorts_bytes, func_bytes, name_bytes, action_bytes, counted_bytes, NamesAt, ShortNames, SortNamesAt, PutsSig}
use Rattle.emit.proofs.SignatureLaws.{puts_same}
use Rattle.emit.proofs.Copied.{part_is}

-- a list's elements, one after another
pub concatenated_all : {A : Type 0} (w : A → List ℕ) (d : A) (l : List A) → concatenated (length l) (λ i. w (get_or l i d)) ≡ all w l
unfolding all
concatenated_all w d [] = concatenated_zero (λ i. w (get_or [] i d))
concatenated_all w d (a ∷ l) = concatenated_suc (length l) (λ i. w (get_or (a ∷ l) i d)) ∙ ap (λ (m : List ℕ). w a ++ m) (concatenated_all w d l)

pub row_is : (Ds s : List ℕ) (p : ℕ) → SortsAt Ds s p → row_bytes s p ≡ encode_numbers Ds
unfolding row_bytes encode_numbers
row_is Ds s p h =
    let many = h.many in
    part_is s p (get_or s p 0 + 1) (length Ds ∷ Ds) (omega arith) each
  where
    each : (i : ℕ) → i < get_or s p 0 + 1 → get_or s (p + i) 0 ≡ get_or (length Ds ∷ Ds) i 0
    each zero k = let z : p + 0 ≡ p = omega arith in ap (λ (x : ℕ). get_or s x 0) z ∙ h.many
    each (suc i) k = let z : p + suc i ≡ p + 1 + i = omega arith in ap (λ (x : ℕ). get_or s x 0) z ∙ h.each i (omega (arith, h.many))

counted_is : {A : Type 0} (w : A → List ℕ) (d : A) (l : List A) (n : ℕ) (f : ℕ → List ℕ) → n ≡ length l → n < byte_limit → ((i : ℕ) → i < n → f i ≡ w (get_or l i d)) → counted_bytes n f ≡ encode_list w l
unfolding counted_bytes encode_list
counted_is w d l n f e h k =
    ap₂ (λ (x : ℕ) (m : List ℕ). (x ∷ []) ++ m) (mod-eq_of_lt h ∙ e) (concatenated_alike n f (λ i. w (get_or l i d)) k ∙ ap (λ (m : ℕ). concatenated m (λ i. w (get_or l i d))) e ∙ concatenated_all w d l)

-- two lists side by side
length_together : {A B : Type 0} (as' : List A) (bs : List B) → length bs ≡ length as' → length (together as' bs) ≡ length as'
length_together {A} {B} as' bs e = sym (length-map (together as' bs) (λ (x : A × B). x.0)) ∙ ap length (firsts_together as' bs e)

get_or_together : {A B : Type 0} (a : A) (b : B) (as' : List A) (bs : List B) → length bs ≡ length as' → (i : ℕ) → i < length as' → get_or (together as' bs) i (a, b) ≡ (get_or as' i a, get_or bs i b)
unfolding together
get_or_together a b [] bs e i h = absurd (omega arith)
get_or_together a b (x ∷ as') [] e i h = absurd (omega arith)
get_or_together a b (x ∷ as') (y ∷ bs) e zero h = refl
get_or_together a b (x ∷ as') (y ∷ bs) e (suc i) h = get_or_together a b as' bs (omega arith) i (omega arith)

name_is : (x y : Name) → x ≡ y → length y ≤ max_name → name_bytes x ≡ encode_numbers y
unfolding name_bytes encode_numbers
name_is x y e h = ap name_bytes e ∙ ap (λ (k : ℕ). (k ∷ []) ++ y) (mod-eq_of_lt (omega arith))

sort_name_is : (S : Sig) (s names : List ℕ) → SortNamesAt s names S.sort_names → RightNames with_names S → (D : ℕ) → D < length S.sort_names → sort_name_at s names D ≡ get_or S.sort_names D []
unfolding sort_name_at RightNames
sort_name_is S s names named right zero h = sym right.1.1
sort_name_is S s names named right (suc D) h = named D h

short_name : (n : Name) → RightSortName n → length n ≤ max_name
unfolding RightSortName
short_name n h = h.0.0.1

sorts_is : (S : Sig) (s sizes names : List ℕ) (n : ℕ) → n ≡ length S.sorts → n < byte_limit → ((D : ℕ) → D < n → get_or sizes D 0 ≡ get_or S.sorts D 0) → SortNamesAt s names S.sort_names → RightNames with_names S
    → sorts_bytes s sizes names n ≡ encode_sorts with_names S
unfolding sorts_bytes sort_bytes encode_sorts encode_sort RightNames
sorts_is S s sizes names n e h k named right =
    let many = right.0.0 in
    let each : (D : ℕ) → D < n → sort_bytes s sizes names D ≡ encode_sort (get_or (together S.sorts S.sort_names) D (0, [])) =
    λ D m. let there : D < length S.sort_names = omega arith in
    ap₂ (λ (x : ℕ) (l : List ℕ). (x ∷ []) ++ l) (k D m)
    (name_is (sort_name_at s names D) (get_or S.sort_names D []) (sort_name_is S s names named right D there) (short_name _ (every_at RightSortName S.sort_names [] D right.0.1 there)))
    ∙ sym (ap encode_sort (get_or_together 0 [] S.sorts S.sort_names many D (omega arith))) in
    ap (◌∷◌ names_code) (counted_is encode_sort (0, []) (together S.sorts S.sort_names) n (sort_bytes s sizes names) (e ∙ sym (length_together S.sorts S.sort_names many)) h each)

func_is : (g : Func) (funcs values places : List ℕ) (i : ℕ) → FuncAt g funcs values places i → func_bytes funcs values places i ≡ encode_func g
unfolding func_bytes encode_func
func_is g funcs values places i h =
    let n = length g.values in
    let ends = h.values_end in
    let many : get_or places (i + 1) 0 - get_or places i 0 ≡ n = omega arith in
    let (rest, e) = h.values_are in
    let vals : part values (get_or places i 0) n ≡ g.values =
    part_is values (get_or places i 0) n g.values refl (λ j k. sym (get_or-drop (get_or places i 0) values j 0) ∙ ap (λ (l : List ℕ). get_or l j 0) e ∙ get_or-append g.values rest 0 j k) in
    ap₂ (λ (a b : List ℕ). a ++ b) (row_is g.takes funcs (func_width * i) h.takes)
    (ap₂ (λ (x : ℕ) (l : List ℕ). (x ∷ []) ++ l) h.gives (ap (part values (get_or places i 0)) many ∙ vals))

action_is : (a : Action) (s acts names : List ℕ) (b i : ℕ) → ActAt a acts i → name_at s (get_or names (b + i) 0) ≡ a.name → length a.name ≤ max_name → action_bytes s acts names b i ≡ encode_action a
unfolding action_bytes encode_action
action_is a s acts names b i h e k = ap₂ (λ (x y : List ℕ). x ++ y) (name_is _ a.name e k) (row_is a.takes acts (act_width * i) h.takes)

-- THE SIGNATURE
signature_is : (S : Sig) (s sizes funcs values places acts names : List ℕ) (b : ℕ) (n : Outline) → HeldSig S sizes funcs values places acts n → NamesAt s names b S.acts → ShortNames S.acts → SortNamesAt s names S.sort_names → RightNames with_names S
    → sorts_bytes s sizes names n.sorts ++ (counted_bytes n.funcs (func_bytes funcs values places) ++ counted_bytes n.acts (action_bytes s acts names b)) ≡ encode_sig with_names S
unfolding encode_sig func
signature_is S s sizes funcs values places acts names b n held named short sorts_named right =
    let sl = held.few_sorts in
    let fl = held.few_funcs in
    let al = held.few_acts in
    ap₂ (λ (k l : List ℕ). k ++ l) (sorts_is S s sizes names n.sorts held.sort_count (omega arith) held.size_at sorts_named right)
    (ap₂ (λ (k l : List ℕ). k ++ l)
    (counted_is encode_func no_func S.funcs n.funcs (func_bytes funcs values places) held.func_count (omega arith) (λ i k. func_is (func S i) funcs values places i (held.func_at i k)))
    (counted_is encode_action no_action S.acts n.acts (action_bytes s acts names b) held.act_count (omega arith)
    (λ i k. let m : i < length S.acts = omega (arith, held.act_count) in
    action_is (get_or S.acts i no_action) s acts names b i (held.act_at i k) (named i m) (every_at (λ (a : Action). length a.name ≤ max_name) S.acts no_action i short m))))

pub signature_put : (s sizes funcs values places acts names : List ℕ) (b : ℕ) (n : Outline) (w : ℕ) (o : List ℕ) (r : Option ℕ) (t : List ℕ)
    → Puts (sorts_bytes s sizes names n.sorts ++ (counted_bytes n.funcs (func_bytes funcs values places) ++ counted_bytes n.acts (action_bytes s acts names b))) w o r t
    → PutsSig s sizes funcs values places acts names b n w o r t
signature_put s sizes funcs values places acts names b n w o r t f S held named short sorts_named right =
    puts_same w o r t (signature_is S s sizes funcs values places acts names b n held named short sorts_named right) f
