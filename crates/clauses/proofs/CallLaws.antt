-- An action and calls that stand in the stream, each with its terms.
use mathlib.Core.Path.{◌≡◌, refl, sym, ap, subst, ◌∙◌}
use mathlib.Core.List.{List, [], ◌∷◌, ◌++◌}
use Prim.Native.Nat.{ℕ, ◌+◌, ◌≤◌, ◌<◌}
use native.Mathlib.Omega.{arith}
use lib.ListN.{length, get_or, drop}
use Rattle.pcrl.specs.Tests.{Every, Each}
use Rattle.pcrl.specs.Text.{bytes, byte}
use Rattle.pcrl.specs.Reader.{all}
use Rattle.pcrl.specs.Sheet.{Data, Act, tau, no_action, Sig, takes_of}
use Rattle.pcrl.specs.Sorts.{IsAct}
use Rattle.pcrl.specs.Stream.{variable_code, tau_code, encode_data, encode_list, encode_call, encode_action}
use Rattle.pcrl.specs.Right.{RightTerm, RightCall}
use Rattle.pcrl.specs.Printer.{proc_name}
use Rattle.laws.specs.Each.{each_length}
use Rattle.laws.specs.Every.{every_at}
use Rattle.rendering.specs.Texts.{given_text, act_text, call_text}
use Rattle.terms.specs.Stands.{Stands, list_at}
use Rattle.terms.proofs.Places.{name_stands, list_is}
use Rattle.evaluation.specs.Known.{KnownTerms}
use Rattle.opening.proofs.Standing.{all_first}
use Rattle.firing.specs.Known.{KnownParts}
use Rattle.firing.specs.Fires.{act_of}
use Rattle.firing.proofs.Counting.{act_tau, act_action, params_count, action_count}
use Rattle.firing.proofs.Framing.{byte_at, call_number, call_terms, call_there, call_sorts, call_length}
use Rattle.firing.proofs.Skipping.{act_here}
use Rattle.texts.specs.Wrote.{Wrote}
use Rattle.lettering.specs.Named.{procs_place, lettered_by, Lettered}
use Rattle.lettering.proofs.Laws.{proc_is}
use Rattle.clauses.specs.declared.data.TextPut.{TextPut}
use Rattle.clauses.specs.Terms.{Puts}
use Rattle.clauses.specs.Written.{Ground, ActionPut, CallPut, CallsPut}
use Rattle.clauses.proofs.Upto.{Upto, upto_start, upto_more, upto_all, wrote_then, wrote_by}
use Rattle.clauses.proofs.TextLaws.{all_here, all_none}

none_given : {A B : Type 0} (R : A → B → Type 0) (bs : List B) → Each R [] bs → bs ≡ []
unfolding Each
none_given R [] h = refl
none_given R (b ∷ bs) h = absurd h

no_call : ℕ × List Data
no_call = (0, [])

module _ (s funcs : List ℕ) (l : List ℕ) where
  -- n terms in brackets
  abbrev pub TermsPut : ℕ → ℕ → List ℕ → ℕ → List ℕ → TextPut → Type 0
  TermsPut from n out at out' r =
      (S : Sig) (Γ Ds : List ℕ) (ds : List Data) (rest : List ℕ) → KnownTerms S s funcs → length Γ ≤ variable_code → Each (RightTerm S Γ) Ds ds → length ds ≡ n → Lettered S l → drop from s ≡ all encode_data ds ++ rest
      → Puts s out at (given_text S ds) rest r out'

  -- AN ACTION

  module _ (acts : List ℕ) (from : ℕ) (out : List ℕ) (at : ℕ) (room : at ≤ length out) (b : ℕ) (eb : b ≡ get_or s from 0) where
    pub tau_put : (out' : List ℕ) (r : TextPut) → b ≡ tau_code → r.from ≡ from + 1 → Wrote out at (bytes "tau") out' r.at → ActionPut s funcs l acts from out at out' r
    unfolding takes_of act_text all
    tau_put out' r e ef w S Ps params Γ act ts rest g parts is right here =
        let x = act_here S Ps s acts params parts act from (all encode_data ts ++ rest) is here in
        let a : act ≡ tau = sym x.0 ∙ ap act_of (sym eb) ∙ act_tau b e in
        let none : ts ≡ [] = none_given (RightTerm S Γ) ts (subst (λ (y : Act). Each (RightTerm S Γ) (takes_of S y) ts) a right) in
        record {
          wrote = wrote_by (sym (ap (λ (y : Act). act_text S y ts) a)) w;
          left = ap (λ (k : ℕ). drop k s) ef ∙ x.1 ∙ ap (λ (ds : List Data). all encode_data ds ++ rest) none;
        }

    pub named_put : (p n : ℕ) (name mid : List ℕ) (a : ℕ) (out' : List ℕ) (r : TextPut) → (b ≡ tau_code → ⊥) → p ≡ get_or acts b 0 → n ≡ get_or s (p + 1 + get_or s p 0) 0 → name ≡ list_at s p
        → Wrote out at name mid a → TermsPut (from + 1) n mid a out' r → ActionPut s funcs l acts from out at out' r
    unfolding act_text IsAct
    named_put p n name mid a out' r nt ep en ename w terms S Ps params Γ act ts rest g parts is right here =
        let x = act_here S Ps s acts params parts act from (all encode_data ts ++ rest) is here in
        let ea : act ≡ act_of b = sym x.0 ∙ ap act_of (sym eb) in
        let is' : IsAct S (act_of b) = subst (IsAct S) ea is in
        let there : b < length S.acts = subst (IsAct S) (act_action b nt) is' in
        let c : n ≡ length (takes_of S (act_of b)) = action_count S Ps s acts params parts b p n nt is' ep en in
        let count : length ts ≡ n = sym (c ∙ ap (λ (y : Act). length (takes_of S y)) (sym ea) ∙ each_length (RightTerm S Γ) (takes_of S act) ts right) in
        let t = terms S Γ (takes_of S act) ts rest g.known g.short right count g.letters x.1 in
        let one = get_or S.acts b no_action in
        let st : Stands s p (encode_action one) = subst (λ (k : ℕ). Stands s k (encode_action one)) (sym ep) (parts.act_at b there) in
        let its : name ≡ one.name = ename ∙ list_is s p one.name (name_stands s p one st) in
        let text : name ++ given_text S ts ≡ act_text S act ts = ap (λ (k : List ℕ). k ++ given_text S ts) its ∙ sym (ap (λ (y : Act). act_text S y ts) (ea ∙ act_action b nt)) in
        record { wrote = wrote_by text (wrote_then room w (λ h. t.wrote)); left = t.left }

  -- A CALL

  module _ (params : List ℕ) (from : ℕ) (out : List ℕ) (at : ℕ) (room : at ≤ length out) where
    pub call_put : (e k : ℕ) (o₁ : List ℕ) (a : ℕ) (o₂ : List ℕ) (b : ℕ) (out' : List ℕ) (r : TextPut) → e ≡ get_or s from 0 → e < 256 → k ≡ get_or s (get_or params e 0) 0
        → Wrote out at (bytes ".") o₁ a → Wrote o₁ a (lettered_by l (byte "p") procs_place e) o₂ b → TermsPut (from + 1) k o₂ b out' r → CallPut s funcs l params from out at out' r
    unfolding call_text
    call_put e k o₁ a o₂ b out' r ee small ek w₁ w₂ terms S Ps acts Γ c rest g parts right here =
        let number : e ≡ c.0 = ee ∙ call_number S Ps s acts params Γ [] c rest from parts right here in
        let count : k ≡ length (get_or Ps c.0 []) = params_count S Ps s acts params parts c.0 k (call_there S Ps s acts params Γ [] c rest from parts right here) (ek ∙ ap (λ (x : ℕ). get_or s (get_or params x 0) 0) number) in
        let t = terms S Γ (get_or Ps c.0 []) c.1 rest g.known g.short (call_sorts S Ps s acts params Γ [] c rest from parts right here) (call_length S Ps s acts params Γ [] c rest from parts right here ∙ sym count) g.letters (call_terms S Ps s acts params Γ [] c rest from parts right here) in
        let its : lettered_by l (byte "p") procs_place e ≡ proc_name S c.0 = proc_is S l g.letters e small ∙ ap (proc_name S) number in
        record { wrote = wrote_then room w₁ (λ h₁. wrote_then h₁ (wrote_by its w₂) (λ h₂. t.wrote)); left = t.left }

  -- CALLS ONE BEHIND ANOTHER: before the i-th of n, which begins at f

  unfoldable pub Calling : List ℕ → ℕ → ℕ → List ℕ → ℕ → List ℕ → ℕ → ℕ → ℕ → Type 0
  Calling params from n out at out' f p i =
      (S : Sig) (Ps : List (List ℕ)) (acts Γ : List ℕ) (cs : List (ℕ × List Data)) (rest : List ℕ) → Ground S s funcs Γ l → KnownParts S Ps s acts params → Every (RightCall S Ps Γ) cs → drop from s ≡ encode_list encode_call cs ++ rest
      → (n ≡ length cs) × ((drop f s ≡ all encode_call (drop i cs) ++ rest) × Upto out at (all (call_text S) cs) out' p (all (call_text S) (drop i cs)))

  module _ (params : List ℕ) (from n : ℕ) (out : List ℕ) (at : ℕ) where
    pub calling_none : at ≤ length out → n ≡ get_or s from 0 → Calling params from n out at out (from + 1) at 0
    unfolding Calling encode_list
    calling_none room en S Ps acts Γ cs rest g parts right here =
        let b = byte_at s from (length cs) (all encode_call cs ++ rest) here in
        (en ∙ b.0, (b.1, upto_start room refl))

    pub calling_more : (mid : List ℕ) (f p i : ℕ) (last : List ℕ) (r : TextPut) → i < n → CallPut s funcs l params f mid p last r → Calling params from n out at mid f p i → Calling params from n out at last r.from r.at (i + 1)
    unfolding Calling
    calling_more mid f p i last r h call old S Ps acts Γ cs rest g parts right here =
        let (en, (left, u)) = old S Ps acts Γ cs rest g parts right here in
        let below : i < length cs = omega arith in
        let c : ℕ × List Data = get_or cs i no_call in
        let more : List ℕ = all encode_call (drop (i + 1) cs) ++ rest in
        let t = call S Ps acts Γ c more g parts (every_at (RightCall S Ps Γ) cs no_call i right below) (left ∙ all_first encode_call cs i no_call rest below) in
        (en, (t.left, upto_more u (all_here (call_text S) cs i no_call below) t.wrote))

    pub calling_all : (out' : List ℕ) (r : TextPut) (i : ℕ) → n ≤ i → Calling params from n out at out' r.from r.at i → CallsPut s funcs l params from out at out' r
    unfolding Calling
    calling_all out' r i h old S Ps acts Γ cs rest g parts right here =
        let (en, (left, u)) = old S Ps acts Γ cs rest g parts right here in
        record {
          wrote = upto_all u (all_none (call_text S) cs i (omega arith));
          left = left ∙ ap (λ (x : List ℕ). x ++ rest) (all_none encode_call cs i (omega arith));
        }
