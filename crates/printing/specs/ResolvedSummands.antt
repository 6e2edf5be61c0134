-- A printed summand resolves to the linear summand of what it is retold as: each name becomes the number that it was made from.
use Rattle.std.specs.Prelude.{◌≡◌}
use Rattle.std.proofs.Math.Path.{refl, ap, subst}
use Rattle.std.proofs.Common.{sym, ◌∙◌}
use mathlib.Core.List.{List, [], ◌∷◌, ◌++◌, append-nil, append_assoc, map}
use Rattle.std.proofs.Math.Option.{some}
use Prim.Native.Nat.{ℕ, zero, suc, ◌+◌, ◌<◌, ◌≤◌}
use native.Mathlib.Omega.{arith}
use Rattle.std.proofs.Math.ListN.{length, length-append}
use Rattle.pcrl.specs.Limits.{max_numeral}
use Rattle.pcrl.specs.Tests.{Every}
use Rattle.pcrl.specs.Tree.{Name, Conditional, Sequence, Part}
use Rattle.pcrl.specs.Sheet.{Data, Act, tau, action, Proc, atom, Sig}
use Rattle.pcrl.specs.Names.{Names, new_variable, named, resolve_choice, resolve_conditional, resolve_sequence, resolve_part}
use Rattle.pcrl.specs.Table.{Summand, Table}
use Rattle.pcrl.specs.Printer.{side, wanting, var_name, raw_data, raw_act, raw_call, raw_sequence, raw_conditional, raw_sums, raw_summand}
use Rattle.laws.specs.Tests.{is_true}
use Rattle.printing.specs.Plain.{PlainAct, PlainTerm, PlainCond, PlainCall, PlainSummand, PlainTable}
use Rattle.printing.specs.Lookups.{length_in_turn, in_turn_snoc}
use Rattle.printing.specs.PrintedNames.{N, sort_found, act_found, proc_found, proc_no_act, variables, var_new}
use Rattle.printing.specs.Sided.{retold, retold_cond, retold_call, retold_summand}
use Rattle.printing.specs.Linear.{calls_behind, wants, conditions, sums, linear_summand}
use Rattle.printing.specs.ResolvedData.{data_becomes, terms_given}

module _ (U : Table) (plain : PlainTable U) where
  abbrev S : Sig
  S = U.sig

  abbrev names : Names
  names = N U plain

  -- where variables of the sorts Γ are in scope
  module _ (Γ : List ℕ) (few : length Γ ≤ max_numeral) where
    abbrev scope : List Name
    scope = variables U plain (length Γ)

    -- PARTS

    act_becomes : (a : Act) (ds : List Data) → PlainAct S a ds → Every (PlainTerm U Γ) ds → resolve_part names S scope Γ (raw_act S a ds) ≡ some (atom a (map retold ds))
    unfolding raw_act PlainAct resolve_choice named
    act_becomes tau ds h k = ap (λ (es : List Data). some (atom tau (map retold es))) (sym h)
    act_becomes (action a) ds h k = rw (terms_given U plain Γ few ds k, act_found U plain a h)

    call_becomes : (c : ℕ × List Data) → PlainCall U Γ c → resolve_part names S scope Γ (raw_call S c) ≡ some (Proc.call c.0 (map retold c.1))
    unfolding raw_call resolve_choice named
    call_becomes c h = rw (terms_given U plain Γ few c.1 h.1, proc_no_act U plain c.0, proc_found U plain c.0 h.0)

    sequence_becomes : (p : Part) (q : Proc) (cs : List (ℕ × List Data)) → resolve_part names S scope Γ p ≡ some q → Every (PlainCall U Γ) cs
        → resolve_sequence names S scope Γ (raw_sequence S p cs) ≡ some (calls_behind q (map retold_call cs))
    unfolding raw_sequence calls_behind resolve_choice Every
    sequence_becomes p q [] h k = h
    sequence_becomes p q (c ∷ cs) h k = rw (h, sequence_becomes (raw_call S c) (Proc.call c.0 (map retold c.1)) cs (call_becomes c k.0) k.1)

    side_becomes : (c : Conditional) → resolve_sequence names S scope Γ (side c) ≡ resolve_conditional names S scope Γ c
    unfolding side resolve_choice
    side_becomes (Conditional.plain p) = refl
    side_becomes (Conditional.cond p c q) = refl

    wanting_becomes : (w : ℕ) (c : Data) (p : Sequence) (q : Proc) → PlainTerm U Γ c → resolve_sequence names S scope Γ p ≡ some q
        → resolve_conditional names S scope Γ (wanting w (raw_data S c) p) ≡ some (wants w (retold c) q)
    unfolding wanting wants resolve_choice
    wanting_becomes zero c p q h k = rw (data_becomes U plain Γ few c h, k)
    wanting_becomes (suc w) c p q h k = rw (k, data_becomes U plain Γ few c h)

    conditional_becomes : (cs : List (ℕ × Data)) (p : Sequence) (q : Proc) → Every (PlainCond U Γ) cs
        → resolve_sequence names S scope Γ p ≡ some q → resolve_conditional names S scope Γ (raw_conditional S cs p) ≡ some (conditions (map retold_cond cs) q)
    unfolding raw_conditional conditions resolve_choice Every
    conditional_becomes [] p q h k = k
    conditional_becomes (c ∷ cs) p q h k =
        wanting_becomes c.0 c.1 (side (raw_conditional S cs p)) (conditions (map retold_cond cs) q) h.0.1 (side_becomes (raw_conditional S cs p) ∙ conditional_becomes cs p q h.1 k)

  -- SUMMANDS

  -- a conditional where n variables of the sorts Γ are in scope
  abbrev Reads : ℕ → List ℕ → Conditional → Proc → Type 0
  Reads n Γ c p = resolve_conditional names S (variables U plain n) Γ c ≡ some p

  sums_become : (n : ℕ) (Δ Ds : List ℕ) (c : Conditional) (q : Proc) → n + length Ds ≤ max_numeral → Every (λ D. D < length S.sorts) Ds
      → Reads (n + length Ds) (Δ ++ Ds) c q → Reads n Δ (raw_sums S n Ds c) (sums n Ds q)
  unfolding raw_sums sums resolve_choice Every
  sums_become n Δ [] c q l h k =
      let e : n + 0 ≡ n = omega arith in
      subst (λ (m : ℕ). Reads m Δ c q) e (subst (λ (Γ : List ℕ). Reads (n + 0) Γ c q) (append-nil Δ) k)
  sums_become n Δ (D ∷ Ds) c q l h k =
      let e : n + suc (length Ds) ≡ suc n + length Ds = omega arith in
      let more =
      sums_become (suc n) (Δ ++ (D ∷ [])) Ds c q (omega arith) h.1
      (subst (λ (m : ℕ). Reads m ((Δ ++ (D ∷ [])) ++ Ds) c q) e (subst (λ (Γ : List ℕ). Reads (n + suc (length Ds)) Γ c q) (sym (append_assoc Δ (D ∷ []) Ds)) k)) in
      rw (
        is_true (new_variable names (variables U plain n) (var_name S n)) (var_new U plain n (omega arith)),
        sort_found U plain D h.0,
        in_turn_snoc (var_name S) 0 n n (omega arith),
        more,
        length_in_turn (var_name S) 0 n,
      )

  -- A PRINTED SUMMAND RESOLVES.
  pub summand_becomes : (Δ : List ℕ) (h : Summand) → PlainSummand U Δ h → Reads (length Δ) Δ (raw_summand S (length Δ) h) (linear_summand (length Δ) (retold_summand h))
  unfolding raw_summand linear_summand retold_summand
  summand_becomes Δ h p =
      let Γ = Δ ++ h.vars in
      let few = p.few in
      let n : length Γ ≡ length Δ + length h.vars = length-append Δ h.vars in
      let l : length Γ ≤ max_numeral = omega arith in
      let q = conditions (map retold_cond h.conds) (calls_behind (atom h.act (map retold h.terms)) (map retold_call h.calls)) in
      let c = raw_conditional S h.conds (raw_sequence S (raw_act S h.act h.terms) h.calls) in
      let inside : Reads (length Γ) Γ c q =
      conditional_becomes Γ l h.conds _ _ p.conds
      (sequence_becomes Γ l (raw_act S h.act h.terms) (atom h.act (map retold h.terms)) h.calls (act_becomes Γ l h.act h.terms p.act p.terms) p.calls) in
      sums_become (length Δ) Δ h.vars c q (omega arith) p.vars (subst (λ (m : ℕ). Reads m Γ c q) n inside)
