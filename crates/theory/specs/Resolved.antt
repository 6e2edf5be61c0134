-- What a resolved sheet has from its raw sheet, line by line: `resolve` taken apart, and numbers below the number of names.
use Rattle.std.specs.Prelude.{◌≡◌, refl, T}
use Rattle.std.proofs.Math.Path.{subst}
use mathlib.Core.List.{List, [], ◌∷◌, ◌++◌}
use Rattle.std.proofs.Math.Option.{some}
use Prim.Native.Nat.{ℕ, ◌+◌, ◌<◌}
use Rattle.std.proofs.Common.{arith}
use Rattle.std.proofs.Math.ListN.{length, length-append}
use Rattle.pcrl.specs.Tests.{distinct, Every, Each}
use Rattle.pcrl.specs.Tree.{Name, FuncLine, ActLine, ProcLine, RawSheet}
use Rattle.pcrl.specs.Sheet.{Func, Action, Sig, Process, Sheet}
use Rattle.pcrl.specs.Maybe.{for_each}
use Rattle.pcrl.specs.Names.{Names, names_of, number_of, declared, new_variable, sorts_of, resolve_func, resolve_act, resolve_params, resolve_proc, resolve_init, sizes_of, resolve_terms, resolve}
use Rattle.laws.specs.Optional.{first_given, test_passed, each_given}
use Rattle.laws.specs.Numbers.{number_below, sorts_declared}

-- The lines of a sheet H that was resolved from R.
pub record Resolved (R : RawSheet) (H : Sheet) : Type 0 where
  pub new_names : T (distinct (declared (names_of R)))
  pub sizes : H.sig.sorts ≡ sizes_of R
  pub sort_names : H.sig.sort_names ≡ (names_of R).sorts
  pub funcs : Each (λ (l : FuncLine) (g : Func). resolve_func (names_of R) l ≡ some g) R.funcs H.sig.funcs
  pub acts : Each (λ (l : ActLine) (a : Action). resolve_act (names_of R) l ≡ some a) R.acts H.sig.acts
  pub procs : Each (λ (l : ProcLine) (p : Process). resolve_proc (names_of R) H.sig l ≡ some p) R.procs H.procs
  pub start : resolve_init (names_of R) H.sig R.start ≡ some H.start

-- A resolved sheet is resolved line by line.
pub resolved_lines : (R : RawSheet) (H : Sheet) → resolve R ≡ some H → Resolved R H
unfolding resolve resolve_terms
resolved_lines R H e =
    let (t, e₁) = test_passed (distinct (declared (names_of R))) _ H e in
    first_given (for_each (resolve_func (names_of R)) R.funcs) _ H e₁ (λ fs h₂ e₂.
    first_given (for_each (resolve_act (names_of R)) R.acts) _ H e₂ (λ acts h₃ e₃.
    let S : Sig = record { sorts = sizes_of R; sort_names = (names_of R).sorts; funcs = fs; acts = acts } in
    first_given (for_each (resolve_proc (names_of R) S) R.procs) _ H e₃ (λ ps h₄ e₄.
    first_given (resolve_init (names_of R) S R.start) _ H e₄ (λ s h₅ e₅.
    let K : Sheet = record { sig = S; procs = ps; start = s } in
    let z : K ≡ H = cc in
    subst (Resolved R) z (record {
      new_names = t;
      sizes = refl;
      sort_names = refl;
      funcs = each_given (resolve_func (names_of R)) R.funcs fs h₂;
      acts = each_given (resolve_act (names_of R)) R.acts acts h₃;
      procs = each_given (resolve_proc (names_of R) S) R.procs ps h₄;
      start = h₅;
    })))))

module _ (N : Names) where
  abbrev pub Declared : List ℕ → Type 0
  Declared Ds = Every (λ D. D < length N.sorts) Ds

  -- what a function line becomes
  pub record FuncFrom (l : FuncLine) (g : Func) : Type 0 where
    pub arity : length l.takes ≡ length g.takes
    pub takes : Declared g.takes
    pub gives : g.gives < length N.sorts

  pub func_from : (l : FuncLine) (g : Func) → resolve_func N l ≡ some g → FuncFrom l g
  unfolding resolve_func
  func_from l g e =
      first_given (sorts_of N l.takes) _ g e (λ Ds h₁ e₁.
      first_given (number_of l.gives N.sorts) _ g e₁ (λ D h₂ e₂.
      let K : Func = record { takes = Ds; gives = D; values = l.values } in
      let z : K ≡ g = cc in
      let (a, b) = sorts_declared N l.takes Ds h₁ in
      subst (FuncFrom l) z (record { arity = a; takes = b; gives = number_below l.gives N.sorts D h₂ })))

  pub record ActionFrom (l : ActLine) (a : Action) : Type 0 where
    pub name : l.name ≡ a.name
    pub arity : length l.takes ≡ length a.takes
    pub takes : Declared a.takes

  pub action_from : (l : ActLine) (a : Action) → resolve_act N l ≡ some a → ActionFrom l a
  unfolding resolve_act
  action_from l a e =
      first_given (sorts_of N l.takes) _ a e (λ Ds h₁ e₁.
      let K : Action = record { name = l.name; takes = Ds } in
      let z : K ≡ a = cc in
      let (b, c) = sorts_declared N l.takes Ds h₁ in
      subst (ActionFrom l) z (record { name = refl; arity = b; takes = c }))

  -- Parameters: as many sorts as are written, all of them there, and as many names more in scope.
  pub record ParamsFrom (scope : List Name) (ps : List (Name × Name)) (r : List Name × List ℕ) : Type 0 where
    pub in_scope : length r.0 ≡ length scope + length r.1
    pub arity : length ps ≡ length r.1
    pub sorts : Declared r.1

  pub params_from : (ps : List (Name × Name)) (scope : List Name) (r : List Name × List ℕ) → resolve_params N scope ps ≡ some r → ParamsFrom scope ps r
  unfolding resolve_params Every
  params_from [] scope r e =
      let K : List Name × List ℕ = (scope, []) in
      let z : K ≡ r = cc in
      subst (ParamsFrom scope []) z (record { in_scope = omega arith; arity = refl; sorts = tt })
  params_from (p ∷ ps) scope r e =
      let (t, e₁) = test_passed (new_variable N scope p.0) _ r e in
      first_given (number_of p.1 N.sorts) _ r e₁ (λ D h₂ e₂.
      first_given (resolve_params N (scope ++ (p.0 ∷ [])) ps) _ r e₂ (λ q h₃ e₃.
      let K : List Name × List ℕ = (q.0, D ∷ q.1) in
      let z : K ≡ r = cc in
      let h = params_from ps (scope ++ (p.0 ∷ [])) q h₃ in
      let n : length (scope ++ (p.0 ∷ [])) ≡ length scope + 1 = length-append scope (p.0 ∷ []) in
      let a = h.in_scope in
      let b = h.arity in
      subst (ParamsFrom scope (p ∷ ps)) z (record { in_scope = omega arith; arity = omega arith; sorts = (number_below p.1 N.sorts D h₂, h.sorts) })))
