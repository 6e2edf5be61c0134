-- Where n variables are in scope and m processes there are: every variable is one in scope, every call is of a process that is there,
-- and each sum binds the next number, below 32. Of every resolved sheet with at most 16 open brackets and four parameters.
use Rattle.std.specs.Prelude.{◌≡◌, ℕ, suc, ◌<◌}
use Rattle.pcrl.specs.Tests.{Every}
use Rattle.pcrl.specs.Sheet.{Data, val, var, app, Datas, nil, cons, Proc, delta, atom, alt, cond, sum, seq, call}

-- variables are numbers below this
abbrev pub max_scope : ℕ
max_scope = 32

module _ (n : ℕ) where
  unfoldable mutual
    pub ScopedData : Data → Type 0
    ScopedData (val v) = Unit {0}
    ScopedData (var i) = i < n
    ScopedData (app f ds) = ScopedArguments ds

    pub ScopedArguments : Datas → Type 0
    ScopedArguments nil = Unit {0}
    ScopedArguments (cons d ds) = ScopedData d × ScopedArguments ds

unfoldable pub Scoped : ℕ → ℕ → Proc → Type 0
Scoped m n delta = Unit {0}
Scoped m n (atom a ds) = Every (ScopedData n) ds
Scoped m n (alt p q) = Scoped m n p × Scoped m n q
Scoped m n (cond c p q) = ScopedData n c × (Scoped m n p × Scoped m n q)
Scoped m n (sum x D p) = (x ≡ n) × ((n < max_scope) × Scoped m (suc n) p)
Scoped m n (seq p q) = Scoped m n p × Scoped m n q
Scoped m n (call k ds) = (k < m) × Every (ScopedData n) ds
