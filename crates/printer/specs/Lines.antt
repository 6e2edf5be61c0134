-- What the writers of lines write, by the names of sorts and how many times each letter is repeated.
use Rattle.std.specs.Prelude.{List, ◌++◌, ℕ}
use Rattle.pcrl.specs.Text.{bytes, byte}
use Rattle.pcrl.specs.Printer.{numbered}
use Rattle.rendering.specs.Texts.{bracketed_text}
use Rattle.lettering.specs.Named.{procs_place, vars_place, lettered_by, sort_by}

abbrev pub param_by : List ℕ → ℕ → ℕ → List ℕ
param_by l i D = lettered_by l (byte "v") vars_place i ++ (bytes ":" ++ sort_by l D)

-- a process's line up to its right side
abbrev pub proc_head_by : List ℕ → ℕ → List ℕ → List ℕ
proc_head_by l e Ds = bytes "proc " ++ (lettered_by l (byte "p") procs_place e ++ (bracketed_text (numbered (param_by l) 0 Ds) ++ bytes "="))
