-- The two machines of what was asked, after the turns of some actors.
use Rattle.std.specs.Prelude.{ℕ, List}
use Rattle.n2_runs.specs.Machine.{Machine, start, run, acts}
use Rattle.n2_runs.specs.FlatRun.{Flat, flat_start, flat}
use Rattle.n2_inputs.specs.declared.inputs.Inputs.{Inputs}

-- the machine with caches
abbrev pub caching : Inputs → List ℕ → Machine
caching inputs order = run inputs.board inputs.layout (start inputs.board inputs.images) order

-- one flat memory without caches, after the acts of these turns
abbrev pub without_caches : Inputs → List ℕ → Flat
without_caches inputs order =
    flat inputs.board inputs.layout (flat_start inputs.board inputs.images) (acts inputs.board inputs.layout (start inputs.board inputs.images) order)
