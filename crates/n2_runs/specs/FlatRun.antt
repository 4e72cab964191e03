-- The flat machine: one memory without caches, the book, and for each core its front.
use Rattle.std.specs.Prelude.{ℕ, List, [], ◌∷◌, length, slice_get, slice_set, Option, Some, None}
use Rattle.n2_elf.specs.declared.image.Image.{Image}
use Rattle.n2_parts.specs.declared.board.Board.{Board}
use Rattle.n2_parts.specs.declared.board.CoreRow.{CoreRow}
use Rattle.n2_parts.specs.declared.stops.Stop.{Stop}
use Rattle.n2_parts.specs.declared.stops.Act.{Act}
use Rattle.n2_parts.specs.declared.stops.Act.TheVariants.{Retire, Sample, Device}
use Rattle.n2_board.specs.AddressMap.{AddressMap}
use Rattle.n2_bus.specs.declared.request.Request.TheVariants as requests
use Rattle.n2_watch.specs.World.{World, start_world, transferred}
use Rattle.n2_front.specs.Front.{Front, started_front, sampled}
use Rattle.n2_front.specs.Retire.{Acted, acted, retired}
use Rattle.n2_bus.specs.Transfer.{request_for}

pub record Flat : Type 0 where
  pub world : World
  pub cores : List Front

-- ---- the start

abbrev pub started_fronts : List CoreRow → List Image → List Front
started_fronts [] images = []
started_fronts (row ∷ rows) [] = []
started_fronts (row ∷ rows) (image ∷ images) = started_front row image ∷ started_fronts rows images

abbrev pub flat_start : Board → List Image → Flat
flat_start b images = record { world = start_world b images; cores = started_fronts b.core images }

-- ---- one act

abbrev pub with_core : Flat → ℕ → Acted → Flat
with_core m k a = record { world = a.world; cores = slice_set m.cores k a.front }

-- a core that stopped changes nothing
abbrev pub unless_stopped : Flat → ℕ → Option Stop → Acted → Flat
unless_stopped m k None a = with_core m k a
unless_stopped m k (Some stop) a = m

abbrev pub retires : Board → AddressMap → Flat → ℕ → Option Front → Flat
retires b map m k None = m
retires b map m k (Some f) = unless_stopped m k f.stop (retired b map k f m.world)

-- a core latches its interrupt lines
abbrev pub sampled_by : Board → AddressMap → ℕ → Front → World → Acted
sampled_by b map k f w = acted (sampled f (transferred b map k w requests.Sample).reply.lines) (transferred b map k w requests.Sample).world

abbrev pub samples : Board → AddressMap → Flat → ℕ → Option Front → Flat
samples b map m k None = m
samples b map m k (Some f) = unless_stopped m k f.stop (sampled_by b map k f m.world)

unfoldable pub act : Board → AddressMap → Flat → Act → Flat
act b map m (Retire k) = retires b map m k (slice_get m.cores k)
act b map m (Sample k) = samples b map m k (slice_get m.cores k)
act b map m (Device event) = record { world = (transferred b map (length b.core) m.world (request_for event)).world; cores = m.cores }

-- acts, one after another
unfoldable pub flat : Board → AddressMap → Flat → List Act → Flat
flat b map m [] = m
flat b map m (made ∷ acts) = flat b map (act b map m made) acts
