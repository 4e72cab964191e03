-- A bus that stands for what is shared on a board.
use Rattle.std.proofs.Common.{◌≡◌, ℕ, List, refl, ap, ◌∙◌}
use Rattle.n2_elf.specs.declared.image.Image.{Image}
use Rattle.n2_parts.specs.declared.board.Board.{Board}
use Rattle.n2_bus.specs.declared.request.Request.{Request}
use Rattle.n2_bus.specs.Wiring.{Wiring, wiring_of, proper}
use Rattle.n2_bus.specs.Transfer.{Shared, BusState, Served, served, bus_after, StandsFor}
use Rattle.n2_bus.specs.Opened.{opened, shared_at_start}

pub start_stands : (b : Board) (images : List Image) → StandsFor b (opened b images) (shared_at_start b images)
start_stands b images = record { wiring = refl; memory = refl; devices = refl }

same_shared : (s t : Shared) → s.memory ≡ t.memory → s.devices ≡ t.devices → s ≡ t
same_shared s t memory devices = ap (λ m. record { memory = m; devices = s.devices }) memory ∙ ap (λ d. record { memory = t.memory; devices = d }) devices

same_served : (b : Board) (bus : BusState) (shared : Shared) (actor : ℕ) (request : Request) → StandsFor b bus shared → served bus.wiring actor bus.shared request ≡ served (wiring_of b) actor shared request
same_served b bus shared actor request stands =
    ap (λ (w : Wiring). served w actor bus.shared request) stands.wiring
    ∙ ap (λ (s : Shared). served (wiring_of b) actor s request) (same_shared bus.shared shared stands.memory stands.devices)

pub next_stands : (b : Board) (bus : BusState) (shared : Shared) (actor : ℕ) (request : Request) → StandsFor b bus shared → StandsFor b (bus_after bus actor request) (served (wiring_of b) actor shared request).shared
next_stands b bus shared actor request stands =
    let same = same_served b bus shared actor request stands in
    record { wiring = stands.wiring; memory = ap (λ (s : Served). s.shared.memory) same; devices = ap (λ (s : Served). s.shared.devices) same }

pub same_reply : (b : Board) (bus : BusState) (shared : Shared) (actor : ℕ) (request : Request) → StandsFor b bus shared → (served bus.wiring actor bus.shared request).reply ≡ (served (wiring_of b) actor shared request).reply
same_reply b bus shared actor request stands = ap (λ (s : Served). s.reply) (same_served b bus shared actor request stands)

pub same_proper : (b : Board) (bus : BusState) (shared : Shared) (actor : ℕ) (request : Request) → StandsFor b bus shared → proper bus.wiring actor request ≡ proper (wiring_of b) actor request
same_proper b bus shared actor request stands = ap (λ (w : Wiring). proper w actor request) stands.wiring
