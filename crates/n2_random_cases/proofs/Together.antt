-- Both machines of one board, side by side.
use Rattle.std.proofs.Common.{◌≡◌, List, length, sym, ap, ◌∙◌, subst}
use Rattle.n2_elf.specs.declared.image.Image.{Image}
use Rattle.n2_parts.specs.declared.board.Board.{Board}
use Rattle.n2_board.specs.AddressMap.{AddressMap, address_map}
use Rattle.n2_bus.specs.Wiring.{Wiring, wiring_of}
use Rattle.n2_runs.specs.Machine.{start}
use Rattle.n2_runs.specs.Knows.{IsBookKept}
use Rattle.n2_smp.specs.Standing.{Parts, StandsFor}
use Rattle.n2_flat.specs.State.{State, IsWhole}
use Rattle.n2_driver.specs.Beside.{AreBeside}

-- both have the same cores
pub cores_both : (v : Parts) (map : AddressMap) (s : State) → AreBeside v map s → length s.cores ≡ length v.board.core
cores_both v map s h = h.whole.count ∙ ap (λ (b : Board). length b.core) h.board

-- the flat machine has the board's memories
pub memories_of : (v : Parts) (map : AddressMap) (s : State) (b : Board) → AreBeside v map s → v.board ≡ b → s.common.wiring.memories ≡ b.memory
memories_of v map s b h e = ap (λ (x : Wiring). x.memories) h.whole.wiring ∙ ap (λ (b : Board). (wiring_of b).memories) (h.board ∙ e)

-- before the first turn
pub opened : (b : Board) (images : List Image) (v : Parts) (map : AddressMap) (s : State) → s.board ≡ b → IsWhole map s → map ≡ address_map b images → v.board ≡ b → v.map ≡ address_map b images → StandsFor v (start b images) → IsBookKept b (address_map b images) (start b images) → AreBeside v map s
opened b images v map s flat_board whole is board same stands kept = record {
  board = flat_board ∙ sym board;
  map_is = is ∙ sym same;
  whole = whole;
  state = start b images;
  stands = (stands, subst (λ (x : Board). IsBookKept x v.map (start b images)) (sym board) (subst (λ (g : AddressMap). IsBookKept b g (start b images)) (sym same) kept));
}
