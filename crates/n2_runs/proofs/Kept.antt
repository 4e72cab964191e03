-- What the book and the past events keep by themselves, as turns need it.
use Rattle.std.proofs.Common.{◌≡◌, ℕ, ◌<◌, true, false, List, length, slice_get, slice_set, Some, None, refl}
use Rattle.n2_word.specs.declared.Width.{Width}
use Rattle.n2_word.specs.Lines.{without_bypass}
use Rattle.n2_elf.specs.declared.image.Image.{Image}
use Rattle.n2_parts.specs.declared.board.Board.{Board}
use Rattle.n2_parts.specs.declared.board.DeviceEvent.{DeviceEvent}
use Rattle.n2_parts.specs.declared.board.DeviceEvent.TheVariants as events
use Rattle.n2_parts.specs.Valid.{IsValid}
use Rattle.n2_board.specs.AddressMap.{AddressMap, address_map}
use Rattle.n2_bus.specs.declared.request.Request.{Request}
use Rattle.n2_bus.specs.declared.request.Request.TheVariants.{Read, Write, Sample, Tick, Receive, Drain}
use Rattle.n2_watch.specs.declared.past.Past.{Past}
use Rattle.n2_watch.specs.declared.access.Access.TheVariants.{Bypass}
use Rattle.n2_watch.specs.Discipline.{breach}
use Rattle.n2_watch.specs.Book.{knowledge, guards_touched}
use Rattle.n2_watch.specs.World.{World, transferred}
use Rattle.n2_watch.specs.Kept.{IsPosted, IsKept}
use Rattle.n2_watch.specs.Shapes.{HasBoardShape}
use Rattle.n2_watch.proofs.KeptDevices.{IsExchange}
use Rattle.n2_watch.proofs.KeptTransfers as transfers
use Rattle.n2_watch.proofs.KeptSteps.{request_kept}
use Rattle.n2_watch.proofs.KeptShapes as shapes
use Rattle.n2_front.specs.Front.{Front}
use Rattle.n2_front.specs.Retire.{retired}
use Rattle.n2_bus.specs.Transfer.{request_for}
use Rattle.n2_front.proofs.KeptActs as kept_acts

module _ (b : Board) (images : List Image) (map : AddressMap) (valid : IsValid b) (is : map ≡ address_map b images) where
  pub put_exchange : (k : ℕ) → k < length b.core → (w : World) (past : List Past) → HasBoardShape b w.book → IsPosted map w.book → (address value : ℕ) (width : Width) → breach b map (knowledge b w.book k past) (Bypass address true value) width ≡ None → IsExchange b map k w.book (transferred b map k w (Write (without_bypass address) width value)).world.book past (guards_touched map w.book (Write (without_bypass address) width value) (transferred b map k w (Write (without_bypass address) width value)).reply)
  put_exchange k lt w past shape posts address value width e = transfers.put_exchange b valid map k lt w past shape posts images is address value width e

  pub got_exchange : (k : ℕ) → k < length b.core → (w : World) (past : List Past) → HasBoardShape b w.book → IsPosted map w.book → (address : ℕ) (width : Width) → breach b map (knowledge b w.book k past) (Bypass address false 0) width ≡ None → IsExchange b map k w.book (transferred b map k w (Read (without_bypass address) width)).world.book past (guards_touched map w.book (Read (without_bypass address) width) (transferred b map k w (Read (without_bypass address) width)).reply)
  got_exchange k lt w past shape posts address width e = transfers.got_exchange b valid map k lt w past shape posts images is address width e

  -- an act of a core
  pub retired_kept : (k : ℕ) → k < length b.core → (f : Front) (w : World) (pasts : List (List Past)) → length pasts ≡ length b.core → slice_get pasts k ≡ Some f.past → HasBoardShape b w.book → IsKept b map w.book pasts → IsKept b map (retired b map k f w).world.book (slice_set pasts k (retired b map k f w).front.past)
  retired_kept k lt f w pasts count there shape kept = kept_acts.retired_kept b images map k f w pasts valid is shape count there kept

  -- a core's interrupt lines, and an event
  pub sampled_kept : (k : ℕ) → k < length b.core → (w : World) (pasts : List (List Past)) → HasBoardShape b w.book → IsKept b map w.book pasts → IsKept b map (transferred b map k w Sample).world.book pasts
  sampled_kept k lt w pasts shape kept = request_kept b map k w pasts Sample refl kept

  pub event_kept : (event : DeviceEvent) (w : World) (pasts : List (List Past)) → HasBoardShape b w.book → IsKept b map w.book pasts → IsKept b map (transferred b map (length b.core) w (request_for event)).world.book pasts
  event_kept (events.Tick n) w pasts shape kept = request_kept b map (length b.core) w pasts (Tick n) refl kept
  event_kept (events.Receive uart) w pasts shape kept = request_kept b map (length b.core) w pasts (Receive uart) refl kept
  event_kept (events.Drain uart) w pasts shape kept = request_kept b map (length b.core) w pasts (Drain uart) refl kept

  -- the shape of the book
  pub shape_kept : (actor : ℕ) (request : Request) (w : World) → HasBoardShape b w.book → HasBoardShape b (transferred b map actor w request).world.book
  shape_kept actor request w shape = shapes.shape_kept b map actor w request shape
