-- What each kind of access keeps of the book and of all past events.
use Rattle.std.proofs.Common.{◌≡◌, ℕ, List, ◌∷◌, length, Bool, false, Some, None, slice_get, slice_set, refl}
use Rattle.n2_word.specs.declared.Width.{Width}
use Rattle.n2_word.specs.Lines.{line}
use Rattle.n2_insn.specs.declared.DataOp.{DataOp}
use Rattle.n2_elf.specs.declared.image.Image.{Image}
use Rattle.n2_parts.specs.declared.board.Board.{Board}
use Rattle.n2_parts.specs.MemoryLines.{HasLine}
use Rattle.n2_parts.specs.Valid.{IsValid}
use Rattle.n2_board.specs.AddressMap.{AddressMap, address_map}
use Rattle.n2_board.specs.declared.access.Route.TheVariants as routes
use Rattle.n2_board.proofs.Reached.{data_line}
use Rattle.n2_bus.specs.declared.request.Request.{Request}
use Rattle.n2_watch.specs.declared.access.Access.TheVariants.{Cached}
use Rattle.n2_watch.specs.declared.past.Past.{Past}
use Rattle.n2_watch.specs.declared.past.Past.TheVariants.{Touch, Clean}
use Rattle.n2_watch.specs.Discipline.{breach, direction}
use Rattle.n2_watch.specs.Book.{Book, knowledge, guards_touched}
use Rattle.n2_watch.specs.World.{World, transferred}
use Rattle.n2_watch.specs.Kept.{IsKept, IsPastKept}
use Rattle.n2_watch.specs.Shapes.{BypassAccess, IsLetPast, request_of, accessed, past_accessed, is_access}
use Rattle.n2_watch.proofs.KeptDevices.{owned_like, posted_like}
use Rattle.n2_watch.proofs.KeptPast.{passes, touched_kept, cleaned_kept, kept_by, all_kept, same_owner}
use Rattle.n2_watch.proofs.KeptTransfers.{exchange, other_request}

-- where the book stays
noted_step : (b : Board) (map : AddressMap) (book : Book) (pasts : List (List Past)) (k : ℕ) (past new : List Past) → length pasts ≡ length b.core → slice_get pasts k ≡ Some past → IsPastKept b map book k new → IsKept b map book pasts → IsKept b map book (slice_set pasts k new)
noted_step b map book pasts k past new lengths found mine h = kept_by b map book book pasts k past new h lengths found mine (λ j guard lt n. refl) h.posted

pub touch_step : (b : Board) (map : AddressMap) (book : Book) (pasts : List (List Past)) (k : ℕ) (past : List Past) (address : ℕ) (store : Bool) (width : Width) → length pasts ≡ length b.core → slice_get pasts k ≡ Some past → breach b map (knowledge b book k past) (Cached address store) width ≡ None → IsKept b map book pasts → IsKept b map book (slice_set pasts k (Touch (line address) store ∷ past))
touch_step b map book pasts k past address store width lengths found br h =
    noted_step b map book pasts k past (Touch (line address) store ∷ past) lengths found (touched_kept b map book k past (h.cores k past found) address width store (passes b map (knowledge b book k past) address width store br)) h

pub touch_memory : (b : Board) (images : List Image) (map : AddressMap) (book : Book) (k : ℕ) (past : List Past) (address : ℕ) (store : Bool) (width : Width) → IsValid b → map ≡ address_map b images → breach b map (knowledge b book k past) (Cached address store) width ≡ None → HasLine b.memory (line address)
touch_memory b images map book k past address store width valid is br =
    data_line b images valid k address width routes.Cached (direction store) (rw is at ((passes b map (knowledge b book k past) address width store br).memory))

pub clean_step : (b : Board) (map : AddressMap) (book : Book) (pasts : List (List Past)) (k : ℕ) (past : List Past) (op : DataOp) (address : ℕ) → length pasts ≡ length b.core → slice_get pasts k ≡ Some past → IsKept b map book pasts → IsKept b map book (slice_set pasts k (Clean op address ∷ past))
clean_step b map book pasts k past op address lengths found h =
    noted_step b map book pasts k past (Clean op address ∷ past) lengths found (cleaned_kept b map book k past (h.cores k past found) op address) h

pub access_step : (b : Board) (images : List Image) (map : AddressMap) (k : ℕ) (w : World) (pasts : List (List Past)) (past : List Past) (access : BypassAccess) → IsLetPast b images map k w past access → length pasts ≡ length b.core → slice_get pasts k ≡ Some past → IsKept b map w.book pasts → IsKept b map (accessed b map k w access).world.book (slice_set pasts k (past_accessed b map k w past access))
access_step b images map k w pasts past access let_past lengths found h =
    let x = exchange b images map k w past access let_past in
    kept_by b map w.book (accessed b map k w access).world.book pasts k past (past_accessed b map k w past access) h lengths found
    (all_kept b map k w.book (accessed b map k w access).world.book past (h.cores k past found) (guards_touched map w.book (request_of access) (accessed b map k w access).reply) x)
    x.others x.posts

pub request_kept : (b : Board) (map : AddressMap) (actor : ℕ) (w : World) (pasts : List (List Past)) (request : Request) → is_access request ≡ false → IsKept b map w.book pasts → IsKept b map (transferred b map actor w request).world.book pasts
request_kept b map actor w pasts request e h =
    let x = other_request b map actor w request e in
    record {
      cores = λ core past found. same_owner b map w.book (transferred b map actor w request).world.book core past (owned_like b w.book (transferred b map actor w request).world.book core x.mutexes x.holders) (h.cores core past found);
      posted = posted_like map w.book (transferred b map actor w request).world.book x.mailboxes x.holders h.posted;
    }
