-- The machines agree at the start.
use Rattle.std.proofs.Common.{◌≡◌, ℕ, zero, suc, ◌/◌, List, [], ◌∷◌, length, map, get_or, slice_get, replicate, Option, Some, None, refl, ap, sym, ◌∙◌, arith, subst}
use Rattle.std.specs.Prelude.{option_map, unwrap_or}
use Rattle.std.specs.List.{AllByRecursion}
use Rattle.std.proofs.lemmas.List.{length-replicate}
use Rattle.n2_mailbox.specs.Mailbox as mailbox
use Rattle.n2_elf.specs.declared.image.Image.{Image}
use Rattle.n2_elf.specs.Reading.{IsSized}
use Rattle.n2_parts.specs.declared.board.Board.{Board}
use Rattle.n2_parts.specs.declared.board.CoreRow.{CoreRow}
use Rattle.n2_parts.specs.declared.board.MailboxRow.{MailboxRow}
use Rattle.n2_parts.specs.declared.board.RegionRow.{RegionRow}
use Rattle.n2_parts.specs.declared.board.RegionClass.{RegionClass}
use Rattle.n2_parts.specs.declared.board.RegionClass.TheVariants as classes
use Rattle.n2_parts.specs.Valid.{IsValid}
use Rattle.n2_parts.proofs.WholeLines.{whole_lines, few_lines}
use Rattle.n2_board.specs.AddressMap.{AddressMap}
use Rattle.n2_board.specs.Placement.{open_fault}
use Rattle.n2_board.specs.declared.guards.Holder.TheVariants.{ByMailbox}
use Rattle.n2_board.proofs.Fitting.{fitting_inside}
use Rattle.n2_dcache.specs.declared.Held.{Held}
use Rattle.n2_dcache.specs.Cache.{slot_at, opened}
use Rattle.n2_memory.specs.Memories.{Contents}
use Rattle.n2_memory.specs.Start as first
use Rattle.n2_memory.proofs.Starts.{start_full}
use Rattle.n2_memory.proofs.WordRanges.{start_memories}
use Rattle.n2_watch.specs.declared.past.Past.{Past}
use Rattle.n2_watch.specs.Book.{Book, start_book, first_holder, owned_by, sets_of}
use Rattle.n2_watch.proofs.KeptShapes.{start_shape}
use Rattle.n2_watch.specs.Kept.{IsPastKept, is_posted, IsPosted, IsKept}
use Rattle.n2_front.specs.Front.{Front}
use Rattle.n2_front.specs.Core.{Core, started_core}
use Rattle.n2_runs.specs.Machine.{started_cores, start}
use Rattle.n2_runs.specs.FlatRun.{started_fronts, flat_start}
use Rattle.n2_runs.specs.Agree.{fronts_of, pasts_of}
use Rattle.n2_runs.specs.Along.{IsOf, IsOwnWell, AreCodesWell, IsAlong}

-- ---- memory
start_of : (b : Board) (images : List Image) → IsValid b → open_fault b images ≡ None → AllByRecursion IsSized images → IsOf b.memory (first.start b.memory images)
start_of b images valid fits sized = record {
  rows_are = start_memories b.memory images;
  full = start_full b.memory images (whole_lines b valid) (few_lines b valid) (fitting_inside b images fits) sized;
}

-- ---- cores
pub same_fronts : (rows : List CoreRow) (images : List Image) → started_fronts rows images ≡ fronts_of (started_cores rows images)
same_fronts [] images = refl
same_fronts (row ∷ rows) [] = refl
same_fronts (row ∷ rows) (image ∷ images) = ap (λ (xs : List Front). (started_core row image).front ∷ xs) (same_fronts rows images)

pub as_many : (rows : List CoreRow) (images : List Image) → length images ≡ length rows → length (started_cores rows images) ≡ length rows
as_many [] images e = refl
as_many (row ∷ rows) [] e = absurd (omega arith)
as_many (row ∷ rows) (image ∷ images) e = ap suc (as_many rows images (omega arith))

-- what a core is at the start
record IsStarted (rows : List CoreRow) (k : ℕ) (c : Core) : Type 0 where
  row : CoreRow
  image : Image
  there : slice_get rows k ≡ Some row
  is : started_core row image ≡ c

started : (rows : List CoreRow) (images : List Image) (k : ℕ) (c : Core) → slice_get (started_cores rows images) k ≡ Some c → IsStarted rows k c
started [] images k c e = absurd (cc)
started (row ∷ rows) [] k c e = absurd (cc)
started (row ∷ rows) (image ∷ images) zero c e = record { row = row; image = image; there = refl; is = grind arith }
started (row ∷ rows) (image ∷ images) (suc k) c e = let s = started rows images k c e in record { row = s.row; image = s.image; there = s.there; is = s.is }

none_replicated : {X : Type 0} (n s : ℕ) → get_or (replicate {A = Option X} n None) s None ≡ None
none_replicated zero s = refl
none_replicated (suc n) zero = refl
none_replicated (suc n) (suc s) = none_replicated n s

none_held : (bytes s : ℕ) (e : Held) → slot_at (opened bytes) s ≡ Some e → ⊥
none_held bytes s e i = let z = none_replicated {X = Held} (bytes / 32) s in cc

own_started : (b : Board) (map' : AddressMap) (book : Book) (flat : Contents) (k : ℕ) (c : Core) → IsStarted b.core k c → IsOwnWell b map' (owned_by b book k) flat k (sets_of b k) c.data_slots c.front.past
own_started b map' book flat k c s =
    subst (λ (x : Core). IsOwnWell b map' (owned_by b book k) flat k (sets_of b k) x.data_slots x.front.past) s.is (record {
      sets_are = length-replicate (s.row.dcache / 32) None ∙ ap (λ (o : Option CoreRow). unwrap_or (option_map (λ (row : CoreRow). row.dcache / 32) o) 0) (sym s.there);
      held = λ t e i. absurd (none_held s.row.dcache t e i);
    })

codes_started : (b : Board) (map' : AddressMap) (flat : Contents) (k : ℕ) (c : Core) → IsStarted b.core k c → AreCodesWell b map' flat c.code_slots
codes_started b map' flat k c s = subst (λ (x : Core). AreCodesWell b map' flat x.code_slots) s.is (λ t e i. absurd (none_held s.row.icache t e i))

-- ---- the book
no_mailbox : (class : RegionClass) (i : ℕ) → first_holder class ≡ Some (ByMailbox i) → ⊥
no_mailbox classes.Code i e = cc
no_mailbox (classes.Private core) i e = cc
no_mailbox (classes.Mutex m) i e = cc
no_mailbox (classes.Passed holder mailboxes) i e = absurd (grind arith)
no_mailbox classes.Uncached i e = cc

none_posted : (rows : List RegionRow) (region i : ℕ) → get_or (map (λ (row : RegionRow). first_holder row.class) rows) region None ≡ Some (ByMailbox i) → ⊥
none_posted [] region i e = cc
none_posted (row ∷ rows) zero i e = no_mailbox row.class i e
none_posted (row ∷ rows) (suc region) i e = none_posted rows region i e

none_waits : (map' : AddressMap) (rows : List MailboxRow) (i region : ℕ) → is_posted map' (slice_get (map (λ row. mailbox.started) rows) i) region → ⊥
none_waits map' [] i region p = p
none_waits map' (row ∷ rows) zero region p = absurd (cc (p.0))
none_waits map' (row ∷ rows) (suc i) region p = none_waits map' rows i region p

posted_started : (b : Board) (map' : AddressMap) → IsPosted map' (start_book b)
posted_started b map' i region = (λ e. absurd (none_posted b.region region i e), λ p. absurd (none_waits map' b.mailbox i region p))

no_past : (rows : List CoreRow) (images : List Image) (k : ℕ) (past : List Past) → slice_get (pasts_of (started_fronts rows images)) k ≡ Some past → past ≡ []
no_past [] images k past e = absurd (cc)
no_past (row ∷ rows) [] k past e = absurd (cc)
no_past (row ∷ rows) (image ∷ images) zero past e = let z : ◌≡◌ {A = List Past} [] past = grind arith in sym z
no_past (row ∷ rows) (image ∷ images) (suc k) past e = no_past rows images k past e

empty_kept : (b : Board) (map' : AddressMap) (book : Book) (k : ℕ) → IsPastKept b map' book k []
empty_kept b map' book k = record { dirty_lines = λ l d. absurd (cc); touched = tt }

pub kept_started : (b : Board) (map' : AddressMap) (images : List Image) → IsKept b map' (start_book b) (pasts_of (started_fronts b.core images))
kept_started b map' images = record {
  cores = λ k past e. subst (λ (p : List Past). IsPastKept b map' (start_book b) k p) (sym (no_past b.core images k past e)) (empty_kept b map' (start_book b) k);
  posted = posted_started b map';
}

-- both machines at the start
pub starts_along : (b : Board) (images : List Image) (map' : AddressMap) → IsValid b → length images ≡ length b.core → open_fault b images ≡ None → AllByRecursion IsSized images → IsAlong b map' (first.start b.memory images) (start b images) (flat_start b images)
starts_along b images map' valid long fits sized = record {
  fronts = same_fronts b.core images;
  book_is = refl;
  count = as_many b.core images long;
  mem_of = start_of b images valid fits sized;
  flat_of = start_of b images valid fits sized;
  shape = start_shape b;
  memory = λ l i all. refl;
  cores = λ k c e. own_started b map' (start_book b) (first.start b.memory images) k c (started b.core images k c e);
  codes = λ k c e. codes_started b map' (first.start b.memory images) k c (started b.core images k c e);
  kept = kept_started b map' images;
  code_lines = λ l i e. refl;
}
