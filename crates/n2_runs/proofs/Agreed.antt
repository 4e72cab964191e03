-- What holds of the machines along a run is that they agree.
use Rattle.std.proofs.Common.{◌≡◌, ℕ, ◌%◌, ◌&&◌, length, ap, sym, ◌∙◌, [], ◌∷◌, cond, None, Bool, true, false, List, refl}
use Rattle.n2_parts.specs.declared.board.Board.{Board}
use Rattle.n2_board.specs.AddressMap.{AddressMap, class_of}
use Rattle.n2_board.specs.Guards.{guard_of}
use Rattle.n2_watch.specs.declared.past.Past.{Past}
use Rattle.n2_watch.specs.declared.past.Past.TheVariants.{Touch, Clean, Got, Gave}
use Rattle.n2_watch.specs.Past.{stale, covers}
use Rattle.n2_dcache.specs.Cache.{slot_at, own_set, is_line, is_dirty}
use Rattle.n2_dcache.proofs.Maps.{held_line_is}
use Rattle.n2_memory.specs.Memories.{Contents}
use Rattle.n2_watch.specs.Book.{Book, owned_by, sets_of}
use Rattle.n2_front.specs.Core.{Core}
use Rattle.n2_runs.specs.Machine.{Machine}
use Rattle.n2_runs.specs.FlatRun.{Flat}
use Rattle.n2_runs.specs.Agree.{holds_dirty, IsCoreWell, Agree}
use Rattle.n2_runs.specs.Along.{dirty_at, IsOwnWell, AreCodesWell, IsAlong}

same_dirty : (sets : ℕ) (c : Core) (l : ℕ) → length c.data_slots ≡ sets → holds_dirty c l ≡ dirty_at sets c.data_slots l
unfolding dirty_at
same_dirty sets c l e = ap (λ n. is_line (slot_at c.data_slots (l % n)) l && is_dirty (slot_at c.data_slots (l % n))) e

-- a line without a guard is never stale
unguarded_fresh : (map' : AddressMap) (sets l : ℕ) → guard_of (class_of map' l) ≡ None → (past : List Past) → stale map' sets past l ≡ false
unguarded_fresh map' sets l n [] = refl
unguarded_fresh map' sets l n (Touch touched store ∷ past) = unguarded_fresh map' sets l n past
unguarded_fresh map' sets l n (Clean op address ∷ past) = either (covers sets op address l) (stale map' sets past l) (unguarded_fresh map' sets l n past)
  where
    either : (x y : Bool) → y ≡ false → cond x false y ≡ false
    either true y e = refl
    either false y e = e
unguarded_fresh map' sets l n (Got guard ∷ past) = rw n (unguarded_fresh map' sets l n past)
unguarded_fresh map' sets l n (Gave guard ∷ past) = unguarded_fresh map' sets l n past

core_well : (b : Board) (map' : AddressMap) (book : Book) (flat : Contents) (k : ℕ) (c : Core) → IsOwnWell b map' (owned_by b book k) flat k (sets_of b k) c.data_slots c.front.past → AreCodesWell b map' flat c.code_slots → IsCoreWell b map' book flat k c
core_well b map' book flat k c h hc = record {
  sets = h.sets_are;
  held = λ l e i. let w = h.held (own_set c.data_slots l) e (held_line_is c.data_slots l e i).0 in record { inside = w.inside; words = w.words; unguarded_words = λ r n. w.words r (unguarded_fresh map' (sets_of b k) e.line n c.front.past); may_be = w.may_be; dirty_is = w.dirty_is };
  code = λ l e i. let w = hc (own_set c.code_slots l) e (held_line_is c.code_slots l e i).0 in record { class = w.class; words = w.words; clean = w.clean };
}

pub agreed : (b : Board) (map' : AddressMap) (first : Contents) (m : Machine) (f : Flat) → IsAlong b map' first m f → Agree b map' first m f
agreed b map' first m f h = record {
  fronts = h.fronts;
  book = h.book_is;
  memory = λ l here all. h.memory l here (λ j c e. sym (same_dirty (sets_of b j) c l (h.cores j c e).sets_are) ∙ all j c e);
  cores = λ k c e. core_well b map' m.world.book f.world.memory k c (h.cores k c e) (h.codes k c e);
  kept = h.kept;
  code_lines = h.code_lines;
}
