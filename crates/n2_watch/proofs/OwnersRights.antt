-- Who may write a line, and who may not touch it.
use Rattle.std.proofs.Common.{◌≡◌, ℕ, ◌<◌, ◌⊎◌, inl, inr, Bool, true, IsTrue, List, length, Some, None, slice_get, sym, ap, ◌∙◌, arith}
use Rattle.std.proofs.lemmas.Bool.{false≢true, eqb-true}
use Rattle.std.proofs.lemmas.Option.{slice_get_within}
use Rattle.n2_word.specs.declared.Width.{Width}
use Rattle.n2_word.specs.Lines.{line}
use Rattle.n2_parts.specs.declared.board.Board.{Board}
use Rattle.n2_parts.specs.Valid.{IsValid}
use Rattle.n2_board.specs.declared.classes.Class.{Class}
use Rattle.n2_board.specs.declared.classes.Class.TheVariants as classes
use Rattle.n2_board.specs.declared.guards.Guard.TheVariants.{Mutex, Passed}
use Rattle.n2_board.specs.AddressMap.{AddressMap, class_of}
use Rattle.n2_watch.specs.declared.past.Past.{Past}
use Rattle.n2_watch.specs.declared.access.Access.TheVariants.{Cached}
use Rattle.n2_watch.specs.Past.{dirty}
use Rattle.n2_watch.specs.Discipline.{breach}
use Rattle.n2_watch.specs.Book.{Book, owned_by, sets_of, knowledge}
use Rattle.n2_watch.specs.Kept.{may_write, IsKept}
use Rattle.n2_watch.proofs.Owners.{one_owner}
use Rattle.n2_watch.proofs.KeptPast.{passes}

module _ (b : Board) (valid : IsValid b) (book : Book) (j k : ℕ) (jlt : j < length b.core) (klt : k < length b.core) where
  pub one_writer : (class : Class) → may_write class j (owned_by b book j) ≡ true → may_write class k (owned_by b book k) ≡ true → j ≡ k
  one_writer classes.Code p q = absurd (false≢true p)
  one_writer (classes.Private owner) p q = sym (eqb-true owner j p) ∙ eqb-true owner k q
  one_writer (classes.Mutex mutex) p q = one_owner b valid book (Mutex mutex) j k jlt klt p q
  one_writer (classes.Passed region) p q = one_owner b valid book (Passed region) j k jlt klt p q
  one_writer classes.Uncached p q = absurd (false≢true p)
  one_writer classes.Absent p q = absurd (false≢true p)

  touching_writer : (class : Class) → may_write class j (owned_by b book j) ≡ true → (class ≡ classes.Code) ⊎ (may_write class k (owned_by b book k) ≡ true) → j ≡ k
  touching_writer class p (inl code) = absurd (false≢true (ap (λ (c : Class). may_write c j (owned_by b book j)) (sym code) ∙ p))
  touching_writer class p (inr q) = one_writer class p q

pub writers : (b : Board) (map : AddressMap) (book : Book) (number j k : ℕ) → IsValid b → j < length b.core → k < length b.core → IsTrue (may_write (class_of map number) j (owned_by b book j)) → IsTrue (may_write (class_of map number) k (owned_by b book k)) → j ≡ k
writers b map book number j k valid jlt klt = one_writer b valid book j k jlt klt (class_of map number)

pub dirty_alone : (b : Board) (map : AddressMap) (book : Book) (pasts : List (List Past)) (j k : ℕ) (dirtied past : List Past) (address : ℕ) (store : Bool) (width : Width) → IsValid b → length pasts ≡ length b.core → IsKept b map book pasts → slice_get pasts j ≡ Some dirtied → slice_get pasts k ≡ Some past → IsTrue (dirty (sets_of b j) dirtied (line address)) → breach b map (knowledge b book k past) (Cached address store) width ≡ None → j ≡ k
dirty_alone b map book pasts j k dirtied past address store width valid lengths h there here d br =
    let jlt = slice_get_within pasts j dirtied there in
    let klt = slice_get_within pasts k past here in
    touching_writer b valid book j k (omega arith) (omega arith) (class_of map (line address)) ((h.cores j dirtied there).dirty_lines (line address) d).0 ((passes b map (knowledge b book k past) address width store br).right)
