-- From a task that was judged to what is done of it.
use Rattle.std.proofs.Common.{◌≡◌, ℕ, Bool, List, Option, Some, None, Result, Ok, Err, OnOk, sym, ap, subst, ◌∙◌}
use Rattle.n2_word.specs.declared.Width.{Width}
use Rattle.n2_word.specs.Lines.{line}
use Rattle.n2_parts.specs.declared.board.Board.{Board}
use Rattle.n2_parts.specs.declared.stops.Stop.{Stop}
use Rattle.n2_parts.specs.MemoryLines.{HasLine}
use Rattle.n2_board.specs.AddressMap.{AddressMap}
use Rattle.n2_bus.specs.Wiring.{Wiring}
use Rattle.n2_watch.specs.declared.access.Access.TheVariants.{Cached}
use Rattle.n2_watch.specs.declared.past.Past.{Past}
use Rattle.n2_watch.specs.Watched.{Watched, StandsFor}
use Rattle.n2_watch.specs.Discipline.{breach}
use Rattle.n2_watch.specs.Book.{Book}
use Rattle.n2_watch.specs.World.{World}
use Rattle.n2_watch.proofs.KeptSteps.{touch_memory}
use Rattle.n2_front.specs.Front.{Front, stopped}
use Rattle.n2_front.specs.Tasks.{Task, task_address, task_breach}
use Rattle.n2_front.specs.Retire.{Acted, acted, who, done, performed}
use Rattle.n2_flat.specs.State.{CoreState, CommonState, IsAt, IsWatched, stop_of}
use Rattle.n2_flat.proofs.Judged.{is_unbroken, judged_done, judged_stop}

pub on_ok : {A E : Type 0} (r : Result A E) (P Q : Type 0) → (P → Q) → OnOk r P → OnOk r Q
on_ok (Ok x) P Q f h = f h
on_ok (Err x) P Q f h = h

pub inside_memory : (b : Board) (map : AddressMap) (k : ℕ) (shared : CommonState) (c : CoreState) (address : ℕ) (store : Bool) (width : Width) → IsAt b map k shared c → breach b map (who b k c.front shared.world.book) (Cached address store) width ≡ None → HasLine shared.wiring.memories (line address)
inside_memory b map k shared c address store width at br =
    let m = at.common.map_of in
    subst (λ (w : Wiring). HasLine w.memories (line address)) (sym at.common.wiring) (touch_memory b m.images map shared.world.book k c.front.past address store width m.valid m.maps br)

pub same_watch : (b : Board) (map : AddressMap) (k : ℕ) (book : Book) (before after : CoreState) → before.front.past ≡ after.front.past → before.watch ≡ after.watch → IsWatched b map k book before → IsWatched b map k book after
same_watch b map k book before after e u h = record {
  stands = subst (λ (p : List Past). StandsFor b map k after.watch book p) e (subst (λ (w : Watched). StandsFor b map k w book before.front.past) u h.stands);
}

module _ (b : Board) (map : AddressMap) (k : ℕ) (f : Front) (w : World) (word : ℕ) (task : Task) where
  pub halted : (after : Front) (stop : Stop) → after ≡ stopped f stop → Some stop ≡ stop_of f.regs.pc word (task_address task) (task_breach b map (who b k f w.book) task) → acted after w ≡ performed b map k f w word task
  halted after stop e h = ap (λ (g : Front). acted g w) e ∙ sym (judged_stop b map k f w word task _ stop h)

  pub let_pass : ◌≡◌ {A = Option Stop} None (stop_of f.regs.pc word (task_address task) (task_breach b map (who b k f w.book) task)) → (a : Acted) → a ≡ done b map k f w task → a ≡ performed b map k f w word task
  let_pass h a e = e ∙ sym (judged_done b map k f w word task _ (is_unbroken f.regs.pc word (task_address task) _ h))
