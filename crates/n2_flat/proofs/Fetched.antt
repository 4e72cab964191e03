-- A fetch that is cut off, and one that is not.
use Rattle.std.proofs.Common.{◌≡◌, ℕ, Option, Some, None, ap, ◌∙◌}
use Rattle.std.specs.Prelude.{option_map}
use Rattle.n2_word.specs.declared.Width.TheVariants.{Word}
use Rattle.n2_word.specs.Lines.{line}
use Rattle.n2_parts.specs.declared.board.Board.{Board}
use Rattle.n2_parts.specs.declared.stops.Stop.{Stop}
use Rattle.n2_board.specs.declared.access.Violation.{Violation}
use Rattle.n2_board.specs.AddressMap.{AddressMap}
use Rattle.n2_board.specs.Access.{fetch_violation}
use Rattle.n2_memory.specs.Memories.{read_at}
use Rattle.n2_watch.specs.declared.access.Access.TheVariants.{Fetch}
use Rattle.n2_watch.specs.Discipline.{violation, breach}
use Rattle.n2_watch.specs.World.{World}
use Rattle.n2_front.specs.Front.{Front, stopped}
use Rattle.n2_front.specs.Tasks.{stop_for}
use Rattle.n2_front.specs.Retire.{acted, who, with_word, fetched}

module _ (b : Board) (map : AddressMap) (k : ℕ) (f : Front) (w : World) where
  pub fetch_stop : (after : Front) (wrong : Violation) (stop : Stop) → Some wrong ≡ fetch_violation map f.regs.pc → stop ≡ stop_for (violation wrong (line f.regs.pc)) f.regs.pc 0 f.regs.pc → after ≡ stopped f stop → acted after w ≡ fetched b map k f w (breach b map (who b k f w.book) (Fetch f.regs.pc) Word)
  unfolding breach
  fetch_stop after wrong stop e s h =
      ap (λ (g : Front). acted g w) h ∙ ap (λ (x : Stop). acted (stopped f x) w) s
      ∙ ap (λ (o : Option Violation). fetched b map k f w (option_map (λ wrong. violation wrong (line f.regs.pc)) o)) e

  pub fetch_goes : ◌≡◌ {A = Option Violation} None (fetch_violation map f.regs.pc) → with_word b map k f w (read_at w.memory f.regs.pc Word) ≡ fetched b map k f w (breach b map (who b k f w.book) (Fetch f.regs.pc) Word)
  unfolding breach
  fetch_goes e = ap (λ (o : Option Violation). fetched b map k f w (option_map (λ wrong. violation wrong (line f.regs.pc)) o)) e
