-- What a machine hands out at the end of a run is recorded.
use Rattle.std.proofs.Common.{◌≡◌, length, List, refl, sym, ap, ◌∙◌, subst}
use Rattle.std.specs.Prelude.{IsTrue}
use Rattle.n2_elf.specs.declared.image.Image.{Image}
use Rattle.n2_parts.specs.declared.board.Board.{Board}
use Rattle.n2_parts.specs.Valid.{IsValid}
use Rattle.n2_board.specs.AddressMap.{AddressMap, address_map}
use Rattle.n2_journal.specs.Journals.{Content}
use Rattle.n2_runs.specs.Machine.{Machine, start, run, is_finished}
use Rattle.n2_runs.specs.Knows.{IsBookKept}
use Rattle.n2_runs.specs.Recorded.{journal_of, actors_of}
use Rattle.n2_runs.proofs.Ahead.{run_replays}
use Rattle.n2_smp.specs.declared.machine.Ran.{Ran}
use Rattle.n2_smp.specs.Standing.{Parts, StandsFor, RanStandsFor}
use Rattle.n2_driver.specs.Bounded.{IsBounded}
use Rattle.n2_driver.proofs.Ending.{start_bounded}
use Rattle.n2_threads.specs.Recorded.{IsRecorded}
use Rattle.n2_threads.specs.Rounds.{HasEnded}

module _ (b : Board) (images : List Image) (ran : Ran) (valid : IsValid b) (long : length images ≡ length b.core) where
  -- the end of a run along a list of actors is the end of the run that its journal tells
  end_recorded : (v : Parts) → v.board ≡ b → v.map ≡ address_map b images → HasEnded b (address_map b images) (start b images) v → ((m : Machine) → StandsFor v m → length m.cores ≡ length v.board.core → RanStandsFor v.board v.map ran m) → IsRecorded b images ran
  end_recorded v board map' h finish =
      let first = start b images in
      let m = run b (address_map b images) first h.order in
      let count : length m.cores ≡ length v.board.core = h.kept.count ∙ ap (λ (a : Board). length a.core) (sym board) in
      let stands : RanStandsFor b (address_map b images) ran m = subst (λ (a : Board). RanStandsFor a (address_map b images) ran m) board (subst (λ (g : AddressMap). RanStandsFor v.board g ran m) map' (finish m h.stands count)) in
      let same : run b (address_map b images) first (actors_of ran.journal.content) ≡ m =
      ap (λ (j : Content). run b (address_map b images) first (actors_of j)) stands.journal ∙ run_replays b images (address_map b images) h.order valid refl long in
      record {
        records = record {
          finished = subst (λ (x : Machine). IsTrue (is_finished b x)) (sym same) h.finished;
          journal = ap journal_of same ∙ sym stands.journal;
        };
        stands = subst (RanStandsFor b (address_map b images) ran) (sym same) stands;
      }

  -- so it is, where rounds end whatever they begin with
  pub recorded : (v w : Parts) → v.board ≡ b → v.map ≡ address_map b images → w.board ≡ v.board → w.map ≡ v.map → StandsFor v (start b images) → IsBookKept b (address_map b images) (start b images) → ((m : Machine) → StandsFor v m → IsBookKept b v.map m → IsBounded b v.map m → HasEnded b v.map m w) → ((m : Machine) → StandsFor w m → length m.cores ≡ length w.board.core → RanStandsFor w.board w.map ran m) → IsRecorded b images ran
  recorded v w board map' same_board same_map stands kept rounds finish =
      end_recorded w (same_board ∙ board) (same_map ∙ map')
      (subst (λ (g : AddressMap). (m : Machine) → StandsFor v m → IsBookKept b g m → IsBounded b g m → HasEnded b g m w) map' rounds (start b images) stands kept (start_bounded b images (address_map b images) valid long))
      finish
