use Rattle.std.proofs.Common.{◌∙◌, ℕ, List, sym, ap, subst, refl}
use Rattle.n2_parts.specs.declared.board.MemoryRow.{MemoryRow}
use Rattle.n2_parts.specs.declared.board.RegionRow.{RegionRow}
use Rattle.n2_parts.specs.MemoryLines.{HasLine}
use Rattle.std.specs.Prelude.{IsTrue, ◌<◌}
use Rattle.std.specs.Int.{is_power_of_two}
use Rattle.n2_watch.specs.Opened.{is_held_first}
use Rattle.n2_watch.proofs.Starting.{zeros}
use Rattle.n2_watch.proofs.Opened.{sets_fit, opened_stands}
use Rattle.n2_watch.proofs.watch.Watch.open.Goals as goal

pub open-requires-clause-power : goal.open-requires-clause-power
open-requires-clause-power c = subst (λ n. IsTrue (is_power_of_two n)) (sym c.sets_of.ensures) (sets_fit c.args.board.now c.args.core c.requires.core (c.valid_boards.ensures.caches c.args.board.now c.requires.map.valid)).0

pub open-requires-clause-some : goal.open-requires-clause-some
open-requires-clause-some c = subst (λ n. 0 < n) (sym c.sets_of.ensures) (sets_fit c.args.board.now c.args.core c.requires.core (c.valid_boards.ensures.caches c.args.board.now c.requires.map.valid)).1

pub returns-clause-stands : goal.returns-clause-stands
returns-clause-stands c =
    let b = c.args.board.now in
    let built = c.in_ok-built.built in
    let bound = c.in_ok-built.ensures.built in
    opened_stands b c.args.layout.now c.args.core _ built.runs.items built.records.items bound.0 c.sets_of.result (record {
      map_of = c.requires.map;
      small = c.valid_boards.ensures.small b c.requires.map.valid;
      board = c.in_ok-board.ensures;
      core_is = refl;
      cpuid = c.cpuid_of-cpuid.ensures;
      sets_are = c.sets_of.ensures;
      some = subst (λ n. 0 < n) (sym c.sets_of.ensures) (sets_fit b c.args.core c.requires.core (c.valid_boards.ensures.caches b c.requires.map.valid)).1;
      built = bound.1;
      table = c.in_ok-records.ensures;
      recorded = λ number h t. c.in_ok-built.ensures.whole number (subst (λ (m : List MemoryRow). HasLine m number) (sym c.as_slice.ensures) h) t;
      slots = c.in_ok-owned.ensures.slots;
      mutexes = c.in_ok-owned.ensures.mutexes;
      regions = λ r. c.in_ok-owned.ensures.regions r ∙ ap (λ (rows : List RegionRow). is_held_first c.args.core rows r) c.as_slice-2.ensures;
      forgotten = refl;
      pointers = c.in_ok-pointers.ensures ∙ ap (λ (n : ℕ). zeros n) c.len.ensures;
    })
