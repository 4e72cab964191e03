use Rattle.std.proofs.Common.{◌≡◌, ◌≢◌, ℕ, ◌/◌, ◌<◌, ◌≤◌, ◌^◌, List, MatchOption, map, slice_get, sym, ap, subst, ◌∙◌, arith}
use Rattle.std.specs.List.{All}
use Rattle.n2_parts.specs.declared.board.MemoryRow.{MemoryRow}
use Rattle.n2_parts.specs.MemoryLines.{line_count, line_place}
use Rattle.n2_parts.proofs.Small.{valid_small}
use Rattle.n2_parts.proofs.WholeLines.{few_lines}
use Rattle.n2_board.specs.declared.classes.LineZone.{LineZone}
use Rattle.n2_board.specs.declared.places.Place.TheVariants as places
use Rattle.n2_board.specs.declared.places.PlaceZone.{PlaceZone}
use Rattle.n2_board.specs.Classes.{class_in, NamesParts}
use Rattle.n2_board.specs.Places.{place_in}
use Rattle.n2_board.proofs.Memories.{values, table_right, table_there}
use Rattle.n2_board.proofs.Named.{named}
use Rattle.n2_board.proofs.layout.index.Goals as goal

below : (n : ℕ) → n ≤ 2 ^ 23 → n < 2 ^ 32
below n le = omega arith

pub line_zones-requires : goal.line_zones-requires
line_zones-requires c = valid_small c.args.board.now c.requires.valid

pub open-requires-2 : goal.open-requires-2
open-requires-2 c = valid_small c.args.board.now c.requires.valid

pub class_table-requires : goal.class_table-requires
class_table-requires c =
    let rows : c.as_slice-2.result.now ≡ c.args.board.now.memory = c.as_slice-2.ensures ∙ c.in_ok-memories.ensures ∙ c.as_slice.ensures in
    let zones : List LineZone = c.deref-3.result.now in
    record {
      few = subst (λ (r : List MemoryRow). line_count r < 2 ^ 32) (sym rows) (below (line_count c.args.board.now.memory) (few_lines c.args.board.now c.requires.valid));
      finder = c.in_ok-line_finder.ensures ∙ c.deref-2.ensures.value ∙ c.in_ok-line_spans.ensures ∙ ap (map (λ (zone : LineZone). zone.lines)) (c.deref.ensures.value ∙ sym c.deref-3.ensures.value);
      parts = (
        c.args.board.now,
        valid_small c.args.board.now c.requires.valid,
        subst (λ (zs : List LineZone). All (λ zone. NamesParts c.args.board.now zone.class) zs) (sym (c.deref-3.ensures.value ∙ c.in_ok-lines.ensures)) (named c.args.board.now c.requires.valid c.args.segments.now c.requires.cores),
      );
    }

pub invariant_of-result : goal.invariant_of-result
invariant_of-result c =
    let rows : c.in_ok-memories.memories ≡ c.args.board.now.memory = c.in_ok-memories.ensures ∙ c.as_slice.ensures in
    let lines : List LineZone = c.in_ok-lines.lines.items in
    let table : c.in_ok-classes.classes ≡ values (class_in lines) c.in_ok-memories.memories =
    c.in_ok-classes.ensures ∙ ap (λ (zs : List LineZone). values (class_in zs) c.as_slice-2.result.now) c.deref-3.ensures.value ∙ ap (values (class_in lines)) c.as_slice-2.ensures
    in (
      subst (λ (r : List MemoryRow). line_count r < 2 ^ 32) (sym rows) (below (line_count c.args.board.now.memory) (few_lines c.args.board.now c.requires.valid)),
      table_right (class_in lines) c.in_ok-classes.classes c.in_ok-memories.memories table,
      subst (λ (r : List MemoryRow). (address : ℕ) → MatchOption (slice_get c.in_ok-classes.classes (line_place r (address / 32))) (place_in c.in_ok-places.places address ≢ places.Memory) (λ _. place_in c.in_ok-places.places address ≡ places.Memory)) (sym rows)
          (subst (λ (zs : List PlaceZone). (address : ℕ) → MatchOption (slice_get c.in_ok-classes.classes (line_place c.args.board.now.memory (address / 32))) (place_in zs address ≢ places.Memory) (λ _. place_in zs address ≡ places.Memory)) (sym c.in_ok-places.ensures)
          (table_there (class_in lines) c.in_ok-classes.classes c.args.board.now c.requires.valid (table ∙ ap (values (class_in lines)) rows))),
      c.in_ok-line_finder.ensures ∙ c.deref-2.ensures.value ∙ c.in_ok-line_spans.ensures ∙ ap (map (λ (zone : LineZone). zone.lines)) c.deref.ensures.value,
    )
