-- The bytes that a run's UARTs were given are those of its journal, and its flat part is that of the flat machine.
use Rattle.std.proofs.Common.{◌≡◌, ◌≢◌, ℕ, zero, suc, ◌+◌, ◌<◌, ◌++◌, ◌&&◌, Bool, true, false, cond, eqb, List, [], ◌∷◌, length, map, get_or, slice_set, Option, Some, None, refl, sym, ap, ◌∙◌, subst, arith, append_assoc}
use Rattle.std.specs.Prelude.{◌%◌, ◌^◌}
use Rattle.std.proofs.lemmas.List.{get_or-set_same, get_or-set_other}
use Rattle.std.proofs.lemmas.Bool.{eqb-true}
use Rattle.n2_runs.proofs.Quiets.{append_nil}
use Rattle.n2_parts.specs.Valid.{IsValid}
use Rattle.n2_runs.specs.Knows.{IsBookKept}
use Rattle.n2_runs.proofs.Books.{book_kept, start_kept}
use Rattle.std.specs.Prelude.{◌||◌, codes, decimal}
use Rattle.std.specs.Option.{option_or}
use Rattle.n2_memory.specs.Start as first
use Rattle.n2_runs.specs.Machine.{acts}
use Rattle.n2_runs.specs.FlatRun.{flat, flat_start}
use Rattle.n2_runs.specs.Agree.{Agree, fronts_of}
use Rattle.n2_report.specs.declared.ends.CoreEnd.{CoreEnd}
use Rattle.n2_report.specs.Stops.{stop_text, is_refused}
use Rattle.n2_report.specs.Flat.{Uart, core_text, cores_text, uart_text, verdict_text, flat_part, registers_text, read_registers, words_text, controls}
use Rattle.n2_report.specs.OfFlat.{uarts_from, end_of, flat_flat_part}
use Rattle.std.specs.List.{flat_map, list_any}
use Rattle.std.proofs.lemmas.Bool.Decides.{nat_tests}
use Rattle.n2_elf.specs.declared.image.Image.{Image}
use Rattle.n2_parts.specs.declared.board.Board.{Board}
use Rattle.n2_parts.specs.declared.board.CoreRow.{CoreRow}
use Rattle.n2_parts.specs.declared.board.UartRow.{UartRow}
use Rattle.n2_parts.specs.declared.board.PartKind.{PartKind}
use Rattle.n2_parts.specs.declared.board.PartKind.TheVariants as kinds
use Rattle.n2_parts.specs.declared.stops.Stop.{Stop}
use Rattle.n2_board.specs.declared.places.Place.{Place}
use Rattle.n2_board.specs.declared.places.Place.TheVariants as places
use Rattle.n2_board.specs.AddressMap.{AddressMap, address_map, place}
use Rattle.n2_bus.specs.declared.request.Request.{Request}
use Rattle.n2_bus.specs.declared.request.Request.TheVariants as requests
use Rattle.n2_bus.specs.declared.request.Reply.{Reply}
use Rattle.n2_bus.specs.Transfer.{request_for}
use Rattle.n2_journal.specs.declared.entry.Entry.{Entry}
use Rattle.n2_watch.specs.Book.{Book, sent_written, sent_after_write, sent_after}
use Rattle.n2_watch.specs.World.{World, transferred}
use Rattle.n2_front.specs.Core.{Core, Ended, Spent, LogFull, ended_stop}
use Rattle.n2_front.specs.Front.{Front}
use Rattle.n2_front.specs.Turn.{wants, core_turn, served_by}
use Rattle.n2_runs.specs.Machine.{Machine, Made, entry_of, start, turn, run}
use Rattle.n2_runs.proofs.Views.{turn_cases}
use Rattle.n2_report.specs.OfRun.{byte_given, given_at, given_by, given_to, uarts_given, core_end, run_flat_part}

given_test : (sent : List (List ℕ)) (index uart value : ℕ) (first took : Bool) → uart < length sent → (same : Bool) → eqb index uart ≡ same → get_or (cond (first && took) (slice_set sent index (get_or sent index [] ++ value ∷ [])) sent) uart [] ≡ get_or sent uart [] ++ cond ((same && first) && took) (value ∷ []) []
given_test sent index uart value false took lt true e = sym (append_nil (get_or sent uart []))
given_test sent index uart value false took lt false e = sym (append_nil (get_or sent uart []))
given_test sent index uart value true false lt true e = sym (append_nil (get_or sent uart []))
given_test sent index uart value true false lt false e = sym (append_nil (get_or sent uart []))
given_test sent index uart value true true lt true e =
    let is : index ≡ uart = eqb-true index uart e in
    let inside : index < length sent = omega arith in
    ap (λ (u : ℕ). get_or (slice_set sent index (get_or sent index [] ++ value ∷ [])) u []) (sym is)
    ∙ get_or-set_same sent index (get_or sent index [] ++ value ∷ []) [] inside
    ∙ ap (λ (u : ℕ). get_or sent u [] ++ value ∷ []) is
given_test sent index uart value true true lt false e =
    let other : uart ≢ index = grind (arith, nat_tests) in
    get_or-set_other sent index uart (get_or sent index [] ++ value ∷ []) [] other ∙ sym (append_nil (get_or sent uart []))

-- one write of a device
one_written : (book : Book) (kind : PartKind) (index offset value uart : ℕ) (reply : Reply) → uart < length book.sent → get_or (sent_written book kind index offset value reply) uart [] ≡ get_or book.sent uart [] ++ byte_given uart kind index offset value reply.took
one_written book kinds.Uart index offset value uart reply lt = given_test book.sent index uart (value % 2 ^ 8) (eqb offset 0) reply.took lt (eqb index uart) refl
one_written book kinds.Top index offset value uart reply lt = sym (append_nil (get_or book.sent uart []))
one_written book kinds.Memory index offset value uart reply lt = sym (append_nil (get_or book.sent uart []))
one_written book kinds.Core index offset value uart reply lt = sym (append_nil (get_or book.sent uart []))
one_written book kinds.Mutex index offset value uart reply lt = sym (append_nil (get_or book.sent uart []))
one_written book kinds.Mailbox index offset value uart reply lt = sym (append_nil (get_or book.sent uart []))
one_written book kinds.Timer index offset value uart reply lt = sym (append_nil (get_or book.sent uart []))
one_written book kinds.Region index offset value uart reply lt = sym (append_nil (get_or book.sent uart []))
one_written book kinds.Dump index offset value uart reply lt = sym (append_nil (get_or book.sent uart []))
one_written book kinds.Script index offset value uart reply lt = sym (append_nil (get_or book.sent uart []))

at_place : (book : Book) (p : Place) (value uart : ℕ) (reply : Reply) → uart < length book.sent → get_or (sent_after_write book p value reply) uart [] ≡ get_or book.sent uart [] ++ given_at uart p value reply.took
at_place book (places.Device part offset) value uart reply lt = one_written book part.kind part.index offset value uart reply lt
at_place book places.Memory value uart reply lt = sym (append_nil (get_or book.sent uart []))
at_place book places.Nothing value uart reply lt = sym (append_nil (get_or book.sent uart []))

pub one_sent : (map : AddressMap) (book : Book) (request : Request) (reply : Reply) (uart : ℕ) → uart < length book.sent → get_or (sent_after map book request reply) uart [] ≡ get_or book.sent uart [] ++ given_by map uart request reply.took
one_sent map book (requests.Write address width value) reply uart lt = at_place book (place map address) value uart reply lt
one_sent map book (requests.FillCode line) reply uart lt = sym (append_nil (get_or book.sent uart []))
one_sent map book (requests.FillData line) reply uart lt = sym (append_nil (get_or book.sent uart []))
one_sent map book (requests.WriteBack line words) reply uart lt = sym (append_nil (get_or book.sent uart []))
one_sent map book (requests.Read address width) reply uart lt = sym (append_nil (get_or book.sent uart []))
one_sent map book requests.Sample reply uart lt = sym (append_nil (get_or book.sent uart []))
one_sent map book (requests.Tick n) reply uart lt = sym (append_nil (get_or book.sent uart []))
one_sent map book (requests.Receive u) reply uart lt = sym (append_nil (get_or book.sent uart []))
one_sent map book (requests.Drain u) reply uart lt = sym (append_nil (get_or book.sent uart []))

-- ---- along a run

record IsSent (b : Board) (map : AddressMap) (m : Machine) : Type 0 where
  kept : IsBookKept b map m
  each : (i : ℕ) → i < length b.uart → get_or m.world.book.sent i [] ≡ given_to map i m.entries

given_more : (map : AddressMap) (i : ℕ) (entries : List Entry) (entry : Entry) → given_to map i (entries ++ entry ∷ []) ≡ given_to map i entries ++ given_by map i entry.request entry.reply.took
given_more map i [] entry = append_nil (given_by map i entry.request entry.reply.took)
given_more map i (e ∷ entries) entry =
    ap (λ (l : List ℕ). given_by map i e.request e.reply.took ++ l) (given_more map i entries entry)
    ∙ sym (append_assoc (given_by map i e.request e.reply.took) (given_to map i entries) (given_by map i entry.request entry.reply.took))

module _ (b : Board) (map : AddressMap) where
  more_sent : (m : Machine) (h : IsSent b map m) (actor : ℕ) (entry : Entry) (w : World) → w.book.sent ≡ sent_after map m.world.book entry.request entry.reply → (i : ℕ) → i < length b.uart → get_or w.book.sent i [] ≡ given_to map i (m.entries ++ entry ∷ [])
  more_sent m h actor entry w e i lt =
      let inside : i < length m.world.book.sent = let n = h.kept.shape.sent in omega (arith, n) in
      ap (λ (s : List (List ℕ)). get_or s i []) e
      ∙ one_sent map m.world.book entry.request entry.reply i inside
      ∙ ap (λ (l : List ℕ). l ++ given_by map i entry.request entry.reply.took) (h.each i lt)
      ∙ sym (given_more map i m.entries entry)

  transferred_sent : (actor : ℕ) (w : World) (request : Request) → (transferred b map actor w request).world.book.sent ≡ sent_after map w.book request (transferred b map actor w request).reply
  unfolding transferred
  transferred_sent actor w request = refl

  turned_sent : (k : ℕ) (row : CoreRow) (c : Core) (w : World) (request : Request) → wants b map k row w.book c ≡ Some request → (core_turn b map k row c w).world.book.sent ≡ sent_after map w.book request (core_turn b map k row c w).reply
  unfolding core_turn
  turned_sent k row c w request e =
      subst (λ (o : Option Request). (served_by b map k w o).world.book.sent ≡ sent_after map w.book request (served_by b map k w o).reply) (sym e) (transferred_sent k w request)

  turn_sent : (m : Machine) → IsSent b map m → (actor i : ℕ) → i < length b.uart → get_or (turn b map m actor).machine.world.book.sent i [] ≡ given_to map i (turn b map m actor).machine.entries
  turn_sent m h actor i lt =
      turn_cases b map m h.kept.count actor (λ (n : Made). get_or n.machine.world.book.sent i [] ≡ given_to map i n.machine.entries)
      (λ o. h.each i lt)
      (λ row c at q. h.each i lt)
      (λ row c request at e room. more_sent m h actor (entry_of actor c (core_turn b map actor row c m.world) request) (core_turn b map actor row c m.world).world (turned_sent actor row c m.world request e) i lt)
      (λ event script a e room. more_sent m h actor (record { actor = length b.core; local = 0; request = request_for event; reply = (transferred b map (length b.core) m.world (request_for event)).reply }) (transferred b map (length b.core) m.world (request_for event)).world (transferred_sent (length b.core) m.world (request_for event)) i lt)

run_sent : (b : Board) (images : List Image) (map : AddressMap) → IsValid b → map ≡ address_map b images → (order : List ℕ) (m : Machine) → IsSent b map m → IsSent b map (run b map m order)
unfolding run
run_sent b images map valid maps [] m h = h
run_sent b images map valid maps (actor ∷ order) m h =
    run_sent b images map valid maps order (turn b map m actor).machine (record { kept = book_kept b images map valid maps m h.kept actor; each = λ i lt. turn_sent b map m h actor i lt })

nothing_sent : (rows : List UartRow) (i : ℕ) → ◌≡◌ {A = List ℕ} (get_or (map (λ (row : UartRow). []) rows) i []) []
nothing_sent [] i = refl
nothing_sent (row ∷ rows) zero = refl
nothing_sent (row ∷ rows) (suc i) = nothing_sent rows i

-- ---- the flat part

same_uarts : (map' : AddressMap) (entries : List Entry) (sent : List (List ℕ)) (rows : List UartRow) (i : ℕ) → ((j : ℕ) → i + j < i + length rows → get_or sent (i + j) [] ≡ given_to map' (i + j) entries) → uarts_given map' i rows entries ≡ uarts_from i rows sent
same_uarts map' entries sent [] i h = refl
same_uarts map' entries sent (row ∷ rows) i h =
    let z : i + 0 ≡ i = omega arith in
    let here : get_or sent i [] ≡ given_to map' i entries = subst (λ (k : ℕ). get_or sent k [] ≡ given_to map' k entries) z (h 0 (omega arith)) in
    ap (λ (bytes : List ℕ). record { name = row.name; sent = bytes } ∷ uarts_given map' (i + 1) rows entries) (sym here)
    ∙ ap (λ (us : List Uart). record { name = row.name; sent = get_or sent i [] } ∷ us)
    (same_uarts map' entries sent rows (i + 1) (λ j lt. let w : i + suc j ≡ i + 1 + j = omega arith in subst (λ (k : ℕ). get_or sent k [] ≡ given_to map' k entries) w (h (suc j) (omega arith))))

stop_same : (pc : ℕ) (o : Option Stop) (e : Option Ended) → stop_text pc (option_or o (ended_stop e)) ≡ stop_text pc o
unfolding stop_text
stop_same pc (Some stop) e = refl
stop_same pc None None = refl
stop_same pc None (Some Spent) = refl
stop_same pc None (Some LogFull) = refl

refused_same : (o : Option Stop) (e : Option Ended) → is_refused (option_or o (ended_stop e)) ≡ is_refused o
refused_same (Some stop) e = refl
refused_same None None = refl
refused_same None (Some Spent) = refl
refused_same None (Some LogFull) = refl

core_same : (k : ℕ) (c : Core) → core_text k (core_end c) ≡ core_text k (end_of c.front)
unfolding core_text
core_same k c =
    ap (λ (t : List ℕ). codes "core " ++ decimal k ++ codes " " ++ t ++ codes "\n" ++ registers_text (read_registers c.front.regs.gpr) ++ codes "ctl" ++ words_text (controls c.front.regs) ++ codes "\n")
    (stop_same c.front.regs.pc c.front.stop c.ended)

cores_same : (k : ℕ) (cs : List Core) → cores_text k (map core_end cs) ≡ cores_text k (map end_of (fronts_of cs))
cores_same k [] = refl
cores_same k (c ∷ cs) = ap (λ (t : List ℕ). t ++ cores_text (k + 1) (map core_end cs)) (core_same k c) ∙ ap (λ (t : List ℕ). core_text k (end_of c.front) ++ t) (cores_same (k + 1) cs)

any_same : (cs : List Core) → list_any (λ (core : CoreEnd). is_refused core.stop) (map core_end cs) ≡ list_any (λ (core : CoreEnd). is_refused core.stop) (map end_of (fronts_of cs))
any_same [] = refl
any_same (c ∷ cs) =
    ap (λ (x : Bool). x || list_any (λ (core : CoreEnd). is_refused core.stop) (map core_end cs)) (refused_same c.front.stop c.ended)
    ∙ ap (λ (x : Bool). is_refused c.front.stop || x) (any_same cs)

part_same : (cs : List Core) (uarts given : List Uart) → uarts ≡ given → flat_part (map core_end cs) uarts ≡ flat_part (map end_of (fronts_of cs)) given
unfolding flat_part
part_same cs uarts given e =
    ap (λ (us : List Uart). cores_text 0 (map core_end cs) ++ flat_map uart_text us ++ verdict_text (list_any (λ (core : CoreEnd). is_refused core.stop) (map core_end cs))) e
    ∙ ap (λ (t : List ℕ). t ++ flat_map uart_text given ++ verdict_text (list_any (λ (core : CoreEnd). is_refused core.stop) (map core_end cs))) (cores_same 0 cs)
    ∙ ap (λ (x : Bool). cores_text 0 (map end_of (fronts_of cs)) ++ flat_map uart_text given ++ verdict_text x) (any_same cs)

pub same_flat_part : (b : Board) (images : List Image) (map' : AddressMap) (order : List ℕ) → IsValid b → map' ≡ address_map b images → length images ≡ length b.core → Agree b map' (first.start b.memory images) (run b map' (start b images) order) (flat b map' (flat_start b images) (acts b map' (start b images) order)) → run_flat_part b map' (run b map' (start b images) order) ≡ flat_flat_part b (flat b map' (flat_start b images) (acts b map' (start b images) order))
same_flat_part b images map' order valid maps long agree =
    let m = run b map' (start b images) order in
    let f = flat b map' (flat_start b images) (acts b map' (start b images) order) in
    let sent : IsSent b map' m = run_sent b images map' valid maps order (start b images) (record { kept = start_kept b images map' long; each = λ i lt. nothing_sent b.uart i }) in
    part_same m.cores (uarts_given map' 0 b.uart m.entries) (uarts_from 0 b.uart m.world.book.sent)
    (same_uarts map' m.entries m.world.book.sent b.uart 0 (λ j lt. sent.each (0 + j) (omega arith)))
    ∙ ap (λ (fs : List Front). flat_part (map end_of fs) (uarts_from 0 b.uart m.world.book.sent)) (sym agree.fronts)
    ∙ ap (λ (book : Book). flat_part (map end_of f.cores) (uarts_from 0 b.uart book.sent)) (sym agree.book)
