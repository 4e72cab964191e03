-- A run is ahead of the turns up to its last transfer by turns without transfers alone, each of which could as well come
-- later: nothing of what other actors do is seen by it.
use Rattle.std.proofs.Common.{◌≡◌, ◌≢◌, ℕ, zero, suc, ◌<◌, ◌+◌, ◌++◌, Bool, true, false, cond, eqb, List, [], ◌∷◌, length, map, replicate, slice_get, slice_set, Option, Some, None, refl, ap, sym, ◌∙◌, arith, subst, append_assoc, length-append, length-set}
use Rattle.std.proofs.lemmas.Bool.Decides.{nat_tests}
use Rattle.std.proofs.lemmas.Grind.{flat_map-append}
use Rattle.std.proofs.lemmas.List.{map-append}
use Rattle.std.proofs.lemmas.List.Elements.{filter-append}
use Rattle.std.proofs.lemmas.Option.{slice_get_past}
use Rattle.n2_elf.specs.declared.image.Image.{Image}
use Rattle.n2_parts.specs.declared.board.Board.{Board}
use Rattle.n2_parts.specs.declared.board.CoreRow.{CoreRow}
use Rattle.n2_parts.specs.declared.board.DeviceEvent.{DeviceEvent}
use Rattle.n2_parts.specs.declared.stops.Act.{Act}
use Rattle.n2_parts.specs.declared.stops.Act.TheVariants as acts_of
use Rattle.n2_parts.specs.Valid.{IsValid}
use Rattle.n2_board.specs.AddressMap.{AddressMap, address_map}
use Rattle.n2_bus.specs.declared.request.Request.{Request}
use Rattle.n2_bus.specs.Transfer.{request_for}
use Rattle.n2_journal.specs.declared.entry.Entry.{Entry}
use Rattle.n2_journal.specs.Journals.{tail_turns}
use Rattle.n2_watch.specs.World.{World, Transferred, transferred}
use Rattle.n2_front.specs.Core.{Core, stop_of, started_core}
use Rattle.n2_front.specs.Turn.{CoreTurn, wants, core_turn}
use Rattle.n2_runs.specs.Machine.{Machine, Made, has_room, entry_of, entered, event_made, started_cores, start, turn, run, acts, tails}
use Rattle.n2_runs.specs.Recorded.{journal_of, actors_in, actors_of, is_act_by, acts_by}
use Rattle.n2_runs.specs.Knows.{KnowsSame, IsBookKept}
use Rattle.n2_runs.proofs.Lists.{set_each, slice_get-set_same, slice_get-set_other}
use Rattle.n2_runs.proofs.Sets.{within}
use Rattle.n2_runs.proofs.Known.{entered_local}
use Rattle.n2_runs.proofs.Books.{book_kept, run_kept, known_same, start_kept}
use Rattle.n2_runs.proofs.Views.{put, IsCoreAt, quiet, quiet_act, IsQuiet, quiet_count, turn_enters, turn_event, turn_cases}
use Rattle.n2_runs.proofs.Quiets.{set_twice, append_nil, get_next, set_next, some_there, run-append, run-none, one_more, quiets, AreQuiet, one_quiet, block, quiets_same, still_quiet, act_list, act_first, acts-append, acts_none, acts_one, acts_last, turn_act, not_by, quiet_acts, block_acts, quiet_not_by, quiets_not_by, quiet_acts_same}

-- ---- ahead
-- core k of a run, which stands at d before its turns without transfers
record IsBehind (b : Board) (map : AddressMap) (room : Bool) (w : World) (k : ℕ) (row : CoreRow) (c d : Core) : Type 0 where
  fresh : d.local ≡ 0
  quiet_turns : AreQuiet b map k row room w c.local d
  then : c ≡ quiets b map k row w c.local d

more_behind : (b : Board) (map : AddressMap) (room : Bool) (w : World) (k : ℕ) (row : CoreRow) (c d : Core) → IsBehind b map room w k row c d → stop_of c ≡ None → IsQuiet b map k row room w c → IsBehind b map room w k row (quiet b map k row w c) d
unfolding quiets
more_behind b map room w k row c d z runs q =
    let n : suc c.local ≡ (quiet b map k row w c).local = omega (arith, quiet_count b map k row w c) in
    record {
      fresh = z.fresh;
      quiet_turns = subst (λ i. AreQuiet b map k row room w i d) n
          (one_quiet b map k row room w c.local d z.quiet_turns (ap stop_of (sym z.then) ∙ runs) (subst (IsQuiet b map k row room w) z.then q));
      then = next n;
    }
  where
    next : suc c.local ≡ (quiet b map k row w c).local → quiet b map k row w c ≡ quiets b map k row w (quiet b map k row w c).local d
    next n = ap (quiet b map k row w) z.then ∙ ap (λ i. quiets b map k row w i d) n

-- nothing that it did looks at what another actor's transfer changes
moved_behind : (b : Board) (map : AddressMap) (room then' : Bool) (w v : World) (k : ℕ) (row : CoreRow) (c d : Core) → KnowsSame b k w.book v.book → room ≡ true → IsBehind b map room w k row c d → IsBehind b map then' v k row c d
moved_behind b map room then' w v k row c d same e z =
    let q : AreQuiet b map k row true w c.local d = subst (λ (x : Bool). AreQuiet b map k row x w c.local d) e z.quiet_turns in
    record {
      fresh = z.fresh;
      quiet_turns = still_quiet b map k row w v same then' c.local d q;
      then = z.then ∙ sym (quiets_same b map k row w v same c.local d q);
    }

fresh_behind : (b : Board) (map : AddressMap) (room : Bool) (w : World) (k : ℕ) (row : CoreRow) (c : Core) → c.local ≡ 0 → IsBehind b map room w k row c c
unfolding quiets AreQuiet
fresh_behind b map room w k row c e = record {
  fresh = e;
  quiet_turns = λ i lt. absurd (omega (arith, e));
  then = ap (λ n. quiets b map k row w n c) (sym e);
}

pub same_some : {X : Type 0} (x y : X) → ◌≡◌ {A = Option X} (Some x) (Some y) → x ≡ y
same_some x y e = grind arith

-- a machine with other cores
abbrev pub over : Machine → List Core → Machine
over x cs = record { world = x.world; cores = cs; entries = x.entries; script = x.script }

abbrev AreBehind : Board → AddressMap → Machine → List Core → Type 0
AreBehind b map x cs = (k : ℕ) (c : Core) → slice_get cs k ≡ Some c → (row : CoreRow) (d : Core) → slice_get b.core k ≡ Some row → slice_get x.cores k ≡ Some d → IsBehind b map (has_room b x) x.world k row c d

-- the turns up to and with each transfer
abbrev pub groups_of : List Entry → List (ℕ × ℕ)
groups_of es = map (λ entry. (entry.actor, entry.local + 1)) es

abbrev pub entry_turns : List Entry → List ℕ
entry_turns es = actors_in (groups_of es)

abbrev pub locals_of : List Core → List ℕ
locals_of cs = map (λ (c : Core). c.local) cs

pub entry_turns-more : (es : List Entry) (entry : Entry) → entry_turns (es ++ entry ∷ []) ≡ entry_turns es ++ replicate (entry.local + 1) entry.actor
entry_turns-more es entry =
    ap actors_in (map-append (λ entry. (entry.actor, entry.local + 1)) es (entry ∷ []))
    ∙ flat_map-append (λ group. replicate group.1 group.0) (map (λ entry. (entry.actor, entry.local + 1)) es) ((entry.actor, entry.local + 1) ∷ [])
    ∙ ap (λ xs. entry_turns es ++ xs) (append_nil (replicate (entry.local + 1) entry.actor))

-- ---- acts
-- what core a did beyond its last transfer
pending : Board → AddressMap → ℕ → World → Option CoreRow → Option Core → Option Core → List Act
pending b map a w (Some row) (Some c) (Some d) = acts_by b a (quiet_acts b map a row w c.local d)
pending b map a w _ _ _ = []

pending_is : (b : Board) (map : AddressMap) (a : ℕ) (w : World) (row : CoreRow) (c d : Core) (r : Option CoreRow) (o p : Option Core) → r ≡ Some row → o ≡ Some c → p ≡ Some d → pending b map a w r o p ≡ acts_by b a (quiet_acts b map a row w c.local d)
unfolding pending
pending_is b map a w row c d r o p e f g =
    ap (λ (r : Option CoreRow). pending b map a w r o p) e ∙ ap (λ (o : Option Core). pending b map a w (Some row) o p) f ∙ ap (λ (p : Option Core). pending b map a w (Some row) (Some c) p) g

pending_none : (b : Board) (map : AddressMap) (a : ℕ) (w : World) (r : Option CoreRow) (o p : Option Core) → r ≡ None → pending b map a w r o p ≡ []
unfolding pending
pending_none b map a w r o p e = ap (λ (r : Option CoreRow). pending b map a w r o p) e

-- a core that made no turn since
pending_fresh : (b : Board) (map : AddressMap) (a : ℕ) (w : World) (r : Option CoreRow) (o p : Option Core) → ((c : Core) → o ≡ Some c → c.local ≡ 0) → pending b map a w r o p ≡ []
unfolding pending quiet_acts
pending_fresh b map a w None o p h = refl
pending_fresh b map a w (Some row) None p h = refl
pending_fresh b map a w (Some row) (Some c) None h = refl
pending_fresh b map a w (Some row) (Some c) (Some d) h = ap (λ n. acts_by b a (quiet_acts b map a row w n d)) (h c refl)

pending_moved : (b : Board) (map : AddressMap) (room : Bool) (a : ℕ) (w v : World) (r : Option CoreRow) (o p : Option Core) → ((row : CoreRow) → r ≡ Some row → KnowsSame b a w.book v.book) → room ≡ true → ((row : CoreRow) (c d : Core) → r ≡ Some row → o ≡ Some c → p ≡ Some d → IsBehind b map room w a row c d) → pending b map a v r o p ≡ pending b map a w r o p
unfolding pending
pending_moved b map room a w v None o p same e h = refl
pending_moved b map room a w v (Some row) None p same e h = refl
pending_moved b map room a w v (Some row) (Some c) None same e h = refl
pending_moved b map room a w v (Some row) (Some c) (Some d) same e h =
    ap (acts_by b a) (quiet_acts_same b map a row w v (same row refl) c.local d (subst (λ (x : Bool). AreQuiet b map a row x w c.local d) e (h row c d refl refl refl).quiet_turns))

more_acts : (b : Board) (map : AddressMap) (room : Bool) (w : World) (k : ℕ) (row : CoreRow) (c d : Core) → IsBehind b map room w k row c d → acts_by b k (quiet_acts b map k row w c.local d) ++ acts_by b k (act_list (quiet_act b map k row w c)) ≡ acts_by b k (quiet_acts b map k row w (quiet b map k row w c).local d)
unfolding quiet_acts
more_acts b map room w k row c d z =
    let n : suc c.local ≡ (quiet b map k row w c).local = omega (arith, quiet_count b map k row w c) in
    sym (filter-append (is_act_by b k) (quiet_acts b map k row w c.local d) (act_list (quiet_act b map k row w c)))
    ∙ ap (λ (y : Core). acts_by b k (quiet_acts b map k row w c.local d ++ act_list (quiet_act b map k row w y))) z.then
    ∙ ap (λ i. acts_by b k (quiet_acts b map k row w i d)) n

-- ---- lists of acts, where some are none
own_last : {X : Type 0} (before then' last all none : List X) → all ≡ then' ++ last → none ≡ [] → (before ++ then') ++ last ≡ (before ++ all) ++ none
own_last before then' last all none e f = append_assoc before then' last ∙ ap (λ xs. before ++ xs) (sym e) ∙ sym (append_nil (before ++ all)) ∙ ap (λ xs. (before ++ all) ++ xs) (sym f)

none_last : {X : Type 0} (before then' last other same : List X) → last ≡ [] → other ≡ [] → then' ≡ same → (before ++ then') ++ last ≡ (before ++ other) ++ same
none_last before then' last other same e f g =
    ap (λ xs. (before ++ then') ++ xs) e ∙ append_nil (before ++ then') ∙ ap (λ xs. before ++ xs) g ∙ ap (λ xs. xs ++ same) (sym (append_nil before) ∙ ap (λ xs. before ++ xs) (sym f))

none_between : {X : Type 0} (before then' last none : List X) → then' ≡ [] → none ≡ [] → (before ++ then') ++ last ≡ (before ++ last) ++ none
none_between before then' last none e f = ap (λ xs. (before ++ xs) ++ last) e ∙ ap (λ xs. xs ++ last) (append_nil before) ∙ sym (append_nil (before ++ last)) ∙ ap (λ xs. (before ++ last) ++ xs) (sym f)

both_none : {X : Type 0} (xs ys : List X) → xs ≡ [] → ys ≡ [] → xs ++ ys ≡ []
both_none xs ys e f = ap (λ zs. zs ++ ys) e ∙ f

module _ (b : Board) (images : List Image) (map : AddressMap) (valid : IsValid b) (is : map ≡ address_map b images) (first : Machine) where
  -- the machine after the turns up to the last transfer, and the cores now
  record IsAhead (m : Machine) (made : List Act) : Type 0 where
    base : Machine
    cores : List Core
    ahead : m ≡ over base cores
    based : run b map first (entry_turns base.entries) ≡ base
    count : length cores ≡ length base.cores
    behind : AreBehind b map base cores
    acted : (a : ℕ) → acts_by b a made ≡ acts_by b a (acts b map first (entry_turns base.entries)) ++ pending b map a base.world (slice_get b.core a) (slice_get cores a) (slice_get base.cores a)

  module _ (x : Machine) (cs : List Core) (based : run b map first (entry_turns x.entries) ≡ x) (count : length cs ≡ length x.cores) (behind : AreBehind b map x cs) (kept : IsBookKept b map (over x cs)) (made : List Act) (acted : (a : ℕ) → acts_by b a made ≡ acts_by b a (acts b map first (entry_turns x.entries)) ++ pending b map a x.world (slice_get b.core a) (slice_get cs a) (slice_get x.cores a)) where
    abbrev before : ℕ → List Act
    before a = acts_by b a (acts b map first (entry_turns x.entries))

    abbrev then' : ℕ → List Act
    then' a = pending b map a x.world (slice_get b.core a) (slice_get cs a) (slice_get x.cores a)

    joined : (a : ℕ) (o : Option Act) → acts_by b a (made ++ act_list o) ≡ (before a ++ then' a) ++ acts_by b a (act_list o)
    joined a o = filter-append (is_act_by b a) made (act_list o) ∙ ap (λ xs. xs ++ acts_by b a (act_list o)) (acted a)

    -- of the turns up to one more transfer
    acts_more : (a : ℕ) (entry : Entry) → acts_by b a (acts b map first (entry_turns (x.entries ++ entry ∷ []))) ≡ before a ++ acts_by b a (acts b map x (replicate (entry.local + 1) entry.actor))
    acts_more a entry =
        ap (λ order. acts_by b a (acts b map first order)) (entry_turns-more x.entries entry)
        ∙ ap (acts_by b a) (acts-append b map (entry_turns x.entries) (replicate (entry.local + 1) entry.actor) first)
        ∙ filter-append (is_act_by b a) (acts b map first (entry_turns x.entries)) (acts b map (run b map first (entry_turns x.entries)) (replicate (entry.local + 1) entry.actor))
        ∙ ap (λ (y : Machine). before a ++ acts_by b a (acts b map y (replicate (entry.local + 1) entry.actor))) based

    still : (v : World) (a : ℕ) → ((row : CoreRow) → slice_get b.core a ≡ Some row → KnowsSame b a x.world.book v.book) → has_room b x ≡ true → pending b map a v (slice_get b.core a) (slice_get cs a) (slice_get x.cores a) ≡ then' a
    still v a same room = pending_moved b map (has_room b x) a x.world v (slice_get b.core a) (slice_get cs a) (slice_get x.cores a) same room (λ row c d i e f. behind a c e row d i f)

    based_more : (entry : Entry) (y : Machine) → run b map x (replicate (entry.local + 1) entry.actor) ≡ y → run b map first (entry_turns (x.entries ++ entry ∷ [])) ≡ y
    based_more entry y e =
        ap (run b map first) (entry_turns-more x.entries entry)
        ∙ run-append b map (entry_turns x.entries) (replicate (entry.local + 1) entry.actor) first
        ∙ ap (λ (z : Machine). run b map z (replicate (entry.local + 1) entry.actor)) based
        ∙ e

    quiet_acted : (k : ℕ) (row : CoreRow) (c : Core) → IsCoreAt b (over x cs) k row c → (a : ℕ) → acts_by b a (made ++ act_list (quiet_act b map k row x.world c)) ≡ before a ++ pending b map a x.world (slice_get b.core a) (slice_get (slice_set cs k (quiet b map k row x.world c)) a) (slice_get x.cores a)
    quiet_acted k row c at a = joined a (quiet_act b map k row x.world c) ∙ append_assoc (before a) (then' a) (acts_by b a (act_list (quiet_act b map k row x.world c))) ∙ ap (λ xs. before a ++ xs) (next (eqb a k) refl)
      where
        q : Core
        q = quiet b map k row x.world c

        lt : k < length x.cores
        lt = let less = within cs k c at.there in omega (arith, count)

        own : then' k ++ acts_by b k (act_list (quiet_act b map k row x.world c)) ≡ pending b map k x.world (slice_get b.core k) (slice_get (slice_set cs k q) k) (slice_get x.cores k)
        own =
            let d = some_there x.cores k lt in
            ap (λ xs. xs ++ acts_by b k (act_list (quiet_act b map k row x.world c))) (pending_is b map k x.world row c d.is (slice_get b.core k) (slice_get cs k) (slice_get x.cores k) at.row_is at.there d.there)
            ∙ more_acts b map (has_room b x) x.world k row c d.is (behind k c at.there row d.is at.row_is d.there)
            ∙ sym (pending_is b map k x.world row q d.is (slice_get b.core k) (slice_get (slice_set cs k q) k) (slice_get x.cores k) at.row_is (slice_get-set_same cs k c q at.there) d.there)

        next : (t : Bool) → eqb a k ≡ t → then' a ++ acts_by b a (act_list (quiet_act b map k row x.world c)) ≡ pending b map a x.world (slice_get b.core a) (slice_get (slice_set cs k q) a) (slice_get x.cores a)
        next true e =
            let i : k ≡ a = grind (arith, nat_tests) in
            subst (λ a. then' a ++ acts_by b a (act_list (quiet_act b map k row x.world c)) ≡ pending b map a x.world (slice_get b.core a) (slice_get (slice_set cs k q) a) (slice_get x.cores a)) i own
        next false e =
            let n : a ≢ k = grind (arith, nat_tests) in
            ap (λ xs. then' a ++ xs) (quiet_not_by b map k row a n x.world c) ∙ append_nil (then' a)
            ∙ ap (λ (o : Option Core). pending b map a x.world (slice_get b.core a) o (slice_get x.cores a)) (sym (slice_get-set_other cs k a q n))

    quiet_ahead : (k : ℕ) (row : CoreRow) (c : Core) → IsCoreAt b (over x cs) k row c → IsQuiet b map k row (has_room b x) x.world c → IsAhead (put (over x cs) k (quiet b map k row x.world c)) (made ++ act_list (quiet_act b map k row x.world c))
    quiet_ahead k row c at q = record {
      base = x;
      cores = slice_set cs k (quiet b map k row x.world c);
      ahead = refl;
      based = based;
      count = length-set cs k (quiet b map k row x.world c) ∙ count;
      behind = set_each (λ (j : ℕ) (y : Core). (r : CoreRow) (d : Core) → slice_get b.core j ≡ Some r → slice_get x.cores j ≡ Some d → IsBehind b map (has_room b x) x.world j r y d) cs k (quiet b map k row x.world c)
          (λ r d i e. let same : row ≡ r = same_some row r (sym at.row_is ∙ i) in
          subst (λ (r : CoreRow). IsBehind b map (has_room b x) x.world k r (quiet b map k row x.world c) d) same
          (more_behind b map (has_room b x) x.world k row c d (behind k c at.there row d at.row_is e) at.runs q))
          (λ j y e n. behind j y e);
      acted = quiet_acted k row c at;
    }

    others_behind : (v : World) (j : ℕ) (y : Core) (then' : Bool) → KnowsSame b j x.world.book v.book → has_room b x ≡ true → slice_get cs j ≡ Some y → (r : CoreRow) (d : Core) → slice_get b.core j ≡ Some r → slice_get x.cores j ≡ Some d → IsBehind b map then' v j r y d
    others_behind v j y then' same room e r d i f = moved_behind b map (has_room b x) then' x.world v j r y d same room (behind j y e r d i f)

    module _ (k : ℕ) (row : CoreRow) (c : Core) (request : Request) (at : IsCoreAt b (over x cs) k row c) (e : wants b map k row x.world.book c ≡ Some request) (room : has_room b x ≡ true) where
      abbrev t : CoreTurn
      t = core_turn b map k row c x.world

      abbrev entry : Entry
      entry = entry_of k c t request

      abbrev next : Machine
      next = record { world = t.world; cores = slice_set x.cores k t.core; entries = x.entries ++ entry ∷ []; script = x.script }

      known : (j : ℕ) → j < length b.core → j ≢ k → KnowsSame b j x.world.book t.world.book
      known j lt n = subst (λ (y : Made). KnowsSame b j x.world.book y.machine.world.book) (turn_enters b map k row (over x cs) c at request e room) (known_same b images map valid is (over x cs) kept k j lt n)

      gone : (d : Core) → slice_get x.cores k ≡ Some d → run b map x (replicate (c.local + 1) k) ≡ next
      gone d there =
          let z = behind k c at.there row d at.row_is there in
          let y : Machine = put x k c in
          let more : c.local + 1 ≡ suc c.local = omega arith in
          ap (λ n. run b map x (replicate n k)) more
          ∙ sym (one_more b map k c.local x)
          ∙ ap (λ (y : Machine). (turn b map y k).machine) (block b map k row x d at.row_is there c.local z.quiet_turns ∙ ap (put x k) (sym z.then))
          ∙ ap (λ (y : Made). y.machine) (turn_enters b map k row y c (record { row_is = at.row_is; there = slice_get-set_same x.cores k d c there; runs = at.runs }) request e room)
          ∙ ap (λ (ys : List Core). record { world = t.world; cores = ys; entries = x.entries ++ entry ∷ []; script = x.script }) (set_twice x.cores k c t.core)

      local_none : t.core.local ≡ 0
      local_none = entered_local b map k row c x.world request e

      gone_acts : (d : Core) → slice_get x.cores k ≡ Some d → acts b map x (replicate (c.local + 1) k) ≡ quiet_acts b map k row x.world c.local d ++ act_list t.act
      gone_acts d there =
          let z = behind k c at.there row d at.row_is there in
          let y : Machine = put x k c in
          let more : c.local + 1 ≡ suc c.local = omega arith in
          ap (λ n. acts b map x (replicate n k)) more
          ∙ acts_last b map k c.local x
          ∙ ap (λ xs. xs ++ act_list (turn b map (run b map x (replicate c.local k)) k).act) (block_acts b map k row x d at.row_is there c.local z.quiet_turns)
          ∙ ap (λ (y : Made). quiet_acts b map k row x.world c.local d ++ act_list y.act) (
          ap (λ (y : Machine). turn b map y k) (block b map k row x d at.row_is there c.local z.quiet_turns ∙ ap (put x k) (sym z.then))
          ∙ turn_enters b map k row y c (record { row_is = at.row_is; there = slice_get-set_same x.cores k d c there; runs = at.runs }) request e room)

      enters_acted : (a : ℕ) → acts_by b a (made ++ act_list t.act) ≡ acts_by b a (acts b map first (entry_turns next.entries)) ++ pending b map a t.world (slice_get b.core a) (slice_get (slice_set cs k t.core) a) (slice_get next.cores a)
      enters_acted a = joined a t.act ∙ at_actor (eqb a k) refl ∙ ap (λ xs. xs ++ then_now a) (sym (acts_more a entry))
        where
          then_now : ℕ → List Act
          then_now a = pending b map a t.world (slice_get b.core a) (slice_get (slice_set cs k t.core) a) (slice_get next.cores a)

          lt : k < length x.cores
          lt = let less = within cs k c at.there in omega (arith, count)

          d : Core
          d = (some_there x.cores k lt).is

          there : slice_get x.cores k ≡ Some d
          there = (some_there x.cores k lt).there

          quiets_first : (a : ℕ) → acts_by b a (acts b map x (replicate (c.local + 1) k)) ≡ acts_by b a (quiet_acts b map k row x.world c.local d) ++ acts_by b a (act_list t.act)
          quiets_first a = ap (acts_by b a) (gone_acts d there) ∙ filter-append (is_act_by b a) (quiet_acts b map k row x.world c.local d) (act_list t.act)

          own : (before k ++ then' k) ++ acts_by b k (act_list t.act) ≡ (before k ++ acts_by b k (acts b map x (replicate (c.local + 1) k))) ++ then_now k
          own = own_last (before k) (then' k) (acts_by b k (act_list t.act)) (acts_by b k (acts b map x (replicate (c.local + 1) k))) (then_now k)
              (quiets_first k ∙ ap (λ xs. xs ++ acts_by b k (act_list t.act)) (sym (pending_is b map k x.world row c d (slice_get b.core k) (slice_get cs k) (slice_get x.cores k) at.row_is at.there there)))
              (pending_fresh b map k t.world (slice_get b.core k) (slice_get (slice_set cs k t.core) k) (slice_get next.cores k) (λ f g. ap (λ (y : Core). y.local) (same_some f t.core (sym g ∙ slice_get-set_same cs k c t.core at.there)) ∙ local_none))

          at_actor : (u : Bool) → eqb a k ≡ u → (before a ++ then' a) ++ acts_by b a (act_list t.act) ≡ (before a ++ acts_by b a (acts b map x (replicate (c.local + 1) k))) ++ then_now a
          at_actor true i = let same : k ≡ a = grind (arith, nat_tests) in subst (λ a. (before a ++ then' a) ++ acts_by b a (act_list t.act) ≡ (before a ++ acts_by b a (acts b map x (replicate (c.local + 1) k))) ++ then_now a) same own
          at_actor false i =
              let n : a ≢ k = grind (arith, nat_tests) in
              none_last (before a) (then' a) (acts_by b a (act_list t.act)) (acts_by b a (acts b map x (replicate (c.local + 1) k))) (then_now a)
              (not_by b a k n t.act (turn_act b map k row c x.world))
              (quiets_first a ∙ both_none (acts_by b a (quiet_acts b map k row x.world c.local d)) (acts_by b a (act_list t.act)) (quiets_not_by b map k row a n x.world c.local d) (not_by b a k n t.act (turn_act b map k row c x.world)))
              (sym (still t.world a (λ r f. known a (within b.core a r f) n) room)
              ∙ ap (λ (o : Option Core). pending b map a t.world (slice_get b.core a) o (slice_get x.cores a)) (sym (slice_get-set_other cs k a t.core n))
              ∙ ap (λ (o : Option Core). pending b map a t.world (slice_get b.core a) (slice_get (slice_set cs k t.core) a) o) (sym (slice_get-set_other x.cores k a t.core n)))

      enters_ahead : IsAhead (entered (over x cs) k t entry).machine (made ++ act_list t.act)
      enters_ahead =
          let lt = within cs k c at.there in
          let d = some_there x.cores k (omega (arith, count)) in
          record {
            base = next;
            cores = slice_set cs k t.core;
            ahead = refl;
            based = based_more entry next (gone d.is d.there);
            count = length-set cs k t.core ∙ count ∙ sym (length-set x.cores k t.core);
            behind = set_each (λ (j : ℕ) (y : Core). (r : CoreRow) (d : Core) → slice_get b.core j ≡ Some r → slice_get (slice_set x.cores k t.core) j ≡ Some d → IsBehind b map (has_room b next) t.world j r y d) cs k t.core
                (λ r f i e. let same : t.core ≡ f = same_some t.core f (sym (slice_get-set_same x.cores k d.is t.core d.there) ∙ e) in
                subst (IsBehind b map (has_room b next) t.world k r t.core) same (fresh_behind b map (has_room b next) t.world k r t.core local_none))
                (λ j y g n r f i e. others_behind t.world j y (has_room b next) (known j (within b.core j r i) n) room g r f i (sym (slice_get-set_other x.cores k j t.core n) ∙ e));
            acted = enters_acted;
          }

    module _ (event : DeviceEvent) (script : List DeviceEvent) (e : x.script ≡ event ∷ script) (room : has_room b x ≡ true) where
      abbrev u : Transferred
      u = transferred b map (length b.core) x.world (request_for event)

      abbrev happened : Machine
      happened = (event_made b x event script u).machine

      event_known : (j : ℕ) → j < length b.core → KnowsSame b j x.world.book u.world.book
      event_known j lt = subst (λ (y : Made). KnowsSame b j x.world.book y.machine.world.book) (turn_event b map (over x cs) event script e room) (known_same b images map valid is (over x cs) kept (length b.core) j lt (λ i. omega arith))

      event_gone : run b map x (replicate (0 + 1) (length b.core)) ≡ happened
      unfolding run
      event_gone = ap (λ (y : Made). y.machine) (turn_event b map x event script e room)

      abbrev its : Option Act
      its = Some (acts_of.Device event)

      event_acts : acts b map x (replicate (0 + 1) (length b.core)) ≡ act_list its
      event_acts = acts_one b map (length b.core) x ∙ ap (λ (y : Made). act_list y.act) (turn_event b map x event script e room)

      event_acted : (a : ℕ) → acts_by b a (made ++ act_list its) ≡ acts_by b a (acts b map first (entry_turns happened.entries)) ++ pending b map a u.world (slice_get b.core a) (slice_get cs a) (slice_get happened.cores a)
      event_acted a = joined a its ∙ at_actor (eqb (length b.core) a) refl ∙ ap (λ xs. (before a ++ acts_by b a xs) ++ then_now) (sym event_acts) ∙ ap (λ xs. xs ++ then_now) (sym (acts_more a (record { actor = length b.core; local = 0; request = request_for event; reply = u.reply })))
        where
          then_now : List Act
          then_now = pending b map a u.world (slice_get b.core a) (slice_get cs a) (slice_get x.cores a)

          no_row : length b.core ≡ a → slice_get b.core a ≡ None
          no_row i = slice_get_past b.core a (omega arith)

          at_actor : (t : Bool) → eqb (length b.core) a ≡ t → (before a ++ then' a) ++ acts_by b a (act_list its) ≡ (before a ++ acts_by b a (act_list its)) ++ then_now
          at_actor true i =
              let same : length b.core ≡ a = grind (arith, nat_tests) in
              none_between (before a) (then' a) (acts_by b a (act_list its)) then_now
              (pending_none b map a x.world (slice_get b.core a) (slice_get cs a) (slice_get x.cores a) (no_row same))
              (pending_none b map a u.world (slice_get b.core a) (slice_get cs a) (slice_get x.cores a) (no_row same))
          at_actor false i =
              let none : acts_by b a (act_list its) ≡ [] = ap (λ (t : Bool). cond t (acts_of.Device event ∷ []) []) i in
              none_last (before a) (then' a) (acts_by b a (act_list its)) (acts_by b a (act_list its)) then_now none none (sym (still u.world a (λ r f. event_known a (within b.core a r f)) room))

      event_ahead : IsAhead (event_made b (over x cs) event script u).machine (made ++ act_list its)
      event_ahead = record {
        base = happened;
        cores = cs;
        ahead = refl;
        based = based_more (record { actor = length b.core; local = 0; request = request_for event; reply = u.reply }) happened event_gone;
        count = count;
        behind = λ j y g r d i f. others_behind u.world j y (has_room b happened) (event_known j (within b.core j r i)) room g r d i f;
        acted = event_acted;
      }

    here : IsAhead (over x cs) (made ++ [])
    here = record { base = x; cores = cs; ahead = refl; based = based; count = count; behind = behind; acted = λ a. ap (acts_by b a) (append_nil made) ∙ acted a }

    turn_ahead : (actor : ℕ) → IsAhead (turn b map (over x cs) actor).machine (made ++ act_list (turn b map (over x cs) actor).act)
    turn_ahead actor =
        turn_cases b map (over x cs) kept.count actor (λ (n : Made). IsAhead n.machine (made ++ act_list n.act)) (λ o. here)
        (λ row c at q. quiet_ahead actor row c at q)
        (λ row c request at e room. enters_ahead actor row c request at e room)
        (λ event script a e room. event_ahead event script e room)

  next_ahead : (m : Machine) (made : List Act) (actor : ℕ) → IsBookKept b map m → IsAhead m made → IsAhead (turn b map m actor).machine (made ++ act_list (turn b map m actor).act)
  next_ahead m made actor kept h =
      subst (λ (y : Machine). IsAhead (turn b map y actor).machine (made ++ act_list (turn b map y actor).act)) (sym h.ahead)
      (turn_ahead h.base h.cores h.based h.count h.behind (subst (IsBookKept b map) h.ahead kept) made h.acted actor)

  run_ahead : (order : List ℕ) (m : Machine) (made : List Act) → IsBookKept b map m → IsAhead m made → IsAhead (run b map m order) (made ++ acts b map m order)
  unfolding run acts
  run_ahead [] m made kept h = subst (IsAhead m) (sym (append_nil made)) h
  run_ahead (actor ∷ order) m made kept h =
      let y = turn b map m actor in
      subst (IsAhead (run b map y.machine order)) (append_assoc made (act_list y.act) (acts b map y.machine order) ∙ ap (λ xs. made ++ xs) (act_first y.act (acts b map y.machine order)))
      (run_ahead order y.machine (made ++ act_list y.act) (book_kept b images map valid is m kept actor) (next_ahead m made actor kept h))

-- ---- from there the turns of the tails
module _ (b : Board) (map : AddressMap) (x : Machine) where
  tail_step : (before ds : List Core) (row : CoreRow) (c d : Core) → slice_get b.core (length before) ≡ Some row → IsBehind b map (has_room b x) x.world (length before) row c d → run b map (over x (before ++ d ∷ ds)) (replicate c.local (length before)) ≡ over x ((before ++ c ∷ []) ++ ds)
  tail_step before ds row c d there z =
      block b map (length before) row (over x (before ++ d ∷ ds)) d there (get_next before d ds) c.local z.quiet_turns
      ∙ ap (put (over x (before ++ d ∷ ds)) (length before)) (sym z.then)
      ∙ ap (over x) (set_next before d c ds ∙ sym (append_assoc before (c ∷ []) ds))

  abbrev AreTails : List Core → List Core → List Core → Type 0
  AreTails before cs ds = (j : ℕ) (c : Core) → slice_get cs j ≡ Some c → (row : CoreRow) (d : Core) → slice_get b.core (length before + j) ≡ Some row → slice_get ds j ≡ Some d → IsBehind b map (has_room b x) x.world (length before + j) row c d

  abbrev TailActs : ℕ → List Core → List Core → List Core → Type 0
  TailActs a before cs ds =
      (a < length before → acts_by b a (acts b map (over x (before ++ ds)) (actors_in (tail_turns (length before) (locals_of cs)))) ≡ [])
      × ((j : ℕ) → a ≡ length before + j → acts_by b a (acts b map (over x (before ++ ds)) (actors_in (tail_turns (length before) (locals_of cs)))) ≡ pending b map a x.world (slice_get b.core a) (slice_get cs j) (slice_get ds j))

  next_tail : (before cs ds : List Core) (c d : Core) → AreTails before (c ∷ cs) (d ∷ ds) → AreTails (before ++ c ∷ []) cs ds
  next_tail before cs ds c d h j y e r f i g =
      let count : length (before ++ c ∷ []) ≡ length before + 1 = length-append before (c ∷ []) ∙ omega arith in
      let to : length (before ++ c ∷ []) + j ≡ length before + suc j = omega (arith, count) in
      subst (λ i. IsBehind b map (has_room b x) x.world i r y f) (sym to) (h (suc j) y e r f (ap (slice_get b.core) (sym to) ∙ i) g)

  first_tail : (before cs ds : List Core) (c d : Core) (row : CoreRow) → slice_get b.core (length before) ≡ Some row → AreTails before (c ∷ cs) (d ∷ ds) → IsBehind b map (has_room b x) x.world (length before) row c d
  first_tail before cs ds c d row there h =
      let same : length before + 0 ≡ length before = omega arith in
      subst (λ i. IsBehind b map (has_room b x) x.world i row c d) same (h 0 c refl row d (ap (slice_get b.core) same ∙ there) refl)

  tails_run : (before cs ds : List Core) → length cs ≡ length ds → length before + length cs ≡ length b.core → AreTails before cs ds → run b map (over x (before ++ ds)) (actors_in (tail_turns (length before) (locals_of cs))) ≡ over x (before ++ cs)
  tails_run before [] [] l n h = run-none b map (over x (before ++ []))
  tails_run before [] (d ∷ ds) l n h = absurd (omega arith)
  tails_run before (c ∷ cs) [] l n h = absurd (omega arith)
  tails_run before (c ∷ cs) (d ∷ ds) l n h =
      let k = length before in
      let row = some_there b.core k (omega arith) in
      let rest : List ℕ = actors_in (tail_turns (k + 1) (locals_of cs)) in
      let more : List Core = before ++ c ∷ [] in
      let count : length more ≡ k + 1 = length-append before (c ∷ []) ∙ omega arith in
      run-append b map (replicate c.local k) rest (over x (before ++ d ∷ ds))
      ∙ ap (λ (y : Machine). run b map y rest) (tail_step before ds row.is c d row.there (first_tail before cs ds c d row.is row.there h))
      ∙ ap (λ i. run b map (over x (more ++ ds)) (actors_in (tail_turns i (locals_of cs)))) (sym count)
      ∙ tails_run more cs ds (omega arith) (omega (arith, count)) (next_tail before cs ds c d h)
      ∙ ap (over x) (append_assoc before (c ∷ []) cs)

  no_acts : (a : ℕ) (before : List Core) → TailActs a before [] []
  unfolding pending
  no_acts a before = (λ lt. ap (acts_by b a) (acts_none b map (over x (before ++ []))), λ j e. ap (acts_by b a) (acts_none b map (over x (before ++ []))) ∙ sym (none (slice_get b.core a)))
    where
      none : (r : Option CoreRow) → pending b map a x.world r None None ≡ []
      none None = refl
      none (Some row) = refl

  tails_acts : (a : ℕ) (before cs ds : List Core) → length cs ≡ length ds → length before + length cs ≡ length b.core → AreTails before cs ds → TailActs a before cs ds
  tails_acts a before [] [] l n h = no_acts a before
  tails_acts a before [] (d ∷ ds) l n h = absurd (omega arith)
  tails_acts a before (c ∷ cs) [] l n h = absurd (omega arith)
  tails_acts a before (c ∷ cs) (d ∷ ds) l n h =
      let count : length (before ++ c ∷ []) ≡ length before + 1 = length-append before (c ∷ []) ∙ omega arith in
      at count (tails_acts a (before ++ c ∷ []) cs ds (omega arith) (omega (arith, count)) (next_tail before cs ds c d h))
    where
      lt : length before < length b.core
      lt = omega (arith, n)

      row : CoreRow
      row = (some_there b.core (length before) lt).is

      row_is : slice_get b.core (length before) ≡ Some row
      row_is = (some_there b.core (length before) lt).there

      z : IsBehind b map (has_room b x) x.world (length before) row c d
      z = first_tail before cs ds c d row row_is h

      own : List Act
      own = acts_by b a (quiet_acts b map (length before) row x.world c.local d)

      rest : List Act
      rest = acts_by b a (acts b map (over x ((before ++ c ∷ []) ++ ds)) (actors_in (tail_turns (length (before ++ c ∷ [])) (locals_of cs))))

      split : length (before ++ c ∷ []) ≡ length before + 1 → acts_by b a (acts b map (over x (before ++ d ∷ ds)) (actors_in (tail_turns (length before) (locals_of (c ∷ cs))))) ≡ own ++ rest
      split count =
          let m : Machine = over x (before ++ d ∷ ds) in
          let order : List ℕ = actors_in (tail_turns (length before + 1) (locals_of cs)) in
          ap (acts_by b a) (acts-append b map (replicate c.local (length before)) order m)
          ∙ filter-append (is_act_by b a) (acts b map m (replicate c.local (length before))) (acts b map (run b map m (replicate c.local (length before))) order)
          ∙ ap (λ xs. acts_by b a xs ++ acts_by b a (acts b map (run b map m (replicate c.local (length before))) order)) (block_acts b map (length before) row m d row_is (get_next before d ds) c.local z.quiet_turns)
          ∙ ap (λ (y : Machine). own ++ acts_by b a (acts b map y order)) (tail_step before ds row c d row_is z)
          ∙ ap (λ i. own ++ acts_by b a (acts b map (over x ((before ++ c ∷ []) ++ ds)) (actors_in (tail_turns i (locals_of cs))))) (sym count)

      at : length (before ++ c ∷ []) ≡ length before + 1 → TailActs a (before ++ c ∷ []) cs ds → TailActs a before (c ∷ cs) (d ∷ ds)
      at count next = (λ less. split count ∙ both_none own rest (quiets_not_by b map (length before) row a (λ e. omega arith) x.world c.local d) (next.0 (omega (arith, count))), each)
        where
          each : (j : ℕ) → a ≡ length before + j → acts_by b a (acts b map (over x (before ++ d ∷ ds)) (actors_in (tail_turns (length before) (locals_of (c ∷ cs))))) ≡ pending b map a x.world (slice_get b.core a) (slice_get (c ∷ cs) j) (slice_get (d ∷ ds) j)
          each zero e =
              let same : length before ≡ a = omega arith in
              split count ∙ ap (λ xs. own ++ xs) (next.0 (omega (arith, count))) ∙ append_nil own
              ∙ ap (λ k. acts_by b a (quiet_acts b map k row x.world c.local d)) same
              ∙ sym (pending_is b map a x.world row c d (slice_get b.core a) (Some c) (Some d) (ap (slice_get b.core) (sym same) ∙ row_is) refl refl)
          each (suc j) e =
              split count ∙ ap (λ xs. xs ++ rest) (quiets_not_by b map (length before) row a (λ i. omega arith) x.world c.local d) ∙ next.1 j (omega (arith, count))

module _ (b : Board) (images : List Image) (map : AddressMap) (valid : IsValid b) (is : map ≡ address_map b images) where
  module _ (first m : Machine) (made : List Act) (kept : IsBookKept b map m) (h : IsAhead b images map valid is first m made) where
    as_many : 0 + length h.cores ≡ length b.core
    as_many = omega (arith, ap (λ (y : Machine). length y.cores) h.ahead, kept.count)

    all_tails : AreTails b map h.base [] h.cores h.base.cores
    all_tails j y e r d i g = let same : j ≡ 0 + j = omega arith in subst (λ n. IsBehind b map (has_room b h.base) h.base.world n r y d) same (h.behind j y e r d (ap (slice_get b.core) same ∙ i) g)

    abbrev last_turns : List ℕ
    last_turns = actors_in (tail_turns 0 (tails (over h.base h.cores)))

    order_is : actors_of (journal_of (over h.base h.cores)) ≡ entry_turns h.base.entries ++ last_turns
    order_is = flat_map-append (λ group. replicate group.1 group.0) (groups_of h.base.entries) (tail_turns 0 (tails (over h.base h.cores)))

    replays : run b map first (actors_of (journal_of m)) ≡ m
    replays =
        subst (λ (y : Machine). run b map first (actors_of (journal_of y)) ≡ y) (sym h.ahead) (
        ap (run b map first) order_is
        ∙ run-append b map (entry_turns h.base.entries) last_turns first
        ∙ ap (λ (y : Machine). run b map y last_turns) h.based
        ∙ tails_run b map h.base [] h.cores h.base.cores h.count as_many all_tails)

    -- and each actor makes its own acts
    replays_acts : (a : ℕ) → acts_by b a (acts b map first (actors_of (journal_of m))) ≡ acts_by b a made
    replays_acts a =
        ap (λ (y : Machine). acts_by b a (acts b map first (actors_of (journal_of y)))) h.ahead
        ∙ ap (λ order. acts_by b a (acts b map first order)) order_is
        ∙ ap (acts_by b a) (acts-append b map (entry_turns h.base.entries) last_turns first)
        ∙ filter-append (is_act_by b a) (acts b map first (entry_turns h.base.entries)) (acts b map (run b map first (entry_turns h.base.entries)) last_turns)
        ∙ ap (λ (y : Machine). acts_by b a (acts b map first (entry_turns h.base.entries)) ++ acts_by b a (acts b map y last_turns)) h.based
        ∙ ap (λ xs. acts_by b a (acts b map first (entry_turns h.base.entries)) ++ xs) ((tails_acts b map h.base a [] h.cores h.base.cores h.count as_many all_tails).1 a (omega arith))
        ∙ sym (h.acted a)

pub fresh_started : (rows : List CoreRow) (images : List Image) (k : ℕ) (c : Core) → slice_get (started_cores rows images) k ≡ Some c → c.local ≡ 0
fresh_started [] images k c e = absurd (cc)
fresh_started (row ∷ rows) [] k c e = absurd (cc)
fresh_started (row ∷ rows) (image ∷ images) zero c e = ap (λ (d : Core). d.local) (same_some c (started_core row image) (sym e))
fresh_started (row ∷ rows) (image ∷ images) (suc k) c e = fresh_started rows images k c e

starts_ahead : (b : Board) (images : List Image) (map : AddressMap) (valid : IsValid b) (is : map ≡ address_map b images) → IsAhead b images map valid is (start b images) (start b images) []
unfolding run
starts_ahead b images map valid is = record {
  base = start b images;
  cores = started_cores b.core images;
  ahead = refl;
  based = refl;
  count = refl;
  behind = λ k c e row d i f. subst (IsBehind b map (has_room b (start b images)) (start b images).world k row c) (same_some c d (sym e ∙ f)) (fresh_behind b map (has_room b (start b images)) (start b images).world k row c (fresh_started b.core images k c e));
  acted = λ a. sym (both_none (acts_by b a (acts b map (start b images) [])) (pending b map a (start b images).world (slice_get b.core a) (slice_get (started_cores b.core images) a) (slice_get (started_cores b.core images) a)) (ap (acts_by b a) (acts_none b map (start b images)))
      (pending_fresh b map a (start b images).world (slice_get b.core a) (slice_get (started_cores b.core images) a) (slice_get (started_cores b.core images) a) (λ c e. fresh_started b.core images a c e)));
}

module _ (b : Board) (images : List Image) (map : AddressMap) (order : List ℕ) (valid : IsValid b) (is : map ≡ address_map b images) (long : length images ≡ length b.core) where
  ends_kept : IsBookKept b map (run b map (start b images) order)
  ends_kept = run_kept b images map valid is order (start b images) (start_kept b images map long)

  ends_ahead : IsAhead b images map valid is (start b images) (run b map (start b images) order) (acts b map (start b images) order)
  ends_ahead = run_ahead b images map valid is (start b images) order (start b images) [] (start_kept b images map long) (starts_ahead b images map valid is)

  pub run_replays : run b map (start b images) (actors_of (journal_of (run b map (start b images) order))) ≡ run b map (start b images) order
  run_replays = replays b images map valid is (start b images) (run b map (start b images) order) (acts b map (start b images) order) ends_kept ends_ahead

  pub same_acts : (a : ℕ) → acts_by b a (acts b map (start b images) (actors_of (journal_of (run b map (start b images) order)))) ≡ acts_by b a (acts b map (start b images) order)
  same_acts = replays_acts b images map valid is (start b images) (run b map (start b images) order) (acts b map (start b images) order) ends_kept ends_ahead
