-- Each turn of a core keeps the agreement of that core, and leaves the others what is theirs.
use Rattle.std.proofs.Common.{◌≡◌, ◌≢◌, ℕ, ◌/◌, ◌<◌, ◌%◌, Bool, true, false, cond, eqb, List, ◌∷◌, length, slice_set, Option, Some, None, refl, ap, sym, ◌∙◌, arith, subst, ◌⊎◌, inl, inr}
use Rattle.std.specs.Prelude.{option_map}
use Rattle.std.proofs.lemmas.Bool.Decides.{nat_tests}
use Rattle.std.proofs.lemmas.List.{get_or-set_same}
use Rattle.n2_word.specs.declared.Width.{Width}
use Rattle.n2_word.specs.declared.Width.TheVariants.{Word}
use Rattle.n2_word.specs.Lines.{line, read_in_line, written_in_line, without_bypass}
use Rattle.n2_insn.specs.declared.DataOp.{DataOp}
use Rattle.n2_insn.specs.declared.DataOp.TheVariants.{Initd, Initda, Flushd, Flushda}
use Rattle.n2_exec.specs.declared.registers.Regs.{Regs}
use Rattle.n2_exec.specs.declared.Outcome.{Outcome}
use Rattle.n2_exec.specs.declared.Outcome.TheVariants as outcomes
use Rattle.n2_exec.specs.Registers.{interrupted, is_waiting}
use Rattle.n2_exec.specs.Outcomes.{regs_of, asked_of}
use Rattle.n2_exec.specs.Effect.{effect_of_word}
use Rattle.n2_parts.specs.declared.board.Board.{Board}
use Rattle.n2_parts.specs.declared.stops.Stop.{Stop}
use Rattle.n2_parts.specs.declared.stops.Act.{Act}
use Rattle.n2_parts.specs.declared.stops.Act.TheVariants as acts
use Rattle.n2_parts.specs.MemoryLines.{HasLine}
use Rattle.n2_board.specs.declared.guards.Guard.{Guard}
use Rattle.n2_board.specs.Access.{fetch_violation}
use Rattle.n2_board.specs.declared.access.Violation.{Violation}
use Rattle.n2_parts.specs.declared.board.CoreRow.{CoreRow}
use Rattle.n2_board.specs.AddressMap.{AddressMap, class_of}
use Rattle.n2_dcache.specs.declared.Held.{Held}
use Rattle.n2_dcache.specs.Cache.{slot_at, own_set, is_line, is_dirty, has_line, words_of, read_in, found, loaded, filled, stored, stored_in, set_dropped, clean_line}
use Rattle.n2_memory.specs.Memories.{Contents, line_at, with_line, read_at, written_at}
use Rattle.n2_bus.specs.declared.request.Request.{Request}
use Rattle.n2_bus.specs.declared.request.Request.TheVariants.{FillData, WriteBack, Read, Write}
use Rattle.n2_bus.specs.declared.request.Reply.{Reply}
use Rattle.n2_bus.specs.Wiring.{wiring_of}
use Rattle.n2_bus.specs.Transfer.{served, one_word, lines_of}
use Rattle.n2_watch.specs.declared.past.Past.{Past}
use Rattle.n2_watch.specs.declared.past.Past.TheVariants.{Touch, Clean}
use Rattle.n2_watch.specs.Past.{may, dirty, covers}
use Rattle.n2_watch.specs.declared.access.Access.TheVariants as accesses
use Rattle.n2_watch.specs.Discipline.{Breach, breach, violation}
use Rattle.n2_watch.specs.Book.{Book, owned_by, sets_of, guards_touched}
use Rattle.n2_watch.specs.World.{World, Transferred, transferred}
use Rattle.n2_watch.specs.Kept.{may_write}
use Rattle.n2_front.specs.Front.{Front, with_regs, advanced, stopped, noted, loaded_front, stored_front}
use Rattle.n2_front.specs.Tasks as tasks
use Rattle.n2_front.specs.Tasks.{Task, task_of, task_breach, task_address, stop_for}
use Rattle.n2_front.specs.Retire.{Acted, acted, who, done, done_past, replied_front, regs_replied, judged, executed, with_word, fetched, retired}
use Rattle.n2_front.specs.Core.{Core, TurnKind, SampleTurn, EvictTurn, StepTurn, turn_kind, evicted_set}
use Rattle.n2_front.specs.Turn.{Intent, Samples, Evicts, Interrupts, Stops, FillsCode, Does, back, filled_or, wants_by, turned, direct, emptied, CoreTurn, served_by, turn_of, turn_with, judged_task, executes, with_code, fetches, steps, intent_by, core_turn}
use Rattle.n2_runs.specs.FlatRun.{sampled_by}
use Rattle.n2_runs.specs.Agree.{is_code, may_read}
use Rattle.n2_runs.proofs.Lists.{set_any}
use Rattle.n2_runs.specs.Along.{dirty_in, dirty_at, IsOwnWell, IsCodeHeld, AreCodesWell}
use Rattle.n2_runs.proofs.Lines.{written_same, written_other, written_of}
use Rattle.n2_runs.proofs.Rights.{IsLaidOut, Passes, passes, Reached, InMemory, AtDevice, reached, stored_past, loaded_past, not_true, is_uncached, uncached-write, uncached-read, code-write, code-read}
use Rattle.n2_runs.proofs.Solo.{AreFresh, IsSolo, mem_after, IsThere, touch_keeps, evict_keeps, drop_keeps, fill_keeps, hit_keeps, store_keeps, poke_keeps, clean_keeps}
use Rattle.n2_runs.proofs.Locks.{own_keeps}
use Rattle.n2_watch.proofs.KeptDevices.{IsExchange, none_unflushed}
use Rattle.n2_runs.proofs.Bypass.{world_of, put_memory, got_memory, put_left, put_book, put_reply, got_left, got_book, got_reply}

pub codes_stay : (b : Board) (map : AddressMap) (flat flat' : Contents) (codes : List (Option Held)) → ((l : ℕ) → HasLine b.memory l → is_code (class_of map l) ≡ true → line_at flat' l ≡ line_at flat l) → AreCodesWell b map flat codes → AreCodesWell b map flat' codes
codes_stay b map flat flat' codes f h s e i = let w = h s e i in record { inside = w.inside; class = w.class; words = w.words ∙ sym (f e.line w.inside w.class); clean = w.clean }

codes_dropped : (b : Board) (map : AddressMap) (flat : Contents) (codes : List (Option Held)) (s : ℕ) → AreCodesWell b map flat codes → AreCodesWell b map flat (set_dropped codes s)
codes_dropped b map flat codes s h t = set_any (λ (n : ℕ) (o : Option Held). (e : Held) → o ≡ Some e → IsCodeHeld b map flat e) codes s None None (λ e n. absurd (cc)) h t

codes_filled : (b : Board) (map : AddressMap) (flat : Contents) (codes : List (Option Held)) (l : ℕ) (ws : List ℕ) → HasLine b.memory l → is_code (class_of map l) ≡ true → ws ≡ line_at flat l → AreCodesWell b map flat codes → AreCodesWell b map flat (filled codes l ws)
codes_filled b map flat codes l ws i c w h t =
    set_any (λ (n : ℕ) (o : Option Held). (e : Held) → o ≡ Some e → IsCodeHeld b map flat e) codes (own_set codes l) (Some (clean_line l ws)) None
    (λ y e. let g : ◌≡◌ {A = Held} (clean_line l ws) y = grind arith in subst (λ (z : Held). IsCodeHeld b map flat z) g (record { inside = i; class = c; words = w; clean = refl })) h t

-- an act of core k
abbrev pub IsActOf : ℕ → Option Act → Type 0
IsActOf k None = Unit {0}
IsActOf k (Some (acts.Retire j)) = j ≡ k
IsActOf k (Some (acts.Sample j)) = j ≡ k
IsActOf k (Some (acts.Device event)) = ⊥

-- a turn of core k beside what the flat machine makes of the core, the memory and the book
pub record IsStep (b : Board) (map : AddressMap) (k : ℕ) (others : ℕ → Type 0) (book : Book) (flat : Contents) (t : CoreTurn) (a : Acted) : Type 0 where
  pub its : IsActOf k t.act
  pub front : t.core.front ≡ a.front
  pub book_is : t.world.book ≡ a.world.book
  pub solo : IsSolo b map k (sets_of b k) others (owned_by b a.world.book k) t.world.memory a.world.memory t.core.data_slots a.front.past
  pub codes : AreCodesWell b map a.world.memory t.core.code_slots
  pub owned : (j : ℕ) (g : Guard) → j < length b.core → j ≢ k → owned_by b a.world.book j g ≡ owned_by b book j g
  pub words : (j l : ℕ) → j < length b.core → j ≢ k → HasLine b.memory l → may_read (class_of map l) j (owned_by b book j) ≡ true → line_at a.world.memory l ≡ line_at flat l
  pub code_words : (l : ℕ) → HasLine b.memory l → is_code (class_of map l) ≡ true → line_at a.world.memory l ≡ line_at flat l

-- what the flat machine makes beside an act
abbrev pub picks : Option Act → Acted → Acted → Acted → Acted
picks None x r s = x
picks (Some (acts.Retire k)) x r s = r
picks (Some (acts.Sample k)) x r s = s
picks (Some (acts.Device e)) x r s = x

-- the turn of an intent
abbrev pub turn_for : Board → AddressMap → ℕ → Core → World → Intent → CoreTurn
turn_for b map k c w i = turn_with b map k c w i (wants_by c.data_slots i) (served_by b map k w (wants_by c.data_slots i))

-- what a core holds dirty it may write
pub dirty_right : (b : Board) (map : AddressMap) (own : Guard → Bool) (flat : Contents) (k sets : ℕ) (slots : List (Option Held)) (past : List Past) (l : ℕ) (o : Option Held) → slot_at slots (l % sets) ≡ o → IsOwnWell b map own flat k sets slots past → AreFresh map own k sets past → dirty_in o l ≡ true → may_write (class_of map l) k own ≡ true
dirty_right b map own flat k sets slots past l None e h fresh d = absurd (cc)
dirty_right b map own flat k sets slots past l (Some x) e h fresh d =
    let i : x.line ≡ l = grind (arith, nat_tests) in
    let y : x.dirty ≡ true = grind (arith, nat_tests) in
    sym (ap (λ n. may_write (class_of map n) k own) i) ∙ (fresh x.line ((h.held (l % sets) x e).dirty_is y)).0

pub held_right : (b : Board) (map : AddressMap) (own : Guard → Bool) (flat : Contents) (k sets : ℕ) (slots : List (Option Held)) (past : List Past) (l : ℕ) → IsOwnWell b map own flat k sets slots past → AreFresh map own k sets past → dirty_at sets slots l ≡ true → may_write (class_of map l) k own ≡ true
unfolding dirty_at
held_right b map own flat k sets slots past l h fresh d = dirty_right b map own flat k sets slots past l (slot_at slots (l % sets)) refl h fresh d

-- a line that the core may not write is held clean
pub no_right_clean : (b : Board) (map : AddressMap) (own : Guard → Bool) (flat : Contents) (k sets : ℕ) (slots : List (Option Held)) (past : List Past) (l : ℕ) → may_write (class_of map l) k own ≡ false → IsOwnWell b map own flat k sets slots past → AreFresh map own k sets past → dirty_at sets slots l ≡ false
no_right_clean b map own flat k sets slots past l u h fresh = not_true (dirty_at sets slots l) (λ d. let y = held_right b map own flat k sets slots past l h fresh d in absurd (cc))

touched_may : (sets : ℕ) (past : List Past) (l : ℕ) (store : Bool) → may sets (Touch l store ∷ past) l ≡ true
touched_may sets past l store = grind (arith, nat_tests)

stored_dirty : (sets : ℕ) (past : List Past) (l : ℕ) → dirty sets (Touch l true ∷ past) l ≡ true
stored_dirty sets past l = grind (arith, nat_tests)

-- an access through the cache, by whether its line is held and by what its set holds
abbrev pub asks : Bool → ℕ → Option Held → Option Request
asks x l o = cond x None (filled_or l (back o))

abbrev pub access_with : Board → Core → ℕ → (List (Option Held) → Front) → (List (Option Held) → List (Option Held)) → ℕ → Bool → Bool → Option Request → Transferred → CoreTurn
access_with b c k front after l x d request t =
    turn_of b c request t (cond (cond x false d) (emptied c (own_set c.data_slots l)) (turned c (front (cond x c.data_slots (filled c.data_slots l t.reply.words))) (after (cond x c.data_slots (filled c.data_slots l t.reply.words))) (Some (acts.Retire k))))

module _ (b : Board) (map : AddressMap) (k : ℕ) (others : ℕ → Type 0) (c : Core) (book : Book) (mem flat : Contents) (laid : IsLaidOut b map) (pos : 0 < sets_of b k) (alone : (l : ℕ) → HasLine b.memory l → may_read (class_of map l) k (owned_by b book k) ≡ true → others l) (apart : (l : ℕ) → HasLine b.memory l → is_uncached (class_of map l) ≡ true → others l) (h : IsSolo b map k (sets_of b k) others (owned_by b book k) mem flat c.data_slots c.front.past) (hc : AreCodesWell b map flat c.code_slots) (fresh : AreFresh map (owned_by b book k) k (sets_of b k) c.front.past) (rivals : (j l : ℕ) → j < length b.core → j ≢ k → may_read (class_of map l) j (owned_by b book j) ≡ true → may_write (class_of map l) k (owned_by b book k) ≡ true → ⊥) where
  -- a step that changes the front and the caches alone
  quiet : (t : CoreTurn) (f : Front) → IsActOf k t.act → t.core.front ≡ f → t.world.book ≡ book → t.core.code_slots ≡ c.code_slots → IsSolo b map k (sets_of b k) others (owned_by b book k) t.world.memory flat t.core.data_slots f.past → IsStep b map k others book flat t (acted f (world_of flat book))
  quiet t f i e m q s = record {
    its = i;
    front = e;
    book_is = m;
    solo = s;
    codes = subst (λ (x : List (Option Held)). AreCodesWell b map flat x) (sym q) hc;
    owned = λ j g lt n. refl;
    words = λ j l lt n i r. refl;
    code_words = λ l i r. refl;
  }

  set_is : (l : ℕ) → own_set c.data_slots l ≡ l % sets_of b k
  set_is l = ap (λ n. l % n) h.core.sets_are

  set_below : (l : ℕ) → own_set c.data_slots l < sets_of b k
  set_below l = let e = set_is l in omega arith

  -- ---- a set is emptied
  served_back : (o : Option Held) → (served_by b map k (world_of mem book) (back o)).world ≡ world_of (mem_after mem o) book
  unfolding transferred served
  served_back None = refl
  served_back (Some e) = elim e.dirty as (λ d. (served_by b map k (world_of mem book) (cond d (Some (WriteBack e.line e.words)) None)).world ≡ world_of (cond d (with_line mem e.line e.words) mem) book) [ true ↦ refl | false ↦ refl ]

  emptied_step : (s : ℕ) (request : Option Request) (t : Transferred) → s < sets_of b k → t.world ≡ world_of (mem_after mem (slot_at c.data_slots s)) book → IsStep b map k others book flat (turn_of b c request t (emptied c s)) (acted c.front (world_of flat book))
  emptied_step s request t lt e =
      quiet (turn_of b c request t (emptied c s)) c.front tt refl (ap (λ (w : World). w.book) e) refl
      (subst (λ (m : Contents). IsSolo b map k (sets_of b k) others (owned_by b book k) m flat (set_dropped c.data_slots s) c.front.past) (sym (ap (λ (w : World). w.memory) e)) (evict_keeps b map k (sets_of b k) others (owned_by b book k) mem flat c.data_slots c.front.past s lt fresh h))

  pub evicts_step : (s : ℕ) → s < sets_of b k → IsStep b map k others book flat (turn_for b map k c (world_of mem book) (Evicts s)) (acted c.front (world_of flat book))
  evicts_step s lt = emptied_step s (back (slot_at c.data_slots s)) (served_by b map k (world_of mem book) (back (slot_at c.data_slots s))) lt (served_back (slot_at c.data_slots s))

  -- ---- a fill of code
  code_same : (l : ℕ) → HasLine b.memory l → is_code (class_of map l) ≡ true → line_at mem l ≡ line_at flat l
  code_same l i e = h.memory l i (alone l i (code-read (class_of map l) k (owned_by b book k) e)) (no_right_clean b map (owned_by b book k) flat k (sets_of b k) c.data_slots c.front.past l (code-write (class_of map l) k (owned_by b book k) e) h.core fresh)

  pub fills_step : (l : ℕ) → HasLine b.memory l → is_code (class_of map l) ≡ true → IsStep b map k others book flat (turn_for b map k c (world_of mem book) (FillsCode l)) (acted c.front (world_of flat book))
  unfolding transferred served
  fills_step l i e = record {
    its = tt;
    front = refl;
    book_is = refl;
    solo = h;
    codes = codes_filled b map flat c.code_slots l (line_at mem l) i e (code_same l i e) hc;
    owned = λ j g lt n. refl;
    words = λ j l lt n i r. refl;
    code_words = λ l i r. refl;
  }

  -- ---- loads and stores through the cache
  touched_solo : (l : ℕ) (store : Bool) → IsSolo b map k (sets_of b k) others (owned_by b book k) mem flat c.data_slots (Touch l store ∷ c.front.past)
  touched_solo l store = touch_keeps b map k (sets_of b k) others (owned_by b book k) mem flat c.data_slots c.front.past l store h

  module _ (front : List (Option Held) → Front) (after : List (Option Held) → List (Option Held)) (l : ℕ) (store : Bool) (a : Acted) (z : Acted) (p : Passes b map (owned_by b book k) k (sets_of b k) c.front.past l store) (same : a.world.book ≡ book) (words : (j t : ℕ) → j < length b.core → j ≢ k → HasLine b.memory t → may_read (class_of map t) j (owned_by b book j) ≡ true → line_at a.world.memory t ≡ line_at flat t) (code_words : (t : ℕ) → HasLine b.memory t → is_code (class_of map t) ≡ true → line_at a.world.memory t ≡ line_at flat t) (fin : (s : List (Option Held)) → IsThere b map k (sets_of b k) others (owned_by b book k) mem flat s (Touch l store ∷ c.front.past) l → (front s ≡ a.front) × IsSolo b map k (sets_of b k) others (owned_by b book k) mem a.world.memory (after s) a.front.past) where
    there_step : (request : Option Request) (t : Transferred) (s : List (Option Held)) → t.world ≡ world_of mem book → IsThere b map k (sets_of b k) others (owned_by b book k) mem flat s (Touch l store ∷ c.front.past) l → IsStep b map k others book flat (turn_of b c request t (turned c (front s) (after s) (Some (acts.Retire k)))) a
    there_step request t s e i =
        let f = fin s i in
        record {
          its = refl;
          front = f.0;
          book_is = ap (λ (w : World). w.book) e ∙ sym same;
          solo = subst (λ (m : Contents). IsSolo b map k (sets_of b k) others (owned_by b a.world.book k) m a.world.memory (after s) a.front.past) (sym (ap (λ (w : World). w.memory) e))
              (subst (λ (y : Book). IsSolo b map k (sets_of b k) others (owned_by b y k) mem a.world.memory (after s) a.front.past) (sym same) f.1);
          codes = codes_stay b map flat a.world.memory c.code_slots code_words hc;
          owned = λ j g lt n. ap (λ (y : Book). owned_by b y j g) same;
          words = words;
          code_words = code_words;
        }

    filled_there : is_dirty (slot_at c.data_slots (own_set c.data_slots l)) ≡ false → IsThere b map k (sets_of b k) others (owned_by b book k) mem flat (filled c.data_slots l (line_at mem l)) (Touch l store ∷ c.front.past) l
    filled_there d =
        subst (λ n. IsThere b map k (sets_of b k) others (owned_by b book k) mem flat (slice_set c.data_slots n (Some (clean_line l (line_at mem l)))) (Touch l store ∷ c.front.past) l) (sym (set_is l))
        (fill_keeps b map k (sets_of b k) others (owned_by b book k) mem flat c.data_slots (Touch l store ∷ c.front.past) l pos p.here (ap (λ n. is_dirty (slot_at c.data_slots n)) (sym (set_is l)) ∙ d) (touched_may (sets_of b k) c.front.past l store) (alone l p.here p.has_read) (touched_solo l store))

    fill_world : (transferred b map k (world_of mem book) (FillData l)).world ≡ world_of mem book
    unfolding transferred served
    fill_world = refl

    fill_words : (transferred b map k (world_of mem book) (FillData l)).reply.words ≡ line_at mem l
    unfolding transferred served
    fill_words = refl

    filled_step : is_dirty (slot_at c.data_slots (own_set c.data_slots l)) ≡ false → IsStep b map k others book flat (access_with b c k front after l false false (Some (FillData l)) (transferred b map k (world_of mem book) (FillData l))) a
    filled_step d =
        there_step (Some (FillData l)) (transferred b map k (world_of mem book) (FillData l)) (filled c.data_slots l (transferred b map k (world_of mem book) (FillData l)).reply.words) fill_world
        (subst (λ (ws : List ℕ). IsThere b map k (sets_of b k) others (owned_by b book k) mem flat (filled c.data_slots l ws) (Touch l store ∷ c.front.past) l) (sym fill_words) (filled_there d))

    back_world : (e : Held) → slot_at c.data_slots (own_set c.data_slots l) ≡ Some e → e.dirty ≡ true → (transferred b map k (world_of mem book) (WriteBack e.line e.words)).world ≡ world_of (mem_after mem (slot_at c.data_slots (own_set c.data_slots l))) book
    unfolding transferred served
    back_world e i d = ap (λ (x : Bool). world_of (cond x (with_line mem e.line e.words) mem) book) (sym d) ∙ ap (λ (o : Option Held). world_of (mem_after mem o) book) (sym i)

    some_step : (e : Held) (d : Bool) → slot_at c.data_slots (own_set c.data_slots l) ≡ Some e → e.dirty ≡ d → let request : Option Request = filled_or l (cond d (Some (WriteBack e.line e.words)) None) in let t : CoreTurn = access_with b c k front after l false d request (served_by b map k (world_of mem book) request) in IsStep b map k others book flat t (picks t.act (acted c.front (world_of flat book)) a z)
    some_step e true i d = emptied_step (own_set c.data_slots l) (Some (WriteBack e.line e.words)) (transferred b map k (world_of mem book) (WriteBack e.line e.words)) (set_below l) (back_world e i d)
    some_step e false i d = filled_step (ap is_dirty i ∙ d)

    pub access_step : (x : Bool) (o : Option Held) → has_line c.data_slots l ≡ x → slot_at c.data_slots (own_set c.data_slots l) ≡ o → let request : Option Request = asks x l o in let t : CoreTurn = access_with b c k front after l x (is_dirty o) request (served_by b map k (world_of mem book) request) in IsStep b map k others book flat t (picks t.act (acted c.front (world_of flat book)) a z)
    access_step true o e i =
        there_step None (served_by b map k (world_of mem book) None) c.data_slots refl
        (hit_keeps b map k (sets_of b k) others (owned_by b book k) mem flat c.data_slots (Touch l store ∷ c.front.past) l (slot_at c.data_slots (l % sets_of b k)) refl (ap (λ n. is_line (slot_at c.data_slots n) l) (sym (set_is l)) ∙ e) p.has_read p.fresh (touched_solo l store))
    access_step false None e i = filled_step (ap is_dirty i)
    access_step false (Some x) e i = some_step x x.dirty i refl

  -- what the flat machine makes of a task
  abbrev made : Regs → Task → Acted
  made regs task = done b map k (with_regs c.front regs) (world_of flat book) task

  abbrev turn_does : Regs → Task → CoreTurn
  turn_does regs task = turn_for b map k c (world_of mem book) (Does (with_regs c.front regs) task)

  load_fin : (regs : Regs) (a : ℕ) (width : Width) (signed : Bool) (to : ℕ) (s : List (Option Held)) → IsThere b map k (sets_of b k) others (owned_by b book k) mem flat s (Touch (line a) false ∷ c.front.past) (line a) → (loaded_front (with_regs c.front regs) (line a) width signed to (loaded s a width) ≡ loaded_front (with_regs c.front regs) (line a) width signed to (read_at flat a width)) × IsSolo b map k (sets_of b k) others (owned_by b book k) mem flat s (Touch (line a) false ∷ c.front.past)
  load_fin regs a width signed to s i =
      let e : slot_at s (own_set s (line a)) ≡ Some i.at = ap (λ n. slot_at s (line a % n)) i.solo.core.sets_are ∙ i.slot in
      (ap (λ v. loaded_front (with_regs c.front regs) (line a) width signed to v) (ap (λ (o : Option Held). read_in_line (words_of o) a width) e ∙ ap (λ (ws : List ℕ). read_in_line ws a width) i.words), i.solo)

  load_step : (regs : Regs) (a : ℕ) (width : Width) (signed : Bool) (to : ℕ) (z : Acted) → task_breach b map (who b k c.front book) (tasks.Load a width signed to) ≡ None → IsStep b map k others book flat (turn_does regs (tasks.Load a width signed to)) (picks (turn_does regs (tasks.Load a width signed to)).act (acted c.front (world_of flat book)) (made regs (tasks.Load a width signed to)) z)
  load_step regs a width signed to z e =
      access_step (λ s. loaded_front (with_regs c.front regs) (line a) width signed to (loaded s a width)) (λ s. s) (line a) false (made regs (tasks.Load a width signed to)) z
      (passes b map book k c.front.past a false width laid e) refl (λ j t lt n i r. refl) (λ t i r. refl) (load_fin regs a width signed to)
      (has_line c.data_slots (line a)) (slot_at c.data_slots (own_set c.data_slots (line a))) refl refl

  store_fin : (regs : Regs) (a : ℕ) (width : Width) (value : ℕ) → HasLine b.memory (line a) → (s : List (Option Held)) → IsThere b map k (sets_of b k) others (owned_by b book k) mem flat s (Touch (line a) true ∷ c.front.past) (line a) → (stored_front (with_regs c.front regs) (line a) ≡ stored_front (with_regs c.front regs) (line a)) × IsSolo b map k (sets_of b k) others (owned_by b book k) mem (written_at flat a width value) (stored s a width value) (Touch (line a) true ∷ c.front.past)
  store_fin regs a width value here s i =
      let set : own_set s (line a) ≡ line a % sets_of b k = ap (λ n. line a % n) i.solo.core.sets_are in
      let e : stored s a width value ≡ slice_set s (line a % sets_of b k) (Some (stored_in a width value i.at)) =
      ap (λ n. slice_set s n (option_map (stored_in a width value) (slot_at s n))) set ∙ ap (λ (o : Option Held). slice_set s (line a % sets_of b k) (option_map (stored_in a width value) o)) i.slot in (
        refl,
        subst (λ (x : List (Option Held)). IsSolo b map k (sets_of b k) others (owned_by b book k) mem (written_at flat a width value) x (Touch (line a) true ∷ c.front.past)) (sym e)
            (store_keeps b map k (sets_of b k) others (owned_by b book k) mem flat (written_at flat a width value) s (Touch (line a) true ∷ c.front.past) (line a) (stored_in a width value i.at) pos here i.its refl
            (ap (λ (ws : List ℕ). written_in_line ws a width value) i.words ∙ sym (written_same b.memory flat h.flat_of a width value here))
            (touched_may (sets_of b k) c.front.past (line a) true) (stored_dirty (sets_of b k) c.front.past (line a)) (written_of b.memory flat h.flat_of a width value here)
            (λ t there n. written_other b.memory flat h.flat_of a width value t here there n) i),
      )

  store_step : (regs : Regs) (a : ℕ) (width : Width) (value : ℕ) (z : Acted) → task_breach b map (who b k c.front book) (tasks.Store a width value) ≡ None → IsStep b map k others book flat (turn_does regs (tasks.Store a width value)) (picks (turn_does regs (tasks.Store a width value)).act (acted c.front (world_of flat book)) (made regs (tasks.Store a width value)) z)
  store_step regs a width value z e =
      let p = passes b map book k c.front.past a true width laid e in
      access_step (λ s. stored_front (with_regs c.front regs) (line a)) (λ s. stored s a width value) (line a) true (made regs (tasks.Store a width value)) z
      p refl (λ j t lt n i r. written_other b.memory flat h.flat_of a width value t p.here i (λ (y : t ≡ line a). rivals j (line a) lt n (ap (λ x. may_read (class_of map x) j (owned_by b book j)) (sym y) ∙ r) (p.has_write refl)))
      (λ t i r. written_other b.memory flat h.flat_of a width value t p.here i (λ (y : t ≡ line a). let u = p.has_write refl in let v = code-write (class_of map (line a)) k (owned_by b book k) (ap (λ x. is_code (class_of map x)) (sym y) ∙ r) in absurd (cc)))
      (store_fin regs a width value p.here)
      (has_line c.data_slots (line a)) (slot_at c.data_slots (own_set c.data_slots (line a))) refl refl

  -- ---- operations on the data cache
  noted_step : (regs : Regs) (op : DataOp) (a : ℕ) (slots : List (Option Held)) (request : Option Request) (t : Transferred) (m : Contents) → t.world ≡ world_of m book → ((s : ℕ) (e : Held) → slot_at slots s ≡ Some e → e.line % sets_of b k ≡ s → covers (sets_of b k) op a e.line ≡ false) → IsSolo b map k (sets_of b k) others (owned_by b book k) m flat slots c.front.past → IsStep b map k others book flat (turn_of b c request t (turned c (noted (advanced (with_regs c.front regs)) (Clean op a)) slots (Some (acts.Retire k)))) (made regs (tasks.LineOp op a))
  noted_step regs op a slots request t m e none s =
      quiet (turn_of b c request t (turned c (noted (advanced (with_regs c.front regs)) (Clean op a)) slots (Some (acts.Retire k)))) (noted (advanced (with_regs c.front regs)) (Clean op a)) refl refl (ap (λ (w : World). w.book) e) refl
      (subst (λ (x : Contents). IsSolo b map k (sets_of b k) others (owned_by b book k) x flat slots (Clean op a ∷ c.front.past)) (sym (ap (λ (w : World). w.memory) e))
      (clean_keeps b map k (sets_of b k) others (owned_by b book k) m flat slots c.front.past op a none s))

  empty_after : (l : ℕ) → slot_at (set_dropped c.data_slots (own_set c.data_slots l)) (own_set c.data_slots l) ≡ None
  empty_after l = let e = set_below l in get_or-set_same c.data_slots (own_set c.data_slots l) None None (omega (arith, h.core.sets_are))

  -- no line of the set is held once it is empty
  none_in_set : (l s : ℕ) (e : Held) → slot_at (set_dropped c.data_slots (own_set c.data_slots l)) s ≡ Some e → e.line % sets_of b k ≡ s → eqb (l % sets_of b k) (e.line % sets_of b k) ≡ false
  none_in_set l s e i q = not_true (eqb (l % sets_of b k) (e.line % sets_of b k)) (λ t.
      let y : l % sets_of b k ≡ e.line % sets_of b k = grind (arith, nat_tests) in
      let x : own_set c.data_slots l ≡ s = set_is l ∙ y ∙ q in
      let v : slot_at (set_dropped c.data_slots (own_set c.data_slots l)) s ≡ None = ap (λ n. slot_at (set_dropped c.data_slots (own_set c.data_slots l)) n) (sym x) ∙ empty_after l in absurd (cc))

  none_at_line : (l s : ℕ) (e : Held) → slot_at (set_dropped c.data_slots (own_set c.data_slots l)) s ≡ Some e → e.line % sets_of b k ≡ s → eqb l e.line ≡ false
  none_at_line l s e i q = not_true (eqb l e.line) (λ t.
      let y : l ≡ e.line = grind (arith, nat_tests) in
      let x : own_set c.data_slots l ≡ s = set_is l ∙ ap (λ n. n % sets_of b k) y ∙ q in
      let v : slot_at (set_dropped c.data_slots (own_set c.data_slots l)) s ≡ None = ap (λ n. slot_at (set_dropped c.data_slots (own_set c.data_slots l)) n) (sym x) ∙ empty_after l in absurd (cc))

  none_there : (l s : ℕ) (e : Held) → has_line c.data_slots l ≡ false → slot_at c.data_slots s ≡ Some e → e.line % sets_of b k ≡ s → eqb l e.line ≡ false
  none_there l s e f i q = not_true (eqb l e.line) (λ t.
      let y : l ≡ e.line = grind (arith, nat_tests) in
      let x : own_set c.data_slots l ≡ s = set_is l ∙ ap (λ n. n % sets_of b k) y ∙ q in
      let v : slot_at c.data_slots (own_set c.data_slots l) ≡ Some e = ap (λ n. slot_at c.data_slots n) x ∙ i in
      let u : is_line (Some e) l ≡ false = sym (ap (λ (o : Option Held). is_line o l) v) ∙ f in
      absurd (not_itself e.line l (sym y) u))
    where
      not_itself : (n l : ℕ) → n ≡ l → eqb n l ≡ false → ⊥
      not_itself n l e f = grind (arith, nat_tests)

  -- what the discipline lets an operation drop is clean
  clean_slot : (op : DataOp) (a l : ℕ) (o : Option Held) → slot_at c.data_slots (own_set c.data_slots l) ≡ o → ((n : ℕ) → dirty (sets_of b k) c.front.past n ≡ true → covers (sets_of b k) op a n ≡ false) → ((e : Held) → o ≡ Some e → covers (sets_of b k) op a e.line ≡ true) → is_dirty o ≡ false
  clean_slot op a l None i none covered = refl
  clean_slot op a l (Some e) i none covered = not_true e.dirty (λ d. let x = none e.line ((h.core.held (own_set c.data_slots l) e i).dirty_is d) in let y = covered e refl in absurd (cc))

  kept_drop : (l : ℕ) → is_dirty (slot_at c.data_slots (own_set c.data_slots l)) ≡ false → IsSolo b map k (sets_of b k) others (owned_by b book k) mem flat (set_dropped c.data_slots (own_set c.data_slots l)) c.front.past
  kept_drop l d = drop_keeps b map k (sets_of b k) others (owned_by b book k) mem flat c.data_slots c.front.past (own_set c.data_slots l) (set_below l) d fresh h

  kept_evict : (l : ℕ) → IsSolo b map k (sets_of b k) others (owned_by b book k) (mem_after mem (slot_at c.data_slots (own_set c.data_slots l))) flat (set_dropped c.data_slots (own_set c.data_slots l)) c.front.past
  kept_evict l = evict_keeps b map k (sets_of b k) others (owned_by b book k) mem flat c.data_slots c.front.past (own_set c.data_slots l) (set_below l) fresh h

  in_set : (l : ℕ) (e : Held) → slot_at c.data_slots (own_set c.data_slots l) ≡ Some e → eqb (l % sets_of b k) (e.line % sets_of b k) ≡ true
  in_set l e i = let p = (h.core.held (own_set c.data_slots l) e i).place in let q = set_is l in same (l % sets_of b k) (e.line % sets_of b k) (own_set c.data_slots l) q p
    where
      same : (x y n : ℕ) → n ≡ x → y ≡ n → eqb x y ≡ true
      same x y n e f = grind (arith, nat_tests)

  is_it : (l : ℕ) (e : Held) → is_line (Some e) l ≡ true → eqb l e.line ≡ true
  is_it l e i = grind (arith, nat_tests)

  dropped_step : (regs : Regs) (a : ℕ) (x : Bool) → has_line c.data_slots (line a) ≡ x → task_breach b map (who b k c.front book) (tasks.LineOp Initda a) ≡ None → IsStep b map k others book flat (turn_of b c None (served_by b map k (world_of mem book) None) (turned c (noted (advanced (with_regs c.front regs)) (Clean Initda a)) (cond x (set_dropped c.data_slots (own_set c.data_slots (line a))) c.data_slots) (Some (acts.Retire k)))) (made regs (tasks.LineOp Initda a))
  unfolding breach
  dropped_step regs a true t e =
      noted_step regs Initda a (set_dropped c.data_slots (own_set c.data_slots (line a))) None (served_by b map k (world_of mem book) None) mem refl (none_at_line (line a))
      (kept_drop (line a) (clean_slot Initda a (line a) (slot_at c.data_slots (own_set c.data_slots (line a))) refl (none_unflushed (who b k c.front book) (λ n. covers (sets_of b k) Initda a n) e) (λ x i. is_it (line a) x (ap (λ (o : Option Held). is_line o (line a)) (sym i) ∙ t))))
  dropped_step regs a false t e = noted_step regs Initda a c.data_slots None (served_by b map k (world_of mem book) None) mem refl (λ s x. none_there (line a) s x t) h

  flushed_step : (regs : Regs) (a : ℕ) (x : Bool) → has_line c.data_slots (line a) ≡ x → let request : Option Request = cond x (back (slot_at c.data_slots (own_set c.data_slots (line a)))) None in IsStep b map k others book flat (turn_of b c request (served_by b map k (world_of mem book) request) (turned c (noted (advanced (with_regs c.front regs)) (Clean Flushda a)) (cond x (set_dropped c.data_slots (own_set c.data_slots (line a))) c.data_slots) (Some (acts.Retire k)))) (made regs (tasks.LineOp Flushda a))
  flushed_step regs a true t =
      let request : Option Request = back (slot_at c.data_slots (own_set c.data_slots (line a))) in
      noted_step regs Flushda a (set_dropped c.data_slots (own_set c.data_slots (line a))) request (served_by b map k (world_of mem book) request) (mem_after mem (slot_at c.data_slots (own_set c.data_slots (line a)))) (served_back (slot_at c.data_slots (own_set c.data_slots (line a)))) (none_at_line (line a)) (kept_evict (line a))
  flushed_step regs a false t = noted_step regs Flushda a c.data_slots None (served_by b map k (world_of mem book) None) mem refl (λ s x. none_there (line a) s x t) h

  op_step : (regs : Regs) (op : DataOp) (a : ℕ) → task_breach b map (who b k c.front book) (tasks.LineOp op a) ≡ None → IsStep b map k others book flat (turn_does regs (tasks.LineOp op a)) (made regs (tasks.LineOp op a))
  unfolding breach
  op_step regs Initd a e =
      noted_step regs Initd a (set_dropped c.data_slots (own_set c.data_slots (line a))) None (served_by b map k (world_of mem book) None) mem refl (none_in_set (line a))
      (kept_drop (line a) (clean_slot Initd a (line a) (slot_at c.data_slots (own_set c.data_slots (line a))) refl (none_unflushed (who b k c.front book) (λ n. covers (sets_of b k) Initd a n) e) (λ x i. in_set (line a) x i)))
  op_step regs Initda a e = dropped_step regs a (has_line c.data_slots (line a)) refl e
  op_step regs Flushd a e =
      let request : Option Request = back (slot_at c.data_slots (own_set c.data_slots (line a))) in
      noted_step regs Flushd a (set_dropped c.data_slots (own_set c.data_slots (line a))) request (served_by b map k (world_of mem book) request) (mem_after mem (slot_at c.data_slots (own_set c.data_slots (line a)))) (served_back (slot_at c.data_slots (own_set c.data_slots (line a)))) (none_in_set (line a)) (kept_evict (line a))
  op_step regs Flushda a e = flushed_step regs a (has_line c.data_slots (line a)) refl

  -- ---- what leaves caches and memory alone
  code_op_step : (regs : Regs) (a : ℕ) → IsStep b map k others book flat (turn_does regs (tasks.CodeOp a)) (made regs (tasks.CodeOp a))
  code_op_step regs a = record {
    its = refl;
    front = refl;
    book_is = refl;
    solo = h;
    codes = codes_dropped b map flat c.code_slots (own_set c.code_slots (line a)) hc;
    owned = λ j g lt n. refl;
    words = λ j l lt n i r. refl;
    code_words = λ l i r. refl;
  }

  pub stops_step : (stop : Stop) → IsStep b map k others book flat (turn_for b map k c (world_of mem book) (Stops stop)) (acted (stopped c.front stop) (world_of flat book))
  stops_step stop = quiet (turn_for b map k c (world_of mem book) (Stops stop)) (stopped c.front stop) refl refl refl refl h

  pub interrupts_step : IsStep b map k others book flat (turn_for b map k c (world_of mem book) Interrupts) (acted (with_regs c.front (interrupted c.front.regs)) (world_of flat book))
  interrupts_step = quiet (turn_for b map k c (world_of mem book) Interrupts) (with_regs c.front (interrupted c.front.regs)) refl refl refl refl h

  pub samples_step : IsStep b map k others book flat (turn_for b map k c (world_of mem book) Samples) (sampled_by b map k c.front (world_of flat book))
  unfolding transferred served
  samples_step = quiet (turn_for b map k c (world_of mem book) Samples) (sampled_by b map k c.front (world_of flat book)).front refl refl refl refl h

  -- ---- loads and stores past the caches
  record IsPoked (t u : Transferred) : Type 0 where
    reply_is : t.reply ≡ u.reply
    book_is : t.world.book ≡ u.world.book
    solo : IsSolo b map k (sets_of b k) others (owned_by b book k) t.world.memory u.world.memory c.data_slots c.front.past
    words : (j l : ℕ) → HasLine b.memory l → may_read (class_of map l) j (owned_by b book j) ≡ true → line_at u.world.memory l ≡ line_at flat l
    code_words : (l : ℕ) → HasLine b.memory l → is_code (class_of map l) ≡ true → line_at u.world.memory l ≡ line_at flat l

  past_step : (regs : Regs) (task : Task) (request : Request) (t u : Transferred) → IsPoked t u → IsExchange b map k book u.world.book c.front.past (guards_touched map book request u.reply) → IsStep b map k others book flat (turn_of b c (Some request) t (direct c k (done_past b map k (with_regs c.front regs) (world_of mem book) task request t).front)) (done_past b map k (with_regs c.front regs) (world_of flat book) task request u)
  past_step regs task request t u p x = record {
    its = refl;
    front =
        ap (λ (y : Book). replied_front b map k (with_regs c.front regs) book y request t.reply (regs_replied (with_regs c.front regs) task t.reply)) p.book_is
        ∙ ap (λ (r : Reply). replied_front b map k (with_regs c.front regs) book u.world.book request r (regs_replied (with_regs c.front regs) task r)) p.reply_is;
    book_is = p.book_is;
    solo = own_keeps b map k (sets_of b k) others (owned_by b book k) (owned_by b u.world.book k) t.world.memory u.world.memory c.data_slots c.front.past (guards_touched map book request u.reply) x.few x.mine p.solo;
    codes = codes_stay b map flat u.world.memory c.code_slots p.code_words hc;
    owned = λ j g lt n. x.others j g lt n;
    words = λ j l lt n i r. p.words j l i r;
    code_words = p.code_words;
  }

  -- memory that is left alone
  left_poked : (t u : Transferred) → t.reply ≡ u.reply → t.world.book ≡ u.world.book → t.world.memory ≡ mem → u.world.memory ≡ flat → IsPoked t u
  left_poked t u r q m n = record {
    reply_is = r;
    book_is = q;
    solo = subst (λ (x : Contents). IsSolo b map k (sets_of b k) others (owned_by b book k) x u.world.memory c.data_slots c.front.past) (sym m) (subst (λ (x : Contents). IsSolo b map k (sets_of b k) others (owned_by b book k) mem x c.data_slots c.front.past) (sym n) h);
    words = λ j l i e. ap (λ (x : Contents). line_at x l) n;
    code_words = λ l i e. ap (λ (x : Contents). line_at x l) n;
  }

  low_line : (a : ℕ) → line (without_bypass a) ≡ line a
  low_line a = let e : without_bypass (without_bypass a) ≡ without_bypass a = omega arith in ap (λ n. n / 32) e

  uncached_same : (l : ℕ) → HasLine b.memory l → is_uncached (class_of map l) ≡ true → line_at mem l ≡ line_at flat l
  uncached_same l i e = h.memory l i (apart l i e) (no_right_clean b map (owned_by b book k) flat k (sets_of b k) c.data_slots c.front.past l (uncached-write (class_of map l) k (owned_by b book k) e) h.core fresh)

  either_same : (l : ℕ) → HasLine b.memory l → (is_uncached (class_of map l) ≡ true) ⊎ (is_code (class_of map l) ≡ true) → line_at mem l ≡ line_at flat l
  either_same l i (inl e) = uncached_same l i e
  either_same l i (inr e) = code_same l i e

  stored_poked : (a : ℕ) (width : Width) (value : ℕ) → HasLine b.memory (line a) → is_uncached (class_of map (line a)) ≡ true → (reply : Reply) → IsPoked (record { world = world_of (written_at mem a width value) book; reply = reply }) (record { world = world_of (written_at flat a width value) book; reply = reply })
  stored_poked a width value here u reply = record {
    reply_is = refl;
    book_is = refl;
    solo = poke_keeps b map k (sets_of b k) others (owned_by b book k) mem flat c.data_slots c.front.past a width value here u h;
    words = λ j l i r. written_other b.memory flat h.flat_of a width value l here i (λ (e : l ≡ line a). let y : may_read (class_of map (line a)) j (owned_by b book j) ≡ true = ap (λ x. may_read (class_of map x) j (owned_by b book j)) (sym e) ∙ r in let z = uncached-read (class_of map (line a)) j (owned_by b book j) u in absurd (cc));
    code_words = λ l i r. written_other b.memory flat h.flat_of a width value l here i (λ (e : l ≡ line a). let y : is_code (class_of map (line a)) ≡ true = ap (λ x. is_code (class_of map x)) (sym e) ∙ r in let w = code-read (class_of map (line a)) k (owned_by b book k) y in let z = uncached-read (class_of map (line a)) k (owned_by b book k) u in absurd (cc));
  }

  put_poked : (a : ℕ) (width : Width) (value : ℕ) → Reached b map k a true → IsPoked (transferred b map k (world_of mem book) (Write (without_bypass a) width value)) (transferred b map k (world_of flat book) (Write (without_bypass a) width value))
  put_poked a width value (InMemory is here allowed) =
      let e = low_line a in
      let at = put_memory b map k book (without_bypass a) width in
      let f = sym (laid.places_are (without_bypass a)) ∙ is in
      rw (at mem value is f, at flat value is f)
      (stored_poked (without_bypass a) width value (subst (λ x. HasLine b.memory x) (sym e) here) (ap (λ x. is_uncached (class_of map x)) e ∙ stored_past (class_of map (line a)) k allowed) _)
  put_poked a width value (AtDevice part offset is) =
      let f = sym (laid.places_are (without_bypass a)) ∙ is in
      left_poked _ _ (put_reply b map k book (without_bypass a) width part offset f mem flat value) (put_book b map k book (without_bypass a) width part offset f mem flat value) (put_left b map k book (without_bypass a) width part offset f mem value) (put_left b map k book (without_bypass a) width part offset f flat value)

  read_poked : (a : ℕ) (width : Width) (reply : ℕ → Reply) → line_at mem (line a) ≡ line_at flat (line a) → IsPoked (record { world = world_of mem book; reply = reply (read_at mem a width) }) (record { world = world_of flat book; reply = reply (read_at flat a width) })
  read_poked a width reply e = left_poked _ _ (ap (λ (ws : List ℕ). reply (read_in_line ws a width)) e) refl refl refl

  got_poked : (a : ℕ) (width : Width) → Reached b map k a false → IsPoked (transferred b map k (world_of mem book) (Read (without_bypass a) width)) (transferred b map k (world_of flat book) (Read (without_bypass a) width))
  got_poked a width (InMemory is here allowed) =
      let e = low_line a in
      let at = got_memory b map k book (without_bypass a) width in
      let f = sym (laid.places_are (without_bypass a)) ∙ is in
      rw (at mem is f, at flat is f)
      (read_poked (without_bypass a) width (λ v. record { words = one_word v; lines = lines_of (wiring_of b) book.devices k; took = false; pointer = 0 }) (ap (line_at mem) e ∙ either_same (line a) here (loaded_past (class_of map (line a)) k allowed) ∙ ap (line_at flat) (sym e)))
  got_poked a width (AtDevice part offset is) =
      let f = sym (laid.places_are (without_bypass a)) ∙ is in
      left_poked _ _ (got_reply b map k book (without_bypass a) width part offset f mem flat) (got_book b map k book (without_bypass a) width part offset f mem flat) (got_left b map k book (without_bypass a) width part offset f mem) (got_left b map k book (without_bypass a) width part offset f flat)

  module _ (put : (a value : ℕ) (width : Width) → breach b map (who b k c.front book) (accesses.Bypass a true value) width ≡ None → IsExchange b map k book (transferred b map k (world_of flat book) (Write (without_bypass a) width value)).world.book c.front.past (guards_touched map book (Write (without_bypass a) width value) (transferred b map k (world_of flat book) (Write (without_bypass a) width value)).reply)) (got : (a : ℕ) (width : Width) → breach b map (who b k c.front book) (accesses.Bypass a false 0) width ≡ None → IsExchange b map k book (transferred b map k (world_of flat book) (Read (without_bypass a) width)).world.book c.front.past (guards_touched map book (Read (without_bypass a) width) (transferred b map k (world_of flat book) (Read (without_bypass a) width)).reply)) where
    -- each task that breaks nothing
    pub task_step : (regs : Regs) (task : Task) (z : Acted) → task_breach b map (who b k c.front book) task ≡ None → IsStep b map k others book flat (turn_does regs task) (picks (turn_does regs task).act (acted c.front (world_of flat book)) (made regs task) z)
    task_step regs tasks.Done z e = quiet (turn_does regs tasks.Done) (with_regs c.front regs) refl refl refl refl h
    task_step regs tasks.Raise z e = quiet (turn_does regs tasks.Raise) (made regs tasks.Raise).front refl refl refl refl h
    task_step regs tasks.Break z e = quiet (turn_does regs tasks.Break) (made regs tasks.Break).front refl refl refl refl h
    task_step regs (tasks.CodeOp a) z e = code_op_step regs a
    task_step regs (tasks.LineOp Initd a) z e = op_step regs Initd a e
    task_step regs (tasks.LineOp Initda a) z e = op_step regs Initda a e
    task_step regs (tasks.LineOp Flushd a) z e = op_step regs Flushd a e
    task_step regs (tasks.LineOp Flushda a) z e = op_step regs Flushda a e
    task_step regs (tasks.Load a width signed to) z e = load_step regs a width signed to z e
    task_step regs (tasks.Store a width value) z e = store_step regs a width value z e
    task_step regs (tasks.LoadPast a width signed to) z e =
        past_step regs (tasks.LoadPast a width signed to) (Read (without_bypass a) width) _ _ (got_poked a width (reached b map book k c.front.past a false 0 width laid e)) (got a width e)
    task_step regs (tasks.StorePast a width value) z e =
        past_step regs (tasks.StorePast a width value) (Write (without_bypass a) width value) _ _ (put_poked a width value (reached b map book k c.front.past a true value width laid e)) (put a value width e)

    -- what an instruction does, or why it stops
    judged_step : (regs : Regs) (word : ℕ) (task : Task) (z : Acted) (o : Option Breach) → task_breach b map (who b k c.front book) task ≡ o → (regs ≡ c.front.regs) ⊎ (o ≡ None) → IsStep b map k others book flat (turn_for b map k c (world_of mem book) (judged_task (with_regs c.front regs) word task o)) (picks (turn_for b map k c (world_of mem book) (judged_task (with_regs c.front regs) word task o)).act (acted c.front (world_of flat book)) (judged b map k (with_regs c.front regs) (world_of flat book) word task o) z)
    judged_step regs word task z None e r = task_step regs task z e
    judged_step regs word task z (Some why) e (inr n) = absurd (cc)
    judged_step regs word task z (Some why) e (inl r) =
        subst (λ (x : Regs). IsStep b map k others book flat (turn_for b map k c (world_of mem book) (Stops (stop_for why x.pc word (task_address task)))) (acted (stopped (with_regs c.front x) (stop_for why x.pc word (task_address task))) (world_of flat book))) (sym r)
        (stops_step (stop_for why c.front.regs.pc word (task_address task)))

    kept_regs : (outcome : Outcome) → (regs_of c.front.regs outcome ≡ c.front.regs) ⊎ (task_breach b map (who b k c.front book) (task_of (asked_of outcome)) ≡ None)
    kept_regs (outcomes.Next regs) = inr refl
    kept_regs (outcomes.Load address width signed io to) = inl refl
    kept_regs (outcomes.Store address width value io) = inl refl
    kept_regs (outcomes.LineOp op address) = inl refl
    kept_regs (outcomes.CodeOp address) = inl refl
    kept_regs (outcomes.Raise cause) = inl refl
    kept_regs outcomes.Broke = inl refl

    outcome_step : (word : ℕ) (outcome : Outcome) (z : Acted) → IsStep b map k others book flat (turn_for b map k c (world_of mem book) (executes b map k book c.front word outcome)) (picks (turn_for b map k c (world_of mem book) (executes b map k book c.front word outcome)).act (acted c.front (world_of flat book)) (executed b map k c.front (world_of flat book) word outcome) z)
    unfolding executes executed
    outcome_step word outcome z = judged_step (regs_of c.front.regs outcome) word (task_of (asked_of outcome)) z (task_breach b map (who b k c.front book) (task_of (asked_of outcome))) refl (kept_regs outcome)

    -- the word that is held is the flat memory's
    held_word : (a word : ℕ) (o : Option Held) → slot_at c.code_slots (own_set c.code_slots (line a)) ≡ o → option_map (read_in a Word) (cond (is_line o (line a)) o None) ≡ Some word → word ≡ read_at flat a Word
    held_word a word None i e = absurd (cc)
    held_word a word (Some x) i e = at (eqb x.line (line a)) refl e
      where
        at : (d : Bool) → eqb x.line (line a) ≡ d → option_map (read_in a Word) (cond d (Some x) None) ≡ Some word → word ≡ read_at flat a Word
        at false q e = absurd (cc)
        at true q e =
            let w = hc (own_set c.code_slots (line a)) x i in
            let y : x.line ≡ line a = grind (arith, nat_tests) in
            let v : read_in_line x.words a Word ≡ word = grind arith in
            sym v ∙ ap (λ (ws : List ℕ). read_in_line ws a Word) (w.words ∙ ap (line_at flat) y)

    found_step : (z : Acted) (o : Option ℕ) → found c.code_slots c.front.regs.pc Word ≡ o → HasLine b.memory (line c.front.regs.pc) → is_code (class_of map (line c.front.regs.pc)) ≡ true → IsStep b map k others book flat (turn_for b map k c (world_of mem book) (with_code b map k book c.front o)) (picks (turn_for b map k c (world_of mem book) (with_code b map k book c.front o)).act (acted c.front (world_of flat book)) (with_word b map k c.front (world_of flat book) (read_at flat c.front.regs.pc Word)) z)
    found_step z None e here code = fills_step (line c.front.regs.pc) here code
    found_step z (Some word) e here code =
        subst (λ n. IsStep b map k others book flat (turn_for b map k c (world_of mem book) (with_code b map k book c.front (Some word))) (picks (turn_for b map k c (world_of mem book) (with_code b map k book c.front (Some word))).act (acted c.front (world_of flat book)) (with_word b map k c.front (world_of flat book) n) z)) (held_word c.front.regs.pc word (slot_at c.code_slots (own_set c.code_slots (line c.front.regs.pc))) refl e)
        (outcome_step word (effect_of_word c.front.regs word) z)

    fetch_none : (a : ℕ) → breach b map (who b k c.front book) (accesses.Fetch a) Word ≡ None → HasLine b.memory (line a) × (is_code (class_of map (line a)) ≡ true)
    unfolding breach
    fetch_none a e = let x = laid.fetch a (at (fetch_violation map a) e) in (x.0, ap is_code x.1)
      where
        at : (o : Option Violation) → option_map (λ wrong. violation wrong (line a)) o ≡ None → o ≡ None
        at None e = refl
        at (Some w) e = absurd (cc)

    fetched_step : (z : Acted) (o : Option Breach) → breach b map (who b k c.front book) (accesses.Fetch c.front.regs.pc) Word ≡ o → IsStep b map k others book flat (turn_for b map k c (world_of mem book) (fetches b map k book c o)) (picks (turn_for b map k c (world_of mem book) (fetches b map k book c o)).act (acted c.front (world_of flat book)) (fetched b map k c.front (world_of flat book) o) z)
    fetched_step z None e = let f = fetch_none c.front.regs.pc e in found_step z (found c.code_slots c.front.regs.pc Word) refl f.0 f.1
    fetched_step z (Some why) e = stops_step (stop_for why c.front.regs.pc 0 c.front.regs.pc)

    waiting_step : (z : Acted) (x : Bool) → let i : Intent = cond x Interrupts (fetches b map k book c (breach b map (who b k c.front book) (accesses.Fetch c.front.regs.pc) Word)) in IsStep b map k others book flat (turn_for b map k c (world_of mem book) i) (picks (turn_for b map k c (world_of mem book) i).act (acted c.front (world_of flat book)) (cond x (acted (with_regs c.front (interrupted c.front.regs)) (world_of flat book)) (fetched b map k c.front (world_of flat book) (breach b map (who b k c.front book) (accesses.Fetch c.front.regs.pc) Word))) z)
    waiting_step z true = interrupts_step
    waiting_step z false = fetched_step z (breach b map (who b k c.front book) (accesses.Fetch c.front.regs.pc) Word) refl

    steps_step : (z : Acted) → IsStep b map k others book flat (turn_for b map k c (world_of mem book) (steps b map k book c)) (picks (turn_for b map k c (world_of mem book) (steps b map k book c)).act (acted c.front (world_of flat book)) (retired b map k c.front (world_of flat book)) z)
    unfolding steps retired
    steps_step z = waiting_step z (is_waiting c.front.regs)

    kind_step : (row : CoreRow) (kind : TurnKind) → IsStep b map k others book flat (turn_for b map k c (world_of mem book) (intent_by b map k row book c kind)) (picks (turn_for b map k c (world_of mem book) (intent_by b map k row book c kind)).act (acted c.front (world_of flat book)) (retired b map k c.front (world_of flat book)) (sampled_by b map k c.front (world_of flat book)))
    kind_step row SampleTurn = samples_step
    kind_step row EvictTurn = evicts_step (evicted_set row (length c.data_slots) c.turns) (below (length c.data_slots) (c.turns / row.evict) h.core.sets_are)
      where
        below : (n t : ℕ) → n ≡ sets_of b k → t % n < sets_of b k
        below n t e = omega arith
    kind_step row StepTurn = steps_step (sampled_by b map k c.front (world_of flat book))

    -- the turn of the core
    pub turn_step : (row : CoreRow) → IsStep b map k others book flat (core_turn b map k row c (world_of mem book)) (picks (core_turn b map k row c (world_of mem book)).act (acted c.front (world_of flat book)) (retired b map k c.front (world_of flat book)) (sampled_by b map k c.front (world_of flat book)))
    unfolding core_turn
    turn_step row = kind_step row (turn_kind row c.turns)
