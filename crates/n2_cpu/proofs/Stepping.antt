-- What a step of a core is about.
use Rattle.std.proofs.Common.{◌≡◌, ℕ, ◌<◌, ◌^◌, Bool, true, false, nat_le, if◌then◌else◌, List, Option, Some, None, option_map, refl, ap, sym, ◌∙◌, subst, arith}
use Rattle.std.proofs.lemmas.Bool.Decides.{nat_tests}
use Rattle.n2_word.specs.declared.Width.{Width}
use Rattle.n2_word.specs.declared.Width.TheVariants.{Word}
use Rattle.n2_word.specs.Words.{extracted, lane_of}
use Rattle.n2_word.specs.Lines.{line}
use Rattle.n2_exec.specs.declared.registers.Regs.{Regs}
use Rattle.n2_exec.specs.declared.Asked.{Asked}
use Rattle.n2_exec.specs.declared.Asked.TheVariants as asked
use Rattle.n2_exec.specs.declared.Outcome.{Outcome}
use Rattle.n2_exec.specs.declared.Outcome.TheVariants as outcomes
use Rattle.n2_exec.specs.Registers.{is_waiting}
use Rattle.n2_exec.specs.Outcomes.{regs_of, asked_of}
use Rattle.n2_exec.specs.Effect.{effect_of_word}
use Rattle.n2_parts.specs.declared.board.Board.{Board}
use Rattle.n2_parts.specs.declared.stops.Stop.{Stop}
use Rattle.n2_parts.specs.MemoryLines.{HasLine}
use Rattle.n2_board.specs.declared.classes.Class.{Class}
use Rattle.n2_board.specs.declared.classes.Class.TheVariants.{Code}
use Rattle.n2_board.specs.declared.access.Violation.{Violation}
use Rattle.n2_board.specs.declared.places.Place.{Place}
use Rattle.n2_board.specs.declared.places.Place.TheVariants.{Memory}
use Rattle.n2_board.specs.AddressMap.{AddressMap, class_of, place}
use Rattle.n2_board.specs.Access.{fetch_violation, fetch_at}
use Rattle.n2_board.proofs.Reached.{memory_of_line}
use Rattle.n2_dcache.specs.declared.Held.{Held}
use Rattle.n2_dcache.specs.Cache.{held_line, found, read_in}
use Rattle.n2_dcache.proofs.Maps.{held_line_is}
use Rattle.n2_icache.specs.Code.{word_at, word_of}
use Rattle.n2_watch.specs.declared.access.Access.TheVariants.{Fetch}
use Rattle.n2_watch.specs.Book.{Book, knowledge}
use Rattle.n2_watch.specs.Discipline.{Knowledge, Breach, violation, breach}
use Rattle.n2_watch.specs.Watched.{IsMapOf}
use Rattle.n2_front.specs.Front.{Front, with_regs}
use Rattle.n2_front.specs.Tasks.{Task, task_of, task_breach, task_address, stop_for}
use Rattle.n2_front.specs.Retire.{who}
use Rattle.n2_front.specs.Core.{Core}
use Rattle.n2_front.specs.Turn.{Interrupts, Stops, FillsCode, Does, judged_task, executes, with_code, fetches, steps}
use Rattle.n2_cpu.specs.Aims.{AreCode, held_word}

-- ---- an instruction
pub unchanged : (regs : Regs) (o : Outcome) (a : Asked) → a ≡ asked_of o → (a ≡ asked.Done → ⊥) → regs_of regs o ≡ regs
unchanged regs (outcomes.Next next) a e n = absurd (n e)
unchanged regs (outcomes.Load address width signed io to) a e n = refl
unchanged regs (outcomes.Store address width value io) a e n = refl
unchanged regs (outcomes.LineOp op address) a e n = refl
unchanged regs (outcomes.CodeOp address) a e n = refl
unchanged regs (outcomes.Raise cause) a e n = refl
unchanged regs outcomes.Broke a e n = refl

abbrev judged_stop : ℕ → ℕ → Task → Option Breach → Option Stop
judged_stop pc word task x = option_map (λ why. stop_for why pc word (task_address task)) x

task_stops : (f : Front) (word : ℕ) (task : Task) (x : Option Breach) (stop : Stop) → Some stop ≡ judged_stop f.regs.pc word task x → judged_task f word task x ≡ Stops stop
task_stops f word task None stop e = absurd (cc)
task_stops f word task (Some why) stop e = let d : stop_for why f.regs.pc word (task_address task) ≡ stop = cc in ap Stops d

task_does : (f : Front) (word : ℕ) (task : Task) (x : Option Breach) → ◌≡◌ {A = Option Stop} None (judged_stop f.regs.pc word task x) → judged_task f word task x ≡ Does f task
task_does f word task None e = refl
task_does f word task (Some why) e = absurd (cc)

module _ (b : Board) (map : AddressMap) (k : ℕ) (book : Book) (f : Front) (word : ℕ) (o : Outcome) (new : Regs) (what : Asked) (new_is : new ≡ regs_of f.regs o) (what_is : what ≡ asked_of o) where
  pub executes_stop : (stop : Stop) → Some stop ≡ judged_stop new.pc word (task_of what) (task_breach b map (knowledge b book k f.past) (task_of what)) → executes b map k book f word o ≡ Stops stop
  unfolding executes
  executes_stop stop e =
      let task = task_of (asked_of o) in
      let g = with_regs f (regs_of f.regs o) in
      let x : Some stop ≡ judged_stop new.pc word task (task_breach b map (knowledge b book k f.past) task) = rw what_is at e in
      let y : Some stop ≡ judged_stop (regs_of f.regs o).pc word task (task_breach b map (knowledge b book k f.past) task) = rw new_is at x in
      task_stops g word task (task_breach b map (who b k g book) task) stop y

  pub executes_does : ◌≡◌ {A = Option Stop} None (judged_stop new.pc word (task_of what) (task_breach b map (knowledge b book k f.past) (task_of what))) → executes b map k book f word o ≡ Does (with_regs f new) (task_of what)
  unfolding executes
  executes_does e =
      let task = task_of (asked_of o) in
      let g = with_regs f (regs_of f.regs o) in
      let x : ◌≡◌ {A = Option Stop} None (judged_stop new.pc word task (task_breach b map (knowledge b book k f.past) task)) = rw what_is at e in
      let y : ◌≡◌ {A = Option Stop} None (judged_stop (regs_of f.regs o).pc word task (task_breach b map (knowledge b book k f.past) task)) = rw new_is at x in
      task_does g word task (task_breach b map (who b k g book) task) y ∙ ap (λ (r : Regs). Does (with_regs f r) task) (sym new_is) ∙ ap (λ (a : Asked). Does (with_regs f new) (task_of a)) (sym what_is)

-- ---- the fetch of a held line
fetch_is : (b : Board) (map : AddressMap) (who : Knowledge) (pc : ℕ) (width : Width) → breach b map who (Fetch pc) width ≡ option_map (λ wrong. violation wrong (line pc)) (fetch_violation map pc)
unfolding breach
fetch_is b map who pc width = refl

read_found : (pc : ℕ) (o : Option Held) (word : ℕ) → option_map (word_of pc) o ≡ Some word → option_map (read_in pc Word) o ≡ Some (extracted word (lane_of pc) Word)
read_found pc None word e = absurd (cc)
read_found pc (Some held) word e = let d : word_of pc held ≡ word = cc in ap (λ (x : ℕ). Some (extracted x (lane_of pc) Word)) d

read_missing : (pc : ℕ) (o : Option Held) → option_map (word_of pc) o ≡ None → option_map (read_in pc Word) o ≡ None
read_missing pc None e = refl
read_missing pc (Some held) e = absurd (cc)

pub word_found : (slots : List (Option Held)) (pc word : ℕ) → word_at slots pc ≡ Some word → found slots pc Word ≡ Some (extracted word (lane_of pc) Word)
word_found slots pc word e = read_found pc (held_line slots (line pc)) word e

pub word_missing : (slots : List (Option Held)) (pc : ℕ) → word_at slots pc ≡ None → found slots pc Word ≡ None
word_missing slots pc e = read_missing pc (held_line slots (line pc)) e

held_of : (pc : ℕ) (o : Option Held) (word : ℕ) → option_map (read_in pc Word) o ≡ Some word → (held : Held) × (o ≡ Some held)
held_of pc None word e = absurd (cc)
held_of pc (Some held) word e = (held, refl)

unless_some : {A : Type 0} (t : Bool) (o : Option A) (x : A) → (if t then None else o) ≡ Some x → (t ≡ false) × (o ≡ Some x)
unless_some true o x e = absurd (cc)
unless_some false o x e = (refl, e)

unless_none : {A : Type 0} (t : Bool) (o : Option A) → t ≡ false → (if t then None else o) ≡ None → o ≡ None
unless_none t o e h = let x : t ≡ false = e in subst (λ (s : Bool). (if s then None else o) ≡ None) x h

below : (pc : ℕ) → nat_le (2 ^ 31) pc ≡ false → pc < 2 ^ 31
below pc e = grind (arith, nat_tests)

code_passes : (map : AddressMap) (pc : ℕ) → nat_le (2 ^ 31) pc ≡ false → place map pc ≡ Memory → class_of map (line pc) ≡ Code → fetch_violation map pc ≡ None
unfolding fetch_violation
code_passes map pc low memory code = rw low (ap (λ (p : Place). fetch_at p (class_of map (line pc))) memory ∙ ap (λ (x : Class). fetch_at Memory x) code)

pub record IsFetched (b : Board) (map : AddressMap) (slots : List (Option Held)) (pc word : ℕ) : Type 0 where
  pub found : found slots pc Word ≡ Some word
  pub passes : fetch_violation map pc ≡ None

pub held_passes : (b : Board) (map : AddressMap) (slots : List (Option Held)) (pc word : ℕ) → IsMapOf b map → AreCode b map slots → held_word slots pc ≡ Some word → IsFetched b map slots pc word
held_passes b map slots pc word m h e =
    let u = unless_some (nat_le (2 ^ 31) pc) (found slots pc Word) word e in
    let o = held_of pc (held_line slots (line pc)) word u.1 in
    let i = held_line_is slots (line pc) o.0 o.1 in
    let code : class_of map (line pc) ≡ Code = ap (λ (n : ℕ). class_of map n) (sym i.1) ∙ h.code _ o.0 i.0 in
    let there : HasLine b.memory (line pc) = subst (λ (n : ℕ). HasLine b.memory n) i.1 (h.there _ o.0 i.0) in
    let memory : place map pc ≡ Memory = ap (λ (x : AddressMap). place x pc) m.maps ∙ memory_of_line b m.images m.valid pc (below pc u.0) there in
    record { found = u.1; passes = code_passes map pc u.0 memory code }

-- ---- a step
module _ (b : Board) (map : AddressMap) (k : ℕ) (book : Book) (c : Core) where
  pub steps_wait : is_waiting c.front.regs ≡ true → steps b map k book c ≡ Interrupts
  unfolding steps
  steps_wait e = rw e refl

  stepped : (o : Option Breach) → is_waiting c.front.regs ≡ false → breach b map (who b k c.front book) (Fetch c.front.regs.pc) Word ≡ o → steps b map k book c ≡ fetches b map k book c o
  unfolding steps
  stepped o e h = rw e (ap (λ (x : Option Breach). fetches b map k book c x) h)

  passed_step : is_waiting c.front.regs ≡ false → fetch_violation map c.front.regs.pc ≡ None → steps b map k book c ≡ with_code b map k book c.front (found c.code_slots c.front.regs.pc Word)
  passed_step e h = stepped None e (fetch_is b map (who b k c.front book) c.front.regs.pc Word ∙ ap (λ (x : Option Violation). option_map (λ wrong. violation wrong (line c.front.regs.pc)) x) h)

  pub steps_hold : (word : ℕ) → is_waiting c.front.regs ≡ false → IsMapOf b map → AreCode b map c.code_slots → held_word c.code_slots c.front.regs.pc ≡ Some word → steps b map k book c ≡ executes b map k book c.front word (effect_of_word c.front.regs word)
  steps_hold word e m h held =
      let p = held_passes b map c.code_slots c.front.regs.pc word m h held in
      passed_step e p.passes ∙ ap (λ (x : Option ℕ). with_code b map k book c.front x) p.found

  fetch_stops : (x : Option Breach) (stop : Stop) → Some stop ≡ option_map (λ why. stop_for why c.front.regs.pc 0 c.front.regs.pc) x → fetches b map k book c x ≡ Stops stop
  fetch_stops None stop e = absurd (cc)
  fetch_stops (Some why) stop e = let d : stop_for why c.front.regs.pc 0 c.front.regs.pc ≡ stop = cc in ap Stops d

  pub steps_stop : (stop : Stop) → is_waiting c.front.regs ≡ false → Some stop ≡ option_map (λ why. stop_for why c.front.regs.pc 0 c.front.regs.pc) (breach b map (who b k c.front book) (Fetch c.front.regs.pc) Word) → steps b map k book c ≡ Stops stop
  steps_stop stop e h = stepped (breach b map (who b k c.front book) (Fetch c.front.regs.pc) Word) e refl ∙ fetch_stops (breach b map (who b k c.front book) (Fetch c.front.regs.pc) Word) stop h

  no_violation : (o : Option Violation) (stops : Option Stop) → None ≡ stops → stops ≡ option_map (λ why. stop_for why c.front.regs.pc 0 c.front.regs.pc) (option_map (λ wrong. violation wrong (line c.front.regs.pc)) o) → o ≡ None
  no_violation None stops e h = refl
  no_violation (Some wrong) stops e h = absurd (cc)

  low_pc : (t : Bool) → nat_le (2 ^ 31) c.front.regs.pc ≡ t → fetch_violation map c.front.regs.pc ≡ None → t ≡ false
  unfolding fetch_violation
  low_pc true e h = absurd (let z = rw e at h in cc)
  low_pc false e h = refl

  pub steps_fill : is_waiting c.front.regs ≡ false → held_word c.code_slots c.front.regs.pc ≡ None → ◌≡◌ {A = Option Stop} None (option_map (λ why. stop_for why c.front.regs.pc 0 c.front.regs.pc) (breach b map (who b k c.front book) (Fetch c.front.regs.pc) Word)) → steps b map k book c ≡ FillsCode (line c.front.regs.pc)
  steps_fill e missing h =
      let free = no_violation (fetch_violation map c.front.regs.pc) None refl (h ∙ ap (λ (x : Option Breach). option_map (λ why. stop_for why c.front.regs.pc 0 c.front.regs.pc) x) (fetch_is b map (who b k c.front book) c.front.regs.pc Word)) in
      let low = low_pc (nat_le (2 ^ 31) c.front.regs.pc) refl free in
      passed_step e free ∙ ap (λ (x : Option ℕ). with_code b map k book c.front x) (unless_none (nat_le (2 ^ 31) c.front.regs.pc) (found c.code_slots c.front.regs.pc Word) low missing)
