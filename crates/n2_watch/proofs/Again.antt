-- A load or store that is as one that was noted.
use Rattle.std.proofs.Common.{◌≡◌, ◌⊎◌, inl, inr, ℕ, zero, suc, ◌+◌, ◌/◌, ◌%◌, ◌^◌, ◌<◌, Bool, true, false, not, ◌&&◌, ◌||◌, eqb, cond, List, [], ◌∷◌, length, get_or, slice_set, Option, Some, None, Result, Ok, refl, sym, ap, subst, ◌∙◌, arith}
use Rattle.std.proofs.lemmas.Bool.{false≢true, eqb-true, eq-eqb, cases_eq}
use Rattle.std.proofs.lemmas.List.{get_or-set_other}
use Rattle.n2_word.specs.declared.Width.{Width}
use Rattle.n2_word.specs.Lines.{line, without_bypass}
use Rattle.n2_parts.specs.declared.board.Board.{Board}
use Rattle.n2_parts.specs.MemoryLines.{HasLine}
use Rattle.n2_board.specs.declared.access.Direction.{Direction}
use Rattle.n2_board.specs.declared.access.Route.TheVariants.{Cached}
use Rattle.n2_board.specs.declared.access.Target.{Target}
use Rattle.n2_board.specs.declared.access.Target.TheVariants as targets
use Rattle.n2_board.specs.declared.access.Violation.{Violation}
use Rattle.n2_board.specs.declared.classes.Class.{Class}
use Rattle.n2_board.specs.declared.classes.Class.TheVariants as classes
use Rattle.n2_board.specs.declared.guards.Guard.{Guard}
use Rattle.n2_board.specs.declared.places.Place.{Place}
use Rattle.n2_board.specs.declared.places.Place.TheVariants.{Memory}
use Rattle.n2_board.specs.AddressMap.{AddressMap, address_map, class_of, place}
use Rattle.n2_board.specs.Access.{data_target, target_at, memory_target, allows}
use Rattle.n2_board.specs.Guards.{guard_of}
use Rattle.n2_board.proofs.Reached.{data_place, data_line, memory_of_line}
use Rattle.n2_watch.specs.declared.past.Past.{Past}
use Rattle.n2_watch.specs.declared.past.Past.TheVariants.{Touch}
use Rattle.n2_watch.specs.declared.access.Access.TheVariants as accesses
use Rattle.n2_watch.specs.Book.{Book, knowledge}
use Rattle.n2_watch.specs.Discipline.{Knowledge, Breach, direction, line_breach, cached_breach, breach}
use Rattle.n2_watch.specs.Past.{may, dirty, stale}
use Rattle.n2_watch.specs.Table.{Table, slot_of, record_at, cleaned_for}
use Rattle.n2_watch.specs.Stands.{LineStands, IsUnrecorded, IsUntouched, LinesStand}
use Rattle.n2_watch.specs.Watched.{Watched, StandsFor, IsWatchNoted, PassesAgain, is_again, known, none_touched, touched_place}
use Rattle.n2_watch.proofs.Judging.{cached_is, same_breach}
use Rattle.n2_watch.proofs.Noting.{passed_reaches, memory_allows}

-- ---- which accesses are as one that was noted

both : (x y : Bool) → (x && y) ≡ true → (x ≡ true) × (y ≡ true)
both true y h = (refl, h)
both false y h = absurd (false≢true h)

loads_or : (store stored : Bool) → (not store || stored) ≡ true → store ≡ true → stored ≡ true
loads_or true stored h e = h
loads_or false stored h e = absurd (false≢true e)

none_at : (k : ℕ) → get_or none_touched k 0 ≡ 0
none_at zero = refl
none_at (suc zero) = refl
none_at (suc (suc zero)) = refl
none_at (suc (suc (suc zero))) = refl
none_at (suc (suc (suc (suc k)))) = refl

-- where touches are forgotten, none is
pub forgotten : (map : AddressMap) (w : Watched) (past : List Past) → w.touched ≡ none_touched → (number : ℕ) (store : Bool) → is_again w number store ≡ true → PassesAgain map w past number store
forgotten map w past e number store is =
    let n : number + 1 ≡ get_or w.touched (touched_place number) 0 = eqb-true (number + 1) (get_or w.touched (touched_place number) 0) (both _ _ is).0 in
    let none : get_or w.touched (touched_place number) 0 ≡ 0 = ap (λ (l : List ℕ). get_or l (touched_place number) 0) e ∙ none_at (touched_place number) in
    absurd (omega (arith, n, none))

-- what a list has at a place where a value was put
put_number : (l : List ℕ) (i v d : ℕ) → (get_or (slice_set l i v) i d ≡ v) ⊎ (get_or (slice_set l i v) i d ≡ d)
put_number [] i v d = inr refl
put_number (x ∷ l) zero v d = inl refl
put_number (x ∷ l) (suc i) v d = put_number l i v d

put_flag : (l : List Bool) (i : ℕ) (v : Bool) → get_or (slice_set l i v) i false ≡ true → v ≡ true
put_flag [] i v h = absurd (false≢true h)
put_flag (x ∷ l) zero v h = h
put_flag (x ∷ l) (suc i) v h = put_flag l i v h

-- ---- what a note of a watch's table keeps of what the core knows
pub known_as : (old new : Watched) (past : List Past) → IsWatchNoted old new → known new past ≡ known old past
known_as old new past n =
    ap (λ (x : ℕ). record { core = x; cpuid = new.cpuid; sets = length new.table.cleaned; owns = λ guard. get_or new.owned (slot_of guard) false; pointer = λ index. get_or new.pointers index 0; past = past }) n.core_is
    ∙ ap (λ (x : ℕ). record { core = old.core; cpuid = x; sets = length new.table.cleaned; owns = λ guard. get_or new.owned (slot_of guard) false; pointer = λ index. get_or new.pointers index 0; past = past }) n.cpuid
    ∙ ap (λ (x : ℕ). record { core = old.core; cpuid = old.cpuid; sets = x; owns = λ guard. get_or new.owned (slot_of guard) false; pointer = λ index. get_or new.pointers index 0; past = past }) n.table.sets
    ∙ ap (λ (x : List Bool). record { core = old.core; cpuid = old.cpuid; sets = length old.table.cleaned; owns = λ guard. get_or x (slot_of guard) false; pointer = λ index. get_or new.pointers index 0; past = past }) n.owned
    ∙ ap (λ (x : List ℕ). record { core = old.core; cpuid = old.cpuid; sets = length old.table.cleaned; owns = λ guard. get_or old.owned (slot_of guard) false; pointer = λ index. get_or x index 0; past = past }) n.pointers

-- ---- a touch changes nothing of what is stale
lets_after : (map : AddressMap) (w : Watched) (past : List Past) (touched : ℕ) (store : Bool) (guard : Option Guard) (number : ℕ) → line_breach map (known w (Touch touched store ∷ past)) guard number ≡ line_breach map (known w past) guard number
lets_after map w past touched store None number = refl
lets_after map w past touched store (Some guard) number = refl

true_or : (b x : Bool) → x ≡ true → cond b true x ≡ true
true_or true x e = refl
true_or false x e = e

-- what passes again passes again after a touch, by a watch whose table alone changed
after_touch : (map : AddressMap) (old new : Watched) (past : List Past) (touched : ℕ) (stored : Bool) (number : ℕ) (store : Bool) → IsWatchNoted old new → PassesAgain map old past number store → PassesAgain map new (Touch touched stored ∷ past) number store
after_touch map old new past touched stored number store n h = record {
  reaches = λ address width e. ap (λ (core : ℕ). data_target map core address width Cached (direction store)) n.core_is ∙ h.reaches address width e;
  lets =
      ap (λ (who : Knowledge). line_breach map who (guard_of (class_of map number)) number) (known_as old new (Touch touched stored ∷ past) n)
      ∙ lets_after map old past touched stored (guard_of (class_of map number)) number ∙ h.lets;
  may = ap (λ (sets : ℕ). may sets (Touch touched stored ∷ past) number) n.table.sets ∙ true_or (eqb touched number) _ h.may;
  dirty = λ e. ap (λ (sets : ℕ). dirty sets (Touch touched stored ∷ past) number) n.table.sets ∙ true_or (eqb touched number && stored) _ (h.dirty e);
}

pub again_kept : (map : AddressMap) (old new : Watched) (past : List Past) (touched : ℕ) (stored : Bool) → IsWatchNoted old new → new.touched ≡ old.touched → new.stored ≡ old.stored → ((number : ℕ) (store : Bool) → is_again old number store ≡ true → PassesAgain map old past number store) → (number : ℕ) (store : Bool) → is_again new number store ≡ true → PassesAgain map new (Touch touched stored ∷ past) number store
again_kept map old new past touched stored n e f h number store is =
    after_touch map old new past touched stored number store n
    (h number store
    (subst (λ (x : List ℕ). (eqb (number + 1) (get_or x (touched_place number) 0) && (not store || get_or old.stored (touched_place number) false)) ≡ true) e
    (subst (λ (x : List Bool). (eqb (number + 1) (get_or new.touched (touched_place number) 0) && (not store || get_or x (touched_place number) false)) ≡ true) f is)))

-- ---- a touch that passed

-- what lets stores pass lets loads pass
lets_loads : (class : Class) (core : ℕ) (stored store : Bool) → (store ≡ true → stored ≡ true) → allows class core Cached (direction stored) ≡ true → allows class core Cached (direction store) ≡ true
lets_loads class core true true h a = a
lets_loads class core false false h a = a
lets_loads class core false true h a = absurd (false≢true (h refl))
lets_loads classes.Code core true false h a = refl
lets_loads (classes.Private owner) core true false h a = a
lets_loads (classes.Mutex mutex) core true false h a = a
lets_loads (classes.Passed region) core true false h a = a
lets_loads classes.Uncached core true false h a = absurd (false≢true a)
lets_loads classes.Absent core true false h a = absurd (false≢true a)

class_allows : (map : AddressMap) (core address : ℕ) (width : Width) (d : Direction) → place map (without_bypass address) ≡ Memory → data_target map core address width Cached d ≡ Ok targets.Memory → allows (class_of map (line address)) core Cached d ≡ true
unfolding data_target
class_allows map core address width d there h = memory_allows (allows (class_of map (line address)) core Cached d) targets.Memory (ap (λ (p : Place). target_at p (class_of map (line address)) core width Cached d) (sym there) ∙ h)

class_reaches : (map : AddressMap) (core address : ℕ) (width : Width) (d : Direction) → place map (without_bypass address) ≡ Memory → allows (class_of map (line address)) core Cached d ≡ true → data_target map core address width Cached d ≡ Ok targets.Memory
unfolding data_target
class_reaches map core address width d there h = ap (λ (p : Place). target_at p (class_of map (line address)) core width Cached d) there ∙ ap (λ (b : Bool). memory_target b) h

low_line : (a b : ℕ) → line a ≡ line b → line (without_bypass a) ≡ line b
low_line a b e = omega (arith, e)

low : (a : ℕ) → without_bypass a < 2 ^ 31
low a = omega arith

-- whatever is of the line of an access that reaches memory does
reaches_too : (b : Board) (map : AddressMap) (core : ℕ) (w : Watched) (book : Book) (past : List Past) → StandsFor b map core w book past → (k address : ℕ) (width : Width) (stored : Bool) → data_target map k address width Cached (direction stored) ≡ Ok targets.Memory → (store : Bool) → (store ≡ true → stored ≡ true) → (other : ℕ) (wide : Width) → line other ≡ line address → data_target map k other wide Cached (direction store) ≡ Ok targets.Memory
reaches_too b map core w book past h k address width stored t store s other wide e =
    let m = h.map_of in
    let allowed = class_allows map k address width (direction stored) (data_place map k address width Cached (direction stored) t) t in
    let has : HasLine b.memory (line address) = data_line b m.images m.valid k address width Cached (direction stored) (subst (λ (x : AddressMap). data_target x k address width Cached (direction stored) ≡ Ok targets.Memory) m.maps t) in
    let there : place map (without_bypass other) ≡ Memory =
    subst (λ (x : AddressMap). place x (without_bypass other) ≡ Memory) (sym m.maps)
    (memory_of_line b m.images m.valid (without_bypass other) (low other) (subst (λ (n : ℕ). HasLine b.memory n) (sym (low_line other address e)) has)) in
    class_reaches map k other wide (direction store) there
    (lets_loads (class_of map (line other)) k stored store s (ap (λ (n : ℕ). allows (class_of map n) k Cached (direction stored)) e ∙ allowed))

touched_now : (b x : Bool) → b ≡ true → cond b true x ≡ true
touched_now true x e = refl
touched_now false x e = absurd (false≢true e)

module _ (b : Board) (map : AddressMap) (core : ℕ) (old new : Watched) (book : Book) (past : List Past) (touched address : ℕ) (width : Width) (stored : Bool) (c : core ≡ old.core) (h : StandsFor b map core old book past) (e : touched ≡ line address) (br : breach b map (knowledge b book core past) (accesses.Cached address stored) width ≡ None) (n : IsWatchNoted old new) where
  -- the line that was touched
  again_here : (number : ℕ) (store : Bool) → number ≡ touched → (store ≡ true → stored ≡ true) → PassesAgain map new (Touch touched stored ∷ past) number store
  again_here number store number_is stores =
      let at : number ≡ line address = number_is ∙ e in
      let r = passed_reaches b map (knowledge b book core past) address stored width br in
      let stands = subst (λ (k : ℕ). StandsFor b map k old book past) c h in
      let broken = subst (λ (k : ℕ). breach b map (knowledge b book k past) (accesses.Cached address stored) width ≡ None) c br in
      let by_watch : cached_breach map (known old past) (data_target map old.core address width Cached (direction stored)) (line address) ≡ None =
      sym (cached_is old.board map (known old past) address stored width) ∙ same_breach b map old book past stands (accesses.Cached address stored) width ∙ broken in
      let reached : data_target map old.core address width Cached (direction stored) ≡ Ok targets.Memory = subst (λ (k : ℕ). data_target map k address width Cached (direction stored) ≡ Ok targets.Memory) c r.memory in
      let lets : line_breach map (known old past) (guard_of (class_of map (line address))) (line address) ≡ None =
      ap (λ (x : Result Target Violation). cached_breach map (known old past) x (line address)) (sym reached) ∙ by_watch in
      let self : eqb touched number ≡ true = eq-eqb touched number (sym number_is) in
      record {
        reaches = λ other wide x.
            ap (λ (k : ℕ). data_target map k other wide Cached (direction store)) n.core_is
            ∙ reaches_too b map core old book past h old.core address width stored reached store stores other wide (x ∙ at);
        lets =
            ap (λ (who : Knowledge). line_breach map who (guard_of (class_of map number)) number) (known_as old new (Touch touched stored ∷ past) n)
            ∙ lets_after map old past touched stored (guard_of (class_of map number)) number
            ∙ ap (λ (x : ℕ). line_breach map (known old past) (guard_of (class_of map x)) x) at ∙ lets;
        may = touched_now (eqb touched number) _ self;
        dirty = λ x. touched_now (eqb touched number && stored) _ (ap (λ (y : Bool). y && stored) self ∙ stores x);
      }

  pub again_first : new.touched ≡ slice_set old.touched (touched_place touched) (touched + 1) → new.stored ≡ slice_set old.stored (touched_place touched) stored → (number : ℕ) (store : Bool) → is_again new number store ≡ true → PassesAgain map new (Touch touched stored ∷ past) number store
  again_first t s number store is =
      let parts = both (eqb (number + 1) (get_or (slice_set old.touched (touched_place touched) (touched + 1)) (touched_place number) 0)) (not store || get_or (slice_set old.stored (touched_place touched) stored) (touched_place number) false) (subst (λ (x : List ℕ). (eqb (number + 1) (get_or x (touched_place number) 0) && (not store || get_or (slice_set old.stored (touched_place touched) stored) (touched_place number) false)) ≡ true) t
      (subst (λ (x : List Bool). (eqb (number + 1) (get_or new.touched (touched_place number) 0) && (not store || get_or x (touched_place number) false)) ≡ true) s is)) in
      let found : number + 1 ≡ get_or (slice_set old.touched (touched_place touched) (touched + 1)) (touched_place number) 0 = eqb-true (number + 1) _ parts.0 in
      let flag : store ≡ true → get_or (slice_set old.stored (touched_place touched) stored) (touched_place number) false ≡ true = loads_or store _ parts.1 in
      elim (cases_eq (touched_place number) (touched_place touched)) [
        | inl same ↦
            let here = found ∙ ap (λ (k : ℕ). get_or (slice_set old.touched (touched_place touched) (touched + 1)) k 0) same in
            elim (put_number old.touched (touched_place touched) (touched + 1) 0) [
              | inl is_touched ↦ again_here number store (let n = here ∙ is_touched in omega (arith, n)) (λ x. put_flag old.stored (touched_place touched) stored (ap (λ (k : ℕ). get_or (slice_set old.stored (touched_place touched) stored) k false) (sym same) ∙ flag x))
              | inr is_none ↦ (let none : number + 1 ≡ 0 = here ∙ is_none in absurd (omega (arith, none)))
            ]
        | inr apart ↦
            after_touch map old new past touched stored number store n
            (h.again number store
            (subst (λ (x : ℕ). (eqb (number + 1) x && (not store || get_or old.stored (touched_place number) false)) ≡ true) (get_or-set_other old.touched (touched_place touched) (touched_place number) (touched + 1) 0 apart)
            (subst (λ (x : Bool). (eqb (number + 1) (get_or (slice_set old.touched (touched_place touched) (touched + 1)) (touched_place number) 0) && (not store || x)) ≡ true) (get_or-set_other old.stored (touched_place touched) (touched_place number) stored false apart)
            (subst (λ (x : List ℕ). (eqb (number + 1) (get_or x (touched_place number) 0) && (not store || get_or (slice_set old.stored (touched_place touched) stored) (touched_place number) false)) ≡ true) t
            (subst (λ (x : List Bool). (eqb (number + 1) (get_or new.touched (touched_place number) 0) && (not store || get_or x (touched_place number) false)) ≡ true) s is)))))
      ]

-- ---- the records stand for one more touch that says nothing new

may_as : (sets : ℕ) (past : List Past) (number other : ℕ) (b : Bool) → eqb number other ≡ b → may sets past number ≡ true → cond b true (may sets past other) ≡ may sets past other
may_as sets past number other true e h = sym h ∙ ap (λ (n : ℕ). may sets past n) (eqb-true number other e)
may_as sets past number other false e h = refl

dirty_as : (sets : ℕ) (past : List Past) (number other : ℕ) (store b : Bool) → eqb number other ≡ b → (store ≡ true → dirty sets past number ≡ true) → cond (b && store) true (dirty sets past other) ≡ dirty sets past other
dirty_as sets past number other true true e h = sym (h refl) ∙ ap (λ (n : ℕ). dirty sets past n) (eqb-true number other e)
dirty_as sets past number other false true e h = refl
dirty_as sets past number other store false e h = refl

pub again_lines : (map : AddressMap) (t : Table) (past : List Past) (number : ℕ) (store : Bool) → may (length t.cleaned) past number ≡ true → (store ≡ true → dirty (length t.cleaned) past number ≡ true) → LinesStand map t past → LinesStand map t (Touch number store ∷ past)
again_lines map t past number store m d h =
    let sets = length t.cleaned in
    let may_now : (other : ℕ) → may sets (Touch number store ∷ past) other ≡ may sets past other = λ other. may_as sets past number other (eqb number other) refl m in
    let dirty_now : (other : ℕ) → dirty sets (Touch number store ∷ past) other ≡ dirty sets past other = λ other. dirty_as sets past number other store (eqb number other) refl d in
    record {
      table = h.table;
      stand = record {
        lines = λ i w.
            let r = record_at t.records i in
            let l = h.stand.lines i w in
            record { may_now = may_now r.line ∙ l.may_now; dirty_now = dirty_now r.line ∙ l.dirty_now; stale_now = l.stale_now; first = l.first; stored = l.stored; cleaned = l.cleaned; got = l.got };
        others = λ other u. (let l = h.stand.others other u in record { may = may_now other ∙ l.may; dirty = dirty_now other ∙ l.dirty; stale = l.stale });
        counts = h.stand.counts;
      };
    }

-- ---- what is as one that was noted passes
pub passes_now : (b : Board) (map : AddressMap) (w : Watched) (book : Book) (past : List Past) → StandsFor b map w.core w book past → (number address : ℕ) (store : Bool) (width : Width) → number ≡ line address → is_again w number store ≡ true → breach b map (knowledge b book w.core past) (accesses.Cached address store) width ≡ None
passes_now b map w book past h number address store width e is =
    let p = h.again number store is in
    sym (same_breach b map w book past h (accesses.Cached address store) width)
    ∙ cached_is w.board map (known w past) address store width
    ∙ ap (λ (x : Result Target Violation). cached_breach map (known w past) x (line address)) (p.reaches address width (sym e))
    ∙ ap (λ (n : ℕ). line_breach map (known w past) (guard_of (class_of map n)) n) (sym e)
    ∙ p.lets
