-- Turns of one core without transfers, one after another: the core after them, their acts, and that they come to the same
-- whatever others do meanwhile.
use Rattle.std.proofs.Common.{◌≡◌, ◌≢◌, ℕ, zero, suc, ◌<◌, ◌++◌, inl, inr, Bool, true, false, cond, eqb, List, [], ◌∷◌, length, map, replicate, slice_get, slice_set, Option, Some, None, refl, ap, sym, ◌∙◌, arith, subst}
use Rattle.std.proofs.lemmas.Bool.Decides.{nat_tests}
use Rattle.std.proofs.lemmas.List.Elements.{filter-append}
use Rattle.n2_word.specs.Lines.{line}
use Rattle.n2_parts.specs.declared.board.Board.{Board}
use Rattle.n2_parts.specs.declared.board.CoreRow.{CoreRow}
use Rattle.n2_parts.specs.declared.stops.Act.{Act}
use Rattle.n2_parts.specs.declared.stops.Act.TheVariants as acts_of
use Rattle.n2_board.specs.AddressMap.{AddressMap}
use Rattle.n2_dcache.specs.Cache.{own_set}
use Rattle.n2_bus.specs.declared.request.Request.{Request}
use Rattle.n2_watch.specs.World.{World, Transferred}
use Rattle.n2_front.specs.Core.{Core, stop_of}
use Rattle.n2_front.specs.Tasks as tasks
use Rattle.n2_front.specs.Turn.{Intent, Samples, Evicts, Interrupts, Stops, FillsCode, Does, intent, Turned, with_line, is_in_way, emptied, loads, stores, answered, served_by, wants, core_turn}
use Rattle.n2_runs.specs.Machine.{Machine, Made, has_room, turn, run, with_act, acts}
use Rattle.n2_runs.specs.Recorded.{is_act_by, acts_by}
use Rattle.n2_runs.specs.Knows.{KnowsSame}
use Rattle.n2_runs.proofs.Lists.{slice_get-set_same, slice_set-same}
use Rattle.n2_runs.proofs.Known.{wants_same, local_core, local_act}
use Rattle.n2_runs.proofs.Views.{put, quiet_by, quiet_act_by, quiet, quiet_act, IsQuiet, turn_quiet}
use Rattle.n2_runs.proofs.Steps.{IsActOf}

-- ---- lists
pub set_twice : {X : Type 0} (xs : List X) (k : ℕ) (x y : X) → slice_set (slice_set xs k x) k y ≡ slice_set xs k y
set_twice [] k x y = refl
set_twice (z ∷ zs) zero x y = refl
set_twice (z ∷ zs) (suc k) x y = ap (λ ys. z ∷ ys) (set_twice zs k x y)

pub append_nil : {X : Type 0} (xs : List X) → xs ++ [] ≡ xs
append_nil [] = refl
append_nil (x ∷ xs) = ap (λ ys. x ∷ ys) (append_nil xs)

pub get_next : {X : Type 0} (before : List X) (x : X) (after : List X) → slice_get (before ++ x ∷ after) (length before) ≡ Some x
get_next [] x after = refl
get_next (y ∷ before) x after = get_next before x after

pub set_next : {X : Type 0} (before : List X) (x y : X) (after : List X) → slice_set (before ++ x ∷ after) (length before) y ≡ before ++ y ∷ after
set_next [] x y after = refl
set_next (z ∷ before) x y after = ap (λ ys. z ∷ ys) (set_next before x y after)

pub record IsAt {X : Type 0} (xs : List X) (i : ℕ) : Type 0 where
  pub is : X
  pub there : slice_get xs i ≡ Some is

pub some_there : {X : Type 0} (xs : List X) (i : ℕ) → i < length xs → IsAt xs i
some_there [] i lt = absurd (omega arith)
some_there (x ∷ xs) zero lt = record { is = x; there = refl }
some_there (x ∷ xs) (suc i) lt = let z = some_there xs i (omega arith) in record { is = z.is; there = z.there }

-- ---- runs
pub run-append : (b : Board) (map : AddressMap) (xs ys : List ℕ) (m : Machine) → run b map m (xs ++ ys) ≡ run b map (run b map m xs) ys
unfolding run
run-append b map [] ys m = refl
run-append b map (x ∷ xs) ys m = run-append b map xs ys (turn b map m x).machine

pub run-none : (b : Board) (map : AddressMap) (m : Machine) → run b map m [] ≡ m
unfolding run
run-none b map m = refl

pub one_more : (b : Board) (map : AddressMap) (k n : ℕ) (m : Machine) → (turn b map (run b map m (replicate n k)) k).machine ≡ run b map m (replicate (suc n) k)
unfolding run
one_more b map k zero m = refl
one_more b map k (suc n) m = one_more b map k n (turn b map m k).machine

-- ---- acts
abbrev pub act_list : Option Act → List Act
act_list None = []
act_list (Some act) = act ∷ []

pub act_first : (o : Option Act) (xs : List Act) → act_list o ++ xs ≡ with_act o xs
act_first None xs = refl
act_first (Some act) xs = refl

with_more : (o : Option Act) (xs ys : List Act) → with_act o (xs ++ ys) ≡ with_act o xs ++ ys
with_more None xs ys = refl
with_more (Some act) xs ys = refl

with_none : (o : Option Act) → with_act o [] ≡ act_list o
with_none None = refl
with_none (Some act) = refl

pub acts-append : (b : Board) (map : AddressMap) (xs ys : List ℕ) (m : Machine) → acts b map m (xs ++ ys) ≡ acts b map m xs ++ acts b map (run b map m xs) ys
unfolding run acts
acts-append b map [] ys m = refl
acts-append b map (x ∷ xs) ys m =
    ap (with_act (turn b map m x).act) (acts-append b map xs ys (turn b map m x).machine)
    ∙ with_more (turn b map m x).act (acts b map (turn b map m x).machine xs) (acts b map (run b map (turn b map m x).machine xs) ys)

pub acts_none : (b : Board) (map : AddressMap) (m : Machine) → acts b map m [] ≡ []
unfolding acts
acts_none b map m = refl

pub acts_one : (b : Board) (map : AddressMap) (k : ℕ) (m : Machine) → acts b map m (k ∷ []) ≡ act_list (turn b map m k).act
unfolding acts
acts_one b map k m = with_none (turn b map m k).act

pub acts_last : (b : Board) (map : AddressMap) (k n : ℕ) (m : Machine) → acts b map m (replicate (suc n) k) ≡ acts b map m (replicate n k) ++ act_list (turn b map (run b map m (replicate n k)) k).act
unfolding run acts
acts_last b map k zero m = with_none (turn b map m k).act
acts_last b map k (suc n) m =
    ap (with_act (turn b map m k).act) (acts_last b map k n (turn b map m k).machine)
    ∙ with_more (turn b map m k).act (acts b map (turn b map m k).machine (replicate n k)) (act_list (turn b map (run b map (turn b map m k).machine (replicate n k)) k).act)

-- what a core's turn does is its own act
load_act : (k : ℕ) (x : Bool) (u v : Turned) → IsActOf k u.act → IsActOf k v.act → IsActOf k (cond x u v).act
load_act k true u v p q = p
load_act k false u v p q = q

module _ (b : Board) (map : AddressMap) (k : ℕ) (c : Core) (w : World) (t : Transferred) where
  intent_act : (i : Intent) → IsActOf k (answered b map k c w t i).act
  intent_act Samples = refl
  intent_act (Evicts set) = tt
  intent_act Interrupts = refl
  intent_act (Stops stop) = refl
  intent_act (FillsCode number) = tt
  intent_act (Does f tasks.Done) = refl
  intent_act (Does f tasks.Raise) = refl
  intent_act (Does f tasks.Break) = refl
  intent_act (Does f (tasks.CodeOp a)) = refl
  intent_act (Does f (tasks.LineOp op a)) = refl
  intent_act (Does f (tasks.Load a width signed to)) = load_act k (is_in_way c.data_slots (line a)) (emptied c (own_set c.data_slots (line a))) (loads c k f a width signed to (with_line c.data_slots (line a) t.reply)) tt refl
  intent_act (Does f (tasks.Store a width value)) = load_act k (is_in_way c.data_slots (line a)) (emptied c (own_set c.data_slots (line a))) (stores c k f a width value (with_line c.data_slots (line a) t.reply)) tt refl
  intent_act (Does f (tasks.LoadPast a width signed to)) = refl
  intent_act (Does f (tasks.StorePast a width value)) = refl

pub turn_act : (b : Board) (map : AddressMap) (k : ℕ) (row : CoreRow) (c : Core) (w : World) → IsActOf k (core_turn b map k row c w).act
unfolding core_turn
turn_act b map k row c w = intent_act b map k c w (served_by b map k w (wants b map k row w.book c)) (intent b map k row w.book c)

-- no act of another
pub not_by : (b : Board) (a k : ℕ) → a ≢ k → (o : Option Act) → IsActOf k o → acts_by b a (act_list o) ≡ []
not_by b a k n None i = refl
not_by b a k n (Some (acts_of.Retire j)) i = let e : eqb j a ≡ false = grind (arith, nat_tests) in ap (λ (x : Bool). cond x (acts_of.Retire j ∷ []) []) e
not_by b a k n (Some (acts_of.Sample j)) i = let e : eqb j a ≡ false = grind (arith, nat_tests) in ap (λ (x : Bool). cond x (acts_of.Sample j ∷ []) []) e
not_by b a k n (Some (acts_of.Device event)) i = absurd i

-- ---- turns without transfers of one core
module _ (b : Board) (map : AddressMap) (k : ℕ) (row : CoreRow) where
  unfoldable pub quiets : World → ℕ → Core → Core
  quiets w zero c = c
  quiets w (suc n) c = quiet b map k row w (quiets w n c)

  unfoldable pub AreQuiet : Bool → World → ℕ → Core → Type 0
  AreQuiet room w n c = (i : ℕ) → i < n → (stop_of (quiets w i c) ≡ None) × IsQuiet b map k row room w (quiets w i c)

  pub one_quiet : (room : Bool) (w : World) (n : ℕ) (c : Core) → AreQuiet room w n c → stop_of (quiets w n c) ≡ None → IsQuiet b map k row room w (quiets w n c) → AreQuiet room w (suc n) c
  unfolding AreQuiet
  one_quiet room w n c h runs q i lt = at (eqb i n) refl
    where
      at : (x : Bool) → eqb i n ≡ x → (stop_of (quiets w i c) ≡ None) × IsQuiet b map k row room w (quiets w i c)
      at true e = let z : n ≡ i = grind (arith, nat_tests) in subst (λ j. (stop_of (quiets w j c) ≡ None) × IsQuiet b map k row room w (quiets w j c)) z (runs, q)
      at false e = h i (grind (arith, nat_tests))

  pub block : (m : Machine) (c : Core) → slice_get b.core k ≡ Some row → slice_get m.cores k ≡ Some c → (n : ℕ) → AreQuiet (has_room b m) m.world n c → run b map m (replicate n k) ≡ put m k (quiets m.world n c)
  unfolding run quiets AreQuiet
  block m c is there zero h = ap (λ (cs : List Core). record { world = m.world; cores = cs; entries = m.entries; script = m.script }) (sym (slice_set-same m.cores k c there))
  block m c is there (suc n) h =
      let d = quiets m.world n c in
      sym (one_more b map k n m)
      ∙ ap (λ (x : Machine). (turn b map x k).machine) (block m c is there n (λ i lt. h i (omega arith)))
      ∙ ap (λ (x : Made). x.machine) (turn_quiet b map k row (put m k d) d (record { row_is = is; there = slice_get-set_same m.cores k c d there; runs = (h n (omega arith)).0 }) (h n (omega arith)).1)
      ∙ ap (λ (cs : List Core). record { world = m.world; cores = cs; entries = m.entries; script = m.script }) (set_twice m.cores k d (quiet b map k row m.world d))

  -- in another world of which the core knows the same
  module _ (w v : World) (same : KnowsSame b k w.book v.book) where
    by_same : (c : Core) (o p : Option Request) → wants b map k row w.book c ≡ o → o ≡ None → p ≡ o → quiet_by b map k row v c p ≡ quiet_by b map k row w c o
    by_same c None None e n s = local_core b map k row c w v same e
    by_same c None (Some q) e n s = absurd (cc)
    by_same c (Some r) p e n s = absurd (cc)

    quiet_same : (c : Core) → wants b map k row w.book c ≡ None → quiet b map k row v c ≡ quiet b map k row w c
    unfolding quiet
    quiet_same c e = by_same c (wants b map k row w.book c) (wants b map k row v.book c) refl e (wants_same b map k w.book v.book same row c)

    wants_none : (c : Core) → IsQuiet b map k row true w c → wants b map k row w.book c ≡ None
    wants_none c (inl e) = e
    wants_none c (inr e) = absurd (cc)

    pub quiets_same : (n : ℕ) (c : Core) → AreQuiet true w n c → quiets v n c ≡ quiets w n c
    unfolding quiets AreQuiet
    quiets_same zero c h = refl
    quiets_same (suc n) c h =
        ap (quiet b map k row v) (quiets_same n c (λ i lt. h i (omega arith)))
        ∙ quiet_same (quiets w n c) (wants_none (quiets w n c) (h n (omega arith)).1)

    pub still_quiet : (room : Bool) (n : ℕ) (c : Core) → AreQuiet true w n c → AreQuiet room v n c
    unfolding AreQuiet
    still_quiet room n c h i lt =
        let z = h i lt in
        let e : quiets v i c ≡ quiets w i c = quiets_same i c (λ j less. h j (omega arith)) in
        subst (λ (d : Core). (stop_of d ≡ None) × IsQuiet b map k row room v d) (sym e)
        (z.0, inl (wants_same b map k w.book v.book same row (quiets w i c) ∙ wants_none (quiets w i c) z.1))

  -- ---- their acts
  unfoldable pub quiet_acts : World → ℕ → Core → List Act
  quiet_acts w zero c = []
  quiet_acts w (suc n) c = quiet_acts w n c ++ act_list (quiet_act b map k row w (quiets w n c))

  pub block_acts : (m : Machine) (c : Core) → slice_get b.core k ≡ Some row → slice_get m.cores k ≡ Some c → (n : ℕ) → AreQuiet (has_room b m) m.world n c → acts b map m (replicate n k) ≡ quiet_acts m.world n c
  unfolding quiet_acts AreQuiet
  block_acts m c is there zero h = acts_none b map m
  block_acts m c is there (suc n) h =
      let d = quiets m.world n c in
      let q : AreQuiet (has_room b m) m.world n c = λ i lt. h i (omega arith) in
      acts_last b map k n m
      ∙ ap (λ xs. xs ++ act_list (turn b map (run b map m (replicate n k)) k).act) (block_acts m c is there n q)
      ∙ ap (λ (x : Made). quiet_acts m.world n c ++ act_list x.act)
      (ap (λ (x : Machine). turn b map x k) (block m c is there n q)
      ∙ turn_quiet b map k row (put m k d) d (record { row_is = is; there = slice_get-set_same m.cores k c d there; runs = (h n (omega arith)).0 }) (h n (omega arith)).1)

  act_of_quiet : (w : World) (c : Core) → IsActOf k (quiet_act b map k row w c)
  unfolding quiet_act
  act_of_quiet w c = at (wants b map k row w.book c)
    where
      at : (o : Option Request) → IsActOf k (quiet_act_by b map k row w c o)
      at None = turn_act b map k row c w
      at (Some request) = tt

  pub quiet_not_by : (a : ℕ) → a ≢ k → (w : World) (c : Core) → acts_by b a (act_list (quiet_act b map k row w c)) ≡ []
  quiet_not_by a n w c = not_by b a k n (quiet_act b map k row w c) (act_of_quiet w c)

  pub quiets_not_by : (a : ℕ) → a ≢ k → (w : World) (n : ℕ) (c : Core) → acts_by b a (quiet_acts w n c) ≡ []
  unfolding quiet_acts
  quiets_not_by a d w zero c = refl
  quiets_not_by a d w (suc n) c =
      filter-append (is_act_by b a) (quiet_acts w n c) (act_list (quiet_act b map k row w (quiets w n c)))
      ∙ ap (λ xs. xs ++ acts_by b a (act_list (quiet_act b map k row w (quiets w n c)))) (quiets_not_by a d w n c)
      ∙ quiet_not_by a d w (quiets w n c)

  module _ (w v : World) (same : KnowsSame b k w.book v.book) where
    act_by_same : (c : Core) (o p : Option Request) → wants b map k row w.book c ≡ o → o ≡ None → p ≡ o → quiet_act_by b map k row v c p ≡ quiet_act_by b map k row w c o
    act_by_same c None None e n s = local_act b map k row c w v same e
    act_by_same c None (Some q) e n s = absurd (cc)
    act_by_same c (Some r) p e n s = absurd (cc)

    quiet_act_same : (c : Core) → wants b map k row w.book c ≡ None → quiet_act b map k row v c ≡ quiet_act b map k row w c
    unfolding quiet_act
    quiet_act_same c e = act_by_same c (wants b map k row w.book c) (wants b map k row v.book c) refl e (wants_same b map k w.book v.book same row c)

    pub quiet_acts_same : (n : ℕ) (c : Core) → AreQuiet true w n c → quiet_acts v n c ≡ quiet_acts w n c
    unfolding quiet_acts AreQuiet
    quiet_acts_same zero c h = refl
    quiet_acts_same (suc n) c h =
        let q : AreQuiet true w n c = λ i lt. h i (omega arith) in
        ap (λ xs. xs ++ act_list (quiet_act b map k row v (quiets v n c))) (quiet_acts_same n c q)
        ∙ ap (λ (d : Core). quiet_acts w n c ++ act_list (quiet_act b map k row v d)) (quiets_same w v same n c q)
        ∙ ap (λ o. quiet_acts w n c ++ act_list o) (quiet_act_same (quiets w n c) (wants_none w v same (quiets w n c) (h n (omega arith)).1))
