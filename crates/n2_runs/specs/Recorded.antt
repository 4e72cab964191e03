-- The journal of a run, the order that a journal tells, and which journals are those of finished runs.
use Rattle.std.specs.Prelude.{◌≡◌, ℕ, ◌≤◌, ◌==◌, Bool, List, length, replicate, IsTrue}
use Rattle.std.specs.List.{All, filter, flat_map}
use Rattle.n2_parts.specs.declared.board.Board.{Board}
use Rattle.n2_parts.specs.declared.stops.Act.{Act}
use Rattle.n2_parts.specs.declared.stops.Act.TheVariants.{Retire, Sample, Device}
use Rattle.n2_board.specs.AddressMap.{AddressMap}
use Rattle.n2_journal.specs.Journals.{Content, IsActorWithin, order_of}
use Rattle.n2_runs.specs.Machine.{Machine, run, is_finished, tails}

-- the transfers that were made, and for each core its turns after its last one
abbrev pub journal_of : Machine → Content
journal_of m = record { entries = m.entries; tails = tails m }

-- groups of turns of one actor, as a list of actors
abbrev pub actors_in : List (ℕ × ℕ) → List ℕ
actors_in groups = flat_map (λ group. replicate group.1 group.0) groups

-- the order that a journal tells
abbrev pub actors_of : Content → List ℕ
actors_of j = actors_in (order_of j)

-- the acts that an actor made; events are the device actor's
abbrev pub is_act_by : Board → ℕ → Act → Bool
is_act_by b actor (Retire core) = core == actor
is_act_by b actor (Sample core) = core == actor
is_act_by b actor (Device event) = length b.core == actor

abbrev pub acts_by : Board → ℕ → List Act → List Act
acts_by b actor acts = filter (is_act_by b actor) acts

-- the run from a start along a journal's own order is finished, and its journal is this one
pub record Records (b : Board) (map : AddressMap) (first : Machine) (j : Content) : Type 0 where
  pub finished : IsTrue (is_finished b (run b map first (actors_of j)))
  pub journal : journal_of (run b map first (actors_of j)) ≡ j

-- the counts of a journal of so many cores are within the limits of one that has a text
pub record HasCounts (cores : ℕ) (j : Content) : Type 0 where
  pub entries : All (λ entry. IsActorWithin cores entry.actor entry.local entry.request) j.entries
  pub few_entries : length j.entries ≤ 1000000
  pub tails_are : length j.tails ≡ cores
  pub tails : All (λ tail. tail ≤ 1000000000) j.tails
