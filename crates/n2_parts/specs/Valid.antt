-- The rules that a board keeps, in their order.
use Rattle.std.specs.Prelude.{◌≡◌, ℕ, ◌≤◌, [], ◌∷◌, length, sum, map, nat_le, Option, None}
use Rattle.n2_parts.specs.declared.board.Board.{Board}
use Rattle.n2_parts.specs.declared.board.PartKind.{PartKind}
use Rattle.n2_parts.specs.declared.board.PartKind.TheVariants.{Top, Memory, Core, Mutex, Mailbox, Timer, Uart, Region, Dump, Script}
use Rattle.n2_parts.specs.declared.board.Part.{Part}
use Rattle.n2_parts.specs.declared.board.BoardFault.{BoardFault}
use Rattle.n2_parts.specs.declared.validity.PairRule.{PairRule}
use Rattle.n2_parts.specs.declared.validity.PairRule.TheVariants as pair_rules
use Rattle.n2_parts.specs.declared.board.BoardFault.TheVariants.{Count, Total}
use Rattle.n2_text.specs.Firsts.{first_of, unless}
use Rattle.n2_parts.specs.Parts.{first_part, first_pair, arrays, devices, count_of, part_of}
use Rattle.n2_parts.specs.Numbers.{is_between, top_numbers, number_fault}
use Rattle.n2_parts.specs.Rules.{name_fault, same_name, same_cpuid, core_fault, part_fault, overlap, inside_fault}

-- a rule on pairs
abbrev pub pair_fault : Board → PairRule → Part → Part → Option BoardFault
pair_fault b pair_rules.SameName p q = same_name b p q
pair_fault b pair_rules.SameCpuid p q = same_cpuid b p q
pair_fault b pair_rules.Overlap p q = overlap b p q

-- an array has from least to most parts
abbrev pub count_fault : Board → PartKind → ℕ → ℕ → Option BoardFault
count_fault b kind least most = unless (is_between least most (count_of b kind)) (Count kind (count_of b kind))

unfoldable pub counts : Board → Option BoardFault
counts b = first_of (
    count_fault b Memory 1 4
    ∷ count_fault b Core 1 8
    ∷ count_fault b Mutex 0 32
    ∷ count_fault b Mailbox 0 32
    ∷ count_fault b Timer 0 8
    ∷ count_fault b Uart 0 8
    ∷ count_fault b Region 0 64
    ∷ count_fault b Dump 0 16
    ∷ count_fault b Script 0 1024
    ∷ [])

-- a total is no greater than most
abbrev pub total_fault : PartKind → ℕ → ℕ → Option BoardFault
total_fault kind most n = unless (nat_le n most) (Total kind n)

-- the bytes of all memories, the lines of all dumps, the events of the script
unfoldable pub totals : Board → Option BoardFault
totals b = first_of (
    total_fault Memory 268435456 (sum (map (λ row. row.size) b.memory))
    ∷ total_fault Dump 4096 (sum (map (λ row. row.lines) b.dump))
    ∷ total_fault Script 1000000 (sum (map (λ row. row.times) b.script))
    ∷ [])

-- the rules on names
unfoldable pub name_faults : Board → Option BoardFault
name_faults b = first_of (
    first_part b arrays (name_fault b)
    ∷ first_pair b devices (same_name b)
    ∷ first_pair b (Region ∷ []) (same_name b)
    ∷ [])

-- the rules on places
unfoldable pub place_faults : Board → Option BoardFault
place_faults b = first_of (
    first_pair b (Memory ∷ devices) (overlap b)
    ∷ first_pair b (Region ∷ []) (overlap b)
    ∷ first_part b arrays (inside_fault b)
    ∷ [])

-- the rules on numbers and names
unfoldable pub early_faults : Board → Option BoardFault
early_faults b = first_of (
    top_numbers b (part_of Top 0)
    ∷ first_part b arrays (number_fault b)
    ∷ name_faults b
    ∷ first_pair b (Core ∷ []) (same_cpuid b)
    ∷ [])

-- the rules on parts that others name, on places and on totals
unfoldable pub late_faults : Board → Option BoardFault
late_faults b = first_of (
    first_part b arrays (core_fault b)
    ∷ first_part b arrays (part_fault b)
    ∷ place_faults b
    ∷ totals b
    ∷ [])

-- the first rule that a board breaks
unfoldable pub first_fault : Board → Option BoardFault
first_fault b = first_of (counts b ∷ early_faults b ∷ late_faults b ∷ [])

-- a board that breaks none
abbrev pub IsValid : Board → Type 0
IsValid b = first_fault b ≡ None

-- no array is long
pub record IsSmall (b : Board) : Type 0 where
  pub memory : length b.memory ≤ 4
  pub core : length b.core ≤ 8
  pub mutex : length b.mutex ≤ 32
  pub mailbox : length b.mailbox ≤ 32
  pub timer : length b.timer ≤ 8
  pub uart : length b.uart ≤ 8
  pub region : length b.region ≤ 64
  pub dump : length b.dump ≤ 16
  pub script : length b.script ≤ 1024

-- a part breaks none of the rules on one part
pub record KeepsRules (b : Board) (part : Part) : Type 0 where
  pub numbers : number_fault b part ≡ None
  pub names : name_fault b part ≡ None
  pub cores : core_fault b part ≡ None
  pub parts : part_fault b part ≡ None
  pub inside : inside_fault b part ≡ None
