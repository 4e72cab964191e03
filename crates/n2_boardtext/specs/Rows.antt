-- Faults of a board's text as rows.
use Rattle.std.specs.Prelude.{ℕ, List, ◌++◌, codes, decimal}
use Rattle.n2_parts.specs.declared.board.Part.{Part}
use Rattle.n2_parts.specs.declared.board.PartKind.{PartKind}
use Rattle.n2_parts.specs.declared.board.Key.{Key}
use Rattle.n2_parts.specs.declared.board.BoardFault.{BoardFault}
use Rattle.n2_parts.specs.declared.board.BoardFault.TheVariants as rules
use Rattle.n2_boardtext.specs.declared.fault.TextFault.{TextFault}
use Rattle.n2_boardtext.specs.declared.fault.TextFault.TheVariants as faults
use Rattle.n2_boardtext.specs.Words.{kind_name, key_name}

-- an array and a number
abbrev pub kind_text : PartKind → ℕ → List ℕ
kind_text kind n = kind_name kind ++ codes " " ++ decimal n

-- a part: its array and its number there
abbrev pub part_text : Part → List ℕ
part_text part = kind_text part.kind part.index

-- two parts
abbrev pub pair_text : Part → Part → List ℕ
pair_text first second = part_text first ++ codes " " ++ part_text second

-- two numbers
abbrev pub numbers_text : ℕ → ℕ → List ℕ
numbers_text i j = decimal i ++ codes " " ++ decimal j

-- a key of a part
abbrev pub key_text : Part → Key → List ℕ
key_text part key = part_text part ++ codes " " ++ key_name key

-- a broken rule of boards: its name, and which parts break it
unfoldable pub rule_text : BoardFault → List ℕ
rule_text (rules.Count kind n) = codes "count " ++ kind_text kind n
rule_text (rules.Number part key) = codes "number " ++ key_text part key
rule_text (rules.Name part) = codes "name " ++ part_text part
rule_text (rules.SameName first second) = codes "samename " ++ pair_text first second
rule_text (rules.SameCpuid i j) = codes "samecpuid " ++ numbers_text i j
rule_text (rules.NoCore part) = codes "nocore " ++ part_text part
rule_text (rules.NoPart part) = codes "nopart " ++ part_text part
rule_text (rules.Overlap first second) = codes "overlap " ++ pair_text first second
rule_text (rules.Inside part) = codes "inside " ++ part_text part
rule_text (rules.Total kind n) = codes "total " ++ kind_text kind n

-- what is wrong with a board's text, and where
unfoldable pub cause_text : TextFault → List ℕ
cause_text faults.NotToml = codes "not toml"
cause_text (faults.Unknown part) = codes "unknown " ++ part_text part
cause_text (faults.Missing part key) = codes "missing " ++ key_text part key
cause_text (faults.Kind part key) = codes "kind " ++ key_text part key
cause_text (faults.Range part key) = codes "range " ++ key_text part key
cause_text (faults.NoPart part key) = codes "nopart " ++ key_text part key
cause_text (faults.Board rule) = rule_text rule
cause_text faults.NoMemory = codes "nomemory"

-- the row of a fault, without its line feed
unfoldable pub fault_text : TextFault → List ℕ
fault_text fault = codes "board " ++ cause_text fault
