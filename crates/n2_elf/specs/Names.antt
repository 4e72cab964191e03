-- Faults as text.
use Rattle.std.specs.Prelude.{ℕ, List, ◌++◌, codes, decimal}
use Rattle.n2_elf.specs.declared.image.ElfFault.{ElfFault}
use Rattle.n2_elf.specs.declared.image.ElfFault.TheVariants.{NotElf, Cut, WrongClass, WrongMachine, WrongType, Flags, EntrySize, Sizes, NoSegment, NoMemory}

-- a fault in lower-case letters, with its number where it has one
unfoldable pub fault_text : ElfFault → List ℕ
fault_text NotElf = codes "notelf"
fault_text (Cut place) = codes "cut " ++ decimal place
fault_text WrongClass = codes "wrongclass"
fault_text (WrongMachine n) = codes "wrongmachine " ++ decimal n
fault_text (WrongType n) = codes "wrongtype " ++ decimal n
fault_text (Flags n) = codes "flags " ++ decimal n
fault_text (EntrySize n) = codes "entrysize " ++ decimal n
fault_text (Sizes i) = codes "sizes " ++ decimal i
fault_text NoSegment = codes "nosegment"
fault_text NoMemory = codes "nomemory"
