-- Faults as text.
use Rattle.std.specs.Prelude.{ℕ, List, ◌++◌, codes, decimal}
use Rattle.n2_statement.specs.declared.faults.AsmKind.{AsmKind}
use Rattle.n2_statement.specs.declared.faults.AsmKind.TheVariants.{NotAscii, Unknown, Operands, Label, NoLabel, Range, Place}

abbrev pub kind_text : AsmKind → List ℕ
kind_text NotAscii = codes "notascii"
kind_text Unknown = codes "unknown"
kind_text Operands = codes "operands"
kind_text Label = codes "label"
kind_text NoLabel = codes "nolabel"
kind_text Range = codes "range"
kind_text Place = codes "place"

-- a faulty row
abbrev pub fault_text : ℕ → AsmKind → List ℕ
fault_text row kind = codes "row " ++ decimal row ++ codes " " ++ kind_text kind
