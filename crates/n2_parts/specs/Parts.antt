-- The parts of a board in their order, and the first fault among them.
use Rattle.std.specs.Prelude.{ℕ, zero, suc, ◌+◌, List, [], ◌∷◌, length, Bool, ◌&&◌, ◌==◌, Option, None, option_and_then, slice_get}
use Rattle.std.specs.Option.{option_or}
use Rattle.n2_parts.specs.declared.board.Board.{Board}
use Rattle.n2_parts.specs.declared.board.Part.{Part}
use Rattle.n2_parts.specs.declared.board.PartKind.{PartKind}
use Rattle.n2_parts.specs.declared.board.PartKind.TheVariants.{Top, Memory, Core, Mutex, Mailbox, Timer, Uart, Region, Dump, Script}
use Rattle.n2_parts.specs.declared.board.BoardFault.{BoardFault}

-- the first fault that f finds at i, i + 1, and so on, n numbers
unfoldable pub first_from : {F : Type 0} → (ℕ → Option F) → ℕ → ℕ → Option F
first_from f i zero = None
first_from f i (suc n) = option_or (f i) (first_from f (i + 1) n)

-- the arrays of parts, in order
abbrev pub arrays : List PartKind
arrays = Memory ∷ Core ∷ Mutex ∷ Mailbox ∷ Timer ∷ Uart ∷ Region ∷ Dump ∷ Script ∷ []

-- those of devices
abbrev pub devices : List PartKind
devices = Mutex ∷ Mailbox ∷ Timer ∷ Uart ∷ []

-- how many parts an array has
abbrev pub count_of : Board → PartKind → ℕ
count_of b Top = 1
count_of b Memory = length b.memory
count_of b Core = length b.core
count_of b Mutex = length b.mutex
count_of b Mailbox = length b.mailbox
count_of b Timer = length b.timer
count_of b Uart = length b.uart
count_of b Region = length b.region
count_of b Dump = length b.dump
count_of b Script = length b.script

abbrev pub part_of : PartKind → ℕ → Part
part_of kind index = record { kind = kind; index = index }

-- the first fault that f finds at the parts of an array
abbrev pub first_of_kind : Board → PartKind → (Part → Option BoardFault) → Option BoardFault
first_of_kind b kind f = first_from (λ i. f (part_of kind i)) 0 (count_of b kind)

-- the first fault that f finds at the parts of some arrays, in order
unfoldable pub first_part : Board → List PartKind → (Part → Option BoardFault) → Option BoardFault
first_part b [] f = None
first_part b (kind ∷ kinds) f = option_or (first_of_kind b kind f) (first_part b kinds f)

-- the first fault that f finds at pairs of these parts: at the lowest first part, and with it at
-- the lowest second one
abbrev pub first_pair : Board → List PartKind → (Part → Part → Option BoardFault) → Option BoardFault
first_pair b kinds f = first_part b kinds (λ p. first_part b kinds (λ q. f p q))

-- what f finds at a row, if there is such a row
abbrev pub at_row : {A B : Type 0} → List A → ℕ → (A → Option B) → Option B
at_row rows i f = option_and_then f (slice_get rows i)

-- the place of an array among them
abbrev pub rank : PartKind → ℕ
rank Top = 0
rank Memory = 1
rank Core = 2
rank Mutex = 3
rank Mailbox = 4
rank Timer = 5
rank Uart = 6
rank Region = 7
rank Dump = 8
rank Script = 9

abbrev pub same_part : Part → Part → Bool
same_part p q = rank p.kind == rank q.kind && p.index == q.index
