-- The board that a text's tree stands for, where nothing is wrong with the tree.
use Rattle.std.specs.Prelude.{ℕ, List, [], map, filter_map, Option, Some, option_and_then, option_map, unwrap_or}
use Rattle.toml.specs.Data.{Data, Members, as_str, as_table}
use Rattle.n2_parts.specs.declared.board.Board.{Board}
use Rattle.n2_parts.specs.declared.board.MemoryRow.{MemoryRow}
use Rattle.n2_parts.specs.declared.board.CoreRow.{CoreRow}
use Rattle.n2_parts.specs.declared.board.MutexRow.{MutexRow}
use Rattle.n2_parts.specs.declared.board.MailboxRow.{MailboxRow}
use Rattle.n2_parts.specs.declared.board.TimerRow.{TimerRow}
use Rattle.n2_parts.specs.declared.board.UartRow.{UartRow}
use Rattle.n2_parts.specs.declared.board.RegionRow.{RegionRow}
use Rattle.n2_parts.specs.declared.board.RegionClass.{RegionClass}
use Rattle.n2_parts.specs.declared.board.RegionClass.TheVariants as classes
use Rattle.n2_parts.specs.declared.board.DumpRow.{DumpRow}
use Rattle.n2_parts.specs.declared.board.ScriptRow.{ScriptRow}
use Rattle.n2_parts.specs.declared.board.DeviceEvent.{DeviceEvent}
use Rattle.n2_parts.specs.declared.board.DeviceEvent.TheVariants as events
use Rattle.n2_parts.specs.declared.board.PartKind.{PartKind}
use Rattle.n2_parts.specs.declared.board.PartKind.TheVariants as kinds
use Rattle.n2_parts.specs.declared.board.Key.{Key}
use Rattle.n2_parts.specs.declared.board.Key.TheVariants as keys
use Rattle.n2_boardtext.specs.declared.keys.Sort.{Sort}
use Rattle.n2_boardtext.specs.declared.keys.Sort.TheVariants.{Number}
use Rattle.n2_boardtext.specs.declared.keys.Word.{Word}
use Rattle.n2_boardtext.specs.declared.keys.Word.TheVariants as words
use Rattle.n2_boardtext.specs.declared.keys.Named.{Named}
use Rattle.n2_boardtext.specs.declared.keys.Named.TheVariants as arrays
use Rattle.n2_boardtext.specs.Keys.{sort_of, default_of}
use Rattle.n2_boardtext.specs.Values.{value_at, number_in, text_at, word_at, values_of, items_at, index_of}

-- ---- the value of a key

-- the greatest number of a sort
abbrev pub most_of : Sort → ℕ
most_of (Number most) = most
most_of _ = 0

-- the number of a key, if it is given; or else its default
abbrev pub given_number : Key → Members → Option ℕ
given_number key t = option_and_then (number_in (most_of (sort_of key))) (value_at key t)

abbrev pub number_at : Key → Members → ℕ
number_at key t = unwrap_or (given_number key t) (default_of key)

-- the text of a key, or else the empty one
abbrev pub text_or_empty : Key → Members → List ℕ
text_or_empty key t = unwrap_or (text_at key t) []

-- the number of the part that a name names
abbrev pub part_in : Named → Members → Option (List ℕ) → ℕ
part_in array tree name = unwrap_or (option_and_then (index_of array tree) name) 0

-- the numbers of the parts that a list of names names
abbrev pub parts_in : Named → Members → List Data → List ℕ
parts_in array tree ds = map (λ d. part_in array tree (as_str d)) ds

-- ---- the row of a table of a tree

abbrev pub memory_row : Members → Members → MemoryRow
memory_row tree t = record { base = number_at keys.Base t; size = number_at keys.Size t }

abbrev pub core_row : Members → Members → CoreRow
core_row tree t = record {
  cpuid = number_at keys.Cpuid t;
  image = text_or_empty keys.Image t;
  at = number_at keys.At t;
  reset = given_number keys.Reset t;
  exception = number_at keys.Exception t;
  dcache = number_at keys.Dcache t;
  icache = number_at keys.Icache t;
  sample = number_at keys.Sample t;
  evict = number_at keys.Evict t;
}

abbrev pub mutex_row : Members → Members → MutexRow
mutex_row tree t = record { name = text_or_empty keys.Name t; base = number_at keys.Base t }

abbrev pub mailbox_row : Members → Members → MailboxRow
mailbox_row tree t = record {
  name = text_or_empty keys.Name t;
  send = number_at keys.Send t;
  receive = number_at keys.Receive t;
  sender = number_at keys.Sender t;
  receiver = number_at keys.Receiver t;
  send_irq = given_number keys.SendIrq t;
  receive_irq = given_number keys.ReceiveIrq t;
}

abbrev pub timer_row : Members → Members → TimerRow
timer_row tree t = record {
  name = text_or_empty keys.Name t;
  base = number_at keys.Base t;
  core = number_at keys.Core t;
  irq = given_number keys.Irq t;
  period = number_at keys.Period t;
}

abbrev pub uart_row : Members → Members → UartRow
uart_row tree t = record {
  name = text_or_empty keys.Name t;
  base = number_at keys.Base t;
  core = number_at keys.Core t;
  irq = given_number keys.Irq t;
  read_depth = number_at keys.ReadDepth t;
  write_depth = number_at keys.WriteDepth t;
  input = text_or_empty keys.Input t;
}

-- the class of a region, by its word
abbrev pub class_by : Members → Members → Option Word → RegionClass
class_by tree t (Some words.Private) = classes.Private (number_at keys.Core t)
class_by tree t (Some words.Mutex) = classes.Mutex (part_in arrays.Mutex tree (text_at keys.Mutex t))
class_by tree t (Some words.Passed) = classes.Passed (number_at keys.Holder t) (parts_in arrays.Mailbox tree (values_of (value_at keys.Mailboxes t)))
class_by tree t (Some words.Uncached) = classes.Uncached
class_by tree t _ = classes.Code

abbrev pub region_row : Members → Members → RegionRow
region_row tree t = record {
  name = text_or_empty keys.Name t;
  base = number_at keys.Base t;
  size = number_at keys.Size t;
  class = class_by tree t (word_at keys.Class t);
}

abbrev pub dump_row : Members → Members → DumpRow
dump_row tree t = record { at = number_at keys.At t; lines = number_at keys.Lines t }

-- the event of a row of the script, by its word
abbrev pub event_by : Members → Members → Option Word → DeviceEvent
event_by tree t (Some words.Receive) = events.Receive (part_in arrays.Uart tree (text_at keys.Uart t))
event_by tree t (Some words.Drain) = events.Drain (part_in arrays.Uart tree (text_at keys.Uart t))
event_by tree t _ = events.Tick (number_at keys.N t)

abbrev pub script_row : Members → Members → ScriptRow
script_row tree t = record { event = event_by tree t (word_at keys.Do t); times = number_at keys.Times t }

-- ---- the board of a tree

-- the rows of the tables of an array
abbrev pub rows_in : {A : Type 0} → (Members → A) → List Data → List A
rows_in row ds = filter_map (λ d. option_map row (as_table d)) ds

abbrev pub rows_at : {A : Type 0} → PartKind → (Members → Members → A) → Members → List A
rows_at kind row tree = rows_in (row tree) (items_at kind tree)

unfoldable pub board_of : Members → Board
board_of tree = record {
  turns = number_at keys.Turns tree;
  journal = number_at keys.Journal tree;
  memory = rows_at kinds.Memory memory_row tree;
  core = rows_at kinds.Core core_row tree;
  mutex = rows_at kinds.Mutex mutex_row tree;
  mailbox = rows_at kinds.Mailbox mailbox_row tree;
  timer = rows_at kinds.Timer timer_row tree;
  uart = rows_at kinds.Uart uart_row tree;
  region = rows_at kinds.Region region_row tree;
  dump = rows_at kinds.Dump dump_row tree;
  script = rows_at kinds.Script script_row tree;
}
