-- The words of a board's text: its arrays and their keys.
use Rattle.std.specs.Prelude.{ℕ, List, codes}
use Rattle.n2_parts.specs.declared.board.PartKind.{PartKind}
use Rattle.n2_parts.specs.declared.board.PartKind.TheVariants as kinds
use Rattle.n2_parts.specs.declared.board.Key.{Key}
use Rattle.n2_parts.specs.declared.board.Key.TheVariants as keys

-- the name of an array of parts; top is the board itself
abbrev pub kind_name : PartKind → List ℕ
kind_name kinds.Top = codes "top"
kind_name kinds.Memory = codes "memory"
kind_name kinds.Core = codes "core"
kind_name kinds.Mutex = codes "mutex"
kind_name kinds.Mailbox = codes "mailbox"
kind_name kinds.Timer = codes "timer"
kind_name kinds.Uart = codes "uart"
kind_name kinds.Region = codes "region"
kind_name kinds.Dump = codes "dump"
kind_name kinds.Script = codes "script"

-- the name of a key
abbrev pub key_name : Key → List ℕ
key_name keys.Turns = codes "turns"
key_name keys.Journal = codes "journal"
key_name keys.Base = codes "base"
key_name keys.Size = codes "size"
key_name keys.Cpuid = codes "cpuid"
key_name keys.Image = codes "image"
key_name keys.At = codes "at"
key_name keys.Reset = codes "reset"
key_name keys.Exception = codes "exception"
key_name keys.Dcache = codes "dcache"
key_name keys.Icache = codes "icache"
key_name keys.Sample = codes "sample"
key_name keys.Evict = codes "evict"
key_name keys.Name = codes "name"
key_name keys.Send = codes "send"
key_name keys.Receive = codes "receive"
key_name keys.Sender = codes "sender"
key_name keys.Receiver = codes "receiver"
key_name keys.SendIrq = codes "send_irq"
key_name keys.ReceiveIrq = codes "receive_irq"
key_name keys.Core = codes "core"
key_name keys.Irq = codes "irq"
key_name keys.Period = codes "period"
key_name keys.ReadDepth = codes "read_depth"
key_name keys.WriteDepth = codes "write_depth"
key_name keys.Input = codes "input"
key_name keys.Class = codes "class"
key_name keys.Mutex = codes "mutex"
key_name keys.Holder = codes "holder"
key_name keys.Mailboxes = codes "mailboxes"
key_name keys.Lines = codes "lines"
key_name keys.Do = codes "do"
key_name keys.N = codes "n"
key_name keys.Uart = codes "uart"
key_name keys.Times = codes "times"
