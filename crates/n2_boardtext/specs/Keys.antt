-- The keys that each part has in a board's text: the table that a text is read by.
use Rattle.std.specs.Prelude.{ℕ, List, [], ◌∷◌, Option, codes, find}
use Rattle.std.specs.Option.{option_map_or}
use Rattle.std.specs.Str.{bytes_eq}
use Rattle.n2_parts.specs.declared.board.PartKind.{PartKind}
use Rattle.n2_parts.specs.declared.board.PartKind.TheVariants as kinds
use Rattle.n2_parts.specs.declared.board.Key.{Key}
use Rattle.n2_parts.specs.declared.board.Key.TheVariants as keys
use Rattle.n2_boardtext.specs.declared.keys.Sort.{Sort}
use Rattle.n2_boardtext.specs.declared.keys.Sort.TheVariants.{Number, Text, Choice, Name, Names}
use Rattle.n2_boardtext.specs.declared.keys.Word.{Word}
use Rattle.n2_boardtext.specs.declared.keys.Word.TheVariants as words
use Rattle.n2_boardtext.specs.declared.keys.Named.{Named}
use Rattle.n2_boardtext.specs.declared.keys.Named.TheVariants as arrays
use Rattle.n2_boardtext.specs.declared.keys.Entry.{Entry}
use Rattle.n2_boardtext.specs.declared.keys.Entry.TheVariants.{Must, May}

-- what a key holds: numbers are bounded by the width of the board's field
abbrev pub sort_of : Key → Sort
sort_of keys.Turns = Number 18446744073709551615
sort_of keys.Cpuid = Number 65535
sort_of keys.Image = Text
sort_of keys.Name = Text
sort_of keys.Input = Text
sort_of keys.Class = Choice
sort_of keys.Do = Choice
sort_of keys.Mutex = Name arrays.Mutex
sort_of keys.Mailboxes = Names arrays.Mailbox
sort_of keys.Uart = Name arrays.Uart
sort_of _ = Number 4294967295

-- the arrays whose parts are named elsewhere
abbrev pub kind_of : Named → PartKind
kind_of arrays.Mutex = kinds.Mutex
kind_of arrays.Mailbox = kinds.Mailbox
kind_of arrays.Uart = kinds.Uart

-- the number of a key that is not given
abbrev pub default_of : Key → ℕ
default_of keys.Turns = 1000000
default_of keys.Journal = 100000
default_of keys.Exception = 32
default_of keys.Dcache = 2048
default_of keys.Icache = 4096
default_of keys.Sample = 64
default_of keys.ReadDepth = 64
default_of keys.WriteDepth = 64
default_of keys.Times = 1
default_of _ = 0

-- the keys of a part of an array, in order: first its own ones, then those of its word, then the rest
abbrev pub first_entries : PartKind → List Entry
first_entries kinds.Top = May keys.Turns ∷ May keys.Journal ∷ []
first_entries kinds.Memory = Must keys.Base ∷ Must keys.Size ∷ []
first_entries kinds.Core =
    Must keys.Cpuid
    ∷ Must keys.Image
    ∷ May keys.At
    ∷ May keys.Reset
    ∷ May keys.Exception
    ∷ May keys.Dcache
    ∷ May keys.Icache
    ∷ May keys.Sample
    ∷ May keys.Evict
    ∷ []
first_entries kinds.Mutex = Must keys.Name ∷ Must keys.Base ∷ []
first_entries kinds.Mailbox =
    Must keys.Name
    ∷ Must keys.Send
    ∷ Must keys.Receive
    ∷ Must keys.Sender
    ∷ Must keys.Receiver
    ∷ May keys.SendIrq
    ∷ May keys.ReceiveIrq
    ∷ []
first_entries kinds.Timer = Must keys.Name ∷ Must keys.Base ∷ May keys.Core ∷ May keys.Irq ∷ May keys.Period ∷ []
first_entries kinds.Uart =
    Must keys.Name
    ∷ Must keys.Base
    ∷ May keys.Core
    ∷ May keys.Irq
    ∷ May keys.ReadDepth
    ∷ May keys.WriteDepth
    ∷ May keys.Input
    ∷ []
first_entries kinds.Region = Must keys.Name ∷ Must keys.Base ∷ Must keys.Size ∷ Must keys.Class ∷ []
first_entries kinds.Dump = Must keys.At ∷ Must keys.Lines ∷ []
first_entries kinds.Script = Must keys.Do ∷ []

-- the word of a region is its class, that of a row of the script its event
abbrev pub word_entries : Word → List Entry
word_entries words.Private = Must keys.Core ∷ []
word_entries words.Mutex = Must keys.Mutex ∷ []
word_entries words.Passed = Must keys.Holder ∷ Must keys.Mailboxes ∷ []
word_entries words.Tick = Must keys.N ∷ []
word_entries words.Receive = Must keys.Uart ∷ []
word_entries words.Drain = Must keys.Uart ∷ []
word_entries _ = []

abbrev pub last_entries : PartKind → List Entry
last_entries kinds.Script = May keys.Times ∷ []
last_entries _ = []

-- the keys that some word has
abbrev pub any_entries : PartKind → List Entry
any_entries kinds.Region = Must keys.Core ∷ Must keys.Mutex ∷ Must keys.Holder ∷ Must keys.Mailboxes ∷ []
any_entries kinds.Script = Must keys.N ∷ Must keys.Uart ∷ []
any_entries _ = []

-- the keys of a word, or these where the word is not known
abbrev pub entries_by : Option Word → List Entry → List Entry
entries_by word others = option_map_or word_entries word others

-- the key that a part has first
abbrev pub first_key : PartKind → Key
first_key kinds.Top = keys.Turns
first_key kinds.Memory = keys.Base
first_key kinds.Core = keys.Cpuid
first_key kinds.Dump = keys.At
first_key kinds.Script = keys.Do
first_key _ = keys.Name

abbrev pub key_of : Entry → Key
key_of (Must key) = key
key_of (May key) = key

-- the words of a key
abbrev pub words_of : Key → List Word
words_of keys.Class = words.Code ∷ words.Private ∷ words.Mutex ∷ words.Passed ∷ words.Uncached ∷ []
words_of keys.Do = words.Tick ∷ words.Receive ∷ words.Drain ∷ []
words_of _ = []

abbrev pub word_name : Word → List ℕ
word_name words.Code = codes "code"
word_name words.Private = codes "private"
word_name words.Mutex = codes "mutex"
word_name words.Passed = codes "passed"
word_name words.Uncached = codes "uncached"
word_name words.Tick = codes "tick"
word_name words.Receive = codes "receive"
word_name words.Drain = codes "drain"

-- the word of a key that a text is, if it is one
abbrev pub word_of : Key → List ℕ → Option Word
word_of key text = find (λ word. bytes_eq text (word_name word)) (words_of key)
