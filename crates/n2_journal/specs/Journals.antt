-- What a journal is: the transfers of a run in their order, and for each core its turns after its last transfer.
use Rattle.std.specs.Prelude.{◌≡◌, ℕ, ◌+◌, ◌^◌, ◌<◌, ◌≤◌, List, [], ◌∷◌, ◌++◌, length, map, replicate, slice_index, slice_set, false, IsTrue, All}
use Rattle.n2_word.specs.Words.{is_aligned}
use Rattle.n2_bus.specs.declared.request.Request.{Request}
use Rattle.n2_bus.specs.declared.request.Request.TheVariants.{FillCode, FillData, WriteBack, Read, Write, Sample, Tick, Receive, Drain}
use Rattle.n2_bus.specs.declared.request.Reply.{Reply}
use Rattle.n2_journal.specs.declared.entry.Entry.{Entry}

-- the transfers, and the turns of each core after its last one
pub record Content : Type 0 where
  pub entries : List Entry
  pub tails : List ℕ

-- a journal, and how many entries it was made for
pub record Limited : Type 0 where
  pub content : Content
  pub limit : ℕ

-- no transfers yet
abbrev pub empty_of : ℕ → Content
empty_of cores = record { entries = []; tails = replicate cores 0 }

abbrev pub with_entry : Content → Entry → Content
with_entry j entry = record { entries = j.entries ++ entry ∷ []; tails = j.tails }

abbrev pub with_tail : Content → ℕ → ℕ → Content
with_tail j core tail = record { entries = j.entries; tails = slice_set j.tails core tail }

-- ---- the order of a journal: turns of one actor, so many at a time

-- the tails from a core on
abbrev pub tail_turns : ℕ → List ℕ → List (ℕ × ℕ)
tail_turns core [] = []
tail_turns core (tail ∷ tails) = (core, tail) ∷ tail_turns (core + 1) tails

-- for each entry the actor's turns up to and with the transfer, and then for each core its tail
abbrev pub order_of : Content → List (ℕ × ℕ)
order_of j = map (λ entry. (entry.actor, entry.local + 1)) j.entries ++ tail_turns 0 j.tails

-- that many turns can be counted
abbrev pub HasOrder : Content → Type 0
HasOrder j = All (λ entry. entry.local + 1 < 2 ^ 64) j.entries

-- ---- replies that show a part

abbrev pub no_words : List ℕ
no_words = replicate 8 0

abbrev pub words_reply : List ℕ → Reply
words_reply words = record { words = words; lines = 0; took = false; pointer = 0 }

abbrev pub first_word : Reply → ℕ
first_word r = slice_index r.words 0

-- what a row shows of a reply; what it does not show is 0 or false
abbrev pub shown : Request → Reply → Reply
shown (FillCode line) r = words_reply r.words
shown (FillData line) r = words_reply r.words
shown (WriteBack line words) r = words_reply no_words
shown (Read address width) r = record { words = first_word r ∷ replicate 7 0; lines = r.lines; took = r.took; pointer = r.pointer }
shown (Write address width value) r = record { words = no_words; lines = r.lines; took = r.took; pointer = r.pointer }
shown Sample r = record { words = no_words; lines = r.lines; took = false; pointer = 0 }
shown (Tick n) r = words_reply no_words
shown (Receive uart) r = record { words = no_words; lines = 0; took = r.took; pointer = 0 }
shown (Drain uart) r = record { words = no_words; lines = 0; took = r.took; pointer = 0 }

-- ---- the limits of a journal that has a text

abbrev pub AreEightWords : List ℕ → Type 0
AreEightWords words = (length words ≡ 8) × All (λ word. word < 2 ^ 32) words

pub record IsReplyWithin (r : Reply) : Type 0 where
  pub words : AreEightWords r.words
  pub lines : r.lines < 2 ^ 32
  pub pointer : r.pointer < 2 ^ 32

-- lines and addresses are below 2^31, addresses aligned; there are at most eight UARTs
abbrev pub IsRequestWithin : Request → Type 0
IsRequestWithin (FillCode line) = line < 2 ^ 26
IsRequestWithin (FillData line) = line < 2 ^ 26
IsRequestWithin (WriteBack line words) = (line < 2 ^ 26) × AreEightWords words
IsRequestWithin (Read address width) = (address < 2 ^ 31) × IsTrue (is_aligned address width)
IsRequestWithin (Write address width value) = (address < 2 ^ 31) × IsTrue (is_aligned address width) × (value < 2 ^ 32)
IsRequestWithin Sample = Unit {0}
IsRequestWithin (Tick n) = (1 ≤ n) × (n < 2 ^ 32)
IsRequestWithin (Receive uart) = uart < 8
IsRequestWithin (Drain uart) = uart < 8

-- the device actor, whose number is the number of cores, makes the device events, each in its next turn; the cores make
-- the rest
abbrev pub IsActorWithin : ℕ → ℕ → ℕ → Request → Type 0
IsActorWithin cores actor local (Tick n) = (actor ≡ cores) × (local ≡ 0)
IsActorWithin cores actor local (Receive uart) = (actor ≡ cores) × (local ≡ 0)
IsActorWithin cores actor local (Drain uart) = (actor ≡ cores) × (local ≡ 0)
IsActorWithin cores actor local _ = (actor < cores) × (local ≤ 1000000000)

pub record IsEntryWithin (cores : ℕ) (entry : Entry) : Type 0 where
  pub actor : IsActorWithin cores entry.actor entry.local entry.request
  pub request : IsRequestWithin entry.request
  pub reply : IsReplyWithin entry.reply
  pub shown : entry.reply ≡ shown entry.request entry.reply

pub record IsWithinLimits (j : Content) : Type 0 where
  pub entries : All (IsEntryWithin (length j.tails)) j.entries
  pub few_entries : length j.entries ≤ 1000000
  pub some_core : 1 ≤ length j.tails
  pub few_cores : length j.tails ≤ 8
  pub tails : All (λ tail. tail ≤ 1000000000) j.tails
