-- Whether two entries of journals are the same, as a test.
use Rattle.std.specs.Prelude.{ℕ, List, [], ◌∷◌, Bool, true, false, not, ◌==◌, ◌&&◌}
use Rattle.n2_word.specs.Words.{size}
use Rattle.n2_bus.specs.declared.request.Request.{Request}
use Rattle.n2_bus.specs.declared.request.Request.TheVariants.{FillCode, FillData, WriteBack, Read, Write, Sample, Tick, Receive, Drain}
use Rattle.n2_bus.specs.declared.request.Reply.{Reply}
use Rattle.n2_journal.specs.declared.entry.Entry.{Entry}

abbrev pub same_words : List ℕ → List ℕ → Bool
same_words [] [] = true
same_words (word ∷ words) (other ∷ others) = word == other && same_words words others
same_words _ _ = false

abbrev pub same_flag : Bool → Bool → Bool
same_flag true flag = flag
same_flag false flag = not flag

abbrev pub same_request : Request → Request → Bool
same_request (FillCode line) (FillCode other) = line == other
same_request (FillData line) (FillData other) = line == other
same_request (WriteBack line words) (WriteBack other others) = line == other && same_words words others
same_request (Read address width) (Read other wide) = address == other && size width == size wide
same_request (Write address width value) (Write other wide written) = address == other && size width == size wide && value == written
same_request Sample Sample = true
same_request (Tick n) (Tick other) = n == other
same_request (Receive uart) (Receive other) = uart == other
same_request (Drain uart) (Drain other) = uart == other
same_request _ _ = false

abbrev pub same_reply : Reply → Reply → Bool
same_reply reply other =
    same_words reply.words other.words && reply.lines == other.lines && same_flag reply.took other.took && reply.pointer == other.pointer

abbrev pub same_entry : Entry → Entry → Bool
same_entry entry other =
    entry.actor == other.actor && entry.local == other.local && same_request entry.request other.request && same_reply entry.reply other.reply
