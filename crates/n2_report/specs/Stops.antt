-- Why a core stopped, as text and as a status.
use Rattle.std.specs.Prelude.{ℕ, ◌%◌, ◌^◌, List, ◌++◌, Bool, true, false, Option, Some, None, if◌then◌else◌, codes}
use Rattle.std.specs.List.{list_all, list_any}
use Rattle.n2_text.specs.Fields.{word_text}
use Rattle.n2_word.specs.Lines.{base_of}
use Rattle.n2_parts.specs.declared.stops.Kind.{Kind}
use Rattle.n2_parts.specs.declared.stops.Kind.TheVariants.{Separate, Lock, Invalidate, Flush}
use Rattle.n2_parts.specs.declared.stops.Refusal.{Refusal}
use Rattle.n2_parts.specs.declared.stops.Stop.{Stop}
use Rattle.n2_parts.specs.declared.stops.Stop.TheVariants.{Broke, Refused, Stray, Spent, LogFull}

abbrev pub kind_text : Kind → List ℕ
kind_text Separate = codes "separate"
kind_text Lock = codes "lock"
kind_text Invalidate = codes "invalidate"
kind_text Flush = codes "flush"

-- a refusal, with the first address of its line
unfoldable pub refusal_text : Refusal → List ℕ
refusal_text refusal =
    codes "refused " ++ kind_text refusal.kind ++ codes " pc " ++ word_text refusal.pc ++ codes " insn " ++ word_text refusal.insn
    ++ codes " address " ++ word_text refusal.address ++ codes " line " ++ word_text (base_of refusal.line % 2 ^ 32)

-- a word's name and its digits
abbrev pub named : List ℕ → ℕ → List ℕ
named name word = name ++ word_text word

-- how a core stopped, or that it runs, with its program counter
unfoldable pub stop_text : ℕ → Option Stop → List ℕ
stop_text pc None = named (codes "running ") pc
stop_text pc (Some Broke) = named (codes "broke ") pc
stop_text pc (Some (Refused refusal)) = refusal_text refusal
stop_text pc (Some (Stray address)) = named (codes "stray ") pc ++ named (codes " ") address
stop_text pc (Some Spent) = named (codes "running ") pc
stop_text pc (Some LogFull) = named (codes "running ") pc

-- an access of the core was refused, or strayed
abbrev pub is_refused : Option Stop → Bool
is_refused (Some (Refused refusal)) = true
is_refused (Some (Stray address)) = true
is_refused _ = false

-- the core came to `break`
abbrev pub has_broken : Option Stop → Bool
has_broken (Some Broke) = true
has_broken _ = false

-- 0 where every core came to `break`, 1 where an access of one was refused or strayed, else 2
abbrev pub status_of : List (Option Stop) → ℕ
status_of stops = if list_all has_broken stops then 0 else (if list_any is_refused stops then 1 else 2)
