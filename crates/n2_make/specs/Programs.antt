-- The programs of a workload: each word of a generator is a critical section, which adds a number to
-- the first word of one line.
use Rattle.std.specs.Prelude.{ℕ, zero, suc, ◌+◌, ◌*◌, ◌/◌, ◌%◌, List, [], ◌∷◌, ◌++◌, codes, decimal}
use Rattle.rand_core.specs.Pcg32Seed.{pcg32_seed}
use Rattle.rand_pcg.specs.Lcg.{Lcg}
use Rattle.rand_pcg.specs.Pcg.{pcg32, pcg32_of_seed}
use Rattle.n2_text.specs.Fields.{word_text}
use Rattle.n2_order.specs.Choices.{words_of}
use Rattle.n2_hal.specs.Routines.{routines_text}
use Rattle.n2_make.specs.Boards.{program_at, mutex_at, region_at}

-- the mutex of a word
abbrev pub mutex_of : ℕ → ℕ
mutex_of word = mutex_at (word % 4)

-- the line of a word: one of the eight that its mutex guards
abbrev pub line_of : ℕ → ℕ
line_of word = region_at (word % 4) + 32 * (word / 4 % 8)

-- what a word adds
abbrev pub addend_of : ℕ → ℕ
addend_of word = word / 32 % 1000

-- a word as eight digits between two texts
unfoldable pub with_word : List ℕ → ℕ → List ℕ → List ℕ
with_word text word rest = text ++ word_text word ++ rest

-- a number in decimal between two texts
unfoldable pub with_number : List ℕ → ℕ → List ℕ → List ℕ
with_number text number rest = text ++ decimal number ++ rest

-- takes a mutex
unfoldable pub lock_text : ℕ → List ℕ
lock_text mutex = with_word (codes "movia r4, 0x") mutex (codes "\nmovi r5, 1\ncall altera_avalon_mutex_lock\n")

-- drops a line from the cache, and loads its first word
unfoldable pub load_text : ℕ → List ℕ
load_text line = with_word (codes "movia r16, 0x") line (codes "\ninitda 0(r16)\nldw r17, 0(r16)\n")

-- adds a number to the word, stores it, and flushes the line
unfoldable pub add_text : ℕ → List ℕ
add_text addend = with_number (codes "addi r17, r17, ") addend (codes "\nstw r17, 0(r16)\nmov r4, r16\nmovi r5, 4\ncall alt_dcache_flush\n")

-- gives a mutex back
unfoldable pub unlock_text : ℕ → List ℕ
unlock_text mutex = with_word (codes "movia r4, 0x") mutex (codes "\ncall altera_avalon_mutex_unlock\n")

-- the critical section of a word
unfoldable pub section : ℕ → List ℕ
section word = lock_text (mutex_of word) ++ load_text (line_of word) ++ add_text (addend_of word) ++ unlock_text (mutex_of word)

-- the critical sections of words, one after another
abbrev pub sections : List ℕ → List ℕ
sections [] = []
sections (word ∷ words) = section word ++ sections words

-- the source of core k, which makes the critical sections of words and breaks
abbrev pub source_of : ℕ → List ℕ → List ℕ
source_of k words = with_word (codes ".text 0x") (program_at k) (codes "\n") ++ sections words ++ codes "break\n"

-- a source with the routines behind it
abbrev pub program_of : List ℕ → List ℕ
program_of source = source ++ (10 ∷ []) ++ routines_text

-- a generator behind n words
abbrev pub behind : ℕ → Lcg → Lcg
behind zero generator = generator
behind (suc n) generator = behind n (pcg32 generator).1

-- the generator of a seed before the words of core k, where each core takes n words
abbrev pub before : ℕ → ℕ → Lcg
before n zero = pcg32_of_seed (pcg32_seed 16 n)
before n (suc k) = behind n (before n k)

-- the program of core k in the workload of n words a core
abbrev pub program : ℕ → ℕ → List ℕ
program n k = program_of (source_of k (words_of n (before n k)))
