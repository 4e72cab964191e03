-- No fault of a tree is that there is no tree, or want of memory.
use Rattle.std.proofs.Common.{◌≡◌, ◌≢◌, ◌↔◌, ℕ, ◌^◌, Bool, true, false, List, [], ◌∷◌, length, map, Option, Some, None, Result, Ok, Err, nat_lt, refl, sym, ap, ◌∙◌}
use Rattle.std.specs.Prelude.{is_some, option_map}
use Rattle.std.specs.List.{list_all, enumerate_from}
use Rattle.std.specs.Option.{option_or, option_map_or}
use Rattle.toml.specs.Data.{Data, Members, as_integer, as_str, as_array, as_table}
use Rattle.n2_text.specs.Firsts.{first_of, unless}
use Rattle.n2_parts.specs.declared.board.Part.{Part}
use Rattle.n2_parts.specs.declared.board.PartKind.{PartKind}
use Rattle.n2_parts.specs.declared.board.PartKind.TheVariants.{Top}
use Rattle.n2_parts.specs.declared.board.Key.{Key}
use Rattle.n2_parts.specs.declared.board.Board.{Board}
use Rattle.n2_parts.specs.declared.board.BoardFault.{BoardFault}
use Rattle.n2_parts.specs.declared.board.BoardFault.TheVariants.{Count}
use Rattle.n2_parts.specs.Valid.{first_fault}
use Rattle.n2_parts.specs.Parts.{arrays, part_of}
use Rattle.n2_boardtext.specs.declared.fault.TextFault.{TextFault}
use Rattle.n2_boardtext.specs.declared.fault.TextFault.TheVariants as faults
use Rattle.n2_boardtext.specs.declared.keys.Sort.{Sort}
use Rattle.n2_boardtext.specs.declared.keys.Sort.TheVariants.{Number, Text, Choice, Name, Names}
use Rattle.n2_boardtext.specs.declared.keys.Named.{Named}
use Rattle.n2_boardtext.specs.declared.keys.Entry.{Entry}
use Rattle.n2_boardtext.specs.declared.keys.Entry.TheVariants.{Must, May}
use Rattle.n2_boardtext.specs.Keys.{sort_of, first_entries, last_entries, entries_by, first_key, key_of, word_of}
use Rattle.n2_boardtext.specs.Values.{value_at, array_at, items_at, list_of, in_range, word_in, index_of}
use Rattle.n2_boardtext.specs.Faults.{kind_or, is_text, is_part, names_fault, value_fault, absent_fault, entry_fault, entries_fault, are_known, table_fault, part_fault, parts_fault, array_fault, length_fault, lengths_fault, arrays_fault, text_fault}
use Rattle.n2_boardtext.specs.Boards.{board_of}
use Rattle.n2_boardtext.specs.Reading.{unless_faulty, reading, tree_of, reading_of, text_board}

-- a fault of a tree, or none
abbrev is_of_tree : Option TextFault → Bool
is_of_tree (Some faults.NotToml) = false
is_of_tree (Some faults.NoMemory) = false
is_of_tree _ = true

both : (a b : Option TextFault) → is_of_tree a ≡ true → is_of_tree b ≡ true → is_of_tree (option_or a b) ≡ true
both None b f g = g
both (Some fault) b f g = f

-- the first fault that f finds at some
each : {A : Type 0} (f : A → Option TextFault) (xs : List A) → ((x : A) → is_of_tree (f x) ≡ true) → is_of_tree (first_of (map f xs)) ≡ true
each f [] h = refl
each f (x ∷ xs) h = both (f x) (first_of (map f xs)) (h x) (each f xs h)

if_not : (holds : Bool) (fault : TextFault) → is_of_tree (Some fault) ≡ true → is_of_tree (unless holds fault) ≡ true
if_not true fault f = refl
if_not false fault f = f

-- what f finds at what is given, or else this
given_or : {A : Type 0} (f : A → Option TextFault) (given : Option A) (other : Option TextFault) → ((a : A) → is_of_tree (f a) ≡ true) → is_of_tree other ≡ true → is_of_tree (option_map_or f given other) ≡ true
given_or f None other h o = o
given_or f (Some a) other h o = h a

of_kind : {A : Type 0} (part : Part) (key : Key) (f : A → Option TextFault) (held : Option A) → ((a : A) → is_of_tree (f a) ≡ true) → is_of_tree (kind_or part key f held) ≡ true
of_kind part key f held h = given_or f held (Some (faults.Kind part key)) h refl

of_names : (tree : Members) (part : Part) (key : Key) (array : Named) (ds : List Data) → is_of_tree (names_fault tree part key array ds) ≡ true
of_names tree part key array ds =
    both _ _ (if_not (list_all is_text ds) (faults.Kind part key) refl) (both _ None (if_not (list_all (is_part array tree) ds) (faults.NoPart part key) refl) refl)

of_value : (tree : Members) (part : Part) (key : Key) (sort : Sort) (d : Data) → is_of_tree (value_fault tree part key sort d) ≡ true
unfolding value_fault
of_value tree part key (Number most) d = of_kind part key _ (as_integer d) (λ z. if_not (is_some (in_range most z)) (faults.Range part key) refl)
of_value tree part key Text d = of_kind part key _ (as_str d) (λ text. refl)
of_value tree part key Choice d = of_kind part key _ (as_str d) (λ text. if_not (is_some (word_of key text)) (faults.NoPart part key) refl)
of_value tree part key (Name array) d = of_kind part key _ (as_str d) (λ text. if_not (is_some (index_of array tree text)) (faults.NoPart part key) refl)
of_value tree part key (Names array) d = of_kind part key _ (as_array d) (λ ds. of_names tree part key array (list_of ds))

of_absent : (part : Part) (entry : Entry) → is_of_tree (absent_fault part entry) ≡ true
of_absent part (Must key) = refl
of_absent part (May key) = refl

of_entry : (tree : Members) (part : Part) (t : Members) (entry : Entry) → is_of_tree (entry_fault tree part t entry) ≡ true
of_entry tree part t entry =
    given_or _ (value_at (key_of entry) t) (absent_fault part entry) (λ d. of_value tree part (key_of entry) (sort_of (key_of entry)) d) (of_absent part entry)

of_entries : (tree : Members) (part : Part) (t : Members) (entries : List Entry) → is_of_tree (entries_fault tree part t entries) ≡ true
unfolding entries_fault
of_entries tree part t entries = each (entry_fault tree part t) entries (λ entry. of_entry tree part t entry)

of_table : (tree : Members) (part : Part) (t : Members) → is_of_tree (table_fault tree part t) ≡ true
unfolding table_fault
of_table tree part t =
    let word = word_in part.kind t in
    both _ _ (if_not (are_known part.kind word t) (faults.Unknown part) refl)
    (both _ _ (of_entries tree part t (first_entries part.kind))
    (both _ _ (of_entries tree part t (entries_by word [])) (both _ None (of_entries tree part t (last_entries part.kind)) refl)))

of_part : (tree : Members) (part : Part) (d : Data) → is_of_tree (part_fault tree part d) ≡ true
of_part tree part d = of_kind part (first_key part.kind) (table_fault tree part) (as_table d) (λ t. of_table tree part t)

of_parts : (tree : Members) (kind : PartKind) (i : ℕ) (ds : List Data) → is_of_tree (parts_fault tree kind i ds) ≡ true
unfolding parts_fault
of_parts tree kind i ds = each _ (enumerate_from i ds) (λ d. of_part tree (part_of kind d.0) d.1)

of_array : (tree : Members) (kind : PartKind) → is_of_tree (array_fault tree kind) ≡ true
unfolding array_fault
of_array tree kind =
    given_or _ (array_at kind tree) None (λ d. of_kind (part_of kind 0) (first_key kind) _ (as_array d) (λ ds. of_parts tree kind 0 (list_of ds))) refl

of_length : (tree : Members) (kind : PartKind) → is_of_tree (length_fault tree kind) ≡ true
of_length tree kind = let n = length (items_at kind tree) in if_not (nat_lt n (2 ^ 32)) (faults.Board (Count kind n)) refl

of_text : (tree : Members) → is_of_tree (text_fault tree) ≡ true
unfolding text_fault lengths_fault arrays_fault
of_text tree =
    both _ _ (each (length_fault tree) arrays (λ kind. of_length tree kind))
    (both _ _ (of_table tree (part_of Top 0) tree) (both _ None (each (array_fault tree) arrays (λ kind. of_array tree kind)) refl))

-- a fault of a tree is answered as it is, and no other one is
abbrev answers_tree : Result Board TextFault → Bool
answers_tree (Ok board) = true
answers_tree (Err fault) = is_of_tree (Some fault)

of_board : (fault : Option BoardFault) → is_of_tree (option_map faults.Board fault) ≡ true
of_board None = refl
of_board (Some fault) = refl

of_answer : (board : Board) (fault : Option TextFault) → is_of_tree fault ≡ true → answers_tree (unless_faulty board fault) ≡ true
of_answer board None h = refl
of_answer board (Some fault) h = h

of_reading : (tree : Members) → answers_tree (reading tree) ≡ true
unfolding reading
of_reading tree = of_answer (board_of tree) _ (both (text_fault tree) _ (of_text tree) (of_board (first_fault (board_of tree))))

true_false : {A : Type 0} → true ≡ false → A
true_false e = cc

no_answer : (r : Result Board TextFault) (fault : TextFault) → answers_tree r ≡ true → is_of_tree (Some fault) ≡ false → r ≢ Err fault
no_answer r fault h other same = true_false (sym h ∙ ap answers_tree same ∙ other)

from_answer : (tree : Option Members) → reading_of tree ≡ Err faults.NotToml → tree ≡ None
from_answer None e = refl
from_answer (Some tree) e = absurd (no_answer (reading tree) faults.NotToml (of_reading tree) refl e)

pub not_toml : (text : List ℕ) → (text_board text ≡ Err faults.NotToml) ↔ (tree_of text ≡ None)
unfolding text_board
not_toml text = (from_answer (tree_of text), λ none. ap reading_of none)

of_memory : (tree : Option Members) → reading_of tree ≢ Err faults.NoMemory
of_memory None e = cc
of_memory (Some tree) e = no_answer (reading tree) faults.NoMemory (of_reading tree) refl e

pub no_memory : (text : List ℕ) → text_board text ≢ Err faults.NoMemory
unfolding text_board
no_memory text e = of_memory (tree_of text) e
