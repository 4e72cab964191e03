-- The first thing that is wrong with a text's tree, before a board is made of it.
use Rattle.std.specs.Prelude.{ℕ, ◌^◌, List, [], ◌∷◌, length, map, Bool, true, ◌&&◌, ◌||◌, Option, Some, None, option_and_then, is_some, nat_lt}
use Rattle.std.specs.List.{list_all, list_any, enumerate_from}
use Rattle.std.specs.Option.{option_map_or}
use Rattle.std.specs.Str.{bytes_eq}
use Rattle.toml.specs.Data.{Data, Members, no_members, member, as_integer, as_str, as_array, as_table}
use Rattle.n2_text.specs.Firsts.{first_of, unless}
use Rattle.n2_parts.specs.declared.board.Part.{Part}
use Rattle.n2_parts.specs.declared.board.PartKind.{PartKind}
use Rattle.n2_parts.specs.declared.board.PartKind.TheVariants as kinds
use Rattle.n2_parts.specs.declared.board.Key.{Key}
use Rattle.n2_parts.specs.declared.board.BoardFault.TheVariants.{Count}
use Rattle.n2_parts.specs.Parts.{arrays, part_of}
use Rattle.n2_boardtext.specs.declared.fault.TextFault.{TextFault}
use Rattle.n2_boardtext.specs.declared.fault.TextFault.TheVariants.{Unknown, Missing, Kind, Range, NoPart, Board}
use Rattle.n2_boardtext.specs.declared.keys.Sort.{Sort}
use Rattle.n2_boardtext.specs.declared.keys.Sort.TheVariants.{Number, Text, Choice, Name, Names}
use Rattle.n2_boardtext.specs.declared.keys.Named.{Named}
use Rattle.n2_boardtext.specs.declared.keys.Word.{Word}
use Rattle.n2_boardtext.specs.declared.keys.Entry.{Entry}
use Rattle.n2_boardtext.specs.declared.keys.Entry.TheVariants.{Must, May}
use Rattle.n2_boardtext.specs.Words.{kind_name, key_name}
use Rattle.n2_boardtext.specs.Keys.{sort_of, first_entries, last_entries, any_entries, entries_by, first_key, key_of, word_of}
use Rattle.n2_boardtext.specs.Values.{value_at, array_at, items_at, list_of, in_range, word_in, index_of}

-- ---- a value

-- a value of another kind than the key's, or else what f finds in what it holds
abbrev pub kind_or : {A : Type 0} → Part → Key → (A → Option TextFault) → Option A → Option TextFault
kind_or part key f held = option_map_or f held (Some (Kind part key))

-- a value is a text; it is the name of a part
abbrev pub is_text : Data → Bool
is_text d = is_some (as_str d)

abbrev pub is_part : Named → Members → Data → Bool
is_part array tree d = is_some (option_and_then (index_of array tree) (as_str d))

abbrev pub names_fault : Members → Part → Key → Named → List Data → Option TextFault
names_fault tree part key array ds =
    first_of (unless (list_all is_text ds) (Kind part key) ∷ unless (list_all (is_part array tree) ds) (NoPart part key) ∷ [])

-- what is wrong with the value of a key
unfoldable pub value_fault : Members → Part → Key → Sort → Data → Option TextFault
value_fault tree part key (Number most) d = kind_or part key (λ z. unless (is_some (in_range most z)) (Range part key)) (as_integer d)
value_fault tree part key Text d = kind_or part key (λ text. None) (as_str d)
value_fault tree part key Choice d = kind_or part key (λ text. unless (is_some (word_of key text)) (NoPart part key)) (as_str d)
value_fault tree part key (Name array) d = kind_or part key (λ text. unless (is_some (index_of array tree text)) (NoPart part key)) (as_str d)
value_fault tree part key (Names array) d = kind_or part key (λ ds. names_fault tree part key array (list_of ds)) (as_array d)

-- ---- a table

-- a key that must be there
abbrev pub absent_fault : Part → Entry → Option TextFault
absent_fault part (Must key) = Some (Missing part key)
absent_fault part (May key) = None

-- what is wrong with a key
abbrev pub entry_fault : Members → Part → Members → Entry → Option TextFault
entry_fault tree part t entry =
    let key = key_of entry in option_map_or (value_fault tree part key (sort_of key)) (value_at key t) (absent_fault part entry)

-- the first fault of some keys
unfoldable pub entries_fault : Members → Part → Members → List Entry → Option TextFault
entries_fault tree part t entries = first_of (map (entry_fault tree part t) entries)

-- the arrays whose names the text itself has as keys
abbrev pub known_kinds : PartKind → List PartKind
known_kinds kinds.Top = arrays
known_kinds _ = []

abbrev pub names_entry : List ℕ → List Entry → Bool
names_entry name entries = list_any (λ entry. bytes_eq name (key_name (key_of entry))) entries

abbrev pub names_kind : List ℕ → List PartKind → Bool
names_kind name kinds = list_any (λ kind. bytes_eq name (kind_name kind)) kinds

-- a part has such a key; where its word is not known, no key of any word is unknown
unfoldable pub is_known : PartKind → Option Word → List ℕ → Bool
is_known kind word name =
    ((names_entry name (first_entries kind) || names_entry name (entries_by word (any_entries kind))) || names_entry name (last_entries kind))
    || names_kind name (known_kinds kind)

unfoldable pub are_known : PartKind → Option Word → Members → Bool
are_known kind word no_members = true
are_known kind word (member name d t) = is_known kind word name && are_known kind word t

-- what is wrong with a table: an unknown key, or else the first fault of its keys in order
unfoldable pub table_fault : Members → Part → Members → Option TextFault
table_fault tree part t =
    let word = word_in part.kind t in
    first_of (
    unless (are_known part.kind word t) (Unknown part)
    ∷ entries_fault tree part t (first_entries part.kind)
    ∷ entries_fault tree part t (entries_by word [])
    ∷ entries_fault tree part t (last_entries part.kind)
    ∷ [])

-- ---- a text

-- what is wrong with a value that is to be the table of a part
abbrev pub part_fault : Members → Part → Data → Option TextFault
part_fault tree part d = kind_or part (first_key part.kind) (table_fault tree part) (as_table d)

-- the first fault of the parts of an array from number i on
unfoldable pub parts_fault : Members → PartKind → ℕ → List Data → Option TextFault
parts_fault tree kind i ds = first_of (map (λ d. part_fault tree (part_of kind d.0) d.1) (enumerate_from i ds))

-- the first fault of an array, which need not be there
unfoldable pub array_fault : Members → PartKind → Option TextFault
array_fault tree kind =
    option_map_or (λ d. kind_or (part_of kind 0) (first_key kind) (λ ds. parts_fault tree kind 0 (list_of ds)) (as_array d)) (array_at kind tree) None

-- an array that has more parts than words can number
abbrev pub length_fault : Members → PartKind → Option TextFault
length_fault tree kind = let n = length (items_at kind tree) in unless (nat_lt n (2 ^ 32)) (Board (Count kind n))

unfoldable pub lengths_fault : Members → List PartKind → Option TextFault
lengths_fault tree kinds = first_of (map (length_fault tree) kinds)

unfoldable pub arrays_fault : Members → List PartKind → Option TextFault
arrays_fault tree kinds = first_of (map (array_fault tree) kinds)

-- the first fault of a text: an array that is too long, or else that of its own keys, or else that of its arrays in order
unfoldable pub text_fault : Members → Option TextFault
text_fault tree = first_of (lengths_fault tree arrays ∷ table_fault tree (part_of kinds.Top 0) tree ∷ arrays_fault tree arrays ∷ [])
