-- What the tree of a text has at a key.
use Rattle.std.specs.Prelude.{ℕ, ℤ, pos, negsuc, List, [], ◌∷◌, Bool, false, Option, Some, None, option_and_then, nat_le, if◌then◌else◌}
use Rattle.std.specs.List.{position_from}
use Rattle.std.specs.Option.{option_map_or}
use Rattle.std.specs.Str.{bytes_eq}
use Rattle.toml.specs.Data.{Data, Items, no_items, item, Members, get_member, as_integer, as_str, as_array, as_table}
use Rattle.n2_parts.specs.declared.board.PartKind.{PartKind}
use Rattle.n2_parts.specs.declared.board.PartKind.TheVariants as kinds
use Rattle.n2_parts.specs.declared.board.Key.{Key}
use Rattle.n2_parts.specs.declared.board.Key.TheVariants as keys
use Rattle.n2_boardtext.specs.declared.keys.Word.{Word}
use Rattle.n2_boardtext.specs.declared.keys.Named.{Named}
use Rattle.n2_boardtext.specs.Words.{kind_name, key_name}
use Rattle.n2_boardtext.specs.Keys.{kind_of, word_of}

-- the value of a key
abbrev pub value_at : Key → Members → Option Data
value_at key t = get_member (key_name key) t

-- the value of an array's name
abbrev pub array_at : PartKind → Members → Option Data
array_at kind tree = get_member (kind_name kind) tree

-- a number, if it is from 0 to most
abbrev pub in_range : ℕ → ℤ → Option ℕ
in_range most (pos n) = if nat_le n most then Some n else None
in_range most (negsuc n) = None

abbrev pub number_in : ℕ → Data → Option ℕ
number_in most d = option_and_then (in_range most) (as_integer d)

-- the text of a key, if a text is given
abbrev pub text_at : Key → Members → Option (List ℕ)
text_at key t = option_and_then as_str (value_at key t)

-- the word of a key, if one of its words is given
abbrev pub word_at : Key → Members → Option Word
word_at key t = option_and_then (word_of key) (text_at key t)

-- the word by which a part has its keys
abbrev pub word_in : PartKind → Members → Option Word
word_in kinds.Region t = word_at keys.Class t
word_in kinds.Script t = word_at keys.Do t
word_in _ t = None

-- the values of a list
abbrev pub list_of : Items → List Data
list_of no_items = []
list_of (item d ds) = d ∷ list_of ds

-- the values of a list, if one is given; or else none
abbrev pub values_of : Option Data → List Data
values_of given = option_map_or list_of (option_and_then as_array given) []

-- the values of an array
abbrev pub items_at : PartKind → Members → List Data
items_at kind tree = values_of (array_at kind tree)

-- the name of a part
abbrev pub name_of : Data → Option (List ℕ)
name_of d = option_and_then (text_at keys.Name) (as_table d)

abbrev pub is_named : List ℕ → Data → Bool
is_named name d = option_map_or (λ held. bytes_eq held name) (name_of d) false

-- the number of the first part of an array that has this name
abbrev pub index_of : Named → Members → List ℕ → Option ℕ
index_of array tree name = position_from (is_named name) 0 (items_at (kind_of array) tree)
