-- The board of a text, or the first thing that is wrong with the text.
use Rattle.std.specs.Prelude.{ℕ, List, Option, Some, None, option_map, Result, Ok, Err, if◌then◌else◌}
use Rattle.std.specs.Option.{option_or}
use Rattle.std.specs.Str.{is_utf8}
use Rattle.toml.specs.Data.{Members}
use Rattle.toml.specs.Parse.{parse_document}
use Rattle.n2_parts.specs.declared.board.Board.{Board}
use Rattle.n2_parts.specs.Valid.{first_fault}
use Rattle.n2_boardtext.specs.declared.fault.TextFault.{TextFault}
use Rattle.n2_boardtext.specs.declared.fault.TextFault.TheVariants as faults
use Rattle.n2_boardtext.specs.Faults.{text_fault}
use Rattle.n2_boardtext.specs.Boards.{board_of}

-- a board, unless there is a fault
abbrev pub unless_faulty : Board → Option TextFault → Result Board TextFault
unless_faulty board None = Ok board
unless_faulty board (Some fault) = Err fault

-- what a tree gives: its first fault, or else its board's first fault, or else its board
unfoldable pub reading : Members → Result Board TextFault
reading tree =
    let board = board_of tree in unless_faulty board (option_or (text_fault tree) (option_map faults.Board (first_fault board)))

-- the tree of a text, if the text is a TOML document
unfoldable pub tree_of : List ℕ → Option Members
tree_of text = if is_utf8 text then parse_document text else None

abbrev pub reading_of : Option Members → Result Board TextFault
reading_of (Some tree) = reading tree
reading_of None = Err faults.NotToml

-- what a text gives
unfoldable pub text_board : List ℕ → Result Board TextFault
text_board text = reading_of (tree_of text)
