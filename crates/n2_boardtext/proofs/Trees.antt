-- A text that is UTF-8, or is not, and its tree.
use Rattle.std.proofs.Common.{◌≡◌, ℕ, List, Bool, true, false, Option, Some, None, if◌then◌else◌, refl}
use Rattle.std.specs.Str.{IsUtf8, is_utf8}
use Rattle.std.proofs.lemmas.Str.{IsUtf8-from_is_utf8, is_utf8-from_IsUtf8}
use Rattle.toml.specs.Data.{Members}
use Rattle.toml.specs.Parse.{parse_document}
use Rattle.n2_boardtext.specs.Reading.{tree_of}

pub tree_found : (text : List ℕ) (tree : Members) → IsUtf8 text → parse_document text ≡ Some tree → tree_of text ≡ Some tree
unfolding tree_of
tree_found text tree u parsed = rw (is_utf8-from_IsUtf8 text u) parsed

by_test : (b : Bool) (parsed : Option Members) → (b ≡ true → parsed ≡ None) → (if b then parsed else None) ≡ None
by_test true parsed h = h refl
by_test false parsed h = refl

pub no_tree : (text : List ℕ) → (IsUtf8 text → parse_document text ≡ None) → tree_of text ≡ None
unfolding tree_of
no_tree text refused = by_test (is_utf8 text) (parse_document text) (λ e. refused (IsUtf8-from_is_utf8 text e))

pub ruleset tree_steps = (tree_found, no_tree)
