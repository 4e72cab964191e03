use Rattle.std.proofs.Common.{string_bytes}
use Rattle.std.proofs.lemmas.Map.Text.{btree_map_updates_text}
use Rattle.n2_statement.proofs.names.insert.Goals as goal

pub returns : goal.returns
returns g c = rw c.in_ok-key.ensures.ok at (btree_map_updates_text (string_bytes c.in_ok-key.key) c.args.names.now c.insert.new.self _ c.in_ok-insert.ensures.updates)
