-- Where a chooser's fields say that an order stands.
use Rattle.std.specs.Prelude.{◌<◌, drop}
use Rattle.n2_order.specs.declared.chooser.Turns.{Turns}
use Rattle.n2_order.specs.declared.chooser.Way.{Way}
use Rattle.n2_order.specs.declared.chooser.Way.TheVariants as way
use Rattle.n2_order.specs.Choices.{State, InRound, Drawing, Listed}

-- a round
abbrev pub round_of : Turns → State
round_of turns = InRound turns.each turns.actor turns.left

-- any order
abbrev pub state_of : Way → State
state_of (way.Rounds turns) = round_of turns
state_of (way.Seed words) = Drawing words
state_of (way.List list at) = Listed (drop at list.items)

-- rounds have at least one turn
abbrev pub IsSound : Way → Type 0
IsSound (way.Rounds turns) = 0 < turns.each
IsSound (way.Seed words) = Unit {0}
IsSound (way.List list at) = Unit {0}
