-- Which histories are legal, whichever commands the backends run.
use Rattle.std.specs.Prelude.{List, true, ◌≡◌}
use Rattle.history_model.specs.Types.{Entry}
use Rattle.history_model.specs.Prefixes.{EachEntry}
use Rattle.history_model.specs.Allows.{allows}
use Rattle.history_model.specs.After.{segment_of}

-- what the entries before an entry leave allows it
abbrev pub IsAllowed : List Entry → Entry → Type 0
IsAllowed before e = allows (segment_of before) e ≡ true

-- each entry of a history is allowed by what those before it leave
abbrev pub IsLegal : List Entry → Type 0
IsLegal history = EachEntry IsAllowed history
