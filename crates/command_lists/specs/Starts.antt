-- How the lists are kept: all catalog parts in one vector, all relation parts in another, and where each list begins in both.
use Rattle.std.specs.Prelude.{ℕ, ⊤, Bool, true, false, Option, Some, None, List, [], ◌∷◌, ◌++◌, ◌==◌, ◌≤◌, ◌<◌, ◌+◌, nat_lt, length}
use Rattle.std.specs.Option.{option_map, option_map_or, option_to_list}
use Rattle.std.specs.List.{slice_range, AllByRecursion}
use Rattle.inval_messages.specs.Lists.{Written}
use Rattle.command_lists.specs.Types.{Message, Place, Start}
use Rattle.command_lists.specs.Lists.{CommandLists}

-- the ends of both vectors
abbrev pub end_of : List Message → List Message → Place
end_of cats rels = record { cats = length cats; rels = length rels }

-- where the first of the lists begins, or else the end
abbrev pub first_of : List Start → Place → Place
first_of [] end = end
first_of (start ∷ later) end = start.at

-- the list from its start to an end
abbrev pub list_between : List Message → List Message → Start → Place → Written
list_between cats rels start end = record { command = start.command; cats = slice_range cats start.at.cats end.cats; rels = slice_range rels start.at.rels end.rels }

-- the lists up to an end, each of which ends where the next one begins
abbrev pub lists_until : List Message → List Message → List Start → Place → List Written
lists_until cats rels [] end = []
lists_until cats rels (start ∷ later) end = list_between cats rels start (first_of later end) ∷ lists_until cats rels later end

-- the lists that are kept so
abbrev pub lists_in : List Message → List Message → List Start → Option Start → CommandLists
lists_in cats rels ended running = record {
  earlier = lists_until cats rels ended (first_of (option_to_list running) (end_of cats rels));
  running = option_map (λ start. list_between cats rels start (end_of cats rels)) running;
}

-- the list that runs is of the command
abbrev pub runs : ℕ → Option Start → Bool
runs command running = option_map_or (λ start. start.command == command) running false

-- the lists that have ended once the command's list runs
abbrev pub ended_by : ℕ → List Start → Option Start → List Start
ended_by command ended running = elim (runs command running) [ true ↦ ended | false ↦ ended ++ option_to_list running ]

-- the list that runs then: the same, or one that begins at the end
abbrev pub running_by : ℕ → Place → Option Start → Start
running_by command end None = record { command = command; at = end }
running_by command end (Some start) = elim (start.command == command) [ true ↦ start | false ↦ record { command = command; at = end } ]

-- the list that runs, where its command is before this one
abbrev pub running_until : ℕ → Option Start → Option Start
running_until from None = None
running_until from (Some start) = elim (nat_lt start.command from) [ true ↦ Some start | false ↦ None ]

-- a place is not past another
abbrev pub IsBefore : Place → Place → Type 0
IsBefore a b = (a.cats ≤ b.cats) × (a.rels ≤ b.rels)

-- the lists are in the order of their commands, one for each
abbrev pub AreInOrder : List Start → Type 0
AreInOrder [] = ⊤
AreInOrder (start ∷ later) = AllByRecursion (λ next. start.command < next.command) later × AreInOrder later

-- none of the lists begins past the next one, and the last doesn't begin past the end
abbrev pub AreWithin : List Start → Place → Type 0
AreWithin [] end = ⊤
AreWithin (start ∷ later) end = IsBefore start.at (first_of later end) × AreWithin later end

-- what holds of lists that are kept so: there is a place in the vector of starts for the running one too
pub record AreKept (cats rels : List Message) (ended : List Start) (places : ℕ) (running : Option Start) : Type 0 where
  pub order : AreInOrder (ended ++ option_to_list running)
  pub within : AreWithin (ended ++ option_to_list running) (end_of cats rels)
  pub place : length ended + length (option_to_list running) ≤ places
