-- The messages of a transaction: the lists of its earlier commands, and the running command's.
use Rattle.std.specs.Prelude.{ℕ, ⊤, Bool, true, false, Option, Some, None, List, [], ◌∷◌, ◌++◌, ◌==◌, ◌≤◌, ◌<◌, nat_lt, fold}
use Rattle.std.specs.List.{AllByRecursion}
use Rattle.std.specs.Option.{option_map, option_map_or, option_to_list}
use Rattle.inval_messages.specs.Lists.{Written, once_more, lists_before}
use Rattle.command_lists.specs.Types.{Message, Cat, Rel}

-- the lists of the commands that have ended, in order, and the running command's, once it has a message
pub record CommandLists : Type 0 where
  pub earlier : List Written
  pub running : Option Written

-- the lists, and how many messages can be registered before memory is needed
pub record Held : Type 0 where
  pub lists : CommandLists
  pub spare : ℕ

-- no messages
abbrev pub no_lists : CommandLists
no_lists = record { earlier = []; running = None }

-- all lists in the order of their commands
abbrev pub all_lists : CommandLists → List Written
all_lists lists = lists.earlier ++ option_to_list lists.running

-- the lists are in the order of their commands, one for each
abbrev pub AreOrdered : List Written → Type 0
AreOrdered [] = ⊤
AreOrdered (list ∷ later) = AllByRecursion (λ next. list.command < next.command) later × AreOrdered later

-- a command's list may run: those that have ended are of commands before it, and the one that runs is its own or of one before it
pub record MayRun (command : ℕ) (lists : CommandLists) : Type 0 where
  pub ended : AllByRecursion (λ list. list.command < command) lists.earlier
  pub running : AllByRecursion (λ list. list.command ≤ command) (option_to_list lists.running)

-- the list of a command that has registered nothing
abbrev pub new_list : ℕ → Written
new_list command = record { command = command; cats = []; rels = [] }

-- a list with a message at the end of its part; a message for a relation isn't added twice
abbrev pub with_message : Message → Written → Written
with_message (Cat cache hash) list = record { command = list.command; cats = list.cats ++ Cat cache hash ∷ []; rels = list.rels }
with_message (Rel rel) list = record { command = list.command; cats = list.cats; rels = once_more list.rels (Rel rel) }

-- a list with all these messages, one after another
abbrev pub with_messages : List Message → Written → Written
with_messages messages list = fold (λ w m. with_message m w) list messages

-- the running list is of the command
abbrev pub is_of : ℕ → Option Written → Bool
is_of command running = option_map_or (λ w. w.command == command) running false

-- nothing runs any more: the running list, if there is one, is the last of the earlier ones
abbrev pub command_ended : CommandLists → CommandLists
command_ended lists = record { earlier = all_lists lists; running = None }

-- the command's list runs, and those before it have ended
abbrev pub begun : ℕ → CommandLists → CommandLists
begun command lists = elim (is_of command lists.running) [ true ↦ lists | false ↦ record { earlier = all_lists lists; running = Some (new_list command) } ]

-- a message registered by a command
abbrev pub registered : ℕ → Message → CommandLists → CommandLists
registered command message lists = record { earlier = (begun command lists).earlier; running = option_map (with_message message) (begun command lists).running }

-- the running list, where its command is before this one
abbrev pub running_before : ℕ → Option Written → Option Written
running_before from None = None
running_before from (Some list) = elim (nat_lt list.command from) [ true ↦ Some list | false ↦ None ]

-- the lists without those of this command and of those after it
abbrev pub aborted : ℕ → CommandLists → CommandLists
aborted from lists = record { earlier = lists_before from lists.earlier; running = running_before from lists.running }
