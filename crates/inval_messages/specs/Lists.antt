-- The messages of a transaction by the commands that wrote, and what a commit sends of them.
use Rattle.std.specs.Prelude.{ℕ, Bool, List, [], ◌∷◌, ◌++◌, nat_le, nat_lt, filter, length, drop, if◌then◌else◌}
use Rattle.std.specs.List.{flat_map, list_any}
use Rattle.inval_messages.specs.Types.{Message}
use Rattle.inval_messages.specs.Messages.{same_message}

-- the messages of one command's write: those for the catalog caches, and those for descriptors
pub record Written : Type 0 where
  pub command : ℕ
  pub cats : List Message
  pub rels : List Message

-- the messages with one more at the end, unless it is there
abbrev pub once_more : List Message → Message → List Message
once_more old message = if list_any (same_message message) old then old else old ++ message ∷ []

-- the list has a message
abbrev pub has_messages : Written → Bool
has_messages list = nat_lt 0 (length (list.cats ++ list.rels))

-- the lists of this command and of those after it
abbrev pub lists_from : ℕ → List Written → List Written
lists_from from lists = filter (λ w. nat_le from w.command) lists

-- the lists of the commands before this one
abbrev pub lists_before : ℕ → List Written → List Written
lists_before from lists = filter (λ w. nat_lt w.command from) lists

-- one of the writes is of a command of this number or above
abbrev pub has_write_from : ℕ → List Written → Bool
has_write_from from lists = list_any (λ w. nat_le from w.command) lists

-- the catalog parts of some writes, in order
abbrev pub cats_in : List Written → List Message
cats_in lists = flat_map (λ w. w.cats) lists

-- the relation parts of some writes, in order
abbrev pub rels_in : List Written → List Message
rels_in lists = flat_map (λ w. w.rels) lists

-- all messages of some writes, those for the catalog caches first
abbrev pub sent_in : List Written → List Message
sent_in lists = cats_in lists ++ rels_in lists

-- what is left of them once so many are published
abbrev pub left_after : ℕ → List Written → List Message
left_after published lists = drop published (sent_in lists)

-- the rest of the first part, or if that is all sent, of the second
abbrev pub rest_of_parts : ℕ → List Message → List Message → List Message
rest_of_parts published cats rels = if nat_lt published (length cats) then drop published cats else drop published (cats ++ rels)

-- what one publish may send next once so many are published: none goes over from one part to the other
abbrev pub unsent_after : ℕ → List Written → List Message
unsent_after published lists = rest_of_parts published (cats_in lists) (rels_in lists)
