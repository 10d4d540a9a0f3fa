-- Whether there is a list of a command or of one after it.
use Rattle.std.proofs.Common.{◌≡◌, ◌∙◌, ℕ, Bool, Option, List, [], ◌∷◌, ◌++◌, ◌||◌, nat_le, refl, sym, ap}
use Rattle.std.specs.Option.{option_to_list}
use Rattle.std.specs.List.{list_any}
use Rattle.inval_messages.specs.Lists.{has_write_from}
use Rattle.command_lists.specs.Types.{Message, Place, Start}
use Rattle.command_lists.specs.Lists.{all_lists}
use Rattle.command_lists.specs.Starts.{end_of, lists_until, lists_in}
use Rattle.command_lists.proofs.Parts.{all-lists}

-- a list begins in this command or a later one
abbrev pub is_from : ℕ → Start → Bool
is_from from start = nat_le from start.command

until-any : (from : ℕ) (cats rels : List Message) (starts : List Start) (end : Place) → has_write_from from (lists_until cats rels starts end) ≡ list_any (is_from from) starts
until-any from cats rels [] end = refl
until-any from cats rels (s ∷ later) end = ap (λ t. nat_le from s.command || t) (until-any from cats rels later end)

pub has-start : (from : ℕ) (cats rels : List Message) (ended : List Start) (running : Option Start) → list_any (is_from from) (ended ++ option_to_list running) ≡ has_write_from from (all_lists (lists_in cats rels ended running))
has-start from cats rels ended running = sym (ap (has_write_from from) (all-lists cats rels ended running) ∙ until-any from cats rels (ended ++ option_to_list running) (end_of cats rels))
