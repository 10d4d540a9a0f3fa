-- A message is registered: the command's list runs, and the message is at the end of one of its parts.
use Rattle.std.proofs.Common.{◌≡◌, ◌∙◌, ℕ, ◌+◌, ◌≤◌, ◌<◌, ◌==◌, Bool, true, false, Option, Some, None, List, [], ◌∷◌, ◌++◌, length, refl, sym, ap, subst, arith, cond, append-nil, length-append}
use Rattle.std.specs.Option.{option_map, option_to_list}
use Rattle.std.specs.List.{slice_range, list_any, AllByRecursion}
use Rattle.std.proofs.lemmas.Bool.{eqb-false}
use Rattle.base_types.specs.declared.ids.Oid.{Oid}
use Rattle.base_types.specs.declared.key.CacheId.{CacheId}
use Rattle.inval_messages.specs.Messages.{same_message}
use Rattle.inval_messages.specs.Lists.{Written}
use Rattle.command_lists.specs.Types.{Message, Cat, Rel, Place, Start}
use Rattle.command_lists.specs.Lists.{CommandLists, all_lists, AreOrdered, MayRun, new_list, with_message, registered, begun}
use Rattle.command_lists.specs.Starts.{AreInOrder, AreWithin, AreKept, IsBefore, end_of, list_between, lists_until, lists_in, ended_by, running_by}
use Rattle.command_lists.proofs.Ranges.{range-none, range-last}
use Rattle.command_lists.proofs.Parts.{all-lists, until-more, before-more}

empty-list : (cats rels : List Message) (command : ℕ) → list_between cats rels (record { command = command; at = end_of cats rels }) (end_of cats rels) ≡ new_list command
empty-list cats rels command =
    ap (λ part. record { command = command; cats = part; rels = slice_range rels (length rels) (length rels) }) (range-none cats (length cats))
    ∙ ap (λ part. record { command = command; cats = []; rels = part }) (range-none rels (length rels))

new-lists : (cats rels : List Message) (ended : List Start) (running : Option Start) (command : ℕ)
    → lists_in cats rels (ended ++ option_to_list running) (Some (record { command = command; at = end_of cats rels })) ≡ record { earlier = all_lists (lists_in cats rels ended running); running = Some (new_list command) }
new-lists cats rels ended running command =
    ap (λ lists. record { earlier = lists; running = Some (list_between cats rels (record { command = command; at = end_of cats rels }) (end_of cats rels)) }) (sym (all-lists cats rels ended running))
    ∙ ap (λ list. record { earlier = all_lists (lists_in cats rels ended running); running = Some list }) (empty-list cats rels command)

-- the command's list runs
pub begun-lists : (cats rels : List Message) (ended : List Start) (running : Option Start) (command : ℕ)
    → lists_in cats rels (ended_by command ended running) (Some (running_by command (end_of cats rels) running)) ≡ begun command (lists_in cats rels ended running)
begun-lists cats rels ended None command = new-lists cats rels ended None command
begun-lists cats rels ended (Some start) command = either (start.command == command)
  where
    new : Start
    new = record { command = command; at = end_of cats rels }

    either : (same : Bool)
        → lists_in cats rels (elim same [ true ↦ ended | false ↦ ended ++ start ∷ [] ]) (Some (elim same [ true ↦ start | false ↦ new ]))
        ≡ elim same [ true ↦ lists_in cats rels ended (Some start) | false ↦ record { earlier = all_lists (lists_in cats rels ended (Some start)); running = Some (new_list command) } ]
    either true = refl
    either false = new-lists cats rels ended (Some start) command

commands-until : (cats rels : List Message) (command : ℕ) (starts : List Start) (end : Place) → AllByRecursion (λ list. list.command < command) (lists_until cats rels starts end) → AllByRecursion (λ start. start.command < command) starts
commands-until cats rels command [] end all = tt
commands-until cats rels command (s ∷ later) end all = (all.0, commands-until cats rels command later end all.1)

every-snoc : {X : Type 0} (P : X → Type 0) (xs : List X) (x : X) → AllByRecursion P xs → P x → AllByRecursion P (xs ++ x ∷ [])
every-snoc P [] x all also = (also, tt)
every-snoc P (y ∷ xs) x all also = (all.0, every-snoc P xs x all.1 also)

order-snoc : (starts : List Start) (new : Start) → AreInOrder starts → AllByRecursion (λ start. start.command < new.command) starts → AreInOrder (starts ++ new ∷ [])
order-snoc [] new order all = (tt, tt)
order-snoc (s ∷ later) new order all = (every-snoc (λ next. s.command < next.command) later new order.0 all.0, order-snoc later new order.1 all.1)

within-snoc : (starts : List Start) (new : Start) (end : Place) → AreWithin starts new.at → IsBefore new.at end → AreWithin (starts ++ new ∷ []) end
within-snoc [] new end within last = (last, tt)
within-snoc (s ∷ []) new end within last = (within.0, (last, tt))
within-snoc (s ∷ t ∷ later) new end within last = (within.0, within-snoc (t ∷ later) new end within.1 last)

within-longer : (starts : List Start) (end more : Place) → AreWithin starts end → IsBefore end more → AreWithin starts more
within-longer [] end more within longer = tt
within-longer (s ∷ []) end more within longer = (before-more s.at end more within.0 longer, tt)
within-longer (s ∷ t ∷ later) end more within longer = (within.0, within-longer (t ∷ later) end more within.1 longer)

-- the commands stay in order, and no list begins past the end
pub begun-order : (cats rels : List Message) (ended : List Start) (running : Option Start) (command : ℕ) → AreInOrder (ended ++ option_to_list running) → MayRun command (lists_in cats rels ended running)
    → AreInOrder (ended_by command ended running ++ running_by command (end_of cats rels) running ∷ [])
begun-order cats rels ended None command order may =
    order-snoc (ended ++ []) (record { command = command; at = end_of cats rels }) order
    (subst (AllByRecursion (λ start. start.command < command)) (sym (append-nil ended)) (commands-until cats rels command ended (end_of cats rels) may.ended))
begun-order cats rels ended (Some start) command order may = either (start.command == command) refl
  where
    new : Start
    new = record { command = command; at = end_of cats rels }

    either : (same : Bool) → (start.command == command) ≡ same → AreInOrder ((elim same [ true ↦ ended | false ↦ ended ++ start ∷ [] ]) ++ (elim same [ true ↦ start | false ↦ new ]) ∷ [])
    either true is = order
    either false is =
        let before : start.command < command = omega (arith, may.running.0, eqb-false start.command command is) in
        order-snoc (ended ++ start ∷ []) new order (every-snoc (λ s. s.command < command) ended start (commands-until cats rels command ended start.at may.ended) before)

-- so each command has one list
until-ordered : (cats rels : List Message) (starts : List Start) (end : Place) → AreInOrder starts → AreOrdered (lists_until cats rels starts end)
until-ordered cats rels [] end order = tt
until-ordered cats rels (s ∷ later) end order = (until-after cats rels s.command later end order.0, until-ordered cats rels later end order.1)
  where
    until-after : (cats rels : List Message) (command : ℕ) (starts : List Start) (end : Place) → AllByRecursion (λ next. command < next.command) starts → AllByRecursion (λ next. command < next.command) (lists_until cats rels starts end)
    until-after cats rels command [] end all = tt
    until-after cats rels command (next ∷ starts) end all = (all.0, until-after cats rels command starts end all.1)

pub lists-ordered : (cats rels : List Message) (ended : List Start) (running : Option Start) → AreInOrder (ended ++ option_to_list running) → AreOrdered (all_lists (lists_in cats rels ended running))
lists-ordered cats rels ended running order = subst AreOrdered (sym (all-lists cats rels ended running)) (until-ordered cats rels (ended ++ option_to_list running) (end_of cats rels) order)

pub begun-within : (ended : List Start) (running : Option Start) (command : ℕ) (end more : Place) → AreWithin (ended ++ option_to_list running) end → IsBefore end more
    → AreWithin (ended_by command ended running ++ running_by command end running ∷ []) more
begun-within ended running command end more within longer = by_running running within
  where
    new : Start
    new = record { command = command; at = end }

    either : (start : Start) (same : Bool) → AreWithin (ended ++ start ∷ []) end → AreWithin ((elim same [ true ↦ ended | false ↦ ended ++ start ∷ [] ]) ++ (elim same [ true ↦ start | false ↦ new ]) ∷ []) more
    either start true within = within-longer (ended ++ start ∷ []) end more within longer
    either start false within = within-snoc (ended ++ start ∷ []) new more within longer

    by_running : (r : Option Start) → AreWithin (ended ++ option_to_list r) end → AreWithin (ended_by command ended r ++ running_by command end r ∷ []) more
    by_running None within = within-snoc (ended ++ []) new more within longer
    by_running (Some start) within = either start (start.command == command) within

-- the last of the lists doesn't begin past the end
pub last-before : (starts : List Start) (last : Start) (end : Place) → AreWithin (starts ++ last ∷ []) end → IsBefore last.at end
last-before [] last end within = within.0
last-before (s ∷ later) last end within = last-before later last end within.1

pub within-earlier : (starts : List Start) (last : Start) (end : Place) → AreWithin (starts ++ last ∷ []) end → AreWithin starts last.at
within-earlier [] last end within = tt
within-earlier (s ∷ []) last end within = (within.0, tt)
within-earlier (s ∷ t ∷ later) last end within = (within.0, within-earlier (t ∷ later) last end within.1)

-- one more message for a catalog cache
cat-lists : (cats rels : List Message) (ended : List Start) (start : Start) (message : Message) → AreWithin (ended ++ start ∷ []) (end_of cats rels)
    → lists_in (cats ++ message ∷ []) rels ended (Some start)
    ≡ record { earlier = (lists_in cats rels ended (Some start)).earlier; running = Some (record { command = start.command; cats = slice_range cats start.at.cats (length cats) ++ message ∷ []; rels = slice_range rels start.at.rels (length rels) }) }
cat-lists cats rels ended start message within =
    let last = last-before ended start (end_of cats rels) within in
    let list : List Message → Written = λ (part : List Message). record { command = start.command; cats = part; rels = slice_range rels start.at.rels (length rels) } in
    ap (λ r. record { earlier = lists_until (cats ++ message ∷ []) r ended start.at; running = Some (list (slice_range (cats ++ message ∷ []) start.at.cats (length (cats ++ message ∷ [])))) }) (sym (append-nil rels))
    ∙ ap (λ lists. record { earlier = lists; running = Some (list (slice_range (cats ++ message ∷ []) start.at.cats (length (cats ++ message ∷ [])))) }) (until-more cats rels (message ∷ []) [] ended start.at (within-earlier ended start (end_of cats rels) within) last.0 last.1)
    ∙ ap (λ part. record { earlier = lists_until cats rels ended start.at; running = Some (list part) }) (range-last cats (message ∷ []) start.at.cats last.0)

-- one more message for a descriptor
rel-lists : (cats rels : List Message) (ended : List Start) (start : Start) (message : Message) → AreWithin (ended ++ start ∷ []) (end_of cats rels)
    → lists_in cats (rels ++ message ∷ []) ended (Some start)
    ≡ record { earlier = (lists_in cats rels ended (Some start)).earlier; running = Some (record { command = start.command; cats = slice_range cats start.at.cats (length cats); rels = slice_range rels start.at.rels (length rels) ++ message ∷ [] }) }
rel-lists cats rels ended start message within =
    let last = last-before ended start (end_of cats rels) within in
    let list : List Message → Written = λ (part : List Message). record { command = start.command; cats = slice_range cats start.at.cats (length cats); rels = part } in
    ap (λ c. record { earlier = lists_until c (rels ++ message ∷ []) ended start.at; running = Some (list (slice_range (rels ++ message ∷ []) start.at.rels (length (rels ++ message ∷ [])))) }) (sym (append-nil cats))
    ∙ ap (λ lists. record { earlier = lists; running = Some (list (slice_range (rels ++ message ∷ []) start.at.rels (length (rels ++ message ∷ [])))) }) (until-more cats rels [] (message ∷ []) ended start.at (within-earlier ended start (end_of cats rels) within) last.0 last.1)
    ∙ ap (λ part. record { earlier = lists_until cats rels ended start.at; running = Some (list part) }) (range-last rels (message ∷ []) start.at.rels last.1)

-- a message in the running list
abbrev pub told : Message → CommandLists → CommandLists
told message lists = record { earlier = lists.earlier; running = option_map (with_message message) lists.running }

within-begun : (cats rels : List Message) (ended : List Start) (running : Option Start) (command : ℕ) → AreWithin (ended ++ option_to_list running) (end_of cats rels)
    → AreWithin (ended_by command ended running ++ running_by command (end_of cats rels) running ∷ []) (end_of cats rels)
within-begun cats rels ended running command within = begun-within ended running command (end_of cats rels) (end_of cats rels) within (omega arith, omega arith)

pub cat-registered : (cats rels : List Message) (ended : List Start) (running : Option Start) (command : ℕ) (cache : CacheId) (hash : ℕ) → AreWithin (ended ++ option_to_list running) (end_of cats rels)
    → lists_in (cats ++ Cat cache hash ∷ []) rels (ended_by command ended running) (Some (running_by command (end_of cats rels) running)) ≡ registered command (Cat cache hash) (lists_in cats rels ended running)
cat-registered cats rels ended running command cache hash within =
    cat-lists cats rels (ended_by command ended running) (running_by command (end_of cats rels) running) (Cat cache hash) (within-begun cats rels ended running command within)
    ∙ ap (told (Cat cache hash)) (begun-lists cats rels ended running command)

-- the running list doesn't have the message for a descriptor
pub rel-registered : (cats rels : List Message) (ended : List Start) (running : Option Start) (command : ℕ) (rel : Oid) (there : Bool) → AreWithin (ended ++ option_to_list running) (end_of cats rels)
    → there ≡ list_any (same_message (Rel rel)) (slice_range rels (running_by command (end_of cats rels) running).at.rels (length rels)) → there ≡ false
    → lists_in cats (rels ++ Rel rel ∷ []) (ended_by command ended running) (Some (running_by command (end_of cats rels) running)) ≡ registered command (Rel rel) (lists_in cats rels ended running)
rel-registered cats rels ended running command rel there within is none =
    let start = running_by command (end_of cats rels) running in
    rel-lists cats rels (ended_by command ended running) start (Rel rel) (within-begun cats rels ended running command within)
    ∙ ap (λ t. record { earlier = (lists_in cats rels (ended_by command ended running) (Some start)).earlier; running = Some (record { command = start.command; cats = slice_range cats start.at.cats (length cats); rels = cond t (slice_range rels start.at.rels (length rels)) (slice_range rels start.at.rels (length rels) ++ Rel rel ∷ []) }) }) (sym none ∙ is)
    ∙ ap (told (Rel rel)) (begun-lists cats rels ended running command)

ended-places : (ended : List Start) (running : Option Start) (command : ℕ) (places : ℕ) → length ended + length (option_to_list running) + 1 ≤ places → length (ended_by command ended running) + 1 ≤ places
ended-places ended None command places room = subst (λ starts. length starts + 1 ≤ places) (sym (append-nil ended)) (omega (arith, room))
ended-places ended (Some start) command places room = either (start.command == command)
  where
    either : (same : Bool) → length (elim same as (λ _. List Start) [ true ↦ ended | false ↦ ended ++ start ∷ [] ]) + 1 ≤ places
    either true = omega (arith, room)
    either false = rw (length-append ended (start ∷ [])) (omega (arith, room))

-- the lists are kept well, whatever was added at the ends
pub kept-begun : (cats rels more others : List Message) (ended : List Start) (running : Option Start) (command : ℕ) (places : ℕ) → AreKept cats rels ended places running
    → MayRun command (lists_in cats rels ended running) → length ended + length (option_to_list running) + 1 ≤ places → length cats ≤ length more → length rels ≤ length others
    → AreKept more others (ended_by command ended running) places (Some (running_by command (end_of cats rels) running))
kept-begun cats rels more others ended running command places kept rising room low high = record {
  order = begun-order cats rels ended running command kept.order rising;
  within = begun-within ended running command (end_of cats rels) (end_of more others) kept.within (low, high);
  place = ended-places ended running command places room;
}
