-- The messages of a write are registered one after another.
use Rattle.std.proofs.Common.{◌≡◌, ◌≤◌, ◌<◌, ◌+◌, ◌-◌, ◌∙◌, ℕ, Bool, true, false, Some, None, List, [], ◌∷◌, ◌++◌, refl, sym, ap, subst, length, take, get_or, append-nil, arith}
use Rattle.std.specs.List.{AllByRecursion}
use Rattle.std.specs.Option.{option_map, option_to_list}
use Rattle.std.proofs.lemmas.Bool.{eq-eqb}
use Rattle.std.proofs.lemmas.List.{take_more, take_all}
use Rattle.std.proofs.lemmas.List.Sums.{fold-append}
use Rattle.inval_messages.specs.Lists.{Written}
use Rattle.inval_messages.specs.declared.message.Message.{Message}
use Rattle.inval_messages.specs.declared.message.Message.TheVariants.{Cat, Rel}
use Rattle.command_lists.specs.Lists.{CommandLists, Held, MayRun, all_lists, new_list, with_message, with_messages, is_of, begun, registered, command_ended}
use Rattle.command_lists.proofs.Writes.{ended-all}

-- the list of a command with these messages runs, after those before it
pub record IsRegistering (was : CommandLists) (command : ℕ) (messages : List Message) (held : Held) (left : ℕ) : Type 0 where
  pub lists : held.lists ≡ record { earlier = all_lists was; running = Some (with_messages messages (new_list command)) }
  pub spare : left ≤ held.spare

-- at first it has none
pub registering_starts : (was : CommandLists) (command total : ℕ) (messages : List Message) (reserved held : Held) → was.running ≡ None → reserved.lists ≡ was → total + 1 ≤ reserved.spare → held.lists ≡ begun command reserved.lists → reserved.spare ≤ held.spare + 1
    → IsRegistering was command (take 0 messages) held (total - 0)
registering_starts was command total messages reserved held none same room is spare = record {
  lists = is ∙ ap (begun command) same ∙ ap (λ o. elim (is_of command o) [ true ↦ was | false ↦ record { earlier = all_lists was; running = Some (new_list command) } ]) none;
  spare = omega (arith, room, spare);
}

keeps_command : (message : Message) (list : Written) → (with_message message list).command ≡ list.command
keeps_command (Cat cache hash) list = refl
keeps_command (Rel rel) list = refl

all_keep : (messages : List Message) (list : Written) → (with_messages messages list).command ≡ list.command
all_keep [] list = refl
all_keep (m ∷ messages) list = all_keep messages (with_message m list) ∙ keeps_command m list

-- its list may run
pub registering_begins : (was reserved : CommandLists) (command : ℕ) → was.running ≡ None → reserved ≡ was → AllByRecursion (λ list. list.command < command) (all_lists was) → MayRun command reserved
registering_begins was reserved command none same order = subst (MayRun command) (sym same) (record {
  ended = subst (AllByRecursion (λ (list : Written). list.command < command)) (ap (λ o. was.earlier ++ option_to_list o) none ∙ append-nil was.earlier) order;
  running = subst (λ o. AllByRecursion (λ (list : Written). list.command ≤ command) (option_to_list o)) (sym none) tt;
})

-- and runs on
pub registering_order : (was : CommandLists) (command : ℕ) (messages : List Message) (held : Held) (left : ℕ) → AllByRecursion (λ list. list.command < command) (all_lists was) → IsRegistering was command messages held left → MayRun command held.lists
registering_order was command messages held left order on = subst (MayRun command) (sym on.lists) (record { ended = order; running = (omega (arith, all_keep messages (new_list command)), tt) })

told : (earlier : List Written) (list : Written) (command : ℕ) (message : Message) → list.command ≡ command → registered command message (record { earlier = earlier; running = Some list }) ≡ record { earlier = earlier; running = Some (with_message message list) }
told earlier list command message is = ap (λ t. by_test t) (eq-eqb list.command command is)
  where
    by_test : Bool → CommandLists
    by_test same = let lists : CommandLists = elim same [ true ↦ record { earlier = earlier; running = Some list } | false ↦ record { earlier = earlier ++ list ∷ []; running = Some (new_list command) } ] in
        record { earlier = lists.earlier; running = option_map (with_message message) lists.running }

-- with one more
pub registering_more : (was : CommandLists) (command : ℕ) (messages : List Message) (i : ℕ) (d : Message) (held next : Held) → i < length messages → next.lists ≡ registered command (get_or messages i d) held.lists → held.spare ≤ next.spare + 1
    → IsRegistering was command (take i messages) held (length messages - i) → IsRegistering was command (take (i + 1) messages) next (length messages - (i + 1))
registering_more was command messages i d held next within is spare on = record {
  lists = is ∙ ap (registered command (get_or messages i d)) on.lists ∙ told (all_lists was) (with_messages (take i messages) (new_list command)) command (get_or messages i d) (all_keep (take i messages) (new_list command))
      ∙ ap (λ list. record { earlier = all_lists was; running = Some list }) (sym (ap (λ l. with_messages l (new_list command)) (take_more messages i d within) ∙ fold-append (λ w m. with_message m w) (new_list command) (take i messages) (get_or messages i d ∷ [])));
  spare = omega (arith, within, spare, on.spare);
}

-- and then it is done
pub registering_ends : (was now : CommandLists) (command : ℕ) (messages : List Message) (held : Held) (left n : ℕ) → IsRegistering was command (take n messages) held left → length messages ≤ n → now ≡ command_ended held.lists → all_lists now ≡ all_lists was ++ with_messages messages (new_list command) ∷ []
registering_ends was now command messages held left n on all is = ap all_lists is ∙ ended-all held.lists ∙ ap all_lists on.lists ∙ ap (λ l. all_lists was ++ with_messages l (new_list command) ∷ []) (take_all n messages all)
