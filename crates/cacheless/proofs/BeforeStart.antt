-- A backend before it has started.
use Rattle.std.proofs.Common.{◌≡◌, ◌≤◌, ◌∙◌, ℕ, Bool, false, None, List, [], refl, sym, ap, length, slice_get}
use Rattle.base_types.specs.Scenario.{IsBackend}
use Rattle.command_lists.specs.Lists.{Held, no_lists, all_lists}
use Rattle.ddl_effect.specs.Commands.{commands_of}
use Rattle.ddl_effect.specs.Stages.{plan_at}
use Rattle.local_caches.specs.Caches.{kept_of, is_pinned}
use Rattle.local_caches.specs.declared.local_caches.LocalCaches.{LocalCaches}
use Rattle.lock_modes.specs.Rooms.{Roomy}
use Rattle.txn_blocks.specs.Blocks.{Blocks, no_block}
use Rattle.cacheless.specs.Types.{Oid, Command, Scenario, OpenRelation, Opening, OwnLock, Exec}
use Rattle.cacheless.specs.declared.progress.Counts.{Counts}
use Rattle.cacheless.specs.declared.progress.Due.TheVariants as dues
use Rattle.cacheless.specs.declared.progress.Progress.{Progress}
use Rattle.cacheless.specs.declared.suspects.Suspects.{Suspects}
use Rattle.cacheless.specs.Holds.{HasNotStarted}
use Rattle.cacheless.specs.Session.{none_open, plan_first, is_blocked}
use Rattle.cacheless.specs.State.{is_kept, nothing_kept, no_counts, IsNew}
use Rattle.cacheless.specs.Suspects.{AreKnown}

-- a Progress with these fields is new
pub is_new : (id : ℕ) (all : List Command) (exec : Exec) (blocked : Bool) (tally : Counts) (blocks : Blocks) (opens : List OpenRelation) (lists : Held) (opened : List Opening) (locks : Roomy OwnLock) (caches : LocalCaches) (suspects : Suspects) (known : AreKnown (is_kept (kept_of caches)) opened suspects)
    → (given : List OpenRelation) (commands : List Command) → given ≡ opens → commands ≡ all → plan_at given exec ≡ plan_first blocks given (slice_get commands 0) → blocked ≡ is_blocked blocks (slice_get commands 0) → tally ≡ no_counts → blocks ≡ no_block → opens ≡ none_open → lists.lists ≡ no_lists → opened ≡ [] → locks.items ≡ [] → kept_of caches ≡ nothing_kept → ((rel : Oid) → is_pinned caches rel ≡ false)
    → IsNew id all (record { id = id; commands = all; finished = 0; exec = exec; blocked = blocked; ended = false; tally = tally; due = dues.Nothing; blocks = blocks; opens = opens; running = None; lists = lists; taken = None; opened = opened; locks = locks; caches = caches; suspects = suspects; answer = None; known = known })
is_new id all exec blocked tally blocks opens lists opened locks caches suspects known given commands lent lent_all plan refused no_tally no_blocks no_opens empty no_opened no_locks no_caches no_pins = record {
  number = refl;
  commands_are = refl;
  finished = refl;
  plan = ap (λ l. plan_at l exec) (sym lent) ∙ plan ∙ (λ i. plan_first (no_blocks i) ((lent ∙ no_opens) i) (slice_get (lent_all i) 0));
  blocked = refused ∙ (λ i. is_blocked (no_blocks i) (slice_get (lent_all i) 0));
  ended = refl;
  tally = no_tally;
  due = refl;
  blocks = no_blocks;
  running = refl;
  lists = empty;
  taken = refl;
  opens = no_opens;
  opened = no_opened;
  locks = no_locks;
  kept = no_caches;
  pins = no_pins;
  answer = refl;
}

-- a new one fits the empty history
pub new_waits : (scenario : Scenario) (s : Progress) → IsNew s.id s.commands s → IsBackend scenario.backends s.id → s.commands ≡ commands_of scenario s.id → length s.commands ≤ 20000 → HasNotStarted scenario [] s
new_waits scenario s new number commands few = record {
  number = number;
  commands = commands;
  few = few;
  new = new;
  facts = λ i. record { due = sym new.due i; running = sym new.running i; lists = all_lists (sym new.lists i); kept = sym new.kept i };
}
