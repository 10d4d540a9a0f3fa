-- What the code holds of a segment.
use Rattle.std.specs.Prelude.{◌≡◌, ◌≤◌, ℕ, Option, None, List, IfSome, MatchOption, nat_eq}
use Rattle.std.specs.Option.{option_map_or}
use Rattle.std.specs.List.{AllByRecursion}
use Rattle.indexmap.specs.IndexMap.{get}
use Rattle.command_lists.specs.Lists.{all_lists}
use Rattle.history_model.specs.Segment.{Standing, Segment, no_standing}
use Rattle.history_model.specs.After.{segment_of}
use Rattle.segment_rows.specs.Kept.{KeepsRows}
use Rattle.history_ledger.specs.Types.{Entry, RunningTransaction, Unstarted, Alive}
use Rattle.history_ledger.specs.declared.own.Own.{Own}
use Rattle.history_ledger.specs.declared.backends.Backends.{Backends}
use Rattle.history_ledger.specs.declared.ledger.Ledger.{Ledger}

-- what the code holds of a backend
abbrev pub standing_of : Own → Standing
standing_of own = record { life = own.life; asked = own.asked; running = own.running; lists = all_lists own.lists.lists; position = own.position; waited = own.waited; wrote = own.wrote }

-- of one of them, also where it has no entry
abbrev pub standing_at : Backends → ℕ → Standing
standing_at backends b = option_map_or standing_of (get nat_eq backends.map b) no_standing

-- how many messages a transaction has published
abbrev pub published_in : Option RunningTransaction → ℕ
published_in running = option_map_or (λ t. t.published) running 0

-- a backend's lists are of commands up to that of its last write, which isn't after that of its last entry
pub record IsTimely (own : Standing) : Type 0 where
  pub listed : AllByRecursion (λ w. MatchOption own.wrote ⊥ (λ n. w.command ≤ n)) own.lists
  pub low : (last : ℕ) → own.life ≡ Alive last → IfSome own.wrote (λ n. n ≤ last)
  pub none : own.life ≡ Unstarted → own.wrote ≡ None

-- the code holds a segment
pub record Keeps (s : Segment) (ledger : Ledger) : Type 0 where
  pub rows : KeepsRows s ledger.rows
  pub locks : ledger.locks ≡ s.held
  pub log : ledger.log.items ≡ s.log
  pub stands : (b : ℕ) → standing_at ledger.backends b ≡ s.standing b
  pub timely : (b : ℕ) → IsTimely (s.standing b)

-- it holds what a history leaves
abbrev pub Reads : List Entry → Ledger → Type 0
Reads history ledger = Keeps (segment_of history) ledger
