-- How many places in the history are to be promised to a backend before its next entry: those of a whole commit before that is visible.
use Rattle.std.specs.Prelude.{◌≡◌, ◌≤◌, ◌+◌, ◌++◌, ◌/◌, ℕ, Bool, true, false, Some, List, length, min, max, is_some}
use Rattle.std.specs.Option.{option_map_or}
use Rattle.base_types.specs.Scenario.{Scenario}
use Rattle.event_kinds.specs.declared.entry.Entry.{Entry}
use Rattle.inval_messages.specs.Lists.{cats_in, rels_in}
use Rattle.cacheless.specs.State.{lists_at}
use Rattle.backend_core.specs.Types.{Next, Progress, Backend}
use Rattle.backend_core.specs.declared.life.Life.TheVariants as lives
use Rattle.backend_core.specs.declared.next.Next.TheVariants as nexts
use Rattle.backend_core.specs.Agrees.{command_at, Stands}
use Rattle.backend_core.specs.Choice.{next_at}

-- how many publishes so many messages take, of 64 at most
abbrev pub publishes_of : ℕ → ℕ
publishes_of messages = (messages + 63) / 64

-- how many entries the commit of its writes makes: the visibility step, the publishes of the messages for the catalog caches and of those for descriptors, the release
abbrev pub entries_of_commit : Progress → ℕ
entries_of_commit s = publishes_of (length (cats_in (lists_at s))) + publishes_of (length (rels_in (lists_at s))) + 2

-- its transaction has written
abbrev pub has_xid : Progress → Bool
has_xid s = option_map_or (λ t. is_some t.xid) s.running false

-- before this entry: the visibility step wants the places of its whole commit at once, and 48 besides, and the rest of the commit none; nor do a taking back and the release after it
abbrev pub places_before : Progress → Next → ℕ
places_before s (nexts.Commit xid) = min (entries_of_commit s + 48) 4294967295
places_before s nexts.Publish = 0
places_before s (nexts.TakeBack from) = 0
places_before s (nexts.Release from) = elim (has_xid s) [ true ↦ 0 | false ↦ 48 ]
places_before s nexts.Leave = 0
places_before s next = 48

-- so many are to be promised: none before it joins, after its last command, and once it has left
pub data WantsPlaces (s : Backend) (places : ℕ) : Type 0 where
  ToJoin : s.life ≡ lives.Unstarted → places ≡ 0 → WantsPlaces s places
  ToEnter : s.life ≡ lives.Alive → is_some (command_at s) ≡ true → (next : Next) → next_at s ≡ Some next → places ≡ places_before s.progress next → WantsPlaces s places
  AfterAll : s.life ≡ lives.Alive → is_some (command_at s) ≡ false → places ≡ 0 → WantsPlaces s places
  Ended : s.life ≡ lives.Stopped → places ≡ 0 → WantsPlaces s places

-- a backend has the places that it wants before its next entry
pub record HasWanted (s : Backend) (has : ℕ) : Type 0 where
  pub places : ℕ
  pub wants : WantsPlaces s places
  pub enough : places ≤ has

-- a backend wanted so many where it stood in a history between these two: the first with some of the entries that came since
pub record WantedBetween (scenario : Scenario) (b : ℕ) (old new : List Entry) (places : ℕ) : Type 0 where
  pub before : List Entry
  pub after : List Entry
  pub between : new ≡ (old ++ before) ++ after
  pub backend : Backend
  pub id : backend.progress.id ≡ b
  pub stands : Stands scenario (old ++ before) backend
  pub wants : WantsPlaces backend places

-- while the history grew, no more was promised to a backend than had been, than is promised always, or than it wanted in a history between
pub data PromisesOnly (scenario : Scenario) (b : ℕ) (old new : List Entry) (had has : ℕ) : Type 0 where
  Always : has ≤ max had 48 → PromisesOnly scenario b old new had has
  Wanted : (places : ℕ) → WantedBetween scenario b old new places → has ≤ max had (max places 48) → PromisesOnly scenario b old new had has
