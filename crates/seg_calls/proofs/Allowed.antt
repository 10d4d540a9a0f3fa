-- What a backend asks for may follow, if the entries before allow it; and a sound history stays sound.
use Rattle.std.proofs.Common.{◌≡◌, ◌≤◌, ℕ, Bool, true, false, Option, Some, List, subst, sym}
use Rattle.event_kinds.specs.declared.entry.Entry.{Entry}
use Rattle.event_kinds.specs.declared.entry.Event.{Event}
use Rattle.event_kinds.specs.declared.entry.Event.TheVariants as events
use Rattle.base_types.specs.Scenario.{Scenario}
use Rattle.history_model.specs.MayFollow.{MayFollow, AllowsEvent, FollowsVisible, FollowsGone}
use Rattle.history_model.specs.MayFollow.{FollowsLife}
use Rattle.history_model.specs.Lives.{life_of, last_event_of}
use Rattle.history_model.specs.declared.life.Life.{Life}
use Rattle.history_model.specs.declared.life.Life.TheVariants.{Unstarted, Alive, Stopped}
use Rattle.history_model.specs.Transactions.{running_transaction_of, is_visible}
use Rattle.history_model.specs.Sound.{MayComeNext, IsSound}
use Rattle.history_model.proofs.Prefixes.{EachEntry-more}
use Rattle.seg_calls.specs.Calls.{entry_of, MayCall, MayRequest, Appends, took_back}

-- a start is never asked for
abbrev pub is_start : Event → Bool
is_start events.Start = true
is_start event = false

lives : (last c : ℕ) (event : Event) → is_start event ≡ false → last ≤ c → FollowsLife (Alive last) c event
lives last c events.Start other rises = absurd (cc)
lives last c event other rises = rises

hidden : (event : Event) → FollowsVisible false event
hidden event = tt

stands : (last : Option Event) (event : Event) → took_back last ≡ false → FollowsGone last event
stands (Some (events.Gone from)) event none = absurd (cc)
stands last event none = tt

-- what a backend may ask for may follow, if it is allowed
pub request_follows : (script : Scenario) (before : List Entry) (b c : ℕ) (event : Event) → MayRequest script before b c → is_start event ≡ false → AllowsEvent before b c event → MayFollow before (entry_of b c event)
request_follows script before b c event request asked allows = record {
  life = rw request.alive (lives request.last c event asked request.rises);
  visible = rw request.visible (hidden event);
  gone = stands (last_event_of before b) event request.gone;
  event = allows;
}

reset_lives : (life : Life) (c count : ℕ) → FollowsLife life c (events.Fetch count) → FollowsLife life c events.FetchReset
reset_lives Unstarted c count life = life
reset_lives (Alive last) c count life = life
reset_lives Stopped c count life = life

reset_hidden : (visible : Bool) (count : ℕ) → FollowsVisible visible (events.Fetch count) → FollowsVisible visible events.FetchReset
reset_hidden true count hides = hides
reset_hidden false count hides = tt

reset_stands : (last : Option Event) (count : ℕ) → FollowsGone last (events.Fetch count) → FollowsGone last events.FetchReset
reset_stands (Some (events.Gone from)) count follows = follows
reset_stands last count follows = tt

-- where a backend may call for a fetch of messages, a reset may come in its place
pub reset_follows : (script : Scenario) (before : List Entry) (b c count : ℕ) → MayCall script before (entry_of b c (events.Fetch count)) → MayCall script before (entry_of b c events.FetchReset)
reset_follows script before b c count call = record {
  backend = call.backend;
  number = call.number;
  follows = record {
    life = reset_lives (life_of before b) c count call.follows.life;
    visible = reset_hidden (is_visible (running_transaction_of before b)) count call.follows.visible;
    gone = reset_stands (last_event_of before b) count call.follows.gone;
    event = call.follows.event.0;
  };
}

-- a sound history is sound with the entry that a call appends
pub appends_sound : (old new : List Entry) (had has : ℕ → ℕ) (e : Entry) → IsSound old → Appends old new had has e → IsSound new
appends_sound old new had has e sound appends = subst IsSound (sym appends.entries) (EachEntry-more MayComeNext old e sound appends.comes)
