-- Each entry of an allowed history has a text, as long as the whole text is so short that its bytes can be counted in four.
use Rattle.std.proofs.Common.{◌≡◌, ◌≤◌, ◌+◌, ℕ, Bool, true, false, Option, Some, None, List, [], ◌∷◌, ◌++◌, ◌==◌, All, refl, sym, subst, filter, length, slice_get, arith}
use Rattle.std.specs.Prelude.{IfSome, codes}
use Rattle.std.specs.List.{AllByRecursion}
use Rattle.std.proofs.lemmas.List.{length-append, length-map}
use Rattle.std.proofs.lemmas.List.Elements.{All-from_recursion}
use Rattle.base_types.specs.Commands.{IsCommand}
use Rattle.base_types.specs.Scenario.{Scenario, IsScript}
use Rattle.event_kinds.specs.Entries.{IsNumber, HasChange, IsEntry}
use Rattle.event_kinds.specs.Texts.{entries_text, lines_text, text_of}
use Rattle.event_kinds.specs.declared.entry.Event.TheVariants as events
use Rattle.ddl_effect.specs.Commands.{commands_of}
use Rattle.history_model.specs.Drawn.{next_oid}
use Rattle.history_model.specs.Lives.{life_of}
use Rattle.history_model.specs.declared.life.Life.{Life}
use Rattle.history_model.specs.declared.life.Life.TheVariants.{Unstarted, Alive, Stopped}
use Rattle.history_model.specs.MayFollow.{FollowsLife}
use Rattle.history_model.specs.Sound.{MayComeNext, IsSound}
use Rattle.history_model.proofs.Every.{every-append, every-kept, every-map}
use Rattle.history_model.proofs.Ordered.{sound_ordered}
use Rattle.history_model.proofs.Prefixes.{EachEntry-more, EachFrom-both, each-keeps, own-own, own-other}
use Rattle.cacheless.specs.Facts.{facts_of}
use Rattle.cacheless.specs.Lines.{lines_of}
use Rattle.cacheless.specs.Output.{IsAllowed, IsOutput}
use Rattle.cacheless.specs.Played.{AreSpelled}
use Rattle.cacheless.specs.Plays.{IsStart, MayPlayAt, IsNext}
use Rattle.cacheless.specs.Session.{Session}
use Rattle.cacheless.specs.Sessions.{session_by, session_of}
use Rattle.cacheless.proofs.Allowed.AllowedHistories.{allowed_sound}
use Rattle.cacheless.proofs.Written.WritesChange.{allowed_changes}
use Rattle.cacheless.specs.Types.{Entry, Event, CheckKind}
use Rattle.cacheless.specs.Typed.{LeavesTyped, CountsBytes, IsCountable}
use Rattle.cacheless.proofs.Allowed.CountedBytes.{bytes_more, kept_few, counts_bytes_more, counts_bytes_start}
use Rattle.cacheless.proofs.Allowed.TypedEvents.{IsNamedTyped, kept_typed, session_named, event_typed}
use Rattle.cacheless.proofs.Allowed.TypedSegments.{leaves_more, leaves_start}
use Rattle.cacheless.proofs.Allowed.TypedSessions.{IsTypedWithin, session_typed}

-- the commands of a backend are no more than those of the script, and have the forms that lines may have
few_commands : (scenario : Scenario) (b : ℕ) → length (commands_of scenario b) ≤ length scenario.commands
few_commands scenario b = omega (arith, length-map (filter (λ p. p.backend == b) scenario.commands) (λ p. p.command), kept_few (λ p. p.backend == b) scenario.commands)

own_spelled : (scenario : Scenario) (b : ℕ) → AreSpelled scenario → AllByRecursion IsCommand (commands_of scenario b)
own_spelled scenario b spelled = every-map IsCommand (λ p. p.command) (filter (λ p. p.backend == b) scenario.commands) (every-kept (λ p. IsCommand p.command) (λ p. p.backend == b) scenario.commands spelled)

-- a history of which each entry has a text, with what it leaves and the sessions of its backends
pub record IsTypedHistory (scenario : Scenario) (history : List Entry) : Type 0 where
  pub entries : AllByRecursion IsEntry history
  pub leaves : LeavesTyped history
  pub sessions : (b : ℕ) → IfSome (session_of scenario history b) (IsTypedWithin (length (commands_of scenario b)))

-- the number of the command of an entry
start_number : (life : Life) (c : ℕ) (event : Event) → IsStart event → FollowsLife life c event → c ≡ 0
start_number Unstarted c events.Start start follows = follows
start_number (Alive last) c events.Start start follows = absurd follows
start_number Stopped c events.Start start follows = absurd follows
start_number life c event start follows = absurd start

start_named : (event : Event) → IsStart event → IsNamedTyped event
start_named events.Start start = tt
start_named event start = absurd start

-- the number of a command is small, and what its plan says of the entry has a text
record IsPlayedTyped (c : ℕ) (event : Event) : Type 0 where
  number : IsNumber c
  named : IsNamedTyped event

plays_typed : (scenario : Scenario) (history : List Entry) (b c : ℕ) (event : Event) → IsScript scenario → IsTypedHistory scenario history → IsNumber (next_oid history) → FollowsLife (life_of history b) c event → MayPlayAt scenario history b (session_of scenario history b) c event
    → IsPlayedTyped c event
plays_typed scenario history b c event script typed low follows plays = of (session_of scenario history b) (typed.sessions b) plays
  where
    of : (o : Option Session) → IfSome o (IsTypedWithin (length (commands_of scenario b))) → MayPlayAt scenario history b o c event → IsPlayedTyped c event
    of None is next = record { number = omega (arith, start_number (life_of history b) c event next follows); named = start_named event next }
    of (Some s) is next = record {
      number = omega (arith, next.0, is.few, few_commands scenario b, script.commands);
      named = session_named (next_oid history) (facts_of history b) (slice_get (commands_of scenario b) (length s.finished)) s event low (kept_typed history b typed.leaves) is.typed next.1;
    }

-- an entry that a typed history allows, and that its backend may make next, has a text
entry_typed : (scenario : Scenario) (history : List Entry) (e : Entry) → IsScript scenario → IsSound history → CountsBytes history → IsCountable (entries_text history) → IsTypedHistory scenario history → MayComeNext history e → IsNext scenario history e → HasChange e.event → IsEntry e
entry_typed scenario history e script sound counts short typed comes next some = record {
  backend = omega (arith, next.0.1, script.backends.1);
  command = played.number;
  event = event_typed history e.backend e.command e.event (sound_ordered history sound).runs typed.leaves counts short played.number played.named some comes.follows.event;
}
  where
    played : IsPlayedTyped e.command e.event
    played = plays_typed scenario history e.backend e.command e.event script typed (omega (arith, counts.oids, short)) comes.follows.life next.1

sessions_more : (scenario : Scenario) (history : List Entry) (e : Entry) → AreSpelled scenario → LeavesTyped (history ++ e ∷ []) → ((b : ℕ) → IfSome (session_of scenario history b) (IsTypedWithin (length (commands_of scenario b))))
    → (b : ℕ) → IfSome (session_of scenario (history ++ e ∷ []) b) (IsTypedWithin (length (commands_of scenario b)))
sessions_more scenario history e spelled leaves sessions b = by_owner (e.backend == b) refl
  where
    Is : Option Session → Type 0
    Is o = IfSome o (IsTypedWithin (length (commands_of scenario b)))

    by_owner : (t : Bool) → (e.backend == b) ≡ t → Is (session_of scenario (history ++ e ∷ []) b)
    by_owner true own = subst Is (sym (own-own b (λ before old y. session_by scenario (facts_of (before ++ y ∷ []) b) b (length before + 1) y.command y.event old) None history e own))
        (session_typed scenario (facts_of (history ++ e ∷ []) b) b (length history + 1) e.command e.event (session_of scenario history b) (own_spelled scenario b spelled) (kept_typed (history ++ e ∷ []) b leaves) (sessions b))
    by_owner false other = subst Is (sym (own-other b (λ before old y. session_by scenario (facts_of (before ++ y ∷ []) b) b (length before + 1) y.command y.event old) None history e other)) (sessions b)

-- so a typed history stays one
typed_more : (scenario : Scenario) (history : List Entry) (e : Entry) → IsScript scenario → IsSound history → CountsBytes history → IsCountable (entries_text history) → IsTypedHistory scenario history → MayComeNext history e → IsNext scenario history e → HasChange e.event → IsTypedHistory scenario (history ++ e ∷ [])
typed_more scenario history e script sound counts short typed comes next some = record {
  entries = every-append IsEntry history (e ∷ []) typed.entries (is, tt);
  leaves = later;
  sessions = sessions_more scenario history e script.spelled later typed.sessions;
}
  where
    is : IsEntry e
    is = entry_typed scenario history e script sound counts short typed comes next some

    later : LeavesTyped (history ++ e ∷ [])
    later = leaves_more history e is typed.leaves

-- what holds of each prefix: it counts bytes, and is typed as long as its text is short
record StaysTyped (scenario : Scenario) (history : List Entry) : Type 0 where
  sound : IsSound history
  counts : CountsBytes history
  typed : IsCountable (entries_text history) → IsTypedHistory scenario history

stays_more : (scenario : Scenario) (history : List Entry) (e : Entry) → IsScript scenario → StaysTyped scenario history → MayComeNext history e → IsNext scenario history e → HasChange e.event → StaysTyped scenario (history ++ e ∷ [])
stays_more scenario history e script stays comes next some = record {
  sound = EachEntry-more MayComeNext history e stays.sound comes;
  counts = counts_bytes_more history e (sound_ordered history stays.sound).runs comes.follows stays.counts;
  typed = λ short. let earlier : IsCountable (entries_text history) = omega (arith, short, bytes_more history e) in typed_more scenario history e script stays.sound stays.counts earlier (stays.typed earlier) comes next some;
}

-- each entry of an allowed history
pub typed_history : (scenario : Scenario) (history : List Entry) → IsScript scenario → IsAllowed scenario history → IsCountable (entries_text history) → IsTypedHistory scenario history
typed_history scenario history script allowed short =
    (each-keeps (λ before e. (MayComeNext before e × IsNext scenario before e) × HasChange e.event) (StaysTyped scenario)
    (record { sound = tt; counts = counts_bytes_start; typed = λ none. record { entries = tt; leaves = leaves_start; sessions = λ b. tt } })
    (λ before e stays may. stays_more scenario before e script stays may.0.0 may.0.1 may.1) history
    (EachFrom-both (λ before e. MayComeNext before e × IsNext scenario before e) (λ before e. HasChange e.event) [] history (EachFrom-both MayComeNext (IsNext scenario) [] history (allowed_sound scenario history script.spelled allowed) allowed.plays) (allowed_changes scenario history script.spelled allowed))).typed short

-- and so each entry of a history that a script allows, whose text is short
pub allowed_typed : (scenario : Scenario) (history : List Entry) → IsScript scenario → IsAllowed scenario history → IsCountable (text_of history (lines_of scenario history)) → All IsEntry history
allowed_typed scenario history script allowed short = All-from_recursion IsEntry history (typed_history scenario history script allowed
    (omega (arith, short, length-append (entries_text history ++ lines_text (lines_of scenario history)) (codes "end\n"), length-append (entries_text history) (lines_text (lines_of scenario history))))).entries

-- as of each output, whose text is short
pub output_typed : (kind : CheckKind) (scenario : Scenario) (text : List ℕ) (output : IsOutput kind scenario text) → IsScript scenario → IsCountable text → All IsEntry output.history
output_typed kind scenario text output script short = allowed_typed scenario output.history script output.allowed (subst IsCountable output.text_is short)
