-- A worker from step to step.
use Rattle.std.proofs.Common.{◌≡◌, ◌≤◌, ◌∙◌, ℕ, Bool, true, false, List, [], ◌++◌, refl, sym, ap, subst, append_assoc, append-nil, length, Result, Ok, Err, IfOk, OnOk, OnErr, is_err, arith}
use Rattle.std.proofs.lemmas.Bool.{both_ways}
use Rattle.base_types.specs.Scenario.{Scenario, IsBackend}
use Rattle.ddl_effect.specs.Commands.{commands_of}
use Rattle.event_kinds.specs.declared.entry.Entry.{Entry}
use Rattle.history_model.specs.Log.{is_waiting}
use Rattle.turn_table.specs.Histories.{Follows, Grew}
use Rattle.turn_table.specs.Passes.{seen_by}
use Rattle.backend_core.specs.declared.backend.Backend.{Backend}
use Rattle.backend_core.specs.declared.life.Life.TheVariants as lives
use Rattle.backend_core.specs.declared.turns.HeldLook.{HeldLook}
use Rattle.backend_core.specs.Agrees.{IsPlayed, AgreesNow}
use Rattle.backend_core.specs.Apart.{IsHolding}
use Rattle.backend_core.specs.Cuts.{IsAlike}
use Rattle.backend_core.specs.Halts.{HaltsWherever}
use Rattle.backend_core.specs.Looks.{IsOnItsWay, NeedsTurn, ToJoin, ToEnter, GoesWherever}
use Rattle.backend_core.specs.Words.{has_left}
use Rattle.thread_run.specs.declared.refusal.RunRefusal.{RunRefusal}
use Rattle.thread_run.specs.declared.worker.Worker.{Worker}
use Rattle.thread_run.specs.Scripts.{Play, HasAll, IsLeft, commands_left}
use Rattle.thread_run.specs.Stops.{StopsBy}
use Rattle.thread_run.specs.Turns.{backend_of, right_before, EntersInTurn, HasTakenTurn, MayTakeTurn, MayHalt, IsHalting, IsBetween, WaitsWherever, ComesWherever, IsAtCommand, IsUnderway}
use Rattle.thread_run.specs.Workers.{Table, IsAt, Extends, Goes, TakesTurn}
use Rattle.thread_run.proofs.Between.{turned}
use Rattle.thread_run.proofs.Scripts.{left_alike}

pub extends_same : (seen now : List Entry) → now ≡ seen → Extends seen now
extends_same seen now same = record { more = []; is = same ∙ sym (append-nil seen) }

pub extends_then : (seen now later : List Entry) → Extends seen now → Extends now later → Extends seen later
extends_then seen now later first second = record { more = first.more ++ second.more; is = second.is ∙ ap (λ h. h ++ second.more) first.is ∙ append_assoc seen first.more second.more }

pub extends_follows : (b : ℕ) (seen now : List Entry) → Follows backend_of b seen now → Extends seen now
extends_follows b seen now follows = record { more = follows.rest; is = follows.grows }

pub extends_grew : (b : ℕ) (seen now : List Entry) → Grew backend_of b seen now → Extends seen now
extends_grew b seen now grew = record { more = grew.rest; is = grew.grows }

-- a worker that stays
pub goes_nowhere : (table : Table) (w : Worker) → IsAt table w → Goes table w w
goes_nowhere table w at = record { at = at; number = refl; seen = extends_same (seen_by w.pass) (seen_by w.pass) refl }

-- one step after another
pub goes_then : (table : Table) (a b c : Worker) → Goes table a b → Goes table b c → Goes table a c
goes_then table a b c first second = record {
  at = second.at;
  number = second.number ∙ first.number;
  seen = extends_then (seen_by a.pass) (seen_by b.pass) (seen_by c.pass) first.seen second.seen;
}

-- what its backend does meanwhile changes nothing of its seat
pub at_kept : (table : Table) (w : Worker) (backend : Backend) → IsAt table w → IsAt table (record w { backend = backend })
at_kept table w backend at = record { of = at.of; backend = at.backend }

pub goes_kept : (table : Table) (was now : Worker) (backend : Backend) → Goes table was now → Goes table was (record now { backend = backend })
goes_kept table was now backend goes = record { at = at_kept table now backend goes.at; number = goes.number; seen = goes.seen }

-- a gate that was asked before, and is asked again
pub stops_then : (before now later : ℕ) (result : Result (Unit {0}) RunRefusal) → now ≡ before → StopsBy now later result → StopsBy before later result
stops_then before now later result same stops = subst (λ n. StopsBy n later result) same stops

-- what a turn left begins with what the pass had seen before
pub extends_turn : (b : ℕ) (seen opened at new last : List Entry) → Follows backend_of b seen opened → at ≡ opened → Grew backend_of b at new → last ≡ new → Extends seen last
extends_turn b seen opened at new last follows same grew is = subst (λ (h : List Entry). Extends seen h) (sym is) (extends_then seen opened new (extends_follows b seen opened follows) (extends_grew b opened new (subst (λ (h : List Entry). Grew backend_of b h new) same grew)))

-- others have as many commands left as the turn was opened with
pub rooms_kept : (opened at new first last : Play) (k : ℕ) → at ≡ opened → first ≡ opened → last ≡ new → commands_left new k ≡ commands_left at k → commands_left first k ≤ commands_left last k
rooms_kept opened at new first last k same begun ended has =
    let now = ap (λ (v : Play). commands_left v k) ended ∙ has ∙ ap (λ (v : Play). commands_left v k) same in
    let then = ap (λ (v : Play). commands_left v k) begun in
    omega (arith, now, then)

-- the same where the script that is played stays
pub left_same : (at new : Play) (k : ℕ) → new.shared.script ≡ at.shared.script → commands_left new k ≡ commands_left at k
left_same at new k same = ap (λ (s : Scenario). length (commands_of s k)) same

-- what was given stays
pub whole_kept : (opened at new first last : Play) → at ≡ opened → first ≡ opened → last ≡ new → new.whole ≡ at.whole → last.whole ≡ first.whole
whole_kept opened at new first last same begun ended has = ap (λ (v : Play). v.whole) ended ∙ has ∙ ap (λ (v : Play). v.whole) (same ∙ sym begun)

-- a backend of the script is one in a turn
pub turn_backend : (now opened : Play) (whole : Scenario) (b : ℕ) → now ≡ opened → opened.whole ≡ whole → IsBackend whole.backends b → IsBackend now.whole.backends b
turn_backend now opened whole b is same backend = subst (λ (k : Scenario). IsBackend k.backends b) (sym (ap (λ (v : Play). v.whole) is ∙ same)) backend

-- where no command of a backend was left out, the script that is played says of it what the whole one says
alike_here : (opened : Play) (whole : Scenario) (b room : ℕ) → opened.whole ≡ whole → HasAll whole b room → room ≤ commands_left opened b → IsLeft opened.whole opened.shared.script → IsAlike b whole opened.shared.script
alike_here opened whole b room same all roomy left = left_alike whole opened.shared.script b (subst (λ (k : Scenario). IsLeft k opened.shared.script) same left) (omega (arith, all, roomy))

-- what may be done in whatever turn comes, in this one
pub turn_holds : (now opened : Play) (whole : Scenario) (enters : Bool) (b room : ℕ) (seen : List Entry) (told : Bool) (held looks : List HeldLook) (s : Backend) → now ≡ opened → opened.whole ≡ whole → looks ≡ held → HasAll whole b room → room ≤ commands_left opened b → MayTakeTurn whole enters b seen told held s
    → Follows backend_of b seen opened.shared.history → (told ≡ true → is_waiting opened.shared.history b ≡ true) → IsLeft now.whole now.shared.script → IsPlayed now.shared.script now.shared.history → IsHolding (right_before enters) now.shared.script b now.shared.history looks s
turn_holds now opened whole enters b room seen told held looks s is same what all roomy may follows waits =
    subst (λ (v : Play). IsLeft v.whole v.shared.script → IsPlayed v.shared.script v.shared.history → IsHolding (right_before enters) v.shared.script b v.shared.history looks s) (sym is)
    (λ left played. subst (λ (l : List HeldLook). IsHolding (right_before enters) opened.shared.script b opened.shared.history l s) (sym what)
    (may.holds opened.shared.script (alike_here opened whole b room same all roomy left) opened.shared.history follows played waits))

-- the same of its last turn, after it was halted
pub turn_halts : (now opened : Play) (whole : Scenario) (b n commands room : ℕ) (seen : List Entry) (held looks : List HeldLook) (s : Backend) → now ≡ opened → opened.whole ≡ whole → looks ≡ held → n ≡ commands → HasAll whole b room → room ≤ commands_left opened b → MayHalt whole b commands seen held s
    → Follows backend_of b seen opened.shared.history → IsLeft now.whole now.shared.script → IsPlayed now.shared.script now.shared.history → IsHalting now.shared.script b n now.shared.history looks s
turn_halts now opened whole b n commands room seen held looks s is same what count all roomy may follows =
    subst (λ (v : Play). IsLeft v.whole v.shared.script → IsPlayed v.shared.script v.shared.history → IsHalting v.shared.script b n v.shared.history looks s) (sym is)
    (λ left played. subst (λ (l : List HeldLook). IsHalting opened.shared.script b n opened.shared.history l s) (sym what)
    (subst (λ m. IsHalting opened.shared.script b m opened.shared.history held s) (sym count)
    (may.halts opened.shared.script (alike_here opened whole b room same all roomy left) opened.shared.history follows played)))

-- after a turn that left the script the backend has all its commands still
pub all_kept : (opened at new last : Play) (whole : Scenario) (b n room rooms : ℕ) → at ≡ opened → new.shared.script ≡ at.shared.script → last ≡ new → n ≡ b → rooms ≡ commands_left last n → room ≤ commands_left opened b → HasAll whole b room → HasAll whole n rooms
all_kept opened at new last whole b n room rooms is same ended number has roomy all =
    let left = has ∙ ap (λ (v : Play). commands_left v n) ended ∙ left_same at new n same ∙ ap (λ (v : Play). commands_left v n) is ∙ ap (commands_left opened) number in
    let count = ap (λ k. length (commands_of whole k)) number in
    omega (arith, left, count, roomy, all)

-- after a look it has them too
pub all_seen : (whole : Scenario) (b n room rooms : ℕ) → n ≡ b → rooms ≡ room → HasAll whole b room → HasAll whole n rooms
all_seen whole b n room rooms number same all = let count = ap (λ k. length (commands_of whole k)) number in omega (arith, count, same, all)

-- what a turn left, where it made what it had to
pub turned_ok : {E : Type 0} (whole : Scenario) (at new : Play) (b room : ℕ) (seen : List Entry) (held : List HeldLook) (s : Backend) (result : Result Bool E) → at.whole ≡ whole → new.whole ≡ at.whole → new.shared.script ≡ at.shared.script → IsLeft new.whole new.shared.script → HasAll whole b room → room ≤ commands_left at b → seen ≡ new.shared.history → held ≡ []
    → IfOk result (λ over. HasTakenTurn new.shared.script b new.shared.history over s) → IfOk result (λ over. IsUnderway whole b seen held over s)
turned_ok whole at new b room seen held s (Err e) given kept same left all roomy is none has = tt
turned_ok whole at new b room seen held s (Ok over) given kept same left all roomy is none has =
    subst (λ (l : List HeldLook). IsUnderway whole b seen l over s) (sym none) (subst (λ (h : List Entry). IsUnderway whole b h [] over s) (sym is)
    (turned whole new.shared.script b new.shared.history over s (alike_here new whole b room (kept ∙ given) all (let count = left_same at new b same in omega (arith, count, roomy)) left) has))

-- in whichever history it agreed it does so still
abbrev pub AgreesWherever : Backend → Backend → Type 0
AgreesWherever was now = (scenario : Scenario) (seen : List Entry) → AgreesNow scenario seen was → AgreesNow scenario seen now × (now.progress.id ≡ was.progress.id)

-- so it is on its way still
pub on_its_way : (was now : Backend) → AgreesWherever was now → IsOnItsWay was → IsOnItsWay now
on_its_way was now agrees way = record { scenario = way.scenario; seen = way.seen; agrees = (agrees way.scenario way.seen way.agrees).0 }

-- one that waits for its next entry has joined, and hasn't left
pub waits_alive : (was now : Backend) → IsOnItsWay was → WaitsWherever was now → now.life ≡ lives.Alive
waits_alive was now way waits = (waits way.scenario way.seen way.agrees).0.keeps.alive

-- it goes on to its next command
pub goes_over : (over : Bool) (was now later : Backend) → AgreesWherever was now → GoesWherever over now later → AgreesWherever was later
goes_over over was now later agrees goes = λ scenario seen is. let at = agrees scenario seen is in let on = goes scenario seen at.0 in (on.agrees, on.id ∙ at.1)

-- or as far as it can
pub goes_far : (over : Bool) (was now later : Backend) → AgreesWherever was now → GoesWherever over now later → over ≡ false → WaitsWherever was later
goes_far over was now later agrees goes stays = λ scenario seen is. let at = agrees scenario seen is in let on = goes scenario seen at.0 in (on.waits stays, on.id ∙ at.1)

-- so it has come to a command
pub comes_over : (over : Bool) (was now later : Backend) → AgreesWherever was now → GoesWherever over now later → over ≡ true → ComesWherever was later
comes_over over was now later agrees goes there = λ scenario seen is. let at = agrees scenario seen is in let on = goes scenario seen at.0 in (on.command there, on.id ∙ at.1)

-- a backend that needs a turn hasn't left
pub needs_turn : (s : Backend) → NeedsTurn s → has_left s.life ≡ false
needs_turn s (ToJoin life) = ap has_left life
needs_turn s (ToEnter life next is want) = ap has_left life

-- what is said where work ends well, where it didn't
pub not_ok : {E : Type 0} (P : Type 0) (result : Result (Unit {0}) E) → ((x : Unit {0}) → result ≡ Ok x → ⊥) → OnOk result P
not_ok P (Ok x) other = absurd (other x refl)
not_ok P (Err e) other = tt

-- what is said where it ended well, where it did
pub where_ok : {T E : Type 0} (P : Type 0) (result : Result T E) (x : T) → result ≡ Ok x → OnOk result P → P
where_ok P result x is here = subst (λ r. OnOk r P) is here

-- which refusal it was
pub was_refused : (result : Result (Unit {0}) RunRefusal) (found refusal : RunRefusal) → result ≡ Err found → found ≡ refusal → result ≡ Err refusal
was_refused result found refusal is which = is ∙ ap Err which

-- where work ended well, the gate's count is as it was
pub stops_ok : (before now : ℕ) (result : Result (Unit {0}) RunRefusal) (x : Unit {0}) → result ≡ Ok x → StopsBy before now result → now ≡ before
stops_ok before now result x is stops = subst (StopsBy before now) is stops

-- where a step ended well, the worker is between two turns, under the number of its seat
pub between_ok : {E : Type 0} (scenario : Scenario) (n b : ℕ) (seen : List Entry) (held : List HeldLook) (s : Backend) (result : Result (Unit {0}) E) (x : Unit {0}) → n ≡ b → result ≡ Ok x → OnOk result (IsBetween scenario n seen held s) → IsBetween scenario b seen held s
between_ok scenario n b seen held s result x same is between = subst (λ m. IsBetween scenario m seen held s) same (subst (λ r. OnOk r (IsBetween scenario n seen held s)) is between)

-- after an entry or a look that was made
module _ {E : Type 0} (whole : Scenario) (b : ℕ) (seen : List Entry) (held : List HeldLook) (s : Backend) (result : Result Bool E) (over : Bool) (is : result ≡ Ok over) (made : IfOk result (λ at. IsUnderway whole b seen held at s)) (stopped : Bool) (told : stopped ≡ has_left s.life) where
  underway : IsUnderway whole b seen held over s
  underway = subst (λ r. IfOk r (λ at. IsUnderway whole b seen held at s)) is made

  -- a backend that has left is between two turns
  pub gone_between : stopped ≡ true → IsBetween whole b seen held s
  gone_between gone = underway.left (sym told ∙ gone)

  -- one that stays is on its way
  pub stays_right : stopped ≡ false → IsOnItsWay s
  stays_right stays = underway.right (sym told ∙ stays)

  -- and it is between two turns once it has gone on
  pub went_between : (now : Backend) → stopped ≡ false → WaitsWherever s now → IsBetween whole b seen held now
  went_between now stays waits = underway.waits (sym told ∙ stays) now waits

  -- where a gate stops it at a command, it may be halted
  pub stopped_may : (at : Backend) → stopped ≡ false → IsAtCommand over s at → (now : Backend) → HaltsWherever at now → MayHalt whole b (length at.lines) seen held now
  stopped_may at stays is now halts = underway.halts (sym told ∙ stays) at now is halts

-- what is said of a call that ended well, by the word that it did
pub well_so : {T E : Type 0} (P : Type 0) (result : Result T E) (refused : Bool) → refused ≡ is_err result → OnOk result P → refused ≡ false → P
well_so P (Ok x) refused is so well = so
well_so P (Err e) refused is so well = absurd (both_ways refused well is)

pub any_ok : {T E : Type 0} {P : Type 0} (result : Result T E) → P → OnOk result P
any_ok (Ok x) here = here
any_ok (Err e) here = tt

pub any_err : {T E : Type 0} {P : Type 0} (result : Result T E) → P → OnErr result P
any_err (Ok x) here = tt
any_err (Err e) here = here

-- what a turn entered, by what the pass saw of it
entered_here : (enters : Bool) (b : ℕ) (held looks : List HeldLook) (opened at new seen : List Entry) → looks ≡ held → at ≡ opened → seen ≡ new → EntersInTurn enters b looks at new → EntersInTurn enters b held opened seen
entered_here enters b held looks opened at new seen what begun ended entered =
    subst (λ (h : List Entry). EntersInTurn enters b held opened h) (sym ended) (subst (λ (h : List Entry). EntersInTurn enters b held h new) begun (subst (λ (l : List HeldLook). EntersInTurn enters b l at new) what entered))

pub takes_ok : {E : Type 0} (enters : Bool) (was now : Worker) (result : Result Bool E) (looks : List HeldLook) (opened at new : List Entry) → Follows backend_of was.pass.number (seen_by was.pass) opened → looks ≡ was.held.items → at ≡ opened → seen_by now.pass ≡ new → now.held.items ≡ []
    → OnOk result (EntersInTurn enters was.pass.number looks at new) → OnOk result (TakesTurn enters was now)
takes_ok enters was now (Err e) looks opened at new follows what begun ended none entered = tt
takes_ok enters was now (Ok over) looks opened at new follows what begun ended none entered = record { opened = opened; seen = follows; enters_in = entered_here enters was.pass.number was.held.items looks opened at new (seen_by now.pass) what begun ended entered; held = none }
