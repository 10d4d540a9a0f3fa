-- A backend whose locks have more room agrees as before.
use Rattle.std.proofs.Common.{◌≡◌, ◌∙◌, ℕ, true, Some, List, sym, ap, subst, take, drop, is_some}
use Rattle.lock_modes.specs.Rooms.{Roomy}
use Rattle.cacheless.specs.Facts.{facts_of}
use Rattle.cacheless.specs.Holds.{Holds}
use Rattle.cacheless.specs.Settled.{settled}
use Rattle.cacheless.specs.Silently.{IsAtRest, is_to_answer_at}
use Rattle.cacheless.specs.State.{IsLockedIn, Rest, session_at}
use Rattle.backend_core.specs.Types.{Oid, Mode, OwnLock, Scenario, Entry, Progress, Backend}
use Rattle.backend_core.specs.Agrees.{RunsFit, command_at, AwaitsEntry}
use Rattle.backend_core.specs.Fits.{Fits}
use Rattle.backend_core.specs.Steps.{MakesEntry, Enters, IsLockNext, IsWriteNext}

module _ (scenario : Scenario) (seen : List Entry) (s : Backend) (locks : Roomy OwnLock) (items : locks.items ≡ s.progress.locks.items) where
  abbrev other : Backend
  other = record s { progress = record s.progress { locks = locks } }

  abbrev session_same : (rest : Rest) → session_at other.progress rest ≡ session_at s.progress rest
  session_same rest = λ i. record (session_at s.progress rest) { locks = items i }

  abbrev holds_same : Holds scenario seen s.progress → Holds scenario seen other.progress
  holds_same h = record {
    number = h.number;
    commands = h.commands;
    few = h.few;
    most = h.most;
    rest = h.rest;
    count = h.count;
    is = h.is ∙ ap (λ x. Some (settled (facts_of seen s.progress.id) (drop s.progress.finished s.progress.commands) x)) (sym (session_same h.rest));
    facts = h.facts;
    counts = h.counts;
    order = h.order;
    sought = h.sought;
    puts = h.puts;
    pins = h.pins;
  }

  roomy_awaits : IsAtRest other.progress → (is_to_answer_at other.progress ≡ true → is_some s.progress.answer ≡ true) → AwaitsEntry scenario seen s → AwaitsEntry scenario seen other
  roomy_awaits still answered waits = record {
    keeps = let k = waits.keeps in record {
      alive = k.alive;
      life = record { last = k.life.last; alive = k.life.alive; most = k.life.most };
      absent = λ name missed whole. k.absent name missed (record { untaken = whole.untaken; going = whole.going });
    };
    rests = record { holds = holds_same waits.rests.holds; still = still };
    runs = subst (RunsFit (facts_of seen s.progress.id) (command_at s)) (sym (session_same waits.rests.holds.rest)) waits.runs;
    fits = subst (λ x. Fits (facts_of seen s.progress.id) (command_at s) x s.looked s.frames s.told) (sym (session_same waits.rests.holds.rest)) waits.fits;
    lines = waits.lines;
    tells = record { answer = waits.tells.answer; out = waits.tells.out };
    answered = answered;
    before = λ part m number less is. waits.before part m number less is ∙ ap (λ x. Some (settled (facts_of seen s.progress.id) (drop s.progress.finished (take m s.progress.commands)) x)) (sym (session_same waits.rests.holds.rest));
  }

-- there is room for one more lock
pub reserved_awaits : (scenario : Scenario) (seen : List Entry) (s : Backend) (p : Progress) → IsLockedIn s.progress.locks.items s.progress p → AwaitsEntry scenario seen s → AwaitsEntry scenario seen (record s { progress = p })
reserved_awaits scenario seen s p same waits = subst (λ x. AwaitsEntry scenario seen (record s { progress = x })) (sym same.is)
    (roomy_awaits scenario seen s p.locks same.locks_are
    (subst (λ l. IsAtRest (record s.progress { locks = record { items = l; room = p.locks.room } })) (sym same.locks_are) waits.rests.still)
    (subst (λ l. is_to_answer_at (record s.progress { locks = record { items = l; room = p.locks.room } }) ≡ true → is_some s.progress.answer ≡ true) (sym same.locks_are) waits.answered) waits)

pub reserved_lock : (s p : Progress) (rel : Oid) (mode : Mode) → IsLockedIn s.locks.items s p → IsLockNext s rel mode → IsLockNext p rel mode
reserved_lock s p rel mode same next = subst (λ x. IsLockNext x rel mode) (sym same.is)
    (subst (λ l. IsLockNext (record s { locks = record { items = l; room = p.locks.room } }) rel mode) (sym same.locks_are)
    (record { command = next.command; free = record { at = next.free.at; due = next.free.due; first = next.free.first }; may = next.may }))

pub reserved_write : (s p : Progress) → IsLockedIn s.locks.items s p → IsWriteNext s → IsWriteNext p
reserved_write s p same next = subst IsWriteNext (sym same.is)
    (subst (λ l. IsWriteNext (record s { locks = record { items = l; room = p.locks.room } })) (sym same.locks_are)
    (record { command = next.command; free = record { at = next.free.at; due = next.free.due; first = next.free.first }; owes = next.owes; wants = next.wants }))

pub reserved_id : (s p : Progress) → IsLockedIn s.locks.items s p → p.id ≡ s.id
reserved_id s p same = ap (λ (x : Progress). x.id) same.is

-- what another form of the backend entered it entered
pub alike_enters : (scenario : Scenario) (old new : List Entry) (had has : ℕ → ℕ) (was alike now : Backend) → alike.progress.id ≡ was.progress.id → Enters scenario old new had has alike now → Enters scenario old new had has was now
alike_enters scenario old new had has was alike now same enters = record { makes = subst (MakesEntry scenario old new had has) same enters.makes; id = enters.id ∙ same; agrees = enters.agrees }
