-- Which lock entries the history allows, and what an unlock needs.
use Rattle.std.proofs.Common.{◌≡◌, ◌<◌, ◌∙◌, ◌==◌, ℕ, true, List, Ok, Err, sym, ap, subst}
use Rattle.std.specs.Option.{option_map}
use Rattle.std.proofs.lemmas.Bool.{and_parts}
use Rattle.base_types.specs.declared.ids.Oid.{Oid}
use Rattle.base_types.specs.declared.mode.Mode.{Mode}
use Rattle.event_kinds.specs.declared.entry.Entry.{Entry}
use Rattle.event_kinds.specs.declared.entry.Event.TheVariants.{LockOk, LockHeld, Unlock}
use Rattle.lock_modes.specs.declared.grant.Grant.{Grant}
use Rattle.lock_modes.specs.declared.granted.Granted.{Granted}
use Rattle.lock_modes.specs.declared.granted.Granted.TheVariants.{New}
use Rattle.lock_modes.specs.declared.granted.LockRefusal.{LockRefusal}
use Rattle.lock_modes.specs.declared.granted.LockRefusal.TheVariants.{Conflict, NoMemory}
use Rattle.lock_modes.specs.Grants.{is_lock, holds, first_conflict}
use Rattle.lock_modes.specs.Requests.{Grants, IsRefused, Requests, RunsOut}
use Rattle.history_model.specs.Drawn.{next_oid}
use Rattle.history_model.specs.Held.{held_of}
use Rattle.history_model.specs.MayFollow.{AllowsEvent}
use Rattle.history_model.specs.Allows.{is_lock_of}
use Rattle.history_model.proofs.Every.{any-weaker}
use Rattle.seg_calls.specs.Calls.{entry_of, MayCall}
use Rattle.shared_seg.specs.Kept.{Kept}
use Rattle.shared_seg.proofs.Entered.{call_inside}

-- what a request for a lock needs, of the parts
pub drawn_inside : (k now : Kept) (rel : Oid) → k ≡ now → rel.0 < next_oid now.history → rel.0 < next_oid k.history
drawn_inside k now rel is drawn = subst (λ (x : Kept). rel.0 < next_oid x.history) (sym is) drawn

-- what an answer says of what is held
pub granted : (locks locked : List Grant) (g : Grant) (answer : Granted) → answer ≡ New → Requests locks locked g (Ok answer) → Grants locks locked g
granted locks locked g answer is requests = subst (λ a. Requests locks locked g (Ok a)) is requests

pub refused : (locks locked : List Grant) (g : Grant) (answer : LockRefusal) (holder : ℕ) (mode : Mode) → answer ≡ Conflict holder mode → Requests locks locked g (Err answer) → IsRefused locks locked g holder mode
refused locks locked g answer holder mode is requests = subst (λ a. Requests locks locked g (Err a)) is requests

pub ran_out : (locks locked : List Grant) (g : Grant) (answer : LockRefusal) → answer ≡ NoMemory → Requests locks locked g (Err answer) → RunsOut locks locked g
ran_out locks locked g answer is requests = subst (λ a. Requests locks locked g (Err a)) is requests

-- a lock that is granted
pub allows_lock : (history : List Entry) (locks locked : List Grant) (b c : ℕ) (rel : Oid) (mode : Mode) → locks ≡ held_of history → Grants locks locked (record { backend = b; command = c; rel = rel; mode = mode }) → AllowsEvent history b c (LockOk rel mode)
allows_lock history locks locked b c rel mode same grants = (ap (λ gs. holds gs b rel mode) (sym same) ∙ grants.unheld, ap (λ gs. first_conflict gs b rel mode) (sym same) ∙ grants.free)

-- a lock that is refused
pub allows_refusal : (history : List Entry) (locks locked : List Grant) (b c : ℕ) (rel : Oid) (mode : Mode) (holder : ℕ) (held : Mode) → locks ≡ held_of history
    → IsRefused locks locked (record { backend = b; command = c; rel = rel; mode = mode }) holder held → AllowsEvent history b c (LockHeld rel mode holder held)
allows_refusal history locks locked b c rel mode holder held same refused =
    (ap (λ gs. holds gs b rel mode) (sym same) ∙ refused.unheld, ap (λ gs. option_map {U = ℕ × Mode} (λ g. (g.backend, g.mode)) (first_conflict gs b rel mode)) (sym same) ∙ refused.first)

-- a lock that is unlocked is held
pub unlock_needs : (k now : Kept) (locks : List Grant) (b c : ℕ) (rel : Oid) (mode : Mode) → k ≡ now → locks ≡ held_of k.history → MayCall now.script now.history (entry_of b c (Unlock rel mode)) → holds locks b rel mode ≡ true
unlock_needs k now locks b c rel mode is same call =
    let inside : MayCall k.script k.history (entry_of b c (Unlock rel mode)) = call_inside k now (entry_of b c (Unlock rel mode)) is call in
    ap (λ gs. holds gs b rel mode) same
    ∙ any-weaker (is_lock_of b c rel mode) (is_lock b rel mode) (λ g lock. (and_parts (is_lock b rel mode g) (g.command == c) lock).0) (held_of k.history) inside.follows.event.0
