-- A command that does what its plan says still does after one more entry of another backend, or of its own that is no write, release or taking back.
use Rattle.std.proofs.Common.{◌≡◌, ◌+◌, ◌<◌, ◌∙◌, ℕ, Bool, true, false, Option, None, Some, List, [], ◌∷◌, ◌++◌, ◌==◌, ◌&&◌, ◌||◌, refl, sym, ap, subst, length, arith}
use Rattle.std.proofs.Math.Bool.{and-false, or-false}
use Rattle.std.proofs.lemmas.Bool.{ne_eqb}
use Rattle.base_types.specs.declared.scan.Purpose.TheVariants as scans
use Rattle.event_kinds.specs.declared.entry.Event.TheVariants as events
use Rattle.ddl_effect.specs.Plans.{Plan, Absent}
use Rattle.ddl_effect.specs.Commands.{plan_of}
use Rattle.history_model.specs.MayFollow.{FollowsGone}
use Rattle.history_model.specs.Lives.{last_event_of}
use Rattle.history_model.specs.Read.{is_scan_of, rows_read}
use Rattle.history_model.specs.Versions.{answer_of}
use Rattle.history_model.specs.Transactions.{has_written, is_write}
use Rattle.history_model.proofs.Locked.{IsQuiet, IsIdle}
use Rattle.history_model.proofs.Reading.{has_written-more, rows_read-own, rows_read-other}
use Rattle.cacheless.specs.Types.{Row, Purpose, Command, OpenRelation, Told, Entry, Event}
use Rattle.cacheless.specs.ActsDone.{locks_by, reached, made_in, opening_by, WayHolds}
use Rattle.cacheless.specs.OnCourse.{TakesNew, OnItsWay, is_over, Way, Begun, Wrote, Over, NamedFits, WasSought, DoesNoAct, StillHolds, FollowsPlan}
use Rattle.txn_blocks.specs.Blocks.{refused_by}
use Rattle.cacheless.specs.Session.{Session, held_in, held_before, number_of, outcome_of, is_settled}
use Rattle.cacheless.specs.Settled.{class_oid, found_by}
use Rattle.cacheless.proofs.Plans.ActOrder.{follows_order}
pub use Rattle.cacheless.proofs.Plans.StillUnder.{MayCome}
use Rattle.cacheless.proofs.Plans.StillUnder.{way_stays}

-- the commands in which a backend has written, after an entry that is no write
pub has_written-quiet : (history : List Entry) (e : Entry) (b c : ℕ) → is_write e.event ≡ false → has_written (history ++ e ∷ []) b c ≡ has_written history b c
has_written-quiet history e b c quiet = has_written-more history e b c ∙ ap (λ t. has_written history b c || ((e.backend == b) && (e.command == c) && t)) quiet ∙ ap (λ t. has_written history b c || t) (and-false ((e.backend == b) && (e.command == c))) ∙ or-false (has_written history b c)

-- and after another's
pub has_written-other : (history : List Entry) (e : Entry) (b c : ℕ) → (e.backend == b) ≡ false → has_written (history ++ e ∷ []) b c ≡ has_written history b c
has_written-other history e b c other = has_written-more history e b c ∙ ap (λ t. has_written history b c || (t && (e.command == c) && is_write e.event)) other ∙ or-false (has_written history b c)

-- no later command has written, after any entry of an earlier one
pub has_written-earlier : (history : List Entry) (e : Entry) (b c : ℕ) → e.command < c → has_written history b c ≡ false → has_written (history ++ e ∷ []) b c ≡ false
has_written-earlier history e b c earlier none = has_written-more history e b c
    ∙ (λ i. none i || ((e.backend == b) && ne_eqb e.command c (λ same. absurd (omega (arith, same, earlier))) i && is_write e.event)) ∙ ap (λ t. t && is_write e.event) (and-false (e.backend == b))

-- what the last scan for a purpose gave, after an entry that isn't this scan
pub rows_read-unscanned : (history : List Entry) (e : Entry) (b : ℕ) (scan : Purpose) → is_scan_of scan e.event ≡ false → rows_read (history ++ e ∷ []) b scan ≡ rows_read history b scan
rows_read-unscanned history e b scan others = by_owner (e.backend == b) refl
  where
    by_owner : (t : Bool) → (e.backend == b) ≡ t → rows_read (history ++ e ∷ []) b scan ≡ rows_read history b scan
    by_owner true own = rows_read-own history e b scan own ∙ ap (λ t. elim t [ true ↦ answer_of history b scan | false ↦ rows_read history b scan ]) others
    by_owner false other = rows_read-other history e b scan other

-- a session that is as far in its command
pub record IsAfter (s later : Session) : Type 0 where
  pub left : later.left ≡ s.left
  pub refused : later.refused ≡ s.refused
  pub opens : later.opens ≡ s.opens
  pub opened : later.opened ≡ s.opened
  pub found : later.found ≡ s.found
  pub sought : later.sought ≡ s.sought
  pub finished : later.finished ≡ s.finished
  pub blocks : later.blocks ≡ s.blocks
  pub taken : later.taken ≡ s.taken

-- the same but for what its lookup has newly locked
pub record IsAfterTaking (s later : Session) : Type 0 where
  pub left : later.left ≡ s.left
  pub opens : later.opens ≡ s.opens
  pub opened : later.opened ≡ s.opened
  pub found : later.found ≡ s.found
  pub finished : later.finished ≡ s.finished
  pub blocks : later.blocks ≡ s.blocks

pub but_taken : (s later : Session) → IsAfter s later → IsAfterTaking s later
but_taken s later after = record { left = after.left; opens = after.opens; opened = after.opened; found = after.found; finished = after.finished; blocks = after.blocks }

-- the same where its release may have closed what was open
pub record IsAfterEnd (s later : Session) : Type 0 where
  pub left : later.left ≡ s.left
  pub refused : later.refused ≡ s.refused
  pub opens : later.opens ≡ s.opens
  pub opened : later.ended ≡ false → (s.ended ≡ false) × (later.opened ≡ s.opened)
  pub found : later.found ≡ s.found
  pub sought : later.sought ≡ s.sought
  pub finished : later.finished ≡ s.finished
  pub blocks : later.blocks ≡ s.blocks
  pub taken : later.taken ≡ s.taken

pub before_end : (s later : Session) → IsAfter s later → later.ended ≡ s.ended → IsAfterEnd s later
before_end s later after same = record {
  left = after.left;
  refused = after.refused;
  opens = after.opens;
  opened = λ going. (sym same ∙ going, after.opened);
  found = after.found;
  sought = after.sought;
  finished = after.finished;
  blocks = after.blocks;
  taken = after.taken;
}

-- what was held as its command began is the same
pub held_same : (s later : Session) → later.opens ≡ s.opens → later.blocks ≡ s.blocks → held_before s ≡ held_before later
held_same s later opens blocks = λ i. held_in (sym blocks i).block (sym opens i)

-- its plan is the same
pub plan_same : (s later : Session) (command : Command) → later.opens ≡ s.opens → plan_of s.opens command ≡ plan_of later.opens command
plan_same s later command same = ap (λ opens. plan_of opens command) (sym same)

-- it isn't a write of the backend
abbrev pub LeavesWrites : List Entry → Entry → ℕ → Type 0
LeavesWrites history e b = (c : ℕ) → has_written (history ++ e ∷ []) b c ≡ has_written history b c

-- it isn't a scan of a name by the backend
abbrev pub LeavesNames : List Entry → Entry → ℕ → Type 0
LeavesNames history e b = (name : List ℕ) → rows_read (history ++ e ∷ []) b (scans.RelName name) ≡ rows_read history b (scans.RelName name)

number_same : (s later : Session) → IsAfter s later → number_of later ≡ number_of s
number_same s later after = ap (λ l. length l + 1) after.finished

-- a command that has taken no writes back and released nothing, where what holds on its way holds, and what its lookup has newly locked is new
pub begun-more : (history : List Entry) (e : Entry) (b : ℕ) (s later : Session) (command : Command) → LeavesWrites history e b → IsAfterTaking s later → (way : OnItsWay history b s command) → WayHolds (history ++ e ∷ []) b way.gave (plan_of s.opens command)
    → TakesNew (made_in locks_by way.gave (plan_of s.opens command)) s.left later.taken → OnItsWay (history ++ e ∷ []) b later command
begun-more history e b s later command writes after way holds newly = record {
  gave = way.gave;
  plan = after.left ∙ way.plan ∙ ap (reached way.gave) (plan_same s later command after.opens);
  found = after.found ∙ way.found ∙ ap (made_in found_by way.gave) (plan_same s later command after.opens);
  opened = after.opened ∙ way.opened ∙ (λ i. held_same s later after.opens after.blocks i ++ made_in opening_by way.gave (plan_same s later command after.opens i));
  holds = subst (WayHolds (history ++ e ∷ []) b way.gave) (plan_same s later command after.opens) holds;
  newly = subst (λ p. TakesNew (made_in locks_by way.gave (plan_of later.opens command)) p later.taken) (sym after.left) (subst (λ p. TakesNew (made_in locks_by way.gave p) s.left later.taken) (plan_same s later command after.opens) newly);
  unwritten = ap (λ l. has_written (history ++ e ∷ []) b (length l + 1)) after.finished ∙ writes (number_of s) ∙ way.unwritten;
}

-- after an entry that gives nothing back
begun_idle : (history : List Entry) (e : Entry) (b : ℕ) (s later : Session) (command : Command) → MayCome history e → IsIdle b history e → LeavesWrites history e b → IsAfter s later → OnItsWay history b s command → OnItsWay (history ++ e ∷ []) b later command
begun_idle history e b s later command may idle writes after way = begun-more history e b s later command writes (but_taken s later after) way
    (way_stays history e b way.gave (plan_of s.opens command) may idle (follows_order s.opens command) way.holds)
    (subst (TakesNew (made_in locks_by way.gave (plan_of s.opens command)) s.left) (sym after.taken) way.newly)

-- how far it is
pub way-more : (history : List Entry) (e : Entry) (b : ℕ) (s later : Session) (command : Command) → MayCome history e → IsIdle b history e → LeavesWrites history e b → (is_over (last_event_of history b) s ≡ true → is_over (last_event_of (history ++ e ∷ []) b) later ≡ true) → IsAfter s later
    → Way history b s command → Way (history ++ e ∷ []) b later command
way-more history e b s later command may idle writes over after (Begun way) = Begun (begun_idle history e b s later command may idle writes after way)
way-more history e b s later command may idle writes over after (Wrote w) = Wrote (record {
  gave = w.gave;
  draft = w.draft;
  further = w.further;
  came = ap (reached w.gave) (sym (plan_same s later command after.opens)) ∙ w.came;
  plan = after.left ∙ w.plan;
  written = ap (has_written (history ++ e ∷ []) b) (number_same s later after) ∙ writes (number_of s) ∙ w.written;
})
way-more history e b s later command may idle writes over after (Over w) = Over (record { out = ap (λ p. is_settled (outcome_of p)) after.left ∙ w.out; over = over w.over })

-- what the scan of a name gave
pub named-more : (history : List Entry) (e : Entry) (b : ℕ) (plan : Plan) → LeavesNames history e b → NamedFits history b plan → NamedFits (history ++ e ∷ []) b plan
named-more history e b (Absent name) names fits = ap class_oid (names name) ∙ fits
named-more history e b plan names fits = tt

-- what held on the way of a command before its last lookup goes on to hold
abbrev pub HoldsOn : List Entry → Entry → ℕ → Session → Session → Type 0
HoldsOn history e b s later = (gave : List (List Row)) (opens : List OpenRelation) (command : Command) → (is_over (last_event_of history b) s ≡ false → WayHolds history b gave (plan_of opens command))
    → is_over (last_event_of (history ++ e ∷ []) b) later ≡ false → WayHolds (history ++ e ∷ []) b gave (plan_of opens command)

-- so it does after an entry that takes nothing back
pub idle_holds : (history : List Entry) (e : Entry) (b : ℕ) (s later : Session) → MayCome history e → IsIdle b history e → (is_over (last_event_of history b) s ≡ true → is_over (last_event_of (history ++ e ∷ []) b) later ≡ true) → HoldsOn history e b s later
idle_holds history e b s later may idle over gave opens command holds going = by_test (is_over (last_event_of history b) s) refl
  where
    by_test : (t : Bool) → is_over (last_event_of history b) s ≡ t → WayHolds (history ++ e ∷ []) b gave (plan_of opens command)
    by_test true is = absurd (let both : true ≡ false = sym (over is) ∙ going in cc both)
    by_test false is = way_stays history e b gave (plan_of opens command) may idle (follows_order opens command) (holds is)

-- a command that failed to find a relation
pub sought-more : (history : List Entry) (e : Entry) (b : ℕ) (s later : Session) (command : Command) (name : List ℕ) → LeavesWrites history e b → IsAfterEnd s later → HoldsOn history e b s later → WasSought history b s command name → WasSought (history ++ e ∷ []) b later command name
sought-more history e b s later command name writes after holds was = record {
  gave = was.gave;
  mode = was.mode;
  rest = was.rest;
  looks = after.sought ∙ was.looks;
  plan = after.sought ∙ was.plan ∙ ap (reached was.gave) same;
  found = after.found ∙ was.found ∙ ap (λ p. made_in found_by was.gave p ++ None ∷ []) same;
  opened = λ going. let still = after.opened going in still.1 ∙ was.opened still.0 ∙ (λ i. held_same s later after.opens after.blocks i ++ made_in opening_by was.gave (same i));
  holds = λ going. subst (WayHolds (history ++ e ∷ []) b was.gave) same (holds was.gave s.opens command was.holds going);
  taken = after.taken ∙ was.taken;
  unwritten = ap (λ l. has_written (history ++ e ∷ []) b (length l + 1)) after.finished ∙ writes (number_of s) ∙ was.unwritten;
}
  where
    same : plan_of s.opens command ≡ plan_of later.opens command
    same = plan_same s later command after.opens

-- a command that does no act
pub plain-more : (s later : Session) (told : Told) → IsAfterEnd s later → DoesNoAct s told → DoesNoAct later told
plain-more s later told after none = record {
  opened = λ going. let still = after.opened going in still.1 ∙ none.opened still.0 ∙ held_same s later after.opens after.blocks;
  left = λ well. after.left ∙ none.left (ap outcome_of (sym after.left) ∙ well);
}

-- what the blocks say of a command that shows no error
pub admitted-more : (s later : Session) (command : Command) → IsAfterEnd s later → (s.refused ≡ None → refused_by s.blocks command ≡ None) → later.refused ≡ None → refused_by later.blocks command ≡ None
admitted-more s later command after admitted none = ap (λ b. refused_by b command) after.blocks ∙ admitted (sym after.refused ∙ none)

-- what was held is held
pub holds-more : (s later : Session) → IsAfterEnd s later → (s.ended ≡ false → StillHolds s) → later.ended ≡ false → StillHolds later
holds-more s later after held going = let still = after.opened going in let was = held still.0 in record { more = was.more; opened = still.1 ∙ was.opened ∙ ap (λ l. l ++ was.more) (held_same s later after.opens after.blocks) }

-- the running command as a whole
pub follows-more : (history : List Entry) (e : Entry) (b : ℕ) (s later : Session) (command : Command) → MayCome history e → IsIdle b history e → LeavesWrites history e b → LeavesNames history e b
    → (is_over (last_event_of history b) s ≡ true → is_over (last_event_of (history ++ e ∷ []) b) later ≡ true) → IsAfter s later → later.ended ≡ s.ended → FollowsPlan history b s command → FollowsPlan (history ++ e ∷ []) b later command
follows-more history e b s later command may idle writes names over after same follows = record {
  refused = λ error is. after.left ∙ follows.refused error (sym after.refused ∙ is);
  way = λ none. way-more history e b s later command may idle writes over after (follows.way (sym after.refused ∙ none));
  named = subst (NamedFits (history ++ e ∷ []) b) (sym after.left) (named-more history e b s.left names follows.named);
  sought = λ name is. sought-more history e b s later command name writes (before_end s later after same) (idle_holds history e b s later may idle over) (follows.sought name (sym after.left ∙ is));
  plain = λ told none. plain-more s later told (before_end s later after same) (follows.plain told (plan_same s later command after.opens ∙ none));
  admitted = admitted-more s later command (before_end s later after same) follows.admitted;
  held = holds-more s later (before_end s later after same) follows.held;
  unwritten = λ told none. ap (has_written (history ++ e ∷ []) b) (number_same s later after) ∙ writes (number_of s) ∙ follows.unwritten told (plan_same s later command after.opens ∙ none);
}

-- after a taking back only the release comes
pub over_before : (last : Option Event) (event : Event) (s : Session) → FollowsGone last event → IsQuiet event → is_over last s ≡ true → s.ended ≡ true
over_before (Some (events.Gone from)) (events.Release to) s gone quiet over = absurd quiet
over_before (Some (events.Gone from)) event s gone quiet over = absurd gone
over_before last event s gone quiet over = over

over_after : (event : Event) (later : Session) → IsQuiet event → later.ended ≡ true → is_over (Some event) later ≡ true
over_after (events.Gone from) later quiet ended = absurd quiet
over_after event later quiet ended = ended

-- so a command that is over stays so with each further entry
pub over_stays : (last : Option Event) (event : Event) (s later : Session) → FollowsGone last event → IsQuiet event → later.ended ≡ s.ended → is_over last s ≡ true → is_over (Some event) later ≡ true
over_stays last event s later gone quiet same over = over_after event later quiet (same ∙ over_before last event s gone quiet over)
