-- After an allowed history a backend whose next act is a write, and that owes nothing, has an allowed next entry: the write, or where a new name is in use, that clash.
use Rattle.std.proofs.Common.{◌≡◌, ◌∙◌, ◌==◌, ◌&&◌, ◌||◌, ℕ, Bool, true, false, Some, None, List, [], ◌∷◌, ◌++◌, append-nil, refl, sym, ap, subst, length, slice_get}
use Rattle.std.specs.List.{list_any, list_all, flat_map, range_with_len}
use Rattle.std.specs.Str.{bytes_eq}
use Rattle.std.proofs.lemmas.Bool.{eq-eqb, both_ways}
use Rattle.std.proofs.lemmas.List.{append_assoc}
use Rattle.std.proofs.lemmas.List.FromFn.{length-range_with_len}
use Rattle.std.proofs.lemmas.Slice.Eq.{bytes_eq-Decides}
use Rattle.base_types.specs.Scans.{selects}
use Rattle.base_types.specs.declared.ids.Xid.{Xid}
use Rattle.base_types.specs.declared.row.Row.TheVariants as rows
use Rattle.base_types.specs.declared.scan.Purpose.TheVariants as scans
use Rattle.event_kinds.specs.declared.entry.Event.TheVariants as events
use Rattle.ddl_effect.specs.Plans.{Act, Lookup, Open, Search, Read, Lock, Write, Plan, Done, Fails, Absent, Do}
use Rattle.ddl_effect.specs.Commands.{plan_of, commands_of}
use Rattle.txn_blocks.specs.Blocks.{refused_by}
use Rattle.history_model.specs.Changing.{is_empty}
use Rattle.history_model.specs.Drawn.{drawn_by, next_oid}
use Rattle.history_model.specs.InUse.{is_row_of}
use Rattle.history_model.specs.Names.{new_names, users_of}
use Rattle.history_model.specs.Transactions.{xid_for}
use Rattle.history_model.specs.Versions.{answer_of}
use Rattle.history_model.specs.Writes.{is_free, IsWriteAllowed}
use Rattle.history_model.proofs.Allows.{unwritten_last}
use Rattle.history_model.proofs.Covering.{told_covers}
use Rattle.history_model.proofs.Every.{every-weaker}
use Rattle.history_model.proofs.GivenRows.{given_seen}
use Rattle.cacheless.specs.Types.{Row, Purpose, Item, Opening, Draft, Scenario, Command, Entry, Event}
use Rattle.cacheless.specs.ActsDone.{reached, made_in, opening_by, after_given, IsStill, AreStill}
use Rattle.cacheless.specs.Facts.{Facts, facts_of}
use Rattle.cacheless.specs.OnCourse.{OnItsWay, IsOnCourse, CourseOf}
use Rattle.cacheless.specs.Work.{work_of}
use Rattle.cacheless.specs.Owed.{owed_in}
use Rattle.cacheless.specs.Played.{IsPlayed}
use Rattle.cacheless.specs.Plays.{drafted, IsWrite, IsClash, MayPlayIn}
use Rattle.cacheless.specs.Puts.{AreGivenBy, PutsOpened}
use Rattle.cacheless.specs.Session.{Session, held_before, plan_admitted, number_of}
use Rattle.cacheless.specs.Settled.{opened_by}
use Rattle.cacheless.proofs.Deciding.{all_names}
use Rattle.cacheless.proofs.Allowed.AllowedHistories.{allowed_played, allowed_on_course}
use Rattle.cacheless.proofs.Allowed.NamesRead.{read_as_now}
use Rattle.cacheless.proofs.Allowed.NextEntries.{HasNext, IsFree, free_lives, free_next}
use Rattle.cacheless.proofs.Allowed.NextKeeps.{spelled_at}
use Rattle.cacheless.proofs.Plans.SilentActs.{on_its_way, unrefused}
use Rattle.cacheless.proofs.Written.DraftFits.{WriteFits}
use Rattle.cacheless.proofs.Written.NamesGiven.{AreReadAsNow}
use Rattle.cacheless.proofs.Written.Putting.{puts_first}
use Rattle.cacheless.proofs.Written.WriteFits.{write_fits}

-- the answer of a scan has rows such as it asks for
answer_asked : (history : List Entry) (b : ℕ) (scan : Purpose) → AreGivenBy scan (answer_of history b scan)
answer_asked history b scan = every-weaker _ (λ row. selects scan row ≡ true) (λ row h. h.1) (answer_of history b scan) (given_seen history b scan)

-- after an act whose rows are so still the rest of a plan puts no other relation's row
puts_further : (history : List Entry) (b : ℕ) (opened : List Opening) (act : Act) (rest : List Row → Plan) (given : List Row) → PutsOpened opened (Do act rest) → IsStill (answer_of history b) act rest given → PutsOpened (opened ++ opened_by act) (after_given given (Do act rest))
puts_further history b opened (Lookup name mode) rest given puts still = puts given (opened ++ [])
puts_further history b opened (Open rel kind) rest given puts still = puts given
puts_further history b opened (Search scan) rest given puts still = subst (λ l. PutsOpened l (rest given)) (sym (append-nil opened)) (subst (PutsOpened opened) (sym still) (puts (answer_of history b scan) (answer_asked history b scan)))
puts_further history b opened (Read scan) rest given puts still = subst (λ l. PutsOpened l (rest given)) (sym (append-nil opened)) (subst (PutsOpened opened) (sym still) (puts (answer_of history b scan) (answer_asked history b scan)))
puts_further history b opened (Lock rel mode) rest given puts still = subst (λ l. PutsOpened l (rest given)) (sym (append-nil opened)) (puts given)
puts_further history b opened (Write draft) rest given puts still = subst (λ l. PutsOpened l (Do (Write draft) rest)) (sym (append-nil opened)) puts

-- so it does after the acts on its way
puts_way : (history : List Entry) (b : ℕ) (gave : List (List Row)) (opened : List Opening) (plan : Plan) → PutsOpened opened plan → AreStill (answer_of history b) plan gave → PutsOpened (opened ++ made_in opening_by gave plan) (reached gave plan)
puts_way history b [] opened plan puts still = subst (λ l. PutsOpened l plan) (sym (append-nil opened)) puts
puts_way history b (given ∷ gave) opened (Do act rest) puts still = subst (λ l. PutsOpened l (reached gave (after_given given (Do act rest)))) (append_assoc opened (opened_by act) (made_in opening_by gave (after_given given (Do act rest))))
    (puts_way history b gave (opened ++ opened_by act) (after_given given (Do act rest)) (puts_further history b opened act rest given puts still.0) still.1)
puts_way history b (given ∷ gave) opened (Done told) puts still = puts_way history b gave opened (Done told) tt still.1
puts_way history b (given ∷ gave) opened (Fails error) puts still = puts_way history b gave opened (Fails error) tt still.1
puts_way history b (given ∷ gave) opened (Absent name) puts still = puts_way history b gave opened (Absent name) tt still.1

-- one of these names is in use
record IsTaken (history : List Entry) (b : ℕ) (names : List (List ℕ)) : Type 0 where
  name : List ℕ
  among : list_any (bytes_eq name) names ≡ true
  used : is_free history b name ≡ false

some_taken : (history : List Entry) (b : ℕ) (names : List (List ℕ)) → list_all (is_free history b) names ≡ false → IsTaken history b names
some_taken history b [] taken = absurd (cc taken)
some_taken history b (name ∷ names) taken = by_name (is_free history b name) refl taken (λ is. some_taken history b names is)
  where
    or_later : (t : Bool) {u : Bool} → u ≡ true → (t || u) ≡ true
    or_later true is = refl
    or_later false is = is

    by_name : (t : Bool) → is_free history b name ≡ t → (t && list_all (is_free history b) names) ≡ false → (list_all (is_free history b) names ≡ false → IsTaken history b names) → IsTaken history b (name ∷ names)
    by_name false used is more = record { name = name; among = ap (λ t. t || list_any (bytes_eq name) names) ((bytes_eq-Decides name name).1 refl); used = used }
    by_name true used is more = let later = more is in record { name = later.name; among = or_later (bytes_eq later.name name) later.among; used = later.used }

-- a name that is in use clashes: with a running transaction, or with a relation that is seen
clash_next : (scenario : Scenario) (history : List Entry) (b : ℕ) (s : Session) (command : Command) (name : List ℕ) → IsFree scenario history b s → slice_get (commands_of scenario b) (length s.finished) ≡ Some command → owed_in (facts_of history b) command (work_of s) ≡ []
    → IsClash (facts_of history b) s.left name → is_free history b name ≡ false → HasNext scenario history b
clash_next scenario history b s command name free at none clashes used = by_users (users_of history b name) refl
  where
    makes : (event : Event) → MayPlayIn (next_oid history) (facts_of history b) (Some command) s event → MayPlayIn (next_oid history) (facts_of history b) (slice_get (commands_of scenario b) (length s.finished)) s event
    makes event may = subst (λ o. MayPlayIn (next_oid history) (facts_of history b) o s event) (sym at) may

    by_row : (row : Row) (more : List Row) → answer_of history b (scans.RelName name) ≡ row ∷ more → selects (scans.RelName name) row ≡ true → users_of history b name ≡ [] → HasNext scenario history b
    by_row (rows.Class rel own kind fill) more gave asked unused = free_next scenario history b s (events.ClashRow name rel) free tt
        (unused, ap (list_any (is_row_of rel)) gave ∙ ap (λ t. t || list_any (is_row_of rel) more) (eq-eqb rel.0 rel.0 refl)) tt tt (makes (events.ClashRow name rel) (none, clashes))
    by_row (rows.Att rel num own col_type stat live) more gave asked unused = absurd (cc asked)
    by_row (rows.Def oid rel num word) more gave asked unused = absurd (cc asked)
    by_row (rows.Ind index table state nums) more gave asked unused = absurd (cc asked)
    by_row (rows.Con oid rel own valid what) more gave asked unused = absurd (cc asked)
    by_row (rows.Trg oid rel own on) more gave asked unused = absurd (cc asked)

    by_answer : (given : List Row) → answer_of history b (scans.RelName name) ≡ given → AreGivenBy (scans.RelName name) given → users_of history b name ≡ [] → HasNext scenario history b
    by_answer [] gave asked unused = absurd (both_ways _ used (λ i. is_empty (unused i) && is_empty (gave i)))
    by_answer (row ∷ more) gave asked unused = by_row row more gave asked.0 unused

    by_users : (users : List ℕ) → users_of history b name ≡ users → HasNext scenario history b
    by_users [] unused = by_answer (answer_of history b (scans.RelName name)) refl (answer_asked history b (scans.RelName name)) unused
    by_users (user ∷ more) are = free_next scenario history b s (events.ClashRunning name (record { 0 = user })) free tt
        (ap (list_any (λ u. u == user)) are ∙ ap (λ t. t || list_any (λ u. u == user) more) (eq-eqb user user refl)) tt tt (makes (events.ClashRunning name (record { 0 = user })) (none, clashes))

-- a write that is next comes, or a clash
pub write_next : (scenario : Scenario) (history : List Entry) (b : ℕ) (s : Session) (command : Command) (draft : Draft) (rest : List Row → Plan) → IsFree scenario history b s → slice_get (commands_of scenario b) (length s.finished) ≡ Some command → owed_in (facts_of history b) command (work_of s) ≡ []
    → s.left ≡ Do (Write draft) rest → HasNext scenario history b
write_next scenario history b s command draft rest free at none left = by_names (list_all (is_free history b) (new_names history b items)) refl
  where
    facts : Facts
    facts = facts_of history b

    items : List Item
    items = drafted (next_oid history) draft

    played : IsPlayed scenario history
    played = allowed_played scenario history free.spelled free.allowed

    course : IsOnCourse scenario history b s
    course = subst (CourseOf scenario history b) free.is (allowed_on_course scenario history free.spelled free.allowed b)

    way : OnItsWay history b s command
    way = on_its_way history b s command (Write draft) rest (course.follows command at) left

    opened : List Opening
    opened = made_in opening_by way.gave (plan_of s.opens command)

    suits : WriteFits history b (number_of s) facts opened draft
    suits = write_fits history b (number_of s) facts s.opens command way.gave draft rest played.sound played.columns played.indexes (spelled_at scenario b (length s.finished) command free.spelled at) way.holds (sym way.plan ∙ left)

    read : AreReadAsNow history b facts opened
    read = read_as_now scenario history b s command draft rest played free.is course at left none way

    admitted : refused_by s.blocks command ≡ None
    admitted = (course.follows command at).admitted (unrefused history b s command (Write draft) rest (course.follows command at) left)

    puts : PutsOpened (held_before s ++ opened) (Do (Write draft) rest)
    puts = subst (PutsOpened (held_before s ++ opened)) (sym way.plan ∙ left)
        (puts_way history b way.gave (held_before s) (plan_of s.opens command) (subst (λ e. PutsOpened (held_before s) (plan_admitted s.opens e command)) admitted (puts_first (held_before s) s.opens s.blocks (Some command))) way.holds.still)

    xid : Xid
    xid = record { 0 = xid_for history b }

    oids : flat_map drawn_by items ≡ range_with_len (next_oid history) (length (flat_map drawn_by items))
    oids = suits.fit.oids ∙ ap (range_with_len (next_oid history)) (sym (ap length suits.fit.oids ∙ length-range_with_len (next_oid history) draft.new_oids))

    allows : list_all (is_free history b) (new_names history b items) ≡ true → IsWriteAllowed history b (number_of s) xid items
    allows unused = record {
      xid_is = refl;
      oids = oids;
      keys = suits.fit.keys;
      there = suits.fit.there;
      kinds = suits.fit.kinds;
      only = unwritten_last history b (number_of s) way.unwritten;
      free = unused;
      guarded = suits.fit.guarded;
      covered = told_covers history b (number_of s) xid items played.sound (record {
        hidden = free.hidden;
        xid_is = refl;
        oids = oids;
        keys = suits.fit.keys;
        there = suits.fit.there;
        guarded = suits.fit.guarded;
        orderly = suits.fit.orderly;
        life = free_lives scenario history b s (events.Write xid items) free tt;
      });
    }

    by_names : (t : Bool) → list_all (is_free history b) (new_names history b items) ≡ t → HasNext scenario history b
    by_names true unused = free_next scenario history b s (events.Write xid items) free tt (allows unused) tt tt
        (subst (λ o. MayPlayIn (next_oid history) facts o s (events.Write xid items)) (sym at) (none, subst (λ p. IsWrite (next_oid history) p items) (sym left) refl))
    by_names false used = let taken = some_taken history b (new_names history b items) used in clash_next scenario history b s command taken.name free at none
        (subst (λ p. IsClash facts p taken.name) (sym left) (sym (ap (list_any (bytes_eq taken.name)) (all_names facts (held_before s ++ opened) (next_oid history) draft.new_oids draft.changes draft.forced puts.0)) ∙ suits.names read taken.name taken.among)) taken.used
