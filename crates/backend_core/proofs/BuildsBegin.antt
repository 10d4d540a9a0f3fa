-- Of the scans for a descriptor that of its relation's row comes first: while another one is usable, so is that.
use Rattle.std.proofs.Common.{◌≡◌, ◌∙◌, ◌==◌, ◌&&◌, ◌||◌, ◌⊎◌, inl, inr, ℕ, Bool, true, false, not, Option, Some, None, List, [], ◌∷◌, ◌++◌, cond, refl, sym, ap, subst, length, take, slice_get, if◌then◌else◌, ◌+◌}
use Rattle.std.specs.Prelude.{⊤}
use Rattle.std.specs.List.{flat_map, list_any, AllByRecursion}
use Rattle.std.proofs.lemmas.Bool.{or_cases, or_left, or_right, and_parts, and_from, eqb-true}
use Rattle.std.proofs.lemmas.List.Folds.{list_any-append}
use Rattle.base_types.specs.Scans.{same_scan, scan_key, is_build_scan, build_scans}
use Rattle.base_types.specs.declared.kind.Kind.TheVariants.{Table, Index}
use Rattle.base_types.specs.declared.row.Row.TheVariants as rows
use Rattle.base_types.specs.declared.scan.Purpose.TheVariants as scans
use Rattle.base_types.proofs.SameScan.{same_scan-true, same_scan-itself}
use Rattle.event_kinds.specs.declared.entry.Event.TheVariants as events
use Rattle.inval_messages.specs.Messages.{is_spared}
use Rattle.inval_messages.specs.Lists.{lists_from, sent_in}
use Rattle.ddl_effect.specs.declared.told.Told.TheVariants as tells
use Rattle.ddl_effect.specs.Plans.{Plan, Act, Done, Fails, Absent, Do, Lookup, Open, Search, Read, Lock, Write}
use Rattle.ddl_effect.specs.Commands.{plan_of, found, commands_of}
use Rattle.txn_blocks.specs.Blocks.{Blocks, no_block, refused_by}
use Rattle.history_model.specs.Drawn.{next_oid}
use Rattle.history_model.specs.Log.{fetched_by}
use Rattle.history_model.specs.Read.{is_usable, usable_by, spares_by}
use Rattle.history_model.specs.Sent.{messages_written, lists_of}
use Rattle.history_model.specs.Changing.{is_empty}
use Rattle.history_model.proofs.Prefixes.{each-keeps, along-keeps}
use Rattle.history_model.proofs.Reading.{is_usable-own, is_usable-other}
use Rattle.cacheless.specs.Types.{OpenRelation}
use Rattle.cacheless.specs.Facts.{Facts, kept_in, facts_of}
use Rattle.cacheless.proofs.Reading.{kept_usable}
use Rattle.cacheless.specs.Work.{work_of}
use Rattle.cacheless.specs.Owed.{owed_first_in, owed_after, missing, act_next, is_next_in}
use Rattle.cacheless.specs.Plays.{MayPlayIn, MayPlayAt, IsNext, Plays}
use Rattle.cacheless.specs.Session.{Session, Outcome, Unsettled, Well, Badly, outcome_of, first_of, none_open, at_command, plan_admitted, plan_first}
use Rattle.cacheless.specs.Sessions.{written, resumed, noted, commands_left, entered, session_by, session_of}
use Rattle.cacheless.specs.Settled.{act_done, done_here, acted_on, acted, is_finished_in, blocks_after, opens_after, next_session, settled}
use Rattle.cacheless.proofs.Allowed.NextOnCourse.{entered_noted}
use Rattle.cacheless.proofs.Plans.ActOrder.{follows_order}
use Rattle.cacheless.proofs.Plans.EffectAlong.{plain_row}
use Rattle.cacheless.proofs.Plans.UnderLocks.{Footing, at_first, with_lock, with_found, with_open, with_rows, FollowsUnfound, FollowsOrder, unfound}
use Rattle.backend_core.specs.Types.{Oid, Kind, Row, Purpose, Command, CommandError, Message, Opening, Scenario, Entry, Event}
use Rattle.backend_core.proofs.Stacking.Lacking.{each_of}
use Rattle.local_caches.specs.Kept.{is_kept}

-- the scan of the row of the relation that a scan names
abbrev pub class_scan : Purpose → Purpose
class_scan scan = scans.Class (record { 0 = (scan_key scan).1 })

-- where a scan for a descriptor is kept, so is that of its relation's row
abbrev pub AreBegun : (Purpose → Bool) → Type 0
AreBegun has = (scan : Purpose) → is_build_scan scan ≡ true → has scan ≡ true → has (class_scan scan) ≡ true

-- messages cover all scans for a descriptor, or none
spared_alike : (scan : Purpose) → is_build_scan scan ≡ true → (messages : List Message) → is_spared scan messages ≡ is_spared (class_scan scan) messages
spared_alike (scans.RelName name) builds messages = absurd (cc builds)
spared_alike (scans.RelOid rel) builds messages = absurd (cc builds)
spared_alike (scans.AttName rel name) builds messages = absurd (cc builds)
spared_alike (scans.AttList rel) builds messages = absurd (cc builds)
spared_alike (scans.Class rel) builds messages = refl
spared_alike (scans.Attribute rel) builds messages = refl
spared_alike (scans.AttrDef rel) builds messages = refl
spared_alike (scans.Constraint rel) builds messages = refl
spared_alike (scans.Index rel) builds messages = refl
spared_alike (scans.Trigger rel) builds messages = refl
spared_alike (scans.IndexRow rel) builds messages = refl

-- and so does an event
spares_alike : (before : List Entry) (b c : ℕ) (scan : Purpose) (event : Event) → is_build_scan scan ≡ true → spares_by before b c scan event ≡ spares_by before b c (class_scan scan) event
spares_alike before b c scan (events.Fetch count) builds = spared_alike scan builds (fetched_by before b count)
spares_alike before b c scan (events.Write xid items) builds = spared_alike scan builds (messages_written before b items)
spares_alike before b c scan (events.Gone from) builds = spared_alike scan builds (sent_in (lists_from from (lists_of before b)))
spares_alike before b c scan event builds = refl

-- what a plan searches for is no scan for a descriptor
abbrev SearchesNamed : Plan → Type 0
SearchesNamed (Do (Search scan) rest) = (is_build_scan scan ≡ false) × ((given : List Row) → SearchesNamed (rest given))
SearchesNamed (Do act rest) = (given : List Row) → SearchesNamed (rest given)
SearchesNamed plan = ⊤

-- a plan under locks searches so
named_follows : (on : Footing) (plan : Plan) → FollowsUnfound on plan → SearchesNamed plan
named_follows on (Do (Lookup name mode) rest) follows = λ given. by_rows given (follows.0 given) (λ rel kind. named_follows (with_found rel kind mode on) (rest (plain_row rel kind)) (unfound (with_found rel kind mode on) (rest (plain_row rel kind)) (follows.1 rel kind)))
  where
    by_rows : (given : List Row) → rest given ≡ found name (λ rel kind. rest (plain_row rel kind)) given → ((rel : Oid) (kind : Kind) → SearchesNamed (rest (plain_row rel kind))) → SearchesNamed (rest given)
    by_rows [] is further = subst SearchesNamed (sym is) tt
    by_rows (rows.Class rel own kind fill ∷ more) is further = subst SearchesNamed (sym is) (further rel kind)
    by_rows (row ∷ more) is further = subst SearchesNamed (sym is) tt
named_follows on (Do (Open rel kind) rest) follows = λ given. subst SearchesNamed (sym (follows.0 given)) (named_follows (with_open rel kind on) (rest []) (unfound (with_open rel kind on) (rest []) follows.1))
named_follows on (Do (Search scan) rest) follows = (follows.2, λ given. named_follows on (rest given) (unfound on (rest given) (follows.1 given)))
named_follows on (Do (Read scan) rest) follows = λ given. named_follows (with_rows given on) (rest given) (unfound (with_rows given on) (rest given) (follows.1 given))
named_follows on (Do (Lock rel mode) rest) follows = λ given. subst SearchesNamed (sym (follows.0 given)) (named_follows (with_lock rel mode on) (rest []) (unfound (with_lock rel mode on) (rest []) follows.1))
named_follows on (Do (Write draft) rest) follows = λ given. subst SearchesNamed (sym (follows.0 given)) tt
named_follows on plan follows = tt

named_order : (plan : Plan) → FollowsOrder plan → SearchesNamed plan
named_order (Do act rest) follows = named_follows at_first (Do act rest) follows
named_order plan follows = tt

-- so does each command from its beginning
named_plan : (opens : List OpenRelation) (command : Command) → SearchesNamed (plan_of opens command)
named_plan opens command = named_order (plan_of opens command) (follows_order opens command)

named_first : (blocks : Blocks) (opens : List OpenRelation) (o : Option Command) → SearchesNamed (plan_first blocks opens o)
named_first blocks opens None = tt
named_first blocks opens (Some command) = by_error (refused_by blocks command)
  where
    by_error : (error : Option CommandError) → SearchesNamed (plan_admitted opens error command)
    by_error None = named_plan opens command
    by_error (Some error) = tt

-- and one act further
named_after : (act : Act) (rest : List Row → Plan) (given : List Row) → SearchesNamed (Do act rest) → SearchesNamed (rest given)
named_after (Search scan) rest given named = named.1 given
named_after (Lookup name mode) rest given named = named given
named_after (Open rel kind) rest given named = named given
named_after (Read scan) rest given named = named given
named_after (Lock rel mode) rest given named = named given
named_after (Write draft) rest given named = named given

-- so does what is left in a session, and what a lookup there goes back to
abbrev IsNamed : Session → Type 0
IsNamed s = SearchesNamed s.left × SearchesNamed s.sought

named_done : (act : Act) (rest : List Row → Plan) (given : List Row) (s : Session) → SearchesNamed (Do act rest) → IsNamed s → IsNamed (act_done act given (rest given) s)
named_done (Lookup name mode) rest given s plan named = (named_after (Lookup name mode) rest given plan, named.0)
named_done (Open rel kind) rest given s plan named = (named_after (Open rel kind) rest given plan, named.1)
named_done (Search scan) rest given s plan named = (named_after (Search scan) rest given plan, named.1)
named_done (Read scan) rest given s plan named = (named_after (Read scan) rest given plan, named.1)
named_done (Lock rel mode) rest given s plan named = (named_after (Lock rel mode) rest given plan, named.1)
named_done (Write draft) rest given s plan named = (named_after (Write draft) rest given plan, named.1)

named_acts : (facts : Facts) (p : Plan) (s : Session) → SearchesNamed p → IsNamed s → IsNamed (acted_on facts p s)
named_acts facts (Done told) s plan named = named
named_acts facts (Fails error) s plan named = named
named_acts facts (Absent name) s plan named = named
named_acts facts (Do act rest) s plan named = by_given (done_here facts s act (Do act rest)) (λ given. named_acts facts (rest given) (act_done act given (rest given) s) (named_after act rest given plan) (named_done act rest given s plan named))
  where
    by_given : (o : Option (List Row)) → ((given : List Row) → IsNamed (acted_on facts (rest given) (act_done act given (rest given) s))) → IsNamed (elim o as (λ x. Session) [ None ↦ s | Some given ↦ acted_on facts (rest given) (act_done act given (rest given) s) ])
    by_given None more = named
    by_given (Some given) more = more given

named_acted : (facts : Facts) (s : Session) (free : Bool) → IsNamed s → IsNamed (elim free as (λ x. Session) [ true ↦ acted_on facts s.left s | false ↦ s ])
named_acted facts s true named = named_acts facts s.left s named.0 named
named_acted facts s false named = named

named_settled : (facts : Facts) (commands : List Command) (s : Session) → IsNamed s → IsNamed (settled facts commands s)
named_settled facts [] s named = named
named_settled facts (command ∷ rest) s named = by_end (is_finished_in facts command (work_of (acted facts command s))) (named_settled facts rest)
  where
    by_end : (t : Bool) → ((x : Session) → IsNamed x → IsNamed (settled facts rest x)) → IsNamed (elim t as (λ x. Session) [ true ↦ settled facts rest (next_session command (first_of rest) (acted facts command s)) | false ↦ acted facts command s ])
    by_end true more = more (next_session command (first_of rest) (acted facts command s)) (named_first (blocks_after command (acted facts command s)) (opens_after command (acted facts command s)) (first_of rest), tt)
    by_end false more = named_acted facts s (is_empty (owed_first_in facts command (work_of s) ++ owed_after facts.due)) named

named_written : (plan : Plan) (s : Session) → SearchesNamed plan → IsNamed s → IsNamed (written plan s)
named_written (Do (Write draft) rest) s plan named = (plan [], named.1)
named_written p s plan named = named

named_resumed : (plan : Plan) (s : Session) → IsNamed s → IsNamed (resumed plan s)
named_resumed (Absent name) s named = (named.1, named.1)
named_resumed plan s named = named

named_noted : (event : Event) (s : Session) → IsNamed s → IsNamed (noted event s)
named_noted (events.LockHeld rel mode holder held) s named = (tt, named.1)
named_noted (events.ClashRow name rel) s named = (tt, named.1)
named_noted (events.ClashRunning name xid) s named = (tt, named.1)
named_noted (events.Write xid items) s named = named_written s.left s named.0 named
named_noted (events.Fetch count) s named = named_resumed s.left s named
named_noted events.FetchReset s named = named_resumed s.left s named
named_noted event s named = named

named_entered : (facts : Facts) (left : List Command) (at c : ℕ) (event : Event) (s : Session) → IsNamed s → IsNamed (entered facts left at c event s)
named_entered facts left at c event s named = let after = (entered_noted facts left at c event s).after in let same = named_noted event s named in
    (subst SearchesNamed (sym after.left) same.0, subst SearchesNamed (sym after.sought) same.1)

-- of a backend that has started
abbrev AreNamed : Option Session → Type 0
AreNamed None = ⊤
AreNamed (Some s) = IsNamed s

named_by : (scenario : Scenario) (facts : Facts) (b at c : ℕ) (event : Event) (old : Option Session) → AreNamed old → AreNamed (session_by scenario facts b at c event old)
named_by scenario facts b at c events.Start old named = named_settled facts (commands_of scenario b) (at_command no_block none_open [] [] at (first_of (commands_of scenario b))) (named_first no_block none_open (first_of (commands_of scenario b)), tt)
named_by scenario facts b at c event None named = tt
named_by scenario facts b at c event (Some s) named = named_settled facts (commands_left scenario b s) (entered facts (commands_left scenario b s) at c event s) (named_entered facts (commands_left scenario b s) at c event s named)

named_session : (scenario : Scenario) (history : List Entry) (b : ℕ) → AreNamed (session_of scenario history b)
named_session scenario history b = along-keeps (λ before o. AreNamed o) (λ before old e. if e.backend == b then session_by scenario (facts_of (before ++ e ∷ []) b) b (length before + 1) e.command e.event old else old) more None history tt
  where
    more : (before : List Entry) (old : Option Session) (e : Entry) → AreNamed old → AreNamed (if e.backend == b then session_by scenario (facts_of (before ++ e ∷ []) b) b (length before + 1) e.command e.event old else old)
    more before old e named = by_owner (e.backend == b)
      where
        by_owner : (t : Bool) → AreNamed (if t then session_by scenario (facts_of (before ++ e ∷ []) b) b (length before + 1) e.command e.event old else old)
        by_owner true = named_by scenario (facts_of (before ++ e ∷ []) b) b (length before + 1) e.command e.event old named
        by_owner false = named

-- the first of some scans that isn't usable is one of them
key_of : (facts : Facts) (scan : Purpose) (n : ℕ) (wanted : List Purpose) → AllByRecursion (λ d. (scan_key d).1 ≡ n) wanted → list_any (same_scan scan) (take 1 (missing facts.kept wanted)) ≡ true → (scan_key scan).1 ≡ n
key_of facts scan n [] all is = absurd (cc is)
key_of facts scan n (first ∷ wanted) all is = by_usable (is_kept facts.kept first) is (key_of facts scan n wanted all.1)
  where
    by_usable : (t : Bool) → list_any (same_scan scan) (take 1 (cond (not t) (first ∷ missing facts.kept wanted) (missing facts.kept wanted))) ≡ true → (list_any (same_scan scan) (take 1 (missing facts.kept wanted)) ≡ true → (scan_key scan).1 ≡ n) → (scan_key scan).1 ≡ n
    by_usable true any more = more any
    by_usable false any more = by_same (same_scan scan first) refl any
      where
        by_same : (t : Bool) → same_scan scan first ≡ t → (t || false) ≡ true → (scan_key scan).1 ≡ n
        by_same true same has = ap (λ d. (scan_key d).1) (same_scan-true scan first same) ∙ all.0
        by_same false other has = absurd (cc has)

-- a scan is that of a relation's row, or that one is usable
abbrev Begins : Facts → Purpose → Type 0
Begins facts scan = (same_scan scan (class_scan scan) || is_kept facts.kept (class_scan scan)) ≡ true

class_first : (facts : Facts) (scan : Purpose) (rel : Oid) (wanted : List Purpose) → AllByRecursion (λ d. (scan_key d).1 ≡ rel.0) wanted → list_any (same_scan scan) (take 1 (missing facts.kept (scans.Class rel ∷ wanted))) ≡ true → Begins facts scan
class_first facts scan rel wanted all is = by_usable (is_kept facts.kept (scans.Class rel)) refl is
  where
    by_usable : (t : Bool) → is_kept facts.kept (scans.Class rel) ≡ t → list_any (same_scan scan) (take 1 (cond (not t) (scans.Class rel ∷ missing facts.kept wanted) (missing facts.kept wanted))) ≡ true → Begins facts scan
    by_usable true kept any = or_right (same_scan scan (class_scan scan)) (is_kept facts.kept (class_scan scan)) ((λ i. is_kept facts.kept (scans.Class (record { 0 = key_of facts scan rel.0 wanted all any i }))) ∙ kept)
    by_usable false lacked any = by_same (same_scan scan (scans.Class rel)) refl any
      where
        by_same : (t : Bool) → same_scan scan (scans.Class rel) ≡ t → (t || false) ≡ true → Begins facts scan
        by_same true same has = or_left (same_scan scan (class_scan scan)) (is_kept facts.kept (class_scan scan)) (ap (λ d. same_scan d (class_scan d)) (same_scan-true scan (scans.Class rel) same) ∙ same_scan-itself (scans.Class rel))
        by_same false other has = absurd (cc has)

-- so it is with the scan that comes next for a descriptor
build_first : (facts : Facts) (scan : Purpose) (kind : Kind) (rel : Oid) → list_any (same_scan scan) (take 1 (missing facts.kept (build_scans kind rel))) ≡ true → Begins facts scan
build_first facts scan Table rel is = class_first facts scan rel (scans.Attribute rel ∷ scans.AttrDef rel ∷ scans.Constraint rel ∷ scans.Index rel ∷ scans.Trigger rel ∷ []) (each_of Table rel).1 is
build_first facts scan Index rel is = class_first facts scan rel (scans.IndexRow rel ∷ []) (each_of Index rel).1 is

each_first : (facts : Facts) (scan : Purpose) (opened : List Opening) → list_any (same_scan scan) (flat_map (λ o. take 1 (missing facts.kept (build_scans o.kind o.rel))) opened) ≡ true → Begins facts scan
each_first facts scan [] is = absurd (cc is)
each_first facts scan (o ∷ opened) is = by_side (each_first facts scan opened) (or_cases _ _ (sym (list_any-append (same_scan scan) (take 1 (missing facts.kept (build_scans o.kind o.rel))) (flat_map (λ p. take 1 (missing facts.kept (build_scans p.kind p.rel))) opened)) ∙ is))
  where
    later : Bool
    later = list_any (same_scan scan) (flat_map (λ p. take 1 (missing facts.kept (build_scans p.kind p.rel))) opened)

    by_side : (later ≡ true → Begins facts scan) → (list_any (same_scan scan) (take 1 (missing facts.kept (build_scans o.kind o.rel))) ≡ true) ⊎ (later ≡ true) → Begins facts scan
    by_side more (inl here) = build_first facts scan o.kind o.rel here
    by_side more (inr there) = more there

-- a scan that isn't for a descriptor is another one
not_named : (facts : Facts) (scan wanted : Purpose) → is_build_scan scan ≡ true → is_build_scan wanted ≡ false → list_any (same_scan scan) (take 1 (missing facts.kept (wanted ∷ []))) ≡ true → Begins facts scan
not_named facts scan wanted builds named is = by_usable (is_kept facts.kept wanted) is
  where
    by_usable : (t : Bool) → list_any (same_scan scan) (take 1 (cond (not t) (wanted ∷ []) [])) ≡ true → Begins facts scan
    by_usable true any = absurd (cc any)
    by_usable false any = by_same (same_scan scan wanted) refl any
      where
        by_same : (t : Bool) → same_scan scan wanted ≡ t → (t || false) ≡ true → Begins facts scan
        by_same true same has = absurd (let both : true ≡ false = sym builds ∙ ap is_build_scan (same_scan-true scan wanted same) ∙ named in cc both)
        by_same false other has = absurd (cc has)

-- and with the one that comes next for the next act
act_first : (facts : Facts) (scan : Purpose) (plan : Plan) → SearchesNamed plan → is_build_scan scan ≡ true → list_any (same_scan scan) (act_next facts plan) ≡ true → Begins facts scan
act_first facts scan (Do (Lookup name mode) rest) named builds is = not_named facts scan (scans.RelName name) builds refl is
act_first facts scan (Do (Search wanted) rest) named builds is = not_named facts scan wanted builds named.0 is
act_first facts scan (Do (Open rel kind) rest) named builds is = build_first facts scan kind rel is
act_first facts scan (Do (Read other) rest) named builds is = absurd (cc is)
act_first facts scan (Do (Lock rel mode) rest) named builds is = absurd (cc is)
act_first facts scan (Do (Write draft) rest) named builds is = absurd (cc is)
act_first facts scan (Done (tells.Regclass oid)) named builds is = not_named facts scan (scans.RelOid oid) builds refl is
act_first facts scan (Done told) named builds is = absurd (cc is)
act_first facts scan (Fails error) named builds is = absurd (cc is)
act_first facts scan (Absent name) named builds is = absurd (cc is)

next_first : (facts : Facts) (scan : Purpose) (s : Session) → IsNamed s → is_build_scan scan ≡ true → is_next_in scan facts (work_of s) ≡ true → Begins facts scan
next_first facts scan s named built is = by_outcome (outcome_of s.left) is
  where
    builds : List Purpose
    builds = flat_map (λ (o : Opening). take 1 (missing facts.kept (build_scans o.kind o.rel))) s.opened

    both : list_any (same_scan scan) (builds ++ act_next facts s.left) ≡ true → Begins facts scan
    both any = by_side (or_cases _ _ (sym (list_any-append (same_scan scan) builds (act_next facts s.left)) ∙ any))
      where
        by_side : (list_any (same_scan scan) builds ≡ true) ⊎ (list_any (same_scan scan) (act_next facts s.left) ≡ true) → Begins facts scan
        by_side (inl here) = each_first facts scan s.opened here
        by_side (inr there) = act_first facts scan s.left named.0 built there

    by_outcome : (o : Outcome) → list_any (same_scan scan) (elim o as (λ x. List Purpose) [ Badly ↦ [] | other ↦ builds ++ act_next facts s.left ]) ≡ true → Begins facts scan
    by_outcome Unsettled any = both any
    by_outcome Well any = both any
    by_outcome Badly any = absurd (cc any)

-- the backend's own entry keeps it so
module _ (scenario : Scenario) (history : List Entry) (b c : ℕ) (begun : AreBegun (is_usable history b)) (scan : Purpose) (builds : is_build_scan scan ≡ true) where
  -- an event that is no scan
  spared : (event : Event) → (spares_by history b c scan event && is_usable history b scan) ≡ true → (spares_by history b c (class_scan scan) event && is_usable history b (class_scan scan)) ≡ true
  spared event used = let parts = and_parts (spares_by history b c scan event) (is_usable history b scan) used in
      and_from (spares_by history b c (class_scan scan) event) (is_usable history b (class_scan scan)) (sym (spares_alike history b c scan event builds) ∙ parts.0) (begun scan builds parts.1)

  -- a scan that may be made
  made_next : (made : Purpose) (s : Session) → IsNamed s → is_next_in made (facts_of history b) (work_of s) ≡ true → (same_scan made scan || is_usable history b scan) ≡ true → (same_scan made (class_scan scan) || is_usable history b (class_scan scan)) ≡ true
  made_next made s named next used = by_same (same_scan made scan) refl used
    where
      by_same : (t : Bool) → same_scan made scan ≡ t → (t || is_usable history b scan) ≡ true → (same_scan made (class_scan scan) || is_usable history b (class_scan scan)) ≡ true
      by_same true same was = let it : made ≡ scan = same_scan-true made scan same in
          ap (λ d. same_scan d (class_scan scan) || is_usable history b (class_scan scan)) it ∙ ap (λ t. same_scan scan (class_scan scan) || t) (sym (kept_usable history b (class_scan scan))) ∙ next_first (facts_of history b) scan s named builds (ap (λ d. is_next_in d (facts_of history b) (work_of s)) (sym it) ∙ next)
      by_same false other was = or_right (same_scan made (class_scan scan)) (is_usable history b (class_scan scan)) (begun scan builds was)

  asked : (s : Session) (o : Option Command) (made : Purpose) (count : ℕ) → MayPlayIn (next_oid history) (facts_of history b) o s (events.Scan made count) → is_next_in made (facts_of history b) (work_of s) ≡ true
  asked s None made count plays = plays.1
  asked s (Some command) made count plays = plays.1

  own_begun : (o : Option Session) (event : Event) → AreNamed o → MayPlayAt scenario history b o c event → usable_by history b c scan event (is_usable history b scan) ≡ true → usable_by history b c (class_scan scan) event (is_usable history b (class_scan scan)) ≡ true
  own_begun None (events.Scan made count) named plays used = absurd plays
  own_begun (Some s) (events.Scan made count) named plays used = made_next made s named (asked s (slice_get (commands_of scenario b) (length s.finished)) made count plays.1) used
  own_begun None event named plays used = spared event used
  own_begun (Some s) event named plays used = spared event used

-- in a history in which backends do what their commands say it is so with what each may rely on
usable_begin : (scenario : Scenario) (history : List Entry) → Plays scenario history → (b : ℕ) → AreBegun (is_usable history b)
usable_begin scenario history plays = each-keeps (IsNext scenario) (λ h. (b : ℕ) → AreBegun (is_usable h b)) (λ b scan builds used. absurd (cc used)) more history plays
  where
    more : (before : List Entry) (e : Entry) → ((b : ℕ) → AreBegun (is_usable before b)) → IsNext scenario before e → (b : ℕ) → AreBegun (is_usable (before ++ e ∷ []) b)
    more before e begun next b = by_owner (e.backend == b) refl
      where
        by_owner : (t : Bool) → (e.backend == b) ≡ t → AreBegun (is_usable (before ++ e ∷ []) b)
        by_owner true own = λ scan builds used. is_usable-own before e b (class_scan scan) own
            ∙ own_begun scenario before b e.command (begun b) scan builds (session_of scenario before b) e.event (named_session scenario before b)
            (subst (λ a. MayPlayAt scenario before a (session_of scenario before a) e.command e.event) (eqb-true e.backend b own) next.1) (sym (is_usable-own before e b scan own) ∙ used)
        by_owner false other = λ scan builds used. is_usable-other before e b (class_scan scan) other ∙ begun b scan builds (sym (is_usable-other before e b scan other) ∙ used)

-- so it is with what each keeps
pub builds_begin : (scenario : Scenario) (history : List Entry) → Plays scenario history → (b : ℕ) → AreBegun (is_kept (kept_in history b))
builds_begin scenario history plays b = subst AreBegun (λ i scan. sym (kept_usable history b scan) i) (usable_begin scenario history plays b)
