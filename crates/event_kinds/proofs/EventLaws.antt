-- What is read of an event or an entry is spelled so, and what is spelled so is read.
use Rattle.std.proofs.Common.{◌≡◌, ℕ, Bool, true, false, List, [], ◌∷◌, ◌++◌, Option, Some, None, refl, sym, ap, ◌∙◌, append_assoc, append-nil, codes, decimal}
use Rattle.base_types.specs.Words.{mode_word}
use Rattle.event_kinds.specs.Events.{Mode, Purpose, Item, Event, Entry}
use Rattle.base_types.specs.declared.scan.Purpose.TheVariants as scans
use Rattle.event_kinds.specs.declared.entry.Event.TheVariants as events
use Rattle.event_kinds.specs.Texts.{purpose_text, event_text, entry_text}
use Rattle.event_kinds.specs.Entries.{IsNumber, IsPurpose, IsEvent, IsEntry}
use Rattle.event_kinds.specs.Readers.{Reader, lit_at, as_at, none_at, or_at, choose_at}
use Rattle.event_kinds.specs.Reading.{rel_oid_of, att_name_of, att_list_of, class_scan_of, attribute_of, attr_def_of, constraint_of, index_of, trigger_of, index_row_of, constraint_scan_at, object_scan_at, relation_scan_at, purpose_at, lock_event_of, unlock_event_of, scan_event_of, write_event_of, clash_event_of, visible_of, of_row, of_running, fetch_at, holder_cases, holder_at, lock_event_at, owner_cases, owner_at, number_event_cases, number_event_at, short_event_at, unlock_event_at, scan_event_at, write_event_at, clash_event_at, event_at, placed_of, placed_at, entry_cases, ends_here, entry_at}
use Rattle.event_kinds.proofs.Spelling.{read_some, or_other, Spells, Behind, or_behind, or_within, choose_behind, Part, then_part, pair_part, behind_part, again_part}
use Rattle.event_kinds.proofs.Fields.{TokenEnds, no_lit_number}
use Rattle.event_kinds.proofs.Parts.{number_part, name_part, mode_part, blank_part, behind_value}
use Rattle.event_kinds.proofs.ItemLaws.{HereEnds, token_end, changes_end, items_part}

-- ---- scans

one_scan_behind : (word : List ℕ) (make : ℕ → Purpose) (other : Reader Purpose) → ((n : ℕ) → purpose_text (make n) ≡ word ++ decimal n) → ((n : ℕ) → IsNumber n → IsPurpose (make n))
    → Behind [] purpose_text IsPurpose other → Behind [] purpose_text IsPurpose (or_at word (as_at make number_part.read) other)
one_scan_behind word make other spelled well h = or_behind purpose_text IsPurpose word (as_at make number_part.read) other (behind_part number_part word make purpose_text IsPurpose (λ n is. spelled n) well) h

constraint_scan_behind : Behind [] purpose_text IsPurpose constraint_scan_at
unfolding constraint_scan_at
constraint_scan_behind = choose_behind purpose_text IsPurpose ((codes "constraint ", as_at constraint_of number_part.read) ∷ []) (behind_part number_part (codes "constraint ") constraint_of purpose_text IsPurpose (λ n h. refl) (λ n h. h), tt)

object_scan_behind : Behind [] purpose_text IsPurpose object_scan_at
unfolding object_scan_at
object_scan_behind =
    one_scan_behind (codes "index ") index_of _ (λ n. refl) (λ n h. h)
    (one_scan_behind (codes "trigger ") trigger_of _ (λ n. refl) (λ n h. h)
    (one_scan_behind (codes "indexrow ") index_row_of _ (λ n. refl) (λ n h. h)
    constraint_scan_behind))

relation_scan_behind : Behind [] purpose_text IsPurpose relation_scan_at
unfolding relation_scan_at
relation_scan_behind =
    one_scan_behind (codes "attlist ") att_list_of _ (λ n. refl) (λ n h. h)
    (one_scan_behind (codes "class ") class_scan_of _ (λ n. refl) (λ n h. h)
    (one_scan_behind (codes "attribute ") attribute_of _ (λ n. refl) (λ n h. h)
    (one_scan_behind (codes "attrdef ") attr_def_of _ (λ n. refl) (λ n h. h)
    object_scan_behind)))

abbrev att_name_part : Part (ℕ × List ℕ)
att_name_part = blank_part number_part (λ rest. refl) name_part

att_name_spelled : (t : ℕ × List ℕ) → purpose_text (att_name_of t) ≡ codes "attname " ++ att_name_part.text t
att_name_spelled t = simp append_assoc

purpose_behind : Behind [] purpose_text IsPurpose purpose_at
unfolding purpose_at
purpose_behind = or_behind purpose_text IsPurpose (codes "relname ") _ _ (behind_part name_part (codes "relname ") scans.RelName purpose_text IsPurpose (λ name h. refl) (λ name h. h))
    (or_behind purpose_text IsPurpose (codes "reloid ") _ _ (behind_part number_part (codes "reloid ") rel_oid_of purpose_text IsPurpose (λ n h. refl) (λ n h. h))
    (or_behind purpose_text IsPurpose (codes "attname ") _ _ (behind_part att_name_part (codes "attname ") att_name_of purpose_text IsPurpose (λ t h. att_name_spelled t) (λ t h. (h.0, h.1)))
    relation_scan_behind))

purpose_again : (purpose : Purpose) (rest : List ℕ) → IsPurpose purpose → TokenEnds rest → purpose_at (purpose_text purpose ++ rest) ≡ Some (purpose, rest)
unfolding purpose_at relation_scan_at object_scan_at constraint_scan_at lit_at
purpose_again (scans.RelName name) rest is end = again_part name_part scans.RelName name rest is end
purpose_again (scans.AttName rel name) rest is end = ap (λ l. purpose_at (l ++ rest)) (att_name_spelled (rel.0, name)) ∙ again_part att_name_part att_name_of (rel.0, name) rest (is.0, is.1) end
purpose_again (scans.RelOid rel) rest is end = again_part number_part rel_oid_of rel.0 rest is end
purpose_again (scans.AttList rel) rest is end = again_part number_part att_list_of rel.0 rest is end
purpose_again (scans.Class rel) rest is end = again_part number_part class_scan_of rel.0 rest is end
purpose_again (scans.Attribute rel) rest is end = again_part number_part attribute_of rel.0 rest is end
purpose_again (scans.AttrDef rel) rest is end = again_part number_part attr_def_of rel.0 rest is end
purpose_again (scans.Constraint rel) rest is end = again_part number_part constraint_of rel.0 rest is end
purpose_again (scans.Index rel) rest is end = again_part number_part index_of rel.0 rest is end
purpose_again (scans.Trigger rel) rest is end = again_part number_part trigger_of rel.0 rest is end
purpose_again (scans.IndexRow rel) rest is end = again_part number_part index_row_of rel.0 rest is end

purpose_spells : Spells purpose_text IsPurpose TokenEnds purpose_at
purpose_spells = record { takes = purpose_behind.takes; again = purpose_again }

abbrev purpose_part : Part Purpose
purpose_part = record { text = purpose_text; Is = IsPurpose; Ends = TokenEnds; read = purpose_at; spells = purpose_spells }

-- ---- locks

abbrev holder_text : Option (ℕ × Mode) → List ℕ
holder_text None = codes "ok"
holder_text (Some held) = codes "held " ++ (decimal held.0 ++ codes " " ++ mode_word held.1)

abbrev IsHolder : Option (ℕ × Mode) → Type 0
IsHolder None = Unit {0}
IsHolder (Some held) = IsNumber held.0

abbrev held_part : Part (ℕ × Mode)
held_part = blank_part number_part (λ rest. refl) mode_part

holder_behind : Behind [] holder_text IsHolder holder_at
unfolding holder_at
holder_behind = choose_behind holder_text IsHolder holder_cases (
  behind_value None (codes "ok") holder_text IsHolder refl tt,
  (
    behind_part held_part (codes "held ") Some holder_text IsHolder (λ t h. refl) (λ t h. h.0),
    tt,
  ),
)

holder_again : (holder : Option (ℕ × Mode)) (rest : List ℕ) → IsHolder holder → TokenEnds rest → holder_at (holder_text holder ++ rest) ≡ Some (holder, rest)
unfolding holder_at lit_at
holder_again None rest is end = refl
holder_again (Some held) rest is end = again_part held_part Some held rest (is, tt) end

abbrev holder_part : Part (Option (ℕ × Mode))
holder_part = record { text = holder_text; Is = IsHolder; Ends = TokenEnds; read = holder_at; spells = record { takes = holder_behind.takes; again = holder_again } }

abbrev lock_part : Part (ℕ × (Mode × Option (ℕ × Mode)))
lock_part = blank_part number_part (λ rest. refl) (blank_part mode_part (λ rest. refl) holder_part)

lock_spelled : (t : ℕ × (Mode × Option (ℕ × Mode))) → event_text (lock_event_of t) ≡ codes "lock " ++ lock_part.text t
lock_spelled (rel, (mode, None)) = simp append_assoc
lock_spelled (rel, (mode, Some held)) = simp append_assoc

lock_well : (t : ℕ × (Mode × Option (ℕ × Mode))) → lock_part.Is t → IsEvent (lock_event_of t)
lock_well (rel, (mode, None)) h = h.0
lock_well (rel, (mode, Some held)) h = (h.0, h.1.1)

abbrev unlock_part : Part (ℕ × Mode)
unlock_part = blank_part number_part (λ rest. refl) mode_part

unlock_spelled : (t : ℕ × Mode) → event_text (unlock_event_of t) ≡ codes "unlock " ++ unlock_part.text t
unlock_spelled t = simp append_assoc

-- ---- scans, writes and clashes

abbrev scan_part : Part (Purpose × ℕ)
scan_part = pair_part (then_part purpose_part (codes " rows ") (λ rest. refl)) number_part (λ n rest is end. tt)

scan_spelled : (t : Purpose × ℕ) → event_text (scan_event_of t) ≡ codes "scan " ++ scan_part.text t
scan_spelled t = simp append_assoc

abbrev write_part : Part (ℕ × List Item)
write_part = pair_part number_part items_part (λ changes rest is end. changes_end changes rest end)

abbrev owner_text : Bool × ℕ → List ℕ
owner_text (true, n) = codes "row " ++ decimal n
owner_text (false, n) = codes "running " ++ decimal n

abbrev IsOwner : Bool × ℕ → Type 0
IsOwner owner = IsNumber owner.1

owner_behind : Behind [] owner_text IsOwner owner_at
unfolding owner_at
owner_behind = choose_behind owner_text IsOwner owner_cases (
  behind_part number_part (codes "row ") of_row owner_text IsOwner (λ n h. refl) (λ n h. h),
  (
    behind_part number_part (codes "running ") of_running owner_text IsOwner (λ n h. refl) (λ n h. h),
    tt,
  ),
)

owner_again : (owner : Bool × ℕ) (rest : List ℕ) → IsOwner owner → TokenEnds rest → owner_at (owner_text owner ++ rest) ≡ Some (owner, rest)
unfolding owner_at lit_at
owner_again (true, n) rest is end = again_part number_part of_row n rest is end
owner_again (false, n) rest is end = again_part number_part of_running n rest is end

abbrev owner_part : Part (Bool × ℕ)
owner_part = record { text = owner_text; Is = IsOwner; Ends = TokenEnds; read = owner_at; spells = record { takes = owner_behind.takes; again = owner_again } }

abbrev clash_part : Part (List ℕ × (Bool × ℕ))
clash_part = blank_part name_part (λ rest. refl) owner_part

clash_spelled : (t : List ℕ × (Bool × ℕ)) → event_text (clash_event_of t) ≡ codes "clash " ++ clash_part.text t
clash_spelled (name, (true, n)) = simp append_assoc
clash_spelled (name, (false, n)) = simp append_assoc

clash_well : (t : List ℕ × (Bool × ℕ)) → clash_part.Is t → IsEvent (clash_event_of t)
clash_well (name, (true, n)) h = (h.0, h.1)
clash_well (name, (false, n)) h = (h.0, h.1)

-- ---- events

fetch_behind : Behind (codes "fetch ") event_text IsEvent fetch_at
unfolding fetch_at
fetch_behind = or_within event_text IsEvent (codes "fetch ") (codes "reset") _ _
    (behind_value events.FetchReset (codes "fetch " ++ codes "reset") event_text IsEvent refl tt)
    (behind_part number_part (codes "fetch ") events.Fetch event_text IsEvent (λ n h. refl) (λ n h. h))

number_event_behind : Behind [] event_text IsEvent number_event_at
unfolding number_event_at
number_event_behind = choose_behind event_text IsEvent number_event_cases (
  behind_part number_part (codes "visible ") visible_of event_text IsEvent (λ n h. refl) (λ n h. h),
  (
    behind_part number_part (codes "publish ") events.Publish event_text IsEvent (λ n h. refl) (λ n h. h),
    (
      behind_part number_part (codes "release ") events.Release event_text IsEvent (λ n h. refl) (λ n h. h),
      (
        behind_part number_part (codes "gone ") events.Gone event_text IsEvent (λ n h. refl) (λ n h. h),
        (
          behind_value events.Fail (codes "fail") event_text IsEvent refl tt,
          (
            behind_value events.Stop (codes "stop") event_text IsEvent refl tt,
            tt,
          ),
        ),
      ),
    ),
  ),
)

short_behind : Behind [] event_text IsEvent short_event_at
unfolding short_event_at
short_behind = or_behind event_text IsEvent (codes "start") (none_at events.Start) _ (behind_value events.Start (codes "start") event_text IsEvent refl tt)
    (or_behind event_text IsEvent (codes "look yes") (none_at (events.Look true)) _ (behind_value (events.Look true) (codes "look yes") event_text IsEvent refl tt)
    (or_behind event_text IsEvent (codes "look no") (none_at (events.Look false)) _ (behind_value (events.Look false) (codes "look no") event_text IsEvent refl tt)
    (or_behind event_text IsEvent (codes "fetch ") fetch_at number_event_at fetch_behind number_event_behind)))

event_behind : Behind [] event_text IsEvent event_at
unfolding event_at lock_event_at unlock_event_at scan_event_at write_event_at clash_event_at
event_behind = or_behind event_text IsEvent (codes "lock ") _ _ (behind_part lock_part (codes "lock ") lock_event_of event_text IsEvent (λ t h. lock_spelled t) lock_well)
    (or_behind event_text IsEvent (codes "unlock ") _ _ (behind_part unlock_part (codes "unlock ") unlock_event_of event_text IsEvent (λ t h. unlock_spelled t) (λ t h. h.0))
    (or_behind event_text IsEvent (codes "scan ") _ _ (behind_part scan_part (codes "scan ") scan_event_of event_text IsEvent (λ t h. scan_spelled t) (λ t h. (h.0, h.1)))
    (or_behind event_text IsEvent (codes "write ") _ _ (behind_part write_part (codes "write ") write_event_of event_text IsEvent (λ t h. refl) (λ t h. (h.0, h.1)))
    (or_behind event_text IsEvent (codes "clash ") _ _ (behind_part clash_part (codes "clash ") clash_event_of event_text IsEvent (λ t h. clash_spelled t) clash_well)
    short_behind))))

fetch_again : (n : ℕ) (rest : List ℕ) → IsNumber n → TokenEnds rest → fetch_at (decimal n ++ rest) ≡ Some (events.Fetch n, rest)
unfolding fetch_at
fetch_again n rest is end = or_other (codes "reset") (decimal n ++ rest) (none_at events.FetchReset) (as_at events.Fetch number_part.read) _ (no_lit_number 114 (codes "eset") n rest refl is) (again_part number_part events.Fetch n rest is end)

event_again : (event : Event) (rest : List ℕ) → IsEvent event → HereEnds rest → event_at (event_text event ++ rest) ≡ Some (event, rest)
unfolding event_at lock_event_at unlock_event_at scan_event_at write_event_at clash_event_at short_event_at number_event_at fetch_at lit_at
event_again events.Start rest is end = refl
event_again (events.Look true) rest is end = refl
event_again (events.Look false) rest is end = refl
event_again (events.Fetch count) rest is end = fetch_again count rest is (token_end rest end)
event_again events.FetchReset rest is end = refl
event_again (events.LockOk rel mode) rest is end =
    ap (λ l. event_at (l ++ rest)) (lock_spelled (rel.0, (mode, None))) ∙ again_part lock_part lock_event_of (rel.0, (mode, None)) rest (is, (tt, tt)) (token_end rest end)
event_again (events.LockHeld rel mode holder held) rest is end =
    ap (λ l. event_at (l ++ rest)) (lock_spelled (rel.0, (mode, Some (holder, held)))) ∙ again_part lock_part lock_event_of (rel.0, (mode, Some (holder, held))) rest (is.0, (tt, is.1)) (token_end rest end)
event_again (events.Unlock rel mode) rest is end =
    ap (λ l. event_at (l ++ rest)) (unlock_spelled (rel.0, mode)) ∙ again_part unlock_part unlock_event_of (rel.0, mode) rest (is, tt) (token_end rest end)
event_again (events.Scan purpose rows) rest is end =
    ap (λ l. event_at (l ++ rest)) (scan_spelled (purpose, rows)) ∙ again_part scan_part scan_event_of (purpose, rows) rest (is.0, is.1) (token_end rest end)
event_again (events.Write xid changes) rest is end = again_part write_part write_event_of (xid.0, changes) rest (is.0, is.1) end
event_again (events.ClashRow name rel) rest is end =
    ap (λ l. event_at (l ++ rest)) (clash_spelled (name, (true, rel.0))) ∙ again_part clash_part clash_event_of (name, (true, rel.0)) rest (is.0, is.1) (token_end rest end)
event_again (events.ClashRunning name xid) rest is end =
    ap (λ l. event_at (l ++ rest)) (clash_spelled (name, (false, xid.0))) ∙ again_part clash_part clash_event_of (name, (false, xid.0)) rest (is.0, is.1) (token_end rest end)
event_again (events.Visible xid) rest is end = again_part number_part visible_of xid.0 rest is (token_end rest end)
event_again (events.Publish count) rest is end = again_part number_part events.Publish count rest is (token_end rest end)
event_again (events.Release from) rest is end = again_part number_part events.Release from rest is (token_end rest end)
event_again (events.Gone from) rest is end = again_part number_part events.Gone from rest is (token_end rest end)
event_again events.Fail rest is end = refl
event_again events.Stop rest is end = refl

-- ---- entries

abbrev event_part : Part Event
event_part = record { text = event_text; Is = IsEvent; Ends = HereEnds; read = event_at; spells = record { takes = event_behind.takes; again = event_again } }

abbrev placed_part : Part (ℕ × (ℕ × Event))
placed_part = blank_part number_part (λ rest. refl) (blank_part number_part (λ rest. refl) event_part)

placed_spelled : (t : ℕ × (ℕ × Event)) → entry_text (placed_of t) ≡ codes "h " ++ placed_part.text t
placed_spelled t = simp append_assoc

entry_behind : Behind [] entry_text IsEntry (choose_at entry_cases)
unfolding placed_at
entry_behind = choose_behind entry_text IsEntry entry_cases (
  behind_part placed_part (codes "h ") placed_of entry_text IsEntry (λ t h. placed_spelled t) (λ t h. record { backend = h.0; command = h.1.0; event = h.1.1 }),
  tt,
)

ended_here : {X : Type 0} (x y : X) (rest : List ℕ) → ends_here (x, rest) ≡ Some y → (rest ≡ []) × (x ≡ y)
ended_here x y [] e = (refl, cc)
ended_here x y (byte ∷ bytes) e = absurd cc

-- an entry that is read of a line has the line as its text
pub entry_takes : (bytes : List ℕ) (entry : Entry) → entry_at bytes ≡ Some entry → (bytes ≡ entry_text entry) × IsEntry entry
unfolding entry_at
entry_takes bytes entry e = read_some (choose_at entry_cases bytes) ends_here entry e (λ a rest read ends.
    let last = ended_here a entry rest ends in
    let t = entry_behind.takes bytes a rest read in
    rw (← last.1) (t.0 ∙ ap (λ l. entry_text a ++ l) last.0 ∙ append-nil (entry_text a), t.1))

-- an entry is read of its text, with nothing or a line's end after it
pub placed_again : (entry : Entry) (rest : List ℕ) → IsEntry entry → HereEnds rest → choose_at entry_cases (entry_text entry ++ rest) ≡ Some (entry, rest)
unfolding placed_at lit_at
placed_again entry rest is end =
    let t : ℕ × (ℕ × Event) = (entry.backend, (entry.command, entry.event)) in
    ap (λ l. choose_at entry_cases (l ++ rest)) (placed_spelled t) ∙ again_part placed_part placed_of t rest (is.backend, (is.command, is.event)) end

-- an entry is read of its text
pub entry_again : (entry : Entry) → IsEntry entry → entry_at (entry_text entry) ≡ Some entry
unfolding entry_at
entry_again entry is =
    let read : choose_at entry_cases (entry_text entry) ≡ Some (entry, []) = ap (choose_at entry_cases) (sym (append-nil (entry_text entry))) ∙ placed_again entry [] is refl in
    rw read refl
