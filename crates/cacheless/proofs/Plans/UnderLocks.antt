-- Plans under locks: what a command reads it reads of relations that it has locked, in modes that keep what it goes by, or it goes on whatever it reads; what it reads of descriptors it has opened, and what it tells of relations too.
use Rattle.std.proofs.Common.{◌≡◌, ◌⊎◌, ℕ, Bool, true, false, Option, Some, None, List, [], ◌∷◌, ◌++◌, Contains, refl, sym, subst, map, append_assoc, append-nil}
use Rattle.std.specs.Prelude.{⊤}
use Rattle.std.specs.List.{AllByRecursion, list_all, flat_map}
use Rattle.base_types.specs.Fields.{has_field}
use Rattle.base_types.specs.Modes.{conflicts}
use Rattle.base_types.specs.Scans.{is_build_scan}
use Rattle.base_types.specs.declared.mode.Mode.TheVariants.{ShareUpdateExclusive, ShareRowExclusive}
use Rattle.base_types.specs.declared.row.Row.TheVariants as rows
use Rattle.base_types.specs.declared.scan.Purpose.TheVariants as scans
use Rattle.ddl_effect.specs.declared.told.Told.TheVariants as tells
use Rattle.ddl_effect.specs.Plans.{Act, Plan, Done, Fails, Absent, Do, Lookup, Open, Search, Read, Lock, Write}
use Rattle.ddl_effect.specs.Commands.{found}
use Rattle.history_model.specs.Covered.{counted_for}
use Rattle.history_model.specs.Changing.{relations_of}
use Rattle.history_model.proofs.ColumnsKept.{IsOfColumns}
use Rattle.history_model.proofs.Every.{SomeOf}
use Rattle.history_model.proofs.FixedRows.{fixed}
use Rattle.history_model.proofs.HeldRows.{modes_of}
use Rattle.cacheless.specs.Types.{Oid, Mode, AccessExclusive, Kind, Row, Purpose, Opening, Told}
use Rattle.cacheless.specs.ActsDone.{LockOn, locks_by, opening_by, relation_by, named_by, after_given, reached, made_first, made_in}
use Rattle.cacheless.specs.OnCourse.{is_absent}
use Rattle.cacheless.specs.OpenedReads.{is_of_opened}
use Rattle.cacheless.proofs.Plans.EffectAlong.{plain_row, GoesByRelation}
use Rattle.cacheless.proofs.Plans.Ways.{acts, none_reached}

-- the relation of whose rows a scan asks, unless it asks for a name
abbrev pub relation_read : Purpose → Option Oid
relation_read (scans.RelName name) = None
relation_read (scans.RelOid rel) = Some rel
relation_read (scans.AttName rel name) = Some rel
relation_read (scans.AttList rel) = Some rel
relation_read (scans.Class rel) = Some rel
relation_read (scans.Attribute rel) = Some rel
relation_read (scans.AttrDef rel) = Some rel
relation_read (scans.Constraint rel) = Some rel
relation_read (scans.Index rel) = Some rel
relation_read (scans.Trigger rel) = Some rel
relation_read (scans.IndexRow rel) = Some rel

-- the modes under which those rows are changed, as far as they count for the scan
abbrev pub modes_read : Purpose → List Mode
modes_read (scans.Constraint rel) = ShareUpdateExclusive ∷ ShareRowExclusive ∷ AccessExclusive ∷ []
modes_read scan = modes_of scan

-- a lock on the relation of a scan that keeps its rows: all who change them it keeps out
abbrev pub KeepsRows : Purpose → LockOn → Type 0
KeepsRows scan o = (relation_read scan ≡ Some o.rel) × (list_all (λ writer. conflicts writer o.mode) (modes_read scan) ≡ true)

-- a lock on the relation of whose columns a scan asks
abbrev pub KeepsColumns : Purpose → LockOn → Type 0
KeepsColumns scan o = IsOfColumns o.rel scan

-- a plan goes on whatever its act gives
abbrev pub GoesAnyhow : (List Row → Plan) → Type 0
GoesAnyhow rest = (given : List Row) → rest given ≡ rest []

-- a plan goes on by a relation and its kind alone, or else says that there is none
abbrev pub GoesByFound : List ℕ → (List Row → Plan) → Type 0
GoesByFound name rest = (given : List Row) → rest given ≡ found name (λ rel kind. rest (plain_row rel kind)) given

-- a plan goes on from a scan by what one of these locks keeps: by the rows as far as they count, or by columns but for what a weak mode may change
abbrev pub GoesUnder : List LockOn → Purpose → (List Row → Plan) → Type 0
GoesUnder locked scan rest = GoesAnyhow rest ⊎ ((SomeOf (KeepsRows scan) locked × ((given : List Row) → rest given ≡ rest (map (counted_for scan) given))) ⊎ (SomeOf (KeepsColumns scan) locked × ((given : List Row) → rest given ≡ rest (map fixed given))))

-- of a relation only what is open is told, and a field only where the relation has it
abbrev pub TellsOpen : List Opening → Told → Type 0
TellsOpen opened (tells.Relation rel kind) = Contains opened (record { rel = rel; kind = kind })
TellsOpen opened (tells.Field rel kind field) = Contains opened (record { rel = rel; kind = kind }) × (has_field kind field ≡ true)
TellsOpen opened told = ⊤

-- one of these locks keeps the rows of an open relation
abbrev pub IsKeptBy : List LockOn → Opening → Type 0
IsKeptBy locked o = SomeOf (KeepsRows (scans.Class o.rel)) locked

-- where a plan is: the relations that its lookups found, the locks under which it goes on, the descriptors that it has opened, and the relations that rows name which it has read
pub record Footing : Type 0 where
  pub found : List Opening
  pub locked : List LockOn
  pub opened : List Opening
  pub named : List Oid

-- at its beginning
abbrev pub at_first : Footing
at_first = record { found = []; locked = []; opened = []; named = [] }

-- with one more lock
abbrev pub with_lock : Oid → Mode → Footing → Footing
with_lock rel mode on = record on { locked = on.locked ++ record { rel = rel; mode = mode } ∷ [] }

-- with the lock of a lookup on the relation that it found
abbrev pub with_found : Oid → Kind → Mode → Footing → Footing
with_found rel kind mode on = record on { found = on.found ++ record { rel = rel; kind = kind } ∷ []; locked = on.locked ++ record { rel = rel; mode = mode } ∷ [] }

-- with one more descriptor
abbrev pub with_open : Oid → Kind → Footing → Footing
with_open rel kind on = record on { opened = on.opened ++ record { rel = rel; kind = kind } ∷ [] }

-- after it has read these rows
abbrev pub with_rows : List Row → Footing → Footing
with_rows given on = record on { named = on.named ++ flat_map relations_of given }

-- after what these acts made
abbrev pub footing_with : Footing → List Opening → List LockOn → List Opening → List Oid → Footing
footing_with on found locked opened named = record { found = on.found ++ found; locked = on.locked ++ locked; opened = on.opened ++ opened; named = on.named ++ named }

-- after these acts of a plan
abbrev pub footing_after : List (List Row) → Plan → Footing → Footing
footing_after gave plan on = footing_with on (made_in relation_by gave plan) (made_in locks_by gave plan) (made_in opening_by gave plan) (made_in named_by gave plan)

-- a plan under locks: only a lookup may fail to find a relation, what is opened a lookup found, a further lock is on a relation of which it has read, and what is open as it writes is locked in a mode that keeps its row
abbrev pub Follows : Footing → Plan → Type 0
Follows on (Done told) = TellsOpen on.opened told
Follows on (Fails error) = ⊤
Follows on (Do (Lookup name mode) rest) = GoesByFound name rest × ((rel : Oid) (kind : Kind) → Follows (with_found rel kind mode on) (rest (plain_row rel kind)))
Follows on (Do (Open rel kind) rest) = GoesAnyhow rest × Follows (with_open rel kind on) (rest []) × SomeOf (λ found. found ≡ record { rel = rel; kind = kind }) on.found
Follows on (Do (Search scan) rest) = GoesUnder on.locked scan rest × ((given : List Row) → Follows on (rest given)) × (is_build_scan scan ≡ false)
Follows on (Do (Read scan) rest) = GoesUnder on.locked scan rest × ((given : List Row) → Follows (with_rows given on) (rest given)) × (is_of_opened scan on.opened ≡ true)
Follows on (Do (Lock rel mode) rest) = GoesAnyhow rest × Follows (with_lock rel mode on) (rest []) × SomeOf (λ named. named ≡ rel) on.named
Follows on (Do (Write draft) rest) = ((given : List Row) → rest given ≡ Done tells.Ok) × AllByRecursion (IsKeptBy on.locked) on.opened
Follows on plan = ⊥

-- the same where a lookup may have found no relation
abbrev pub FollowsUnfound : Footing → Plan → Type 0
FollowsUnfound on (Absent name) = ⊤
FollowsUnfound on plan = Follows on plan

-- a plan from its beginning; one that is over then may tell of what was open before
abbrev pub FollowsOrder : Plan → Type 0
FollowsOrder (Done told) = ⊤
FollowsOrder plan = Follows at_first plan

pub unfound : (on : Footing) (plan : Plan) → Follows on plan → FollowsUnfound on plan
unfound on (Absent name) follows = tt
unfound on (Done told) follows = follows
unfound on (Fails error) follows = follows
unfound on (Do act rest) follows = follows

-- what an act adds
abbrev pub adds_first : Footing → List Row → Plan → Footing
adds_first on given plan = footing_with on (made_first relation_by given plan) (made_first locks_by given plan) (made_first opening_by given plan) (made_first named_by given plan)

-- nothing is the same
footing_none : (on : Footing) → footing_with on [] [] [] [] ≡ on
footing_none on = λ i. record { found = append-nil on.found i; locked = append-nil on.locked i; opened = append-nil on.opened i; named = append-nil on.named i }

-- the plan after an act is one where the act brings it
pub follows_after : (on : Footing) (given : List Row) (plan : Plan) → FollowsUnfound on plan → FollowsUnfound (adds_first on given plan) (after_given given plan)
follows_after on given (Done told) follows = subst (λ f. FollowsUnfound f (Done told)) (sym (footing_none on)) follows
follows_after on given (Fails error) follows = tt
follows_after on given (Absent name) follows = tt
follows_after on given (Do (Lookup name mode) rest) follows = by_rows given (follows.0 given)
  where
    by_rows : (l : List Row) → rest l ≡ found name (λ rel kind. rest (plain_row rel kind)) l → FollowsUnfound (footing_with on (relation_by (Lookup name mode) l) (locks_by (Lookup name mode) l) [] []) (rest l)
    by_rows [] is = subst (FollowsUnfound (footing_with on [] [] [] [])) (sym is) tt
    by_rows (rows.Class rel own kind fill ∷ more) is = subst (FollowsUnfound (footing_with on (record { rel = rel; kind = kind } ∷ []) (record { rel = rel; mode = mode } ∷ []) [] [])) (sym is)
        (subst (λ f. FollowsUnfound f (rest (plain_row rel kind))) (λ i. record { found = on.found ++ record { rel = rel; kind = kind } ∷ []; locked = on.locked ++ record { rel = rel; mode = mode } ∷ []; opened = sym (append-nil on.opened) i; named = sym (append-nil on.named) i })
        (unfound (with_found rel kind mode on) (rest (plain_row rel kind)) (follows.1 rel kind)))
    by_rows (row ∷ more) is = subst (FollowsUnfound (footing_with on [] [] [] [])) (sym is) tt
follows_after on given (Do (Open rel kind) rest) follows = subst (λ f. FollowsUnfound f (rest given)) (λ i. record { found = sym (append-nil on.found) i; locked = sym (append-nil on.locked) i; opened = on.opened ++ record { rel = rel; kind = kind } ∷ []; named = sym (append-nil on.named) i })
    (subst (FollowsUnfound (with_open rel kind on)) (sym (follows.0 given)) (unfound (with_open rel kind on) (rest []) follows.1))
follows_after on given (Do (Search scan) rest) follows = subst (λ f. FollowsUnfound f (rest given)) (sym (footing_none on)) (unfound on (rest given) (follows.1 given))
follows_after on given (Do (Read scan) rest) follows = subst (λ f. FollowsUnfound f (rest given)) (λ i. record { found = sym (append-nil on.found) i; locked = sym (append-nil on.locked) i; opened = sym (append-nil on.opened) i; named = on.named ++ flat_map relations_of given })
    (unfound (with_rows given on) (rest given) (follows.1 given))
follows_after on given (Do (Lock rel mode) rest) follows = subst (λ f. FollowsUnfound f (rest given)) (λ i. record { found = sym (append-nil on.found) i; locked = on.locked ++ record { rel = rel; mode = mode } ∷ []; opened = sym (append-nil on.opened) i; named = sym (append-nil on.named) i })
    (subst (FollowsUnfound (with_lock rel mode on)) (sym (follows.0 given)) (unfound (with_lock rel mode on) (rest []) follows.1))
follows_after on given (Do (Write draft) rest) follows = subst (λ f. FollowsUnfound f (Do (Write draft) rest)) (sym (footing_none on)) follows

-- and so after any acts
pub follows_reached : (on : Footing) (gave : List (List Row)) (plan : Plan) → FollowsUnfound on plan → FollowsUnfound (footing_after gave plan on) (reached gave plan)
follows_reached on [] plan follows = subst (λ f. FollowsUnfound f plan) (sym (footing_none on)) follows
follows_reached on (given ∷ gave) plan follows = subst (λ f. FollowsUnfound f (reached gave (after_given given plan)))
    (λ i. record {
      found = append_assoc on.found (made_first relation_by given plan) (made_in relation_by gave (after_given given plan)) i;
      locked = append_assoc on.locked (made_first locks_by given plan) (made_in locks_by gave (after_given given plan)) i;
      opened = append_assoc on.opened (made_first opening_by given plan) (made_in opening_by gave (after_given given plan)) i;
      named = append_assoc on.named (made_first named_by given plan) (made_in named_by gave (after_given given plan)) i;
    }) (follows_reached (adds_first on given plan) gave (after_given given plan) (follows_after on given plan follows))

-- a plan that begins with an act
pub begins_unfound : (plan : Plan) → acts plan ≡ true → FollowsOrder plan → FollowsUnfound at_first plan
begins_unfound (Do act rest) begins follows = follows
begins_unfound (Done told) begins follows = absurd (cc begins)
begins_unfound (Fails error) begins follows = absurd (cc begins)
begins_unfound (Absent name) begins follows = absurd (cc begins)

-- so where an act is next, after acts that gave these rows
pub follows_at : (gave : List (List Row)) (plan : Plan) (act : Act) (rest : List Row → Plan) → FollowsOrder plan → reached gave plan ≡ Do act rest → Follows (footing_after gave plan at_first) (Do act rest)
follows_at gave plan act rest follows on = by_test (acts plan) refl
  where
    by_test : (t : Bool) → acts plan ≡ t → Follows (footing_after gave plan at_first) (Do act rest)
    by_test true begins = subst (FollowsUnfound (footing_after gave plan at_first)) on (follows_reached at_first gave plan (begins_unfound plan begins follows))
    by_test false over = absurd (none_reached gave plan act rest over on)

-- such a plan has found all relations that it looked up
pub follows_there : (on : Footing) (plan : Plan) → Follows on plan → is_absent plan ≡ false
follows_there on (Absent name) follows = absurd follows
follows_there on (Done told) follows = refl
follows_there on (Fails error) follows = refl
follows_there on (Do act rest) follows = refl

pub order_there : (plan : Plan) → FollowsOrder plan → is_absent plan ≡ false
order_there (Done told) follows = refl
order_there (Absent name) follows = absurd follows
order_there (Fails error) follows = refl
order_there (Do act rest) follows = refl

-- it goes on by relations alone
goes_unfound : (on : Footing) (plan : Plan) → FollowsUnfound on plan → GoesByRelation plan
goes_unfound on (Done told) follows = tt
goes_unfound on (Fails error) follows = tt
goes_unfound on (Absent name) follows = tt
goes_unfound on (Do (Lookup name mode) rest) follows = (follows.0, λ given. by_rows given (follows.0 given) (λ rel kind. goes_unfound (with_found rel kind mode on) (rest (plain_row rel kind)) (unfound (with_found rel kind mode on) (rest (plain_row rel kind)) (follows.1 rel kind))))
  where
    by_rows : (l : List Row) → rest l ≡ found name (λ rel kind. rest (plain_row rel kind)) l → ((rel : Oid) (kind : Kind) → GoesByRelation (rest (plain_row rel kind))) → GoesByRelation (rest l)
    by_rows [] is further = subst GoesByRelation (sym is) tt
    by_rows (rows.Class rel own kind fill ∷ more) is further = subst GoesByRelation (sym is) (further rel kind)
    by_rows (row ∷ more) is further = subst GoesByRelation (sym is) tt
goes_unfound on (Do (Open rel kind) rest) follows = (follows.0, λ given. subst GoesByRelation (sym (follows.0 given)) (goes_unfound (with_open rel kind on) (rest []) (unfound (with_open rel kind on) (rest []) follows.1)))
goes_unfound on (Do (Search scan) rest) follows = λ given. goes_unfound on (rest given) (unfound on (rest given) (follows.1 given))
goes_unfound on (Do (Read scan) rest) follows = λ given. goes_unfound (with_rows given on) (rest given) (unfound (with_rows given on) (rest given) (follows.1 given))
goes_unfound on (Do (Lock rel mode) rest) follows = (follows.0, λ given. subst GoesByRelation (sym (follows.0 given)) (goes_unfound (with_lock rel mode on) (rest []) (unfound (with_lock rel mode on) (rest []) follows.1)))
goes_unfound on (Do (Write draft) rest) follows = tt

pub goes_order : (plan : Plan) → FollowsOrder plan → GoesByRelation plan
goes_order (Done told) follows = tt
goes_order (Fails error) follows = tt
goes_order (Absent name) follows = absurd follows
goes_order (Do act rest) follows = goes_unfound at_first (Do act rest) follows
