-- What is pinned where a descriptor is opened, and where others are let go.
use Rattle.std.proofs.Common.{◌≡◌, ◌≢◌, ◌∙◌, ◌&&◌, ◌||◌, Bool, true, false, not, List, [], ◌∷◌, ◌++◌, cond, map, refl, sym, ap, subst, eqb-true}
use Rattle.std.proofs.lemmas.Bool.{eq-eqb, or_right}
use Rattle.std.proofs.lemmas.List.Folds.{list_any-append}
use Rattle.std.specs.List.{AllByRecursion, list_any}
use Rattle.base_types.specs.Scans.{same_oid, build_scans}
use Rattle.base_types.specs.declared.kind.Kind.TheVariants.{Table, Index}
use Rattle.base_types.specs.declared.scan.Purpose.TheVariants as scans
use Rattle.ddl_effect.specs.Opens.{has_open}
use Rattle.ddl_effect.specs.Plans.{Plan, Done, Fails, Absent, Do, Lookup, Open, Search, Read, Lock, Write}
use Rattle.ddl_effect.specs.Stages.{plan_at, want_of}
use Rattle.ddl_effect.specs.declared.want.Want.{Want}
use Rattle.ddl_effect.specs.declared.want.Want.TheVariants as wants
use Rattle.local_caches.specs.Caches.{is_pinned}
use Rattle.local_caches.specs.Kept.{Kept}
use Rattle.local_caches.specs.Whole.{is_one_of}
use Rattle.local_caches.specs.declared.local_caches.LocalCaches.{LocalCaches}
use Rattle.cacheless.specs.Types.{Oid, Kind, Purpose, OpenRelation, Opening}
use Rattle.cacheless.specs.declared.progress.Progress.{Progress}
use Rattle.cacheless.specs.Owed.{missing}
use Rattle.cacheless.specs.Pins.{ArePinned, PinsMore, PinsOnly}
use Rattle.cacheless.specs.Puts.{is_opened}
use Rattle.cacheless.specs.Settled.{gives_left}
use Rattle.cacheless.specs.Silently.{Acts}
use Rattle.cacheless.specs.State.{facts_at, work_at, kept_at, is_kept, act_missing, builds_missing, scans_missing, owes_nothing}
use Rattle.cacheless.proofs.Allowed.OpensKept.{IsOpenEach, IsHeldEach}
use Rattle.cacheless.proofs.Resting.{lacks_none, none_missing}
use Rattle.cacheless.proofs.Tests.{and_true, right_none}

oid_is : (a b : Oid) → same_oid a b ≡ true → a ≡ b
oid_is a b same = ap (λ n. record { 0 = n }) (eqb-true a.0 b.0 same)

-- what is so of each relation that is among some is so of each of these
each_is : {X : Type 0} (r : X → Oid) (f : Oid → Bool) (xs : List X) → ((rel : Oid) → list_any (λ x. same_oid (r x) rel) xs ≡ true → f rel ≡ true) → AllByRecursion (λ x. f (r x) ≡ true) xs
each_is r f [] all = tt
each_is r f (x ∷ xs) all = (
  all (r x) (ap (λ t. t || list_any (λ y. same_oid (r y) (r x)) xs) (eq-eqb (r x).0 (r x).0 refl)),
  each_is r f xs (λ rel is. all rel (or_right (same_oid (r x) rel) (list_any (λ y. same_oid (r y) rel) xs) is)),
)

-- and of each relation among them
one_is : {X : Type 0} (r : X → Oid) (f : Oid → Bool) (xs : List X) → AllByRecursion (λ x. f (r x) ≡ true) xs → (rel : Oid) → list_any (λ x. same_oid (r x) rel) xs ≡ true → f rel ≡ true
one_is r f [] all rel is = absurd (cc)
one_is r f (x ∷ xs) all rel is = by (same_oid (r x) rel) refl (one_is r f xs all.1 rel) is
  where
    by : (t : Bool) → same_oid (r x) rel ≡ t → (list_any (λ y. same_oid (r y) rel) xs ≡ true → f rel ≡ true) → (t || list_any (λ y. same_oid (r y) rel) xs) ≡ true → f rel ≡ true
    by true same more found = subst (λ o. f o ≡ true) (oid_is (r x) rel same) all.0
    by false same more found = more found

-- a relation is among the oids of those that are open where it is open
pub among_open : (rel : Oid) (opens : List OpenRelation) → is_one_of rel (map (λ o. o.rel) opens) ≡ has_open rel opens
among_open rel [] = refl
among_open rel (o ∷ opens) = ap (λ t. same_oid o.rel rel || t) (among_open rel opens)

-- each relation that is open is open
pub open_each : (opens : List OpenRelation) → IsOpenEach (λ rel kind. has_open rel opens ≡ true) opens
open_each opens = each_is (λ o. o.rel) (λ rel. has_open rel opens) opens (λ rel is. is)

-- each relation that is open is pinned, and each whose descriptor is held
pub open_pinned : (s : Progress) → ArePinned s → IsOpenEach (λ rel kind. is_pinned s.caches rel ≡ true) s.opens
open_pinned s pins = each_is (λ o. o.rel) (is_pinned s.caches) s.opens (λ rel is. pins rel ∙ ap (λ t. t || is_opened s.opened rel) is)

pub held_pinned : (s : Progress) → ArePinned s → IsHeldEach (λ rel kind. is_pinned s.caches rel ≡ true) s.opened
held_pinned s pins = each_is (λ o. o.rel) (is_pinned s.caches) s.opened (λ rel is. pins rel ∙ or_right (has_open rel s.opens) (is_opened s.opened rel) is)

-- where only relations that are open are left, these are, with all whose descriptors are held
pub pins_left : (old new : LocalCaches) (opens : List OpenRelation) (opened : List Opening) → PinsOnly old new opens → IsOpenEach (λ rel kind. is_pinned old rel ≡ true) opens → IsHeldEach (λ rel kind. has_open rel opens ≡ true) opened → (rel : Oid) → is_pinned new rel ≡ (has_open rel opens || is_opened opened rel)
pins_left old new opens opened only are within rel = only rel ∙ by (has_open rel opens) (is_opened opened rel) (one_is (λ o. o.rel) (is_pinned old) opens are rel) (one_is (λ o. o.rel) (λ r. has_open r opens) opened within rel)
  where
    by : (t held : Bool) → (t ≡ true → is_pinned old rel ≡ true) → (held ≡ true → t ≡ true) → (t && is_pinned old rel) ≡ (t || held)
    by true held pinned lent = pinned refl
    by false true pinned lent = lent refl
    by false false pinned lent = refl

-- where descriptors are opened, these are pinned too
pub pins_opened : (s : Progress) (new : LocalCaches) (opened more : List Opening) → ArePinned s → PinsMore s.caches new more → opened ≡ s.opened ++ more → (rel : Oid) → is_pinned new rel ≡ (has_open rel s.opens || is_opened opened rel)
pins_opened s new opened more pins adds is rel =
    adds rel ∙ ap (λ t. t || is_opened more rel) (pins rel) ∙ apart (has_open rel s.opens) (is_opened s.opened rel) (is_opened more rel)
    ∙ ap (λ t. has_open rel s.opens || t) (sym (ap (λ l. is_opened l rel) is ∙ list_any-append (λ o. same_oid o.rel rel) s.opened more))
  where
    apart : (a b c : Bool) → ((a || b) || c) ≡ (a || (b || c))
    apart true b c = refl
    apart false b c = refl

-- where nothing is opened, what was pinned is
pub none_opened : (caches : LocalCaches) → PinsMore caches caches []
none_opened caches rel = last (is_pinned caches rel)
  where
    last : (t : Bool) → t ≡ (t || false)
    last true = refl
    last false = refl

-- a descriptor that lacks no scan has its relation's own row
row_kept : (kept : Kept) (kind : Kind) (rel : Oid) → missing kept (build_scans kind rel) ≡ [] → is_kept kept (scans.Class rel) ≡ true
row_kept kept kind rel none = by_kind kind none
  where
    first : (more : List Purpose) (t : Bool) → is_kept kept (scans.Class rel) ≡ t → missing kept (scans.Class rel ∷ more) ≡ [] → t ≡ true
    first more true is lacks = refl
    first more false is lacks =
        let never : scans.Class rel ∷ missing kept more ≡ [] = sym (ap (λ t. cond (not t) (scans.Class rel ∷ missing kept more) (missing kept more)) is) ∙ lacks in
        absurd (cc never)

    by_kind : (k : Kind) → missing kept (build_scans k rel) ≡ [] → is_kept kept (scans.Class rel) ≡ true
    by_kind Table lacks = first (scans.Attribute rel ∷ scans.AttrDef rel ∷ scans.Constraint rel ∷ scans.Index rel ∷ scans.Trigger rel ∷ []) (is_kept kept (scans.Class rel)) refl lacks
    by_kind Index lacks = first (scans.IndexRow rel ∷ []) (is_kept kept (scans.Class rel)) refl lacks

-- so it is pinned where it is opened
pub opens_pinned : (s : Progress) (new : LocalCaches) (rel : Oid) (kind : Kind) → Acts s → want_of (plan_at s.opens s.exec) ≡ wants.Open rel kind → (is_kept (kept_at s) (scans.Class rel) ≡ true → is_pinned new rel ≡ true) → ((other : Oid) → other ≢ rel → is_pinned new other ≡ is_pinned s.caches other) → PinsMore s.caches new (record { rel = rel; kind = kind } ∷ [])
opens_pinned s new rel kind acts wants_it pinned others other = by (same_oid rel other) refl
  where
    free : scans_missing s ≡ []
    free = none_missing s acts.command (and_true (owes_nothing acts.command s) (gives_left (facts_at s) (work_at s) (plan_at s.opens s.exec)) acts.acts).0

    built_of : Want → List Purpose
    built_of (wants.Open of as_kind) = build_scans as_kind of
    built_of want = []

    whole : (p : Plan) → plan_at s.opens s.exec ≡ p → want_of p ≡ wants.Open rel kind → missing (kept_at s) (build_scans kind rel) ≡ []
    whole (Do (Open of as_kind) rest) at wanted = sym (ap (λ w. missing (kept_at s) (built_of w)) wanted) ∙ right_none (builds_missing (kept_at s) s.opened) (act_missing s (Do (Open of as_kind) rest)) (lacks_none s (Open of as_kind) rest at free)
    whole (Do (Lookup name mode) rest) at wanted = absurd (cc)
    whole (Do (Search scan) rest) at wanted = absurd (cc)
    whole (Do (Read scan) rest) at wanted = absurd (cc)
    whole (Do (Lock of mode) rest) at wanted = absurd (cc)
    whole (Do (Write draft) rest) at wanted = absurd (cc)
    whole (Done told) at wanted = absurd (cc)
    whole (Fails error) at wanted = absurd (cc)
    whole (Absent name) at wanted = absurd (cc)

    is : is_pinned new rel ≡ true
    is = pinned (row_kept (kept_at s) kind rel (whole (plan_at s.opens s.exec) refl wants_it))

    last : (t : Bool) → t ≡ (t || false)
    last true = refl
    last false = refl

    by : (t : Bool) → same_oid rel other ≡ t → is_pinned new other ≡ (is_pinned s.caches other || (t || false))
    by true same = sym (ap (is_pinned new) (oid_is rel other same)) ∙ is ∙ sym (or_right (is_pinned s.caches other) true refl)
    by false apart = others other (λ same. let never : true ≡ false = sym (eq-eqb rel.0 rel.0 refl) ∙ ap (same_oid rel) (sym same) ∙ apart in absurd (cc never)) ∙ last (is_pinned s.caches other)
