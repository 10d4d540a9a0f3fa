-- What descriptors lack, as what is kept changes.
use Rattle.std.proofs.Common.{◌≡◌, ◌∙◌, Bool, true, false, not, Some, List, [], ◌∷◌, ◌&&◌, ◌||◌, cond, refl, ap, is_some, ℕ, ◌==◌}
use Rattle.std.specs.List.{find, AllByRecursion}
use Rattle.std.proofs.Math.Bool.{and-false}
use Rattle.std.proofs.lemmas.Bool.{both_ways, false_from_ne_true}
use Rattle.base_types.specs.Scans.{same_oid, same_scan, scan_key, build_scans}
use Rattle.base_types.specs.declared.kind.Kind.TheVariants.{Table, Index}
use Rattle.base_types.specs.declared.scan.Purpose.TheVariants as scans
use Rattle.std.specs.Str.{bytes_eq}
use Rattle.inval_messages.specs.Messages.{covers}
use Rattle.inval_messages.specs.declared.message.Message.TheVariants.{Cat, Rel}
use Rattle.inval_messages.specs.Types.{CacheId}
use Rattle.backend_core.specs.Types.{Oid, Kind, Purpose, Message, Opening}
use Rattle.cacheless.specs.Suspects.{lacks}
use Rattle.cacheless.proofs.Lacking.{lacks_more}
use Rattle.backend_core.proofs.Stacking.Among.{find_all}

-- with more kept what is whole stays so
pub whole_more : (has now : Purpose → Bool) (o : Opening) → ((d : Purpose) → has d ≡ true → now d ≡ true) → lacks has o ≡ false → lacks now o ≡ false
whole_more has now o keeps whole = false_from_ne_true (lacks now o) (λ lacking. both_ways _ whole (lacks_more now has o (λ d none. false_from_ne_true (has d) (λ some. both_ways _ none (keeps d some))) lacking))

-- what is whole keeps each of its scans
pub whole_each : (has : Purpose → Bool) (xs : List Purpose) → is_some (find (λ d. not (has d)) xs) ≡ false → AllByRecursion (λ d. has d ≡ true) xs
whole_each has [] whole = tt
whole_each has (x ∷ xs) whole = by_test (has x) refl whole (whole_each has xs)
  where
    by_test : (t : Bool) → has x ≡ t → is_some (cond (not t) (Some x) (find (λ d. not (has d)) xs)) ≡ false → (is_some (find (λ d. not (has d)) xs) ≡ false → AllByRecursion (λ d. has d ≡ true) xs) → AllByRecursion (λ d. has d ≡ true) (x ∷ xs)
    by_test true at later more = (at, more later)
    by_test false at here more = absurd (cc here)

found_same : (has now : Purpose → Bool) (xs : List Purpose) → AllByRecursion (λ d. now d ≡ has d) xs → is_some (find (λ d. not (now d)) xs) ≡ is_some (find (λ d. not (has d)) xs)
found_same has now [] all = refl
found_same has now (x ∷ xs) all = (λ i. is_some (cond (not (all.0 i)) (Some x) (find (λ d. not (now d)) xs))) ∙ by_test (has x) (found_same has now xs all.1)
  where
    by_test : (t : Bool) → is_some (find (λ d. not (now d)) xs) ≡ is_some (find (λ d. not (has d)) xs) → is_some (cond (not t) (Some x) (find (λ d. not (now d)) xs)) ≡ is_some (cond (not t) (Some x) (find (λ d. not (has d)) xs))
    by_test true more = more
    by_test false more = refl

-- where as much is kept of its scans it lacks as much
pub lacks_same : (has now : Purpose → Bool) (o : Opening) → AllByRecursion (λ d. now d ≡ has d) (build_scans o.kind o.rel) → lacks now o ≡ lacks has o
lacks_same has now o all = found_same has now (build_scans o.kind o.rel) all

-- what is kept once a message is executed
abbrev pub spared : Message → (Purpose → Bool) → Purpose → Bool
spared message has = λ d. not (covers d message) && has d

pub spared_less : (message : Message) (has : Purpose → Bool) (d : Purpose) → has d ≡ false → spared message has d ≡ false
spared_less message has d none = ap (λ t. not (covers d message) && t) none ∙ and-false (not (covers d message))

-- a message for a catalog cache takes nothing from a descriptor
each_spared_cat : (cache : CacheId) (hash : ℕ) (has : Purpose → Bool) (kind : Kind) (rel : Oid) → AllByRecursion (λ d. spared (Cat cache hash) has d ≡ has d) (build_scans kind rel)
each_spared_cat cache hash has Table rel = (refl, (refl, (refl, (refl, (refl, (refl, tt))))))
each_spared_cat cache hash has Index rel = (refl, (refl, tt))

pub spared_cat : (cache : CacheId) (hash : ℕ) (has : Purpose → Bool) (o : Opening) → lacks (spared (Cat cache hash) has) o ≡ lacks has o
spared_cat cache hash has o = lacks_same has (spared (Cat cache hash) has) o (each_spared_cat cache hash has o.kind o.rel)

-- nor does one for another relation
each_spared_rel : (of : Oid) (has : Purpose → Bool) (kind : Kind) (rel : Oid) → same_oid of rel ≡ false → AllByRecursion (λ d. spared (Rel of) has d ≡ has d) (build_scans kind rel)
each_spared_rel of has Table rel apart = (one (scans.Class rel), (one (scans.Attribute rel), (one (scans.AttrDef rel), (one (scans.Constraint rel), (one (scans.Index rel), (one (scans.Trigger rel), tt))))))
  where
    one : (d : Purpose) → (not (same_oid of rel) && has d) ≡ has d
    one d = ap (λ t. not t && has d) apart
each_spared_rel of has Index rel apart = (one (scans.Class rel), (one (scans.IndexRow rel), tt))
  where
    one : (d : Purpose) → (not (same_oid of rel) && has d) ≡ has d
    one d = ap (λ t. not t && has d) apart

pub spared_rel : (of : Oid) (has : Purpose → Bool) (o : Opening) → same_oid of o.rel ≡ false → lacks (spared (Rel of) has) o ≡ lacks has o
spared_rel of has o apart = lacks_same has (spared (Rel of) has) o (each_spared_rel of has o.kind o.rel apart)

-- one for the relation takes its first scan
told_lacks : (of : Oid) (has : Purpose → Bool) (kind : Kind) (rel : Oid) → same_oid of rel ≡ true → is_some (find (λ d. not (spared (Rel of) has d)) (build_scans kind rel)) ≡ true
told_lacks of has Table rel same = ap (λ t. is_some (cond (not (not t && has (scans.Class rel))) (Some (scans.Class rel)) (find (λ d. not (spared (Rel of) has d)) (scans.Attribute rel ∷ scans.AttrDef rel ∷ scans.Constraint rel ∷ scans.Index rel ∷ scans.Trigger rel ∷ [])))) same
told_lacks of has Index rel same = ap (λ t. is_some (cond (not (not t && has (scans.Class rel))) (Some (scans.Class rel)) (find (λ d. not (spared (Rel of) has d)) (scans.IndexRow rel ∷ [])))) same

pub spared_told : (of : Oid) (has : Purpose → Bool) (o : Opening) → same_oid of o.rel ≡ true → lacks (spared (Rel of) has) o ≡ true
spared_told of has o same = told_lacks of has o.kind o.rel same

-- where nothing is kept each descriptor lacks scans
pub nothing_lacks : (o : Opening) → lacks (λ d. false) o ≡ true
nothing_lacks o = by_kind o.kind
  where
    by_kind : (kind : Kind) → is_some (find (λ d. true) (build_scans kind o.rel)) ≡ true
    by_kind Table = refl
    by_kind Index = refl

-- what is kept with a scan
abbrev pub with_scan : Purpose → (Purpose → Bool) → Purpose → Bool
with_scan scan has = λ d. same_scan scan d || has d

pub with_more : (scan : Purpose) (has : Purpose → Bool) (d : Purpose) → has d ≡ true → with_scan scan has d ≡ true
with_more scan has d some = by_same (same_scan scan d)
  where
    by_same : (t : Bool) → (t || has d) ≡ true
    by_same true = refl
    by_same false = some

-- the scans of a descriptor are of its relation
pub each_of : (kind : Kind) (rel : Oid) → AllByRecursion (λ d. (scan_key d).1 ≡ rel.0) (build_scans kind rel)
each_of Table rel = (refl, (refl, (refl, (refl, (refl, (refl, tt))))))
each_of Index rel = (refl, (refl, tt))

apart_same : (scan d : Purpose) (of rel : Oid) → (scan_key scan).1 ≡ of.0 → (scan_key d).1 ≡ rel.0 → same_oid of rel ≡ false → same_scan scan d ≡ false
apart_same scan d of rel at here apart = ap (λ t. (scan_key scan).0 == (scan_key d).0 && bytes_eq (scan_key scan).2 (scan_key d).2 && t) ((λ i. at i == here i) ∙ apart) ∙ and-false ((scan_key scan).0 == (scan_key d).0 && bytes_eq (scan_key scan).2 (scan_key d).2)

each_apart : (has : Purpose → Bool) (scan : Purpose) (of rel : Oid) (xs : List Purpose) → (scan_key scan).1 ≡ of.0 → same_oid of rel ≡ false → AllByRecursion (λ d. (scan_key d).1 ≡ rel.0) xs → AllByRecursion (λ d. with_scan scan has d ≡ has d) xs
each_apart has scan of rel [] at apart all = tt
each_apart has scan of rel (d ∷ xs) at apart all = (ap (λ t. t || has d) (apart_same scan d of rel at all.0 apart), each_apart has scan of rel xs at apart all.1)

-- a scan of one relation's descriptor leaves what another one lacks
pub scan_apart : (has : Purpose → Bool) (scan : Purpose) (built other : Opening) → find (λ d. not (has d)) (build_scans built.kind built.rel) ≡ Some scan → same_oid built.rel other.rel ≡ false → lacks (with_scan scan has) other ≡ lacks has other
scan_apart has scan built other is apart = lacks_same has (with_scan scan has) other
    (each_apart has scan built.rel other.rel (build_scans other.kind other.rel) (find_all (λ d. (scan_key d).1 ≡ built.rel.0) (λ d. not (has d)) (build_scans built.kind built.rel) scan (each_of built.kind built.rel) is) apart (each_of other.kind other.rel))
