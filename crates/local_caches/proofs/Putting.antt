-- What is kept once a scan is put or messages are executed.
use Rattle.std.proofs.Common.{◌≡◌, ◌≢◌, ◌<◌, ◌+◌, ◌∙◌, ◌⊎◌, inl, inr, ◌||◌, ℕ, Bool, true, false, not, Option, None, Some, List, [], ◌∷◌, length, take, get_or, sym, ap, refl, if◌then◌else◌}
use Rattle.std.specs.List.{list_any}
use Rattle.std.proofs.lemmas.List.Folds.{list_any_more}
use Rattle.base_types.specs.Scans.{same_scan}
use Rattle.base_types.proofs.SameScan.{same_scan-true, same_scan-itself}
use Rattle.inval_messages.specs.Messages.{covers}
use Rattle.local_caches.specs.Types.{Oid, Row, Purpose, Message, Lookup, Home}
use Rattle.local_caches.specs.declared.part.Part.{Part}
use Rattle.local_caches.specs.Kept.{Read, Kept, kept_with, kept_spared}
use Rattle.local_caches.specs.Homes.{home_of}
use Rattle.local_caches.specs.CatCaches.{looked_up, PutsLookup}
use Rattle.local_caches.specs.Parts.{part_kept, read_part, IsPartOf}
use Rattle.local_caches.specs.Descriptors.{parts_of, AddsPart}
use Rattle.local_caches.specs.Caches.{read_at, kept_of}
use Rattle.local_caches.specs.declared.home.Home.TheVariants as homes
use Rattle.local_caches.specs.declared.local_caches.LocalCaches.{LocalCaches}
use Rattle.local_caches.proofs.Homes.{one_scan}
use Rattle.local_caches.proofs.OfDescriptors.{same_or_other, found_now, found_still}

module _ (old new : LocalCaches) (scan : Purpose) (rows : List Row) (place : ℕ) where
  -- one scan is new, and the others have what they had
  with_one : read_at new scan (home_of scan) ≡ Some (record { rows = rows; at = place }) → ((other : Purpose) → same_scan scan other ≡ false → read_at new other (home_of other) ≡ read_at old other (home_of other))
      → kept_of new ≡ kept_with scan rows place (kept_of old)
  unfolding kept_of
  with_one there still = λ i. λ other. by other (same_scan scan other) refl i
    where
      by : (other : Purpose) (t : Bool) → same_scan scan other ≡ t → read_at new other (home_of other) ≡ (if same_scan scan other then Some (record { rows = rows; at = place }) else read_at old other (home_of other))
      by other true is = ap (λ s. read_at new s (home_of s)) (sym (same_scan-true scan other is)) ∙ there ∙ sym (ap (λ t. if t then Some (record { rows = rows; at = place }) else read_at old other (home_of other)) is)
      by other false is = still other is ∙ sym (ap (λ t. if t then Some (record { rows = rows; at = place }) else read_at old other (home_of other)) is)

  -- another scan is another one
  differs_from : (other : Purpose) → same_scan scan other ≡ false → scan ≢ other
  differs_from other is same = let never : false ≡ true = sym is ∙ ap (same_scan scan) (sym same) ∙ same_scan-itself scan in absurd (cc)

  -- a scan is put into a catalog cache
  pub put_cat : (lookup : Lookup) → home_of scan ≡ homes.Cat lookup → new.descriptors ≡ old.descriptors → PutsLookup old.catalogs new.catalogs lookup rows place → kept_of new ≡ kept_with scan rows place (kept_of old)
  put_cat lookup here same puts = with_one (ap (read_at new scan) here ∙ puts.at) (λ other is. by other (differs_from other is) (home_of other) refl)
    where
      by : (other : Purpose) → scan ≢ other → (home : Home) → home_of other ≡ home → read_at new other (home_of other) ≡ read_at old other (home_of other)
      by other differs (homes.Cat found) is = ap (read_at new other) is ∙ puts.others found (λ one. differs (one_scan scan other lookup here (is ∙ ap homes.Cat one))) ∙ sym (ap (read_at old other) is)
      by other differs (homes.Rel rel) is = ap (read_at new other) is ∙ ap (λ d. part_kept (parts_of d rel) other) same ∙ sym (ap (read_at old other) is)

  -- a scan is added to a descriptor
  pub put_rel : (rel : Oid) (part : Part) → home_of scan ≡ homes.Rel rel → new.catalogs ≡ old.catalogs → part_kept (parts_of old.descriptors rel) scan ≡ None → IsPartOf part scan rows place → AddsPart old.descriptors new.descriptors rel part → kept_of new ≡ kept_with scan rows place (kept_of old)
  put_rel rel part here same none it adds =
      with_one (ap (read_at new scan) here ∙ ap (λ parts. part_kept parts scan) adds.at ∙ found_now (parts_of old.descriptors rel) part scan none (ap (λ s. same_scan s scan) it.of ∙ same_scan-itself scan) ∙ reads) (λ other is. by other is (home_of other) refl)
    where
      reads : Some (read_part part) ≡ Some (record { rows = rows; at = place })
      reads = rw (it.gave, it.at) refl

      there : (other : Purpose) → same_scan scan other ≡ false → (own : Oid) → (own ≡ rel) ⊎ (own ≢ rel) → part_kept (parts_of new.descriptors own) other ≡ part_kept (parts_of old.descriptors own) other
      there other is own (inl one) =
          ap (λ r. part_kept (parts_of new.descriptors r) other) one ∙ ap (λ parts. part_kept parts other) adds.at ∙ found_still (parts_of old.descriptors rel) part other (ap (λ s. same_scan s other) it.of ∙ is) ∙ sym (ap (λ r. part_kept (parts_of old.descriptors r) other) one)
      there other is own (inr differs) = ap (λ parts. part_kept parts other) (adds.others own differs)

      by : (other : Purpose) → same_scan scan other ≡ false → (home : Home) → home_of other ≡ home → read_at new other (home_of other) ≡ read_at old other (home_of other)
      by other is (homes.Cat found) at = ap (read_at new other) at ∙ ap (λ c. looked_up c found) same ∙ sym (ap (read_at old other) at)
      by other is (homes.Rel own) at = ap (read_at new other) at ∙ there other is own (same_or_other own rel) ∙ sym (ap (read_at old other) at)

-- messages one after the other
pub spared_more : (kept : Kept) (ms : List Message) (i : ℕ) (d : Message) → i < length ms → kept_spared (get_or ms i d ∷ []) (kept_spared (take i ms) kept) ≡ kept_spared (take (i + 1) ms) kept
spared_more kept ms i d within = λ j. λ scan. by scan j
  where
    both : (before last : Bool) (k : Option Read) → (if not (last || false) then (if not before then k else None) else None) ≡ (if not (before || last) then k else None)
    both true true k = refl
    both true false k = refl
    both false true k = refl
    both false false k = refl

    by : (scan : Purpose) → kept_spared (get_or ms i d ∷ []) (kept_spared (take i ms) kept) scan ≡ kept_spared (take (i + 1) ms) kept scan
    by scan = both (list_any (covers scan) (take i ms)) (covers scan (get_or ms i d)) (kept scan) ∙ ap (λ t. if not t then kept scan else None) (sym (list_any_more (covers scan) ms i d within))
