-- What is found among the scans of a descriptor, and what becomes of them in the relation cache.
use Rattle.std.proofs.Common.{◌≡◌, ◌≢◌, ◌∙◌, ◌⊎◌, inl, inr, true, false, Option, Some, None, List, [], ◌∷◌, ◌++◌, cond, sym, ap, refl}
use Rattle.std.proofs.lemmas.Bool.{cases_eq}
use Rattle.std.proofs.lemmas.List.Folds.{find-append}
use Rattle.std.specs.Option.{option_map, option_or}
use Rattle.std.specs.List.{find}
use Rattle.base_types.specs.Scans.{same_scan}
use Rattle.pin_pool.specs.declared.reference.Ref.{Ref}
use Rattle.rel_cache.specs.Descriptors.{renewed, new_held, closed_once}
use Rattle.rel_cache.specs.Caches.{held_of, HeldUnder, ChangesHeld}
use Rattle.rel_cache.proofs.Whole.{by_number}
use Rattle.local_caches.specs.Types.{Oid, Purpose, Held, RelCache}
use Rattle.local_caches.specs.declared.part.Part.{Part}
use Rattle.local_caches.specs.Parts.{parts_held, pins_held, part_kept, read_part, PutsPart, KeepsParts}

-- relations are one or not
pub same_or_other : (a b : Oid) → (a ≡ b) ⊎ (a ≢ b)
same_or_other a b = by (cases_eq a.0 b.0)
  where
    by : (a.0 ≡ b.0) ⊎ (a.0 ≢ b.0) → (a ≡ b) ⊎ (a ≢ b)
    by (inl is) = inl (by_number a b is)
    by (inr differs) = inr (λ is. differs (ap (λ (o : Oid). o.0) is))

-- a scan that is added is found where it wasn't yet
pub found_now : (parts : List Part) (part : Part) (scan : Purpose) → part_kept parts scan ≡ None → same_scan part.scan scan ≡ true → part_kept (parts ++ part ∷ []) scan ≡ Some (read_part part)
found_now parts part scan none is =
    ap (option_map read_part) (find-append (λ p. same_scan p.scan scan) parts (part ∷ []) ∙ ap (λ o. option_or o (find (λ (p : Part). same_scan p.scan scan) (part ∷ []))) (unfound (find (λ p. same_scan p.scan scan) parts) none) ∙ ap (λ t. cond t (Some part) None) is)
  where
    unfound : (o : Option Part) → option_map read_part o ≡ None → o ≡ None
    unfound None none = refl
    unfound (Some p) none = absurd (cc)

-- of other scans there is what there was
pub found_still : (parts : List Part) (part : Part) (scan : Purpose) → same_scan part.scan scan ≡ false → part_kept (parts ++ part ∷ []) scan ≡ part_kept parts scan
found_still parts part scan differs =
    ap (option_map read_part) (find-append (λ p. same_scan p.scan scan) parts (part ∷ []) ∙ ap (λ t. option_or (find (λ (p : Part). same_scan p.scan scan) parts) (cond t (Some part) None)) differs ∙ last (find (λ p. same_scan p.scan scan) parts))
  where
    last : (o : Option Part) → option_or o None ≡ o
    last None = refl
    last (Some p) = refl

-- a descriptor that is renewed is held under the same reference
pub still_under : (old new : RelCache (List Part)) (rel : Oid) (r : Ref) (parts : List Part) → ChangesHeld old new rel (option_map (renewed parts) (held_of old rel)) → HeldUnder old rel r → HeldUnder new rel r
still_under old new rel r parts changes under = ap (option_map (λ h. h.at)) changes.at ∙ by (held_of old rel) ∙ under
  where
    by : (o : Option (Held (List Part))) → option_map (λ h. h.at) (option_map (renewed parts) o) ≡ option_map (λ h. h.at) o
    by None = refl
    by (Some h) = refl

-- one that is renewed has these scans, and the pins that it had
pub record Renews (old new : RelCache (List Part)) (rel : Oid) (parts : List Part) : Type 0 where
  pub at : parts_held (held_of new rel) ≡ parts
  pub others : (other : Oid) → other ≢ rel → parts_held (held_of new other) ≡ parts_held (held_of old other)
  pub pins : (other : Oid) → pins_held (held_of new other) ≡ pins_held (held_of old other)

pub renews : (old mid new : RelCache (List Part)) (rel : Oid) (r : Ref) (parts : List Part) → HeldUnder old rel r → ChangesHeld old mid rel (option_map (renewed []) (held_of old rel)) → ChangesHeld mid new rel (option_map (renewed parts) (held_of mid rel)) → Renews old new rel parts
renews old mid new rel r parts under empties fills = record {
  at = ap parts_held now ∙ parts_are (held_of old rel) under;
  others = λ other differs. ap parts_held (fills.others other differs ∙ empties.others other differs);
  pins = λ other. by other (same_or_other other rel);
}
  where
    now : held_of new rel ≡ option_map (renewed parts) (option_map (renewed []) (held_of old rel))
    now = fills.at ∙ ap (option_map (renewed parts)) empties.at

    parts_are : (o : Option (Held (List Part))) → option_map (λ h. h.at) o ≡ Some r → parts_held (option_map (renewed parts) (option_map (renewed []) o)) ≡ parts
    parts_are None is = absurd (cc)
    parts_are (Some h) is = refl

    pins_are : (o : Option (Held (List Part))) → pins_held (option_map (renewed parts) (option_map (renewed []) o)) ≡ pins_held o
    pins_are None = refl
    pins_are (Some h) = refl

    by : (other : Oid) → (other ≡ rel) ⊎ (other ≢ rel) → pins_held (held_of new other) ≡ pins_held (held_of old other)
    by other (inl is) = ap (λ o. pins_held (held_of new o)) is ∙ ap pins_held now ∙ pins_are (held_of old rel) ∙ sym (ap (λ o. pins_held (held_of old o)) is)
    by other (inr differs) = ap pins_held (fills.others other differs ∙ empties.others other differs)

-- where it gets back what it had, nothing has changed
pub keeps_parts : (old new : RelCache (List Part)) (rel : Oid) → Renews old new rel (parts_held (held_of old rel)) → (other : Oid) → parts_held (held_of new other) ≡ parts_held (held_of old other)
keeps_parts old new rel it other = by (same_or_other other rel)
  where
    by : (other ≡ rel) ⊎ (other ≢ rel) → parts_held (held_of new other) ≡ parts_held (held_of old other)
    by (inl is) = ap (λ o. parts_held (held_of new o)) is ∙ it.at ∙ sym (ap (λ o. parts_held (held_of old o)) is)
    by (inr differs) = it.others other differs

-- where no reference is given, nothing is held
pub none_held : (cache : RelCache (List Part)) (rel : Oid) → option_map (λ h. h.at) (held_of cache rel) ≡ None → held_of cache rel ≡ None
none_held cache rel none = by (held_of cache rel) none
  where
    by : (o : Option (Held (List Part))) → option_map (λ h. h.at) o ≡ None → o ≡ None
    by None is = refl
    by (Some h) is = absurd (cc)

-- one that begins has the scan, and no pin once it is closed
pub begins : (old mid new : RelCache (List Part)) (rel : Oid) (r : Ref) (part : Part) (parts : List Part) → held_of old rel ≡ None → parts ≡ part ∷ [] → ChangesHeld old mid rel (Some (new_held r parts)) → ChangesHeld mid new rel (option_map closed_once (held_of mid rel)) → PutsPart old new rel part
begins old mid new rel r part parts none are opens closes = record {
  at = ap parts_held now ∙ are ∙ sym (ap (λ o. parts_held o ++ part ∷ []) none);
  others = λ other differs. ap parts_held (closes.others other differs ∙ opens.others other differs);
  pins = λ other. by other (same_or_other other rel);
}
  where
    now : held_of new rel ≡ option_map closed_once (Some (new_held r parts))
    now = closes.at ∙ ap (option_map closed_once) opens.at

    by : (other : Oid) → (other ≡ rel) ⊎ (other ≢ rel) → pins_held (held_of new other) ≡ pins_held (held_of old other)
    by other (inl is) = ap (λ o. pins_held (held_of new o)) is ∙ ap pins_held now ∙ sym (ap pins_held none) ∙ sym (ap (λ o. pins_held (held_of old o)) is)
    by other (inr differs) = ap pins_held (closes.others other differs ∙ opens.others other differs)

-- where all is held that was, each has its scans and pins
pub keeps_held : (old new : RelCache (List Part)) → ((rel : Oid) → held_of new rel ≡ held_of old rel) → KeepsParts old new
keeps_held old new same = record { parts = λ rel. ap parts_held (same rel); pins = λ rel. ap pins_held (same rel) }
