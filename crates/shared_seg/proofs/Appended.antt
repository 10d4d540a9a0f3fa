-- What an entry does to promised places.
use Rattle.std.proofs.Common.{◌≡◌, ◌≢◌, ◌<◌, ◌-◌, ◌∙◌, ℕ, List, [], ◌∷◌, ◌++◌, length, slice_set, arith, refl, sym, ap}
use Rattle.std.proofs.lemmas.List.{get_or-set_other}
use Rattle.std.proofs.lemmas.Grind.{get_or-set_at}
use Rattle.std.proofs.lemmas.Option.{unwrap_or-slice_get}
use Rattle.event_kinds.specs.declared.entry.Entry.{Entry}
use Rattle.history_model.specs.Sound.{MayComeNext}
use Rattle.seg_calls.specs.Calls.{places_for, Appends}
use Rattle.shared_seg.specs.Places.{promised_in}

pub promised-own : (promised : List ℕ) (b n : ℕ) → b < length promised → promised_in (slice_set promised b n) b ≡ n
promised-own promised b n within = unwrap_or-slice_get (slice_set promised b n) b 0 ∙ get_or-set_at promised b b n 0 refl within

pub promised-other : (promised : List ℕ) (b n a : ℕ) → a ≢ b → promised_in (slice_set promised b n) a ≡ promised_in promised a
promised-other promised b n a other = unwrap_or-slice_get (slice_set promised b n) a 0 ∙ get_or-set_other promised b a n 0 other ∙ sym (unwrap_or-slice_get promised a 0)

-- an entry after the same ones
pub pushed : (old same new : List Entry) (e : Entry) → new ≡ same ++ e ∷ [] → same ≡ old → new ≡ old ++ e ∷ []
pushed old same new e entries is = entries ∙ ap (λ l. l ++ e ∷ []) is

-- an entry that takes a place of its backend
pub appends_placed : (old new : List Entry) (had has : List ℕ) (e : Entry) → places_for e.event ≡ 1 → new ≡ old ++ e ∷ [] → MayComeNext old e → has ≡ slice_set had e.backend (promised_in had e.backend - 1) → e.backend < length had
    → Appends old new (promised_in had) (promised_in has) e
appends_placed old new had has e one entries comes taken within = record {
  entries = entries;
  comes = comes;
  own = omega (arith, one, ap (λ l. promised_in l e.backend) taken, promised-own had e.backend (promised_in had e.backend - 1) within);
  most = omega (arith, ap (λ l. promised_in l e.backend) taken, promised-own had e.backend (promised_in had e.backend - 1) within);
  others = λ a other. ap (λ l. promised_in l a) taken ∙ promised-other had e.backend (promised_in had e.backend - 1) a other;
}

-- an entry that takes none
pub appends_free : (old new : List Entry) (had has : List ℕ) (e : Entry) → new ≡ old ++ e ∷ [] → MayComeNext old e → has ≡ had → Appends old new (promised_in had) (promised_in has) e
appends_free old new had has e entries comes same = record {
  entries = entries;
  comes = comes;
  own = omega (arith, ap (λ l. promised_in l e.backend) same);
  most = omega (arith, ap (λ l. promised_in l e.backend) same);
  others = λ a other. ap (λ l. promised_in l a) same;
}
