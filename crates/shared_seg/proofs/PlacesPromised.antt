-- What a promise of places does.
use Rattle.std.proofs.Common.{◌≡◌, ◌<◌, ◌≤◌, ◌∙◌, ◌+◌, ℕ, Result, Ok, Err, OnOk, OnErr, List, length, max, get_or, slice_set, sym, ap, subst, arith}
use Rattle.std.proofs.lemmas.List.{length-set, set-get_or}
use Rattle.std.proofs.lemmas.Option.{unwrap_or-slice_get}
use Rattle.base_types.specs.Scenario.{IsBackend}
use Rattle.base_types.specs.declared.memory.NoMemory.{NoMemory}
use Rattle.event_kinds.specs.declared.entry.Entry.{Entry}
use Rattle.seg_calls.specs.Calls.{Promises}
use Rattle.shared_seg.specs.Kept.{Kept, places_in}
use Rattle.shared_seg.specs.Places.{Placed, places_of, promised_in}
use Rattle.shared_seg.proofs.Appended.{promised-own, promised-other}
use Rattle.shared_seg.proofs.Entered.{within}
use Rattle.shared_seg.proofs.PromiseSums.{promised_at}

-- the same, of the equal value that the code has
pub placed_within : (p now : Placed) (b : ℕ) → p ≡ now → b < length now.promised → b < length p.promised
placed_within p now b is within = subst (λ (x : Placed). b < length x.promised) (sym is) within

-- the promise that code reads is the backend's
pub had_of : (p now : Placed) (b had : ℕ) → p ≡ now → b < length now.promised → had ≡ get_or p.promised b had → had ≡ places_of now b
had_of p now b had is within at = subst (λ (x : Placed). had ≡ places_of x b) is (promised_at p.promised b had (placed_within p now b is within) at)

-- a backend that has fewer places is promised more
pub raised : (p now : Placed) (b n had : ℕ) → p ≡ now → had ≡ places_of now b → had < n → slice_set p.promised b n ≡ slice_set now.promised b (max (places_of now b) n)
raised p now b n had is places more = λ i. slice_set (is i).promised b (most i)
  where
    most : n ≡ max (places_of now b) n
    most = omega (arith, places, more)

-- and one that has as many keeps them
pub enough : (p now : Placed) (b n had : ℕ) → p ≡ now → had ≡ places_of now b → n ≤ had → p.promised ≡ slice_set now.promised b (max (places_of now b) n)
enough p now b n had is places few =
    ap (λ (x : Placed). x.promised) is ∙ sym (set-get_or now.promised b 0) ∙ ap (slice_set now.promised b) (sym (unwrap_or-slice_get now.promised b 0) ∙ most)
  where
    most : places_of now b ≡ max (places_of now b) n
    most = omega (arith, places, few)

-- a promise that fails was for more
pub wants_more : {E : Type 0} (had n : ℕ) (result : Result (Unit {0}) E) → had < n → OnErr result (had < n)
wants_more had n (Ok done) more = tt
wants_more had n (Err error) more = more

-- as many backends have promises after it
pub as_many : (promised has : List ℕ) (b n : ℕ) (result : Result (Unit {0}) NoMemory) → OnOk result (has ≡ slice_set promised b n) → OnErr result (has ≡ promised) → length has ≡ length promised
as_many promised has b n (Ok done) ok err = ap length ok ∙ length-set promised b n
as_many promised has b n (Err error) ok err = ap length err

-- what callers see of it
pub promises_made : (k now : Kept) (after : List Entry) (has : List ℕ) (b n : ℕ) (result : Result (Unit {0}) NoMemory) → k ≡ now → IsBackend now.script.backends b → length k.promised ≡ k.script.backends + 1
    → after ≡ k.history → OnOk result (has ≡ slice_set k.promised b (max (promised_in k.promised b) n)) → OnErr result (has ≡ k.promised) → OnErr result (promised_in k.promised b < n)
    → Promises now.history after (places_in now) (promised_in has) b n result
promises_made k now after has b n (Ok done) is backend slots entries ok err more =
    let inside : b < length k.promised = within k.script b (length k.promised) (subst (λ (x : Kept). IsBackend x.script.backends b) (sym is) backend) slots in
    let most : ℕ = max (promised_in k.promised b) n in
    subst (λ (x : Kept). Promises x.history after (places_in x) (promised_in has) b n (Ok done)) is (record {
      entries = entries;
      ok = ap (λ l. promised_in l b) ok ∙ promised-own k.promised b most inside;
      err = tt;
      more = tt;
      others = λ a other. ap (λ l. promised_in l a) ok ∙ promised-other k.promised b most a other;
    })
promises_made k now after has b n (Err error) is backend slots entries ok err more =
    subst (λ (x : Kept). Promises x.history after (places_in x) (promised_in has) b n (Err error)) is
    (record { entries = entries; ok = tt; err = ap (λ l. promised_in l b) err; more = more; others = λ a other. ap (λ l. promised_in l a) err })
