-- The end of a command, as the code works it out, is the end that its facts and its session give.
use Rattle.std.proofs.Common.{◌≡◌, ◌∙◌, ℕ, Bool, true, false, Option, Some, None, List, [], ◌∷◌, refl, sym, ap, length, take, drop, min, slice_get, inl, inr, nat_le, arith, if◌then◌else◌}
use Rattle.std.specs.Option.{option_map_or}
use Rattle.std.proofs.lemmas.Bool.{leb-true, leb-false}
use Rattle.std.proofs.lemmas.Option.{slice_get_cases}
use Rattle.std.proofs.lemmas.List.{drop_all, length-take}
use Rattle.event_kinds.specs.declared.entry.Event.TheVariants as events
use Rattle.inval_messages.specs.Lists.{Written, has_write_from, unsent_after}
use Rattle.history_model.specs.Transactions.{is_visible}
use Rattle.history_model.specs.Sent.{unsent_in}
use Rattle.txn_blocks.specs.declared.transaction.RunningTransaction.{RunningTransaction}
use Rattle.cacheless.specs.Types.{Message, Command, Event}
use Rattle.cacheless.specs.declared.progress.Progress.{Progress}
use Rattle.cacheless.specs.Facts.{Facts}
use Rattle.cacheless.specs.Work.{work_of}
use Rattle.cacheless.specs.Ends.{xid_of, next_sent, next_of_commit, end_in}
use Rattle.cacheless.specs.State.{facts_at, lists_at, unsent_at, end_at, Rest, session_at}
use Rattle.cacheless.specs.Holds.{FactsFit}
use Rattle.cacheless.proofs.Same.{work_same}

-- the end of the running command
pub end_same : (facts : Facts) (command : Command) (s : Progress) (r : Rest) → FactsFit facts s → length r.finished ≡ s.finished → end_in facts command (work_of (session_at s r)) ≡ end_at s command
end_same facts command s r fits count = λ i. end_in (fits i) command (work_same s r count i)

-- the next entry of a commit that is visible, where a message is unsent
pub least_64 : (n : ℕ) → (if nat_le n 64 then n else 64) ≡ min 64 n
least_64 n = by_test (nat_le n 64) refl
  where
    by_test : (t : Bool) → nat_le n 64 ≡ t → (if t then n else 64) ≡ min 64 n
    by_test true within = omega (arith, leb-true n 64 within)
    by_test false past = omega (arith, leb-false n 64 past)

sent_is : (first : ℕ) (unsent : List Message) → (length (take 64 unsent) ≡ 0 → ⊥) → next_sent first (length unsent) ≡ events.Publish (length (take 64 unsent))
sent_is first [] some = absurd (some refl)
sent_is first (message ∷ unsent) some = ap events.Publish (least_64 (length (message ∷ unsent)) ∙ sym (length-take 64 (message ∷ unsent)))

pub unsent_same : (own : Option RunningTransaction) (lists : List Written) → is_visible own ≡ true → unsent_in lists own ≡ unsent_after (option_map_or (λ t. t.published) own 0) lists
unsent_same None lists is = absurd (cc)
unsent_same (Some t) lists is = refl

pub publishes_next : (s : Progress) (first : ℕ) (unsent : List Message) → has_write_from first (lists_at s) ≡ true → is_visible s.running ≡ true → unsent ≡ take 64 (unsent_at s) → (length unsent ≡ 0 → ⊥) → events.Publish (length unsent) ≡ next_of_commit (facts_at s) first
publishes_next s first unsent has shown are some = ap (λ l. events.Publish (length l)) are
    ∙ sym (sent_is first (unsent_at s) (λ none. some (ap length are ∙ none)))
    ∙ ap (λ l. next_sent first (length l)) (sym (unsent_same s.running (lists_at s) shown))
    ∙ sym (λ i. elim (has i) as (λ x. Event) [ true ↦ elim (shown i) as (λ x. Event) [ true ↦ next_sent first (length (unsent_in (lists_at s) s.running)) | false ↦ events.Visible (record { 0 = xid_of (facts_at s) }) ] | false ↦ events.Release first ])

-- after the last command none is left
pub left_none : {X : Type 0} (xs : List X) (n : ℕ) → slice_get xs n ≡ None → drop n xs ≡ []
left_none xs n none = drop_all n xs (elim ((slice_get_cases xs n).1) [ inl some ↦ absurd (cc (none, some.2)) | inr all ↦ all.0 ])
