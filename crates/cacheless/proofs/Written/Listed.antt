-- A list of messages is of a command that has written.
use Rattle.std.proofs.Common.{◌≡◌, ◌≤◌, ◌<◌, ◌∙◌, ◌==◌, ◌&&◌, ◌||◌, ℕ, Bool, true, false, List, [], ◌∷◌, ◌++◌, refl, sym, ap, subst, arith}
use Rattle.std.specs.List.{AllByRecursion}
use Rattle.std.proofs.Math.Bool.{or-true}
use Rattle.std.proofs.lemmas.Bool.{eq-eqb, eqb-true, eqb-false}
use Rattle.inval_messages.specs.Lists.{Written}
use Rattle.event_kinds.specs.declared.entry.Event.TheVariants as events
use Rattle.history_model.specs.Sound.{MayComeNext, IsSound}
use Rattle.history_model.specs.Sent.{ends_transaction, lists_by, lists_of, written_by}
use Rattle.history_model.specs.Transactions.{running_transaction_of}
use Rattle.history_model.specs.Transactions.{has_written, is_write}
use Rattle.history_model.proofs.Every.{every-append, every-both, every-filter, every-weaker}
use Rattle.history_model.proofs.Prefixes.{each-keeps}
use Rattle.history_model.proofs.Reading.{has_written-more, lists_of-own, lists_of-other}
use Rattle.cacheless.specs.Types.{Entry, Event}

-- what holds of all lists holds after an event, if it holds of the list of a write
lists_keep : (P : Written → Type 0) (history : List Entry) (b c : ℕ) (event : Event) (old : List Written) → AllByRecursion P old → (is_write event ≡ true → (list : Written) → list.command ≡ c → P list) → AllByRecursion P (lists_by history b c event old)
lists_keep P history b c (events.Write xid items) old all new = every-append P old (written_by history b c items ∷ []) all (new refl (written_by history b c items) refl, tt)
lists_keep P history b c (events.Gone from) old all new = every-filter P _ old (every-weaker P (λ list. _ ≡ true → P list) (λ list p is. p) old all)
lists_keep P history b c (events.Release from) old all new = by_end (ends_transaction from (running_transaction_of history b))
  where
    by_end : (t : Bool) → AllByRecursion P (elim t [ true ↦ [] | false ↦ old ])
    by_end true = tt
    by_end false = all
lists_keep P history b c event old all new = all

module _ (b : ℕ) where
  HasCome : List Entry → Written → Type 0
  HasCome history list = has_written history b list.command ≡ true

  still : (history : List Entry) (e : Entry) (list : Written) → HasCome history list → HasCome (history ++ e ∷ []) list
  unfolding HasCome
  still history e list is = has_written-more history e b list.command ∙ ap (λ t. t || ((e.backend == b) && (e.command == list.command) && is_write e.event)) is

  new_list_has_come : (history : List Entry) (e : Entry) → (e.backend == b) ≡ true → is_write e.event ≡ true → (list : Written) → list.command ≡ e.command → HasCome (history ++ e ∷ []) list
  unfolding HasCome
  new_list_has_come history e own writes list is =
      has_written-more history e b list.command
      ∙ (λ i. has_written history b list.command || (own i && eq-eqb e.command list.command (sym is) i && writes i)) ∙ or-true (has_written history b list.command)

  come_more : (history : List Entry) (e : Entry) → AllByRecursion (HasCome history) (lists_of history b) → MayComeNext history e → AllByRecursion (HasCome (history ++ e ∷ [])) (lists_of (history ++ e ∷ []) b)
  come_more history e all comes = by_owner (e.backend == b) refl
    where
      carried : AllByRecursion (HasCome (history ++ e ∷ [])) (lists_of history b)
      carried = every-weaker (HasCome history) (HasCome (history ++ e ∷ [])) (still history e) (lists_of history b) all

      by_owner : (t : Bool) → (e.backend == b) ≡ t → AllByRecursion (HasCome (history ++ e ∷ [])) (lists_of (history ++ e ∷ []) b)
      by_owner true own = subst (AllByRecursion (HasCome (history ++ e ∷ []))) (sym (lists_of-own history e b own)) (lists_keep (HasCome (history ++ e ∷ [])) history b e.command e.event (lists_of history b) carried (new_list_has_come history e own))
      by_owner false other = subst (AllByRecursion (HasCome (history ++ e ∷ []))) (sym (lists_of-other history e b other)) carried

  lists_have_come : (history : List Entry) → IsSound history → AllByRecursion (HasCome history) (lists_of history b)
  lists_have_come history sound = each-keeps MayComeNext (λ h. AllByRecursion (HasCome h) (lists_of h b)) tt come_more history sound

  -- each is of a command that has written
  pub all_written : (history : List Entry) → IsSound history → AllByRecursion (λ list. has_written history b list.command ≡ true) (lists_of history b)
  unfolding HasCome
  all_written history sound = lists_have_come history sound

  -- so where a command hasn't written and none is later, all are of commands before it
  pub lists_before_it : (history : List Entry) (c : ℕ) → IsSound history → has_written history b c ≡ false → AllByRecursion (λ list. list.command ≤ c) (lists_of history b) → AllByRecursion (λ list. list.command < c) (lists_of history b)
  unfolding HasCome
  lists_before_it history c sound none low =
      every-weaker (λ (list : Written). (list.command ≤ c) × HasCome history list) (λ (list : Written). list.command < c) before (lists_of history b)
      (every-both (λ (list : Written). list.command ≤ c) (HasCome history) (lists_of history b) low (lists_have_come history sound))
    where
      before : (list : Written) → (list.command ≤ c) × HasCome history list → list.command < c
      before list (low, come) = by_test (list.command == c) refl
        where
          by_test : (t : Bool) → (list.command == c) ≡ t → list.command < c
          by_test true same = let never : true ≡ false = sym come ∙ ap (has_written history b) (eqb-true list.command c same) ∙ none in absurd (cc)
          by_test false differs = omega (arith, low, eqb-false list.command c differs)
