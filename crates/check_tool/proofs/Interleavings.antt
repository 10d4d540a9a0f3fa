-- How the entries of a list come one after another, and whether anything is left to come.
use Rattle.std.proofs.Common.{◌≡◌, ◌≤◌, ◌<◌, ◌+◌, ◌∙◌, ℕ, Bool, true, false, not, Option, None, Result, Ok, Err, IfOk, List, [], ◌∷◌, ◌++◌, length, take, filter, get_or, slice_get, replicate, refl, sym, ap, subst, arith}
use Rattle.std.specs.List.{range_with_len}
use Rattle.std.proofs.lemmas.List.{take-take, take_all, length-take-le, length-replicate}
use Rattle.history_model.proofs.ListSteps.{prefix_more}
use Rattle.history_ledger.specs.Longest.{IsLongest}
use Rattle.history_model.proofs.Prefixes.{EachEntry-prefix}
use Rattle.cacheless.specs.declared.check_kind.CheckKind.TheVariants.{Walk, Run}
use Rattle.cacheless.specs.Output.{IsInterleaved, HasAllCome, HaveStopped}
use Rattle.cacheless.specs.Schedule.{FollowsSchedule, AreLooksTrue, has_stopped, turns_left}
use Rattle.by_backend.proofs.PassingNumbers.{none_passes, each_fails}
use Rattle.check_tool.specs.Types.{CheckKind, Scenario, Entry}
use Rattle.check_tool.specs.Reached.{HaveFollowed, AreInterleaved, due_after}
use Rattle.check_tool.specs.Turning.{TellStopped}
use Rattle.check_tool.specs.declared.interleaved.Interleaved.{Interleaved}
use Rattle.check_tool.proofs.Longest.{longest_all, longest_both}
use Rattle.check_tool.proofs.Schedule.{stopped_none}

-- what holds of a history holds of its prefixes
pub interleaved-prefix : (kind : CheckKind) (scenario : Scenario) (history rest : List Entry) → IsInterleaved kind scenario (history ++ rest) → IsInterleaved kind scenario history
interleaved-prefix Walk scenario history rest all = record { follows = EachEntry-prefix _ history rest all.follows; looks = EachEntry-prefix _ history rest all.looks }
interleaved-prefix Run scenario history rest all = tt

-- ---- as a walk

-- of what looks truly the turns are judged
pub as_walked : (scenario : Scenario) (entries : List Entry) (looks followed : ℕ) (turn : Option ℕ) → IsLongest AreLooksTrue entries looks → HaveFollowed scenario (take looks entries) followed turn → AreInterleaved Walk scenario entries followed turn
as_walked scenario entries looks followed turn looked turns = record {
  longest = record { within = longest.within; holds = record { follows = longest.holds.1; looks = longest.holds.0 }; most = λ less more. longest.most less (more.looks, more.follows) };
  due_is = ap (λ seen. slice_get (turns_left scenario seen) 0) (sym (take-take followed looks entries (omega (arith, turns.longest.within, length-take-le looks entries looked.within)))) ∙ turns.turn_is;
}
  where
    longest : IsLongest (λ history. AreLooksTrue history × FollowsSchedule scenario history) entries followed
    longest = longest_both AreLooksTrue (FollowsSchedule scenario) (λ history rest. EachEntry-prefix _ history rest) entries looks followed looked turns.longest

-- so is what a call answers that judges the turns
pub walked_so : {E : Type 0} (scenario : Scenario) (entries : List Entry) (looks : ℕ) (result : Result Interleaved E) → IsLongest AreLooksTrue entries looks → IfOk result (λ f. HaveFollowed scenario (take looks entries) f.entries f.due)
    → IfOk result (λ i. AreInterleaved Walk scenario entries i.entries i.due)
walked_so scenario entries looks (Ok far) looked followed = as_walked scenario entries looks far.entries far.due looked followed
walked_so scenario entries looks (Err refusal) looked followed = tt

-- ---- as a run

-- of each backend it is told whether it has stopped
pub record AreTold (scenario : Scenario) (seen : List Entry) (stopped : List Bool) : Type 0 where
  pub tell : TellStopped seen stopped
  pub count : length stopped ≡ scenario.backends

-- before the first entry
pub told_none : (scenario : Scenario) (stopped : List Bool) → stopped ≡ replicate scenario.backends false → AreTold scenario [] stopped
told_none scenario stopped same = record { tell = stopped_none scenario.backends stopped same; count = ap length same ∙ length-replicate scenario.backends false }

-- after one more
pub told_more : (scenario : Scenario) (entries : List Entry) (at : ℕ) (e d : Entry) (stopped later : List Bool) → at < length entries → e ≡ get_or entries at d → AreTold scenario (take at entries) stopped
    → ((seen : List Entry) → TellStopped seen stopped → TellStopped (seen ++ e ∷ []) later) → length later ≡ length stopped → AreTold scenario (take (at + 1) entries) later
told_more scenario entries at e d stopped later within is held noted count = record {
  tell = subst (λ seen. TellStopped seen later) (sym (prefix_more entries at e d within is)) (noted (take at entries) held.tell);
  count = count ∙ held.count;
}

-- all entries come as those of a run; the first backend that hasn't stopped by them
pub as_run : (scenario : Scenario) (entries : List Entry) (at : ℕ) (stopped given : List Bool) (due : Option ℕ) → length entries ≤ at → AreTold scenario (take at entries) stopped → given ≡ stopped
    → ((seen : List Entry) → TellStopped seen given → due ≡ slice_get (filter (λ b. not (has_stopped seen b)) (range_with_len 1 (length given))) 0) → AreInterleaved Run scenario entries (length entries) due
as_run scenario entries at stopped given due past held same first = record {
  longest = longest_all (IsInterleaved Run scenario) entries (length entries) (omega arith) tt;
  due_is = ap (λ seen. slice_get (due_after Run scenario seen) 0) (take_all (length entries) entries (omega arith))
      ∙ ap (λ n. slice_get (filter (λ b. not (has_stopped entries b)) (range_with_len 1 n)) 0) (sym (ap length same ∙ held.count))
      ∙ sym (first entries (subst (TellStopped entries) (sym same) (subst (λ seen. TellStopped seen stopped) (take_all at entries past) held.tell)));
}

-- ---- whether anything is left

none_first : {X : Type 0} (xs : List X) → slice_get xs 0 ≡ None → xs ≡ []
none_first [] none = refl
none_first (x ∷ xs) none = absurd cc

-- where nothing is left, no backend is named, and the other way round
pub none_due : (kind : CheckKind) (scenario : Scenario) (history : List Entry) (due : Option ℕ) → slice_get (due_after kind scenario history) 0 ≡ due → (due ≡ None → HasAllCome kind scenario history) × (HasAllCome kind scenario history → due ≡ None)
none_due Walk scenario history due first = (λ none. none_first (turns_left scenario history) (first ∙ none), λ whole. sym first ∙ ap (λ turns. slice_get turns 0) whole)
none_due Run scenario history due first = (λ none. all_stopped (none_first (due_after Run scenario history) (first ∙ none)), λ whole. sym first ∙ ap (λ left. slice_get left 0) (none_runs whole))
  where
    all_stopped : due_after Run scenario history ≡ [] → HaveStopped scenario history
    all_stopped none b number = not_false (has_stopped history b) (each_fails (λ c. not (has_stopped history c)) 1 scenario.backends none b number.0 (omega (arith, number.1)))
      where
        not_false : (stopped : Bool) → not stopped ≡ false → stopped ≡ true
        not_false true is = refl
        not_false false is = absurd cc

    none_runs : HaveStopped scenario history → due_after Run scenario history ≡ []
    none_runs all = none_passes (λ c. not (has_stopped history c)) 1 scenario.backends (λ c from to. ap not (all c (from, omega (arith, to))))
