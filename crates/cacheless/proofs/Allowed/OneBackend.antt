-- Of one backend, where the script has no steps, an output of `run` is one of `walk`.
use Rattle.std.proofs.Common.{◌≡◌, ◌∙◌, ◌==◌, ◌&&◌, ℕ, Bool, true, false, not, Some, List, [], ◌∷◌, ◌++◌, if◌then◌else◌, filter, slice_get, length, refl, sym, ap, subst, arith}
use Rattle.std.specs.Prelude.{nat_lt}
use Rattle.std.specs.List.{range_with_len}
use Rattle.std.proofs.lemmas.Bool.{eq-eqb}
use Rattle.event_kinds.specs.declared.entry.Event.TheVariants as events
use Rattle.history_model.specs.MayFollow.{AllowsEvent, MayFollow}
use Rattle.history_model.specs.MayFollow.{FollowsLife}
use Rattle.history_model.specs.Lives.{is_alive, life_by, life_of}
use Rattle.history_model.specs.declared.life.Life.{Life}
use Rattle.history_model.specs.declared.life.Life.TheVariants.{Unstarted, Alive, Stopped}
use Rattle.history_model.specs.Log.{log_of, log_by, position_of, position_by, is_waiting, waited_by, has_waited}
use Rattle.history_model.proofs.Allows.{legal_follows}
use Rattle.history_model.proofs.Prefixes.{EachEntry-more, EachFrom-both, each-keeps}
use Rattle.history_model.proofs.Reading.{life_of-own, log_of-more, position_of-own}
use Rattle.history_model.proofs.Waiting.{waited_of-own, waited_of-look}
use Rattle.cacheless.specs.Output.{IsAllowed, IsWalked, IsOutput}
use Rattle.cacheless.specs.Plays.{IsNext}
use Rattle.cacheless.specs.Schedule.{is_stopped, has_stopped, turns_by, turns_left, LooksTruly}
use Rattle.cacheless.specs.Types.{Scenario, Entry, Event}
use Rattle.cacheless.specs.declared.check_kind.CheckKind.TheVariants.{Walk, Run}

-- what waits for a backend that is alone waited at its last entry that is no look
abbrev WaitsAlone : List Entry → Type 0
WaitsAlone history = is_waiting history 1 ≡ has_waited history 1

alive_life : (life : Life) (c : ℕ) (some_wait : Bool) → FollowsLife life c (events.Look some_wait) → is_alive life ≡ true
alive_life Unstarted c some_wait follows = absurd follows
alive_life (Alive last) c some_wait follows = refl
alive_life Stopped c some_wait follows = absurd follows

going_life : (life : Life) (c : ℕ) (event : Event) → FollowsLife life c event → is_stopped life ≡ false
going_life Unstarted c event follows = refl
going_life (Alive last) c event follows = refl
going_life Stopped c event follows = absurd follows

-- a look leaves it
look_alone : (history : List Entry) (e : Entry) (some_wait : Bool) → e.event ≡ events.Look some_wait → (e.backend == 1) ≡ true → is_alive (life_of history 1) ≡ true → WaitsAlone history → WaitsAlone (history ++ e ∷ [])
look_alone history e some_wait is own alive same = waits ∙ same ∙ sym (waited_of-look history e 1 some_wait is own)
  where
    lives : is_alive (life_of (history ++ e ∷ []) 1) ≡ is_alive (life_of history 1)
    lives = ap is_alive (life_of-own history e 1 own ∙ ap (life_by e.command) is) ∙ sym alive

    at : position_of (history ++ e ∷ []) 1 ≡ position_of history 1
    at = position_of-own history e 1 own ∙ ap (λ x. position_by history x (position_of history 1)) is

    log : log_of (history ++ e ∷ []) ≡ log_of history
    log = log_of-more history e ∙ ap (λ x. log_by history e.backend x (log_of history)) is

    waits : is_waiting (history ++ e ∷ []) 1 ≡ is_waiting history 1
    waits = λ i. lives i && nat_lt (at i) (length (log i))

-- and so it is after each of its entries
own_alone : (history : List Entry) (e : Entry) (event : Event) → e.event ≡ event → (e.backend == 1) ≡ true → FollowsLife (life_of history 1) e.command event → WaitsAlone history → WaitsAlone (history ++ e ∷ [])
own_alone history e (events.Look some_wait) is own follows same = look_alone history e some_wait is own (alive_life (life_of history 1) e.command some_wait follows) same
own_alone history e event is own follows same = sym (waited_of-own history e 1 own ∙ ap (λ x. waited_by (history ++ e ∷ []) 1 x (has_waited history 1)) is)

-- so its looks are true
looks_alone : (history : List Entry) (b c : ℕ) (event : Event) → b ≡ 1 → WaitsAlone history → AllowsEvent history b c event → LooksTruly history b event
looks_alone history b c (events.Look false) one same allows = subst (λ a. is_waiting history a ≡ false) (sym one) (same ∙ subst (λ a. has_waited history a ≡ false) one allows)
looks_alone history b c event one same allows = tt

-- whose turn it is
turns_alone : (scenario : Scenario) (history : List Entry) → scenario.backends ≡ 1 → scenario.steps ≡ [] → turns_left scenario history ≡ (if not (has_stopped history 1) then 1 ∷ [] else [])
turns_alone scenario history one none = ap (turns_by scenario history) none ∙ ap (λ n. filter (λ b. not (has_stopped history b)) (range_with_len 1 n)) one

-- a history that the script allows is one of a walk
walked_alone : (scenario : Scenario) (history : List Entry) → scenario.backends ≡ 1 → scenario.steps ≡ [] → IsAllowed scenario history → IsWalked scenario history
walked_alone scenario history one none allowed =
    (each-keeps (λ before e. MayFollow before e × IsNext scenario before e) (λ h. WaitsAlone h × IsWalked scenario h) (refl, record { follows = tt; looks = tt }) (λ before e so may. more before e so.0 so.1 may.0 may.1) history
    (EachFrom-both MayFollow (IsNext scenario) [] history (legal_follows history allowed.legal) allowed.plays)).1
  where
    more : (before : List Entry) (e : Entry) → WaitsAlone before → IsWalked scenario before → MayFollow before e → IsNext scenario before e → WaitsAlone (before ++ e ∷ []) × IsWalked scenario (before ++ e ∷ [])
    more before e alone walked follows next = (
      own_alone before e e.event refl (eq-eqb e.backend 1 first) life alone,
      record {
        follows = EachEntry-more (λ h x. slice_get (turns_left scenario h) 0 ≡ Some x.backend) before e walked.follows
            (ap (λ l. slice_get l 0) (turns_alone scenario before one none ∙ ap (λ t. if not t then 1 ∷ [] else []) (going_life (life_of before 1) e.command e.event life)) ∙ ap Some (sym first));
        looks = EachEntry-more (λ h x. LooksTruly h x.backend x.event) before e walked.looks (looks_alone before e.backend e.command e.event first alone follows.event);
      },
    )
      where
        first : e.backend ≡ 1
        first = omega (arith, next.0.0, next.0.1, one)

        life : FollowsLife (life_of before 1) e.command e.event
        life = subst (λ b. FollowsLife (life_of before b) e.command e.event) first follows.life

-- so what `run` may write `walk` may
pub one_backend : (scenario : Scenario) (text : List ℕ) → scenario.backends ≡ 1 → scenario.steps ≡ [] → IsOutput Run scenario text → IsOutput Walk scenario text
one_backend scenario text one none output = record {
  history = output.history;
  allowed = output.allowed;
  interleaved = walked_alone scenario output.history one none output.allowed;
  complete = turns_alone scenario output.history one none ∙ ap (λ t. if not t then 1 ∷ [] else []) (output.complete 1 (omega arith, omega (arith, one)));
  text_is = output.text_is;
}
