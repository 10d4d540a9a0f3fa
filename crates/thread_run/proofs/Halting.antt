-- A backend that was halted at a command may take its last turn, whatever others enter before it.
use Rattle.std.proofs.Common.{◌≡◌, ◌≤◌, ◌∙◌, inl, inr, ℕ, Bool, true, List, [], ◌∷◌, ◌++◌, refl, sym, ap, subst, append_assoc, append-nil, length, take, arith}
use Rattle.base_types.specs.Scenario.{Scenario}
use Rattle.event_kinds.specs.declared.entry.Entry.{Entry}
use Rattle.ddl_effect.specs.Commands.{commands_of}
use Rattle.history_model.proofs.Prefixes.{EachEntry-more}
use Rattle.history_model.proofs.Sound.{sound_is_legal}
use Rattle.turn_table.specs.Histories.{NoneOf}
use Rattle.backend_core.specs.declared.backend.Backend.{Backend}
use Rattle.backend_core.specs.declared.turns.HeldLook.{HeldLook}
use Rattle.backend_core.specs.Agrees.{IsPlayed, AgreesNow, Stands}
use Rattle.backend_core.specs.Apart.{IsHolding}
use Rattle.backend_core.specs.Cuts.{cut, IsCut, IsAlike, EndsBy}
use Rattle.backend_core.specs.Halts.{AwaitsCommand, HasHalted, HaltsWherever}
use Rattle.backend_core.specs.Looks.{entries_of}
use Rattle.backend_core.proofs.Apart.{Stands-others}
use Rattle.backend_core.proofs.Cutting.Parts.{played_cut, ends_by}
use Rattle.backend_core.proofs.Cutting.Scripts.{cut_is}
use Rattle.backend_core.proofs.Cutting.StandsAlike.{Stands-alike}
use Rattle.thread_run.specs.Turns.{backend_of, ComesWherever, IsAtCommand, IsHalting, MayHalt}
use Rattle.thread_run.proofs.Counted.{lines_counted}

-- a backend that is at a command, in a history with which it agreed
pub at_command : (scenario : Scenario) (history : List Entry) (over : Bool) (was at : Backend) → AgreesNow scenario history was → (over ≡ true → AwaitsCommand scenario history was) → IsAtCommand over was at → AwaitsCommand scenario history at × (at.progress.id ≡ was.progress.id)
at_command scenario history over was at agrees command (inl here) = subst (λ s. AwaitsCommand scenario history s × (s.progress.id ≡ was.progress.id)) (sym here.1) (command here.0, refl)
at_command scenario history over was at agrees command (inr comes) = comes scenario history agrees

-- entries of others are of no command of its own
ends_others : (b n : ℕ) (history others : List Entry) → NoneOf backend_of b others → EndsBy b n history → EndsBy b n (history ++ others)
ends_others b n history [] apart ends = subst (EndsBy b n) (sym (append-nil history)) ends
ends_others b n history (e ∷ others) apart ends = subst (EndsBy b n) (append_assoc history (e ∷ []) others)
    (ends_others b n (history ++ e ∷ []) others apart.1 (EachEntry-more (λ before x. x.backend ≡ b → x.command ≤ n) history e ends (λ own. absurd (apart.0 own))))

-- after its turn, by a script that says of it what the whole one says
module _ (whole part : Scenario) (history : List Entry) (at now : Backend) (alike : IsAlike at.progress.id whole part) (awaits : AwaitsCommand part history at) (halts : HaltsWherever at now) where
  abbrev b : ℕ
  b = at.progress.id

  abbrev n : ℕ
  n = at.progress.finished

  halted : HasHalted history (cut b n part) at now
  halted = halts part history awaits (cut b n part) (cut_is b n part)

  ends : EndsBy b n history
  ends = ends_by history b awaits.last n (sound_is_legal history awaits.agrees.tells.played.sound) awaits.alive awaits.before

  -- in each script that ends there it stands in what others have made of the history
  stays : (later short : Scenario) (others : List Entry) → IsAlike b whole later → NoneOf backend_of b others → IsCut b n later short → Stands short (history ++ others) now
  stays later short others says apart is = Stands-alike (cut b n part) short (history ++ others) now
      (record {
        backends = is.backends ∙ says.backends ∙ sym alike.backends;
        commands = subst (λ a. commands_of short a ≡ commands_of (cut b n part) a) (sym halted.id) (is.own ∙ ap (take n) (says.commands ∙ sym alike.commands) ∙ sym (cut_is b n part).own);
      })
      (Stands-others (cut b n part) history others now (subst (λ a. NoneOf backend_of a others) (sym halted.id) apart) halted.stands)

  plays : (later short : Scenario) (others : List Entry) → NoneOf backend_of b others → IsCut b n later short → IsPlayed later (history ++ others) → IsPlayed short (history ++ others)
  plays later short others apart is played = played_cut later short b n is (history ++ others) (ends_others b n history others apart ends) played

  may_last : MayHalt whole b n history [] now
  may_last = record {
    few = omega arith;
    halts = λ later says longer follows played.
        subst (λ (h : List Entry). IsHalting later b n h [] now) (sym follows.grows)
        (record {
          id = halted.id;
          calls = tt;
          after = λ short is. let h = history ++ follows.rest in (
            subst (IsPlayed short) (sym (append-nil h)) (plays later short follows.rest follows.others is (subst (IsPlayed later) follows.grows played)),
            subst (λ (l : List Entry). Stands short l now) (sym (append-nil h)) (stays later short follows.rest says follows.others is),
          );
        });
  }

-- the same by its number, and by how many lines it has
pub may_halt : (whole part : Scenario) (b : ℕ) (history : List Entry) (at now : Backend) → IsAlike b whole part → at.progress.id ≡ b → AwaitsCommand part history at → HaltsWherever at now → MayHalt whole b (length at.lines) history [] now
may_halt whole part b history at now alike id awaits halts =
    subst (λ n. MayHalt whole b n history [] now) (sym (lines_counted part history at awaits.agrees))
    (subst (λ a. MayHalt whole a at.progress.finished history [] now) id (may_last whole part history at now (subst (λ a. IsAlike a whole part) (sym id) alike) awaits halts))

-- after looks that it holds back, once it has gone on to a command
pub halting_after : (scenario : Scenario) (b : ℕ) (history : List Entry) (held : List HeldLook) (was at now : Backend) → IsHolding AgreesNow scenario b history held was → ComesWherever was at → HaltsWherever at now → IsHalting scenario b (length at.lines) history held now
halting_after scenario b history held was at now holds comes halts = record {
  id = (halts scenario after awaits (cut at.progress.id at.progress.finished scenario) (cut_is at.progress.id at.progress.finished scenario)).id ∙ id;
  calls = holds.calls;
  after = λ part is.
      let halted = halts scenario after awaits part (subst (λ a. IsCut a at.progress.finished scenario part) (sym id) (subst (λ n. IsCut b n scenario part) (lines_counted scenario after at awaits.agrees) is)) in
      (halted.played, halted.stands);
}
  where
    after : List Entry
    after = history ++ entries_of b held

    awaits : AwaitsCommand scenario after at
    awaits = (comes scenario after holds.right).0

    id : at.progress.id ≡ b
    id = (comes scenario after holds.right).1 ∙ holds.id
