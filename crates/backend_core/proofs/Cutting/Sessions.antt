-- The session of a backend goes by its own commands alone.
use Rattle.std.proofs.Common.{◌≡◌, ◌∙◌, ◌==◌, ◌+◌, ℕ, Bool, true, false, Option, Some, List, [], ◌∷◌, ◌++◌, refl, sym, ap, length, drop}
use Rattle.std.specs.Prelude.{⊤}
use Rattle.std.specs.Option.{option_map}
use Rattle.event_kinds.specs.declared.entry.Event.TheVariants as events
use Rattle.ddl_effect.specs.Commands.{commands_of}
use Rattle.txn_blocks.specs.Blocks.{no_block}
use Rattle.history_model.specs.Prefixes.{EachFrom}
use Rattle.history_model.proofs.Prefixes.{each-keeps}
use Rattle.cacheless.specs.Facts.{Facts, facts_of}
use Rattle.cacheless.specs.Session.{first_of, none_open, at_command, Session}
use Rattle.cacheless.specs.Sessions.{entered, session_by, session_of}
use Rattle.cacheless.specs.Settled.{settled}
use Rattle.cacheless.proofs.FactsAfter.{facts_by}
use Rattle.cacheless.proofs.Reading.{session_of-own, session_of-other}
use Rattle.backend_core.specs.Types.{Scenario, Entry, Event}

-- an entry of its own leaves the same
session_by-alike : (one two : Scenario) (facts : Facts) (b at c : ℕ) (event : Event) (o : Option Session) → commands_of two b ≡ commands_of one b → session_by two facts b at c event o ≡ session_by one facts b at c event o
session_by-alike one two facts b at c events.Start o same = ap (λ commands. Some (settled facts commands (at_command no_block none_open [] [] at (first_of commands)))) same
session_by-alike one two facts b at c event o same = ap (λ commands. option_map (λ (s : Session). settled facts (drop (length s.finished) commands) (entered facts (drop (length s.finished) commands) at c event s)) o) same

any_from : (before history : List Entry) → EachFrom (λ front e. ⊤) before history
any_from before [] = tt
any_from before (e ∷ rest) = (tt, any_from (before ++ e ∷ []) rest)

-- in two scripts that give it the same commands
pub sessions_alike : (one two : Scenario) (b : ℕ) → commands_of two b ≡ commands_of one b → (history : List Entry) → session_of two history b ≡ session_of one history b
sessions_alike one two b same history = each-keeps (λ before e. ⊤) (λ h. session_of two h b ≡ session_of one h b) refl (λ before e now any. more before e now (e.backend == b) refl) history (any_from [] history)
  where
    more : (before : List Entry) (e : Entry) → session_of two before b ≡ session_of one before b → (t : Bool) → (e.backend == b) ≡ t → session_of two (before ++ e ∷ []) b ≡ session_of one (before ++ e ∷ []) b
    more before e now true own =
        session_of-own two before e b own
        ∙ ap (session_by two (facts_by before b e.command e.event (facts_of before b)) b (length before + 1) e.command e.event) now
        ∙ session_by-alike one two (facts_by before b e.command e.event (facts_of before b)) b (length before + 1) e.command e.event (session_of one before b) same
        ∙ sym (session_of-own one before e b own)
    more before e now false other = session_of-other two before e b other ∙ now ∙ sym (session_of-other one before e b other)
