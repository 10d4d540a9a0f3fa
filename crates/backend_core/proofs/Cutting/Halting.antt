-- A backend that is at the beginning of a command stops there.
use Rattle.std.proofs.Common.{◌≡◌, ◌≤◌, ◌<◌, ◌∙◌, ◌+◌, ℕ, zero, suc, Bool, true, false, Some, None, List, [], ◌∷◌, refl, sym, ap, subst, length, take, drop, slice_get, arith}
use Rattle.std.specs.Option.{option_map_or}
use Rattle.std.proofs.lemmas.List.{take_all, length-take-le, take-append-drop}
use Rattle.base_types.specs.Scenario.{IsBackend}
use Rattle.lock_modes.specs.Own.{clear_modes}
use Rattle.ddl_effect.specs.Commands.{commands_of}
use Rattle.ddl_effect.specs.declared.exec.Exec.TheVariants as stages
use Rattle.ddl_effect.specs.declared.told.Told.TheVariants as tells
use Rattle.txn_blocks.specs.Blocks.{Outside, Inside, Failed, Block, Blocks}
use Rattle.history_model.proofs.Prefixes.{EachEntry-prefix}
use Rattle.history_model.proofs.Sound.{sound_is_legal}
use Rattle.cacheless.specs.Facts.{Facts, facts_of}
use Rattle.cacheless.specs.Holds.{Holds}
use Rattle.cacheless.specs.Lines.{line_of, lines_from}
use Rattle.cacheless.specs.Plays.{IsNext, Plays}
use Rattle.cacheless.specs.Protected.{protects}
use Rattle.cacheless.specs.Session.{Session, Finished, is_blocked}
use Rattle.cacheless.specs.Sessions.{session_of}
use Rattle.cacheless.specs.Silently.{is_to_answer}
use Rattle.cacheless.specs.Settled.{settled}
use Rattle.cacheless.specs.State.{Rest, rest_of, session_at, kept_at, is_kept}
use Rattle.cacheless.specs.Suspects.{AreKnown}
use Rattle.cacheless.proofs.Lacking.{with_known}
use Rattle.cacheless.proofs.CommandEnds.{left_none}
use Rattle.cacheless.proofs.Written.Putting.{puts_first}
use Rattle.backend_core.specs.Types.{Command, Frame, Scenario, Entry, Progress, Backend}
use Rattle.backend_core.specs.Agrees.{RunsFit, AwaitsEntry}
use Rattle.backend_core.specs.Cuts.{IsCut, EndsBy}
use Rattle.backend_core.specs.Fits.{Fits}
use Rattle.backend_core.specs.Halts.{begins_at, AwaitsCommand, HaltsWherever}
use Rattle.backend_core.proofs.Cutting.LinesAlike.{ProtectsAlike, lines_alike}
use Rattle.backend_core.proofs.Cutting.Parts.{played_cut, locks_cut, ends_by}
use Rattle.backend_core.proofs.Cutting.Scripts.{slice_get_end}
use Rattle.backend_core.proofs.Stepped.{awaits_stands}

-- the lines of the commands that are finished, by the first commands alone
lines_cut : (scenario : Scenario) (seen : List Entry) (b c n : ℕ) (finished : List Finished) (commands : List Command) → length finished ≤ n → lines_from scenario seen b c finished (take n commands) ≡ lines_from scenario seen b c finished commands
lines_cut scenario seen b c n [] commands few = refl
lines_cut scenario seen b c n (f ∷ finished) [] few = ap (lines_from scenario seen b c (f ∷ finished)) (take_all n [] (omega arith))
lines_cut scenario seen b c zero (f ∷ finished) (command ∷ commands) few = absurd (omega (arith, few))
lines_cut scenario seen b c (suc n) (f ∷ finished) (command ∷ commands) few = ap (λ l. line_of scenario seen b c f command ∷ l) (lines_cut scenario seen b (c + 1) n finished commands (omega (arith, few)))

-- in a part of the script the same fields are protected, at each place of the history
protects_cut : (whole part : Scenario) (b n : ℕ) → IsCut b n whole part → (seen : List Entry) → EndsBy b n seen → Plays whole seen → (j : ℕ) → ProtectsAlike whole part (take j seen) b
protects_cut whole part b n is seen ends plays j rel kind field = locks_cut whole part b n is (take j seen)
    (EachEntry-prefix (λ before e. e.backend ≡ b → e.command ≤ n) (take j seen) (drop j seen) (subst (EndsBy b n) (sym (take-append-drop j seen)) ends))
    (EachEntry-prefix (IsNext whole) (take j seen) (drop j seen) (subst (Plays whole) (sym (take-append-drop j seen)) plays))
    (λ o. protects (option_map_or (λ s. clear_modes s.locks rel) o []) kind field)
    (λ one two same. ap (λ l. protects (clear_modes l rel) kind field) same)

-- after the last command nothing is refused
not_blocked : (blocks : Blocks) → is_blocked blocks None ≡ false
not_blocked blocks = by_block blocks.block
  where
    by_block : (block : Block) → elim block as (λ x. Bool) [ Inside ↦ false | other ↦ false ] ≡ false
    by_block Outside = refl
    by_block Inside = refl
    by_block Failed = refl

-- the first of its commands, and no more
abbrev pub halted : Progress → Progress
halted s = record s { commands = take s.finished s.commands; exec = stages.Done tells.Ok; blocked = false; answer = None }

module _ (scenario : Scenario) (seen : List Entry) (was : Backend) (awaits : AwaitsCommand scenario seen was) (part : Scenario) (is : IsCut was.progress.id was.progress.finished scenario part) where
  abbrev b : ℕ
  b = was.progress.id

  abbrev n : ℕ
  n = was.progress.finished

  abbrev p : Progress
  p = was.progress

  abbrev facts : Facts
  facts = facts_of seen b

  abbrev held : Holds scenario seen p
  held = awaits.agrees.holds

  abbrev now : Progress
  now = halted p

  short : length now.commands ≡ n
  short = length-take-le n p.commands held.most

  none : slice_get now.commands n ≡ None
  none = slice_get_end n p.commands

  abbrev over : Session
  over = begins_at p held.rest None

  abbrev rest : Rest
  rest = rest_of over

  session : session_at now rest ≡ over
  session = λ i. record over {
    blocked = sym (not_blocked p.blocks) i;
    opened = ap (λ s. s.opened) awaits.begins i;
    taken = ap (λ s. s.taken) awaits.begins i;
    ended = ap (λ s. s.ended) awaits.begins i;
    tally = ap (λ s. s.tally) awaits.begins i;
  }

  ends : EndsBy b n seen
  ends = ends_by seen b awaits.last n (sound_is_legal seen awaits.agrees.tells.played.sound) awaits.alive awaits.before

  says : (other : Scenario) → IsBackend other.backends b → commands_of other b ≡ take n p.commands → session_of other seen b ≡ Some (session_at now rest)
  says other number same = awaits.ends other number same ∙ ap Some (sym session)

  -- and in each script that ends later with the same commands
  says_before : (other : Scenario) (m : ℕ) → IsBackend other.backends b → n < m → commands_of other b ≡ take m now.commands → session_of other seen b ≡ Some (settled facts (drop n (take m now.commands)) (session_at now rest))
  says_before other m number less same = says other number (same ∙ whole) ∙ ap (λ l. Some (settled facts l (session_at now rest))) (sym (ap (drop n) whole ∙ left_none now.commands n none))
    where
      whole : take m now.commands ≡ now.commands
      whole = take_all m now.commands (omega (arith, short, less))

  holds : Holds part seen now
  holds = record {
    number = subst (λ m. IsBackend m b) (sym is.backends) held.number;
    commands = ap (take n) held.commands ∙ sym is.own;
    few = omega (arith, short, held.most, held.few);
    most = omega (arith, short);
    rest = rest;
    count = held.count;
    is = says part (subst (λ m. IsBackend m b) (sym is.backends) held.number) (is.own ∙ ap (take n) (sym held.commands)) ∙ ap (λ l. Some (settled facts l (session_at now rest))) (sym (left_none now.commands n none));
    facts = held.facts;
    counts = held.counts;
    order = held.order;
    sought = λ absent. absurd (cc absent);
    puts = puts_first p.opened p.opens p.blocks None;
    pins = held.pins;
  }

  halted_waits : (frames : List Frame) → frames ≡ [] → AwaitsEntry part seen (record was { progress = now; looked = false; frames = frames; told = false })
  unfolding holds
  halted_waits frames bare = record {
    keeps = let k = awaits.agrees.keeps in record {
      alive = k.alive;
      life = record { last = k.life.last; alive = k.life.alive; most = k.life.most };
      absent = λ name says_absent. absurd (cc says_absent);
    };
    rests = record { holds = holds; still = λ command at. absurd (let both : None ≡ Some command = sym none ∙ at in cc both) };
    runs = subst (λ o. RunsFit facts o (session_at now rest)) (sym none) (subst (RunsFit facts None) (sym session) awaits.runs);
    fits = subst (λ l. Fits facts (slice_get now.commands n) (session_at now rest) false l false) (sym bare)
        (subst (λ o. Fits facts o (session_at now rest) false [] false) (sym none)
        (subst (λ x. Fits facts None x false [] false) (sym session) awaits.fits));
    tells = record { answer = λ text command told at. absurd (cc told); out = λ some. absurd (cc some) };
    lines = awaits.agrees.lines
        ∙ sym (lines_cut scenario seen b 1 n held.rest.finished p.commands (omega (arith, held.count)))
        ∙ sym (lines_alike scenario part seen b 1 held.rest.finished (take n p.commands) (protects_cut scenario part b n is seen ends awaits.agrees.tells.played.plays));
    answered = λ asked. absurd (let both : false ≡ true = sym (ap (λ o. elim o as (λ x. Bool) [ Some command ↦ is_to_answer command now | None ↦ false ]) none) ∙ asked in cc both);
    before = says_before;
  }

pub halts : (was : Backend) (commands : List Command) (frames : List Frame) (known : AreKnown (is_kept (kept_at was.progress)) was.progress.opened was.progress.suspects) → commands ≡ take was.progress.finished was.progress.commands → frames ≡ []
    → HaltsWherever was (record was { progress = record was.progress { commands = commands; exec = stages.Done tells.Ok; blocked = false; answer = None; known = known }; looked = false; frames = frames; told = false })
halts was commands frames known same bare = with_known (λ p. HaltsWherever was (record was { progress = p; looked = false; frames = frames; told = false })) (record was.progress { commands = commands; exec = stages.Done tells.Ok; blocked = false; answer = None }) known
    (subst (λ l. HaltsWherever was (record was { progress = record was.progress { commands = l; exec = stages.Done tells.Ok; blocked = false; answer = None }; looked = false; frames = frames; told = false })) (sym same)
    (λ scenario seen awaits part is. record {
      id = refl;
      played = played_cut scenario part was.progress.id was.progress.finished is seen (ends scenario seen was awaits part is) awaits.agrees.tells.played;
      stands = awaits_stands part seen (record was { progress = halted was.progress; looked = false; frames = frames; told = false }) (halted_waits scenario seen was awaits part is frames bare);
    }))
