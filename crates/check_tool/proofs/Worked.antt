-- Worked examples: one backend without commands, and what a check finds of some texts.
use Rattle.std.specs.Fmt.{digits}
use Rattle.std.proofs.Common.{◌≤◌, ◌<◌, ℕ, Some, None, List, [], ◌∷◌, codes, length, refl, arith}
use Rattle.std.proofs.lemmas.List.Elements.{All-from_recursion}
use Rattle.base_types.specs.Scenario.{IsScript}
use Rattle.event_kinds.specs.declared.entry.Event.TheVariants.{Start, Stop}
use Rattle.event_kinds.specs.Entries.{IsEntry, IsLine}
use Rattle.history_model.proofs.Allows.{legal_by}
use Rattle.cacheless.specs.Typed.{IsCountable}
use Rattle.cacheless.specs.declared.check_kind.CheckKind.TheVariants.{Walk}
use Rattle.check_tool.specs.Leading.{Leads}
use Rattle.check_tool.specs.Types.{Scenario, Entry, Event}
use Rattle.check_tool.specs.Verdicts.{IsOutputOf, DiffersAt}
use Rattle.check_tool.specs.Reached.{MayBeReached, HaveReached}
use Rattle.check_tool.proofs.FirstLines.{none_without_end, none_in_lines}
use Rattle.check_tool.proofs.Verdicts.{is_output, differs_at}

abbrev entry : ℕ → ℕ → Event → Entry
entry b c event = record { backend = b; command = c; event = event }

-- backend 1, which has no command and stops at once
abbrev pub idle : Scenario
idle = record { size = 64; from = 0; backends = 1; commands = []; steps = [] }

idle_script : IsScript idle
idle_script = record { size = record { power = 6; is = refl; least = omega arith; most = omega arith }; from = omega arith; backends = (omega arith, omega arith); commands = omega arith; placed = tt; spelled = tt; turns = tt; steps = omega arith }

-- so few bytes can be counted
counted : (text : List ℕ) → length text ≤ 30 → IsCountable text
counted text few = omega (arith, few)

abbrev pub started : List Entry
started = entry 1 0 Start ∷ []

abbrev pub stopped : List Entry
stopped = entry 1 0 Start ∷ entry 1 1 Stop ∷ []

small : (n : ℕ) → n ≤ 1 → n < 4294967296
small n less = omega (arith, less)

started_typed : IsEntry (entry 1 0 Start)
started_typed = record { backend = small 1 (omega arith); command = small 0 (omega arith); event = tt }

stopped_typed : IsEntry (entry 1 1 Stop)
stopped_typed = record { backend = small 1 (omega arith); command = small 1 (omega arith); event = tt }

at_least_1 : 1 ≤ 1
at_least_1 = omega arith

started_walked : MayBeReached Walk idle started
started_walked = record {
  allowed = record { legal = legal_by started refl; queue = (tt, tt); plays = (((at_least_1, at_least_1), tt), tt); economical = (tt, tt) };
  interleaved = record { follows = (refl, tt); looks = (tt, tt) };
}

stopped_walked : MayBeReached Walk idle stopped
stopped_walked = record {
  allowed = record {
    legal = legal_by stopped refl;
    queue = (tt, (tt, tt));
    plays = (((at_least_1, at_least_1), tt), (((at_least_1, at_least_1), (refl, refl)), tt));
    economical = (tt, (tt, tt));
  };
  interleaved = record { follows = (refl, (refl, tt)); looks = (tt, (tt, tt)) };
}

-- ---- the whole output

stopped_leads : Leads (codes "h 1 0 start\nh 1 1 stop\nend\n") stopped (codes "end\n")
unfolding digits
stopped_leads = record { text_is = refl; entries_are = All-from_recursion IsEntry stopped (started_typed, (stopped_typed, tt)); ends = none_in_lines [] }

stopped_far : HaveReached Walk idle stopped 2 None []
stopped_far = record {
  script = idle_script;
  longest = record { within = omega arith; holds = stopped_walked; most = λ less more. absurd (omega (arith, less)) };
  due_is = refl;
  lines_are = λ all. refl;
}

-- it is one, with two entries
pub whole_output : IsOutputOf Walk idle (codes "h 1 0 start\nh 1 1 stop\nend\n") 2
whole_output = is_output Walk idle (codes "h 1 0 start\nh 1 1 stop\nend\n") stopped (codes "end\n") 2 None [] stopped_leads stopped_far (refl, refl) (All-from_recursion IsLine [] tt) refl

blank_leads : Leads (codes "h 1 0 start\nh 1 1 stop\nend\n ") stopped (codes "end\n ")
unfolding digits
blank_leads = record { text_is = refl; entries_are = All-from_recursion IsEntry stopped (started_typed, (stopped_typed, tt)); ends = λ e more is same. absurd cc }

-- a blank after it
pub something_follows : DiffersAt Walk idle (codes "h 1 0 start\nh 1 1 stop\nend\n ") 3
something_follows = differs_at Walk idle (codes "h 1 0 start\nh 1 1 stop\nend\n ") stopped (codes "end\n ") 2 None [] blank_leads stopped_far (counted (codes "h 1 0 start\nh 1 1 stop\nend\n ") (omega arith)) (λ all same. absurd cc)

-- ---- the stop is cut off in its middle

cut_leads : Leads (codes "h 1 0 start\nh 1 1 sto") started (codes "h 1 1 sto")
unfolding digits
cut_leads = record { text_is = refl; entries_are = All-from_recursion IsEntry started (started_typed, tt); ends = none_without_end (codes "h 1 1 sto") 9 refl refl }

started_far : HaveReached Walk idle started 1 (Some 1) []
started_far = record {
  script = idle_script;
  longest = record { within = omega arith; holds = started_walked; most = λ less more. absurd (omega (arith, less)) };
  due_is = refl;
  lines_are = λ all. refl;
}

-- the second entry is missing
pub cut_off : DiffersAt Walk idle (codes "h 1 0 start\nh 1 1 sto") 2
cut_off = differs_at Walk idle (codes "h 1 0 start\nh 1 1 sto") started (codes "h 1 1 sto") 1 (Some 1) [] cut_leads started_far (counted (codes "h 1 0 start\nh 1 1 sto") (omega arith)) (λ all same. let never = all.1 in absurd cc)

-- nothing at all
pub empty_output : DiffersAt Walk idle [] 1
empty_output = differs_at Walk idle [] [] [] 0 (Some 1) [] (record { text_is = refl; entries_are = All-from_recursion IsEntry [] tt; ends = λ e more is same. absurd cc }) (record {
  script = idle_script;
  longest = record { within = omega arith; holds = record { allowed = record { legal = tt; queue = tt; plays = tt; economical = tt }; interleaved = record { follows = tt; looks = tt } }; most = λ less more. absurd (omega (arith, less)) };
  due_is = refl;
  lines_are = λ all. refl;
}) (counted [] (omega arith)) (λ all same. let never = all.1 in absurd cc)
