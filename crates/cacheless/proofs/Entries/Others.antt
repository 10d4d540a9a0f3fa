-- Another backend's entry changes nothing of what the code holds.
use Rattle.std.proofs.Common.{◌≡◌, ◌∙◌, ◌==◌, false, Some, List, [], ◌∷◌, ◌++◌, sym, ap, subst, drop}
use Rattle.std.proofs.lemmas.List.{length_push}
use Rattle.cacheless.specs.Types.{Scenario, Entry}
use Rattle.cacheless.specs.declared.progress.Progress.{Progress}
use Rattle.cacheless.specs.Settled.{settled}
use Rattle.cacheless.specs.State.{session_at}
use Rattle.cacheless.specs.Holds.{FactsFit, CountsFit, Holds, Rests, HasNotStarted}
use Rattle.cacheless.proofs.Reading.{facts_of-other, session_of-other}
use Rattle.cacheless.proofs.Entries.Entering.{counts_stay}

pub holds-other : (scenario : Scenario) (seen : List Entry) (e : Entry) (s : Progress) → (e.backend == s.id) ≡ false → Holds scenario seen s → Holds scenario (seen ++ e ∷ []) s
holds-other scenario seen e s other holds = record {
  number = holds.number;
  commands = holds.commands;
  few = holds.few;
  most = holds.most;
  rest = holds.rest;
  count = holds.count;
  is = session_of-other scenario seen e s.id other ∙ holds.is ∙ ap (λ f. Some (settled f (drop s.finished s.commands) (session_at s holds.rest))) (sym (facts_of-other seen e s.id other));
  facts = subst (λ f. FactsFit f s) (sym (facts_of-other seen e s.id other)) holds.facts;
  counts = subst (CountsFit s.tally) (sym (length_push seen e)) (counts_stay holds.counts);
  order = holds.order;
  sought = holds.sought;
  puts = holds.puts;
  pins = holds.pins;
}

pub rests-other : (scenario : Scenario) (seen : List Entry) (e : Entry) (s : Progress) → (e.backend == s.id) ≡ false → Rests scenario seen s → Rests scenario (seen ++ e ∷ []) s
rests-other scenario seen e s other rests = record { holds = holds-other scenario seen e s other rests.holds; still = rests.still }

pub not_started-other : (scenario : Scenario) (seen : List Entry) (e : Entry) (s : Progress) → (e.backend == s.id) ≡ false → HasNotStarted scenario seen s → HasNotStarted scenario (seen ++ e ∷ []) s
not_started-other scenario seen e s other waits = record { number = waits.number; commands = waits.commands; few = waits.few; new = waits.new; facts = subst (λ f. FactsFit f s) (sym (facts_of-other seen e s.id other)) waits.facts }
