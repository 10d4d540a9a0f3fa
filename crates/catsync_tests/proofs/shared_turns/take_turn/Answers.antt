use Rattle.std.proofs.Common.{◌∙◌, [], sym, ap, append-nil}
use Rattle.catsync_tests.proofs.shared_turns.take_turn.Goals as goal

pub tell-requires-clause-grew : goal.tell-requires-clause-grew
tell-requires-clause-grew g c = record { rest = []; grows = c.promise-places.ensures.history ∙ ap (λ v. v.history) (c.value.ensures.value ∙ c.open-turn.ensures.value) ∙ sym (append-nil c.open-turn.result.opened.value.history); own = tt }

pub close-requires-clause-grew : goal.close-requires-clause-grew
close-requires-clause-grew g c = record {
  rest = [];
  grows = ap (λ v. v.history) c.tell.ensures.kept.0 ∙ c.promise-places.ensures.history ∙ ap (λ v. v.history) (c.value.ensures.value ∙ c.open-turn.ensures.value ∙ sym (ap (λ o. o.value) c.tell.ensures.kept.1)) ∙ sym (append-nil c.tell.new.self.opened.value.history);
  own = tt;
}
