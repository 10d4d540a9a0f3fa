use Rattle.std.proofs.Common.{◌<◌, length, arith, refl, rules, subst, ◌∙◌}
use Rattle.std.proofs.lemmas.Result.{err_from_is_err_and}
use Rattle.std.proofs.lemmas.List.Elements.{All-more}
use Rattle.event_kinds.specs.Texts.{ended, entry_text}
use Rattle.out_text.specs.Typed.{IsTyped}
use Rattle.out_text.proofs.Gathered.{none_so_far, one_more, next_not_gathered}
use Rattle.out_text.proofs.entries.gather_entries.Goals as goal

pub loop-entry-init : goal.loop-entry-init
loop-entry-init g c = record { so_far = none_so_far _; steady = refl; typed = search rules }

pub returns-in_err-gather_entry-clause-bytes : goal.returns-in_err-gather_entry-clause-bytes
returns-in_err-gather_entry-clause-bytes g c =
    let failed = err_from_is_err_and c.from_residual.result c.from_residual.ensures.1 in
    let within : c.loop-entry.entry-index < length c.args.history.now = omega arith in
    next_not_gathered (λ entry. ended (entry_text entry)) c.args.history.now c.loop-entry.entry-index _ _ _ _ _ _ c.from_residual.result _ within c.entry-item.is c.loop-entry.invariant.so_far c.in_err-gather_entry.was failed.1 c.gather_entry.ensures.bytes

pub loop-entry-preserved : goal.loop-entry-preserved
loop-entry-preserved g c =
    let within : c.loop-entry.entry-index < length c.args.history.now = omega arith in
    record {
      so_far = one_more (λ entry. ended (entry_text entry)) c.args.history.now c.loop-entry.entry-index _ _ _ _ _ _ within c.entry-item.is c.loop-entry.invariant.so_far c.in_ok-gather_entry.was c.gather_entry.ensures.bytes;
      steady = c.in_ok-gather_entry.ensures.cause.steady ∙ c.loop-entry.invariant.steady;
      typed = All-more IsTyped c.args.history.now c.loop-entry.entry-index _ within c.loop-entry.invariant.typed (subst IsTyped c.entry-item.is c.in_ok-gather_entry.ensures.typed);
    }
