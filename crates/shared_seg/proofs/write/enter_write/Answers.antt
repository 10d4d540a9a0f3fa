use Rattle.std.proofs.Common.{◌∙◌, ◌++◌, ◌∷◌, [], None, ap, sym, subst}
use Rattle.event_kinds.specs.declared.entry.Event.TheVariants.{Write}
use Rattle.segment_rows.specs.Words.{DrawsNext, rows_after}
use Rattle.seg_calls.specs.Calls.{entry_of}
use Rattle.std.specs.List.{flat_map}
use Rattle.lock_modes.specs.Excluding.{AreFree}
use Rattle.history_model.specs.Held.{granted_by}
use Rattle.shared_seg.proofs.write.enter_write.Goals as goal

pub returns-clause-rows : goal.returns-clause-rows
returns-clause-rows c = c.in_ok-write.ensures.ok ∙ ap (λ items. rows_after None c.args.c (Write c.args.drawn.xid items) c.args.rows.now) c.deref-2.ensures.value

pub returns-clause-entries : goal.returns-clause-entries
returns-clause-entries c = c.push.ensures.entries ∙ (λ i. c.make_room.ensures.same.entries i ++ entry_of c.args.b c.args.c (Write c.args.drawn.xid (c.from_vec.ensures i)) ∷ [])

pub returns-clause-held : goal.returns-clause-held
returns-clause-held c = c.grant_prepared.ensures.held ∙ (λ i. c.prepare.ensures.held i ++ (c.in_ok-prepare.ensures.ok ∙ c.in_ok-grants.ensures ∙ ap (flat_map (granted_by c.args.b c.args.c)) c.deref.ensures.value) i)

pub prepare-requires : goal.prepare-requires
prepare-requires c = subst (AreFree c.args.locks.now.held) (sym (c.in_ok-grants.ensures ∙ ap (flat_map (granted_by c.args.b c.args.c)) c.deref.ensures.value)) c.requires.free

pub write-requires : goal.write-requires
write-requires c = subst (λ items. DrawsNext c.args.rows.now.next_oid (Write c.args.drawn.xid items)) (sym c.deref-2.ensures.value) c.requires.draws
