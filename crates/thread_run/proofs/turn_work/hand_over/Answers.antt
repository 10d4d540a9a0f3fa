use Rattle.std.proofs.Common.{◌∙◌, ◌++◌, refl, ap, arith}
use Rattle.backend_core.specs.Looks.{entries_of}
use Rattle.thread_run.proofs.Played.{renewed_calls, looks_fit, looks_promised, looks_none, looks_left}
use Rattle.thread_run.proofs.turn_work.hand_over.Goals as goal

pub hand_looks-requires-clause-calls : goal.hand_looks-requires-clause-calls
hand_looks-requires-clause-calls g c = renewed_calls c.args.looks.now c.in_ok-renew.ensures.script c.in_ok-renew.ensures.history c.requires.id c.requires.calls

pub hand_looks-requires-clause-places : goal.hand_looks-requires-clause-places
hand_looks-requires-clause-places g c = looks_fit (g.L.Seg.promised c.renew.new.seg) c.requires.id c.requires.few c.in_ok-renew.ensures.room

pub returns-clause-hands : goal.returns-clause-hands
returns-clause-hands g c = c.hand_looks.ensures.history ∙ ap (λ h. h ++ entries_of c.args.backend.now.progress.id c.args.looks.now) c.in_ok-renew.ensures.history ∙ ap (λ n. g.L.Seg.history c.args.seg.now ++ entries_of n c.args.looks.now) c.requires.id

pub returns-clause-room : goal.returns-clause-room
returns-clause-room g c = looks_left c.requires.id c.requires.few c.in_ok-renew.ensures.room c.hand_looks.ensures.places

pub returns-clause-others : goal.returns-clause-others
returns-clause-others g c = λ a apart. c.hand_looks.ensures.places.others a (λ same. apart (same ∙ c.requires.id)) ∙ c.in_ok-renew.ensures.others a apart

pub returns-in_err-renew-clause-most : goal.returns-in_err-renew-clause-most
returns-in_err-renew-clause-most g c = let kept = c.in_err-renew.ensures.kept in omega (arith, kept)

pub returns-clause-most : goal.returns-clause-most
returns-clause-most g c = looks_promised (g.L.Seg.promised c.args.seg.now c.args.b) c.requires.id c.in_ok-renew.ensures.most c.hand_looks.ensures.places

pub returns-in_err-renew-clause-none : goal.returns-in_err-renew-clause-none
returns-in_err-renew-clause-none g c = λ some. let kept = c.in_err-renew.ensures.kept in omega (arith, kept)

pub returns-clause-none : goal.returns-clause-none
returns-clause-none g c = λ some. looks_none (g.L.Seg.promised c.args.seg.now c.args.b) c.requires.id (c.in_ok-renew.ensures.none refl some) c.hand_looks.ensures.places
