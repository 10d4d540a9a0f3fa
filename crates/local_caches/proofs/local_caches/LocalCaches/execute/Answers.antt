use Rattle.std.proofs.Common.{◌∙◌, ap, ◌∷◌, [], get_or}
use Rattle.local_caches.specs.Types.{RelName, Message, Cat}
use Rattle.local_caches.specs.Kept.{kept_spared}
use Rattle.local_caches.specs.Caches.{kept_of}
use Rattle.local_caches.proofs.Putting.{spared_more}
use Rattle.local_caches.proofs.local_caches.LocalCaches.execute.Goals as goal

pub loop-message-preserved : goal.loop-message-preserved
loop-message-preserved c =
    let first : Message = Cat RelName 0 in
    record {
      kept = c.execute_one.ensures.kept ∙ ap (kept_spared (get_or c.args.messages.now c.loop-message.message-index first ∷ [])) c.loop-message.invariant.kept
          ∙ spared_more (kept_of c.args.self.now) c.args.messages.now c.loop-message.message-index first c.loop-message-test.true;
      pins = λ rel. c.execute_one.ensures.pins rel ∙ c.loop-message.invariant.pins rel;
    }
