use Rattle.edge_io.specs.Taken.{Grows, GrowsByFront}
use Rattle.make_script.specs.Scripts.{made_script}
use Rattle.catsync_top.proofs.Made.{has_made}
use Rattle.catsync_top.proofs.making.write_made.Goals as goal

pub returns-in-Ok-send-clause-made : goal.returns-in-Ok-send-clause-made
returns-in-Ok-send-clause-made g c =
    λ _. has_made c.in-Ok.script (made_script c.args.number) _ _ Grows c.in-Ok-walk.world.entries c.as_slice.result.now c.in-Ok-walk.world.lines c.as_slice-2.result.now c.in-Ok-made_text.text.items c.as_slice-3.result.now
    c.in-Ok.ensures.made c.in-Ok-walk.ensures.walk c.as_slice.ensures c.as_slice-2.ensures c.in-Ok-made_text.ensures.text c.in-Ok-made_text.ensures.back c.as_slice-3.ensures.value c.in-Ok-send.ensures.bytes

pub returns-clause-write_front : goal.returns-clause-write_front
returns-clause-write_front g c =
    λ _. has_made c.in-Ok.script (made_script c.args.number) _ _ GrowsByFront c.in-Ok-walk.world.entries c.as_slice.result.now c.in-Ok-walk.world.lines c.as_slice-2.result.now c.in-Ok-made_text.text.items c.as_slice-3.result.now
    c.in-Ok.ensures.made c.in-Ok-walk.ensures.walk c.as_slice.ensures c.as_slice-2.ensures c.in-Ok-made_text.ensures.text c.in-Ok-made_text.ensures.back c.as_slice-3.ensures.value c.in-Err.ensures.bytes
