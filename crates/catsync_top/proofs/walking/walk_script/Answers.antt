use Rattle.std.proofs.Common.{◌∙◌, refl, subst, arith}
use Rattle.std.specs.List.{All}
use Rattle.edge_io.specs.Taken.{Grows, GrowsByFront}
use Rattle.out_text.specs.Typed.{IsTyped, IsLine}
use Rattle.cacheless.specs.declared.check_kind.CheckKind.TheVariants as kinds
use Rattle.catsync_top.proofs.Written.{has_run}
use Rattle.catsync_top.proofs.walking.walk_script.Goals as goal

pub returns-in-Ok-put_output-clause-done : goal.returns-in-Ok-put_output-clause-done
returns-in-Ok-put_output-clause-done g c =
    let walk = c.in-Ok-walk.ensures.walk in
    λ _. has_run kinds.Walk _ _ _ _ Grows _ _ _ _ _ _ _ c.in-Ok.ensures.bytes (grind arith) c.deref.ensures.value c.in-Ok-read_script.ensures
    (record { history = c.in-Ok-walk.world.entries; allowed = walk.allowed; interleaved = record { follows = walk.follows; looks = walk.looks }; complete = walk.complete; text_is = rw (c.as_slice.ensures, c.as_slice-2.ensures, walk.lines_are) refl })
    walk.noted walk.sound walk.spelled (subst (All IsTyped) c.as_slice.ensures c.put_output.ensures.typed.0) (subst (All IsLine) (c.as_slice-2.ensures ∙ walk.lines_are) c.put_output.ensures.typed.1) c.in-Ok-walk.ensures.sessions walk.lines_are c.in-Ok-walk.ensures.stand c.in-Ok-walk.ensures.coherent c.into_vec.ensures c.in-Ok-put_output.ensures.bytes

pub returns-clause-write_front : goal.returns-clause-write_front
returns-clause-write_front g c =
    let walk = c.in-Ok-walk.ensures.walk in
    λ _. has_run kinds.Walk _ _ _ _ GrowsByFront _ _ _ _ _ _ _ c.in-Ok.ensures.bytes (grind arith) c.deref.ensures.value c.in-Ok-read_script.ensures
    (record { history = c.in-Ok-walk.world.entries; allowed = walk.allowed; interleaved = record { follows = walk.follows; looks = walk.looks }; complete = walk.complete; text_is = rw (c.as_slice.ensures, c.as_slice-2.ensures, walk.lines_are) refl })
    walk.noted walk.sound walk.spelled (subst (All IsTyped) c.as_slice.ensures c.put_output.ensures.typed.0) (subst (All IsLine) (c.as_slice-2.ensures ∙ walk.lines_are) c.put_output.ensures.typed.1) c.in-Ok-walk.ensures.sessions walk.lines_are c.in-Ok-walk.ensures.stand c.in-Ok-walk.ensures.coherent c.into_vec.ensures c.in-Err.ensures.bytes
