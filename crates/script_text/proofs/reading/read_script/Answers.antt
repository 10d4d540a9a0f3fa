use Rattle.std.proofs.Common.{◌≡◌, ◌∙◌, ◌∷◌, sym, arith}
use Rattle.script_text.specs.TextLines.{text_lines}
use Rattle.script_text.specs.Grammar.{script_of}
use Rattle.script_text.proofs.LineByLine.{told, stopped, further, ended, from_empty}
use Rattle.script_text.proofs.reading.read_script.Goals as goal

pub lines-init : goal.lines-init
lines-init c = record {
  read = rw c.new-draft.ensures (from_empty c.args.rest c.args.bytes.now);
  places = omega arith;
  numbers = omega arith;
}

pub returns-in-Err : goal.returns-in-Err
returns-in-Err c =
    let left = c.lines.left.now in
    let line = c.split_at.result.0.now in
    let others = c.split_at.result.1.now in
    let first : text_lines left ≡ line ∷ text_lines others = rw (c.split_at.ensures.front, c.split_at.ensures.back) c.line_len.ensures.first in
    rw c.at_line.ensures (told c.args.rest c.lines.draft c.line.new.self c.lines.number c.lines.place left line (text_lines others) c.in-Err.fault (script_of c.args.rest c.args.bytes.now) first c.in-Err.ensures c.lines.invariant.read)

pub returns-then-stops : goal.returns-then-stops
returns-then-stops c =
    let left = c.lines.left.now in
    let line = c.split_at.result.0.now in
    let others = c.split_at.result.1.now in
    let first : text_lines left ≡ line ∷ text_lines others = rw (c.split_at.ensures.front, c.split_at.ensures.back) c.line_len.ensures.first in
    rw (stopped c.args.rest c.lines.draft c.line.new.self c.lines.number c.lines.place left line (text_lines others) (script_of c.args.rest c.args.bytes.now) first c.in_default.ensures (sym c.stops.ensures ∙ c.if-stops.true) c.lines.invariant.read) (rw c.place_after-place.ensures.value at c.finish.ensures)

pub lines-preserved : goal.lines-preserved
lines-preserved c =
    let left = c.lines.left.now in
    let line = c.split_at.result.0.now in
    let others = c.split_at.result.1.now in
    let first : text_lines left ≡ line ∷ text_lines others = rw (c.split_at.ensures.front, c.split_at.ensures.back) c.line_len.ensures.first in
    record {
      read = rw c.place_after-place.ensures.value (further c.args.rest c.lines.draft c.line.new.self c.lines.number c.lines.place left line (text_lines others) (script_of c.args.rest c.args.bytes.now) first c.in_default.ensures (sym c.stops.ensures ∙ c.if-stops.false) c.lines.invariant.read);
      places = omega (arith, c.place_after-place.ensures.most, c.lines.invariant.places, c.split_at.ensures.front_len, c.split_at.ensures.back_len);
      numbers = omega (arith, c.lines.invariant.numbers, c.split_at.ensures.back_len, c.line_len.ensures.some);
    }

pub returns : goal.returns
returns c =
    rw (ended c.args.rest c.lines.draft c.lines.number c.lines.place c.lines.left.now (script_of c.args.rest c.args.bytes.now) (sym c.is_empty.ensures ∙ c.lines-test.false) c.lines.invariant.read) c.finish-2.ensures
