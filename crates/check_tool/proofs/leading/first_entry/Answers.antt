use Rattle.std.proofs.Common.{◌<◌, length, arith}
use Rattle.check_tool.proofs.FirstLines.{none_without_end, none_of_line, first_of_line}
use Rattle.check_tool.proofs.leading.first_entry.Goals as goal

pub returns-then-len-text : goal.returns-then-len-text
returns-then-len-text c = none_without_end c.args.text.now c.line_len-len.result c.line_len-len.ensures.value c.if-len-text.true

pub returns-in-Ok : goal.returns-in-Ok
returns-in-Ok c =
    let short : c.line_len-len.result < length c.args.text.now = omega (arith, c.if-len-text.false, c.line_len-len.ensures.within) in
    first_of_line c.args.text.now c.line_len-len.result c.in-Ok.entry c.line_len-len.ensures.value short c.in-Ok.ensures.ok.0 c.in-Ok.ensures.ok.1

pub returns-in-Err-Bad : goal.returns-in-Err-Bad
returns-in-Err-Bad c = none_of_line c.args.text.now c.line_len-len.result c.line_len-len.ensures.value (c.in-Err-Bad.ensures.bad cc)
