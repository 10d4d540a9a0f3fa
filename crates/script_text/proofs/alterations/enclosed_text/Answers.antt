use Rattle.std.proofs.Common.{◌≡◌, ◌∙◌, ◌∷◌, ◌<◌, ◌≤◌, ◌+◌, ◌-◌, sym, length, arith}
use Rattle.script_text.specs.Commands.{enclosed}
use Rattle.script_text.proofs.ItemByItem.{with_text, as_text_is, unclosed, closed_text, text_ends, text_more, too_long}
use Rattle.script_text.proofs.alterations.enclosed_text.Goals as goal

pub returns-in_err-token : goal.returns-in_err-token
returns-in_err-token c =
    rw c.from_residual.ensures (as_text_is c.args.tokens.now ∙ unclosed c.tokens.text c.tokens.tokens (enclosed c.args.tokens.now) c.in_err-token.ensures.0 c.tokens.invariant.read)

pub returns-then-is : goal.returns-then-is
returns-then-is c =
    let token = c.in_ok-token.token.now in
    let rest = c.next.new.self in
    let whole = enclosed c.args.tokens.now in
    let so_far : with_text c.tokens.text (enclosed (token ∷ rest)) ≡ whole = rw c.in_ok-token.ensures at c.tokens.invariant.read in
    rw (as_text_is c.args.tokens.now) (closed_text whole c.tokens.text rest c.check_text.result (text_ends c.tokens.text token rest whole (sym c.is.ensures ∙ c.if-is.true) so_far) (rw c.as_bytes.ensures.text at c.check_text.ensures))

pub returns-then-token-as_bytes : goal.returns-then-token-as_bytes
returns-then-token-as_bytes c =
    let token = c.in_ok-token.token.now in
    let rest = c.next.new.self in
    let whole = enclosed c.args.tokens.now in
    let so_far : with_text c.tokens.text (enclosed (token ∷ rest)) ≡ whole = rw c.in_ok-token.ensures at c.tokens.invariant.read in
    let long : 63 < length c.tokens.text + length token = let room : 63 - length c.tokens.text < length token = rw c.as_bytes-in-tokens.ensures.text at c.if-token-as_bytes.true in omega arith in
    as_text_is c.args.tokens.now ∙ too_long c.tokens.text token rest whole (sym c.is.ensures ∙ c.if-is.false) long so_far

pub tokens-preserved : goal.tokens-preserved
tokens-preserved c =
    let token = c.in_ok-token.token.now in
    let rest = c.next.new.self in
    let whole = enclosed c.args.tokens.now in
    let so_far : with_text c.tokens.text (enclosed (token ∷ rest)) ≡ whole = rw c.in_ok-token.ensures at c.tokens.invariant.read in
    let room : length token ≤ 63 - length c.tokens.text = rw c.as_bytes-in-tokens.ensures.text at c.if-token-as_bytes.false in
    record {
      read = rw c.push.ensures.text (text_more c.tokens.text token rest whole (sym c.is.ensures ∙ c.if-is.false) so_far);
      short = omega (arith, c.push.ensures.short, c.tokens.invariant.short);
    }
