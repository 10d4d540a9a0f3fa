use Rattle.std.proofs.Common.{◌≡◌, sym, subst, rules}
use Rattle.script_text.specs.ReadBack.{IsReadBack}
use Rattle.make_script.specs.Texts.{made_text as text_of_made}
use Rattle.make_script.proofs.Commented.{made_back}
use Rattle.make_script.proofs.text.made_text.Goals as goal

pub returns-clause-back : goal.returns-clause-back
unfolding text_of_made
returns-clause-back c =
    let script = c.args.script.now in
    let same : c.extend_from_slice-2.new.self.items ≡ text_of_made script c.args.history.now c.args.answers.now = search rules in
    subst (IsReadBack script) (sym same) (made_back script c.args.history.now c.args.answers.now (subst (IsReadBack script) c.in_ok-write_script.ensures.text c.in_ok-write_script.ensures.back))
