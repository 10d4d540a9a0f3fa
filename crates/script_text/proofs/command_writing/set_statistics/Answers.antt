use Rattle.std.proofs.Common.{◌≡◌, ◌∷◌, [], subst, codes, arith, rules, w32, SFits, to_z, of_z}
use Rattle.std.specs.Prelude.{OnOk}
use Rattle.std.specs.Fmt.{signed_decimal}
use Rattle.std.proofs.lemmas.Int.{to_z-of_z}
use Rattle.script_text.specs.Spelling.{with_pieces}
use Rattle.script_text.proofs.command_writing.set_statistics.Goals as goal

pub returns : goal.returns
returns c =
    let fits : SFits w32 c.args.stat = search rules in
    let read : to_z w32 (of_z w32 c.args.stat) ≡ c.args.stat = grind (arith, to_z-of_z) in
    subst (λ z. OnOk c.signed.result (c.signed.new.out.items ≡ with_pieces c.args.out.now.items (codes "alter table" ∷ c.args.name.now ∷ codes "alter column" ∷ c.args.column.now ∷ codes "set statistics" ∷ signed_decimal z ∷ []))) read
    (rw (c.in_ok-words.ensures, c.in_ok-altered.ensures) at c.signed.ensures)
