use Rattle.std.proofs.Common.{arith, ◌+◌, ◌∙◌, sym, ap, subst}
use Rattle.turn_table.specs.Words.{bit, set_word}
use Rattle.turn_table.specs.Passes.{words_of, IsSameTurn}
use Rattle.turn_table.proofs.SameTurn.{same_again}
use Rattle.turn_table.proofs.Telling.{Telling, sets, skips, still_quiet}
use Rattle.turn_table.proofs.turn.Turn.tell.Goals.{then-waits_for, else-waits_for+then-seat-self, else-waits_for+else-seat-self}
use Rattle.turn_table.proofs.turn.Turn.tell.Goals as goal

pub loop-seat-preserved : goal.loop-seat-preserved
loop-seat-preserved g c = let V = g.V.Turned in let i = c.loop-seat.invariant in let o = c.args.self.now in let t = c.loop-seat.self in let t' = c.if-waits_for.self in let k = c.loop-seat.seat in let high = c.loop-seat-test.true in
    let same = i.0 in let telling = i.3 in
    let before = V.history o.opened.value in let after = V.history o.value in
    let now = c.waits_for.ensures ∙ ap (λ v. V.waiting (V.history v) k) same.0 in
    elim c.if-waits_for.branch [
      | then-waits_for w ↦ let e = w.raise.ensures in let is = w.self-is in (
        same_again o t t' same (subst (IsSameTurn t) (sym is) e.kept),
        omega arith,
        omega (arith, high),
        sets V.waiting c.seats-seats.result k 1 before after (words_of t) (words_of t') telling i.1 high (ap (λ x. words_of x) is ∙ e.words) (ap bit (sym w.if-waits_for.true ∙ now)),
      )
      | else-waits_for+then-seat-self w ↦ let e = w.lower.ensures in let is = w.self-is in let own = w.if-seat-self.true in (
        same_again o t t' same (subst (IsSameTurn t) (sym is) e.kept),
        omega arith,
        omega (arith, high),
        sets V.waiting c.seats-seats.result k 0 before after (words_of t) (words_of t') telling i.1 high
            (ap (λ x. words_of x) is ∙ (e.words ∙ ap (λ n. set_word (words_of t) n 0) (sym own))) (ap bit (sym w.if-waits_for.false ∙ now)),
      )
      | else-waits_for+else-seat-self w ↦ let is = w.self-is in let other = w.if-seat-self.false in let quiet = sym now ∙ w.if-waits_for.false in (
        subst (IsSameTurn o) (sym is) same,
        omega arith,
        omega (arith, high),
        subst (λ x. Telling V.waiting c.seats-seats.result (k + 1) before after (words_of x)) (sym is)
            (skips V.waiting c.seats-seats.result k before after (words_of t) telling
            (still_quiet V.waiting V.owner V.stays k o.number before after (λ e. other (sym e ∙ sym same.2)) c.requires.grew quiet ∙ sym quiet)),
      )
    ]
