use Rattle.std.proofs.Common.{◌≡◌, Some, ◌∙◌, sym, ap, refl, inl, inr}
use Rattle.ddl_effect.specs.declared.want.Want.TheVariants as wants
use Rattle.backend_core.proofs.Choosing.NextActs.{search_next, open_next, open_none, rests_next, write_next, read_none, fails_none, further_lock}
use Rattle.backend_core.proofs.Choosing.Nexting.{done_accepted, whole_of}
use Rattle.backend_core.proofs.Choosing.ByChoice.{by_want, open_lacks, answer_lacks}
use Rattle.backend_core.proofs.backend.Backend.next_of_want.Goals as goal

pub next_of_act-requires : goal.next_of_act-requires
next_of_act-requires c = record { next = search_next c.args.self.now _ c.requires.still c.requires.free c.requires.bare (whole_of _ _ _ c.requires.whole (c.requires.want ∙ c.in-Search.is) refl) _ (c.requires.want ∙ c.in-Search.is) }

pub next_of_act-requires-in-Some : goal.next_of_act-requires-in-Some
next_of_act-requires-in-Some c = record { next = open_next c.args.self.now _ c.requires.still c.requires.free c.requires.bare (whole_of _ _ _ c.requires.whole (c.requires.want ∙ c.in-Open.is) refl) _ _ _ (c.requires.want ∙ c.in-Open.is) (sym c.first_missing.ensures ∙ c.in-Some.is) }

pub unreachable-requires-in-Read : goal.unreachable-requires-in-Read
unreachable-requires-in-Read c = elim c.in-Read.is [
  | inl x ↦ read_none c.args.self.now _ c.requires.still c.requires.free c.requires.bare (whole_of _ _ _ c.requires.whole (c.requires.want ∙ x.1) refl) x.0 (c.requires.want ∙ x.1) c.requires.reads
  | inr x ↦ elim x [ inl y ↦ fails_none c.args.self.now.progress _ c.requires.goes (c.requires.want ∙ y.1) refl | inr y ↦ fails_none c.args.self.now.progress _ c.requires.goes (c.requires.want ∙ y.1) refl ]
]

pub next_of_end-requires-clause-accepted : goal.next_of_end-requires-clause-accepted
next_of_end-requires-clause-accepted c = done_accepted c.args.self.now _ (c.requires.want ∙ c.in-Done.is)

pub returns-in-Lock-clause-next : goal.returns-in-Lock-clause-next
returns-in-Lock-clause-next c =
    further_lock c.args.self.now c.args.command.now c.requires.still c.requires.chosen c.requires.free (whole_of _ _ _ c.requires.whole (c.requires.want ∙ c.in-Lock.is) refl) c.in-Lock.rel c.in-Lock.mode (c.requires.want ∙ c.in-Lock.is)

pub next_of_lookup-requires-clause-want : goal.next_of_lookup-requires-clause-want
next_of_lookup-requires-clause-want c = c.requires.want ∙ c.in-Lookup.is

pub unreachable-requires : goal.unreachable-requires
unreachable-requires c = open_none c.args.self.now _ c.requires.still c.requires.free c.requires.bare (whole_of _ _ _ c.requires.whole (c.requires.want ∙ c.in-Open.is) refl) _ _ (c.requires.want ∙ c.in-Open.is) (sym c.first_missing.ensures ∙ c.in-None.is)

pub next_of_act-requires-in-Done-Some : goal.next_of_act-requires-in-Done-Some
next_of_act-requires-in-Done-Some c =
    let held : c.in-Done-Some.field-0 ≡ Some c.in-Done-Some.scan = (rw c.in-Done-Some.is at c.in-Done-Some.field-0-is) in
    let want = c.requires.want ∙ c.in-Done-Some.is ∙ ap wants.Done held in
    record { next = rests_next c.args.self.now _ c.requires.still c.requires.free c.requires.bare (whole_of _ _ _ c.requires.whole want refl) _ want (sym c.owes_nothing.ensures ∙ c.if-not-owes_nothing.true) }

pub returns-in-Write-clause-next : goal.returns-in-Write-clause-next
returns-in-Write-clause-next c = write_next c.args.self.now c.args.command.now c.requires.still c.requires.free c.requires.bare (whole_of _ _ _ c.requires.whole (c.requires.want ∙ c.in-Write.is) refl) (c.requires.want ∙ c.in-Write.is)

pub returns-in-Lookup-clause-is : goal.returns-in-Lookup-clause-is
returns-in-Lookup-clause-is c = by_want c.args.self.now _ _ _ _ c.in-Lookup.is c.next_of_lookup.ensures.is

pub returns-in-Search-clause-is : goal.returns-in-Search-clause-is
returns-in-Search-clause-is c = by_want c.args.self.now _ _ _ _ c.in-Search.is (ap Some (sym c.next_of_act.ensures.is))

pub returns-in-Some-clause-is : goal.returns-in-Some-clause-is
returns-in-Some-clause-is c = by_want c.args.self.now _ _ _ _ c.in-Open.is (open_lacks c.args.self.now c.args.command.now _ _ _ (sym c.first_missing.ensures ∙ c.in-Some.is) ∙ ap Some (sym c.next_of_act-in-Some.ensures.is))

pub returns-in-Lock-clause-is : goal.returns-in-Lock-clause-is
returns-in-Lock-clause-is c = by_want c.args.self.now _ _ _ _ c.in-Lock.is refl

pub returns-in-Write-clause-is : goal.returns-in-Write-clause-is
returns-in-Write-clause-is c = by_want c.args.self.now _ _ _ _ c.in-Write.is refl

pub returns-in-Done-Some-clause-is : goal.returns-in-Done-Some-clause-is
returns-in-Done-Some-clause-is c =
    let held : c.in-Done-Some.field-0 ≡ Some c.in-Done-Some.scan = (rw c.in-Done-Some.is at c.in-Done-Some.field-0-is) in
    by_want c.args.self.now _ _ _ _ (c.in-Done-Some.is ∙ ap wants.Done held) (answer_lacks c.args.self.now _ _ (sym c.owes_nothing.ensures ∙ c.if-not-owes_nothing.true) ∙ ap Some (sym c.next_of_act-in-Done-Some.ensures.is))
