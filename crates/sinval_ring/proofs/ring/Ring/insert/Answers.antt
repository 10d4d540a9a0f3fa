use Rattle.std.proofs.Common.{◌∙◌, ◌+◌, ◌-◌, ◌≡◌, ◌≤◌, length, length-append, ap, refl, sym, subst, arith}
use Rattle.sinval_ring.specs.Readers.{unmarked}
use Rattle.sinval_ring.specs.Cleanups.{swept}
use Rattle.sinval_ring.specs.Queues.{Queue, reader_of}
use Rattle.sinval_ring.proofs.Sound.{made_room_log, made_room_size}
use Rattle.sinval_ring.proofs.Keeping.{keeps_more, view_more}
use Rattle.sinval_ring.proofs.ring.Ring.insert.Goals as goal

pub returns-clause-lapped : goal.returns-clause-lapped
returns-clause-lapped c = λ b.
    let r = c.self.inside in
    ap (λ (q : Queue). unmarked (reader_of q b)) (view_more r.window r.first.value r.max r.min r.threshold r.readers.items c.append.new.self _ _ c.args.quantum.now c.append.ensures.size c.append.ensures.log refl refl _ c.self.view_is)
    ∙ c.make_room-cleaned.ensures.lapped b ∙ ap (λ n. unmarked (swept n (reader_of c.args.self.now b))) low
  where
    low : length c.args.self.now.log + length c.args.quantum.now - c.args.self.now.size ≡ length c.append.new.self.log - c.append.new.self.size
    low =
        let log = ap (λ (q : Queue). length q.log) (c.self.view_is ∙ c.make_room-cleaned.ensures.queue) ∙ ap length (made_room_log c.args.self.now (length c.args.quantum.now)) in
        let size = ap (λ (q : Queue). q.size) (c.self.view_is ∙ c.make_room-cleaned.ensures.queue) ∙ made_room_size c.args.self.now (length c.args.quantum.now) in
        omega (arith, log, size, c.append.ensures.size, ap length c.append.ensures.log, length-append c.self.inside.window.log c.args.quantum.now)

pub returns-clause-kept : goal.returns-clause-kept
returns-clause-kept c =
    let r = c.self.inside in
    (keeps_more r.window r.first.value r.max r.min r.threshold r.readers.items c.append.new.self _ _ c.args.quantum.now c.append.ensures.size c.append.ensures.log refl refl c.self.invariant
    (subst (λ (q : Queue). length q.log + length c.args.quantum.now ≤ q.least + q.size) (sym c.self.view_is) c.make_room-cleaned.ensures.room)).counts.sound.readers

pub invariant_of-self : goal.invariant_of-self
invariant_of-self c =
    let r = c.self.inside in
    keeps_more r.window r.first.value r.max r.min r.threshold r.readers.items c.append.new.self _ _ c.args.quantum.now c.append.ensures.size c.append.ensures.log refl refl c.self.invariant
    (subst (λ (q : Queue). length q.log + length c.args.quantum.now ≤ q.least + q.size) (sym c.self.view_is) c.make_room-cleaned.ensures.room)
